-- The fields that have codes: listed ones where they are few, else the first of the ranking; named all of them, and how many. Assumes nothing.
use Prim.Native.Nat.{ℕ, zero, suc, ◌≤◌, ◌<◌, min}
use native.Mathlib.Omega.{arith}
use mathlib.Core.Path.{◌≡◌, refl, ap, ◌∙◌}
use mathlib.Core.Logic.{⊎_elim}
use mathlib.Core.Bool.{Bool, cond}
use mathlib.Core.List.{List, [], ◌∷◌}
use lib.ListN.{length, take, length-take}
use borrow.Author.Tests.{le-leb, lt-leb}
use Rattle.columns.proofs.Lists.{lt_or_ge}
use Rattle.columns.proofs.Every.{Every, every-at, every-sort}
use Rattle.columns.proofs.Sums.{length-sort}
use Rattle.rules.specs.Types.{loader_label}
use Rattle.rules.specs.Input.{Schema, class_count}
use Rattle.rules.specs.Labels.{named, occurring, listed, ranked, fields_of}
use Rattle.labels.specs.Coding.{table_place}
use Rattle.labels.specs.Fields.{Named, naming, named_by, first_ranked, first}
use Rattle.labels.proofs.Table.{slot_loader, slot_name}
use Rattle.labels.proofs.Occurring.{every-occurring}

-- the columns of a schema name what the schema names
pub named_by_lem : (s : Schema)
    → named s ≡ named_by (naming s.classes.slot_start s.classes.slot_end s.classes.static_start s.classes.static_end s.slots.labels s.statics.names s.statics.types) (class_count s)
unfolding named named_by
named_by_lem s = refl

-- "Up to 32,767 fields, `LOADER` counted, all have codes. With more, .. the first 32,767 get codes."
module _ (names : ℕ) (ns labels : List ℕ) where
  pub fields-listed : length (listed names ns) ≤ 32767 → fields_of names ns labels ≡ listed names ns
  unfolding fields_of
  fields-listed h = ap (λ (b : Bool). cond b (listed names ns) (take 32767 (ranked names labels))) (le-leb (length (listed names ns)) 32767 h)

  pub fields-ranked : 32767 < length (listed names ns) → fields_of names ns labels ≡ first names labels
  unfolding fields_of first_ranked
  fields-ranked h = ap (λ (b : Bool). cond b (listed names ns) (take 32767 (ranked names labels))) (lt-leb (length (listed names ns)) 32767 h)

-- how many the first k of the ranking are
pub first_size : (k names : ℕ) (labels : List ℕ) → length (first_ranked k names labels) ≡ min k (length (occurring names labels))
unfolding first_ranked ranked
first_size k names labels = length-take k (ranked names labels) ∙ ap (min k) (length-sort _ (occurring names labels))

-- each of them is a name or the loader
every_take : (P : ℕ → Type 0) (k : ℕ) (xs : List ℕ) → Every P xs → Every P (take k xs)
every_take P zero xs e = tt
every_take P (suc k) [] e = tt
every_take P (suc k) (a ∷ xs) e = (e.0, every_take P k xs e.1)

module _ (names : ℕ) (few : names ≤ loader_label) where
  abbrev Placed : ℕ → Type 0
  Placed l = table_place names l ≤ names

  placed : (ls : List ℕ) → Every Placed (occurring names ls)
  placed ls = every-occurring names ls few Placed (omega (arith, slot_loader names)) (λ l h. omega (arith, slot_name names l few h))

  pub listed-named : (ns : List ℕ) → Named names (listed names ns)
  unfolding listed
  listed-named ns = every-at Placed 0 (listed names ns) (placed (loader_label ∷ ns))

  pub first-named : (k : ℕ) (labels : List ℕ) → Named names (first_ranked k names labels)
  unfolding first_ranked ranked
  first-named k labels = every-at Placed 0 (first_ranked k names labels) (every_take Placed k (ranked names labels) (every-sort Placed _ (occurring names labels) (placed labels)))

  pub fields-named : (ns labels : List ℕ) → Named names (fields_of names ns labels)
  fields-named ns labels =
      ⊎_elim
      (λ h. rw (fields-ranked names ns labels h) (first-named 32767 labels))
      (λ h. rw (fields-listed names ns labels h) (listed-named ns))
      (lt_or_ge 32767 (length (listed names ns)))

pub fields_few : (names : ℕ) (ns labels : List ℕ) → length (fields_of names ns labels) ≤ 32767
fields_few names ns labels =
    ⊎_elim
    (λ h. rw (fields-ranked names ns labels h) (omega (arith, first_size 32767 names labels)))
    (λ h. rw (fields-listed names ns labels h) h)
    (lt_or_ge 32767 (length (listed names ns)))
