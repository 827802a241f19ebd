-- Asked the name count, on the columns of an accepted build, or of an accepted `from_parts`: `field` answers nothing, and `referent` the smallest weak target.
-- Assumes nothing.
use Prim.Native.Nat.{ℕ, ◌+◌, ◌^◌, ◌<◌}
use native.Mathlib.Omega.{arith}
use mathlib.Core.Path.{◌≡◌, refl, sym, ap, ap₂, ◌∙◌}
use mathlib.Core.Bool.{Bool, true, false, cond, false≢true}
use mathlib.Core.List.{List, [], ◌∷◌}
use lib.Dec.{eqb, leb}
use lib.ListN.{length, take}
use borrow.Author.Tests.{le-ltb, lt-leb, ne_eqb, leb-true, leb-false}
use Rattle.columns.specs.Lists.{◌!◌, any_of, insert, sort}
use Rattle.columns.proofs.Every.{every-tab}
use Rattle.columns.proofs.Tests.{each_of}
use Rattle.rules.specs.Types.{loader_label, array_element_label, is_element}
use Rattle.rules.specs.Input.{Input, Schema, object_count}
use Rattle.rules.specs.Edges.{Parts, Edge, edges_of, weak_targets, graph}
use Rattle.rules.specs.Needs.{objects_of}
use Rattle.rules.specs.Parts.{degree, is_named}
use Rattle.rules.specs.Questions.{Columns, columns_of, edges_at, weak_in, plainly, coarse, targets_of, field_in, smaller, smallest, or_smallest, referent_in}
use Rattle.rules.proofs.Acceptance.{Passed, names_few}
use Rattle.rules.proofs.Codes.{own_at}
use Rattle.rules.proofs.Laid.{build_meets, objects_are, edges-plain}
use Rattle.rules.proofs.Meets.{Meets}
use Rattle.rules.proofs.Weak.{Sorted, first-smallest}
use Rattle.ask_span.specs.Graph.{strong}
use Rattle.ask_span.proofs.Built.{plainly-same}
use Rattle.ask_span.proofs.FirstEdge.{none_passes}
use Rattle.ask_field.specs.Sought.{field_found, referent_found}
use Rattle.ask_field.proofs.Built.{field-kept, referent-kept, field-built, referent-built}

-- The label of an edge is a name, LOADER or an element: its coarse label is not the name count.
named_other : (names l : ℕ) → names < loader_label → is_named names l ≡ true → eqb (coarse l) names ≡ false
unfolding any_of
named_other names l low h = ne_eqb (coarse l) names (go (is_element l))
  where
    other : l ≡ names → ⊥
    other e = false≢true (sym (ap₂ (λ (a b : Bool). any_of (a ∷ b ∷ [])) (le-ltb l names (omega arith)) (lt-leb loader_label l (omega arith))) ∙ each_of _ h 0)

    go : (b : Bool) → cond b array_element_label l ≡ names → ⊥
    go true e = omega arith
    go false e = other e

-- So no edge of columns that meet PARTS has it.
count_unfound : (names : ℕ) (p : Parts) → Meets names p → names < loader_label → (o : ℕ) → o < objects_of p → field_in (edges_at p o) names ≡ []
unfolding field_in edges_at
count_unfound names p law low o l =
    ap targets_of (none_passes (λ (e : Edge). eqb (coarse e.label) names) (edges_at p o)
    (every-tab (λ (e : Edge). eqb (coarse e.label) names ≡ false) _ (degree p.offsets o)
    (λ k m. named_other names (p.labels ! (p.offsets ! o + k)) low (ap (is_named names) (sym (own_at names p law o k m)) ∙ law.named o k l m))))

-- the smallest of a list is the first of the list sorted
first_inserted : (a : ℕ) (ys : List ℕ) → smaller a (take 1 ys) ≡ take 1 (insert leb a ys)
first_inserted a [] = refl
first_inserted a (b ∷ ys) = go (leb a b) refl
  where
    go : (t : Bool) → leb a b ≡ t → smaller a (b ∷ []) ≡ take 1 (cond t (a ∷ b ∷ ys) (b ∷ insert leb a ys))
    go true e = ap (λ (n : ℕ). n ∷ []) (omega (arith, leb-true a b e))
    go false e = ap (λ (n : ℕ). n ∷ []) (omega (arith, leb-false a b e))

smallest-first : (ws : List ℕ) → smallest ws ≡ take 1 (sort leb ws)
smallest-first [] = refl
smallest-first (a ∷ ws) = ap (smaller a) (smallest-first ws) ∙ first_inserted a (sort leb ws)

-- Columns that meet PARTS, as `from_parts` codes them: names are few, so that their count is below LOADER.
module _ (s : Schema) (p : Parts) (law : Meets s.names p) (few : length p.labels < 2 ^ 64) (low : s.names < loader_label) (o : ℕ) where
  pub field-count-kept : field_found (strong (columns_of s p)) o s.names ≡ plainly (objects_of p) o (0 ∷ [])
  field-count-kept =
      field-kept s p law few o s.names
      ∙ plainly-same (objects_of p) o (0 ∷ field_in (edges_at p o) s.names) (0 ∷ []) (λ l. ap (λ (ts : List ℕ). 0 ∷ ts) (count_unfound s.names p law low o l))

  pub referent-count-kept : length p.weak_from ≡ length p.weak_to → referent_found (columns_of s p) o s.names ≡ plainly (objects_of p) o (0 ∷ take 1 (weak_in p.weak_from p.weak_to o))
  unfolding Sorted
  referent-count-kept even =
      let ws = weak_in p.weak_from p.weak_to o in
      referent-kept s p law few o even s.names
      ∙ plainly-same (objects_of p) o (0 ∷ referent_in (edges_at p o) ws s.names) (0 ∷ take 1 ws)
      (λ l. ap (λ (ts : List ℕ). 0 ∷ or_smallest ts ws) (count_unfound s.names p law low o l) ∙ ap (λ (ts : List ℕ). 0 ∷ ts) (first-smallest p.weak_from p.weak_to o law.weak_sorted))

-- The columns of an accepted build.
module _ (x : Input) (h : Passed x) (o : ℕ) where
  abbrev c : Columns
  c = columns_of x.schema (graph x)

  abbrev n : ℕ
  n = object_count x

  abbrev names : ℕ
  names = x.schema.names

  nothing : o < n → field_in (edges_of x o) names ≡ []
  nothing l =
      ap (λ (es : List Edge). field_in es names) (sym (edges-plain x o l))
      ∙ count_unfound names (graph x) (build_meets x h) (omega (arith, names_few x h.sound)) o (omega (arith, objects_are x))

  -- "Asked the name count itself .. here nothing": of every accepted build.
  pub field-count-built : field_found (strong c) o names ≡ plainly n o (0 ∷ [])
  field-count-built =
      field-built x h o names ∙ plainly-same n o (0 ∷ field_in (edges_of x o) names) (0 ∷ []) (λ l. ap (λ (ts : List ℕ). 0 ∷ ts) (nothing l))

  pub referent-count-built : referent_found c o names ≡ plainly n o (0 ∷ take 1 (sort leb (weak_targets x o)))
  referent-count-built =
      referent-built x h o names
      ∙ plainly-same n o (0 ∷ referent_in (edges_of x o) (weak_targets x o) names) (0 ∷ take 1 (sort leb (weak_targets x o)))
      (λ l. ap (λ (ts : List ℕ). 0 ∷ or_smallest ts (weak_targets x o)) (nothing l) ∙ ap (λ (ts : List ℕ). 0 ∷ ts) (smallest-first (weak_targets x o)))
