-- Nothing is answered only where nothing is: on any columns each edge of the object was read then, and none has the field's label. Assumes nothing.
use Prim.Native.Nat.{ℕ, ◌+◌, ◌-◌, ◌≤◌, ◌<◌}
use native.Mathlib.Omega.{arith}
use mathlib.Core.Path.{◌≡◌, refl, sym, ap, ◌∙◌}
use mathlib.Core.Bool.{Bool, true, false, cond, false≢true}
use mathlib.Core.List.{List, [], ◌∷◌}
use lib.Dec.{ltb}
use lib.ListN.{length, get_or}
use Rattle.std.specs.Prelude.{None, Some, Ok, Err}
use borrow.Author.Tests.{ltb-false, eqb-false}
use Rattle.columns.specs.Lists.{◌!◌, all_of, places, first_place}
use Rattle.columns.specs.Columns.{accepts}
use Rattle.columns.specs.Ranks.{front, halve, behind, bisect}
use Rattle.columns.proofs.Every.{Every, every-places}
use Rattle.columns.proofs.Tests.{places_none}
use Rattle.rules.specs.Types.{array_element_label}
use Rattle.rules.specs.Labels.{Coded}
use Rattle.rules.specs.Questions.{Columns}
use Rattle.store.specs.Blocked.{blocked_of, short_back, read_back}
use Rattle.labels.specs.Reading.{coded_of, row_back, code_back, coarse_back}
use Rattle.ask_span.specs.Reading.{ended, span_of}
use Rattle.ask_span.specs.Graph.{graph_of, span_in}
use Rattle.ask_field.specs.Sought.{Sought, stops, stops_at, if_read, decoded, sought_in, sought_target, field_found}
use Rattle.ask_field.proofs.Fields.{sought_field}

-- an edge's label is read, and is another
pub record Another (d : Coded) (l e : ℕ) : Type 0 where
  pub label : ℕ
  pub rest : List ℕ
  pub read : coarse_back d e ≡ label ∷ rest
  pub differs : label ≡ l → ⊥

none_past : (t : ℕ → Bool) (n : ℕ) → n ≤ first_place t n → places t n ≡ []
none_past t n h = go (places t n) (every-places t n) h
  where
    go : (xs : List ℕ) → Every (λ i. (i < n) × (t i ≡ true)) xs → n ≤ get_or xs 0 n → xs ≡ []
    go [] e h = refl
    go (x ∷ xs) e h = absurd (omega (arith, e.0.0))

another : (d : Coded) (l e : ℕ) → stops_at l (coarse_back d e) ≡ false → Another d l e
another d l e h = go (coarse_back d e) refl h
  where
    go : (ls : List ℕ) → coarse_back d e ≡ ls → stops_at l ls ≡ false → Another d l e
    go [] r q = absurd (false≢true (sym q))
    go (a ∷ ls) r q = record { label = a; rest = ls; read = r; differs = eqb-false a l q }

decoded-nothing : (d : Coded) (e n l : ℕ) → decoded d e n l ≡ Ok None → (k : ℕ) → k < n → stops d e l k ≡ false
unfolding decoded
decoded-nothing d e n l h k m = go (ltb j n) refl (coarse_back d (e + j)) h
  where
    j : ℕ
    j = first_place (stops d e l) n

    go : (b : Bool) → ltb j n ≡ b → (ls : List ℕ) → cond b (if_read ls j) (Ok None) ≡ Ok None → stops d e l k ≡ false
    go true t [] q = let z : ◌≡◌ {A = ℕ} 0 1 = cc in absurd (omega arith)
    go true t (a ∷ ls) q = let z : ◌≡◌ {A = ℕ} 0 1 = cc in absurd (omega arith)
    go false t ls q = places_none (stops d e l) n k (none_past (stops d e l) n (ltb-false j n t)) m

-- "`field` gives the first target whose coarse label matches", or nothing: then no edge of the object matches.
pub field-nothing : (c : Columns) (o l : ℕ) → l < array_element_label → field_found c o l ≡ 0 ∷ [] → (k : ℕ) → k < span_in c o ! 2 - span_in c o ! 1 → Another c.labels l (span_in c o ! 1 + k)
unfolding field_found accepts
field-nothing c o l low h k m = go (accepts s) refl (sought_in c.labels e n l) refl h
  where
    s : List ℕ
    s = span_in c o

    e : ℕ
    e = s ! 1

    n : ℕ
    n = s ! 2 - s ! 1

    go : (b : Bool) → accepts s ≡ b → (x : Sought) → sought_in c.labels e n l ≡ x → cond b (sought_target c.targets e o x) s ≡ 0 ∷ [] → Another c.labels l (e + k)
    go true a (Ok (Some i)) x q = let z : ◌≡◌ {A = ℕ} 2 1 = ap length q in absurd (omega arith)
    go true a (Ok None) x q = another c.labels l (e + k) (decoded-nothing c.labels e n l (sought_field c.labels e n l low ∙ x) k m)
    go true a (Err u) x q = let z : ◌≡◌ {A = ℕ} 2 1 = ap length q in absurd (omega arith)
    go false a x y q = absurd (false≢true (sym a ∙ ap accepts q))

-- Columns that no build left: one edge, whose label stands among the fields and is escaped all the same. It reads back, and is found.
abbrev handmade : Columns
handmade = graph_of (blocked_of (0 ∷ []) (0 ∷ 1 ∷ []) [] []) (0 ∷ []) (coded_of (32767 ∷ []) (5 ∷ []) (0 ∷ []) (5 ∷ [])) [] []

pub escaped_found : field_found handmade 0 5 ≡ 0 ∷ 0 ∷ []
unfolding field_found span_of ended accepts read_back short_back all_of sought_in decoded places coarse_back code_back row_back bisect front halve behind
escaped_found = refl

pub escaped_alone : field_found handmade 0 4 ≡ 0 ∷ []
unfolding field_found span_of ended accepts read_back short_back all_of sought_in decoded places coarse_back code_back row_back bisect front halve behind
escaped_alone = refl
