-- An answer for a field by the short columns that is no refusal is the whole question's, on any columns. Assumes nothing.
use Prim.Native.Nat.{ℕ, zero, suc, ◌+◌, ◌-◌, ◌<◌}
use native.Mathlib.Omega.{arith}
use mathlib.Core.Path.{◌≡◌, refl, sym, ap, ◌∙◌}
use mathlib.Core.Bool.{Bool, true, false, cond, false≢true}
use mathlib.Core.List.{List, [], ◌∷◌}
use lib.Dec.{eqb}
use lib.ListN.{length}
use Rattle.std.specs.Prelude.{None, Some, Ok, Err}
use borrow.Author.Tests.{lt-ltb}
use Rattle.columns.specs.Lists.{◌!◌, all_of, first_place}
use Rattle.columns.specs.Columns.{accepts}
use Rattle.columns.proofs.First.{Searching, searching_start, searching_more, searching_hit}
use Rattle.rules.specs.Types.{array_element_label, is_element}
use Rattle.rules.specs.Labels.{Coded}
use Rattle.rules.specs.Questions.{Columns}
use Rattle.labels.specs.Reading.{coarse_back}
use Rattle.ask_span.specs.Reading.{weak_rows_of}
use Rattle.ask_span.specs.Graph.{span_in}
use Rattle.ask_field.specs.Sought.{Sought, unread, stops, decoded, first_sought, element_at, sought_in, sought_target, field_found, first_weak, or_weak, referent_found}
use Rattle.ask_field.proofs.Placed.{decoded-bad, decoded-end}
use Rattle.ask_short.specs.Lean.{plain_coded, leanly}
use Rattle.ask_short.proofs.Whole.{no_columns, span-whole, coarse-whole, by_span}

-- A walk that reads labels without the escapes, and meets no edge that it cannot read, is the walk that reads them all.
module _ (d : Coded) (e n l : ℕ) where
  hit : {k a : ℕ} {xs : List ℕ} → Searching (stops d e l) n k → k < n → coarse_back d (e + k) ≡ a ∷ xs → eqb a l ≡ true → Ok (Some k) ≡ decoded d e n l
  unfolding decoded
  hit {k} {a} {xs} s h r q =
      let is : first_place (stops d e l) n ≡ k = sym (searching_hit (stops d e l) n s h (rw r q)) in
      rw (is, lt-ltb k n h, r)

  more : {k a : ℕ} {xs : List ℕ} → Searching (stops d e l) n k → k < n → coarse_back d (e + k) ≡ a ∷ xs → eqb a l ≡ false → Searching (stops d e l) n (k + 1)
  more s h r q = searching_more (stops d e l) n s h (rw r q)

module _ (d : Coded) (e n l : ℕ) (good : decoded (plain_coded d) e n l ≡ unread → ⊥) where
  step : (k : ℕ) → k < n → Searching (stops (plain_coded d) e l) n k → Searching (stops d e l) n k
      → (Searching (stops (plain_coded d) e l) n (k + 1) → Searching (stops d e l) n (k + 1) → decoded (plain_coded d) e n l ≡ decoded d e n l) → decoded (plain_coded d) e n l ≡ decoded d e n l
  step k h p w onward = go (coarse_back (plain_coded d) (e + k)) refl
    where
      go : (ls : List ℕ) → coarse_back (plain_coded d) (e + k) ≡ ls → decoded (plain_coded d) e n l ≡ decoded d e n l
      go [] r = absurd (good (sym (decoded-bad (plain_coded d) e n l p h r)))
      go (a ∷ xs) r = which (eqb a l) refl
        where
          whole : coarse_back d (e + k) ≡ a ∷ xs
          whole = sym (coarse-whole d e (e + k) r) ∙ r

          which : (t : Bool) → eqb a l ≡ t → decoded (plain_coded d) e n l ≡ decoded d e n l
          which true q = sym (hit (plain_coded d) e n l p h r q) ∙ hit d e n l w h whole q
          which false q = onward (more (plain_coded d) e n l p h r q) (more d e n l w h whole q)

  walks : (m k : ℕ) → k + m ≡ n → Searching (stops (plain_coded d) e l) n k → Searching (stops d e l) n k → decoded (plain_coded d) e n l ≡ decoded d e n l
  walks zero k z p w = sym (decoded-end (plain_coded d) e n l p (omega arith)) ∙ decoded-end d e n l w (omega arith)
  walks (suc m) k z p w = step k (omega arith) p w (walks m (k + 1) (omega arith))

  decoded-whole : decoded (plain_coded d) e n l ≡ decoded d e n l
  decoded-whole = walks n 0 (omega arith) (searching_start (stops (plain_coded d) e l) n) (searching_start (stops d e l) n)

sought_whole : (d : Coded) (e n l : ℕ) → (sought_in (plain_coded d) e n l ≡ unread → ⊥) → sought_in (plain_coded d) e n l ≡ sought_in d e n l
unfolding sought_in
sought_whole d e n l = go (eqb l array_element_label) (is_element l)
  where
    x : Sought
    x = Ok (first_sought (element_at d e) n)

    go : (a b : Bool) → (cond a x (cond b (Ok None) (decoded (plain_coded d) e n l)) ≡ unread → ⊥) → cond a x (cond b (Ok None) (decoded (plain_coded d) e n l)) ≡ cond a x (cond b (Ok None) (decoded d e n l))
    go true b q = refl
    go false true q = refl
    go false false q = decoded-whole d e n l q

is_found : (ts : List ℕ) (e o : ℕ) (x y : Sought) → ((x ≡ unread → ⊥) → x ≡ y) → accepts (sought_target ts e o x) ≡ true → sought_target ts e o x ≡ sought_target ts e o y
is_found ts e o (Ok (Some k)) y h q = ap (sought_target ts e o) (h (λ r. let z : ◌≡◌ {A = ℕ} 0 1 = cc in absurd (omega arith)))
is_found ts e o (Ok None) y h q = ap (sought_target ts e o) (h (λ r. let z : ◌≡◌ {A = ℕ} 0 1 = cc in absurd (omega arith)))
is_found ts e o (Err u) y h q = absurd (false≢true (sym (no_columns o) ∙ q))

module _ (c : Columns) (o l : ℕ) where
  abbrev at : List ℕ
  at = span_in (leanly c) o

  pub field-whole : accepts (field_found (leanly c) o l) ≡ true → field_found (leanly c) o l ≡ field_found c o l
  unfolding field_found
  field-whole h =
      let a = by_span at (sought_target c.targets (at ! 1) o (sought_in (plain_coded c.labels) (at ! 1) (at ! 2 - at ! 1) l)) h in
      go (accepts at) a h ∙ ap from (span-whole c.offsets (length c.labels.codes) (length c.targets) o a)
    where
      from : List ℕ → List ℕ
      from s = cond (accepts s) (sought_target c.targets (s ! 1) o (sought_in c.labels (s ! 1) (s ! 2 - s ! 1) l)) s

      go : (b : Bool) → b ≡ true → accepts (cond b (sought_target c.targets (at ! 1) o (sought_in (plain_coded c.labels) (at ! 1) (at ! 2 - at ! 1) l)) at) ≡ true
          → cond b (sought_target c.targets (at ! 1) o (sought_in (plain_coded c.labels) (at ! 1) (at ! 2 - at ! 1) l)) at ≡ cond b (sought_target c.targets (at ! 1) o (sought_in c.labels (at ! 1) (at ! 2 - at ! 1) l)) at
      go true e q = is_found c.targets (at ! 1) o (sought_in (plain_coded c.labels) (at ! 1) (at ! 2 - at ! 1) l) (sought_in c.labels (at ! 1) (at ! 2 - at ! 1) l) (sought_whole c.labels (at ! 1) (at ! 2 - at ! 1) l) q
      go false e q = absurd (false≢true e)

  or_reads : (f w : List ℕ) → accepts (or_weak f w) ≡ true → accepts f ≡ true
  unfolding all_of
  or_reads f w h = go (accepts f) refl h
    where
      go : (t : Bool) → accepts f ≡ t → accepts (cond (all_of (t ∷ eqb (length f) 1 ∷ [])) w f) ≡ true → t ≡ true
      go true e q = refl
      go false e q = absurd (false≢true (sym e ∙ q))

  pub referent-whole : accepts (referent_found (leanly c) o l) ≡ true → referent_found (leanly c) o l ≡ referent_found c o l
  unfolding referent_found
  referent-whole h = ap (λ (f : List ℕ). or_weak f w) (field-whole (or_reads (field_found (leanly c) o l) w h))
    where
      w : List ℕ
      w = first_weak (weak_rows_of (length c.offsets.short) c.weak_from c.weak_to o) c.weak_to
