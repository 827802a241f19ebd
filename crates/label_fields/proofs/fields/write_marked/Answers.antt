-- `label_fields::fields::write_marked` meets its contract: the labels of the k marked places below i are written. Assumes nothing.
use mathlib.Core.Path.{◌≡◌, sym, ap, ◌∙◌}
use mathlib.Core.Bool.{true}
use mathlib.Core.List.{List, [], ◌∷◌, ◌++◌, map, map-append}
use Prim.Native.Nat.{ℕ, ◌+◌, ◌<◌}
use native.Mathlib.Omega.{arith}
use borrow.Author.Tests.{eq-eqb, ne_eqb}
use lib.ListN.{length, take, length-map, length-take}
use lib.Seq.{get_or-take}
use Rattle.columns.specs.Lists.{◌!◌, places}
use Rattle.columns.proofs.Lists.{places_row}
use Rattle.columns.proofs.Written.{Written, written_none, written_hit, written_miss, written_end}
use Rattle.labels.specs.Fields.{table_label}
use Rattle.label_fields.specs.Marks.{is_marked, marked_labels}
use Rattle.label_fields.proofs.fields.write_marked.Goals as goal
use Rattle.label_fields.proofs.fields.write_marked.Goals.{then-mark-eq1, else-mark-eq1}

pub loop-i-init : goal.loop-i-init
unfolding places
loop-i-init c = written_none _

-- a mark has a row among all of them
row : (names : ℕ) (table : List ℕ) {d₀ d : List ℕ} {i k : ℕ} → Written (map (table_label names) (places (is_marked table) i)) d₀ d k → is_marked table i ≡ true → i < names + 1
    → k < length (marked_labels names table)
unfolding marked_labels
row names table {i = i} w h l = let t = is_marked table in
    omega (arith, w.used, length-map (places t i) (table_label names), length-map (places t (names + 1)) (table_label names), (places_row t i (names + 1) h l).0)

within : {i n : ℕ} (xs : List ℕ) → i < length (take n xs) → i < n
within {n = n} xs l = omega (arith, length-take n xs)

-- what the loop reads is the mark at i
read : {i v : ℕ} (n : ℕ) (xs : List ℕ) → i < length (take n xs) → take n xs ! i ≡ v → xs ! i ≡ v
read {i} n xs l e = sym (get_or-take n xs i 0 (within xs l)) ∙ e

pub offset_bounds-fields-k : goal.offset_bounds-fields-k
offset_bounds-fields-k c = let a = c.args in
    omega (arith, row a.names a.table.now c.loop-i.invariant (eq-eqb _ _ (read _ a.table.now c.loop-i-test.true c.if-mark-eq1.true)) (within _ c.loop-i-test.true), c.requires.1)

pub bounds-fields-k : goal.bounds-fields-k
bounds-fields-k c = let a = c.args in
    omega (arith, row a.names a.table.now c.loop-i.invariant (eq-eqb _ _ (read _ a.table.now c.loop-i-test.true c.if-mark-eq1.true)) (within _ c.loop-i-test.true), c.requires.1)

pub overflow_add-k : goal.overflow_add-k
overflow_add-k c = let a = c.args in
    omega (arith, row a.names a.table.now c.loop-i.invariant (eq-eqb _ _ (read _ a.table.now c.loop-i-test.true c.if-mark-eq1.true)) (within _ c.loop-i-test.true), c.requires.1)

pub loop-i-preserved : goal.loop-i-preserved
loop-i-preserved c = let a = c.args in
    let t = is_marked a.table.now in
    let f = table_label a.names in
    let i = c.loop-i.i in
    let v = c.loop-i.invariant in
    elim c.if-mark-eq1.branch [
      | then-mark-eq1 w ↦
          let h : t i ≡ true = eq-eqb _ _ (read _ a.table.now c.loop-i-test.true w.if-mark-eq1.true) in
          let e = map-append f (places t i) (i ∷ []) ∙ ap (λ (n : ℕ). map f (places t i) ++ (n ∷ [])) (sym w.label_at.ensures) in
          let r = row a.names a.table.now v h (within _ c.loop-i-test.true) in
          rw (w.k-is, w.fields-is) (written_hit t (map f) i v _ h (omega (arith, r, c.requires.1)) e)
      | else-mark-eq1 w ↦ rw (w.k-is, w.fields-is) (written_miss t (map f) i v (ne_eqb _ _ (λ e. w.if-mark-eq1.false (get_or-take _ a.table.now i 0 (within _ c.loop-i-test.true) ∙ e))))
    ]

pub returns : goal.returns
unfolding marked_labels
returns c = let a = c.args in
    let e : c.loop-i.i ≡ a.names + 1 = omega (arith, length-take (a.names + 1) a.table.now) in
    written_end (λ n. map (table_label a.names) (places (is_marked a.table.now) n)) (a.names + 1) c.loop-i.invariant e
