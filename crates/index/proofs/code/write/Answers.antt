-- `index::code::write` meets its contract: the codes of the first i ids and the k escapes among them are written. Assumes nothing.
use mathlib.Core.Path.{◌≡◌, refl, sym, ◌∙◌}
use mathlib.Core.List.{List, [], ◌∷◌, map, map-append}
use mathlib.Core.Bool.{true, false}
use Prim.Native.Nat.{ℕ, ◌<◌}
use native.Mathlib.Omega.{arith}
use borrow.Author.Tests.{eq-eqb, ne_eqb}
use lib.ListN.{length}
use Rattle.columns.specs.Lists.{◌!◌, tab, places}
use Rattle.columns.proofs.Lists.{places_row}
use Rattle.columns.proofs.Written.{Written, written_none, written_tab, written_hit, written_miss}
use Rattle.index.specs.Copied.{code_of, is_escape, escapes_to, escape_rows}
use Rattle.index.proofs.code.write.Goals as goal
use Rattle.index.proofs.code.write.Goals.{then-code, else-code}

-- an escape has its row
row : (base : ℕ) (ids : List ℕ) {d₀ d : List ℕ} {code k i : ℕ} → Written (escapes_to base ids i) d₀ d k → i < length ids → code ≡ code_of base (ids ! i) → code ≡ 4294967295 → k < escape_rows base ids
row base ids {k = k} {i = i} w l e h = omega (arith, w.used, (places_row (is_escape base ids) i (length ids) (eq-eqb _ _ (sym e ∙ h)) l).0)

pub loop-i-init : goal.loop-i-init
unfolding tab places
loop-i-init c = (written_none _, written_none _, written_none _)

pub offset_bounds-escape_places-k : goal.offset_bounds-escape_places-k
offset_bounds-escape_places-k c = omega (arith, row c.args.base c.args.ids.now c.loop-i.invariant.1 c.loop-i-test.true c.code_of-code.ensures c.if-code.true)

pub bounds-escape_places-k : goal.bounds-escape_places-k
bounds-escape_places-k c = omega (arith, row c.args.base c.args.ids.now c.loop-i.invariant.1 c.loop-i-test.true c.code_of-code.ensures c.if-code.true)

pub offset_bounds-escape_ids-k : goal.offset_bounds-escape_ids-k
offset_bounds-escape_ids-k c = omega (arith, row c.args.base c.args.ids.now c.loop-i.invariant.1 c.loop-i-test.true c.code_of-code.ensures c.if-code.true)

pub bounds-escape_ids-k : goal.bounds-escape_ids-k
bounds-escape_ids-k c = omega (arith, row c.args.base c.args.ids.now c.loop-i.invariant.1 c.loop-i-test.true c.code_of-code.ensures c.if-code.true)

pub overflow_add-k : goal.overflow_add-k
overflow_add-k c = omega (arith, row c.args.base c.args.ids.now c.loop-i.invariant.1 c.loop-i-test.true c.code_of-code.ensures c.if-code.true)

pub loop-i-preserved : goal.loop-i-preserved
loop-i-preserved c =
    let a = c.args in
    let ids = a.ids.now in
    let at = c.loop-i.i in
    let i = c.loop-i.invariant in
    let codes = written_tab (λ i. code_of a.base (ids ! i)) at _ i.0 (omega arith) c.code_of-code.ensures in
    elim c.if-code.branch [
      | then-code w ↦
          let escapes : is_escape a.base ids at ≡ true = eq-eqb _ _ (sym c.code_of-code.ensures ∙ w.if-code.true) in
          let inside : c.loop-i.k < escape_rows a.base ids = row a.base ids i.1 c.loop-i-test.true c.code_of-code.ensures w.if-code.true in
          rw (w.escape_places-is, w.escape_ids-is, w.k-is) (
            codes,
            written_hit (is_escape a.base ids) (λ xs. xs) at i.1 _ escapes (omega arith) refl,
            written_hit (is_escape a.base ids) (map (λ i. ids ! i)) at i.2 _ escapes (omega arith) (map-append (λ i. ids ! i) (escapes_to a.base ids at) (at ∷ [])),
          )
      | else-code w ↦
          let stays : is_escape a.base ids at ≡ false = ne_eqb _ _ (λ e. w.if-code.false (c.code_of-code.ensures ∙ e)) in
          rw (w.escape_places-is, w.escape_ids-is, w.k-is) (
            codes,
            written_miss (is_escape a.base ids) (λ xs. xs) at i.1 stays,
            written_miss (is_escape a.base ids) (map (λ i. ids ! i)) at i.2 stays,
          )
    ]
