-- `label_codes::count_escapes` meets its contract: rows is the number of escapes among the codes of the first o objects. Assumes nothing.
use mathlib.Core.Path.{◌≡◌, refl, ap, ◌∙◌}
use mathlib.Core.List.{List}
use Prim.Native.Nat.{ℕ, ◌+◌, ◌-◌}
use native.Mathlib.Omega.{arith}
use lib.ListN.{length}
use Rattle.columns.specs.Lists.{◌!◌, part}
use Rattle.labels.specs.Coding.{codes_by, all_by, escapes_in}
use Rattle.labels.proofs.Coded.{laid_next, all_more, all_length, escapes_coded}
use Rattle.labels.proofs.Escapes.{escapes_append, escapes_few}
use Rattle.label_codes.proofs.count_escapes.Goals as goal

pub loop-o-init : goal.loop-o-init
unfolding all_by escapes_in
loop-o-init c = refl

pub offset_bounds-labels-start : goal.offset_bounds-labels-start
offset_bounds-labels-start c = omega (arith, laid_next c.requires.1 c.loop-o.o c.loop-o-test.true)

pub slice_bounds-count_object-end : goal.slice_bounds-count_object-end
slice_bounds-count_object-end c = omega (arith, laid_next c.requires.1 c.loop-o.o c.loop-o-test.true)

more : (names : ℕ) (table offsets labels : List ℕ) (o r n : ℕ) → r ≡ escapes_in (all_by names table offsets labels o) → n ≡ escapes_in (codes_by names table (part labels (offsets ! o) (offsets ! (o + 1))))
    → r + n ≡ escapes_in (all_by names table offsets labels (o + 1))
more names table offsets labels o r n e m = rw (all_more names table offsets labels o, escapes_append, e, m)

pub overflow_add-rows : goal.overflow_add-rows
overflow_add-rows c = let a = c.args in
    let o = c.loop-o.o in
    let all = all_by a.names a.table.now a.offsets.now a.labels.now (o + 1) in
    let next = laid_next c.requires.1 o c.loop-o-test.true in
    omega (
      arith,
      more a.names a.table.now a.offsets.now a.labels.now o _ _ c.loop-o.invariant c.count_object-rows.ensures,
      escapes_few all,
      all_length a.names a.table.now a.offsets.now a.labels.now c.requires.1 (o + 1) (omega arith),
      next.1,
    )

pub loop-o-preserved : goal.loop-o-preserved
loop-o-preserved c = let a = c.args in
    more a.names a.table.now a.offsets.now a.labels.now c.loop-o.o _ _ c.loop-o.invariant c.count_object-rows.ensures

pub returns : goal.returns
returns c = let a = c.args in
    let m = length a.offsets.now - 1 in
    let e : c.loop-o.o ≡ m = omega arith in
    let rows = c.loop-o.invariant ∙ ap (λ (n : ℕ). escapes_in (all_by a.names a.table.now a.offsets.now a.labels.now n)) e in
    record { rows = rows; need = λ fields law. rows ∙ escapes_coded a.names fields a.table.now c.requires.0.few law a.offsets.now a.labels.now m }
