-- `check_tables::found::first_compared` meets its contract: no class before this one is found at fault. Assumes nothing.
use mathlib.Core.Path.{◌≡◌, sym, ap, ◌∙◌}
use Prim.Native.Nat.{ℕ}
use Rattle.columns.proofs.First.{searching_start, searching_more, searching_hit}
use Rattle.check_tables.proofs.Laws.{searching_over}
use Rattle.rules.specs.Verdict.{bad_find}
use Rattle.check_tables.specs.Found.{find_columns, find_fault}
use Rattle.check_tables.proofs.Marks.{find_fault_lem}
use Rattle.check_tables.proofs.found.first_compared.Goals as goal

pub loop-class-init : goal.loop-class-init
loop-class-init c = searching_start _ _

pub returns-then-find_fault : goal.returns-then-find_fault
returns-then-find_fault c =
    let bad : let a = c.args in bad_find (find_columns a.ids.now a.kinds.now a.class_ids.now a.dumped.now) c.loop-class.class ≡ c.find_fault.result =
    let a = c.args in
    let x = find_columns a.ids.now a.kinds.now a.class_ids.now a.dumped.now in
    find_fault_lem x c.loop-class.class ∙ sym (c.find_fault.ensures ∙ ap (λ (o : ℕ). find_fault x o c.loop-class.class) c.place_for-o.ensures) in
    searching_hit _ _ c.loop-class.invariant c.loop-class-test.true (bad ∙ c.if-find_fault.true)

pub loop-class-preserved : goal.loop-class-preserved
loop-class-preserved c =
    let bad : let a = c.args in bad_find (find_columns a.ids.now a.kinds.now a.class_ids.now a.dumped.now) c.loop-class.class ≡ c.find_fault.result =
    let a = c.args in
    let x = find_columns a.ids.now a.kinds.now a.class_ids.now a.dumped.now in
    find_fault_lem x c.loop-class.class ∙ sym (c.find_fault.ensures ∙ ap (λ (o : ℕ). find_fault x o c.loop-class.class) c.place_for-o.ensures) in
    searching_more _ _ c.loop-class.invariant c.loop-class-test.true (bad ∙ c.if-find_fault.false)

pub returns : goal.returns
returns c = searching_over c.loop-class.invariant c.loop-class-test.false
