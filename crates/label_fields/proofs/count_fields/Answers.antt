-- `label_fields::count_fields` meets its contract: the marked labels are the listed fields; where they are too many, those that occur are counted. Assumes nothing.
use mathlib.Core.Path.{sym, ap, ◌∙◌}
use Prim.Native.Nat.{min}
use native.Mathlib.Omega.{arith}
use lib.ListN.{length}
use Rattle.label_fields.proofs.Choice.{chosen_listed, chosen_ranked, occurring-count}
use Rattle.labels.proofs.Listed.{first_size}
use Rattle.label_fields.proofs.count_fields.Goals as goal

pub returns-then-listed-le32767 : goal.returns-then-listed-le32767
returns-then-listed-le32767 c = let a = c.args in
    let p = c.requires.0 in
    c.count_marked-listed.ensures ∙ ap length (chosen_listed a.names a.table.now _ a.labels.now p.few p.long c.zero.ensures
    c.mark_named.ensures c.count_marked-listed.ensures c.if-listed-le32767.true)

pub returns : goal.returns
returns c = let a = c.args in
    let p = c.requires.0 in
    let e = occurring-count a.names _ a.labels.now p.few (omega (arith, p.long)) c.zero-2.ensures
    c.mark_slots.ensures c.count_marked.ensures in
    let is = chosen_ranked a.names a.table.now _ a.labels.now p.few p.long c.zero.ensures
    c.mark_named.ensures c.count_marked-listed.ensures c.if-listed-le32767.false in
    c.coded_of.ensures ∙ ap (min 32767) e ∙ sym (first_size 32767 a.names a.labels.now) ∙ ap length (sym is)
