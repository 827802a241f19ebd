-- `check_place_steps::in_order` meets its contract: the parts so far hold no more than the codes up to the end of the last. Assumes nothing.
use Prim.Native.Nat.{◌+◌, ◌≤◌}
use native.Mathlib.Omega.{arith}
use lib.ListN.{length}
use Rattle.check_place_steps.specs.Place.{codes_in}
use Rattle.check_place_steps.proofs.Parts.{part-behind, part-span, parts-end}
use borrow.Author.Rules.{rules}
use Rattle.check_place_steps.proofs.in_order.Goals as goal

pub loop-o-preserved : goal.loop-o-preserved
loop-o-preserved c =
    let inside : c.index-start.result + c.index.result ≤ length c.args.codes.now =
    omega (
      arith,
      part-span c.requires c.loop-o.o (omega arith) c.part_of-part.ensures c.if-part-eq0.false,
      c.index-start.ensures,
      c.index.ensures,
    ) in
    let a = c.args in
    let w = c.loop-o.invariant in (
      search rules,
      inside,
      part-behind a.kinds.now a.classes.now a.lengths.now a.slot_starts.now a.slot_ends.now a.codes.now a.starts.now c.loop-o.o
          c.loop-o.end w.2 c.part_of-part.ensures c.index-start.ensures c.index.ensures (omega arith),
    )

pub returns : goal.returns
returns c = let a = c.args in
    let w = c.loop-o.invariant in
    λ e. parts-end (codes_in a.kinds.now a.classes.now a.lengths.now a.slot_starts.now a.slot_ends.now a.codes.now a.starts.now) a.codes.now (length a.kinds.now) c.loop-o.o c.loop-o.end w.0 (omega arith) w.1 w.2
