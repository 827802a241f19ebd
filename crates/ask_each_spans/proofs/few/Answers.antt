-- `ask_each_spans::few` meets its contract: two short offsets of one block say how many, and every doubt tells nothing. Assumes nothing.
use Rattle.std.proofs.Common.{◌+◌, arith}
use Rattle.ask_each_spans.proofs.few.Goals as goal

pub bounds-short-next : goal.bounds-short-next
bounds-short-next c = c.requires.0.placed (c.args.object + 1) c.if-known-next.false

pub bounds-short-at : goal.bounds-short-at
bounds-short-at c = omega (arith, c.requires.0.placed (c.args.object + 1) c.if-known-next.false)

pub bounds-bases-at : goal.bounds-bases-at
bounds-bases-at c = c.requires.0.based c.args.object (omega (arith, c.if-known-next.false))

pub returns : goal.returns
returns c = let o = c.args.object in (
  omega (arith, c.if-count-gt254.false),
  record {
    placed = c.requires.0.placed (o + 1) c.if-known-next.false;
    based = c.requires.0.based o (omega (arith, c.if-known-next.false));
    inner = c.if-next-eq0.false;
    is_short = omega (arith, c.from-last.ensures, c.if-last-gt65534.false);
    counted = omega (arith, c.from-last.ensures, c.from.ensures, c.wrapping_sub_u32-count.ensures, c.if-count-gt254.false, c.type_inv.short o);
    limited = omega (arith, c.from-last.ensures, c.from-2.ensures, c.if-limit-base-2.false);
  },
)
