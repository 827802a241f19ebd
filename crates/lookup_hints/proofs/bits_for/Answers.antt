-- `lookup_hints::bits_for` meets its contract: its tests are the definition's bounds. Assumes nothing.
use Rattle.lookup_hints.proofs.Scales.{bits_few, bits_most, bits_between}
use Rattle.lookup_hints.proofs.bits_for.Goals as goal

pub returns-then-room-lt4 : goal.returns-then-room-lt4
returns-then-room-lt4 c = bits_few _ c.if-room-lt4.true

pub returns-then-bits-gt16 : goal.returns-then-bits-gt16
returns-then-bits-gt16 c = bits_most _ c.bits_of-bits.ensures c.if-bits-gt16.true

pub returns : goal.returns
returns c = bits_between c.args.room c.bits_of-bits.ensures c.if-room-lt4.false c.ranges.room.fits c.if-bits-gt16.false
