-- `incoming_read::walk::labels_read` meets its contract: `next` is what is expected behind the edges before `edge`, all of which can be read. Assumes nothing.
use Rattle.std.proofs.Common.{ℕ, ◌∷◌, [], sym, ap, ◌∙◌, arith}
use native.Mathlib.Nat.{sub_self}
use Rattle.labels.specs.Reading.{next_back}
use Rattle.incoming_read.proofs.Walked.{walk_more, walk_stops, walk_ends}
use Rattle.incoming_read.proofs.walk.labels_read.Goals as goal

pub loop-edge-init : goal.loop-edge-init
unfolding next_back
loop-edge-init c = rw (sub_self c.args.start)

pub loop-edge-preserved : goal.loop-edge-preserved
loop-edge-preserved c = walk_more _ _ c.loop-edge.auto.edge c.loop-edge.invariant (sym c.in-Ok.ensures) ∙ ap (λ (n : ℕ). n ∷ []) (sym c.after-next.ensures)

pub returns-in_default : goal.returns-in_default
returns-in_default c = walk_stops _ _ c.loop-edge.auto.edge c.loop-edge.invariant c.loop-edge-test.true (sym c.in_default.ensures)

pub returns : goal.returns
returns c = walk_ends _ _ c.loop-edge.auto.edge c.loop-edge.invariant (omega arith)
