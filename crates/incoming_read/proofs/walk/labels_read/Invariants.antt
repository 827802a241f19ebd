-- `incoming_read::walk::labels_read` meets its contract: `next` is what is expected behind the edges before `edge`, all of which can be read. Assumes nothing.
use Rattle.std.proofs.Common.{◌≡◌, ◌-◌, [], ◌∷◌}
use Rattle.labels.specs.Reading.{coded_in, next_back}
use Rattle.incoming_read.proofs.walk.labels_read.Given as goal

abbrev pub invariant-loop-edge : goal.invariant-loop-edge
invariant-loop-edge l = next_back (coded_in l.labels) l.start (l.edge - l.start) ≡ l.next ∷ []
