-- `incoming_read::object::targets_are_objects` meets its contract. Assumes nothing.
use Rattle.std.proofs.Common.{rules}
use Rattle.incoming_read.proofs.Passes.{objects_each}
use Rattle.incoming_read.proofs.object.targets_are_objects.Goals as goal

pub returns : goal.returns
returns c = objects_each c.args.objects c.args.targets.now c.args.start c.args.end c.requires.1 (search rules)
