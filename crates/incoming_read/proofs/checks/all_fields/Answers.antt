-- `incoming_read::checks::all_fields` meets its contract: no field has an element's label. Assumes nothing.
use Rattle.std.proofs.Common.{rules}
use Rattle.incoming_read.proofs.Passes.{fields_each}
use Rattle.incoming_read.proofs.checks.all_fields.Goals as goal

pub returns : goal.returns
returns c = fields_each c.args.fields.now (search rules)
