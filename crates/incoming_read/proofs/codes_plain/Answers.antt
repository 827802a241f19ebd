-- `incoming_read::codes_plain` meets its contract: the codes of the part, then the fields. Assumes nothing.
use Rattle.std.proofs.Common.{sym, ◌∙◌}
use Rattle.incoming_read.proofs.Passes.{plain-fields, plain_none}
use Rattle.incoming_read.proofs.codes_plain.Goals as goal

pub returns-then-all_plain : goal.returns-then-all_plain
returns-then-all_plain c = plain-fields _ _ _ _ c.requires.1 c.field_limit.ensures (sym c.all_plain.ensures ∙ c.if-all_plain.true) c.all_fields.ensures

pub returns-else-all_plain : goal.returns-else-all_plain
returns-else-all_plain c = c.if-all_plain.false ∙ plain_none _ _ _ _ c.requires.1 c.field_limit.ensures (sym c.all_plain.ensures ∙ c.if-all_plain.false)
