-- `label_fields::fields::write_table` meets its contract: the fields from place k on have their codes. Assumes nothing.
use Rattle.label_fields.proofs.Tabling.{Tabling}
use Rattle.label_fields.proofs.fields.write_table.Given as goal

abbrev pub invariant-loop-k : goal.invariant-loop-k
invariant-loop-k l = Tabling l.names l.fields l.initial.table l.table l.k
