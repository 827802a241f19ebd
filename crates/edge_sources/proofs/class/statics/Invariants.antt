-- `edge_sources::class::statics` meets its contract: the references of the first k statics are appended. Assumes nothing.
use Rattle.columns.specs.Lists.{collect}
use Rattle.edge_append.specs.Append.{Appended}
use Rattle.edge_append.specs.Held.{static_from}
use Rattle.edge_sources.proofs.class.statics.Given as goal

abbrev pub invariant-loop-k : goal.invariant-loop-k
invariant-loop-k l = Appended l.ids (collect (static_from l.static_names l.static_types l.static_values l.first) l.k) l.initial.s l.s l.initial.targets l.initial.labels l.initial.weak_to l.targets l.labels l.weak_to
