-- `incoming_stages::code` meets its contract. What coding answers decides; a refusal is handed on. Assumes nothing.
use Rattle.std.proofs.Common.{sym, rules}
use lib.Seq.{length-take-le}
use Rattle.incoming_stages.proofs.Laws.{accepts-ok, accepts-err, entries-ok, code_refused, code-done}
use Rattle.incoming_stages.proofs.code.Goals as goal

pub overflow_add-objects : goal.overflow_add-objects
overflow_add-objects c = search (rules, (c.requires (accepts-ok c.in-Ok.is)).long)

pub slice_bounds-code_climbing-end : goal.slice_bounds-code_climbing-end
slice_bounds-code_climbing-end c = sym (length-take-le _ _ (c.requires (accepts-ok c.in-Ok.is)).long)

pub code_climbing-coded-requires : goal.code_climbing-coded-requires
code_climbing-coded-requires c = (c.requires (accepts-ok c.in-Ok.is)).climbing

pub returns : goal.returns
returns c = code-done _ _ _ _ _ _ _ (accepts-ok c.in-Ok.is) (entries-ok c.in-Ok.is) c.with_long.ensures c.code_climbing-coded.ensures

pub returns-in_default : goal.returns-in_default
returns-in_default c = code_refused _ _ _ _ _ _ _ (accepts-err c.in_default.is) c.zero_all.ensures
