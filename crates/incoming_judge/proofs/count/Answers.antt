-- `incoming_judge::count` meets its contract: no edge is in doubt, or each was read. Assumes nothing.
use Rattle.std.proofs.Common.{sym, ◌∙◌}
use Rattle.incoming_judge.proofs.Laws.{ordered, coded, targeted, judged_quick, judged_walk}
use Rattle.incoming_judge.proofs.count.Goals as goal

pub tally-stop-requires : goal.tally-stop-requires
tally-stop-requires c = (ordered _ c.requires.counted, targeted _ c.requires.counted, c.requires.working_value)

pub no_doubt-requires : goal.no_doubt-requires
no_doubt-requires c = (ordered _ c.requires.counted, coded _ c.requires.counted)

pub returns-then-no_doubt : goal.returns-then-no_doubt
returns-then-no_doubt c = judged_quick _ c.requires.counted c.tally-stop.ensures (sym c.no_doubt.ensures ∙ c.if-no_doubt.true)

pub returns : goal.returns
returns c = judged_walk _ c.requires.counted c.tally-stop.ensures c.first_unread.ensures
