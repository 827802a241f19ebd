-- `build_copied::build_copied` meets its contract: hints change nothing of what a build leaves. Assumes nothing.
use Rattle.build_copied.proofs.build_copied.Goals as goal

-- What a build leaves depends on how long the columns are, and not on what they held.
pub returns : goal.returns
returns c = rw c.mark.auto.short at c.hinted.ensures
