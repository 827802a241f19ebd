-- `build_raw::build_raw` meets its contract: hints change nothing of what a build leaves. Assumes nothing.
use Rattle.build_raw.proofs.build_raw.Goals as goal

-- What a build leaves depends on how long the columns are, and not on what they held.
pub returns : goal.returns
returns c = rw c.mark.auto.short at c.hinted.ensures
