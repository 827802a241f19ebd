-- `incoming_stages::entries` meets its contract: by the two offsets. Assumes nothing.
use mathlib.Core.Path.{◌∙◌}
use Rattle.incoming_stages.specs.Stages.{entries_of}
use Rattle.incoming_stages.proofs.entries.Goals as goal

pub returns : goal.returns
unfolding entries_of
returns c = c.between.ensures ∙ rw (c.at-last.ensures, c.objects.ensures, c.at-first.ensures)
