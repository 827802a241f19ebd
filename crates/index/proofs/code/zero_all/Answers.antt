-- `index::code::zero_all` meets its contract: each column is cleared from its front on. Assumes nothing.
use mathlib.Core.Path.{◌∙◌}
use Rattle.columns.proofs.Written.{cleared_all}
use Rattle.index.proofs.code.zero_all.Goals as goal

pub returns : goal.returns
returns c = record {
  codes = c.zero.ensures ∙ cleared_all _;
  places = c.zero-2.ensures ∙ cleared_all _;
  escaped = c.zero-3.ensures ∙ cleared_all _;
}
