-- `store::code::zero_all` meets its contract: each column is cleared from its front on. Assumes nothing.
use mathlib.Core.Path.{◌∙◌}
use Rattle.columns.proofs.Written.{cleared_all}
use Rattle.store.proofs.code.zero_all.Goals as goal

pub returns : goal.returns
returns c = record {
  bases = c.zero.ensures ∙ cleared_all _;
  short = c.zero-2.ensures ∙ cleared_all _;
  long_at = c.zero-3.ensures ∙ cleared_all _;
  long_value = c.zero-4.ensures ∙ cleared_all _;
}
