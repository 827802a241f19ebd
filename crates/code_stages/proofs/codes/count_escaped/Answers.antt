-- `code_stages::codes::count_escaped` meets its contract: the escaped codes are counted place by place. Assumes nothing.
use mathlib.Core.Path.{◌≡◌, ◌∙◌}
use lib.ListN.{take}
use borrow.Author.Rules.{rules}
use Rattle.std.specs.List.{count_by}
use Rattle.rules.specs.Labels.{is_escaped}
use Rattle.labels.specs.Coding.{escaped_to}
use Rattle.labels.proofs.Counted.{count-places}
use Rattle.code_stages.proofs.codes.count_escaped.Goals as goal

pub returns : goal.returns
unfolding escaped_to
returns c = let a = c.args in
    let counted : c.count.result ≡ count_by is_escaped (take a.n a.edge_codes.now) = search rules in
    counted ∙ count-places is_escaped a.edge_codes.now a.n c.requires
