-- `index::code::count_escapes` meets its contract: the ids that pass the test are the escapes. Assumes nothing.
use Rattle.std.proofs.Common.{◌≡◌, ◌∙◌, count_by, rules}
use lib.Dec.{eqb}
use Rattle.index.specs.Copied.{code_of, escaped_code}
use Rattle.index.proofs.Counts.{counted_places}
use Rattle.index.proofs.code.count_escapes.Goals as goal

pub returns : goal.returns
returns c =
    let counted : c.count.result ≡ count_by (λ id. eqb (code_of c.args.base id) escaped_code) c.args.ids.now = search rules in
    counted ∙ counted_places (λ id. eqb (code_of c.args.base id) escaped_code) c.args.ids.now
