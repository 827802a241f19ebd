-- `build_rooms::edges_kept` meets its contract. Assumes nothing.
use mathlib.Core.Path.{◌≡◌, refl}
use borrow.Author.Rules.{rules}
use Rattle.std.specs.Prelude.{MatchResult}
use Rattle.columns.specs.Columns.{accepts, kept}
use Rattle.build_rooms.proofs.Tests.{kept_case}
use Rattle.build_rooms.proofs.edges_kept.Goals as goal

pub returns : goal.returns
unfolding kept accepts
returns c =
    let h : MatchResult c.args.v (λ n. c.map_or.result ≡ n.edges) (λ _. c.map_or.result ≡ 0) = search rules in
    kept_case 1 (λ n. n.edges) (λ n. refl) c.args.v c.map_or.result h
