-- `ask_edge::with_edge` meets its contract: at each return the tests that led there say which case of `edge_asked` holds. Assumes nothing.
use mathlib.Core.Path.{sym, ap, ◌∙◌}
use Rattle.std.proofs.lemmas.Result.{err_from_is_err_and}
use Rattle.rules.specs.Types.{span_says}
use Rattle.rules.proofs.Types.{read_refuses}
use Rattle.ask_edge.specs.Edge.{edge_asked}
use Rattle.ask_edge.proofs.Asked.{not_asked, no_edge, none_at_all, has_edge}
use Rattle.ask_edge.proofs.with_edge.Goals as goal

pub returns-in_err-start : goal.returns-in_err-start
returns-in_err-start c = let p = err_from_is_err_and c.from_residual.result c.from_residual.ensures.1 in
    rw (p.1, p.2, c.in_err-start.was) (sym (not_asked _ c.args.edge (read_refuses c.in_err-start.field-0.0)))

pub returns-then-end-start : goal.returns-then-end-start
returns-then-end-start c = sym (ap (λ s. edge_asked (span_says s) c.args.edge) c.in_ok-start.was ∙ none_at_all _ _ _ c.if-end-start.true)

pub returns-then-end-start-2 : goal.returns-then-end-start-2
returns-then-end-start-2 c = sym (ap (λ s. edge_asked (span_says s) c.args.edge) c.in_ok-start.was ∙ no_edge _ _ _ c.if-end-start-2.true)

pub returns : goal.returns
returns c = sym (ap (λ s. edge_asked (span_says s) c.args.edge) c.in_ok-start.was ∙ has_edge _ _ _ c.if-end-start-2.false)
