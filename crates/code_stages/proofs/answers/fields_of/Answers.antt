-- `code_stages::answers::fields_of` meets its contract, case by case. Assumes nothing.
use mathlib.Core.Path.{◌≡◌, sym, ◌∙◌}
use Prim.Native.Nat.{ℕ}
use Rattle.std.specs.Prelude.{Result, Ok, Err, MatchResult}
use borrow.Author.Rules.{rules}
use Rattle.columns.specs.Lists.{◌!◌}
use Rattle.columns.specs.Columns.{accepts}
use Rattle.rules.specs.declared.Counts.{Counts}
use Rattle.rules.specs.declared.Refusal.{Refusal}
use Rattle.rules.specs.Types.{built_says}
use Rattle.code_stages.specs.Settling.{used_to}
use Rattle.code_stages.proofs.Laws.{used_none}
use Rattle.code_stages.proofs.answers.fields_of.Goals as goal

by_case : (b : Result Counts Refusal) (n : ℕ) → MatchResult b (λ c. n ≡ c.fields) (λ _. n ≡ 0) → n ≡ used_to (built_says b) (built_says b ! 5)
unfolding accepts
by_case (Ok c) n h = h
by_case (Err e) n h = h ∙ sym (used_none e _)

pub returns : goal.returns
returns c =
    let h : MatchResult c.args.b (λ k. c.map_or.result ≡ k.fields) (λ _. c.map_or.result ≡ 0) = search rules in
    by_case c.args.b c.map_or.result h
