-- The single question by an object's codes: where they leave no doubt, it is the whole question's answer. Assumes nothing.
use Prim.Native.Nat.{ℕ, ◌+◌, ◌-◌, ◌<◌}
use native.Mathlib.Omega.{arith}
use mathlib.Core.Path.{◌≡◌, sym, ap, ◌∙◌}
use mathlib.Core.Bool.{true, false≢true}
use mathlib.Core.List.{List, [], ◌∷◌}
use Rattle.columns.specs.Columns.{accepts}
use Rattle.rules.specs.Labels.{Coded}
use Rattle.rules.specs.Questions.{Columns}
use Rattle.ask_span.specs.Graph.{span_in}
use Rattle.std.specs.Prelude.{Some, Ok}
use Rattle.ask_field.specs.Sought.{Sought, unread, sought_in, sought_target, field_found}
use Rattle.ask_field.proofs.Fields.{sought_within, field_is}
use Rattle.ask_short.specs.Lean.{leanly}
use Rattle.ask_short.proofs.Whole.{no_columns}
use Rattle.ask_short_field.proofs.Whole.{field-whole}
use Rattle.ask_each.specs.Listed.{Quick}

found_not_bad : {k : ℕ} → Ok (Some k) ≡ unread → ⊥
found_not_bad {k} e = let z : ◌≡◌ {A = ℕ} 0 1 = cc in absurd (omega arith)

-- an edge that is found is one of the n
pub quick_within : (d : Coded) (e n l : ℕ) {s : Sought} {k : ℕ} → s ≡ Ok (Some k) → Quick s (sought_in d e n l) → k < n
quick_within d e n l {s} {k} is q = sought_within d e n l (sym is ∙ q (λ bad. found_not_bad (sym is ∙ bad)))

-- by a span that was told
module _ (c : Columns) (o l : ℕ) where
  pub codes-found : (start count : ℕ) {s x : Sought} → span_in c o ≡ 0 ∷ start ∷ (start + count) ∷ [] → s ≡ x → Quick s (sought_in c.labels start count l)
      → accepts (sought_target c.targets start o x) ≡ true → sought_target c.targets start o x ≡ field_found c o l
  codes-found start count {s} {x} at is q ok =
      let many : count ≡ start + count - start = omega arith in
      let sure : x ≡ unread → ⊥ = λ bad. false≢true (sym (no_columns o) ∙ ap (λ (y : Sought). accepts (sought_target c.targets start o y)) (sym bad) ∙ ok) in
      field_is c o l at (sym is ∙ q (λ bad. sure (sym is ∙ bad)) ∙ ap (λ (n : ℕ). sought_in c.labels start n l) many)

  -- an answer without the long offsets and the escapes that is no refusal
  pub quick_whole : {says s : List ℕ} → says ≡ s → (accepts says ≡ true → says ≡ field_found (leanly c) o l) → accepts s ≡ true → s ≡ field_found c o l
  quick_whole is h ok =
      let lean = sym is ∙ h (ap accepts is ∙ ok) in
      lean ∙ field-whole c o l (ap accepts (sym lean) ∙ ok)
