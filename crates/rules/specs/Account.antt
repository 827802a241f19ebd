-- "The account" of document 01: four kinds by three outcomes. Assumes nothing.
use Rattle.std.specs.Prelude.{ℕ, Bool, true, false, cond, List, [], ◌∷◌, length}
use Rattle.columns.specs.Lists.{total, sum}
use Rattle.rules.specs.Input.{Input, object_count}
use Rattle.rules.specs.Edges.{Kind, slot, element, static, loader, Outcome, outcome, edge_of, weak_of, missing_of, refs}

abbrev pub of_kind : Kind → Kind → Bool
of_kind slot slot = true
of_kind slot element = false
of_kind slot static = false
of_kind slot loader = false
of_kind element slot = false
of_kind element element = true
of_kind element static = false
of_kind element loader = false
of_kind static slot = false
of_kind static element = false
of_kind static static = true
of_kind static loader = false
of_kind loader slot = false
of_kind loader element = false
of_kind loader static = false
of_kind loader loader = true

-- 1 for the outcome that is counted
abbrev pub is_edge : Outcome → ℕ
is_edge u = length (edge_of 0 u)

abbrev pub is_weak : Outcome → ℕ
is_weak u = length (weak_of u)

-- "Each cell counts non-zero ids of the input by the edge rules above. Loaders are counted only if found."
unfoldable pub cell : Input → Kind → (Outcome → ℕ) → ℕ
cell x k is = total (λ o. sum (λ r. cond (of_kind k r.kind) (is (outcome x.objects.ids r)) 0) (refs x o)) (object_count x)

abbrev pub account_row : Input → Kind → List ℕ
account_row x k = cell x k is_edge ∷ cell x k is_weak ∷ cell x k missing_of ∷ []

-- "Slot, element, static, loader; edge, weak, missing."
unfoldable pub account : Input → List (List ℕ)
account x = account_row x slot ∷ account_row x element ∷ account_row x static ∷ account_row x loader ∷ []

-- "A refused build returns all zeros."
abbrev pub no_account : List (List ℕ)
no_account = (0 ∷ 0 ∷ 0 ∷ []) ∷ (0 ∷ 0 ∷ 0 ∷ []) ∷ (0 ∷ 0 ∷ 0 ∷ []) ∷ (0 ∷ 0 ∷ 0 ∷ []) ∷ []
