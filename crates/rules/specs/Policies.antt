-- "The same references under every policy" (M-111 of document 02): one input under two policies, and what is compared of their builds. Assumes nothing.
use Rattle.std.specs.Prelude.{ℕ, ◌+◌, ◌<◌, ◌≡◌, true, List, [], ◌∷◌}
use Rattle.columns.specs.Lists.{◌!◌, count}
use Rattle.rules.specs.declared.ReferencePolicy.{ReferencePolicy}
use Rattle.rules.specs.Input.{Input, slot_count, slot_of}
use Rattle.rules.specs.Edges.{Edge}
use Rattle.rules.specs.Incoming.{edge_targets}

-- "Two builds of one input that differ only in policy": the input under a policy.
abbrev pub under : Input → ReferencePolicy → Input
under x p = record { objects = x.objects; schema = x.schema; roots = x.roots; route = x.route; policy = p }

-- "Per object, edges plus weak pairs are the same targets, counted with repeats": how often t is among the targets of edges and weak pairs together.
abbrev pub reached : List Edge → List ℕ → ℕ → ℕ
reached es ws t = count t (edge_targets es) + count t ws

-- A row of the account with its edges and weak pairs taken together, and its missing.
abbrev pub taken_together : List ℕ → List ℕ
taken_together row = (row ! 0 + row ! 1) ∷ row ! 2 ∷ []

-- "Objects of classes without a weak slot." Arrays and classes have no slots, so they are among them.
abbrev pub NoWeakSlot : Input → ℕ → Type 0
NoWeakSlot x o = (k : ℕ) → k < slot_count x o → x.schema.slots.weak ! slot_of x o k ≡ 0

-- "Keeping more": what the one policy keeps, the other keeps too.
pub record KeepsMore (less more : ReferencePolicy) : Type 0 where
  pub soft : less.soft ≡ true → more.soft ≡ true
  pub weak : less.weak ≡ true → more.weak ≡ true

-- "Never removes an edge": the list on the left is the one on the right with some left out, and the order kept.
pub data Subsequence {A : Type 0} : List A → List A → Type 0 where
  end : Subsequence [] []
  taken : (a : A) {xs ys : List A} → Subsequence xs ys → Subsequence (a ∷ xs) (a ∷ ys)
  left_out : (a : A) {xs ys : List A} → Subsequence xs ys → Subsequence xs (a ∷ ys)
