-- What is weak: whether a slot is kept, and a run of the weak columns. Assumes nothing.
use Rattle.std.specs.Prelude.{ℕ, ◌-◌, ◌≡◌, Bool, not, ◌||◌, List, eqb, replicate}
use Rattle.std.proofs.lemmas.List.Edits.{sets}
use Rattle.sort.specs.Order.{sort_run}

-- "A slot is kept if it isn't weak or its class's kind is kept": the rule `slot_kept`, law `slot_same`.
unfoldable pub kept_of : ℕ → Bool → Bool
kept_of weak keeps = not (eqb weak 1) || keeps

-- a run of the weak columns: the object's number at each place, and the targets sorted
pub record PairsSettled (o from to : ℕ) (fs ws fs' ws' : List ℕ) : Type 0 where
  pub objects : fs' ≡ sets fs from (replicate (to - from) o)
  pub sorted : ws' ≡ sort_run ws from to
