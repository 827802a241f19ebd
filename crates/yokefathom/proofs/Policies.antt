-- M-111, OF WHAT TWO EXPORTED BUILDS LEFT: their answers are accepted where the number behind the count is 0, and then the columns that were lent to the one call and to
-- the other hold the same references. The input may go in by either route, and the rooms may differ. Assumes nothing.
use Prim.Native.Nat.{ℕ}
use mathlib.Core.Path.{◌≡◌, refl, sym, ap, ◌∙◌}
use mathlib.Core.Bool.{true}
use mathlib.Core.List.{List, [], ◌∷◌}
use lib.Dec.{eqb}
use Rattle.columns.specs.Lists.{◌!◌}
use Rattle.columns.specs.Columns.{over, padded, accepts}
use Rattle.rules.specs.declared.ReferencePolicy.{ReferencePolicy}
use Rattle.rules.specs.Input.{Input}
use Rattle.rules.specs.Needs.{Rooms}
use Rattle.rules.specs.Built.{CodedLeft, BuildLeft, build_left}
use Rattle.rules.specs.Policies.{under}
use Rattle.build_rooms.specs.Stages.{left_of}
use Rattle.build.specs.Policies.{SameReferences}
use Rattle.build.proofs.Policies.{any_policy}
use Rattle.answer_numbers.specs.Told.{told}
use Rattle.yokefathom.specs.Calls.{BuildTold}

-- behind the count stands document 01's number
told_number : (says : List ℕ) → told 9 says ! 1 ≡ says ! 0
unfolding told padded over
told_number [] = refl
told_number (a ∷ says) = refl

told_accepted : (left : BuildLeft) (answer : List ℕ) → answer ≡ told 9 left.says → answer ! 1 ≡ 0 → accepts left.says ≡ true
unfolding accepts
told_accepted left answer e z = ap (λ (n : ℕ). eqb n 0) (sym (ap (λ (a : List ℕ). a ! 1) e ∙ told_number left.says) ∙ z)

-- A call's answer and its columns, as `BuildTold` has them.
pub exported_policies : (x : Input) (p q : ReferencePolicy) (r s : Rooms)
    {answer ts ls fs ws rs wk : List ℕ} {coded : CodedLeft} {a : List (List ℕ)} {answer' ts' ls' fs' ws' rs' wk' : List ℕ} {coded' : CodedLeft} {a' : List (List ℕ)}
    → BuildTold (build_left (under x p) r) answer ts ls fs ws rs wk coded a → BuildTold (build_left (under x q) s) answer' ts' ls' fs' ws' rs' wk' coded' a'
    → answer ! 1 ≡ 0 → answer' ! 1 ≡ 0
    → SameReferences x p q (left_of (build_left (under x p) r).says ts ls fs ws rs wk coded a) (left_of (build_left (under x q) s).says ts' ls' fs' ws' rs' wk' coded' a')
exported_policies x p q r s b d ok ok' =
    any_policy x p q r s _ _ b.columns d.columns (told_accepted (build_left (under x p) r) _ b.told_as ok) (told_accepted (build_left (under x q) s) _ d.told_as ok')
