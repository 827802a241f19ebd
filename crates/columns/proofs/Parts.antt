-- Laws of a part that is lent, written and comes back, of a run that is laid out, and of places counted in a list. Assumes nothing.
use mathlib.Core.Path.{◌≡◌, sym, ap, ◌∙◌}
use mathlib.Core.Logic.{◌⊎◌, inl, inr}
use mathlib.Core.Bool.{Bool}
use mathlib.Core.List.{List, ◌++◌, append_assoc, append-nil}
use Prim.Native.Nat.{ℕ, zero, suc, ◌+◌, ◌-◌, ◌≤◌, ◌<◌}
use native.Mathlib.Omega.{arith}
use lib.ListN.{length, get_or, take, drop, length-append, length-drop, drop_of_length-le}
use lib.Seq.{take_at, drop_at, drop-drop}
use Rattle.columns.specs.Lists.{◌!◌, places, first_place, part}
use Rattle.columns.specs.Columns.{over}
use Rattle.columns.proofs.Lists.{lt_or_ge}
use Rattle.columns.proofs.Sums.{collect_ext, part_length_lem}
use Rattle.columns.proofs.Written.{Written}

-- the part from k up to a place, handed out and written whole, continues what is written up to k
pub written_part : {xs d₀ d : List ℕ} {k : ℕ} (ys : List ℕ) {zs : List ℕ} (to : ℕ) → Written xs d₀ d k → k ≤ to → to ≤ length d₀ → length ys ≡ to - k → zs ≡ over ys (part d k to)
    → Written (xs ++ ys) d₀ (take k d ++ (zs ++ drop (to - k) (drop k d))) to
unfolding over
written_part {xs} {d₀} {d} {k} ys {zs} to w low high n e =
    let none : length (part d k to) ≤ length ys = omega (arith, part_length_lem d k to (omega (arith, w.same))) in
    let whole : zs ≡ ys = e ∙ rw (drop_of_length-le (part d k to) none) (append-nil ys) in
    let behind : drop k d ≡ drop k d₀ = ap (drop k) w.holds ∙ drop_at xs (drop (length xs) d₀) k w.used ∙ ap (λ (n : ℕ). drop n d₀) w.used in
    let front : take k d ≡ xs = ap (take k) w.holds ∙ take_at xs (drop (length xs) d₀) k w.used in
    let both : length (xs ++ ys) ≡ to = length-append xs ys ∙ omega (arith, w.used) in
    let last : k + (to - k) ≡ to = omega arith in
    let is : take k d ++ (zs ++ drop (to - k) (drop k d)) ≡ (xs ++ ys) ++ drop (length (xs ++ ys)) d₀ =
    rw (front, whole, behind, drop-drop (to - k) k d₀, last, both) (sym (append_assoc xs ys (drop to d₀))) in
    record { holds = is; used = both; same = ap length is ∙ length-append (xs ++ ys) (drop (length (xs ++ ys)) d₀) ∙ omega (arith, length-drop (length (xs ++ ys)) d₀) }

-- tests that agree below n hold at the same places
pub places_ext : (s t : ℕ → Bool) (n : ℕ) → ((i : ℕ) → i < n → s i ≡ t i) → places s n ≡ places t n
unfolding places
places_ext s t n h = collect_ext _ _ n (λ i l. rw (h i l))

-- numbers that never fall from one to the next do not fall at all
pub never-falls : (xs : List ℕ) (n : ℕ) → ((i : ℕ) → suc i ≤ n → xs ! i ≤ xs ! suc i) → (i : ℕ) → i ≤ n → xs ! i ≤ xs ! n
never-falls xs zero h i l = let e : i ≡ 0 = omega arith in rw e (omega arith)
never-falls xs (suc n) h i l = go (lt_or_ge i (suc n)) (never-falls xs n (λ j m. h j (omega arith)) i)
  where
    go : (i < suc n) ⊎ (suc n ≤ i) → (i ≤ n → xs ! i ≤ xs ! n) → xs ! i ≤ xs ! suc n
    go (inl m) ih = omega (arith, ih (omega arith), h n (omega arith))
    go (inr m) ih = let e : i ≡ suc n = omega arith in rw e (omega arith)

-- and so is the lowest of them
pub first_ext : (s t : ℕ → Bool) (n : ℕ) → ((i : ℕ) → i < n → s i ≡ t i) → first_place s n ≡ first_place t n
first_ext s t n h = ap (λ (xs : List ℕ). get_or xs 0 n) (places_ext s t n h)
