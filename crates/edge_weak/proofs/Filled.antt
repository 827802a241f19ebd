-- Writing on from where the last writing ended, and a run filled with one number. Assumes nothing.
use Prim.Native.Nat.{ℕ, suc, ◌+◌, ◌-◌, ◌≤◌}
use native.Mathlib.Nat.{add-zero}
use native.Mathlib.Omega.{arith}
use mathlib.Core.Path.{◌≡◌, refl, ap, ◌∙◌}
use mathlib.Core.List.{List, [], ◌∷◌, ◌++◌, append_assoc}
use lib.ListN.{length, set, take, drop, replicate, length-replicate}
use borrow.Rule.Slice.PartMut.{put_mid}
use Rattle.std.proofs.lemmas.List.{length-take, length-drop, drop-drop}
use lib.Seq.{sets, sets-eq}

-- Writing on from where the last writing ended.
pub sets_append : (l vs us : List ℕ) (i n : ℕ) → n ≡ length vs → sets (sets l i vs) (i + n) us ≡ sets l i (vs ++ us)
sets_append l [] us i n e = rw (e, add-zero i)
sets_append l (v ∷ vs) us i n e =
    ap (λ (j : ℕ). sets (sets (set l i v) (suc i) vs) j us) (omega arith) ∙ sets_append (set l i v) vs us (suc i) (length vs) refl

-- a run that is lent and comes back filled with v
pub run_filled : (d : List ℕ) (from to v : ℕ) {ys : List ℕ} → from ≤ to → to ≤ length d → ys ≡ replicate (length (take (to - from) (drop from d))) v
    → put_mid from (to - from) d ys ≡ sets d from (replicate (to - from) v)
run_filled d from to v l h e =
    let n : length (take (to - from) (drop from d)) ≡ to - from = omega (arith, length-take (to - from) (drop from d), length-drop from d) in
    let k : from + length (replicate (to - from) v) ≡ from + (to - from) = ap (λ (m : ℕ). from + m) (length-replicate (to - from) v) in
    rw (e, n, sets-eq (replicate (to - from) v) d from (omega (arith, length-replicate (to - from) v)), k, append_assoc)
    (ap (λ (z : List ℕ). take from d ++ (replicate (to - from) v ++ z)) (drop-drop (to - from) from d))
