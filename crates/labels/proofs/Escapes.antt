-- Escapes among codes: their number, code by code and by place. Assumes nothing.
use Prim.Native.Nat.{ℕ, zero, suc, ◌+◌, ◌≤◌}
use native.Mathlib.Nat.{add-zero}
use native.Mathlib.Omega.{arith}
use mathlib.Core.Path.{◌≡◌, refl, sym, ap, ◌∙◌}
use mathlib.Core.Bool.{Bool, true, false, cond}
use mathlib.Core.List.{List, [], ◌∷◌, ◌++◌}
use lib.ListN.{length, take, drop, length-append, get_or-append}
use lib.Seq.{take-suc, take-length}
use Rattle.columns.specs.Lists.{◌!◌, places, one}
use Rattle.columns.specs.Columns.{over}
use Rattle.columns.proofs.Sums.{sum-append, one_few}
use Rattle.columns.proofs.Parts.{places_ext}
use Rattle.rules.specs.Labels.{is_escaped}
use Rattle.labels.specs.Coding.{escapes_in, escaped_to}

pub escapes_append : (xs ys : List ℕ) → escapes_in (xs ++ ys) ≡ escapes_in xs + escapes_in ys
unfolding escapes_in
escapes_append xs ys = sum-append (λ c. one (is_escaped c)) xs ys

pub escapes_one : (c : ℕ) → escapes_in (c ∷ []) ≡ one (is_escaped c)
unfolding escapes_in
escapes_one c = add-zero (one (is_escaped c))

pub escapes_few : (cs : List ℕ) → escapes_in cs ≤ length cs
unfolding escapes_in
escapes_few [] = omega arith
escapes_few (c ∷ cs) = omega (arith, one_few (is_escaped c), escapes_few cs)

escapes_to_lem : (cs : List ℕ) (n : ℕ) → n ≤ length cs → escapes_in (take n cs) ≡ length (escaped_to cs n)
unfolding escapes_in escaped_to places
escapes_to_lem cs zero l = refl
escapes_to_lem cs (suc n) l =
    rw (take-suc cs n 0 (omega arith))
    (omega (arith, escapes_append (take n cs) (cs ! n ∷ []), escapes_one (cs ! n), escapes_to_lem cs n (omega arith), length-append (escaped_to cs n) (cond (is_escaped (cs ! n)) (n ∷ []) []), size (is_escaped (cs ! n))))
  where
    size : (b : Bool) → length (cond b (n ∷ []) []) ≡ one b
    size true = refl
    size false = refl

pub escapes_places : (cs : List ℕ) → escapes_in cs ≡ length (escaped_to cs (length cs))
escapes_places cs = ap escapes_in (sym (take-length cs)) ∙ escapes_to_lem cs (length cs) (omega arith)

-- what stands behind the codes does not count
pub escaped_over : (cs d : List ℕ) → escaped_to (over cs d) (length cs) ≡ escaped_to cs (length cs)
unfolding escaped_to over
escaped_over cs d = places_ext _ _ (length cs) (λ e l. ap is_escaped (get_or-append cs (drop (length cs) d) 0 e l))
