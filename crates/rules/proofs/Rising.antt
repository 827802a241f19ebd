-- Labels whose elements strictly rise, from the front and by index. Assumes nothing.
use Prim.Native.Nat.{ℕ, zero, suc, ◌-◌, ◌≤◌, ◌<◌}
use native.Mathlib.Nat.{not-suc-le-zero}
use native.Mathlib.Omega.{arith}
use mathlib.Core.Path.{◌≡◌, refl, ap}
use mathlib.Core.Bool.{true, false≢true}
use mathlib.Core.List.{List, [], ◌∷◌, ◌++◌}
use lib.ListN.{length}
use borrow.Author.Tests.{lt-leb}
use Rattle.columns.specs.Lists.{◌!◌}
use Rattle.columns.proofs.Every.{Every}
use Rattle.rules.specs.Types.{array_element_label, is_element}
use Rattle.rules.specs.Labels.{after, expected}

-- Labels after which the next element may have index n: each element has at least the index that it may.
abbrev pub Rising : ℕ → List ℕ → Type 0
Rising n [] = Unit {0}
Rising n (l ∷ ls) = (is_element l ≡ true → n ≤ l - array_element_label) × Rising (after n l) ls

abbrev pub after_all : ℕ → List ℕ → ℕ
after_all n [] = n
after_all n (l ∷ ls) = after_all (after n l) ls

pub rising_append : (n : ℕ) (xs ys : List ℕ) → Rising n xs → Rising (after_all n xs) ys → Rising n (xs ++ ys)
rising_append n [] ys a b = b
rising_append n (l ∷ xs) ys a b = (a.0, rising_append (after n l) xs ys a.1 b)

pub after-append : (n : ℕ) (xs ys : List ℕ) → after_all n (xs ++ ys) ≡ after_all (after_all n xs) ys
after-append n [] ys = refl
after-append n (l ∷ xs) ys = after-append (after n l) xs ys

-- labels that are all fields
abbrev pub Fields : List ℕ → Type 0
Fields ls = Every (λ l. l < array_element_label) ls

pub fields_rise : (n : ℕ) (ls : List ℕ) → Fields ls → Rising n ls
fields_rise n [] f = tt
fields_rise n (l ∷ ls) f = rw (lt-leb array_element_label l f.0) ((λ e. absurd (false≢true e)), fields_rise n ls f.1)

pub fields-after : (n : ℕ) (ls : List ℕ) → Fields ls → after_all n ls ≡ n
fields-after n [] f = refl
fields-after n (l ∷ ls) f = rw (lt-leb array_element_label l f.0) (fields-after n ls f.1)

-- By index.
abbrev from : ℕ → List ℕ → ℕ → ℕ
from n ls zero = n
from n ls (suc k) = after (from n ls k) (ls ! k)

from_zero : (ls : List ℕ) (k : ℕ) → expected ls k ≡ from 0 ls k
from_zero ls zero = refl
from_zero ls (suc k) = ap (λ (n : ℕ). after n (ls ! k)) (from_zero ls k)

from_cons : (n l : ℕ) (ls : List ℕ) (k : ℕ) → from n (l ∷ ls) (suc k) ≡ from (after n l) ls k
from_cons n l ls zero = refl
from_cons n l ls (suc k) = ap (λ (m : ℕ). after m (ls ! k)) (from_cons n l ls k)

rising_from : (n : ℕ) (ls : List ℕ) (k : ℕ) → Rising n ls → k < length ls → is_element (ls ! k) ≡ true → from n ls k ≤ ls ! k - array_element_label
rising_from n [] k r h t = absurd (not-suc-le-zero h)
rising_from n (l ∷ ls) zero r h t = r.0 t
rising_from n (l ∷ ls) (suc k) r h t = rw (from_cons n l ls k) (rising_from (after n l) ls k r.1 (omega arith) t)

pub rising_at : (ls : List ℕ) (k : ℕ) → Rising 0 ls → k < length ls → is_element (ls ! k) ≡ true → expected ls k ≤ ls ! k - array_element_label
rising_at ls k r h t = rw (from_zero ls k) (rising_from 0 ls k r h t)
