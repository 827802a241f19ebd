-- Lists by index, lists made from the front, sums, tests and search. Nothing here knows of graphs. Assumes nothing.
use Rattle.std.specs.Prelude.{ℕ, zero, suc, ◌+◌, ◌-◌, Bool, true, false, cond, ◌&&◌, ◌||◌, List, [], ◌∷◌, ◌++◌, eqb, get_or, take, drop}
use Rattle.std.proofs.Math.Option.{Option, none, some}

infixl 90 ◌!◌
-- the number at i, 0 past the end
abbrev pub ◌!◌ : List ℕ → ℕ → ℕ
xs ! i = get_or xs i 0

-- f 0, then f 1, .. up to f (n - 1)
abbrev pub collect : {A : Type 0} → (ℕ → List A) → ℕ → List A
collect f zero = []
collect f (suc n) = collect f n ++ f n

-- g 0, g 1, .. g (n - 1)
unfoldable pub tab : {A : Type 0} → (ℕ → A) → ℕ → List A
tab g n = collect (λ i. g i ∷ []) n

-- the places below n at which the test t holds, rising
unfoldable pub places : (ℕ → Bool) → ℕ → List ℕ
places t n = collect (λ i. cond (t i) (i ∷ []) []) n

-- the lowest of them, or n where there is none
abbrev pub first_place : (ℕ → Bool) → ℕ → ℕ
first_place t n = get_or (places t n) 0 n

-- f 0 + f 1 + .. + f (n - 1)
abbrev pub total : (ℕ → ℕ) → ℕ → ℕ
total f zero = 0
total f (suc n) = total f n + f n

-- f of each element, one after the other, and summed
abbrev pub flat : {A B : Type 0} → (A → List B) → List A → List B
flat f [] = []
flat f (a ∷ xs) = f a ++ flat f xs

abbrev pub sum : {A : Type 0} → (A → ℕ) → List A → ℕ
sum f [] = 0
sum f (a ∷ xs) = f a + sum f xs

-- 1 for a test that holds
abbrev pub one : Bool → ℕ
one true = 1
one false = 0

-- how often v stands in a list
abbrev pub count : ℕ → List ℕ → ℕ
count v xs = sum (λ a. one (eqb a v)) xs

-- all of some tests hold; one of them does
unfoldable pub all_of : List Bool → Bool
all_of [] = true
all_of (b ∷ bs) = b && all_of bs

unfoldable pub any_of : List Bool → Bool
any_of [] = false
any_of (b ∷ bs) = b || any_of bs

-- the test holds at one of the first n places
unfoldable pub any : (ℕ → Bool) → ℕ → Bool
any t zero = false
any t (suc n) = any t n || t n

-- how many of the first n places pass before one fails
abbrev pub leading : (ℕ → Bool) → ℕ → ℕ
leading t zero = 0
leading t (suc n) = cond (eqb (leading t n) n && t n) (suc n) (leading t n)

-- where v stands first
abbrev pub next : Option ℕ → Option ℕ
next none = none
next (some i) = some (suc i)

abbrev pub find : List ℕ → ℕ → Option ℕ
find [] v = none
find (a ∷ xs) v = cond (eqb a v) (some 0) (next (find xs v))

abbrev pub found : Option ℕ → Bool
found none = false
found (some i) = true

abbrev pub or_else : {A : Type 0} → A → Option A → A
or_else d none = d
or_else d (some a) = a

-- the value of the first row whose key is v, 0 where there is none
abbrev pub lookup : List ℕ → List ℕ → ℕ → ℕ
lookup [] values v = 0
lookup (k ∷ keys) [] v = 0
lookup (k ∷ keys) (a ∷ values) v = cond (eqb k v) a (lookup keys values v)

-- sorted by an order that is a test; equals keep their order
abbrev pub insert : {A : Type 0} → (A → A → Bool) → A → List A → List A
insert le a [] = a ∷ []
insert le a (b ∷ ys) = cond (le a b) (a ∷ b ∷ ys) (b ∷ insert le a ys)

abbrev pub sort : {A : Type 0} → (A → A → Bool) → List A → List A
sort le [] = []
sort le (a ∷ xs) = insert le a (sort le xs)

-- a list without the numbers that equal the next one: of a sorted list, each number once
abbrev pub distinct : List ℕ → List ℕ
distinct [] = []
distinct (a ∷ []) = a ∷ []
distinct (a ∷ b ∷ ys) = cond (eqb a b) (distinct (b ∷ ys)) (a ∷ distinct (b ∷ ys))

-- the part from one place up to another
abbrev pub part : {A : Type 0} → List A → ℕ → ℕ → List A
part xs from to = take (to - from) (drop from xs)
