-- Ids read from bytes, over the id size, and the slots read before one ends past the body. Assumes nothing.
use Prim.Native.Nat.{ℕ, zero, suc, ◌+◌, ◌-◌, ◌*◌, ◌^◌, ◌≤◌, ◌<◌}
use native.Mathlib.Nat.{add-zero, add-suc, pow-suc, suc-mul, mul-le-mul_right}
use native.Mathlib.Numerals.{add-one}
use native.Mathlib.Omega.{arith}
use mathlib.Core.Path.{◌≡◌, refl, sym, ap, subst, ◌∙◌}
use mathlib.Core.Bool.{Bool, true, false, cond, ◌&&◌}
use mathlib.Core.List.{List, [], ◌∷◌, ◌++◌}
use borrow.Author.Tests.{eq-eqb, ne_eqb, le-leb, lt-leb}
use lib.Dec.{eqb}
use lib.ListN.{length, drop, take, length-drop}
use lib.Seq.{take-suc, get_or-drop}
use Rattle.columns.specs.Lists.{◌!◌, part, leading, tab}
use Rattle.columns.proofs.Sums.{leading_within}
use Rattle.rules.specs.declared.ReferencePolicy.{ReferencePolicy}
use Rattle.rules.specs.Types.{keeps}
use Rattle.rules.specs.Input.{big_endian}
use Rattle.edge_append.specs.Held.{slot_with, element_with}
use Rattle.edge_append.specs.Raw.{bytes_id, slot_ends, slots_read, raw_slot, raw_element, raw_slots, raw_elements}

-- one byte more
big_push : (h : ℕ) (xs : List ℕ) (b : ℕ) → big_endian h (xs ++ (b ∷ [])) ≡ big_endian h xs * 256 + b
big_push h [] b = refl
big_push h (a ∷ xs) b = big_push (h * 256 + a) xs b

pub big_none : (bytes : List ℕ) (at : ℕ) → 0 ≡ big_endian 0 (part bytes at (at + 0))
big_none bytes at =
    let z : at + 0 - at ≡ 0 = omega arith in
    rw z

pub big_next : (xs : List ℕ) (k : ℕ) {high : ℕ} → k < length xs → high ≡ big_endian 0 (take k xs) → high * 256 + xs ! k ≡ big_endian 0 (take (k + 1) xs)
big_next xs k h e = rw (e, add-one k, take-suc xs k 0 h) (sym (big_push 0 (take k xs) (xs ! k)))

pub big_more : (bytes : List ℕ) (at k : ℕ) {high : ℕ} → at + k < length bytes → high ≡ big_endian 0 (part bytes at (at + k))
    → high * 256 + bytes ! (at + k) ≡ big_endian 0 (part bytes at (at + (k + 1)))
big_more bytes at k h e =
    let a : at + k - at ≡ k = omega arith in
    let b : at + (k + 1) - at ≡ k + 1 = omega arith in
    let l : k < length (drop at bytes) = simp length-drop (omega arith) in
    rw (← get_or-drop at bytes k 0, b) (big_next (drop at bytes) k l (rw a at e))

-- up to eight bytes do not pass 64 bits
pow_more : (k d : ℕ) → 256 ^ k ≤ 256 ^ (k + d)
pow_more k zero = rw (add-zero k) (omega arith)
pow_more k (suc d) = rw (add-suc k d, pow-suc 256 (k + d)) (omega (arith, pow_more k d))

pub high_fits : (k high : ℕ) → k < 8 → high < 256 ^ k → high * 256 + 255 < 2 ^ 64
high_fits k high h l =
    let e : k + (7 - k) ≡ 7 = omega arith in
    let m : 256 ^ k ≤ 256 ^ 7 = subst (λ (n : ℕ). 256 ^ k ≤ 256 ^ n) e (pow_more k (7 - k)) in
    omega (arith, l, m)

pub high_more : (k high b : ℕ) → high < 256 ^ k → b < 256 → high * 256 + b < 256 ^ (k + 1)
high_more k high b h l = rw (add-one k, pow-suc 256 k) (omega arith)

-- an element ends within its array's body
pub element-ends : (k n size : ℕ) → k < n → k * size + size ≤ n * size
element-ends k n size h = omega (arith, suc-mul k size, mul-le-mul_right size h)

-- How many pass before one fails.
pub leading-next : (t : ℕ → Bool) (k : ℕ) → leading t k ≡ k → t k ≡ true → leading t (k + 1) ≡ k + 1
leading-next t k e h = rw (add-one k, e, h, eq-eqb k k refl)

picked_within : (b : Bool) {a n : ℕ} → a ≤ n → cond b (suc n) a ≤ suc n
picked_within true h = omega arith
picked_within false h = omega arith

picked_more : (b : Bool) {a n : ℕ} → a ≤ n → a ≤ cond b (suc n) a
picked_more true h = omega arith
picked_more false h = omega arith

leading_more : (t : ℕ → Bool) (k d : ℕ) → leading t k ≤ leading t (k + d)
leading_more t k zero = rw (add-zero k) (omega arith)
leading_more t k (suc d) =
    let h = picked_more (eqb (leading t (k + d)) (k + d) && t (k + d)) (leading_within t (k + d)) in
    rw (add-suc k d) (omega (arith, h, leading_more t k d))

stopped : (k d : ℕ) (b : Bool) → (d ≡ 0 → b ≡ false) → cond (eqb k (k + d) && b) (suc (k + d)) k ≡ k
stopped k zero b f = rw (f refl, add-zero k, eq-eqb k k refl)
stopped k (suc d) b f = rw (ne_eqb k (k + suc d) (λ z. omega arith))

stopped_at : (t : ℕ → Bool) (k d : ℕ) → leading t k ≡ k → t k ≡ false → leading t (k + d) ≡ k
stopped_at t k zero e f = rw (add-zero k) e
stopped_at t k (suc d) e f =
    rw (add-suc k d, stopped_at t k d e f) (stopped k d (t (k + d)) (λ z. ap t (ap (λ (n : ℕ). k + n) z ∙ add-zero k) ∙ f))

pub leading_past : (t : ℕ → Bool) (k : ℕ) → leading t k ≡ k → t k ≡ true → (n : ℕ) → k < n → k < leading t n
leading_past t k e h n l =
    let d : k + 1 + (n - (k + 1)) ≡ n = omega arith in
    omega (arith, leading-next t k e h, subst (λ (m : ℕ). leading t (k + 1) ≤ leading t m) d (leading_more t (k + 1) (n - (k + 1))))

pub leading_stop : (t : ℕ → Bool) (k : ℕ) → leading t k ≡ k → t k ≡ false → (n : ℕ) → k ≤ n → leading t n ≡ k
leading_stop t k e f n l = let d : n ≡ k + (n - k) = omega arith in rw d (stopped_at t k (n - k) e f)

pub leading_all : (t : ℕ → Bool) → ((i : ℕ) → t i ≡ true) → (n : ℕ) → leading t n ≡ n
leading_all t h zero = refl
leading_all t h (suc n) = rw add-one at (leading-next t n (leading_all t h n) (h n))

-- The same of slots.
module _ (offsets : List ℕ) (size body first k : ℕ) where
  pub read_none : slots_read offsets size body first 0 ≡ 0
  unfolding slots_read
  read_none = refl

  module _ (e : slots_read offsets size body first k ≡ k) where
    pub read_next : offsets ! (first + k) + size ≤ body → slots_read offsets size body first (k + 1) ≡ k + 1
    unfolding slots_read slot_ends
    read_next h = leading-next (slot_ends offsets size body first) k e (le-leb _ _ h)

    pub read_more : offsets ! (first + k) + size ≤ body → (n : ℕ) → k < n → k < slots_read offsets size body first n
    unfolding slots_read slot_ends
    read_more h n l = leading_past (slot_ends offsets size body first) k e (le-leb _ _ h) n l

    pub read_stop : body < offsets ! (first + k) + size → (n : ℕ) → k ≤ n → slots_read offsets size body first n ≡ k
    unfolding slots_read slot_ends
    read_stop h n l = leading_stop (slot_ends offsets size body first) k e (lt-leb _ _ h) n l

-- The references as the functions read them.
pub raw-slot : (bytes : List ℕ) (size start : ℕ) (offsets labels weak : List ℕ) (keeps : Bool) (first k : ℕ) {spot id : ℕ} → spot ≡ offsets ! (first + k)
    → id ≡ big_endian 0 (part bytes (start + spot) (start + spot + size)) → slot_with labels weak keeps (first + k) id ≡ raw_slot bytes size start offsets labels weak keeps first k
unfolding raw_slot bytes_id
raw-slot bytes size start offsets labels weak keeps first k e f =
    ap (slot_with labels weak keeps (first + k)) (f ∙ ap (λ (n : ℕ). big_endian 0 (part bytes (start + n) (start + n + size))) e)

pub raw-element : (bytes : List ℕ) (size start k : ℕ) {at id : ℕ} → at ≡ start + k * size → id ≡ big_endian 0 (part bytes at (at + size)) → element_with k id ≡ raw_element bytes size start k
unfolding raw_element bytes_id
raw-element bytes size start k e f = ap (element_with k) (f ∙ ap (λ (n : ℕ). big_endian 0 (part bytes n (n + size))) e)

module _ (bytes : List ℕ) (size start body : ℕ) (kinds starts ends offsets labels weak : List ℕ) (policy : ReferencePolicy) (kind class : ℕ) where
  pub raw_none : (kind ≡ 0 → ⊥) → [] ≡ raw_slots bytes size start body kinds starts ends offsets labels weak policy kind class
  unfolding raw_slots tab slots_read
  raw_none h = rw (ne_eqb _ _ h)

  pub raw_some : kind ≡ 0 → {kept : Bool} {first last : ℕ} → kept ≡ keeps policy (kinds ! class) → first ≡ starts ! class → last ≡ ends ! class
      → tab (raw_slot bytes size start offsets labels weak kept first) (slots_read offsets size body first (last - first)) ≡ raw_slots bytes size start body kinds starts ends offsets labels weak policy kind class
  unfolding raw_slots
  raw_some h e f g = rw (eq-eqb _ _ h, e, f, g)

module _ (bytes : List ℕ) (size start kind count : ℕ) where
  pub no_elements : (kind ≡ 1 → ⊥) → [] ≡ raw_elements bytes size start kind count
  unfolding raw_elements tab
  no_elements h = rw (ne_eqb _ _ h)

  pub some_elements : kind ≡ 1 → tab (raw_element bytes size start) count ≡ raw_elements bytes size start kind count
  unfolding raw_elements
  some_elements h = rw (eq-eqb _ _ h)
