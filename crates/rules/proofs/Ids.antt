-- Ids have 64 bits, by either route; of a raw id this is one fact over the id size. Assumes nothing.
use Prim.Native.Nat.{ℕ, suc, ◌+◌, ◌-◌, ◌*◌, ◌^◌, ◌≤◌, ◌<◌}
use native.Mathlib.Nat.{mul-le-mul_right, mul_assoc, pow-succ', one-mul, mul-one, pow-zero, pow-le-pow_right}
use native.Mathlib.Omega.{arith}
use native.Mathlib.Decide.{dec_lt}
use mathlib.Core.Path.{◌≡◌, refl, sym, ap, ◌∙◌}
use mathlib.Core.Bool.{Bool, true, false, cond, false≢true}
use mathlib.Core.List.{List, [], ◌∷◌}
use lib.Dec.{eqb, leb, ltb}
use lib.ListN.{length, length-take, length-drop, get_or-eq_default}
use borrow.Author.Tests.{leb-false, eqb-true, not-false}
use Rattle.columns.specs.Lists.{◌!◌, all_of, any_of, part}
use Rattle.columns.specs.Columns.{accepts}
use Rattle.columns.specs.Ranks.{bisect}
use Rattle.columns.proofs.Sums.{part_at}
use Rattle.columns.proofs.Tests.{none_of}
use Rattle.index.specs.Copied.{Ids, escaped_code, whole, escape_back, id_back}
use Rattle.rules.specs.Input.{Input, Raw, Route.raw, copied_id, big_endian, raw_id}
use Rattle.rules.specs.Verdict.{bad_size}
use Rattle.rules.proofs.Acceptance.{Passed, size_good}

-- the value of an answer has 64 bits
abbrev Fits64 : List ℕ → Type 0
Fits64 a = cond (accepts a) (a ! 1) 0 < 2 ^ 64

either : (b : Bool) (p q : List ℕ) → Fits64 p → Fits64 q → Fits64 (cond b p q)
either true p q h l = h
either false p q h l = l

whole-fits : (i id : ℕ) → Fits64 (whole i id)
unfolding whole accepts
whole-fits i id = go (any_of (eqb id 0 ∷ leb (2 ^ 64) id ∷ [])) refl
  where
    go : (b : Bool) → any_of (eqb id 0 ∷ leb (2 ^ 64) id ∷ []) ≡ b → Fits64 (cond b (5 ∷ i ∷ []) (0 ∷ id ∷ []))
    go true e = omega arith
    go false e = leb-false _ _ (none_of _ e 1)

-- A copied id has 64 bits, whatever the columns.
pub copied-fits : (c : Ids) (p : ℕ) → copied_id c p < 2 ^ 64
unfolding copied_id id_back escape_back accepts
copied-fits c p =
    let k = bisect c.places p in
    either (ltb p (length c.codes)) _ _
    (either (eqb (c.codes ! p) 0) _ _ (omega arith)
    (either (eqb (c.codes ! p) escaped_code) _ _
    (either (all_of (ltb k (length c.places) ∷ eqb (c.places ! k) p ∷ ltb k (length c.ids) ∷ [])) _ _ (whole-fits p (c.ids ! k)) (omega arith))
    (whole-fits p (c.base + 8 * (c.codes ! p - 1)))))
    (omega arith)

-- n bytes write a number below 256 ^ n
bytes_below : (high : ℕ) (bs : List ℕ) → ((i : ℕ) → bs ! i < 256) → big_endian high bs < suc high * 256 ^ length bs
bytes_below high [] h = rw (pow-zero 256, mul-one (suc high)) (omega arith)
bytes_below high (b ∷ bs) h =
    let step : suc (high * 256 + b) * 256 ^ length bs ≤ suc high * 256 * 256 ^ length bs = mul-le-mul_right (256 ^ length bs) (omega (arith, h 0)) in
    let same : suc high * 256 * 256 ^ length bs ≡ suc high * 256 ^ suc (length bs) = mul_assoc (suc high) 256 (256 ^ length bs)
    ∙ ap (λ (n : ℕ). suc high * n) (sym (pow-succ' 256 (length bs))) in
    omega (arith, bytes_below (high * 256 + b) bs (λ i. h (suc i)))

part-below : (xs : List ℕ) (p n : ℕ) → ((i : ℕ) → xs ! i < 256) → (i : ℕ) → part xs p n ! i < 256
part-below xs p n h i = go (dec_lt i (n - p))
  where
    go : Dec (i < n - p) → part xs p n ! i < 256
    go (yes l) = rw (part_at xs p n i l) (h (p + i))
    go (no l) =
        let past : length (part xs p n) ≤ i = simp length-take (omega arith) in
        rw (get_or-eq_default (part xs p n) 0 past) (omega arith)

-- A raw id of n bytes is below 256 ^ n.
pub raw-fits : (r : Raw) (p : ℕ) → ((i : ℕ) → r.bytes ! i < 256) → raw_id r p < 256 ^ r.size
unfolding raw_id
raw-fits r p h =
    let bs = part r.bytes p (p + r.size) in
    let few : length bs ≤ r.size = simp (length-take, length-drop) (omega arith) in
    omega (arith, bytes_below 0 bs (part-below r.bytes p (p + r.size) h), one-mul (256 ^ length bs), pow-le-pow_right {n = 256} (omega arith) few)

-- So in an accepted input, where the size is 4 or 8, it has 64 bits.
pub raw_64 : (x : Input) → Passed x → (r : Raw) → x.route ≡ raw r → ((i : ℕ) → r.bytes ! i < 256) → (p : ℕ) → raw_id r p < 2 ^ 64
unfolding bad_size any_of
raw_64 x h r e bytes p = go (eqb r.size 4) refl (eqb r.size 8) refl (not-false _ (ap bad_size (sym e) ∙ size_good x h.sound))
  where
    go : (a : Bool) → eqb r.size 4 ≡ a → (b : Bool) → eqb r.size 8 ≡ b → any_of (a ∷ b ∷ []) ≡ true → raw_id r p < 2 ^ 64
    go true s b t q = let z : r.size ≡ 4 = eqb-true r.size 4 s in let b : 256 ^ r.size
        ≡ 256 ^ 4 = ap (λ (n : ℕ). 256 ^ n) z in omega (arith, raw-fits r p bytes)
    go false s true t q = let z : r.size ≡ 8 = eqb-true r.size 8 t in let b : 256 ^ r.size
        ≡ 256 ^ 8 = ap (λ (n : ℕ). 256 ^ n) z in omega (arith, raw-fits r p bytes)
    go false s false t q = absurd (false≢true q)
