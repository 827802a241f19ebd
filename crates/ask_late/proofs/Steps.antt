-- Going back edge by edge: what each code adds, and where the way ends. Assumes nothing.
use Prim.Native.Nat.{ℕ, zero, suc, ◌+◌, ◌-◌, ◌*◌, ◌%◌, ◌≤◌, ◌<◌}
use native.Mathlib.Omega.{arith}
use mathlib.Core.Path.{◌≡◌, refl, sym, ap, ◌∙◌}
use mathlib.Core.Logic.{◌⊎◌, inl, inr}
use mathlib.Core.Bool.{Bool, true, false, cond, not, beq}
use mathlib.Core.List.{List, [], ◌∷◌}
use lib.Dec.{ltb, leb}
use lib.ListN.{length}
use borrow.Author.Tests.{lt-ltb, le-ltb, le-leb, lt-leb, eq-eqb, ne_eqb, ltb-false, leb-true, ltb-true, not-true}
use Rattle.columns.specs.Lists.{◌!◌, all_of, total}
use Rattle.columns.specs.Ranks.{bisect}
use Rattle.columns.proofs.Lists.{lt_or_ge}
use Rattle.columns.proofs.Sums.{total_more, total-end}
use Rattle.columns.proofs.Tests.{each_of}
use Rattle.rules.specs.Types.{array_element_label, is_element}
use Rattle.rules.specs.Labels.{Coded, is_escaped}
use Rattle.labels.specs.Reading.{row_back, element_back, field_back, code_back, step_back, next_of, onward}
use Rattle.ask_late.specs.Late.{late_back, late_next, steps_of, block_steps, after_steps}
use Rattle.ask_late.proofs.Late.{none_read, beq_true, row-kind, late_none, late_more, late_is, from, behind, exactly}

-- more steps than there are indices lead nowhere
far_off : (s : ℕ) (ns : List ℕ) → array_element_label < s → after_steps s ns ≡ []
far_off s [] l = refl
far_off s (n ∷ ns) l = rw (le-ltb (n + s - 1) array_element_label (omega arith))

-- an element by its gap, and the element s steps behind it
one_step : (n c s : ℕ) → 32768 ≤ c → 1 ≤ s → after_steps s (next_of n (element_back (n + (c - 32768)))) ≡ element_back (n + (s + (c - 32767)) - 1)
one_step n c s l m = go (ltb i array_element_label) refl
  where
    i : ℕ
    i = n + (c - 32768)

    last : ℕ
    last = n + (s + (c - 32767)) - 1

    go : (b : Bool) → ltb i array_element_label ≡ b → after_steps s (next_of n (cond b ((array_element_label + i) ∷ []) [])) ≡ element_back last
    go true q =
        let index : array_element_label + i - array_element_label + 1 + s - 1 ≡ last = omega arith in
        rw (le-leb array_element_label (array_element_label + i) (omega arith)) (ap element_back index)
    go false q = rw (le-ltb last array_element_label (omega (arith, ltb-false i array_element_label q)))

-- The row of an escaped element has an element's label.
pub escape_element : (fields at ls : List ℕ) (g : ℕ) {l : ℕ} {xs : List ℕ} → code_back fields at ls g 0 65535 ≡ l ∷ xs → array_element_label ≤ l
unfolding code_back
escape_element fields at ls g {l} {xs} q = leb-true array_element_label l (beq_true (is_element l) (row-kind at ls g 65535 (bisect at g) q))

field-kind : (fields : List ℕ) (c : ℕ) {l : ℕ} {xs : List ℕ} → field_back fields c ≡ l ∷ xs → is_element l ≡ false
unfolding field_back
field-kind fields c {l} {xs} q = go (all_of tests) refl q
  where
    tests : List Bool
    tests = ltb c (length fields) ∷ not (is_element (fields ! c)) ∷ []

    go : (b : Bool) → all_of tests ≡ b → cond b (fields ! c ∷ []) [] ≡ l ∷ xs → is_element l ≡ false
    go true t q = let same : fields ! c ≡ l = ap (λ (ls : List ℕ). ls ! 0) q in ap is_element (sym same) ∙ not-true _ (each_of tests t 1)
    go false t q = absurd (none_read q)

-- A field's code has no element's label, whatever is expected.
field-label : (fields at ls : List ℕ) (g n c : ℕ) {l : ℕ} {xs : List ℕ} → c < 32768 → code_back fields at ls g n c ≡ l ∷ xs → is_element l ≡ false
unfolding code_back
field-label fields at ls g n c {l} {xs} m q = go (is_escaped c) (leb 32768 c) (lt-leb 32768 c m) q
  where
    no_element : (b : Bool) → beq b false ≡ true → b ≡ false
    no_element true e = sym e
    no_element false e = refl

    go : (a b : Bool) → leb 32768 c ≡ false → cond a (row_back at ls g c (bisect at g)) (cond (leb 32768 c) (element_back (n + (c - 32768))) (field_back fields c)) ≡ l ∷ xs → is_element l ≡ false
    go true b f q = no_element (is_element l) (ap (beq (is_element l)) (sym f) ∙ row-kind at ls g c (bisect at g) q)
    go false b f q = field-kind fields c (sym (ap (λ (t : Bool). cond t (element_back (n + (c - 32768))) (field_back fields c)) f) ∙ q)

-- so the element s steps behind an escaped one, by its row
pub behind-row : {row : List ℕ} {l : ℕ} (s : ℕ) → array_element_label ≤ l → row ≡ l ∷ [] → element_back (l - array_element_label + s) ≡ after_steps s (next_of 0 row)
behind-row {row} {l} s m q =
    let index : l - array_element_label + s ≡ l - array_element_label + 1 + s - 1 = omega arith in
    ap element_back index ∙ ap (λ (b : Bool). element_back (cond b (l - array_element_label + 1) 0 + s - 1)) (sym (le-leb array_element_label l m)) ∙ ap (λ (ls : List ℕ). after_steps s (next_of 0 ls)) (sym q)

-- By its steps a code is that of an element that is not escaped, or another.
pub steps_small : (c : ℕ) → steps_of c < 67108864 → (32768 ≤ c) × (c < 65535) × (steps_of c ≡ c - 32767)
unfolding steps_of
steps_small c m = go (all_of tests) refl m
  where
    tests : List Bool
    tests = leb 32768 c ∷ ltb c 65535 ∷ []

    go : (b : Bool) → all_of tests ≡ b → cond b (c - 32767) 67108864 < 67108864 → (32768 ≤ c) × (c < 65535) × (cond b (c - 32767) 67108864 ≡ c - 32767)
    go true t m = (leb-true 32768 c (each_of tests t 0), ltb-true c 65535 (each_of tests t 1), refl)
    go false t m = absurd (omega (arith, m))

steps_other : (c : ℕ) → 67108864 ≤ steps_of c → c < 65536 → (c ≡ 65535 → ⊥) → c < 32768
unfolding steps_of all_of
steps_other c m l n = go (lt_or_ge c 32768)
  where
    plain : 32768 ≤ c → steps_of c ≡ c - 32767
    plain x = rw (le-leb 32768 c x, lt-ltb c 65535 (omega (arith, l, n)))

    go : (c < 32768) ⊎ (32768 ≤ c) → c < 32768
    go (inl x) = x
    go (inr x) = absurd (omega (arith, plain x, m, l))

module _ (d : Coded) (e : ℕ) where
  abbrev code : ℕ → ℕ
  code k = d.codes ! (e + k)

  -- what is expected at edge k where that is no escaped element
  whole : (k : ℕ) → (code k ≡ 65535 → ⊥) → from d e k ≡ late_next d e k
  whole k h = ap (λ (b : Bool). cond b (0 ∷ []) (late_next d e k)) (ne_eqb (code k) 65535 h)

  escaped : (k : ℕ) → code k ≡ 65535 → from d e k ≡ 0 ∷ []
  escaped k h = ap (λ (b : Bool). cond b (0 ∷ []) (late_next d e k)) (eq-eqb (code k) 65535 h)

  -- an element that is not escaped
  module _ (k : ℕ) (low : 32768 ≤ code k) (high : code k < 65535) where
    plain_code : (n : ℕ) → step_back d e k n ≡ element_back (n + (code k - 32768))
    unfolding code_back
    plain_code n = rw (ne_eqb (code k % 32768) 32767 (λ z. omega (arith, low, high)), le-leb 32768 (code k) low)

    back_step : (s : ℕ) (ns : List ℕ) → 1 ≤ s → after_steps s (behind d (e + k) ns) ≡ after_steps (s + (code k - 32767)) ns
    back_step s [] m = refl
    back_step s (n ∷ ns) m = ap (λ (ls : List ℕ). after_steps s (next_of n ls)) (plain_code n) ∙ one_step n (code k) s low m

    back-element : (s : ℕ) → 1 ≤ s → after_steps s (late_next d e (suc k)) ≡ after_steps (s + (code k - 32767)) (late_next d e k)
    back-element s m = ap (after_steps s) (late_more d e k ∙ ap (behind d (e + k)) (whole k (λ z. omega (arith, high)))) ∙ back_step s (late_next d e k) m

    last_step : (ns : List ℕ) → onward (step_back d e k) ns ≡ after_steps (code k - 32767) ns
    last_step [] = refl
    last_step (n ∷ ns) = let index : n + (code k - 32768) ≡ n + (code k - 32767) - 1 = omega (arith, low) in plain_code n ∙ ap element_back index

    late_step : late_back d e k ≡ after_steps (code k - 32767) (late_next d e k)
    late_step =
        late_is d e k ∙ ap (exactly d (e + k)) (whole k (λ z. omega (arith, high)))
        ∙ ap (λ (b : Bool). cond b (onward (step_back d e k) (late_next d e k)) (step_back d e k 0)) (le-leb 32768 (code k) low) ∙ last_step (late_next d e k)

  -- a field between elements, which can be read or not
  module _ (k : ℕ) (low : code k < 32768) where
    field-any : (n : ℕ) → step_back d e k n ≡ step_back d e k 0
    unfolding code_back
    field-any n = rw (lt-leb 32768 (code k) low)

    abbrev not_escaped : code k ≡ 65535 → ⊥
    not_escaped = λ z. omega (arith, low)

    back_field : (s : ℕ) {l : ℕ} {ls : List ℕ} → step_back d e k 0 ≡ l ∷ ls → after_steps s (late_next d e (suc k)) ≡ after_steps s (late_next d e k)
    back_field s {l} {ls} q = ap (after_steps s) (late_more d e k ∙ ap (behind d (e + k)) (whole k not_escaped)) ∙ go (late_next d e k)
      where
        kept : (n : ℕ) → next_of n (step_back d e k n) ≡ n ∷ []
        kept n = ap (next_of n) (field-any n ∙ q) ∙ ap (λ (b : Bool). cond b (l - array_element_label + 1) n ∷ []) (field-label d.fields d.escape_at d.escape_label (e + k) 0 (code k) low q)

        go : (ns : List ℕ) → after_steps s (behind d (e + k) ns) ≡ after_steps s ns
        go [] = refl
        go (n ∷ ns) = ap (after_steps s) (kept n)

    back-unread : (s : ℕ) → step_back d e k 0 ≡ [] → after_steps s (late_next d e (suc k)) ≡ []
    back-unread s q = ap (after_steps s) (late_more d e k) ∙ go (from d e k)
      where
        go : (ns : List ℕ) → after_steps s (behind d (e + k) ns) ≡ []
        go [] = refl
        go (n ∷ ns) = ap (λ (ls : List ℕ). after_steps s (next_of n ls)) (field-any n ∙ q)

    late_field : late_back d e k ≡ step_back d e k 0
    late_field = late_is d e k ∙ ap (λ (b : Bool). cond b (onward (step_back d e k) (from d e k)) (step_back d e k 0)) (lt-leb 32768 (code k) low)

  -- an escaped element
  back_escape : (k s : ℕ) → code k ≡ 65535 → after_steps s (late_next d e (suc k)) ≡ after_steps s (next_of 0 (code_back d.fields d.escape_at d.escape_label (e + k) 0 65535))
  back_escape k s h =
      ap (after_steps s) (late_more d e k ∙ ap (behind d (e + k)) (escaped k h))
      ∙ ap (λ (c : ℕ). after_steps s (next_of 0 (code_back d.fields d.escape_at d.escape_label (e + k) 0 c))) h

  late_escape : (k : ℕ) → code k ≡ 65535 → late_back d e k ≡ step_back d e k 0
  late_escape k h = late_is d e k ∙ ap (exactly d (e + k)) (escaped k h) ∙ go (leb 32768 (code k))
    where
      go : (b : Bool) → cond b (step_back d e k 0) (step_back d e k 0) ≡ step_back d e k 0
      go true = refl
      go false = refl

  -- so the label of edge k: by going back, or by its code alone
  pub late_element : (k : ℕ) → steps_of (code k) < 67108864 → late_back d e k ≡ after_steps (steps_of (code k)) (late_next d e k)
  late_element k few = let is = steps_small (code k) few in late_step k is.0 is.1 ∙ ap (λ (s : ℕ). after_steps s (late_next d e k)) (sym is.2)

  pub late_other : (k : ℕ) → 67108864 ≤ steps_of (code k) → code k < 65536 → late_back d e k ≡ step_back d e k 0
  late_other k m l = go (lt_or_ge (code k) 65535)
    where
      go : (code k < 65535) ⊎ (65535 ≤ code k) → late_back d e k ≡ step_back d e k 0
      go (inl x) = late_field k (steps_other (code k) m l (λ z. omega (arith, x, z)))
      go (inr x) = late_escape k (omega (arith, x, l))

  -- the first edge is reached
  back_end : (s : ℕ) → after_steps s (late_next d e zero) ≡ element_back (s - 1)
  back_end s = ap (after_steps s) (late_none d e) ∙ ap (λ (i : ℕ). element_back (i - 1)) (let z : 0 + s ≡ s = omega arith in z)

-- The way back from edge k, where so many edges are left: the element `first` steps behind edge k is `steps` steps behind what is left.
pub record Back (d : Coded) (e k first steps left : ℕ) : Type 0 where
  pub within : left ≤ k
  pub low : 1 ≤ steps
  pub high : steps ≤ array_element_label
  pub same : after_steps first (late_next d e k) ≡ after_steps steps (late_next d e left)

pub back_start : (d : Coded) (e k first : ℕ) → 1 ≤ first → first ≤ array_element_label → Back d e k first first k
back_start d e k first low high = record { within = omega arith; low = low; high = high; same = refl }

pub all_passed : (d : Coded) (e k first steps left : ℕ) → Back d e k first steps left → left ≤ 0 → element_back (steps - 1) ≡ after_steps first (late_next d e k)
all_passed d e k first steps left w none =
    let z : left ≡ 0 = omega arith in
    sym (w.same ∙ ap (λ (m : ℕ). after_steps steps (late_next d e m)) z ∙ back_end d e steps)

-- the edge before what was passed
module _ (d : Coded) (e k first steps left : ℕ) (w : Back d e k first steps left) (more : 0 < left) where
  abbrev next : ℕ
  next = d.codes ! (e + (left - 1))

  split : after_steps first (late_next d e k) ≡ after_steps steps (late_next d e (suc (left - 1)))
  split = let z : left ≡ suc (left - 1) = omega arith in w.same ∙ ap (λ (m : ℕ). after_steps steps (late_next d e m)) z

  module _ (few : steps_of next < 67108864) where
    element-same : after_steps first (late_next d e k) ≡ after_steps (steps + steps_of next) (late_next d e (left - 1))
    element-same =
        let is = steps_small next few in
        split ∙ back-element d e (left - 1) is.0 is.1 steps w.low ∙ ap (λ (s : ℕ). after_steps (steps + s) (late_next d e (left - 1))) (sym is.2)

    pub element-passed : steps + steps_of next ≤ array_element_label → Back d e k first (steps + steps_of next) (left - 1)
    element-passed m = record { within = omega (arith, w.within); low = omega (arith, w.low); high = m; same = element-same }

    pub element_far : array_element_label < steps + steps_of next → [] ≡ after_steps first (late_next d e k)
    element_far m = sym (element-same ∙ far_off (steps + steps_of next) (late_next d e (left - 1)) m)

  module _ (other : 67108864 ≤ steps_of next) (small : next < 65536) (plain : next ≡ 65535 → ⊥) where
    pub field-passed : {l : ℕ} {ls : List ℕ} → step_back d e (left - 1) 0 ≡ l ∷ ls → Back d e k first steps (left - 1)
    field-passed q = record {
      within = omega (arith, w.within);
      low = w.low;
      high = w.high;
      same = split ∙ back_field d e (left - 1) (steps_other next other small plain) steps q;
    }

    pub field-unread : step_back d e (left - 1) 0 ≡ [] → [] ≡ after_steps first (late_next d e k)
    field-unread q = sym (split ∙ back-unread d e (left - 1) (steps_other next other small plain) steps q)

  pub escape_met : {ls : List ℕ} → next ≡ 65535 → ls ≡ after_steps steps (next_of 0 (code_back d.fields d.escape_at d.escape_label (e + (left - 1)) 0 65535))
      → ls ≡ after_steps first (late_next d e k)
  escape_met h q = q ∙ sym (split ∙ back_escape d e (left - 1) steps h)

-- A run of elements that are not escaped, and so a block of 32.
run_passed : (d : Coded) (e a m s : ℕ) → 1 ≤ s → total (λ i. steps_of (d.codes ! (e + a + i))) m < 67108864
    → after_steps s (late_next d e (a + m)) ≡ after_steps (s + total (λ i. steps_of (d.codes ! (e + a + i))) m) (late_next d e a)
run_passed d e a zero s l few = let z : a + 0 ≡ a = omega arith in let y : s ≡ s + 0 = omega arith in rw (z, ← y)
run_passed d e a (suc m) s l few =
    let steps = total (λ i. steps_of (d.codes ! (e + a + i))) m in
    let place : e + a + m ≡ e + (a + m) = omega arith in
    let one = steps_small (d.codes ! (e + (a + m))) (omega (arith, few, ap (λ (g : ℕ). steps_of (d.codes ! g)) place)) in
    let next : a + suc m ≡ suc (a + m) = omega arith in
    let last : steps_of (d.codes ! (e + a + m)) ≡ d.codes ! (e + (a + m)) - 32767 = ap (λ (g : ℕ). steps_of (d.codes ! g)) place ∙ one.2 in
    let sum : s + (d.codes ! (e + (a + m)) - 32767) + steps ≡ s + (steps + steps_of (d.codes ! (e + a + m))) = omega (arith, last) in
    ap (λ (k : ℕ). after_steps s (late_next d e k)) next ∙ back-element d e (a + m) one.0 one.1 s l
    ∙ run_passed d e a m (s + (d.codes ! (e + (a + m)) - 32767)) (omega arith) (omega (arith, few)) ∙ ap (λ (t : ℕ). after_steps t (late_next d e a)) sum

module _ (d : Coded) (e k first steps left : ℕ) (w : Back d e k first steps left) (more : 32 ≤ left) (few : block_steps d.codes (e + (left - 32)) < 67108864) where
  abbrev sum : ℕ
  sum = steps + block_steps d.codes (e + (left - 32))

  block_same : after_steps first (late_next d e k) ≡ after_steps sum (late_next d e (left - 32))
  unfolding block_steps
  block_same = let z : left ≡ left - 32 + 32 = omega arith in w.same ∙ ap (λ (m : ℕ). after_steps steps (late_next d e m)) z ∙ run_passed d e (left - 32) 32 steps w.low few

  pub block_passed : sum ≤ array_element_label → Back d e k first sum (left - 32)
  block_passed m = record { within = omega (arith, w.within); low = omega (arith, w.low); high = m; same = block_same }

  pub block_far : array_element_label < sum → [] ≡ after_steps first (late_next d e k)
  block_far m = sym (block_same ∙ far_off sum (late_next d e (left - 32)) m)

-- the steps of the first i codes of a block
pub record Summed (codes : List ℕ) (from sum i : ℕ) : Type 0 where
  pub within : i ≤ 32
  pub small : sum ≤ i * 67108864
  pub holds : sum ≡ total (λ j. steps_of (codes ! (from + j))) i

pub summed_start : (codes : List ℕ) (from : ℕ) → Summed codes from 0 0
summed_start codes from = record { within = omega arith; small = omega arith; holds = refl }

pub summed_more : (codes : List ℕ) (from s i : ℕ) {v : ℕ} → Summed codes from s i → i < 32 → v ≡ steps_of (codes ! (from + i)) → v ≤ 67108864
    → Summed codes from (s + v) (i + 1)
summed_more codes from s i w l e m = record {
  within = omega arith;
  small = omega (arith, w.small);
  holds = total_more (λ j. steps_of (codes ! (from + j))) i w.holds e;
}

pub summed_end : (codes : List ℕ) (from s i : ℕ) → Summed codes from s i → 32 ≤ i → s ≡ block_steps codes from
unfolding block_steps
summed_end codes from s i w l = total-end (λ j. steps_of (codes ! (from + j))) w.holds w.within l
