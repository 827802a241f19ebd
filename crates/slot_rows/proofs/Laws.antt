-- From what the steps leave to the contract of filling; rows from columns. Assumes nothing.
use mathlib.Core.Path.{◌≡◌, refl, sym, ap, ◌∙◌}
use mathlib.Core.Bool.{Bool, true, false, cond, false≢true}
use mathlib.Core.List.{List, [], ◌∷◌, ◌++◌, map}
use Prim.Native.Nat.{ℕ, ◌+◌, ◌≤◌, ◌<◌, min}
use native.Mathlib.Numerals.{add-one}
use native.Mathlib.Omega.{arith}
use borrow.Author.Tests.{ltb-true, ltb-false, lt-ltb, le-ltb}
use lib.Dec.{ltb}
use lib.ListN.{length, get_or, set, take, drop, length-map, length-take}
use lib.Seq.{take-suc, take-length, length-take-le, ext_get_or, get_or-take, drop-cons, set_at, append_snoc}
use Rattle.columns.specs.Lists.{◌!◌, any_of, tab}
use Rattle.columns.specs.Columns.{zeros, over, cleared, padded, accepts, leaves}
use Rattle.columns.proofs.Lists.{map_at, tab-length, tab-at}
use Rattle.columns.proofs.Sums.{map-append}
use Rattle.columns.proofs.Written.{cleared_all, cleared-over, leaves-zeros, leaves-padded}
use Rattle.rules.specs.Built.{fill_says, slots_left}
use Rattle.slot_rows.specs.declared.SlotRow.{SlotRow}
use Rattle.std.specs.Prelude.{Result}
use Rattle.slot_rows.specs.declared.FillError.{FillError}
use Rattle.slot_rows.specs.Rows.{filled_says, row_offset, row_label, row_weak, Filling, RowsSettled, room_for, row_of, row_count, rows_of}

-- the row past the end
abbrev no_row : SlotRow
no_row = record { offset = 0; label = 0; weak = 0 }

-- one row more, as the walk along the rows that are written reads it
pub rows_more : (f : SlotRow → ℕ) (rows : List SlotRow) (room i : ℕ) → i < length (take room rows)
    → map f (take (i + 1) rows) ≡ map f (take i rows) ++ (f (get_or (take room rows) i no_row) ∷ [])
rows_more f rows room i h =
    let l : i < room = omega (arith, length-take room rows) in
    let m : i < length rows = omega (arith, length-take room rows) in
    rw (get_or-take room rows i no_row l, add-one i, take-suc rows i no_row m) (map-append f (take i rows) (get_or rows i no_row ∷ []))

-- one number more of those that are copied to the front of a column
pub copied_more : {A : Type 0} (xs d₀ : List A) {d : List A} (i : ℕ) (v : A) → v ≡ get_or xs i v → i < length xs → i < length d₀ → d ≡ take i xs ++ drop i d₀
    → set d i v ≡ take (i + 1) xs ++ drop (i + 1) d₀
copied_more xs d₀ {d} i v e l m c =
    let more : take (i + 1) xs ≡ take i xs ++ (v ∷ []) = rw (add-one i, take-suc xs i v l, ← e) refl in
    rw (c, drop-cons d₀ i v m, set_at (take i xs) _ _ v i (length-take-le i xs (omega arith)), more, add-one i, append_snoc)

-- a column after the first k rows were written to its front
abbrev pub Wrote : (SlotRow → ℕ) → List SlotRow → ℕ → List ℕ → List ℕ → Type 0
Wrote f rows k d₀ d = d ≡ over (map f (take k rows)) d₀

-- How many rows are written, by whether a column is too short.
abbrev short : ℕ → ℕ → ℕ → ℕ → Bool
short n a b c = any_of (ltb a n ∷ ltb b n ∷ ltb c n ∷ [])

some_short : (n a b c : ℕ) → short n a b c ≡ true → 0 < n
unfolding any_of
some_short n a b c h = go (ltb a n) refl (ltb b n) refl (ltb c n) refl h
  where
    go : (x : Bool) → ltb a n ≡ x → (y : Bool) → ltb b n ≡ y → (z : Bool) → ltb c n ≡ z → any_of (x ∷ y ∷ z ∷ []) ≡ true → 0 < n
    go true e y f z g h = omega (arith, ltb-true a n e)
    go false e true f z g h = omega (arith, ltb-true b n f)
    go false e false f true g h = omega (arith, ltb-true c n g)
    go false e false f false g h = absurd (false≢true h)

pub too_short : (n a b c : ℕ) → min (min a b) c < n → room_for n a b c ≡ 0
unfolding room_for any_of
too_short n a b c l = go (ltb a n) refl (ltb b n) refl (ltb c n) refl
  where
    go : (x : Bool) → ltb a n ≡ x → (y : Bool) → ltb b n ≡ y → (z : Bool) → ltb c n ≡ z → cond (any_of (x ∷ y ∷ z ∷ [])) 0 n ≡ 0
    go true e y f z g = refl
    go false e true f z g = refl
    go false e false f true g = refl
    go false e false f false g = absurd (omega (arith, ltb-false a n e, ltb-false b n f, ltb-false c n g))

pub room_enough : (n a b c : ℕ) → n ≤ min (min a b) c → room_for n a b c ≡ n
unfolding room_for any_of
room_enough n a b c l = simp (le-ltb a n (omega arith), le-ltb b n (omega arith), le-ltb c n (omega arith))

-- What the steps leave is what the contract says.
module _ (rows : List SlotRow) (o₀ l₀ w₀ : List ℕ) {o l w o' l' w' : List ℕ} {r : Result ℕ FillError} {n room : ℕ} (count : n ≡ length rows) (rm : room ≡ room_for n (length o₀) (length l₀) (length w₀))
    (fits : (room ≤ n) × (room ≤ length o₀) × (room ≤ length l₀) × (room ≤ length w₀)) (s : RowsSettled n room r o l w o' l' w') where
  abbrev a : ℕ
  a = length o₀

  abbrev b : ℕ
  b = length l₀

  abbrev c : ℕ
  c = length w₀

  -- the answer
  says : filled_says r ≡ fill_says row_offset row_label row_weak rows a b c
  unfolding fill_says room_for
  says = s.answer ∙ rw (rm, ← count) (go (short n a b c) refl)
    where
      go : (t : Bool) → short n a b c ≡ t → cond (ltb (cond t 0 n) n) (9 ∷ 17 ∷ []) (0 ∷ n ∷ []) ≡ cond t (9 ∷ 17 ∷ []) (0 ∷ n ∷ [])
      go true h = rw (lt-ltb 0 n (some_short n a b c h))
      go false h = rw (le-ltb n n (omega arith))

  -- one column
  column : (f : SlotRow → ℕ) (m : ℕ) (d₀ d d' : List ℕ) → length d₀ ≡ m → room ≤ m → Wrote f rows room d₀ d → d' ≡ cleared room d → d' ≡ leaves (fill_says row_offset row_label row_weak rows a b c) (map f rows) m
  unfolding fill_says room_for accepts over
  column f m d₀ d d' len fits wrote e = go (short n a b c) refl
    where
      go : (t : Bool) → short n a b c ≡ t → d' ≡ leaves (fill_says row_offset row_label row_weak rows a b c) (map f rows) m
      go true h =
          let none : room ≡ 0 = rm ∙ rw h in
          let same : d ≡ d₀ = wrote ∙ rw none in
          leaves-zeros _ (map f rows) m (rw (← count, h)) (e ∙ rw none (cleared_all d) ∙ ap zeros (ap length same ∙ len))
      go false h =
          let all : room ≡ length rows = rm ∙ rw h count in
          let long : length (map f rows) ≡ room = length-map rows f ∙ sym all in
          let every : take room rows ≡ rows = rw all (take-length rows) in
          let whole : d ≡ over (map f rows) d₀ = wrote ∙ ap (λ (z : List SlotRow). over (map f z) d₀) every in
          leaves-padded _ (map f rows) m (rw (← count, h)) (e ∙ ap (cleared room) whole ∙ cleared-over (map f rows) d₀ room long (rw len fits) ∙ ap (padded (map f rows)) len)

  pub filled : Wrote row_offset rows room o₀ o → Wrote row_label rows room l₀ l → Wrote row_weak rows room w₀ w → Filling rows a b c r o' l' w'
  unfolding slots_left
  filled wo wl ww = record {
    answer = says;
    offsets = column row_offset a o₀ o o' refl fits.1 wo s.offsets;
    labels = column row_label b l₀ l l' refl fits.2 wl s.labels;
    weak = column row_weak c w₀ w w' refl fits.3 ww s.weak;
  }

-- Rows from columns: what is copied from a column is the rows' values.
module _ (f : SlotRow → ℕ) (g : ℕ → SlotRow) (xs : List ℕ) (n k : ℕ) (a : k ≤ n) (b : k ≤ length xs) (h : (i : ℕ) → f (g i) ≡ xs ! i) where
  long : k ≤ length (tab g n)
  long = omega (arith, tab-length g n)

  pub copied-rows : take k xs ≡ map f (take k (tab g n))
  copied-rows =
      let few : length (take k xs) ≡ k = length-take-le k xs b in
      let same : length (map f (take k (tab g n))) ≡ k = length-map (take k (tab g n)) f ∙ length-take-le k (tab g n) long in
      ext_get_or 0 (take k xs) (map f (take k (tab g n))) (few ∙ sym same)
      (λ i l.
      let m : i < k = omega (arith, few) in
      let there : i < length (take k (tab g n)) = omega (arith, length-take-le k (tab g n) long) in
      get_or-take k xs i 0 m ∙ sym (h i) ∙ ap f (sym (get_or-take k (tab g n) i (g 0) m ∙ tab-at g (g 0) n i (omega arith))) ∙ sym (map_at f (g 0) (take k (tab g n)) i there))

module _ (fo fl fw o₀ l₀ w₀ : List ℕ) {n room : ℕ} (count : n ≡ min (min (length fo) (length fl)) (length fw))
    (rm : room ≡ room_for n (length o₀) (length l₀) (length w₀)) (fits : (room ≤ n) × (room ≤ length o₀) × (room ≤ length l₀) × (room ≤ length w₀)) where
  copied : (f : SlotRow → ℕ) (xs d₀ : List ℕ) {d : List ℕ} → room ≤ length xs → ((i : ℕ) → f (row_of fo fl fw i) ≡ xs ! i) → d ≡ take room xs ++ drop room d₀
      → Wrote f (tab (row_of fo fl fw) n) room d₀ d
  unfolding over
  copied f xs d₀ b h e =
      let used : length (take room xs) ≡ room = length-take-le room xs b in
      let same : take room xs ++ drop room d₀ ≡ take room xs ++ drop (length (take room xs)) d₀ = ap (λ (k : ℕ). take room xs ++ drop k d₀) (sym used) in
      e ∙ same ∙ ap (λ (z : List ℕ). z ++ drop (length z) d₀) (copied-rows f (row_of fo fl fw) xs n room fits.0 b h)

  pub columns_filled : {o l w o' l' w' : List ℕ} {r : Result ℕ FillError} → RowsSettled n room r o l w o' l' w' → o ≡ take room fo ++ drop room o₀ → l ≡ take room fl ++ drop room l₀ → w ≡ take room fw ++ drop room w₀
      → Filling (rows_of fo fl fw) (length o₀) (length l₀) (length w₀) r o' l' w'
  unfolding rows_of row_count
  columns_filled s eo el ew =
      let g = row_of fo fl fw in
      rw (← count) (filled (tab g n) o₀ l₀ w₀ (sym (tab-length g n)) rm fits s (copied row_offset fo o₀ (omega (arith, count, fits.0)) (λ i. refl) eo)
      (copied row_label fl l₀ (omega (arith, count, fits.0)) (λ i. refl) el) (copied row_weak fw w₀ (omega (arith, count, fits.0)) (λ i. refl) ew))
