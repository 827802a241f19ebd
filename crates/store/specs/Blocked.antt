-- Blocked offsets (document 01, "Blocks and labels"): what the coded columns are, and what coding answers. Assumes nothing.
use Rattle.std.specs.Prelude.{ℕ, ◌+◌, ◌-◌, ◌*◌, ◌/◌, ◌≤◌, min, ◌≡◌, Bool, cond, List, [], ◌∷◌, map, ltb, leb, length, Result, Ok, Err}
use Rattle.columns.specs.Lists.{◌!◌, tab, places, first_place}
use Rattle.columns.specs.Columns.{zeros, over, padded, leaves}
use Rattle.store.specs.declared.CodedOffsets.{CodedOffsets}
use Rattle.store.specs.declared.OffsetsError.{OffsetsError}
use Rattle.store.specs.declared.OffsetsError.TheVariants.{Limit, Parts, Room}
-- the four columns, and what reading one offset back answers
pub use Rattle.store_read.specs.Back.{Blocked, blocked_of, read_error_says, offset_says}
unfoldable pub use Rattle.store_read.specs.Back.{long_back, short_back, read_back}

-- Document 01's number and values for each answer; 0 is acceptance, and then the lengths used follow.
abbrev pub coded_says : Result CodedOffsets OffsetsError → List ℕ
coded_says (Ok coded) = 0 ∷ coded.bases ∷ coded.short ∷ coded.long ∷ []
coded_says (Err Limit) = 2 ∷ 0 ∷ []
coded_says (Err (Parts i)) = 10 ∷ 1 ∷ i ∷ []
coded_says (Err (Room k)) = 9 ∷ k ∷ []

-- "Offset i is its block's base (offset at 256 × (i / 256)) plus a short number."
abbrev pub base_at : List ℕ → ℕ → ℕ
base_at vs i = vs ! (i / 256 * 256)

abbrev pub above_at : List ℕ → ℕ → ℕ
above_at vs i = vs ! i - base_at vs i

-- "Block bases, (objects + 1) / 256 rounded up": of n numbers, one for every 256 begun.
abbrev pub blocks_of : ℕ → ℕ
blocks_of n = (n + 255) / 256

-- The first m bases, and the short numbers of the first n numbers.
abbrev pub bases_to : List ℕ → ℕ → List ℕ
bases_to vs m = tab (λ b. vs ! (b * 256)) m

abbrev pub short_to : List ℕ → ℕ → List ℕ
short_to vs n = tab (λ i. min (above_at vs i) 65535) n

-- "Difference 65,534 is short; 65,535 and over stores 65,535 and goes to the long list": its place, and the number whole.
abbrev pub is_long : List ℕ → ℕ → Bool
is_long vs i = leb 65535 (above_at vs i)

abbrev pub long_at_to : List ℕ → ℕ → List ℕ
long_at_to vs n = places (is_long vs) n

abbrev pub long_value_to : List ℕ → ℕ → List ℕ
long_value_to vs n = map (λ i. vs ! i) (long_at_to vs n)

-- The four columns of the numbers vs.
unfoldable pub blocked : List ℕ → Blocked
blocked vs = blocked_of (bases_to vs (blocks_of (length vs))) (short_to vs (length vs)) (long_at_to vs (length vs)) (long_value_to vs (length vs))

-- a number below its block's base; the first place of one, or the length
abbrev pub is_low : List ℕ → ℕ → Bool
is_low vs i = ltb (vs ! i) (base_at vs i)

abbrev pub first_low : List ℕ → ℕ
first_low vs = first_place (is_low vs) (length vs)

-- how many long rows the numbers need
abbrev pub long_rows : List ℕ → ℕ
long_rows vs = length (long_at_to vs (length vs))

-- "Coding offsets refuses over 67,108,865 values with LIMIT, then a value below its block's base with PARTS (column 1, its position), before
-- ROOM 4 and 5." Buffer 4 is bases and short numbers, buffer 5 the long list; nb, ns, na, nv are the lengths lent.
unfoldable pub coding_says : List ℕ → ℕ → ℕ → ℕ → ℕ → List ℕ
coding_says vs nb ns na nv =
    cond (ltb 67108865 (length vs)) (2 ∷ 0 ∷ [])
    (cond (ltb (first_low vs) (length vs)) (10 ∷ 1 ∷ first_low vs ∷ [])
    (cond (ltb nb (blocks_of (length vs))) (9 ∷ 4 ∷ [])
    (cond (ltb ns (length vs)) (9 ∷ 4 ∷ [])
    (cond (ltb na (long_rows vs)) (9 ∷ 5 ∷ [])
    (cond (ltb nv (long_rows vs)) (9 ∷ 5 ∷ [])
    (0 ∷ blocks_of (length vs) ∷ length vs ∷ long_rows vs ∷ []))))))

-- The same as facts: nothing is refused.
pub record Accepted (vs : List ℕ) (nb ns na nv : ℕ) : Type 0 where
  pub few : length vs ≤ 67108865
  pub risen : length vs ≤ first_low vs
  pub room_bases : blocks_of (length vs) ≤ nb
  pub room_short : length vs ≤ ns
  pub room_at : long_rows vs ≤ na
  pub room_value : long_rows vs ≤ nv

-- The four columns as an acceptance leaves them: the unused ends are zero.
pub record Filled (vs : List ℕ) (nb ns na nv : ℕ) (b s a v : List ℕ) : Type 0 where
  pub bases : b ≡ padded (blocked vs).bases nb
  pub short : s ≡ padded (blocked vs).short ns
  pub long_at : a ≡ padded (blocked vs).long_at na
  pub long_value : v ≡ padded (blocked vs).long_value nv

-- The four columns as a refusal leaves them.
pub record Emptied (nb ns na nv : ℕ) (b s a v : List ℕ) : Type 0 where
  pub bases : b ≡ zeros nb
  pub short : s ≡ zeros ns
  pub long_at : a ≡ zeros na
  pub long_value : v ≡ zeros nv

-- The long rows written over the front of their two columns.
pub record LongWritten (vs a₀ v₀ a v : List ℕ) : Type 0 where
  pub long_at : a ≡ over (long_at_to vs (length vs)) a₀
  pub long_value : v ≡ over (long_value_to vs (length vs)) v₀

-- What `code_offsets` answers, r, and leaves in the four columns that it is lent: all zero after a refusal.
pub record Coding (vs : List ℕ) (nb ns na nv : ℕ) (r : Result CodedOffsets OffsetsError) (b s a v : List ℕ) : Type 0 where
  pub answer : coded_says r ≡ coding_says vs nb ns na nv
  pub bases : b ≡ leaves (coded_says r) (blocked vs).bases nb
  pub short : s ≡ leaves (coded_says r) (blocked vs).short ns
  pub long_at : a ≡ leaves (coded_says r) (blocked vs).long_at na
  pub long_value : v ≡ leaves (coded_says r) (blocked vs).long_value nv
