-- Hints: about where in a column of ids an id stands. The span of the ids is cut into buckets, and each bucket has one place. Assumes nothing.
use Rattle.std.specs.Prelude.{ℕ, zero, suc, ◌+◌, ◌-◌, ◌*◌, ◌/◌, ◌%◌, ◌^◌, min, cond, List, ltb, length, set}
use Rattle.std.specs.Int.Count.{count_leading_zeros}
use Rattle.columns.specs.Lists.{◌!◌}

-- how many bits a number below 2^64 has: all 64 but the zeros before its first one
abbrev pub bit_count : ℕ → ℕ
bit_count n = 64 - count_leading_zeros 64 n

-- To how many bits a distance is scaled for a column of so many short numbers: 16 for the step in a bucket, and those that number the buckets, which are
-- the highest power of two, up to 2^15, that is below the column's number of pairs; or one bucket.
unfoldable pub scaled_bits : ℕ → ℕ
scaled_bits room = 16 + min 15 (bit_count (room / 2 - 1) - 1)

-- the scale by which a number of so many bits gets `most`: it is moved by the scale to the right, or from 64 on by the scale less 64 to the left
unfoldable pub scale_from : ℕ → ℕ → ℕ
scale_from bits most = cond (ltb most bits) (bits - most) (64 + most - bits)

-- the scale of a column of ids: that of the distance from its first id to its last, for a column of so many short numbers; 0 where there is no distance
unfoldable pub scale_of : List ℕ → ℕ → ℕ
scale_of ids room =
    cond (ltb (ids ! 0) (ids ! (length ids - 1))) (scale_from (bit_count (ids ! (length ids - 1) - ids ! 0)) (scaled_bits room)) 0

-- the step in which an id stands: its distance from the first id, scaled, of which 64 bits are kept; 0 for an id below the first
unfoldable pub step_of : ℕ → ℕ → ℕ → ℕ
step_of id first scale = cond (ltb scale 64) ((id - first) / 2 ^ scale) ((id - first) * 2 ^ (scale - 64) % 2 ^ 64)

-- the bucket in which the id at a place stands, for a column of so many short numbers: 65,536 steps are a bucket
unfoldable pub bucket_at : List ℕ → ℕ → ℕ → ℕ
bucket_at ids room i = step_of (ids ! i) (ids ! 0) (scale_of ids room) / 65536

-- the place that a bucket has: a pair of short numbers, the lower half first
abbrev pub hint_at : List ℕ → ℕ → ℕ
hint_at d bucket = d ! (2 * bucket) + d ! (2 * bucket + 1) * 65536

-- the column d with a place written in a bucket; as it was, where it has no pair for that bucket
unfoldable pub with_hint : List ℕ → ℕ → ℕ → List ℕ
with_hint d bucket place =
    cond (ltb bucket (length d / 2)) (set (set d (2 * bucket) (place % 65536)) (2 * bucket + 1) (place / 65536 % 65536)) d

-- the places below n, each written in its bucket: the last one first, so that of all in a bucket the lowest is what stays
unfoldable pub hints_to : (ℕ → ℕ) → ℕ → List ℕ → List ℕ
hints_to bucket zero d = d
hints_to bucket (suc k) d = hints_to bucket k (with_hint d (bucket k) k)

-- What `mark` leaves: each bucket has the place of its first id (`hint_first`), and one without an id has what it had (`hint_kept`).
unfoldable pub hints_of : List ℕ → List ℕ → List ℕ
hints_of ids d = hints_to (bucket_at ids (length d)) (length ids) d
