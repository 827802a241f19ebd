-- The stages of inverting that know no entry: what each one answers and leaves. Assumes nothing.
use Rattle.std.specs.Prelude.{ℕ, ◌+◌, ◌-◌, ◌≤◌, ◌≡◌, Bool, true, cond, List, [], ◌∷◌, leb, length, take}
use Rattle.columns.specs.Lists.{◌!◌, all_of}
use Rattle.columns.specs.Columns.{accepts, leaves}
use Rattle.columns.specs.Ranks.{Climbs}
use Rattle.store.specs.Blocked.{Blocked, read_back, blocked, blocks_of, coding_says}
-- what can be said before the entries are laid, and the end
pub use Rattle.incoming_room.specs.Room.{lent_rooms, Settled}
unfoldable pub use Rattle.incoming_room.specs.Room.{early_says}

-- How many entries there are, one for each edge: from the first object's offset up to the last one's end. 0 where one of the two cannot be read.
unfoldable pub between_of : List ℕ → List ℕ → ℕ
between_of first last = cond (all_of (accepts first ∷ accepts last ∷ [])) (last ! 1 - first ! 1) 0

unfoldable pub entries_of : Blocked → ℕ
entries_of b = between_of (read_back b 0) (read_back b (length b.short - 1))

-- Numbers that climb, within the limit, with room for their bases and short numbers: coding can refuse their long rows alone.
pub record Climbing (vs : List ℕ) (nb ns : ℕ) : Type 0 where
  pub few : length vs ≤ 67108865
  pub climbs : Climbs vs
  pub room_bases : blocks_of (length vs) ≤ nb
  pub room_short : length vs ≤ ns

unfoldable pub long_fits : ℕ → ℕ → ℕ → Bool
long_fits rows na nv = all_of (leb rows na ∷ leb rows nv ∷ [])

-- What coding asks, behind an answer that accepts: the working column begins with the offsets.
pub record CodeReadied (objects : ℕ) (w : List ℕ) (nb ns : ℕ) : Type 0 where
  pub long : objects + 1 ≤ length w
  pub climbing : Climbing (take (objects + 1) w) nb ns

abbrev pub CodeReady : List ℕ → ℕ → List ℕ → ℕ → ℕ → Type 0
CodeReady says objects w nb ns = accepts says ≡ true → CodeReadied objects w nb ns

-- From the answer of coding the offsets, of so many entries: any refusal of that is ROOM 11. An answer so far that refuses is handed on.
unfoldable pub coded_as : ℕ → List ℕ → List ℕ
coded_as entries coding = cond (accepts coding) (0 ∷ entries ∷ coding ! 3 ∷ []) (9 ∷ 11 ∷ [])

unfoldable pub coded_after : List ℕ → List ℕ → List ℕ
coded_after says coding = cond (accepts says) (coded_as (says ! 1) coding) says

-- The offsets coded, from the front of the working column.
pub record CodedIn (says : List ℕ) (objects : ℕ) (w : List ℕ) (nb ns na nv : ℕ) (says' b s a v : List ℕ) : Type 0 where
  pub answer : says' ≡ coded_after says (coding_says (take (objects + 1) w) nb ns na nv)
  pub bases : b ≡ leaves says' (blocked (take (objects + 1) w)).bases nb
  pub short : s ≡ leaves says' (blocked (take (objects + 1) w)).short ns
  pub long_at : a ≡ leaves says' (blocked (take (objects + 1) w)).long_at na
  pub long_value : v ≡ leaves says' (blocked (take (objects + 1) w)).long_value nv
