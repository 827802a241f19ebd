-- The first half of a build: the checks, the needs, ROOM 1 to 4, and the edges. Assumes nothing.
use Rattle.std.specs.Prelude.{ℕ, ◌≤◌, ◌<◌, ◌≡◌, List, length}
use Rattle.columns.specs.Lists.{◌!◌}
use Rattle.rules.specs.declared.Counts.{Counts}
use Rattle.rules.specs.declared.Refusal.{Refusal}
use Rattle.std.specs.Prelude.{Result}
use Rattle.rules.specs.Types.{built_says}
use Rattle.rules.specs.Input.{Input}
use Rattle.edge_append.specs.Held.{SlotsIn}
use Rattle.edge_append.specs.Raw.{BodyIn}
use Rattle.need_weak.specs.Pairs.{ObjectsIn}
use Rattle.build_rooms.specs.Stages.{early, half_says, Laid}

-- What it answers, and what it leaves where it accepts; b and s are the lengths lent for bases and short numbers.
pub record Laying (x : Input) (b s : ℕ) (r : Result Counts Refusal) (ts₀ ls₀ fs₀ ws₀ rs₀ wk₀ ts ls fs ws rs wk : List ℕ) (a : List (List ℕ)) : Type 0 where
  pub answer : built_says r ≡ half_says x (early (length ts₀) (length ls₀) (length fs₀) (length ws₀) (length rs₀) b s (length wk₀))
  pub laid : Laid x (built_says r) ts₀ fs₀ ws₀ rs₀ ts ls fs ws rs wk a

-- What counting weak pairs asks of the columns, all of which an accepted input has: by the copied route,
pub record CopiedAsked (ids kinds classes starts classKinds slot_start slot_end : List ℕ) (weak : ℕ) : Type 0 where
  pub objects : ObjectsIn ids kinds classes starts
  pub even : length kinds ≡ length ids
  pub few : weak ≤ 268435456
  pub slots : (o : ℕ) → o < length ids → SlotsIn classKinds slot_start slot_end weak weak (kinds ! o) (classes ! o) (starts ! o)

-- and by the raw route.
pub record RawAsked (ids kinds classes starts bodies : List ℕ) (bytes size : ℕ) (classKinds slot_start slot_end : List ℕ) (offsets weak : ℕ) : Type 0 where
  pub objects : ObjectsIn ids kinds classes starts
  pub even : length kinds ≡ length ids
  pub bodies_long : length ids ≤ length bodies
  pub few : weak ≤ 268435456
  pub slots : (o : ℕ) → o < length ids → SlotsIn classKinds slot_start slot_end offsets weak (kinds ! o) (classes ! o) 0
  pub body : (o : ℕ) → o < length ids → kinds ! o ≡ 0 → BodyIn bytes size (starts ! o) (bodies ! o)
