-- The spans of a list of objects, told by the short columns. Assumes nothing.
use Rattle.std.specs.Prelude.{◌≡◌, ℕ, ◌+◌, ◌/◌, ◌%◌, ◌<◌, ◌≤◌, List, [], ◌∷◌, length}
use Rattle.columns.specs.Lists.{◌!◌}
use Rattle.store.specs.Blocked.{Blocked}
use Rattle.ask_span.specs.Reading.{span_of}

-- so many offsets have their short number and their block's base
pub record Based (bases short n : ℕ) : Type 0 where
  pub placed : (i : ℕ) → i < n → i < short
  pub based : (i : ℕ) → i < n → i / 256 < bases

-- A count below 255 says that the object's span is so many edges from the start told.
abbrev pub FewTold : Blocked → ℕ → ℕ → ℕ → ℕ → ℕ → Type 0
FewTold b codes targets o start count = count < 255 → span_of b codes targets o ≡ 0 ∷ start ∷ (start + count) ∷ []

-- So many edges lie between two short numbers above one base, and they end by the limit.
pub record Few (bases short : List ℕ) (limit o count : ℕ) : Type 0 where
  pub placed : o + 1 < length short
  pub based : o / 256 < length bases
  pub inner : (o + 1) % 256 ≡ 0 → ⊥
  pub is_short : short ! (o + 1) < 65535
  pub counted : short ! o + count ≡ short ! (o + 1)
  pub limited : bases ! (o / 256) + short ! (o + 1) ≤ limit

-- The spans of the list's objects from one position up to another stand in two columns.
pub record Told (b : Blocked) (codes targets : ℕ) (os t m : List ℕ) (from to : ℕ) : Type 0 where
  pub told : (i : ℕ) → from ≤ i → i < to → FewTold b codes targets (os ! i) (t ! i) (m ! i)

-- Those below i are told, of which some were told before; the columns keep their lengths.
pub record Telling (b : Blocked) (codes targets : ℕ) (os : List ℕ) (from : ℕ) (t₀ m₀ t m : List ℕ) (i : ℕ) : Type 0 where
  pub rises : from ≤ i
  pub within : i ≤ length os
  pub spans : Told b codes targets os t m 0 i
  pub same_targets : length t ≡ length t₀
  pub same_found : length m ≡ length m₀
