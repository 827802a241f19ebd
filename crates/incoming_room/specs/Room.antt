-- The two ends of inverting: what can be refused before an entry is laid, and what is cleared behind the answer. Assumes nothing.
use Rattle.std.specs.Prelude.{ℕ, suc, ◌≡◌, cond, List, [], ◌∷◌, ltb, length}
use Rattle.columns.specs.Lists.{any_of}
use Rattle.columns.specs.Columns.{zeros, cleared, kept}
use Rattle.store.specs.Blocked.{blocks_of}
use Rattle.rules.specs.Incoming.{InRooms}

-- the room lent but for the long rows
abbrev pub lent_rooms : ℕ → ℕ → ℕ → ℕ → ℕ → InRooms
lent_rooms sources places bases short working =
    record { sources = sources; places = places; bases = bases; short = short; long_at = 0; long_value = 0; working = working }

-- What can be said before the entries are laid: COLUMNS, ROOM 10, and ROOM 11 but for the long rows; on acceptance the entries.
unfoldable pub early_says : ℕ → ℕ → ℕ → InRooms → List ℕ
early_says bad objects entries r =
    cond (ltb bad objects) (12 ∷ bad ∷ [])
    (cond (any_of (ltb r.sources entries ∷ ltb r.places entries ∷ [])) (9 ∷ 10 ∷ [])
    (cond (any_of (ltb r.bases (blocks_of (suc objects)) ∷ ltb r.short (suc objects) ∷ ltb r.working (suc objects) ∷ [])) (9 ∷ 11 ∷ [])
    (0 ∷ entries ∷ 0 ∷ [])))

-- The end: what the answer does not keep of the entries is cleared, and so is the work space.
pub record Settled (says says' s₀ p₀ w₀ s p w : List ℕ) : Type 0 where
  pub answer : says' ≡ says
  pub sources : s ≡ cleared (kept 1 says) s₀
  pub places : p ≡ cleared (kept 1 says) p₀
  pub working : w ≡ zeros (length w₀)
