-- Places of one slot or element, and the parts of all objects, by the columns that counting them reads. Each comment names the law of
-- `check_places/proofs/Routes.antt` that ties them to the rules. Assumes nothing.
use Rattle.std.specs.Prelude.{ℕ, ◌+◌, ◌≤◌, ◌<◌, ◌≡◌, Bool, not, List, [], ◌∷◌, eqb, length}
use Rattle.columns.specs.Lists.{◌!◌, one, total, all_of, any_of}
use Rattle.check_ids.specs.Spans.{part_length}

-- "Raw counts every slot, every element": an object's part, the rules `slot_count` and `element_count`, by the law `raw-own`
abbrev pub part_at : List ℕ → List ℕ → List ℕ → List ℕ → List ℕ → ℕ → ℕ
part_at kinds classes lengths slot_start slot_end o = part_length (kinds ! o) (classes ! o) (lengths ! o) slot_start slot_end

-- "Copied counts kept non-zero slots, non-zero elements": the rule `takes` of one slot (law `slot-one`) and of one element (law `element-one`);
-- a code is 0 where the id is (law `code-zero`).
unfoldable pub slot_held : Bool → ℕ → ℕ → Bool
slot_held kept weak code = all_of (any_of (not (eqb weak 1) ∷ kept ∷ []) ∷ not (eqb code 0) ∷ [])

abbrev pub one_code : List ℕ → ℕ → ℕ → ℕ
one_code codes start k = one (not (eqb (codes ! (start + k)) 0))

-- the codes that are not 0 of an object's part
abbrev pub codes_in : List ℕ → List ℕ → List ℕ → List ℕ → List ℕ → List ℕ → List ℕ → ℕ → ℕ
codes_in kinds classes lengths slot_start slot_end codes starts o = total (one_code codes (starts ! o)) (part_at kinds classes lengths slot_start slot_end o)

-- What counting asks of the columns, all of which an input has that passed the tests before: of the objects on the raw route,
pub record PartTables (kinds classes lengths slot_start slot_end : List ℕ) : Type 0 where
  pub classes_long : length classes ≡ length kinds
  pub lengths_long : length lengths ≡ length kinds
  pub ends_long : length slot_end ≡ length slot_start
  pub few : length kinds ≤ 67108864

-- and of the parts alone: each stands within n codes.
pub record PartsIn (kinds classes lengths slot_start slot_end starts : List ℕ) (n : ℕ) : Type 0 where
  pub classes_long : length classes ≡ length kinds
  pub lengths_long : length lengths ≡ length kinds
  pub starts_long : length starts ≡ length kinds
  pub ends_long : 0 < length kinds → length slot_end ≡ length slot_start
  pub span : (o : ℕ) → o < length kinds → kinds ! o < 2 → starts ! o + part_at kinds classes lengths slot_start slot_end o ≤ n
