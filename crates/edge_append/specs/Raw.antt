-- The references of one object by the raw route: ids are read from its body, over the id size. Assumes nothing.
use Rattle.std.specs.Prelude.{ℕ, ◌+◌, ◌-◌, ◌*◌, ◌≤◌, Bool, cond, List, eqb, leb}
use Rattle.columns.specs.Lists.{◌!◌, tab, part, leading}
use Rattle.rules.specs.declared.ReferencePolicy.{ReferencePolicy}
use Rattle.rules.specs.Types.{keeps}
use Rattle.rules.specs.Input.{big_endian}
use Rattle.rules.specs.Edges.{Ref}
use Rattle.edge_append.specs.Held.{slot_with, element_with}

-- the body stands within the bytes
pub record BodyIn (bytes size start body : ℕ) : Type 0 where
  pub inside : start + body ≤ bytes
  pub short : size ≤ 8

unfoldable pub bytes_id : List ℕ → ℕ → ℕ → ℕ
bytes_id bytes size at = big_endian 0 (part bytes at (at + size))

-- "Reading stops at the first slot that ends past the body."
unfoldable pub slot_ends : List ℕ → ℕ → ℕ → ℕ → ℕ → Bool
slot_ends offsets size body first k = leb (offsets ! (first + k) + size) body

unfoldable pub slots_read : List ℕ → ℕ → ℕ → ℕ → ℕ → ℕ
slots_read offsets size body first count = leading (slot_ends offsets size body first) count

unfoldable pub raw_slot : List ℕ → ℕ → ℕ → List ℕ → List ℕ → List ℕ → Bool → ℕ → ℕ → Ref
raw_slot bytes size start offsets labels weak keeps first k = slot_with labels weak keeps (first + k) (bytes_id bytes size (start + offsets ! (first + k)))

unfoldable pub raw_element : List ℕ → ℕ → ℕ → ℕ → Ref
raw_element bytes size start k = element_with k (bytes_id bytes size (start + k * size))

unfoldable pub raw_slots : List ℕ → ℕ → ℕ → ℕ → List ℕ → List ℕ → List ℕ → List ℕ → List ℕ → List ℕ → ReferencePolicy → ℕ → ℕ → List Ref
raw_slots bytes size start body kinds starts ends offsets labels weak policy kind class =
    tab (raw_slot bytes size start offsets labels weak (keeps policy (kinds ! class)) (starts ! class))
    (slots_read offsets size body (starts ! class) (cond (eqb kind 0) (ends ! class - starts ! class) 0))

unfoldable pub raw_elements : List ℕ → ℕ → ℕ → ℕ → ℕ → List Ref
raw_elements bytes size start kind count = tab (raw_element bytes size start) (cond (eqb kind 1) count 0)
