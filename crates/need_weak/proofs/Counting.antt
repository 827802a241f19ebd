-- Weak pairs counted slot by slot: which slots give one, and one slot more. Assumes nothing.
use Prim.Native.Nat.{ℕ, ◌+◌, ◌-◌, ◌≤◌}
use native.Mathlib.Nat.{add-zero}
use native.Mathlib.Numerals.{add-one}
use native.Mathlib.Omega.{arith}
use mathlib.Core.Path.{◌≡◌, refl, sym, ap, ap₂, ◌∙◌}
use mathlib.Core.Bool.{Bool, true, false, cond, not, ◌||◌}
use mathlib.Core.List.{List, []}
use mathlib.Core.Option.{Option, none, some}
use lib.Dec.{eqb}
use lib.ListN.{length}
use borrow.Author.Tests.{eq-eqb, ne_eqb}
use Rattle.std.specs.Prelude.{Result, Ok, Err, is_ok}
use Rattle.columns.specs.Lists.{◌!◌, one, tab, find, total}
use Rattle.lookup.specs.Lookup.{lookup_of}
use Rattle.columns.proofs.Sums.{length-flat, sum-tab, total_none}
use Rattle.index.specs.Copied.{Ids}
use Rattle.rules.specs.declared.ReferencePolicy.{ReferencePolicy}
use Rattle.rules.specs.Types.{keeps}
use Rattle.rules.specs.Edges.{Kind, slot, element, static, loader, Ref, Outcome, outcome, settled, absent, nothing, weak_of, ref_weak}
use Rattle.rules.proofs.Bounds.{weak_few}
use Rattle.edge_append.specs.Append.{ref_of, weak_among}
use Rattle.edge_append.specs.Held.{kept_of, slot_with, copied_slot, copied_slots}
use Rattle.edge_append.specs.Raw.{raw_slot, raw_slots, slots_read}
use Rattle.edge_append.proofs.Outcomes.{Becomes, other_weak, lost-missing}
use Rattle.edge_append.proofs.Reading.{slots_none, slots_some}
use Rattle.edge_append.proofs.Bytes.{raw_none, raw_some}
use Rattle.need_weak.specs.Pairs.{pair_to, pairs_in, copied_pairs, copied_total, raw_pairs, raw_total}

-- What an id comes to, by what the lookup answers.
pub pair_is : (ids : List ℕ) (id : ℕ) {u : Outcome} → Becomes ids (ref_of 0 0 false id) u → length (weak_of u) ≡ pair_to ids id
unfolding pair_to
pair_is ids id b = sym (ap (λ (u : Outcome). length (weak_of u)) b.told)

-- the same by whether the lookup finds it
pub pair_sought : (ids : List ℕ) (id : ℕ) → (id ≡ 0 → ⊥) → (r : Result ℕ ℕ) → r ≡ lookup_of ids id → one (is_ok r) ≡ pair_to ids id
pair_sought ids id h (Ok t) e = pair_is ids id (other_weak ids 0 0 false id h e refl)
pair_sought ids id h (Err p) e = pair_is ids id (lost-missing ids 0 0 false id h e (omega arith))

-- a reference that is kept gives no weak pair, and none gives more than one
absent_none : (k : Kind) → weak_of (absent k) ≡ []
absent_none slot = refl
absent_none element = refl
absent_none static = refl
absent_none loader = refl

settled-kept : (k : Kind) (f : Option ℕ) → weak_of (settled k true f) ≡ []
settled-kept k none = absent_none k
settled-kept k (some t) = refl

pub kept_none : (ids : List ℕ) (r : Ref) → r.kept ≡ true → ref_weak ids r ≡ []
unfolding outcome
kept_none ids r h = rw h (go (eqb r.id 0))
  where
    go : (b : Bool) → weak_of (cond b nothing (settled r.kind true (find ids r.id))) ≡ []
    go true = refl
    go false = settled-kept r.kind (find ids r.id)

-- the same of a slot at a place, whatever its label is
module _ (ids labels weak : List ℕ) (place id : ℕ) where
  pub slot-pair : weak ! place ≡ 1 → length (ref_weak ids (slot_with labels weak false place id)) ≡ pair_to ids id
  unfolding slot_with kept_of pair_to outcome
  slot-pair h = rw (eq-eqb (weak ! place) 1 h)

  pub slot_kept_lem : (weak ! place ≡ 1 → ⊥) → length (ref_weak ids (slot_with labels weak false place id)) ≡ 0
  unfolding slot_with kept_of
  slot_kept_lem h = ap length (kept_none ids (slot_with labels weak false place id) (rw (ne_eqb (weak ! place) 1 h)))

  pub class_kept : ref_weak ids (slot_with labels weak true place id) ≡ []
  unfolding slot_with kept_of
  class_kept = kept_none ids (slot_with labels weak true place id) (go (not (eqb (weak ! place) 1)))
    where
      go : (b : Bool) → b || true ≡ true
      go true = refl
      go false = refl

-- references of a table, summed
pub pairs-tab : (ids : List ℕ) (f : ℕ → Ref) (n : ℕ) → pairs_in ids (tab f n) ≡ total (λ k. length (ref_weak ids (f k))) n
unfolding pairs_in weak_among
pairs-tab ids f n = length-flat (ref_weak ids) (tab f n) ∙ sum-tab (λ r. length (ref_weak ids r)) f n

pub pairs_none : (ids : List ℕ) (f : ℕ → Ref) → 0 ≡ pairs_in ids (tab f 0)
pairs_none ids f = sym (pairs-tab ids f 0)

module _ (ids : List ℕ) (f : ℕ → Ref) (k : ℕ) {n : ℕ} (e : n ≡ pairs_in ids (tab f k)) (labels weak : List ℕ) (place id : ℕ) (r : slot_with labels weak false place id ≡ f k) where
  more : pairs_in ids (tab f (k + 1)) ≡ n + length (ref_weak ids (slot_with labels weak false place id))
  more =
      pairs-tab ids f (k + 1) ∙ ap (total (λ i. length (ref_weak ids (f i)))) (add-one k)
      ∙ ap₂ ◌+◌ (sym (e ∙ pairs-tab ids f k)) (ap (λ (r : Ref). length (ref_weak ids r)) (sym r))

  pub pairs-weak : weak ! place ≡ 1 → {m : ℕ} → m ≡ pair_to ids id → n + m ≡ pairs_in ids (tab f (k + 1))
  pairs-weak h g = ap (λ (m : ℕ). n + m) (g ∙ sym (slot-pair ids labels weak place id h)) ∙ sym more

  pub pairs_other : (weak ! place ≡ 1 → ⊥) → n ≡ pairs_in ids (tab f (k + 1))
  pairs_other h = sym (more ∙ ap (λ (m : ℕ). n + m) (slot_kept_lem ids labels weak place id h) ∙ add-zero n)

pub pair_few : (ids : List ℕ) (id : ℕ) → pair_to ids id ≤ 1
unfolding pair_to
pair_few ids id = weak_few (outcome ids (ref_of 0 0 false id))

-- where no reference gives a pair, there is none
pub none_in : (ids : List ℕ) (f : ℕ → Ref) (n : ℕ) → ((k : ℕ) → ref_weak ids (f k) ≡ []) → 0 ≡ pairs_in ids (tab f n)
none_in ids f n h = sym (pairs-tab ids f n ∙ total_none _ n (λ k l. ap length (h k)))

empty_in : (ids : List ℕ) → 0 ≡ pairs_in ids []
unfolding pairs_in weak_among
empty_in ids = refl

-- One object's pairs, by its kind and by whether its class's kind is kept: by the copied route,
module _ (ids : List ℕ) (c : Ids) (start : ℕ) (kinds starts ends weak : List ℕ) (policy : ReferencePolicy) (kind class : ℕ) where
  pub copied_none : (kind ≡ 0 → ⊥) → 0 ≡ copied_pairs ids c start kinds starts ends weak policy kind class
  unfolding copied_pairs
  copied_none h = empty_in ids ∙ ap (pairs_in ids) (slots_none c start kinds starts ends [] weak policy kind class h)

  pub copied-kept : {kept : Bool} → kept ≡ keeps policy (kinds ! class) → kept ≡ true → 0 ≡ copied_pairs ids c start kinds starts ends weak policy kind class
  unfolding copied_pairs copied_slots copied_slot
  copied-kept e h = rw (← e, h) (none_in ids _ _ (λ k. class_kept ids [] weak (starts ! class + k) _))

  pub copied_some : kind ≡ 0 → {kept : Bool} {first last : ℕ} → kept ≡ keeps policy (kinds ! class) → kept ≡ false → first ≡ starts ! class → last ≡ ends ! class
      → pairs_in ids (tab (copied_slot c start [] weak false first) (last - first)) ≡ copied_pairs ids c start kinds starts ends weak policy kind class
  unfolding copied_pairs
  copied_some h e k f g = ap (pairs_in ids) (slots_some c start kinds starts ends [] weak policy kind class h (sym k ∙ e) f g)

-- and by the raw route.
module _ (ids bytes : List ℕ) (size start body : ℕ) (kinds starts ends offsets weak : List ℕ) (policy : ReferencePolicy) (kind class : ℕ) where
  pub raw_no_pairs : (kind ≡ 0 → ⊥) → 0 ≡ raw_pairs ids bytes size start body kinds starts ends offsets weak policy kind class
  unfolding raw_pairs
  raw_no_pairs h = empty_in ids ∙ ap (pairs_in ids) (raw_none bytes size start body kinds starts ends offsets [] weak policy kind class h)

  pub raw-kept : {kept : Bool} → kept ≡ keeps policy (kinds ! class) → kept ≡ true → 0 ≡ raw_pairs ids bytes size start body kinds starts ends offsets weak policy kind class
  unfolding raw_pairs raw_slots raw_slot
  raw-kept e h = rw (← e, h) (none_in ids _ _ (λ k. class_kept ids [] weak (starts ! class + k) _))

  pub raw-pairs : kind ≡ 0 → {kept : Bool} {first last : ℕ} → kept ≡ keeps policy (kinds ! class) → kept ≡ false → first ≡ starts ! class → last ≡ ends ! class
      → pairs_in ids (tab (raw_slot bytes size start offsets [] weak false first) (slots_read offsets size body first (last - first))) ≡ raw_pairs ids bytes size start body kinds starts ends offsets weak policy kind class
  unfolding raw_pairs
  raw-pairs h e k f g = ap (pairs_in ids) (raw_some bytes size start body kinds starts ends offsets [] weak policy kind class h (sym k ∙ e) f g)

-- one object more
pub copied_more : (ids kinds classes starts : List ℕ) (c : Ids) (classKinds slot_start slot_end weak : List ℕ) (policy : ReferencePolicy) (o : ℕ) {n r start class : ℕ}
    → n ≡ copied_total ids kinds classes starts c classKinds slot_start slot_end weak policy o → start ≡ starts ! o → class ≡ classes ! o
    → r ≡ copied_pairs ids c start classKinds slot_start slot_end weak policy (kinds ! o) class → n + r ≡ copied_total ids kinds classes starts c classKinds slot_start slot_end weak policy (o + 1)
unfolding copied_total
copied_more ids kinds classes starts c classKinds slot_start slot_end weak policy o e f g h = rw (add-one o) (ap₂ ◌+◌ e (rw (f, g) at h))

pub raw_more : (ids kinds classes starts bodies bytes : List ℕ) (size : ℕ) (classKinds slot_start slot_end offsets weak : List ℕ) (policy : ReferencePolicy) (o : ℕ) {n r body class : ℕ}
    → n ≡ raw_total ids kinds classes starts bodies bytes size classKinds slot_start slot_end offsets weak policy o → body ≡ bodies ! o → class ≡ classes ! o
    → r ≡ raw_pairs ids bytes size (starts ! o) body classKinds slot_start slot_end offsets weak policy (kinds ! o) class
    → n + r ≡ raw_total ids kinds classes starts bodies bytes size classKinds slot_start slot_end offsets weak policy (o + 1)
unfolding raw_total
raw_more ids kinds classes starts bodies bytes size classKinds slot_start slot_end offsets weak policy o e f g h = rw (add-one o) (ap₂ ◌+◌ e (rw (f, g) at h))
