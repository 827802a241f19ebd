-- The most weak pairs, counted slot by slot and object by object; that instances of classes of kind none are stepped over rightly; and that neither route has more. Assumes nothing.
use Prim.Native.Nat.{ℕ, zero, suc, ◌+◌, ◌-◌, ◌≤◌, ◌<◌}
use native.Mathlib.Nat.{le_refl}
use native.Mathlib.Numerals.{add-one}
use native.Mathlib.Omega.{arith}
use mathlib.Core.Path.{◌≡◌, refl, sym, ap, ap₂, ◌∙◌}
use mathlib.Core.Bool.{Bool, true, false, cond, not}
use mathlib.Core.List.{List, [], ◌∷◌}
use lib.Dec.{eqb, ltb}
use lib.ListN.{length, take, drop, length-drop}
use lib.Seq.{get_or-drop}
use Rattle.std.specs.List.{count_by}
use Rattle.std.proofs.lemmas.List.Sums.{sum_by_more}
use borrow.Author.Tests.{eq-eqb, ne_eqb, eqb-true, eqb-false, lt-ltb, le-ltb, le-leb, lt-leb, ltb-false}
use Rattle.columns.specs.Lists.{◌!◌, part, tab, total, one, all_of, any_of, any}
use Rattle.columns.proofs.Tests.{none_of, any_false, some_of, or_none}
use Rattle.columns.proofs.Sums.{total-le, total-le-total, leading_within}
use Rattle.index.specs.Copied.{Ids}
use Rattle.rules.specs.declared.ReferencePolicy.{ReferencePolicy}
use Rattle.rules.specs.Types.{keeps}
use Rattle.rules.specs.Input.{copied_id}
use Rattle.rules.specs.Edges.{ref_weak}
use Rattle.edge_append.specs.Held.{SlotsIn, slot_with, copied_slot, copied_slots}
use Rattle.edge_append.specs.Raw.{bytes_id, slot_ends, slots_read, raw_slot, raw_slots}
use Rattle.need_weak.specs.Pairs.{pairs_in, copied_pairs, copied_total, raw_pairs, raw_total, weak_at, plain_weak, most_pairs, most_weak}
use Rattle.need_weak.proofs.Counting.{slot-pair, slot_kept_lem, class_kept, pairs-tab, pair_few, none_in}

cond-one : (b : Bool) → cond b 1 0 ≡ one b
cond-one true = refl
cond-one false = refl

-- the weak slots of a part, counted
pub count_weak : (weak : List ℕ) (first k : ℕ) → first + k ≤ length weak → count_by (λ w. eqb w 1) (part weak first (first + k)) ≡ total (weak_at weak first) k
count_weak weak first k l = let e : first + k - first ≡ k = omega arith in rw e (go k l)
  where
    xs : List ℕ
    xs = drop first weak

    go : (k : ℕ) → first + k ≤ length weak → count_by (λ w. eqb w 1) (take k xs) ≡ total (weak_at weak first) k
    go zero l = refl
    go (suc k) l =
        let h : k < length xs = omega (arith, length-drop first weak) in
        rw (add-one, go k (omega arith), get_or-drop first weak k 0) at (sum_by_more (λ w. cond (eqb w 1) 1 0) xs k 0 h) ∙ ap (λ (n : ℕ). total (weak_at weak first) k + n) (cond-one (eqb (weak ! (first + k)) 1))

-- Whether a class is of kind none and may have a weak slot, by the tests in their order;
module _ (kinds starts ends weak : List ℕ) (class : ℕ) where
  pub other_kind : (kinds ! class ≡ 0 → ⊥) → false ≡ plain_weak kinds starts ends weak class
  unfolding plain_weak
  other_kind h = rw (ne_eqb (kinds ! class) 0 h)

  pub no_start : kinds ! class ≡ 0 → length starts ≤ class → true ≡ plain_weak kinds starts ends weak class
  unfolding plain_weak
  no_start z h = rw (eq-eqb (kinds ! class) 0 z) (sym (some_of _ 0 (le-leb (length starts) class h)))

  pub no_end : kinds ! class ≡ 0 → length ends ≤ class → true ≡ plain_weak kinds starts ends weak class
  unfolding plain_weak
  no_end z h = rw (eq-eqb (kinds ! class) 0 z) (sym (some_of _ 1 (le-leb (length ends) class h)))

  pub not_ordered : kinds ! class ≡ 0 → {first last : ℕ} → first ≡ starts ! class → last ≡ ends ! class → last < first → true ≡ plain_weak kinds starts ends weak class
  unfolding plain_weak
  not_ordered z f g h = rw (eq-eqb (kinds ! class) 0 z) (sym (some_of _ 2 (lt-ltb (ends ! class) (starts ! class) (omega arith))))

  pub not_in : kinds ! class ≡ 0 → {last : ℕ} → last ≡ ends ! class → length weak < last → true ≡ plain_weak kinds starts ends weak class
  unfolding plain_weak
  not_in z g h = rw (eq-eqb (kinds ! class) 0 z) (sym (some_of _ 3 (lt-ltb (length weak) (ends ! class) (omega arith))))

  pub slots-told : kinds ! class ≡ 0 → class < length starts → class < length ends → {first last n : ℕ} → first ≡ starts ! class → last ≡ ends ! class → first ≤ last → last ≤ length weak
      → n ≡ total (weak_at weak first) (last - first) → ltb 0 n ≡ plain_weak kinds starts ends weak class
  unfolding plain_weak any_of
  slots-told z s e f g o w n =
      rw (n, eq-eqb (kinds ! class) 0 z, lt-leb (length starts) class s, lt-leb (length ends) class e, le-ltb (ends ! class) (starts ! class) (omega arith), le-ltb (length weak) (ends ! class) (omega arith), f, g)
      (sym (or_none (ltb 0 (total (weak_at weak (starts ! class)) (ends ! class - starts ! class)))))

  -- and where no class is such a one, one of kind none has no weak slot.
  plain_none : any (plain_weak kinds starts ends weak) (length kinds) ≡ false → class < length kinds → eqb (kinds ! class) 0 ≡ true
      → total (weak_at weak (starts ! class)) (ends ! class - starts ! class) ≡ 0
  unfolding plain_weak
  plain_none e l z = omega (arith, ltb-false 0 (total (weak_at weak (starts ! class)) (ends ! class - starts ! class)) (none_of _ (rw z at (any_false (plain_weak kinds starts ends weak) (length kinds) class e l)) 4))

-- what a test of both tells, and a choice between none and none
both_hold : (b mixed : Bool) → cond b (not mixed) false ≡ true → (b ≡ true) × (mixed ≡ false)
both_hold true true e = (refl, sym e)
both_hold true false e = (refl, refl)
both_hold false mixed e = let z : ◌≡◌ {A = ℕ} 0 1 = cc in absurd (omega arith)

nothing : (b : Bool) → ◌≡◌ {A = ℕ} 0 (cond b 0 0)
nothing true = refl
nothing false = refl

-- One object's, by its kind and by whether its class's kind is kept.
module _ (kinds starts ends weak : List ℕ) (policy : ReferencePolicy) (kind class : ℕ) where
  pub most_none : (kind ≡ 0 → ⊥) → 0 ≡ most_pairs kinds starts ends weak policy kind class
  unfolding most_pairs all_of
  most_none h = rw (ne_eqb kind 0 h)

  pub most_kept : {kept : Bool} → kept ≡ keeps policy (kinds ! class) → kept ≡ true → 0 ≡ most_pairs kinds starts ends weak policy kind class
  unfolding most_pairs all_of
  most_kept e h = rw (← e, h) (go (eqb kind 0))
    where
      go : (b : Bool) → 0 ≡ cond (all_of (b ∷ false ∷ [])) (total (weak_at weak (starts ! class)) (ends ! class - starts ! class)) 0
      go true = refl
      go false = refl

  pub most_some : kind ≡ 0 → {kept : Bool} {first last : ℕ} → kept ≡ keeps policy (kinds ! class) → kept ≡ false → first ≡ starts ! class → last ≡ ends ! class
      → total (weak_at weak first) (last - first) ≡ most_pairs kinds starts ends weak policy kind class
  unfolding most_pairs all_of
  most_some h e k f g = rw (← e, k, f, g, eq-eqb kind 0 h)

  -- of kind none, where no class of that kind may have a weak slot
  pub most_plain : {mixed told : Bool} → mixed ≡ any (plain_weak kinds starts ends weak) (length kinds) → class < length kinds → told ≡ cond (eqb (kinds ! class) 0) (not mixed) false → told ≡ true
      → 0 ≡ most_pairs kinds starts ends weak policy kind class
  unfolding most_pairs
  most_plain {mixed} e l t h =
      let both : (eqb (kinds ! class) 0 ≡ true) × (mixed ≡ false) = both_hold (eqb (kinds ! class) 0) mixed (sym t ∙ h) in
      rw (plain_none kinds starts ends weak class (sym e ∙ both.1) l both.0) (nothing (all_of (eqb kind 0 ∷ not (keeps policy (kinds ! class)) ∷ [])))

-- one object more
pub most_more : (kinds classes classKinds slot_start slot_end weak : List ℕ) (policy : ReferencePolicy) (o : ℕ) {n r class : ℕ}
    → n ≡ most_weak kinds classes classKinds slot_start slot_end weak policy o → class ≡ classes ! o
    → r ≡ most_pairs classKinds slot_start slot_end weak policy (kinds ! o) class → n + r ≡ most_weak kinds classes classKinds slot_start slot_end weak policy (o + 1)
unfolding most_weak
most_more kinds classes classKinds slot_start slot_end weak policy o e g h = rw (add-one o) (ap₂ ◌+◌ e (rw g at h))

-- A slot gives no pair unless it is weak, and no more than one.
slot_most : (ids labels weak : List ℕ) (place id : ℕ) → length (ref_weak ids (slot_with labels weak false place id)) ≤ one (eqb (weak ! place) 1)
slot_most ids labels weak place id = go (eqb (weak ! place) 1) refl
  where
    go : (b : Bool) → eqb (weak ! place) 1 ≡ b → length (ref_weak ids (slot_with labels weak false place id)) ≤ one b
    go true e = omega (arith, slot-pair ids labels weak place id (eqb-true (weak ! place) 1 e), pair_few ids id)
    go false e = omega (arith, slot_kept_lem ids labels weak place id (eqb-false (weak ! place) 1 e))

total_within : (f : ℕ → ℕ) (m n : ℕ) → m ≤ n → total f m ≤ total f n
total_within f m n l = let e : n ≡ m + (n - m) = omega arith in rw e (total-le-total f m (n - m))

-- The slots that are read, of a class's n; where the object is no instance there are none.
module _ (ids labels weak : List ℕ) (first : ℕ) (id : ℕ → ℕ) where
  slots_most : (m n : ℕ) → m ≤ n → pairs_in ids (tab (λ k. slot_with labels weak false (first + k) (id k)) m) ≤ total (weak_at weak first) n
  slots_most m n l =
      omega (
        arith,
        pairs-tab ids (λ k. slot_with labels weak false (first + k) (id k)) m,
        total-le (λ k. length (ref_weak ids (slot_with labels weak false (first + k) (id k)))) (weak_at weak first) m (λ k h. slot_most ids labels weak (first + k) (id k)),
        total_within (weak_at weak first) m n l,
      )

  read_most : (b kept : Bool) (m n : ℕ) → m ≤ cond b n 0
      → pairs_in ids (tab (λ k. slot_with labels weak kept (first + k) (id k)) m) ≤ cond (all_of (b ∷ not kept ∷ [])) (total (weak_at weak first) n) 0
  unfolding all_of
  read_most true false m n l = slots_most m n l
  read_most true true m n l = omega (arith, none_in ids (λ k. slot_with labels weak true (first + k) (id k)) m (λ k. class_kept ids labels weak (first + k) (id k)))
  read_most false kept m n l = let e : m ≡ 0 = omega arith in rw e (omega (arith, pairs-tab ids (λ k. slot_with labels weak kept (first + k) (id k)) 0))

-- By the copied route there are no more,
module _ (ids kinds classes starts : List ℕ) (c : Ids) (classKinds slot_start slot_end weak : List ℕ) (policy : ReferencePolicy) where
  copied_within : (o : ℕ) → copied_pairs ids c (starts ! o) classKinds slot_start slot_end weak policy (kinds ! o) (classes ! o) ≤ most_pairs classKinds slot_start slot_end weak policy (kinds ! o) (classes ! o)
  unfolding copied_pairs copied_slots copied_slot most_pairs
  copied_within o =
      read_most ids [] weak (slot_start ! (classes ! o)) (λ k. copied_id c (starts ! o + k)) (eqb (kinds ! o) 0) (keeps policy (classKinds ! (classes ! o))) _ (slot_end ! (classes ! o) - slot_start ! (classes ! o)) (le_refl _)

  pub copied_most : (n : ℕ) → copied_total ids kinds classes starts c classKinds slot_start slot_end weak policy n ≤ most_weak kinds classes classKinds slot_start slot_end weak policy n
  unfolding copied_total most_weak
  copied_most n = total-le _ _ n (λ o l. copied_within o)

-- and by the raw route.
module _ (ids kinds classes starts bodies bytes : List ℕ) (size : ℕ) (classKinds slot_start slot_end offsets weak : List ℕ) (policy : ReferencePolicy) where
  raw_within : (o : ℕ) → raw_pairs ids bytes size (starts ! o) (bodies ! o) classKinds slot_start slot_end offsets weak policy (kinds ! o) (classes ! o) ≤ most_pairs classKinds slot_start slot_end weak policy (kinds ! o) (classes ! o)
  unfolding raw_pairs raw_slots raw_slot slots_read most_pairs
  raw_within o =
      read_most ids [] weak (slot_start ! (classes ! o)) (λ k. bytes_id bytes size (starts ! o + offsets ! (slot_start ! (classes ! o) + k))) (eqb (kinds ! o) 0) (keeps policy (classKinds ! (classes ! o))) _ (slot_end ! (classes ! o) - slot_start ! (classes ! o))
      (leading_within (slot_ends offsets size (bodies ! o) (slot_start ! (classes ! o))) _)

  pub raw_most : (n : ℕ) → raw_total ids kinds classes starts bodies bytes size classKinds slot_start slot_end offsets weak policy n ≤ most_weak kinds classes classKinds slot_start slot_end weak policy n
  unfolding raw_total most_weak
  raw_most n = total-le _ _ n (λ o l. raw_within o)

-- The facts that the bound asks of an object's slots, from those that an edge pass asks: neither labels nor ids are read.
pub slots_flags : {kinds starts ends : List ℕ} {labels weak kind class start : ℕ} → SlotsIn kinds starts ends labels weak kind class start → SlotsIn kinds starts ends weak weak kind class 0
slots_flags s = record { kind_in = s.kind_in; start_in = s.start_in; end_in = s.end_in; ordered = s.ordered; labels_in = s.weak_in; weak_in = s.weak_in; held = λ z. omega (arith, s.held z) }
