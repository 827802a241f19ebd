-- The same references under every policy (M-111), on the definitions: a policy decides only which references are kept. Assumes nothing.
use Prim.Native.Nat.{ℕ, zero, suc, ◌+◌, ◌≤◌}
use native.Mathlib.Omega.{arith}
use mathlib.Core.Path.{◌≡◌, refl, sym, ap, ap₂, ◌∙◌}
use mathlib.Core.Bool.{Bool, true, false, cond, not, ◌||◌, false≢true}
use mathlib.Core.List.{List, [], ◌∷◌, ◌++◌, map}
use mathlib.Core.Option.{Option, none, some}
use lib.Dec.{eqb}
use Rattle.columns.specs.Lists.{◌!◌, collect, tab, flat, sum, find}
use Rattle.columns.proofs.Sums.{sum-append, sum-tab, sum_ext, sum-add, total_ext, total-add, tab_ext, flat_append, flat-tab}
use Rattle.rules.specs.declared.ReferencePolicy.{ReferencePolicy}
use Rattle.rules.specs.Types.{keeps}
use Rattle.rules.specs.Input.{Input, object_count, read_slots, slot_count, slot_fits, element_count, slot_id, element_id, slot_kept, slot_of, found_at, classes_at}
use Rattle.rules.specs.Edges.{Kind, slot, element, static, loader, Ref, Outcome, edge, weak, nothing, settled, outcome, edge_of, missing_of, ref_edge, edges_of}
use Rattle.rules.specs.Edges.{weak_targets, refs, slot_refs, other_refs, slot_ref, element_ref}
use Rattle.rules.specs.Account.{of_kind, is_edge, is_weak, cell, account_row, account}
use Rattle.rules.specs.Demand.{tally, held, lost}
use Rattle.rules.specs.Policies.{under, reached, taken_together, NoWeakSlot, KeepsMore, Subsequence, end, taken, left_out}
use Rattle.rules.proofs.Slots.{read-le}
use Rattle.rules.proofs.Holders.{hit, list_hits}

-- Subsequences of lists that are put together.
pub sub_same : {A : Type 0} (xs : List A) → Subsequence xs xs
sub_same [] = end
sub_same (a ∷ xs) = taken a (sub_same xs)

pub sub_none : {A : Type 0} (xs : List A) → Subsequence [] xs
sub_none [] = end
sub_none (a ∷ xs) = left_out a (sub_none xs)

sub-append : {A : Type 0} {xs xs' ys ys' : List A} → Subsequence xs ys → Subsequence xs' ys' → Subsequence (xs ++ xs') (ys ++ ys')
sub-append end t = t
sub-append (taken a s) t = taken a (sub-append s t)
sub-append (left_out a s) t = left_out a (sub-append s t)

sub-collect : {A : Type 0} (f g : ℕ → List A) (n : ℕ) → ((k : ℕ) → Subsequence (f k) (g k)) → Subsequence (collect f n) (collect g n)
sub-collect f g zero h = end
sub-collect f g (suc n) h = sub-append (sub-collect f g n h) (h n)

-- Whatever is counted of a list, a subsequence has no more of it.
pub sub-sum : {A : Type 0} (f : A → ℕ) {xs ys : List A} → Subsequence xs ys → sum f xs ≤ sum f ys
sub-sum f end = omega arith
sub-sum f (taken a s) = omega (arith, sub-sum f s)
sub-sum f (left_out a s) = omega (arith, sub-sum f s)

-- The references of an object under two policies: the k-th slot's differ at most in whether they are kept, and the others are the same.
module _ (x : Input) (o : ℕ) (p q : ReferencePolicy) where
  abbrev ids : List ℕ
  ids = x.objects.ids

  others_same : other_refs (under x p) o ≡ other_refs (under x q) o
  unfolding other_refs element_count element_ref element_id found_at classes_at
  others_same = refl

  -- What counts an edge and a weak pair to one target alike does not ask whether a reference is kept.
  module _ (g : Outcome → ℕ) (alike : (t : ℕ) → g (edge t) ≡ g (weak t)) where
    kept_or_not : (z : Bool) (k : Kind) (b c : Bool) (f : Option ℕ) → g (cond z nothing (settled k b f)) ≡ g (cond z nothing (settled k c f))
    kept_or_not true k b c f = refl
    kept_or_not false k b c none = refl
    kept_or_not false k true true (some t) = refl
    kept_or_not false k true false (some t) = alike t
    kept_or_not false k false true (some t) = sym (alike t)
    kept_or_not false k false false (some t) = refl

    slot_alike : (k : ℕ) → g (outcome ids (slot_ref (under x p) o k)) ≡ g (outcome ids (slot_ref (under x q) o k))
    unfolding outcome slot_ref slot_id
    slot_alike k = let v = slot_id x o k in kept_or_not (eqb v 0) slot (slot_kept (under x p) o k) (slot_kept (under x q) o k) (find ids v)

    -- counted of the references of some kinds
    pub kinds_under : (some-kinds : Kind → Bool)
        → sum (λ r. cond (some-kinds r.kind) (g (outcome ids r)) 0) (refs (under x p) o)
        ≡ sum (λ r. cond (some-kinds r.kind) (g (outcome ids r)) 0) (refs (under x q) o)
    unfolding refs slot_refs read_slots slot_fits slot_count slot_ref
    kinds_under some-kinds =
        let f : Ref → ℕ = λ r. cond (some-kinds r.kind) (g (outcome ids r)) 0 in
        let n = read_slots x o in
        sum-append f (tab (slot_ref (under x p) o) n) (other_refs (under x p) o)
        ∙ ap₂ ◌+◌
        (sum-tab f (slot_ref (under x p) o) n
        ∙ total_ext _ _ n (λ k l. ap (λ (v : ℕ). cond (some-kinds slot) v 0) (slot_alike k)) ∙ sym (sum-tab f (slot_ref (under x q) o) n))
        (ap (sum f) others_same)
        ∙ sym (sum-append f (tab (slot_ref (under x q) o) n) (other_refs (under x q) o))

  -- "Per object, edges plus weak pairs are the same targets, counted with repeats."
  pub reached-under : (t : ℕ)
      → reached (edges_of (under x p) o) (weak_targets (under x p) o) t ≡ reached (edges_of (under x q) o) (weak_targets (under x q) o) t
  unfolding edges_of weak_targets
  reached-under t =
      list_hits ids t (refs (under x p) o) ∙ kinds_under (hit t) (λ u. refl) (λ k. true) ∙ sym (list_hits ids t (refs (under x q) o))

  -- What demand 3 counts from the input alone does not ask for the policy: what an object holds, and what of it no object has.
  pub held-under : held (under x p) o ≡ held (under x q) o
  unfolding held tally slot_fits slot_count slot_id element_count element_id found_at classes_at
  held-under = refl

  pub lost-under : lost (under x p) o ≡ lost (under x q) o
  unfolding lost tally slot_fits slot_count slot_id element_count element_id found_at classes_at
  lost-under = refl

  -- "Objects of classes without a weak slot have the same edges in the same order."
  plain-slot : (k : ℕ) → x.schema.slots.weak ! slot_of x o k ≡ 0 → slot_ref (under x p) o k ≡ slot_ref (under x q) o k
  unfolding slot_ref slot_id slot_kept
  plain-slot k e = rw e

  pub plain-under : NoWeakSlot x o → edges_of (under x p) o ≡ edges_of (under x q) o
  unfolding edges_of refs slot_refs read_slots slot_fits slot_count
  plain-under h =
      ap (flat (ref_edge ids)) (ap₂ ◌++◌ (tab_ext _ _ (read_slots x o) (λ k l. plain-slot k (h k (omega (arith, read-le x o))))) others_same)

  -- "Keeping more never removes an edge": a reference that is kept stays kept, and its edge stands between the same others.
  module _ (m : KeepsMore p q) where
    slot_kept_lem : (k : ℕ) → slot_kept (under x p) o k ≡ true → slot_kept (under x q) o k ≡ true
    unfolding slot_kept keeps
    slot_kept_lem k = go (not (eqb (x.schema.slots.weak ! slot_of x o k) 1)) (eqb (x.schema.classes.kinds ! (x.objects.classes ! o)) 1)
      where
        go : (a b : Bool) → a || cond b p.soft p.weak ≡ true → a || cond b q.soft q.weak ≡ true
        go true b h = refl
        go false true h = m.soft h
        go false false h = m.weak h

    edge_kept : (l : ℕ) (z : Bool) (k : Kind) (b c : Bool) → (b ≡ true → c ≡ true) → (f : Option ℕ)
        → Subsequence (edge_of l (cond z nothing (settled k b f))) (edge_of l (cond z nothing (settled k c f)))
    edge_kept l true k b c h f = end
    edge_kept l false k b c h none = sub_same _
    edge_kept l false k true true h (some u) = sub_same _
    edge_kept l false k true false h (some u) = absurd (false≢true (h refl))
    edge_kept l false k false true h (some u) = sub_none _
    edge_kept l false k false false h (some u) = end

    slot-edge : (k : ℕ) → Subsequence (ref_edge ids (slot_ref (under x p) o k)) (ref_edge ids (slot_ref (under x q) o k))
    unfolding outcome slot_ref slot_id
    slot-edge k =
        let v = slot_id x o k in
        edge_kept (x.schema.slots.labels ! slot_of x o k) (eqb v 0) slot (slot_kept (under x p) o k) (slot_kept (under x q) o k) (slot_kept_lem k) (find ids v)

    pub more_under : Subsequence (edges_of (under x p) o) (edges_of (under x q) o)
    unfolding edges_of refs slot_refs read_slots slot_fits slot_count
    more_under =
        let n = read_slots x o in
        rw (flat_append (ref_edge ids) (tab (slot_ref (under x p) o) n) (other_refs (under x p) o), flat_append (ref_edge ids) (tab (slot_ref (under x q) o) n) (other_refs (under x q) o), flat-tab (ref_edge ids) (slot_ref (under x p) o) n, flat-tab (ref_edge ids) (slot_ref (under x q) o) n, others_same)
        (sub-append (sub-collect _ _ n slot-edge) (sub_same (flat (ref_edge ids) (other_refs (under x q) o))))

-- The account's rows, edges and weak pairs taken together.
module _ (x : Input) (p q : ReferencePolicy) where
  cell-under : (k : Kind) (g : Outcome → ℕ) → ((t : ℕ) → g (edge t) ≡ g (weak t)) → cell (under x p) k g ≡ cell (under x q) k g
  unfolding cell
  cell-under k g alike = total_ext _ _ (object_count x) (λ o l. kinds_under x o p q g alike (of_kind k))

  cell-add : (y : Input) (k : Kind) → cell y k is_edge + cell y k is_weak ≡ cell y k (λ u. is_edge u + is_weak u)
  unfolding cell
  cell-add y k =
      sym (total-add _ _ (object_count y))
      ∙ total_ext _ _ (object_count y) (λ o l. sym (sum-add _ _ (refs y o)) ∙ sum_ext _ _ (λ r. go (of_kind k r.kind) (outcome y.objects.ids r)) (refs y o))
    where
      go : (b : Bool) (u : Outcome) → cond b (is_edge u) 0 + cond b (is_weak u) 0 ≡ cond b (is_edge u + is_weak u) 0
      go true u = refl
      go false u = refl

  row_under : (k : Kind) → taken_together (account_row (under x p) k) ≡ taken_together (account_row (under x q) k)
  row_under k =
      ap₂ (λ (a b : ℕ). a ∷ b ∷ [])
      (cell-add (under x p) k ∙ cell-under k (λ u. is_edge u + is_weak u) (λ t. refl) ∙ sym (cell-add (under x q) k))
      (cell-under k missing_of (λ t. refl))

  pub account-under : map taken_together (account (under x p)) ≡ map taken_together (account (under x q))
  unfolding account
  account-under =
      ap₂ (λ (a : List ℕ) (rs : List (List ℕ)). a ∷ rs) (row_under slot)
      (ap₂ (λ (a : List ℕ) (rs : List (List ℕ)). a ∷ rs) (row_under element)
      (ap₂ (λ (a b : List ℕ). a ∷ b ∷ []) (row_under static) (row_under loader)))
