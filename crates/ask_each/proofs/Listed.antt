-- What asking a list leaves, whatever the single question: equal questions leave the same, each row is its object's answer, and a list of one object is the single
-- question. Assumes nothing.
use Prim.Native.Nat.{ℕ, ◌+◌, ◌-◌, ◌≤◌, ◌<◌}
use native.Mathlib.Omega.{arith}
use mathlib.Core.Path.{◌≡◌, refl, sym, ap, ◌∙◌}
use mathlib.Core.Logic.{◌⊎◌, inl, inr}
use mathlib.Core.Bool.{Bool, true, false, cond, not, false≢true}
use mathlib.Core.List.{List, [], ◌∷◌, map}
use lib.Dec.{eqb, ltb, leb}
use lib.ListN.{length, get_or, drop, length-map, get_or-append}
use borrow.Author.Tests.{ltb-true, ltb-false, le-ltb, not-true}
use Rattle.columns.specs.Lists.{◌!◌, places, first_place, all_of, any_of}
use Rattle.columns.specs.Columns.{zeros, over, padded, accepts, leaves}
use Rattle.columns.proofs.Every.{Every, every-places}
use Rattle.columns.proofs.Lists.{map_at, first_none}
use Rattle.columns.proofs.Parts.{first_ext}
use Rattle.columns.proofs.Placing.{map_ext}
use Rattle.store.specs.Blocked.{read_back}
use Rattle.rules.specs.Questions.{Columns}
use Rattle.rules.specs.Each.{target_said, found_said, EachLeft, first_refused, each_says, each_left}
use Rattle.ask_span.specs.Reading.{ended, span_of}
use Rattle.ask_field.specs.Sought.{Sought, sought_in, sought_target, field_found}
use Rattle.std.specs.Prelude.{None, Some, Ok, Err}
use Rattle.ask_each.specs.Listed.{asks, single, refused_at}

-- questions that answer alike leave the same
module _ (f g : ℕ → List ℕ) (same : (o : ℕ) → f o ≡ g o) (os : List ℕ) where
  refused_ext : first_refused f os ≡ first_refused g os
  unfolding first_refused
  refused_ext = first_ext (refused_at f os) (refused_at g os) (length os) (λ i l. ap (λ (s : List ℕ). not (accepts s)) (same (os ! i)))

  says_ext : (a b : ℕ) → each_says f os a b ≡ each_says g os a b
  unfolding each_says
  says_ext a b =
      rw refused_ext
      (ap (λ (s : List ℕ). cond (any_of (ltb a (length os) ∷ ltb b (length os) ∷ [])) (9 ∷ 12 ∷ []) (cond (ltb (first_refused g os) (length os)) (s ! 0 ∷ first_refused g os ∷ []) (0 ∷ length os ∷ [])))
      (same (os ! first_refused g os)))

  pub each_ext : (a b : ℕ) → each_left f os a b ≡ each_left g os a b
  unfolding each_left
  each_ext a b =
      rw (
        says_ext a b,
        map_ext (λ o. target_said (f o)) (λ o. target_said (g o)) (λ o. ap target_said (same o)) os,
        map_ext (λ o. found_said (f o)) (λ o. found_said (g o)) (λ o. ap found_said (same o)) os,
      )

-- at a first place that is one of the n the test holds
first_holds : (t : ℕ → Bool) (n : ℕ) → first_place t n < n → t (first_place t n) ≡ true
first_holds t n h = go (places t n) (every-places t n) h
  where
    go : (xs : List ℕ) → Every (λ i. (i < n) × (t i ≡ true)) xs → get_or xs 0 n < n → t (get_or xs 0 n) ≡ true
    go [] e h = absurd (omega arith)
    go (x ∷ xs) e h = e.0.1

module _ (f : ℕ → List ℕ) (os : List ℕ) (a b : ℕ) where
  -- an acceptance was refused at no position
  accepted_all : accepts (each_says f os a b) ≡ true → length os ≤ first_refused f os
  unfolding each_says accepts first_refused
  accepted_all h = go (any_of (ltb a (length os) ∷ ltb b (length os) ∷ [])) (ltb r (length os)) refl h
    where
      r : ℕ
      r = first_place (refused_at f os) (length os)

      go : (t u : Bool) → ltb r (length os) ≡ u → eqb (cond t (9 ∷ 12 ∷ []) (cond u (f (os ! r) ! 0 ∷ r ∷ []) (0 ∷ length os ∷ [])) ! 0) 0 ≡ true → length os ≤ r
      go true u e q = absurd (false≢true q)
      go false true e q = absurd (false≢true (sym (not-true _ (first_holds (refused_at f os) (length os) (ltb-true r (length os) e))) ∙ q))
      go false false e q = ltb-false r (length os) e

  row_is : (says xs : List ℕ) (n i : ℕ) → accepts says ≡ true → i < length xs → leaves says xs n ! i ≡ xs ! i
  unfolding leaves padded over
  row_is says xs n i ok l = rw ok (get_or-append xs (drop (length xs) (zeros n)) 0 i l)

  -- each row is its object's answer, which is no refusal
  module _ (ok : accepts (each_left f os a b).says ≡ true) (i : ℕ) (l : i < length os) where
    pub row-accepts : accepts (f (os ! i)) ≡ true
    unfolding each_left first_refused
    row-accepts = go (accepts (f (os ! i))) (first_none (refused_at f os) (length os) i (accepted_all ok) l)
      where
        go : (t : Bool) → not t ≡ false → t ≡ true
        go true e = refl
        go false e = absurd (false≢true (sym e))

    pub row_target : (each_left f os a b).targets ! i ≡ target_said (f (os ! i))
    unfolding each_left
    row_target = row_is (each_says f os a b) (map (λ o. target_said (f o)) os) a i ok (rw (length-map os (λ o. target_said (f o))) l) ∙ map_at (λ o. target_said (f o)) 0 os i l

    pub row-found : (each_left f os a b).found ! i ≡ found_said (f (os ! i))
    unfolding each_left
    row-found = row_is (each_says f os a b) (map (λ o. found_said (f o)) os) b i ok (rw (length-map os (λ o. found_said (f o))) l) ∙ map_at (λ o. found_said (f o)) 0 os i l

-- the answer of a list of one object, where both outputs have room for it
one-says : (f : ℕ → List ℕ) (o a b : ℕ) → 1 ≤ a → 1 ≤ b → each_says f (o ∷ []) a b ≡ cond (accepts (f o)) (0 ∷ 1 ∷ []) (f o ! 0 ∷ 0 ∷ [])
unfolding each_says first_refused places any_of
one-says f o a b in-a in_b = rw (le-ltb a 1 in-a, le-ltb b 1 in_b) (go (accepts (f o)))
  where
    refused : Bool → ℕ
    refused t = get_or (cond (not t) (0 ∷ []) []) 0 1

    go : (t : Bool) → cond (ltb (refused t) 1) (f ((o ∷ []) ! refused t) ! 0 ∷ refused t ∷ []) (0 ∷ 1 ∷ []) ≡ cond t (0 ∷ 1 ∷ []) (f o ! 0 ∷ 0 ∷ [])
    go true = refl
    go false = refl

-- A single answer has a value, has none, or is a refusal with the object.
abbrev Shape : ℕ → List ℕ → Type 0
Shape o s = ((t : ℕ) × (s ≡ 0 ∷ t ∷ [])) ⊎ ((s ≡ 0 ∷ []) ⊎ ((k : ℕ) × (s ≡ k ∷ o ∷ []) × (eqb k 0 ≡ false)))

module _ (c : Columns) (o l : ℕ) where
  sought_shape : (e : ℕ) (x : Sought) → Shape o (sought_target c.targets e o x)
  sought_shape e (Ok (Some k)) = inl (c.targets ! (e + k), refl)
  sought_shape e (Ok None) = inr (inl refl)
  sought_shape e (Err u) = inr (inr (12, refl, refl))

  field_shape : Shape o (field_found c o l)
  unfolding field_found span_of ended accepts
  field_shape = go (ltb o (length c.offsets.short - 1)) (all_of tests)
    where
      first : List ℕ
      first = read_back c.offsets o

      next : List ℕ
      next = read_back c.offsets (o + 1)

      tests : List Bool
      tests = accepts first ∷ accepts next ∷ leb (first ! 1) (next ! 1) ∷ leb (next ! 1) (length c.labels.codes) ∷ leb (next ! 1) (length c.targets) ∷ []

      found : List ℕ → List ℕ
      found s = cond (accepts s) (sought_target c.targets (s ! 1) o (sought_in c.labels (s ! 1) (s ! 2 - s ! 1) l)) s

      go : (t u : Bool) → Shape o (found (cond t (cond u (0 ∷ first ! 1 ∷ next ! 1 ∷ []) (12 ∷ o ∷ [])) (11 ∷ o ∷ [])))
      go true true = sought_shape (first ! 1) (sought_in c.labels (first ! 1) (next ! 1 - first ! 1) l)
      go true false = inr (inr (12, refl, refl))
      go false u = inr (inr (11, refl, refl))

module _ (c : Columns) (l o a b : ℕ) (in-a : 1 ≤ a) (in_b : 1 ≤ b) where
  abbrev left : EachLeft
  left = each_left (asks c l) (o ∷ []) a b

  left-says : left.says ≡ cond (accepts (field_found c o l)) (0 ∷ 1 ∷ []) (field_found c o l ! 0 ∷ 0 ∷ [])
  unfolding each_left
  left-says = one-says (asks c l) o a b in-a in_b

  one-accepts : accepts (field_found c o l) ≡ true → accepts left.says ≡ true
  unfolding accepts
  one-accepts ok = ap accepts left-says ∙ ap (λ (t : Bool). accepts (cond t (0 ∷ 1 ∷ []) (field_found c o l ! 0 ∷ 0 ∷ []))) ok

  one_value : {t : ℕ} → field_found c o l ≡ 0 ∷ t ∷ [] → single o left ≡ field_found c o l
  unfolding accepts
  one_value {t} e =
      let ok = one-accepts (ap accepts e) in
      rw (ok, row-found (asks c l) (o ∷ []) a b ok 0 (omega arith), row_target (asks c l) (o ∷ []) a b ok 0 (omega arith), e)

  one-nothing : field_found c o l ≡ 0 ∷ [] → single o left ≡ field_found c o l
  unfolding accepts
  one-nothing e =
      let ok = one-accepts (ap accepts e) in
      rw (ok, row-found (asks c l) (o ∷ []) a b ok 0 (omega arith), e)

  one_refused : {k : ℕ} → field_found c o l ≡ k ∷ o ∷ [] → eqb k 0 ≡ false → single o left ≡ field_found c o l
  unfolding accepts
  one_refused {k} e not-0 =
      let is : left.says ≡ k ∷ 0 ∷ [] = left-says ∙ rw (e, not-0) in
      rw (is, not-0, e)

-- "Each equal to the single question": a list of one object is the single question.
pub one_each : (c : Columns) (l o a b : ℕ) → 1 ≤ a → 1 ≤ b → single o (each_left (asks c l) (o ∷ []) a b) ≡ field_found c o l
one_each c l o a b in-a in_b = go (field_shape c o l)
  where
    go : Shape o (field_found c o l) → single o (each_left (asks c l) (o ∷ []) a b) ≡ field_found c o l
    go (inl (t, e)) = one_value c l o a b in-a in_b e
    go (inr (inl e)) = one-nothing c l o a b in-a in_b e
    go (inr (inr (k, e, not-0))) = one_refused c l o a b in-a in_b e not-0
