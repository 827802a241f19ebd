-- Weak pairs: one object's rows among sorted pairs, and the smallest of its targets. Assumes nothing.
use Prim.Native.Nat.{ℕ, suc, ◌-◌, ◌≤◌, ◌<◌}
use native.Mathlib.Nat.{not-suc-le-zero}
use native.Mathlib.Omega.{arith}
use mathlib.Core.Path.{◌≡◌, refl, sym, ap, ◌∙◌, subst}
use mathlib.Core.Logic.{◌⊎◌, inl, inr}
use mathlib.Core.Bool.{Bool, true, false, cond, false≢true, ◌||◌, ◌&&◌}
use mathlib.Core.List.{List, [], ◌∷◌, ◌++◌, map}
use lib.Dec.{eqb, leb, ltb}
use lib.ListN.{length, take}
use borrow.Author.Tests.{eq-eqb, ne_eqb, eqb-true, eqb-false, le-ltb, ltb-true, leb-true}
use Rattle.columns.specs.Lists.{◌!◌, insert, sort, part}
use Rattle.columns.specs.Ranks.{rank, Climbs}
use Rattle.columns.proofs.Lists.{lt_or_ge}
use Rattle.columns.proofs.Ranks.{head_least, rank-zero, rank_more, rank_same}
use Rattle.columns.proofs.Every.{Every}
use Rattle.rules.specs.Edges.{Pair, pair_le}
use Rattle.rules.specs.Parts.{pair_at}
use Rattle.rules.specs.Questions.{weak_in, smaller, smallest}

-- The rows from the first that is not before o to the first behind o hold the targets of o's pairs.
pub weak-part : (from to : List ℕ) (o : ℕ) → length to ≡ length from → Climbs from → part to (rank from o) (rank from (suc o)) ≡ weak_in from to o
weak-part [] to o e s = rw (rank-zero [] o (λ i l. absurd (not-suc-le-zero l)), rank-zero [] (suc o) (λ i l. absurd (not-suc-le-zero l)))
weak-part (f ∷ from) [] o e s = absurd (omega arith)
weak-part (f ∷ from) (t ∷ to) o e s = go (lt_or_ge f o) (lt_or_ge f (suc o)) (weak-part from to o (omega arith) (λ i l. s (suc i) (omega arith)))
  where
    go : (f < o) ⊎ (o ≤ f) → (f < suc o) ⊎ (suc o ≤ f) → part to (rank from o) (rank from (suc o)) ≡ weak_in from to o
        → part (t ∷ to) (rank (f ∷ from) o) (rank (f ∷ from) (suc o)) ≡ weak_in (f ∷ from) (t ∷ to) o
    go (inl a) b ih =
        let z : suc (rank from (suc o)) - suc (rank from o) ≡ rank from (suc o) - rank from o = omega arith in
        rw (rank_more f from o a, rank_more f from (suc o) (omega arith), z, ne_eqb f o (λ q. omega arith)) ih
    go (inr a) (inl b) ih =
        let q : f ≡ o = omega arith in
        let none : rank from o ≡ 0 = rank-zero from o (λ i l. omega (arith, head_least f from s i l)) in
        let z : suc (rank from (suc o)) - 0 ≡ suc (rank from (suc o)) = omega arith in
        let z' : rank from (suc o) - 0 ≡ rank from (suc o) = omega arith in
        rw (rank_same f from o a, rank_more f from (suc o) b, none, z, eq-eqb f o q) (ap (λ (ts : List ℕ). t ∷ ts) (rw (none, z') at ih))
    go (inr a) (inr b) ih =
        let none : rank from o ≡ 0 = rank-zero from o (λ i l. omega (arith, head_least f from s i l)) in
        let none' : rank from (suc o) ≡ 0 = rank-zero from (suc o) (λ i l. omega (arith, head_least f from s i l)) in
        rw (rank_same f from o a, rank_same f from (suc o) b, none, none', ne_eqb f o (λ q. omega arith)) (rw (none, none') at ih)

-- a pair that comes before another has no greater object
pub pair_climbs : (p q : Pair) → pair_le p q ≡ true → p.object ≤ q.object
pair_climbs p q e = go (ltb p.object q.object) refl (eqb p.object q.object) refl e
  where
    go : (a : Bool) → ltb p.object q.object ≡ a → (b : Bool) → eqb p.object q.object ≡ b → a || (b && leb p.target q.target) ≡ true
        → p.object ≤ q.object
    go true s b t e = omega (arith, ltb-true p.object q.object s)
    go false s true t e = omega (arith, eqb-true p.object q.object t)
    go false s false t e = absurd (false≢true e)

-- the targets of o's pairs
abbrev pub mine : ℕ → List Pair → List ℕ
mine o ps = weak_in (map (λ (p : Pair). p.object) ps) (map (λ (p : Pair). p.target) ps) o

-- The smallest of them does not depend on the order of the pairs.
module _ (o : ℕ) where
  abbrev with : Pair → List ℕ → List ℕ
  with p ws = cond (eqb p.object o) (smaller p.target ws) ws

  smallest-mine : (p : Pair) (ps : List Pair) → smallest (mine o (p ∷ ps)) ≡ with p (smallest (mine o ps))
  smallest-mine p ps = go (eqb p.object o)
    where
      go : (b : Bool) → smallest (cond b (p.target ∷ mine o ps) (mine o ps)) ≡ cond b (smaller p.target (smallest (mine o ps))) (smallest (mine o ps))
      go true = refl
      go false = refl

  swap_smaller : (a b : ℕ) (ws : List ℕ) → smaller a (smaller b ws) ≡ smaller b (smaller a ws)
  swap_smaller a b [] = ap (λ (n : ℕ). n ∷ []) (omega arith)
  swap_smaller a b (w ∷ ws) = ap (λ (n : ℕ). n ∷ []) (omega arith)

  swap_with : (p q : Pair) (ws : List ℕ) → with p (with q ws) ≡ with q (with p ws)
  swap_with p q ws = go (eqb p.object o) (eqb q.object o)
    where
      go : (a b : Bool) → cond a (smaller p.target (cond b (smaller q.target ws) ws)) (cond b (smaller q.target ws) ws)
          ≡ cond b (smaller q.target (cond a (smaller p.target ws) ws)) (cond a (smaller p.target ws) ws)
      go true true = swap_smaller p.target q.target ws
      go true false = refl
      go false true = refl
      go false false = refl

  smallest-insert : (p : Pair) (ps : List Pair) → smallest (mine o (insert pair_le p ps)) ≡ with p (smallest (mine o ps))
  smallest-insert p [] = smallest-mine p []
  smallest-insert p (q ∷ ps) = go (pair_le p q) (smallest-insert p ps)
    where
      go : (b : Bool) → smallest (mine o (insert pair_le p ps)) ≡ with p (smallest (mine o ps))
          → smallest (mine o (cond b (p ∷ q ∷ ps) (q ∷ insert pair_le p ps))) ≡ with p (smallest (mine o (q ∷ ps)))
      go true ih = smallest-mine p (q ∷ ps)
      go false ih =
          smallest-mine q (insert pair_le p ps) ∙ ap (with q) ih ∙ swap_with q p (smallest (mine o ps)) ∙ ap (with p) (sym (smallest-mine q ps))

  pub smallest-sort : (ps : List Pair) → smallest (mine o (sort pair_le ps)) ≡ smallest (mine o ps)
  smallest-sort [] = refl
  smallest-sort (p ∷ ps) = smallest-insert p (sort pair_le ps) ∙ ap (with p) (smallest-sort ps) ∙ sym (smallest-mine p ps)

  pub mine-append : (ps qs : List Pair) → mine o (ps ++ qs) ≡ mine o ps ++ mine o qs
  mine-append [] qs = refl
  mine-append (p ∷ ps) qs = go (eqb p.object o) (mine-append ps qs)
    where
      go : (b : Bool) → mine o (ps ++ qs) ≡ mine o ps ++ mine o qs
          → cond b (p.target ∷ mine o (ps ++ qs)) (mine o (ps ++ qs)) ≡ cond b (p.target ∷ mine o ps) (mine o ps) ++ mine o qs
      go true e = ap (λ (ts : List ℕ). p.target ∷ ts) e
      go false e = e

  pub mine-own : (i : ℕ) (ts : List ℕ) → mine o (map (λ t. record { object = i; target = t }) ts) ≡ cond (eqb i o) ts []
  mine-own i ts = go (eqb i o) refl ts
    where
      go : (b : Bool) → eqb i o ≡ b → (ts : List ℕ) → mine o (map (λ t. record { object = i; target = t }) ts) ≡ cond b ts []
      go true e [] = refl
      go true e (t ∷ ts) = rw e (ap (λ (us : List ℕ). t ∷ us) (go true e ts))
      go false e [] = refl
      go false e (t ∷ ts) = rw e (go false e ts)

-- Among sorted pairs the first of an object's targets is the smallest.
unfoldable pub Sorted : List ℕ → List ℕ → Type 0
Sorted from to = (i : ℕ) → suc i < length from → pair_le (pair_at from to i) (pair_at from to (suc i)) ≡ true

none_behind : (from to : List ℕ) (o : ℕ) → ((i : ℕ) → i < length from → o < from ! i) → weak_in from to o ≡ []
none_behind [] to o h = refl
none_behind (f ∷ from) [] o h = refl
none_behind (f ∷ from) (t ∷ to) o h = rw (ne_eqb f o (λ e. omega (arith, h 0 (omega arith)))) (none_behind from to o (λ i l. h (suc i) (omega arith)))

-- pairs of one object rise by target
pair_same : (o t u : ℕ) → pair_le (record { object = o; target = t }) (record { object = o; target = u }) ≡ true → t ≤ u
pair_same o t u e = leb-true t u (rw (le-ltb o o (omega arith), eq-eqb o o refl) at e)

at_least : {t u : ℕ} → t ≤ u → (ws : List ℕ) → Every (λ w. u ≤ w) ws → Every (λ w. t ≤ w) ws
at_least l [] e = tt
at_least l (w ∷ ws) e = (omega (arith, e.0), at_least l ws e.1)

no_less : (t o : ℕ) (from to : List ℕ) → Sorted (o ∷ from) (t ∷ to) → Every (λ u. t ≤ u) (weak_in from to o)
unfolding Sorted
no_less t o [] to s = tt
no_less t o (f ∷ from) [] s = tt
no_less t o (f ∷ from) (u ∷ to) s = go (eqb f o) refl (lt_or_ge o f) (λ q. no_less u o from to q)
  where
    after : o ≤ f
    after = pair_climbs (record { object = o; target = t }) (record { object = f; target = u }) (s 0 (omega arith))

    climbs : Climbs (f ∷ from)
    climbs i l = pair_climbs (pair_at (f ∷ from) (u ∷ to) i) (pair_at (f ∷ from) (u ∷ to) (suc i)) (s (suc i) (omega arith))

    go : (b : Bool) → eqb f o ≡ b → (o < f) ⊎ (f ≤ o) → (Sorted (o ∷ from) (u ∷ to) → Every (λ w. u ≤ w) (weak_in from to o))
        → Every (λ w. t ≤ w) (cond b (u ∷ weak_in from to o) (weak_in from to o))
    go true e q ih =
        let z : f ≡ o = eqb-true f o e in
        let le : t ≤ u = pair_same o t u (rw z at (s 0 (omega arith))) in
        (le, at_least le (weak_in from to o) (ih (subst (λ (g : ℕ). Sorted (g ∷ from) (u ∷ to)) z (λ i l. s (suc i) (omega arith)))))
    go false e (inl l) ih = rw (none_behind from to o (λ i m. omega (arith, head_least f from climbs i m))) tt
    go false e (inr l) ih = absurd (eqb-false f o e (omega (arith, after)))

smallest_least : (t : ℕ) (ws : List ℕ) → Every (λ w. t ≤ w) ws → Every (λ w. t ≤ w) (smallest ws)
smallest_least t [] e = tt
smallest_least t (a ∷ ws) e = go (smallest ws) (smallest_least t ws e.1)
  where
    go : (vs : List ℕ) → Every (λ w. t ≤ w) vs → Every (λ w. t ≤ w) (smaller a vs)
    go [] h = (e.0, tt)
    go (b ∷ vs) h = (omega (arith, e.0, h.0), tt)

first_least : (t : ℕ) (vs : List ℕ) → Every (λ w. t ≤ w) vs → smaller t vs ≡ t ∷ []
first_least t [] e = refl
first_least t (b ∷ vs) e = ap (λ (n : ℕ). n ∷ []) (omega (arith, e.0))

pub first-smallest : (from to : List ℕ) (o : ℕ) → Sorted from to → smallest (weak_in from to o) ≡ take 1 (weak_in from to o)
unfolding Sorted
first-smallest [] to o s = refl
first-smallest (f ∷ from) [] o s = refl
first-smallest (f ∷ from) (t ∷ to) o s = go (eqb f o) refl (first-smallest from to o (λ i l. s (suc i) (omega arith)))
  where
    go : (b : Bool) → eqb f o ≡ b → smallest (weak_in from to o) ≡ take 1 (weak_in from to o)
        → smallest (cond b (t ∷ weak_in from to o) (weak_in from to o)) ≡ take 1 (cond b (t ∷ weak_in from to o) (weak_in from to o))
    go true e ih =
        let z : f ≡ o = eqb-true f o e in
        first_least t (smallest (weak_in from to o))
        (smallest_least t (weak_in from to o) (no_less t o from to (subst (λ (g : ℕ). Sorted (g ∷ from) (t ∷ to)) z s)))
    go false e ih = ih
