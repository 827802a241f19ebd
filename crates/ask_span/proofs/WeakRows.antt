-- On the columns of an accepted build the rows that `weak_referents` answers hold the object's weak targets as the input gives them, sorted; after `from_parts`
-- those that were handed over. Assumes nothing.
use Prim.Native.Nat.{ℕ, suc, ◌^◌, ◌≤◌, ◌<◌}
use native.Mathlib.Omega.{arith}
use mathlib.Core.Path.{◌≡◌, refl, sym, ap, ap₂, ◌∙◌}
use mathlib.Core.Logic.{◌⊎◌, inl, inr}
use mathlib.Core.Bool.{Bool, true, false, cond, ◌||◌, ◌&&◌}
use mathlib.Core.List.{List, [], ◌∷◌}
use lib.Dec.{eqb, leb}
use lib.ListN.{length}
use borrow.Author.Tests.{lt-ltb, le-ltb, eq-eqb, ne_eqb, eqb-true, eqb-false}
use Rattle.columns.specs.Lists.{collect, insert, sort}
use Rattle.columns.specs.Ranks.{rank}
use Rattle.columns.proofs.Lists.{lt_or_ge}
use Rattle.columns.proofs.Every.{Chain, sort-chain}
use Rattle.rules.specs.Input.{Input, Schema, object_count}
use Rattle.rules.specs.Edges.{Parts, Pair, pair_le, pairs_of, weak_pairs, weak_targets, graph}
use Rattle.rules.specs.Needs.{objects_of}
use Rattle.rules.specs.Questions.{Columns, columns_of, plainly, weak_read, weak_in}
use Rattle.rules.proofs.Acceptance.{Passed}
use Rattle.rules.proofs.Asked.{weak-back}
use Rattle.rules.proofs.Laid.{either_pair}
use Rattle.rules.proofs.Meets.{Meets}
use Rattle.rules.proofs.Finished.{weak-rows, mine_all}
use Rattle.rules.proofs.Weak.{mine, pair_climbs}
use Rattle.ask_span.specs.Reading.{span_part, weak_rows_of}
use Rattle.ask_span.proofs.Spans.{rank-next, part_is, weak_inside}
use Rattle.ask_span.proofs.Built.{weak-built, weak-kept}

-- How two pairs compare, by their objects: a lower one, the same, a higher one.
lower : (p q : Pair) → p.object < q.object → pair_le p q ≡ true
lower p q l = ap (λ (b : Bool). b || (eqb p.object q.object && leb p.target q.target)) (lt-ltb p.object q.object l)

level : (p q : Pair) → p.object ≡ q.object → pair_le p q ≡ leb p.target q.target
level p q e = ap₂ (λ (a b : Bool). a || (b && leb p.target q.target)) (le-ltb p.object q.object (omega arith)) (eq-eqb p.object q.object e)

higher : (p q : Pair) → q.object < p.object → pair_le p q ≡ false
higher p q l = ap₂ (λ (a b : Bool). a || (b && leb p.target q.target)) (le-ltb p.object q.object (omega arith)) (ne_eqb p.object q.object (λ e. omega arith))

chain-rest : (q : Pair) (ps : List Pair) → Chain pair_le (q ∷ ps) → Chain pair_le ps
chain-rest q [] h = tt
chain-rest q (r ∷ ps) h = h.1

-- Of sorted pairs those of one object are sorted by target.
module _ (o : ℕ) where
  -- the targets of o's pairs, with one pair before them
  abbrev before : Pair → List ℕ → List ℕ
  before p ws = cond (eqb p.object o) (p.target ∷ ws) ws

  hit : (p : Pair) (ws : List ℕ) → p.object ≡ o → before p ws ≡ p.target ∷ ws
  hit p ws e = ap (λ (b : Bool). cond b (p.target ∷ ws) ws) (eq-eqb p.object o e)

  miss : (p : Pair) (ws : List ℕ) → (p.object ≡ o → ⊥) → before p ws ≡ ws
  miss p ws d = ap (λ (b : Bool). cond b (p.target ∷ ws) ws) (ne_eqb p.object o d)

  -- from a pair of a later object on there is none of o's
  later : (q : Pair) (ps : List Pair) → o < q.object → Chain pair_le (q ∷ ps) → mine o (q ∷ ps) ≡ []
  later q [] l h = miss q [] (λ e. omega arith)
  later q (r ∷ ps) l h = miss q (mine o (r ∷ ps)) (λ e. omega arith) ∙ later r ps (omega (arith, pair_climbs q r h.0)) h.1

  insert_other : (p : Pair) (ps : List Pair) → (p.object ≡ o → ⊥) → mine o (insert pair_le p ps) ≡ mine o ps
  insert_other p [] d = miss p [] d
  insert_other p (q ∷ ps) d = go (pair_le p q) (insert_other p ps d)
    where
      go : (b : Bool) → mine o (insert pair_le p ps) ≡ mine o ps → mine o (cond b (p ∷ q ∷ ps) (q ∷ insert pair_le p ps)) ≡ mine o (q ∷ ps)
      go true ih = miss p (mine o (q ∷ ps)) d
      go false ih = ap (before q) ih

  insert-own : (p : Pair) (ps : List Pair) → p.object ≡ o → Chain pair_le ps → mine o (insert pair_le p ps) ≡ insert leb p.target (mine o ps)
  insert-own p [] e h = hit p [] e
  insert-own p (q ∷ ps) e h = go (lt_or_ge q.object o) (lt_or_ge o q.object) (insert-own p ps e (chain-rest q ps h))
    where
      put : {b : Bool} → pair_le p q ≡ b → mine o (cond (pair_le p q) (p ∷ q ∷ ps) (q ∷ insert pair_le p ps)) ≡ mine o (cond b (p ∷ q ∷ ps) (q ∷ insert pair_le p ps))
      put r = ap (λ (b : Bool). mine o (cond b (p ∷ q ∷ ps) (q ∷ insert pair_le p ps))) r

      beside : q.object ≡ o → mine o (insert pair_le p ps) ≡ insert leb p.target (mine o ps) → (b : Bool)
          → mine o (cond b (p ∷ q ∷ ps) (q ∷ insert pair_le p ps)) ≡ cond b (p.target ∷ q.target ∷ mine o ps) (q.target ∷ insert leb p.target (mine o ps))
      beside s ih true = hit p (mine o (q ∷ ps)) e ∙ ap (λ (ws : List ℕ). p.target ∷ ws) (hit q (mine o ps) s)
      beside s ih false = hit q (mine o (insert pair_le p ps)) s ∙ ap (λ (ws : List ℕ). q.target ∷ ws) ih

      go : (q.object < o) ⊎ (o ≤ q.object) → (o < q.object) ⊎ (q.object ≤ o) → mine o (insert pair_le p ps) ≡ insert leb p.target (mine o ps)
          → mine o (cond (pair_le p q) (p ∷ q ∷ ps) (q ∷ insert pair_le p ps)) ≡ insert leb p.target (mine o (q ∷ ps))
      go (inl l) m ih =
          let d : q.object ≡ o → ⊥ = λ z. omega arith in
          put (higher p q (omega arith)) ∙ miss q (mine o (insert pair_le p ps)) d ∙ ih ∙ sym (ap (insert leb p.target) (miss q (mine o ps) d))
      go (inr l) (inl m) ih =
          let none : mine o (q ∷ ps) ≡ [] = later q ps m h in
          put (lower p q (omega arith)) ∙ hit p (mine o (q ∷ ps)) e ∙ ap (λ (ws : List ℕ). p.target ∷ ws) none ∙ sym (ap (insert leb p.target) none)
      go (inr l) (inr m) ih =
          let s : q.object ≡ o = omega arith in
          put (level p q (omega arith)) ∙ beside s ih (leb p.target q.target) ∙ sym (ap (insert leb p.target) (hit q (mine o ps) s))

  pub mine-sort : (ps : List Pair) → mine o (sort pair_le ps) ≡ sort leb (mine o ps)
  mine-sort [] = refl
  mine-sort (p ∷ ps) = go (eqb p.object o) refl (mine-sort ps)
    where
      go : (b : Bool) → eqb p.object o ≡ b → mine o (sort pair_le ps) ≡ sort leb (mine o ps)
          → mine o (insert pair_le p (sort pair_le ps)) ≡ sort leb (cond b (p.target ∷ mine o ps) (mine o ps))
      go true e ih = insert-own p (sort pair_le ps) (eqb-true p.object o e) (sort-chain pair_le either_pair ps) ∙ ap (insert leb p.target) ih
      go false e ih = insert_other p (sort pair_le ps) (eqb-false p.object o e) ∙ ih

-- Where the rows answered are those of the ranks, the part that they say is what is read there.
rows-read : (c : Columns) (n o : ℕ) → o < n
    → weak_rows_of (length c.offsets.short) c.weak_from c.weak_to o ≡ plainly n o (0 ∷ rank c.weak_from o ∷ rank c.weak_from (suc o) ∷ [])
    → span_part (weak_rows_of (length c.offsets.short) c.weak_from c.weak_to o) c.weak_to ≡ weak_read c o
unfolding weak_read
rows-read c n o l e =
    let a = rank c.weak_from o in
    let z = rank c.weak_from (suc o) in
    let says : weak_rows_of (length c.offsets.short) c.weak_from c.weak_to o ≡ 0 ∷ a ∷ z ∷ []
    = e ∙ ap (λ (b : Bool). cond b (0 ∷ a ∷ z ∷ []) (11 ∷ o ∷ [])) (lt-ltb o n l) in
    ap (λ (s : List ℕ). span_part s c.weak_to) says
    ∙ part_is c.weak_to a z (rank-next c.weak_from o) (weak_inside (length c.offsets.short) c.weak_from c.weak_to o says)

-- Columns that meet PARTS, as `from_parts` codes them: the rows hold the targets of o's pairs.
pub weak-targets-kept : (s : Schema) (p : Parts) (law : Meets s.names p) (few : length p.labels < 2 ^ 64) (o : ℕ) → length p.weak_from ≡ length p.weak_to
    → o < objects_of p → let c = columns_of s p in span_part (weak_rows_of (length c.offsets.short) c.weak_from c.weak_to o) c.weak_to ≡ weak_in p.weak_from p.weak_to o
unfolding columns_of
weak-targets-kept s p law few o even l = rows-read (columns_of s p) (objects_of p) o l (weak-kept s p law few o even) ∙ weak-back s p law few even o

module _ (x : Input) (h : Passed x) (o : ℕ) (l : o < object_count x) where
  abbrev c : Columns
  c = columns_of x.schema (graph x)

  -- The rows of o's weak pairs hold its weak targets, sorted, repeats kept.
  pub weak-rows-built : weak_read c o ≡ sort leb (weak_targets x o)
  unfolding graph weak_pairs
  weak-rows-built =
      weak-rows x h o ∙ mine-sort o (collect (pairs_of x) (object_count x))
      ∙ ap (sort leb) (mine_all x o (object_count x) l)

  -- So does the part of the weak targets that the answer of `weak_referents` says.
  pub weak-targets-built : span_part (weak_rows_of (length c.offsets.short) c.weak_from c.weak_to o) c.weak_to ≡ sort leb (weak_targets x o)
  unfolding columns_of
  weak-targets-built = rows-read c (object_count x) o l (weak-built x h o) ∙ weak-rows-built
