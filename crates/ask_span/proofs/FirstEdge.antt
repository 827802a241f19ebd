-- The first edge of a list by its place, and where there is none. Assumes nothing.
use Prim.Native.Nat.{ℕ, zero, suc, ◌<◌}
use native.Mathlib.Omega.{arith}
use mathlib.Core.Path.{◌≡◌, refl, sym, ap, ap₂, ◌∙◌}
use mathlib.Core.Bool.{Bool, true, false, cond}
use mathlib.Core.List.{List, [], ◌∷◌, ◌++◌}
use mathlib.Core.Option.{Option, none, some}
use lib.Dec.{ltb}
use lib.ListN.{get_or, length}
use borrow.Author.Tests.{lt-ltb, le-ltb}
use Rattle.columns.specs.Lists.{◌!◌, tab, places, first_place}
use Rattle.columns.proofs.Lists.{places-below}
use Rattle.columns.proofs.Every.{Every}
use Rattle.rules.specs.Edges.{Edge}
use Rattle.rules.specs.Questions.{first_edge}

-- The first edge of a list that is laid out by place.
module _ (t : Edge → Bool) (g : ℕ → Edge) where
  abbrev or_next : Option Edge → Option Edge → Option Edge
  or_next none v = v
  or_next (some a) v = some a

  abbrev head : List ℕ → Option Edge
  head [] = none
  head (k ∷ ks) = some (g k)

  edge-append : (xs ys : List Edge) → first_edge t (xs ++ ys) ≡ or_next (first_edge t xs) (first_edge t ys)
  edge-append [] ys = refl
  edge-append (a ∷ xs) ys = go (t a) (edge-append xs ys)
    where
      go : (b : Bool) → first_edge t (xs ++ ys) ≡ or_next (first_edge t xs) (first_edge t ys)
          → cond b (some a) (first_edge t (xs ++ ys)) ≡ or_next (cond b (some a) (first_edge t xs)) (first_edge t ys)
      go true h = refl
      go false h = h

  head-append : (xs ys : List ℕ) → head (xs ++ ys) ≡ or_next (head xs) (head ys)
  head-append [] ys = refl
  head-append (k ∷ xs) ys = refl

  edges-head : (n : ℕ) → first_edge t (tab g n) ≡ head (places (λ k. t (g k)) n)
  unfolding tab places
  edges-head zero = refl
  edges-head (suc n) =
      edge-append (tab g n) (g n ∷ []) ∙ ap₂ or_next (edges-head n) (last (t (g n))) ∙ sym (head-append (places (λ k. t (g k)) n) (cond (t (g n)) (n ∷ []) []))
    where
      last : (b : Bool) → cond b (some (g n)) none ≡ head (cond b (n ∷ []) [])
      last true = refl
      last false = refl

  pub first_edge_lem : (n : ℕ) → first_edge t (tab g n) ≡ cond (ltb (first_place (λ k. t (g k)) n) n) (some (g (first_place (λ k. t (g k)) n))) none
  first_edge_lem n = edges-head n ∙ go (places (λ k. t (g k)) n) (places-below (λ k. t (g k)) n)
    where
      go : (ks : List ℕ) → ((i : ℕ) → i < length ks → ks ! i < n) → head ks ≡ cond (ltb (get_or ks 0 n) n) (some (g (get_or ks 0 n))) none
      go [] h = rw (le-ltb n n (omega arith))
      go (k ∷ ks) h = rw (lt-ltb k n (h 0 (omega arith)))

-- Where no edge passes there is no first one.
pub none_passes : (t : Edge → Bool) (es : List Edge) → Every (λ (e : Edge). t e ≡ false) es → first_edge t es ≡ none
none_passes t [] h = refl
none_passes t (e ∷ es) h = ap (λ (b : Bool). cond b (some e) (first_edge t es)) h.0 ∙ none_passes t es h.1
