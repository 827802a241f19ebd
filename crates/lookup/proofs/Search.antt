-- A search between two places: what a test at a place leaves, where the search ends, and what it then answers. Assumes nothing.
use mathlib.Core.Path.{◌≡◌, sym, ap, ◌∙◌}
use mathlib.Core.Logic.{⊎_elim}
use mathlib.Core.List.{List}
use Prim.Native.Nat.{ℕ, ◌+◌, ◌≤◌, ◌<◌, zero-le}
use native.Mathlib.Omega.{arith}
use lib.ListN.{length}
use Rattle.columns.specs.Lists.{◌!◌}
use Rattle.columns.specs.Ranks.{rank, Ranked}
use Rattle.columns.proofs.Lists.{lt_or_ge}
use Rattle.columns.proofs.Ranks.{rank_within, rank_below, rank_above, bisect-rank, bisect-found}
use Rattle.columns.proofs.Search.{find_at, rank-missing}
use Rattle.std.specs.Prelude.{Ok, Err}
use Rattle.lookup.specs.Lookup.{lookup_of, Sought, Held}

pub held_all : (xs : List ℕ) (x : ℕ) → Held xs x 0 (length xs)
held_all xs x = record { ordered = zero-le; inside = omega arith; low = λ rise. zero-le; high = λ rise. rank_within xs x }

module _ {xs : List ℕ} {x lo hi : ℕ} (h : Held xs x lo hi) (m : ℕ) where
  pub held_up : m < hi → xs ! m < x → Held xs x (m + 1) hi
  held_up l t =
      record {
        ordered = omega arith;
        inside = h.inside;
        low = λ rise. ⊎_elim (λ g. omega arith) (λ g. absurd (omega (arith, rank_above xs x rise m g (omega (arith, h.inside))))) (lt_or_ge m (rank xs x));
        high = h.high;
      }

  pub held_down : lo ≤ m → m ≤ hi → x ≤ xs ! m → Held xs x lo m
  held_down l k t =
      record {
        ordered = l;
        inside = omega (arith, h.inside);
        low = h.low;
        high = λ rise. ⊎_elim (λ g. absurd (omega (arith, rank_below xs x rise m g))) (λ g. g) (lt_or_ge m (rank xs x));
      }

pub held-end : {xs : List ℕ} {x lo hi : ℕ} → Held xs x lo hi → hi ≤ lo → Ranked xs x lo
held-end h e = record { within = omega (arith, h.ordered, h.inside); ranked = λ rise. omega (arith, h.low rise, h.high rise) }

-- an id that stands in the column stands at its rank
pub ranked-at : (xs : List ℕ) (x m : ℕ) → m < length xs → xs ! m ≡ x → Ranked xs x m
ranked-at xs x m l e =
    record {
      within = omega arith;
      ranked = λ rise. sym (bisect-found xs m rise l) ∙ bisect-rank xs (xs ! m) rise ∙ ap (rank xs) e;
    }

pub sought_at : {xs : List ℕ} {x k : ℕ} → k < length xs → xs ! k ≡ x → Sought xs x (Ok k)
unfolding lookup_of
sought_at {xs = xs} {x = x} {k = k} l e = record { stands = (l, e); sought = λ rise. rw (find_at xs x k rise l e) }

pub sought_missing : {xs : List ℕ} {x k : ℕ} → Ranked xs x k → (k < length xs → xs ! k ≡ x → ⊥) → Sought xs x (Err k)
unfolding lookup_of
sought_missing {xs = xs} {x = x} {k = k} r no-at =
    record {
      stands = r.within;
      sought = λ rise. let e = r.ranked rise in rw (rank-missing xs x rise (rw e at no-at)) (ap Err e);
    }
