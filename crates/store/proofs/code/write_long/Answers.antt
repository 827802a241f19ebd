-- `store::code::write_long` meets its contract: the k rows of the long places below i are written. Assumes nothing.
use mathlib.Core.Path.{◌≡◌, refl, ap, ◌∙◌}
use mathlib.Core.Bool.{true, false}
use mathlib.Core.List.{List, [], ◌∷◌, map, map-append}
use Prim.Native.Nat.{ℕ}
use native.Mathlib.Omega.{arith}
use borrow.Author.Tests.{le-leb, lt-leb}
use lib.ListN.{length}
use Rattle.columns.specs.Lists.{◌!◌, places}
use Rattle.columns.specs.Columns.{over}
use Rattle.columns.proofs.Lists.{places_all}
use Rattle.columns.proofs.Written.{written_none, written_hit, written_miss}
use Rattle.store.specs.Blocked.{is_long, long_at_to}
use Rattle.store.proofs.code.write_long.Goals as goal
use Rattle.store.proofs.code.write_long.Goals.{then-above-ge65535, else-above-ge65535}

pub loop-i-init : goal.loop-i-init
unfolding places
loop-i-init c = (written_none _, written_none _)

pub returns-then-rows-k : goal.returns-then-rows-k
returns-then-rows-k c =
    let ys = c.args.values.now in
    let w = c.loop-i.invariant in
    let e : long_at_to ys c.loop-i.i ≡ long_at_to ys (length ys) = places_all (is_long ys) _ _ (omega arith) (omega (arith, w.0.used)) in record {
      long_at = w.0.holds ∙ ap (λ (xs : List ℕ). over xs c.args.long_at.now) e;
      long_value = w.1.holds ∙ ap (λ (xs : List ℕ). over (map (λ i. ys ! i) xs) c.args.long_value.now) e;
    }

pub loop-i-preserved : goal.loop-i-preserved
loop-i-preserved c =
    let vs = c.args.values.now in
    let at = c.loop-i.i in
    let i = c.loop-i.invariant in
    elim c.if-above-ge65535.branch [
      | then-above-ge65535 w ↦
          let long : is_long vs at ≡ true = le-leb _ _ (omega arith) in
          rw (w.long_at-is, w.long_value-is, w.k-is) (
            written_hit (is_long vs) (λ xs. xs) at i.0 _ long (omega arith) refl,
            written_hit (is_long vs) (map (λ i. vs ! i)) at i.1 _ long (omega arith) (map-append (λ i. vs ! i) (long_at_to vs at) (at ∷ [])),
          )
      | else-above-ge65535 w ↦
          let short : is_long vs at ≡ false = lt-leb _ _ (omega arith) in
          rw (w.long_at-is, w.long_value-is, w.k-is) (
            written_miss (is_long vs) (λ xs. xs) at i.0 short,
            written_miss (is_long vs) (map (λ i. vs ! i)) at i.1 short,
          )
    ]
