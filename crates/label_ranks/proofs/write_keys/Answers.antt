-- `label_ranks::write_keys` meets its contract: the keys of the k used labels at places below i are written. Assumes nothing.
use mathlib.Core.Path.{◌≡◌, sym, ap, ◌∙◌}
use mathlib.Core.List.{List, [], ◌∷◌, ◌++◌, map, map-append}
use Prim.Native.Nat.{ℕ, ◌+◌}
use native.Mathlib.Omega.{arith}
use borrow.Author.Tests.{lt-ltb, le-ltb}
use lib.ListN.{length}
use Rattle.columns.specs.Lists.{◌!◌, places}
use Rattle.columns.proofs.Written.{written_none, written_hit, written_miss, written_end}
use Rattle.label_ranks.specs.Keys.{key_of, key_at, is_used, keys_of}
use borrow.Author.Rules.{rules}
use Rattle.label_ranks.proofs.write_keys.Goals as goal
use Rattle.label_ranks.proofs.write_keys.Goals.{then-count-gt0, else-count-gt0}

pub loop-i-init : goal.loop-i-init
unfolding places
loop-i-init c = (search rules, written_none _)

pub loop-i-preserved : goal.loop-i-preserved
loop-i-preserved c = let a = c.args in
    let t = is_used a.counting.now in
    let f = key_at a.names a.counting.now in
    let i = c.loop-i.i in
    let v = c.loop-i.invariant in
    elim c.if-count-gt0.branch [
      | then-count-gt0 w ↦
          let e : w.key_of.result ≡ f i = w.key_of.ensures ∙ ap (key_of (a.counting.now ! i)) w.label_at.ensures in
          let m = map-append f (places t i) (i ∷ []) ∙ ap (λ (n : ℕ). map f (places t i) ++ (n ∷ [])) (sym e) in
          rw (w.k-is, w.ranking-is) (omega arith, written_hit t (map f) i v.1 _ (lt-ltb _ _ w.if-count-gt0.true) (omega arith) m)
      | else-count-gt0 w ↦ rw (w.k-is, w.ranking-is) (omega arith, written_miss t (map f) i v.1 (le-ltb _ _ w.if-count-gt0.false))
    ]

pub returns : goal.returns
unfolding keys_of
returns c = let a = c.args in
    let w = c.loop-i.invariant.1 in
    let e : c.loop-i.i ≡ a.names + 1 = omega arith in
    let F : ℕ → List ℕ = λ n. map (key_at a.names a.counting.now) (places (is_used a.counting.now) n) in
    record { used = sym w.used ∙ ap (λ (n : ℕ). length (F n)) e; keys = written_end F (a.names + 1) w e }
