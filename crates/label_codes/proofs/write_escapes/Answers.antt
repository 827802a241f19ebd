-- `label_codes::write_escapes` meets its contract: the k escapes among the codes of the first e labels are written. Assumes nothing.
use mathlib.Core.Path.{◌≡◌, refl}
use mathlib.Core.Bool.{Bool, true, false}
use mathlib.Core.List.{List, [], ◌∷◌, map, map-append}
use Prim.Native.Nat.{ℕ, ◌%◌, ◌<◌}
use native.Mathlib.Omega.{arith}
use borrow.Author.Tests.{eq-eqb, ne_eqb}
use lib.ListN.{length}
use Rattle.columns.specs.Lists.{◌!◌, places}
use Rattle.columns.proofs.Lists.{places_row}
use Rattle.columns.proofs.Written.{Written, written_none, written_hit, written_miss}
use Rattle.rules.specs.Labels.{is_escaped}
use Rattle.labels.specs.Coding.{escaped_to, labels_to}
use Rattle.label_codes.proofs.write_escapes.Goals as goal
use Rattle.label_codes.proofs.write_escapes.Goals.{then-edge_codes-e-eq-ESCAPED, else-edge_codes-e-eq-ESCAPED}

pub loop-e-init : goal.loop-e-init
unfolding escaped_to labels_to places
loop-e-init c = (written_none _, written_none _)

-- an escape has a row among all of them
row : (codes : List ℕ) {d₀ d : List ℕ} {e k n : ℕ} → Written (escaped_to codes e) d₀ d k → (codes ! e) % 32768 ≡ 32767 → e < n → k < length (escaped_to codes n)
unfolding escaped_to
row codes {e = e} {n = n} w h l = omega (arith, w.used, (places_row (λ e. is_escaped (codes ! e)) e n (eq-eqb _ _ h) l).0)

pub offset_bounds-escape_at-k : goal.offset_bounds-escape_at-k
offset_bounds-escape_at-k c = omega (arith, row _ c.loop-e.invariant.0 c.if-edge_codes-e-eq-ESCAPED.true c.loop-e-test.true, c.requires.room_for.at)

pub bounds-escape_at-k : goal.bounds-escape_at-k
bounds-escape_at-k c = omega (arith, row _ c.loop-e.invariant.0 c.if-edge_codes-e-eq-ESCAPED.true c.loop-e-test.true, c.requires.room_for.at)

pub offset_bounds-escape_label-k : goal.offset_bounds-escape_label-k
offset_bounds-escape_label-k c = omega (arith, row _ c.loop-e.invariant.0 c.if-edge_codes-e-eq-ESCAPED.true c.loop-e-test.true, c.requires.room_for.label)

pub bounds-escape_label-k : goal.bounds-escape_label-k
bounds-escape_label-k c = omega (arith, row _ c.loop-e.invariant.0 c.if-edge_codes-e-eq-ESCAPED.true c.loop-e-test.true, c.requires.room_for.label)

pub overflow_add-k : goal.overflow_add-k
overflow_add-k c = omega (arith, row _ c.loop-e.invariant.0 c.if-edge_codes-e-eq-ESCAPED.true c.loop-e-test.true, c.requires.room_for.label)

pub loop-e-preserved : goal.loop-e-preserved
unfolding escaped_to labels_to
loop-e-preserved c = let a = c.args in
    let v = c.loop-e.invariant in
    let t : ℕ → Bool = λ e. is_escaped (a.edge_codes.now ! e) in
    let e = c.loop-e.e in
    let label : List ℕ → List ℕ = map (λ e. a.labels.now ! e) in
    elim c.if-edge_codes-e-eq-ESCAPED.branch [
      | then-edge_codes-e-eq-ESCAPED w ↦
          let h : t e ≡ true = eq-eqb _ _ w.if-edge_codes-e-eq-ESCAPED.true in
          let r = row _ v.0 w.if-edge_codes-e-eq-ESCAPED.true c.loop-e-test.true in
          rw (w.k-is, w.escape_at-is, w.escape_label-is) (
            written_hit t (λ xs. xs) e v.0 _ h (omega (arith, r, c.requires.room_for.at)) refl,
            written_hit t label e v.1 _ h (omega (arith, r, c.requires.room_for.label)) (map-append (λ e. a.labels.now ! e) (places t e) (e ∷ [])),
          )
      | else-edge_codes-e-eq-ESCAPED w ↦
          let h : t e ≡ false = ne_eqb _ _ w.if-edge_codes-e-eq-ESCAPED.false in
          rw (w.k-is, w.escape_at-is, w.escape_label-is) (written_miss t (λ xs. xs) e v.0 h, written_miss t label e v.1 h)
    ]
