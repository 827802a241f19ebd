-- `ask_field::first_label` meets its contract: each edge before k reads, and has another label. Assumes nothing.
use mathlib.Core.Path.{sym}
use native.Mathlib.Omega.{arith}
use Rattle.std.proofs.lemmas.Result.{err_from_is_err_and}
use Rattle.columns.proofs.First.{searching_start}
use Rattle.ask_field.proofs.Placed.{decoded_more, decoded-hit, decoded-bad, decoded-end, element-says, field-says, no_field_says, unsaid_past}
use Rattle.ask_field.proofs.first_label.Goals.{then-code-most+else-l-label+else-l-ge-ARRAY_ELEMENT, else-code-most+then-code-lt-ELEMENT+in_ok-said+else-said-label, else-code-most+else-code-lt-ELEMENT}
use Rattle.ask_field.proofs.first_label.Goals as goal

pub loop-k-init : goal.loop-k-init
loop-k-init g c = λ rows h. searching_start _ _

-- a field
pub bounds-fields-code : goal.bounds-fields-code
bounds-fields-code g c = omega (arith, c.plain_codes-most.ensures.0, c.if-code-most.true)

pub returns-then-l-label : goal.returns-then-l-label
returns-then-l-label g c = let m = c.plain_codes-most.ensures in
    λ rows h. decoded-hit _ _ _ _ (c.loop-k.invariant rows h) c.loop-k-test.true (field-says _ _ (omega (arith, m.1, c.if-code-most.true)) (λ q. omega (arith, m.1, c.if-code-most.true)) (omega (arith, m.0, c.if-code-most.true)) (omega arith)) c.if-l-label.true

pub returns-then-l-ge-ARRAY_ELEMENT : goal.returns-then-l-ge-ARRAY_ELEMENT
returns-then-l-ge-ARRAY_ELEMENT g c = let m = c.plain_codes-most.ensures in
    λ rows h. decoded-bad _ _ _ _ (c.loop-k.invariant rows h) c.loop-k-test.true (no_field_says _ _ (omega (arith, m.1, c.if-code-most.true)) (λ q. omega (arith, m.1, c.if-code-most.true)) (omega (arith, m.0, c.if-code-most.true)) c.if-l-ge-ARRAY_ELEMENT.true)

-- what is read
pub returns-then-said-label : goal.returns-then-said-label
returns-then-said-label g c = λ rows h. decoded-hit _ _ _ _ (c.loop-k.invariant rows h) c.loop-k-test.true
    (sym (h _ _ (unsaid_past _ _ _ (omega (arith, c.requires.count_in_bounds.0)) c.plain_codes-most.ensures.2 c.if-code-most.false c.if-code-lt-ELEMENT.true) c.in_ok-said.ensures)) c.if-said-label.true

pub returns-in_err-said : goal.returns-in_err-said
returns-in_err-said g c = let p = err_from_is_err_and c.from_residual.result c.from_residual.ensures.1 in
    λ rows h. rw p.1 (decoded-bad _ _ _ _ (c.loop-k.invariant rows h) c.loop-k-test.true
    (sym (h _ _ (unsaid_past _ _ _ (omega (arith, c.requires.count_in_bounds.0)) c.plain_codes-most.ensures.2 c.if-code-most.false c.if-code-lt-ELEMENT.true) c.in_err-said.ensures)))

-- a field that is another, what is read and is another, an element
pub loop-k-preserved : goal.loop-k-preserved
loop-k-preserved g c = let m = c.plain_codes-most.ensures in
    λ rows h.
    elim c.if-code-most.branch [
      | then-code-most+else-l-label+else-l-ge-ARRAY_ELEMENT w ↦
          decoded_more _ _ _ _ (c.loop-k.invariant rows h) c.loop-k-test.true (field-says _ _ (omega (arith, m.1, w.if-code-most.true)) (λ q. omega (arith, m.1, w.if-code-most.true)) (omega (arith, m.0, w.if-code-most.true)) w.if-l-ge-ARRAY_ELEMENT.false) w.if-l-label.false
      | else-code-most+then-code-lt-ELEMENT+in_ok-said+else-said-label w ↦ decoded_more _ _ _ _ (c.loop-k.invariant rows h) c.loop-k-test.true
          (sym (h _ _ (unsaid_past _ _ _ (omega (arith, c.requires.count_in_bounds.0)) m.2 w.if-code-most.false w.if-code-lt-ELEMENT.true) w.in_ok-said.ensures)) w.if-said-label.false
      | else-code-most+else-code-lt-ELEMENT w ↦ decoded_more _ _ _ _ (c.loop-k.invariant rows h) c.loop-k-test.true (element-says _ _ w.if-code-lt-ELEMENT.false) (λ q. omega arith)
    ]

pub returns : goal.returns
returns g c = λ rows h. decoded-end _ _ _ _ (c.loop-k.invariant rows h) c.loop-k-test.false
