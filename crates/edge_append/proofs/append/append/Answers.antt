-- `edge_append::append::append` meets its contract: at each return the tests that led there say what becomes of the reference. Assumes nothing.
use mathlib.Core.Path.{refl}
use native.Mathlib.Omega.{arith}
use Rattle.edge_append.proofs.Outcomes.{zero-nothing, kept-edge, other_weak, lost-missing, loader_nothing, one_room}
use Rattle.edge_append.proofs.Outcomes.{nothing_appended, edge_appended, weak_appended, missing_appended}
use Rattle.edge_append.proofs.append.append.Goals as goal

pub returns-then-id-eq0 : goal.returns-then-id-eq0
returns-then-id-eq0 c = nothing_appended (zero-nothing _ _ _ _ _ c.if-id-eq0.true) refl

pub bounds-targets-at : goal.bounds-targets-at
bounds-targets-at c =
    let h = one_room (kept-edge _ _ _ _ _ c.if-id-eq0.false (c.in-Ok.ensures.sought c.requires.rising) c.if-kept.true) c.requires in
    omega (arith, h.0)

pub bounds-labels-at : goal.bounds-labels-at
bounds-labels-at c =
    let h = one_room (kept-edge _ _ _ _ _ c.if-id-eq0.false (c.in-Ok.ensures.sought c.requires.rising) c.if-kept.true) c.requires in
    omega (arith, h.1)

pub returns-then-kept : goal.returns-then-kept
returns-then-kept c =
    edge_appended c.narrow.ensures (kept-edge _ _ _ _ _ c.if-id-eq0.false (c.in-Ok.ensures.sought c.requires.rising) c.if-kept.true) c.absorb_found.ensures

pub bounds-weak_to-at : goal.bounds-weak_to-at
bounds-weak_to-at c =
    let h = one_room (other_weak _ _ _ _ _ c.if-id-eq0.false (c.in-Ok.ensures.sought c.requires.rising) c.if-kept.false) c.requires in
    omega (arith, h.2)

pub returns-else-kept : goal.returns-else-kept
returns-else-kept c =
    weak_appended c.narrow-in-Ok.ensures (other_weak _ _ _ _ _ c.if-id-eq0.false (c.in-Ok.ensures.sought c.requires.rising) c.if-kept.false) c.absorb_weak.ensures

pub absorb_missing-requires : goal.absorb_missing-requires
absorb_missing-requires c =
    let low = c.if-kind.true in
    (one_room (lost-missing _ _ _ _ _ c.if-id-eq0.false (c.in-Err.ensures.sought c.requires.rising) low) c.requires).3

pub returns-then-kind : goal.returns-then-kind
returns-then-kind c =
    let low = c.if-kind.true in
    missing_appended (lost-missing _ _ _ _ _ c.if-id-eq0.false (c.in-Err.ensures.sought c.requires.rising) low) c.absorb_missing.ensures

pub returns-else-kind : goal.returns-else-kind
returns-else-kind c =
    let high = c.if-kind.false in
    nothing_appended (loader_nothing _ _ _ _ _ c.if-id-eq0.false (c.in-Err.ensures.sought c.requires.rising) high) refl
