-- `build_edges::lay_copied` meets its contract. The stages come together by `half`. Assumes nothing.
use native.Mathlib.Omega.{arith}
use mathlib.Core.Path.{◌≡◌, refl, ◌∙◌}
use mathlib.Core.Bool.{true}
use lib.ListN.{length}
use Rattle.columns.specs.Columns.{accepts}
use Rattle.rules.specs.Types.{checked_says}
use Rattle.rules.specs.Input.{Input}
use Rattle.rules.specs.Verdict.{check_says}
use Rattle.rules.specs.Tables.{object_table, class_table, slot_table, static_table, schema_of, copied_route, input_of}
use Rattle.need_weak.proofs.Theorems as Pairs
use Rattle.build_edges.proofs.Half.{fitted, told-accepts, Staged, handed, half}
use Rattle.build_edges.proofs.Asks.{copied-asked, roots-asked}
use Rattle.build_edges.proofs.lay_copied.Goals as goal

pub weak_copied-w-requires : goal.weak_copied-w-requires
weak_copied-w-requires c =
    let input : Input =
    let a = c.args in
    input_of
    (object_table (λ x. x.now) a.ids a.kinds a.classes a.lengths)
    (schema_of
    (class_table (λ x. x.now) a.class_ids a.loaders a.dumped a.class_kinds a.slot_starts a.slot_ends a.static_starts a.static_ends)
    (slot_table (λ x. x.now) a.slot_offsets a.slot_labels a.slot_weak)
    (static_table (λ x. x.now) a.static_names a.static_types a.static_values)
    a.names)
    (copied_route (λ x. x.now) a.codes a.escape_places a.escape_ids a.base a.starts)
    a.roots.now
    a.policy in
    let accepted : accepts (checked_says c.fit_copied-c.result) ≡ true → accepts (check_says input) ≡ true =
    λ ok. told-accepts input c.fit_copied-c.ensures.told _ c.fit_copied-c.ensures.answer ok in
    λ ok.
    copied-asked input (accepted ok) _ refl (omega (arith, c.well_formed))

pub roots_of-n-requires : goal.roots_of-n-requires
roots_of-n-requires c =
    let input : Input =
    let a = c.args in
    input_of
    (object_table (λ x. x.now) a.ids a.kinds a.classes a.lengths)
    (schema_of
    (class_table (λ x. x.now) a.class_ids a.loaders a.dumped a.class_kinds a.slot_starts a.slot_ends a.static_starts a.static_ends)
    (slot_table (λ x. x.now) a.slot_offsets a.slot_labels a.slot_weak)
    (static_table (λ x. x.now) a.static_names a.static_types a.static_values)
    a.names)
    (copied_route (λ x. x.now) a.codes a.escape_places a.escape_ids a.base a.starts)
    a.roots.now
    a.policy in
    let accepted : accepts (checked_says c.fit_copied-c.result) ≡ true → accepts (check_says input) ≡ true =
    λ ok. told-accepts input c.fit_copied-c.ensures.told _ c.fit_copied-c.ensures.answer ok in
    λ ok.
    roots-asked input (accepted ok) _ _ c.fit_copied-c.ensures.marks

pub edges_copied-requires : goal.edges_copied-requires
edges_copied-requires c =
    let input : Input =
    let a = c.args in
    input_of
    (object_table (λ x. x.now) a.ids a.kinds a.classes a.lengths)
    (schema_of
    (class_table (λ x. x.now) a.class_ids a.loaders a.dumped a.class_kinds a.slot_starts a.slot_ends a.static_starts a.static_ends)
    (slot_table (λ x. x.now) a.slot_offsets a.slot_labels a.slot_weak)
    (static_table (λ x. x.now) a.static_names a.static_types a.static_values)
    a.names)
    (copied_route (λ x. x.now) a.codes a.escape_places a.escape_ids a.base a.starts)
    a.roots.now
    a.policy in
    let staged : (Staged input c.args.bases (length c.args.short.now) c.first_rooms-v.result c.args.targets.now c.args.labels.now c.args.weak_from.now c.args.weak_to.now c.args.roots_out.now c.args.working.now c.roots_of-n.new.working c.roots_of-n.new.roots_out) =
    record {
      check = c.fit_copied-c.result;
      told = c.fit_copied-c.ensures.told;
      marks = c.fit_copied-c.new.working;
      pairs = c.weak_copied-w.result;
      distinct = c.roots_of-n.result;
      tested = fitted _ _ c.fit_copied-c.ensures c.least.ensures.1;
      weak = λ ok. rw (Pairs.weak-copied input _ refl) (c.weak_copied-w.ensures ok);
      rooted = c.roots_of-n.ensures;
      working_kept =
          c.roots_of-n.auto.working
          ∙ c.fit_copied-c.auto.working;
      roots_kept = c.roots_of-n.auto.roots_out;
      rooms = c.first_rooms-v.ensures;
    } in
    λ ok.
    record { whole = input; read = refl; handed = handed staged c.begin.ensures ok }

pub returns : goal.returns
returns c =
    let input : Input =
    let a = c.args in
    input_of
    (object_table (λ x. x.now) a.ids a.kinds a.classes a.lengths)
    (schema_of
    (class_table (λ x. x.now) a.class_ids a.loaders a.dumped a.class_kinds a.slot_starts a.slot_ends a.static_starts a.static_ends)
    (slot_table (λ x. x.now) a.slot_offsets a.slot_labels a.slot_weak)
    (static_table (λ x. x.now) a.static_names a.static_types a.static_values)
    a.names)
    (copied_route (λ x. x.now) a.codes a.escape_places a.escape_ids a.base a.starts)
    a.roots.now
    a.policy in
    let staged : (Staged input c.args.bases (length c.args.short.now) c.first_rooms-v.result c.args.targets.now c.args.labels.now c.args.weak_from.now c.args.weak_to.now c.args.roots_out.now c.args.working.now c.roots_of-n.new.working c.roots_of-n.new.roots_out) =
    record {
      check = c.fit_copied-c.result;
      told = c.fit_copied-c.ensures.told;
      marks = c.fit_copied-c.new.working;
      pairs = c.weak_copied-w.result;
      distinct = c.roots_of-n.result;
      tested = fitted _ _ c.fit_copied-c.ensures c.least.ensures.1;
      weak = λ ok. rw (Pairs.weak-copied input _ refl) (c.weak_copied-w.ensures ok);
      rooted = c.roots_of-n.ensures;
      working_kept =
          c.roots_of-n.auto.working
          ∙ c.fit_copied-c.auto.working;
      roots_kept = c.roots_of-n.auto.roots_out;
      rooms = c.first_rooms-v.ensures;
    } in
    half staged (c.edges_copied.ensures input refl (handed staged c.begin.ensures))
