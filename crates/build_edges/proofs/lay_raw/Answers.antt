-- `build_edges::lay_raw` meets its contract. The stages come together by `half`. Assumes nothing.
use mathlib.Core.Path.{◌≡◌, refl, sym, ap, ◌∙◌}
use mathlib.Core.Bool.{true}
use lib.ListN.{length}
use Rattle.columns.specs.Columns.{accepts}
use Rattle.rules.specs.Types.{checked_says}
use Rattle.rules.specs.Input.{Input}
use Rattle.rules.specs.Places.{place_count}
use Rattle.rules.specs.Verdict.{check_says}
use Rattle.rules.specs.Tables.{object_table, class_table, slot_table, static_table, schema_of, raw_route, input_of}
use Rattle.need_weak.proofs.Theorems as Pairs
use Rattle.build_edges.proofs.Half.{marked, Staged, handed, half}
use Rattle.build_edges.proofs.Asks.{raw-asked, roots-asked}
use Rattle.build_edges.proofs.lay_raw.Goals as goal

pub weak_raw-w-requires : goal.weak_raw-w-requires
weak_raw-w-requires c =
    let input : Input =
    let a = c.args in
    input_of
    (object_table (λ x. x.now) a.ids a.kinds a.classes a.lengths)
    (schema_of
    (class_table (λ x. x.now) a.class_ids a.loaders a.dumped a.class_kinds a.slot_starts a.slot_ends a.static_starts a.static_ends)
    (slot_table (λ x. x.now) a.slot_offsets a.slot_labels a.slot_weak)
    (static_table (λ x. x.now) a.static_names a.static_types a.static_values)
    a.names)
    (raw_route (λ x. x.now) a.bytes a.size a.starts a.bodies)
    a.roots.now
    a.policy in
    let accepted : accepts (checked_says c.fit_raw-c.result) ≡ true → accepts (check_says input) ≡ true =
    λ ok. ap accepts (sym c.fit_raw-c.ensures.answer) ∙ ok in
    λ ok.
    raw-asked input (accepted ok) _ refl

pub roots_of-n-requires : goal.roots_of-n-requires
roots_of-n-requires c =
    let input : Input =
    let a = c.args in
    input_of
    (object_table (λ x. x.now) a.ids a.kinds a.classes a.lengths)
    (schema_of
    (class_table (λ x. x.now) a.class_ids a.loaders a.dumped a.class_kinds a.slot_starts a.slot_ends a.static_starts a.static_ends)
    (slot_table (λ x. x.now) a.slot_offsets a.slot_labels a.slot_weak)
    (static_table (λ x. x.now) a.static_names a.static_types a.static_values)
    a.names)
    (raw_route (λ x. x.now) a.bytes a.size a.starts a.bodies)
    a.roots.now
    a.policy in
    let accepted : accepts (checked_says c.fit_raw-c.result) ≡ true → accepts (check_says input) ≡ true =
    λ ok. ap accepts (sym c.fit_raw-c.ensures.answer) ∙ ok in
    λ ok.
    roots-asked input (accepted ok) _ _ c.fit_raw-c.ensures.marks

pub edges_raw-requires : goal.edges_raw-requires
edges_raw-requires c =
    let input : Input =
    let a = c.args in
    input_of
    (object_table (λ x. x.now) a.ids a.kinds a.classes a.lengths)
    (schema_of
    (class_table (λ x. x.now) a.class_ids a.loaders a.dumped a.class_kinds a.slot_starts a.slot_ends a.static_starts a.static_ends)
    (slot_table (λ x. x.now) a.slot_offsets a.slot_labels a.slot_weak)
    (static_table (λ x. x.now) a.static_names a.static_types a.static_values)
    a.names)
    (raw_route (λ x. x.now) a.bytes a.size a.starts a.bodies)
    a.roots.now
    a.policy in
    let staged : (Staged input c.args.bases (length c.args.short.now) c.first_rooms-v.result c.args.targets.now c.args.labels.now c.args.weak_from.now c.args.weak_to.now c.args.roots_out.now c.args.working.now c.roots_of-n.new.working c.roots_of-n.new.roots_out) =
    record {
      check = c.fit_raw-c.result;
      told = place_count input;
      marks = c.fit_raw-c.new.working;
      pairs = c.weak_raw-w.result;
      distinct = c.roots_of-n.result;
      tested = marked _ c.fit_raw-c.ensures;
      weak = λ ok. rw (Pairs.weak-raw input _ refl) (c.weak_raw-w.ensures ok);
      rooted = c.roots_of-n.ensures;
      working_kept =
          c.roots_of-n.auto.working
          ∙ c.fit_raw-c.auto.working;
      roots_kept = c.roots_of-n.auto.roots_out;
      rooms = c.first_rooms-v.ensures;
    } in
    λ ok.
    record { whole = input; read = refl; handed = handed staged c.begin.ensures ok }

pub returns : goal.returns
returns c =
    let input : Input =
    let a = c.args in
    input_of
    (object_table (λ x. x.now) a.ids a.kinds a.classes a.lengths)
    (schema_of
    (class_table (λ x. x.now) a.class_ids a.loaders a.dumped a.class_kinds a.slot_starts a.slot_ends a.static_starts a.static_ends)
    (slot_table (λ x. x.now) a.slot_offsets a.slot_labels a.slot_weak)
    (static_table (λ x. x.now) a.static_names a.static_types a.static_values)
    a.names)
    (raw_route (λ x. x.now) a.bytes a.size a.starts a.bodies)
    a.roots.now
    a.policy in
    let staged : (Staged input c.args.bases (length c.args.short.now) c.first_rooms-v.result c.args.targets.now c.args.labels.now c.args.weak_from.now c.args.weak_to.now c.args.roots_out.now c.args.working.now c.roots_of-n.new.working c.roots_of-n.new.roots_out) =
    record {
      check = c.fit_raw-c.result;
      told = place_count input;
      marks = c.fit_raw-c.new.working;
      pairs = c.weak_raw-w.result;
      distinct = c.roots_of-n.result;
      tested = marked _ c.fit_raw-c.ensures;
      weak = λ ok. rw (Pairs.weak-raw input _ refl) (c.weak_raw-w.ensures ok);
      rooted = c.roots_of-n.ensures;
      working_kept =
          c.roots_of-n.auto.working
          ∙ c.fit_raw-c.auto.working;
      roots_kept = c.roots_of-n.auto.roots_out;
      rooms = c.first_rooms-v.ensures;
    } in
    half staged (c.edges_raw.ensures input refl (handed staged c.begin.ensures))
