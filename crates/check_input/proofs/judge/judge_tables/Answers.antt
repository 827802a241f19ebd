-- `check_input::judge::judge_tables` meets its contract: test by test. Assumes nothing.
use mathlib.Core.Path.{sym, ap, ◌∙◌}
use mathlib.Core.List.{[], ◌∷◌}
use Prim.Native.Nat.{ℕ}
use lib.ListN.{length}
use Rattle.columns.proofs.Parts.{first_ext}
use Rattle.rules.specs.Verdict.{bad_object, bad_dumped, bad_find}
use Rattle.check_tables.specs.Found.{marks_if, find_columns}
use Rattle.check_whole.proofs.Narrow.{same_dumped, same-find}
use Rattle.check_input.specs.Flat.{table_columns}
use Rattle.check_input.proofs.Chain.{refused, ids_rise, finds_none, table_object, table_class, table_none}
use Rattle.check_input.proofs.judge.judge_tables.Goals as goal

pub returns-then-o-ids : goal.returns-then-o-ids
unfolding bad_object
returns-then-o-ids c = record { result_value = table_object _ c.first_object-o.ensures c.if-o-ids.true; working_value = refused 2 (c.first_object-o.result ∷ []) }

pub first_dumped-class-requires-clause-rises : goal.first_dumped-class-requires-clause-rises
first_dumped-class-requires-clause-rises c = ids_rise _ c.first_object-o.ensures c.if-o-ids.false

pub returns-then-class-class_ids : goal.returns-then-class-class_ids
unfolding bad_object
returns-then-class-class_ids c = record {
  result_value = table_class _ c.first_object-o.ensures c.if-o-ids.false (c.first_dumped-class.ensures.result_value ∙ first_ext _ (bad_dumped _) _ (λ i l. same_dumped _ i)) c.if-class-class_ids.true;
  working_value = refused 3 (c.first_dumped-class.result ∷ []);
}

pub returns : goal.returns
unfolding bad_object
returns c =
    let a = c.args in
    let x = table_columns a.ids.now a.kinds.now a.classes.now a.lengths.now a.class_ids.now a.dumped.now a.class_kinds.now a.slot_starts.now a.slot_ends.now
    a.static_starts.now a.static_ends.now a.slot_offsets.now a.slot_labels.now a.slot_weak.now a.static_names.now a.static_types.now a.names in
    let class = c.first_dumped-class.ensures.result_value ∙ first_ext _ (bad_dumped x) _ (λ i l. same_dumped x i) in
    record {
      result_value = table_none x c.first_object-o.ensures c.if-o-ids.false class c.if-class-class_ids.false;
      working_value = λ ok. c.first_dumped-class.ensures.working_value_2 ∙ sym (ap (λ (k : ℕ). marks_if (find_columns a.ids.now a.kinds.now a.class_ids.now a.dumped.now) k
          (length a.working.now)) (finds_none x class c.if-class-class_ids.false ∙ first_ext (bad_find x) _ _ (λ i l. same-find x i)));
    }
