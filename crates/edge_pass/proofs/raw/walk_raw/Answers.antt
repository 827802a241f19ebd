-- `edge_pass::raw::walk_raw` meets its contract: the first k objects of the range are passed, and the marks of the others still stand. Assumes nothing.
use native.Mathlib.Omega.{arith}
use Rattle.edge_append.specs.Object.{raw_parts_of}
use Rattle.edge_pass.specs.Range.{ref_parts_of}
use Rattle.edge_pass.proofs.Walks.{walk_none}
use Rattle.edge_pass.proofs.Steps.{walk_end, object_now, ready_now, step_more}
use Rattle.edge_pass.proofs.raw.walk_raw.Goals as goal

pub loop-k-init : goal.loop-k-init
loop-k-init c =
    (walk_none _, c.requires.account_in)

pub overflow_add-first : goal.overflow_add-first
overflow_add-first c = omega (arith, (c.requires.fact.objects c.loop-k.k c.loop-k-test.true).few)

pub step_raw-s-requires : goal.step_raw-s-requires
unfolding ref_parts_of raw_parts_of
step_raw-s-requires c =
    let o = object_now _ c.loop-k.invariant.0 (c.requires.fact.objects c.loop-k.k c.loop-k-test.true) in
    record {
      o_bound = o.few;
      o_in_bounds = (o.kind, o.class, o.count, o.part.start, o.part.body, o.offset);
      slots_in = o.part.slots;
      slot_offsets_len = o.part.offsets;
      body_in = o.part.fields;
      o_bound_2 = o.part.elements;
      statics_in = o.statics;
      o_in_bounds_2 = o.loader;
      fact = ready_now _ c.loop-k.invariant.0 c.requires.fact.room c.loop-k-test.true c.loop-k.invariant.1;
    }

pub loop-k-preserved : goal.loop-k-preserved
unfolding ref_parts_of raw_parts_of
loop-k-preserved c =
    step_more _ c.loop-k.invariant.0 c.step_raw-s.ensures.fact_2 c.step_raw-s.ensures.working_value c.loop-k.invariant.1

pub returns : goal.returns
returns c = walk_end (omega arith) c.loop-k.invariant.0
