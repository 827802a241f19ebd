-- `edge_object::step::step_copied` meets its contract: the object's row is read, and its offset written behind it. Assumes nothing.
use mathlib.Core.Path.{refl}
use native.Mathlib.Omega.{arith}
use Rattle.edge_object.proofs.step.step_copied.Goals as goal

pub bounds-working-o : goal.bounds-working-o
bounds-working-o c = omega (arith, c.requires.o_in_bounds.4)

pub bounds-kinds-o : goal.bounds-kinds-o
bounds-kinds-o c = omega (arith, c.requires.o_in_bounds.0)

pub offset_bounds-classes-o : goal.offset_bounds-classes-o
offset_bounds-classes-o c = omega (arith, c.requires.o_in_bounds.1)

pub bounds-classes-o : goal.bounds-classes-o
bounds-classes-o c = omega (arith, c.requires.o_in_bounds.1)

pub offset_bounds-lengths-o : goal.offset_bounds-lengths-o
offset_bounds-lengths-o c = omega (arith, c.requires.o_in_bounds.2)

pub bounds-lengths-o : goal.bounds-lengths-o
bounds-lengths-o c = omega (arith, c.requires.o_in_bounds.2)

pub offset_bounds-starts-o : goal.offset_bounds-starts-o
offset_bounds-starts-o c = omega (arith, c.requires.o_in_bounds.3)

pub bounds-starts-o : goal.bounds-starts-o
bounds-starts-o c = omega (arith, c.requires.o_in_bounds.3)

pub object_copied-q-requires : goal.object_copied-q-requires
object_copied-q-requires c = record {
  rises = c.requires.rises;
  object_bound = c.requires.o_bound;
  slots_in = rw (c.index-class.ensures, c.index-start.ensures) c.requires.slots_in;
  count_bound = rw (c.index-count.ensures, c.index-start.ensures) c.requires.o_bound_2;
  statics_in = c.requires.statics_in;
  mark_in_bounds = c.requires.o_in_bounds_2;
  fact = rw (c.index-class.ensures, c.index-count.ensures, c.index-start.ensures)
      c.requires.fact;
}

pub overflow_add-working : goal.overflow_add-working
overflow_add-working c = omega (arith, c.requires.o_bound)

pub offset_bounds-working-o-2 : goal.offset_bounds-working-o-2
offset_bounds-working-o-2 c = omega (arith, c.requires.o_bound)

pub bounds-working-o-2 : goal.bounds-working-o-2
bounds-working-o-2 c = omega (arith, c.requires.o_in_bounds.4)

pub returns : goal.returns
returns c = record { fact_2 = rw (← c.index-class.ensures, ← c.index-count.ensures, ← c.index-start.ensures) c.object_copied-q.ensures; working_value = refl }
