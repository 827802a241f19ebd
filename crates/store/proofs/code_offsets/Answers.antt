-- `store::code_offsets` meets its contract: the columns are filled where the answer accepts, and zero where it refuses. Assumes nothing.
use Rattle.std.specs.Prelude.{Ok, Err}
use Rattle.columns.proofs.Answers.{accepting}
use Rattle.store.proofs.Verdict.{coding_accepted, coding-rows, coding-done, coding_refused, refuses}
use Rattle.store.proofs.code_offsets.Goals as goal

pub write_all-requires : goal.write_all-requires
write_all-requires c = record {
  rows_value = coding-rows _ _ _ _ _ (Ok c.in-Ok.coded) c.in-Ok.ensures (accepting _);
  accepted = coding_accepted _ _ _ _ _ (Ok c.in-Ok.coded) c.in-Ok.ensures (accepting _);
}

pub returns-in-Ok : goal.returns-in-Ok
returns-in-Ok c = coding-done _ _ _ _ _ (Ok c.in-Ok.coded) c.in-Ok.ensures (accepting _) c.write_all.ensures

pub returns-in-Err : goal.returns-in-Err
returns-in-Err c = coding_refused _ _ _ _ _ (Err c.in-Err.e) c.in-Err.ensures (refuses _) c.zero_all.ensures
