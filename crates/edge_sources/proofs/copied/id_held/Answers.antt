-- `edge_sources::copied::id_held` meets its contract: by the answer of the reader. Assumes nothing.
use Prim.Native.Nat.{ℕ}
use mathlib.Core.Path.{◌≡◌, ◌∙◌}
use Rattle.std.specs.Prelude.{Result, Ok, Err}
use Rattle.std.specs.Result.{result_unwrap_or}
use Rattle.columns.specs.Columns.{accepts}
use Rattle.index.specs.Copied.{Ids, id_back, id_says}
use Rattle.index_read.specs.declared.IdError.{IdError}
use Rattle.index_read.specs.declared.IdError.TheVariants.{Index, Copied}
use Rattle.rules.specs.Input.{copied_id}
use Rattle.edge_sources.proofs.copied.id_held.Goals as goal

id_or_none : (r : Result ℕ IdError) (d : Ids) (i : ℕ) → id_says r ≡ id_back d i → result_unwrap_or r 0 ≡ copied_id d i
unfolding copied_id accepts
id_or_none (Ok id) d i e = rw (← e)
id_or_none (Err (Index k)) d i e = rw (← e)
id_or_none (Err (Copied k)) d i e = rw (← e)

pub returns : goal.returns
returns c = c.unwrap_or.ensures ∙ id_or_none c.id_at.result _ _ c.id_at.ensures
