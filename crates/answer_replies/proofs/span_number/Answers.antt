-- `answer_replies::span_number` meets its contract: a span is packed, and a refusal is 0. Assumes nothing.
use mathlib.Core.Path.{◌≡◌, refl, sym, ap, ◌∙◌}
use Prim.Native.Nat.{ℕ}
use Rattle.std.specs.Prelude.{Result}
use Rattle.store_read.specs.declared.ReadError.{ReadError}
use Rattle.store_read.specs.declared.ReadError.TheVariants.{Index, Columns}
use Rattle.columns.specs.Lists.{all_of}
use Rattle.columns.specs.Columns.{accepts}
use Rattle.rules.specs.declared.Span.{Span}
use Rattle.rules.specs.Types.{span_says, read_error_says}
use Rattle.answer_replies.specs.Reply.{span_number}
use Rattle.answer_replies.proofs.span_number.Goals as goal

abbrev number : Result Span ReadError → ℕ
number a = span_number (span_says a)

none : (e : ReadError) → span_number (read_error_says e) ≡ 0
unfolding span_number all_of accepts
none (Index i) = refl
none (Columns o) = refl

pub returns-in-Err : goal.returns-in-Err
returns-in-Err c = sym (ap number c.in-Err.is ∙ none _)
