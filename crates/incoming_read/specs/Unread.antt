-- Which objects inverting cannot read back, edge by edge; and the tests that leave no doubt, without a walk of every label. Assumes nothing.
use Rattle.std.specs.Prelude.{ℕ, suc, ◌+◌, ◌-◌, min, ◌≡◌, Bool, cond, not, List, [], ◌∷◌, eqb, leb, ltb, length, Option, Some, is_some}
use Rattle.columns.specs.Lists.{◌!◌, any, first_place, all_of}
use Rattle.columns.specs.Columns.{accepts}
use Rattle.store.specs.Blocked.{Blocked, read_back}
use Rattle.rules.specs.Types.{is_element}
use Rattle.rules.specs.Labels.{Coded}
use Rattle.rules.specs.Questions.{Columns, objects_in, rises}
use Rattle.rules.specs.Incoming.{can_read}
use Rattle.ask_span.specs.Reading.{span_of}
use Rattle.incoming_read.specs.declared.pass.Spans.{Spans}

-- "COLUMNS at the lowest object that can't be read back": that object, or how many there are
abbrev pub first_unread : Columns → ℕ
first_unread c = first_place (λ o. not (can_read c o)) (objects_in c)

-- "The long and escape lists strictly rise", and are columns of one table each.
unfoldable pub lists_rise : List ℕ → List ℕ → List ℕ → List ℕ → Bool
lists_rise long_at long_value escape_at escape_label =
    all_of (rises long_at ∷ eqb (length long_at) (length long_value) ∷ rises escape_at ∷ eqb (length escape_at) (length escape_label) ∷ [])

-- The span of object o reads, and is within document 01's limits.
unfoldable pub span_reads : Blocked → ℕ → ℕ → ℕ → Bool
span_reads b codes targets o = all_of (accepts (span_of b codes targets o) ∷ ltb o 67108864 ∷ leb (read_back b (suc o) ! 1) 268435456 ∷ [])

-- so few edges that no element's index passes 31 bits by gaps alone
unfoldable pub is_narrow : Blocked → ℕ → Bool
is_narrow b o = leb (read_back b (suc o) ! 1 - read_back b o ! 1) 65536

-- All spans read: then where the first object's edges begin and the last one's end, and whether all are narrow. There is an object.
pub record SpansRead (b : Blocked) (codes targets : ℕ) (r : Option Spans) : Type 0 where
  pub good : is_some r ≡ not (any (λ o. not (span_reads b codes targets o)) (length b.short - 1))
  pub narrow : (s : Spans) → r ≡ Some s → s.narrow ≡ not (any (λ o. not (is_narrow b o)) (length b.short - 1))
  pub start : (s : Spans) → r ≡ Some s → s.start ≡ read_back b 0 ! 1
  pub end : (s : Spans) → r ≡ Some s → s.end ≡ read_back b (length b.short - 1) ! 1

-- A code that asks for no row: an element's gap, or the place of one of so many fields.
unfoldable pub is_plain : ℕ → ℕ → Bool
is_plain fields code = cond (leb 32768 code) (ltb code 65535) (ltb code (min fields 32767))

-- the codes from one place up to another ask for no row, and no field has an element's label
unfoldable pub codes_plain : Coded → ℕ → ℕ → Bool
codes_plain d from to =
    all_of
    (not (any (λ k. not (is_plain (length d.fields) (d.codes ! (from + k)))) (to - from))
    ∷ not (any (λ i. is_element (d.fields ! i)) (length d.fields))
    ∷ [])
