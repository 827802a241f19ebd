-- The faults of the objects' parts as the checks test them. Assumes nothing.
use mathlib.Core.Path.{◌≡◌, refl, sym, ◌∙◌}
use mathlib.Core.Bool.{Bool}
use mathlib.Core.List.{List}
use Prim.Native.Nat.{ℕ}
use lib.ListN.{length}
use Rattle.columns.specs.Lists.{◌!◌}
use Rattle.rules.specs.Input.{slot_count, element_count}
use Rattle.rules.specs.Verdict.{bad_span, bad_part}
use Rattle.check_ids.specs.Spans.{slots_of, part_length, copied_span_fault, raw_span_fault, copied_spans, raw_spans}

pub copied-span_fault : (kinds classes lengths slot_start slot_end codes starts : List ℕ) (o : ℕ)
    → bad_span (copied_spans kinds classes lengths slot_start slot_end codes starts) o
    ≡ copied_span_fault (kinds ! o) (starts ! o) (part_length (kinds ! o) (classes ! o) (lengths ! o) slot_start slot_end) (length codes)
unfolding bad_span bad_part slot_count element_count copied_span_fault part_length slots_of
copied-span_fault kinds classes lengths slot_start slot_end codes starts o = refl

-- at object o, of a part of length n
pub copied_here : (kinds classes lengths slot_start slot_end codes starts : List ℕ) (o : ℕ) {n : ℕ} {r : Bool}
    → n ≡ part_length (kinds ! o) (classes ! o) (lengths ! o) slot_start slot_end → r ≡ copied_span_fault (kinds ! o) (starts ! o) n (length codes)
    → bad_span (copied_spans kinds classes lengths slot_start slot_end codes starts) o ≡ r
copied_here kinds classes lengths slot_start slot_end codes starts o e er = copied-span_fault kinds classes lengths slot_start slot_end codes starts o ∙ rw (← e) (sym er)

pub raw-span_fault : (kinds lengths starts bodies bytes : List ℕ) (size o : ℕ)
    → bad_span (raw_spans kinds lengths bytes size starts bodies) o ≡ raw_span_fault (kinds ! o) (lengths ! o) (starts ! o) (bodies ! o) (length bytes) size
unfolding bad_span bad_part raw_span_fault
raw-span_fault kinds lengths starts bodies bytes size o = refl
