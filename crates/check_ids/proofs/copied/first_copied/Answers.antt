-- `check_ids::copied::first_copied` meets its contract: the escapes rise, or the first that does not is the answer; then the quick test passes, or the walk decides.
-- Assumes nothing.
use mathlib.Core.Path.{refl, sym, ap, ◌∙◌}
use native.Mathlib.Omega.{arith}
use Rattle.check_ids.specs.Copying.{fault_says}
use Rattle.check_ids.proofs.Walking.{copied_fall, copied_walk, copied_rises}
use Rattle.check_ids.proofs.Clean.{clean_none}
use Rattle.check_ids.proofs.copied.first_copied.Goals as goal

pub returns-then-fall-escape_places : goal.returns-then-fall-escape_places
returns-then-fall-escape_places c = record {
  fault = copied_fall _ c.first_fall-fall.result c.first_fall-fall.ensures c.if-fall-escape_places.true;
  held = refl;
}

pub returns-then-is_clean : goal.returns-then-is_clean
returns-then-is_clean c = record {
  fault =
      clean_none _ (copied_rises _ c.first_fall-fall.ensures c.if-fall-escape_places.false) c.requires (λ p. omega (arith, c.type_inv.codes p)) (λ k. omega (arith, c.type_inv.escape_ids k))
      c.count_codes-n.ensures.escaped_value (sym c.is_clean.ensures ∙ c.if-is_clean.true)
      ∙ copied_walk _ c.first_fall-fall.ensures c.if-fall-escape_places.false;
  held = c.count_codes-n.ensures.held_value;
}

pub first_walk-requires : goal.first_walk-requires
first_walk-requires c = record { escape_ids_len = c.requires; rises = copied_rises _ c.first_fall-fall.ensures c.if-fall-escape_places.false }

pub returns-in-Some : goal.returns-in-Some
returns-in-Some c = record {
  fault = ap fault_says (sym c.in-Some.is) ∙ c.first_walk.ensures ∙ copied_walk _ c.first_fall-fall.ensures c.if-fall-escape_places.false;
  held = refl;
}

pub returns-in-None : goal.returns-in-None
returns-in-None c = record {
  fault = ap fault_says (sym c.in-None.is) ∙ c.first_walk.ensures ∙ copied_walk _ c.first_fall-fall.ensures c.if-fall-escape_places.false;
  held = c.count_codes-n.ensures.held_value;
}
