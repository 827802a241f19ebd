-- From the checks and the coding to what `from_parts` leaves; and that no second outcome is allowed. Assumes nothing.
use Prim.Native.Nat.{ℕ}
use mathlib.Core.Path.{◌≡◌, refl, sym, ap, ap₂, ◌∙◌}
use mathlib.Core.Bool.{Bool, true, false, cond, true≢false}
use mathlib.Core.List.{List, [], ◌∷◌}
use lib.ListN.{length}
use Rattle.columns.specs.Lists.{◌!◌}
use Rattle.columns.specs.Columns.{accepts}
use Rattle.columns.proofs.Answers.{accepting}
use Rattle.rules.specs.declared.Refusal.{Refusal}
use Rattle.rules.specs.Types.{refusal_says}
use Rattle.rules.proofs.Types.{refusal_refuses}
use Rattle.rules.specs.Input.{Schema, class_count}
use Rattle.rules.specs.Edges.{Parts}
use Rattle.rules.specs.Needs.{Lent, short_of_parts}
use Rattle.rules.specs.Verdict.{first_of, at, counts, plain_counts}
use Rattle.rules.specs.Parts.{parts_faults, handed_faults, handed_says, parts_says}
use Rattle.rules.specs.Built.{CodedLeft, coded_left, parts_left}
use Rattle.rules.proofs.First.{first-append}
use Rattle.rules.proofs.Handed.{handed-passed, handed_refuse}
use Rattle.check_parts.specs.Checks.{handed}
use Rattle.code_columns.specs.Stages.{hand_on, Where, Ready}
use Rattle.code_columns.specs.Finished.{naming_of, Finished, PartsCoding}
use Rattle.code_stages.proofs.Laws.{on_true, on_false}
use Rattle.code_columns.proofs.Readying.{ready_parts}
use Rattle.from_parts.specs.Parts.{parts_of, left_as, plain_says}

-- the checks do not read the dangling count
pub handed-same : (s : Schema) (offsets targets labels weak_from weak_to roots : List ℕ) (dangling : ℕ)
    → handed_says s (handed offsets targets labels weak_from weak_to roots) ≡ handed_says s (parts_of offsets targets labels weak_from weak_to roots dangling)
unfolding handed_says handed_faults parts_faults
handed-same s offsets targets labels weak_from weak_to roots dangling = refl

-- a refusal is the first fault, whatever would follow
refused_first : (fs : List (List ℕ)) (done other : List ℕ) → accepts done ≡ true → accepts (first_of fs done) ≡ false → first_of fs other ≡ first_of fs done
refused_first [] done other y n = absurd (true≢false (sym y ∙ n))
refused_first (f ∷ fs) done other y n = refl

pub refused_counted : (r : Refusal) (weak roots dangling : ℕ) → plain_says (refusal_says r) weak roots dangling ≡ refusal_says r
refused_counted r weak roots dangling =
    ap (λ (b : Bool). cond b (0 ∷ refusal_says r ! 1 ∷ weak ∷ roots ∷ 0 ∷ 0 ∷ 0 ∷ dangling ∷ []) (refusal_says r)) (refusal_refuses r)

-- where the checks accept, they have found no fault
counted-accepts : (checked : List ℕ) (weak roots dangling : ℕ) → accepts (plain_says checked weak roots dangling) ≡ true → accepts checked ≡ true
counted-accepts checked weak roots dangling y = go (accepts checked) refl y
  where
    go : (b : Bool) → accepts checked ≡ b → accepts (cond b (0 ∷ checked ! 1 ∷ weak ∷ roots ∷ 0 ∷ 0 ∷ 0 ∷ dangling ∷ []) checked) ≡ true → accepts checked ≡ true
    go true e h = e
    go false e h = h

module _ (s : Schema) (p : Parts) {checked v : List ℕ} (e : checked ≡ handed_says s p) (f : v ≡ plain_says checked (length p.weak_from) (length p.roots) p.dangling) where
  checked_accepts : accepts v ≡ true → accepts checked ≡ true
  checked_accepts y = counted-accepts checked (length p.weak_from) (length p.roots) p.dangling (ap accepts (sym f) ∙ y)

  no_faults : accepts checked ≡ true → handed_faults s p ≡ []
  unfolding handed_says
  no_faults y = (handed_refuse s p).none_met (0 ∷ length p.labels ∷ []) (ap accepts (sym e) ∙ y)

  -- coding finds what it needs
  pub checked_ready : Where v (Ready (naming_of s) (class_count s) s.names p.offsets p.labels)
  checked_ready y = let h = handed-passed s p (no_faults (checked_accepts y)) in ready_parts s p h.lengths h.limits h.class h.labels h.parts

  checked_is : accepts checked ≡ true → checked ≡ 0 ∷ length p.labels ∷ []
  unfolding handed_says
  checked_is y = e ∙ ap (λ (fs : List (List ℕ)). first_of fs (0 ∷ length p.labels ∷ [])) (no_faults y)

  counted_is : accepts checked ≡ true → v ≡ plain_counts p
  unfolding accepts
  counted_is y =
      f ∙ ap (λ (c : List ℕ). plain_says c (length p.weak_from) (length p.roots) p.dangling) (checked_is y)
      ∙ ap (λ (n : ℕ). 0 ∷ n ∷ length p.weak_from ∷ length p.roots ∷ 0 ∷ 0 ∷ 0 ∷ p.dangling ∷ []) (sym (handed-passed s p (no_faults y)).parts.counted)

  module _ (l : Lent) {says : List ℕ} {left : CodedLeft} (g : PartsCoding (naming_of s) (class_count s) s.names p.offsets p.labels v l says left) where
    finished : Finished s p v l says left
    finished = g s p (record {
      named = refl;
      class_count = refl;
      name_count = refl;
      laid_out = refl;
      labelled = refl;
      told = λ y. counted_is (checked_accepts y);
    })

    abbrev rooms : List ℕ
    rooms = first_of (at 9 (short_of_parts s p l)) (counts s p)

    -- "LENGTHS, LIMIT, CLASS .., PLACES for the label count, PARTS, then ROOM for buffers 4 to 9": the checks' answer, or that of the buffers
    says_are : says ≡ parts_says s p l
    unfolding parts_says handed_says
    says_are = finished.answer ∙ go (accepts checked) refl ∙ sym (first-append (handed_faults s p) (at 9 (short_of_parts s p l)) (counts s p))
      where
        go : (b : Bool) → accepts checked ≡ b → hand_on v rooms ≡ first_of (handed_faults s p) rooms
        go true y =
            on_true v rooms (ap accepts (counted_is y) ∙ accepting _) ∙ ap (λ (fs : List (List ℕ)). first_of fs rooms) (sym (no_faults y))
        go false n =
            let is : v ≡ checked = f ∙ ap (λ (b : Bool). cond b (0 ∷ checked ! 1 ∷ length p.weak_from ∷ length p.roots ∷ 0 ∷ 0 ∷ 0 ∷ p.dangling ∷ []) checked) n in
            on_false v rooms (ap accepts is ∙ n) ∙ is ∙ e
            ∙ sym (refused_first (handed_faults s p) (0 ∷ length p.labels ∷ []) rooms (accepting _) (ap accepts (sym e) ∙ n))

    pub parts-left : left_as says left ≡ parts_left s p l
    unfolding parts_left
    parts-left = ap₂ (λ (a : List ℕ) (b : CodedLeft). left_as a b) says_are (finished.columns ∙ ap (λ (a : List ℕ). coded_left a s p l) says_are)
