-- The lowest object that cannot be read back: it is the first where a list does not rise, and none exactly where each object can be read.
-- Assumes nothing.
use Prim.Native.Nat.{ℕ, ◌<◌}
use native.Mathlib.Omega.{arith}
use mathlib.Core.Path.{◌≡◌, refl, sym, ap, ◌∙◌}
use mathlib.Core.Logic.{⊎_elim}
use mathlib.Core.Bool.{Bool, true, false, not, false≢true}
use mathlib.Core.List.{List}
use lib.ListN.{length, get_or}
use borrow.Author.Tests.{not-false}
use Rattle.columns.specs.Lists.{any, places}
use Rattle.columns.proofs.Lists.{lt_or_ge, first_none, first-hit}
use Rattle.columns.proofs.Tests.{each_of, none_any, no_places}
use Rattle.rules.specs.Questions.{Columns, objects_in, reads_back}
use Rattle.rules.specs.Incoming.{can_read}
use Rattle.incoming_read.specs.Unread.{first_unread, lists_rise, span_reads}
use Rattle.incoming_read.proofs.Readable.{meets_span, span_can, risen, all_four}

abbrev pub unread : Columns → ℕ → Bool
unread c o = not (can_read c o)

-- "The lowest object that can't be read back" is none exactly where each can be.
pub unread_none : (c : Columns) → first_unread c ≡ objects_in c → (o : ℕ) → o < objects_in c → can_read c o ≡ true
unread_none c e o l = not-false _ (first_none (λ o. not (can_read c o)) (objects_in c) o (omega (arith, e)) l)

pub none_unread : (c : Columns) → ((o : ℕ) → o < objects_in c → can_read c o ≡ true) → first_unread c ≡ objects_in c
none_unread c h = ap (λ (xs : List ℕ). get_or xs 0 (objects_in c)) (no_places (λ o. not (can_read c o)) (objects_in c) (λ o l. ap not (h o l)))

pub good_spans : (c : Columns) → ((o : ℕ) → o < objects_in c → can_read c o ≡ true)
    → not (any (λ o. not (span_reads c.offsets (length c.labels.codes) (length c.targets) o)) (objects_in c)) ≡ true
good_spans c h =
    ap not (none_any _ (objects_in c) (λ o l. ap not (meets_span c.offsets (length c.labels.codes) (length c.targets) o l (span_can c o (h o l)))))

-- where a list does not rise no object can be read
can_risen : (c : Columns) (o : ℕ) → can_read c o ≡ true → risen c ≡ true
unfolding can_read reads_back lists_rise
can_risen c o h = let t = each_of _ (each_of _ h 0) in all_four (t 0) (t 1) (t 2) (t 3)

pub lists_fall : (c : Columns) → risen c ≡ false → 0 ≡ first_unread c
unfolding places
lists_fall c h =
    ⊎_elim
    (λ l. sym (first-hit (unread c) 0 (objects_in c) refl (refuse (can_read c 0) (λ q. false≢true (sym h ∙ can_risen c 0 q))) l))
    (λ l. sym (let z : objects_in c ≡ 0 = omega arith in rw z))
    (lt_or_ge 0 (objects_in c))
  where
    refuse : (b : Bool) → (b ≡ true → ⊥) → not b ≡ true
    refuse true q = absurd (q refl)
    refuse false q = refl
