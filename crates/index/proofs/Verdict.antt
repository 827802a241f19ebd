-- An answer that accepts says that nothing is refused; and from what coding leaves to its contract. Assumes nothing.
use mathlib.Core.Path.{◌≡◌, refl, sym, ap, ◌∙◌}
use mathlib.Core.Bool.{true, false}
use mathlib.Core.List.{List, [], ◌∷◌}
use Prim.Native.Nat.{ℕ}
use borrow.Author.Tests.{le-ltb, ltb-false}
use lib.Dec.{ltb}
use lib.ListN.{length}
use Rattle.columns.specs.Lists.{◌!◌}
use Rattle.columns.specs.Columns.{accepts}
use Rattle.columns.proofs.Written.{leaves-zeros, leaves-padded}
use Rattle.columns.proofs.Answers.{past}
use Rattle.std.specs.Prelude.{Result, Err}
use Rattle.index.specs.declared.CodedIds.{CodedIds}
use Rattle.index.specs.declared.IdsError.{IdsError}
use Rattle.index.specs.declared.IdsError.TheVariants.{Room}
use Rattle.index.specs.Copied.{ids_coding_says, IdsAccepted, IdsFilled, IdsEmptied, IdsCoding, ids_coded_says, escape_rows}

pub refuses : (e : IdsError) → accepts (ids_coded_says (Err e)) ≡ false
unfolding accepts
refuses (Room k) = refl

pub accepted_says : {base : ℕ} {ids : List ℕ} {nc np ni : ℕ} → IdsAccepted base ids nc np ni → ids_coding_says base ids nc np ni ≡ 0 ∷ length ids ∷ escape_rows base ids ∷ []
unfolding ids_coding_says
accepted_says a = simp (le-ltb _ _ a.room_codes, le-ltb _ _ a.room_places, le-ltb _ _ a.room_ids)

module _ (base : ℕ) (ids : List ℕ) (nc np ni : ℕ) where
  accepted : accepts (ids_coding_says base ids nc np ni) ≡ true → IdsAccepted base ids nc np ni
  unfolding ids_coding_says
  accepted h =
      let a = past (ltb nc (length ids)) 8 _ _ h in
      let b = past (ltb np (escape_rows base ids)) 8 _ _ a.1 in
      let c = past (ltb ni (escape_rows base ids)) 8 _ _ b.1 in
      record { room_codes = ltb-false _ _ a.0; room_places = ltb-false _ _ b.0; room_ids = ltb-false _ _ c.0 }

  module _ (r : Result CodedIds IdsError) (e : ids_coded_says r ≡ ids_coding_says base ids nc np ni) where
    -- an answer that accepts: its facts, and the escapes that it gives
    pub coding_accepted : accepts (ids_coded_says r) ≡ true → IdsAccepted base ids nc np ni
    coding_accepted y = accepted (ap accepts (sym e) ∙ y)

    pub coding-rows : accepts (ids_coded_says r) ≡ true → ids_coded_says r ! 2 ≡ escape_rows base ids
    coding-rows y = ap (λ (says : List ℕ). says ! 2) (e ∙ accepted_says (coding_accepted y))

    pub coding-done : {c p v : List ℕ} → accepts (ids_coded_says r) ≡ true → IdsFilled base ids nc np ni c p v → IdsCoding base ids nc np ni r c p v
    coding-done y f = record {
      answer = e;
      codes = leaves-padded _ _ nc y f.codes;
      escape_places = leaves-padded _ _ np y f.places;
      escape_ids = leaves-padded _ _ ni y f.escaped;
    }

    pub coding_refused : {c p v : List ℕ} → accepts (ids_coded_says r) ≡ false → IdsEmptied nc np ni c p v → IdsCoding base ids nc np ni r c p v
    coding_refused n z = record {
      answer = e;
      codes = leaves-zeros _ _ nc n z.codes;
      escape_places = leaves-zeros _ _ np n z.places;
      escape_ids = leaves-zeros _ _ ni n z.escaped;
    }
