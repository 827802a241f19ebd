-- What a call left, told. Assumes nothing.
use Prim.Native.Nat.{ℕ}
use mathlib.Core.Path.{◌≡◌, sym, ap, ◌∙◌}
use mathlib.Core.List.{List}
use Rattle.rules.specs.Built.{CodedLeft, BuildLeft, PartsLeft}
use Rattle.build_rooms.specs.Stages.{left_of}
use Rattle.from_parts.specs.Parts.{left_as}
use Rattle.answer_numbers.specs.Told.{told}
use Rattle.rules.specs.Incoming.{InLeft}
use Rattle.incoming.specs.Laying.{left_inverted}
use Rattle.yokefathom.specs.Calls.{BuildTold, PartsTold, InvertTold}

pub build_told : {left : BuildLeft} {says answer ts ls fs ws rs wk : List ℕ} {coded : CodedLeft} {a : List (List ℕ)} → answer ≡ told 9 says → left_of says ts ls fs ws rs wk coded a ≡ left → BuildTold left answer ts ls fs ws rs wk coded a
build_told {left} {says} {answer} {ts} {ls} {fs} {ws} {rs} {wk} {coded} {a} e l =
    let said : says ≡ left.says = ap (λ (b : BuildLeft). b.says) l in
    record { told_as = e ∙ ap (told 9) said; columns = ap (λ (s : List ℕ). left_of s ts ls fs ws rs wk coded a) (sym said) ∙ l }

pub parts-told : {left : PartsLeft} {says answer : List ℕ} {coded : CodedLeft} → answer ≡ told 9 says → left_as says coded ≡ left → PartsTold left answer coded
parts-told {left} {says} {answer} {coded} e l =
    let said : says ≡ left.says = ap (λ (b : PartsLeft). b.says) l in
    record { told_as = e ∙ ap (told 9) said; columns = ap (λ (s : List ℕ). left_as s coded) (sym said) ∙ l }

pub invert_told : {left : InLeft} {says answer s p b h a v w : List ℕ} → answer ≡ told 4 says → left_inverted says s p b h a v w ≡ left
    → InvertTold left answer (left_inverted left.says s p b h a v w)
invert_told {left} {says} {answer} {s} {p} {b} {h} {a} {v} {w} e l =
    let said : says ≡ left.says = ap (λ (x : InLeft). x.says) l in
    record { told_as = e ∙ ap (told 4) said; columns = ap (λ (z : List ℕ). left_inverted z s p b h a v w) (sym said) ∙ l }
