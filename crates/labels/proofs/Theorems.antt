-- What the contracts come to: reading what the coding left gives the labels, exact and coarse. Assumes nothing.
use Prim.Native.Nat.{ℕ, ◌+◌, ◌≤◌, ◌<◌}
use native.Mathlib.Omega.{arith}
use mathlib.Core.Path.{◌≡◌, sym, ap, ◌∙◌}
use mathlib.Core.Bool.{true}
use mathlib.Core.List.{List, [], ◌∷◌}
use lib.ListN.{length, take, length-map}
use Rattle.columns.specs.Lists.{◌!◌}
use Rattle.columns.proofs.Lists.{places_rise}
use Rattle.columns.proofs.Written.{over-front}
use Rattle.rules.specs.Edges.{Parts}
use Rattle.rules.specs.Labels.{Coded, codes_for, is_escaped, coded}
use Rattle.rules.specs.Needs.{objects_of}
use Rattle.rules.specs.Parts.{degree}
use Rattle.rules.specs.Questions.{coarse, label_reads}
use Rattle.rules.proofs.Meets.{Meets}
use Rattle.rules.proofs.Codes.{own_at, codes-count, read-labels, coarse-code, label-good}
use Rattle.std.specs.Prelude.{Result, Ok, Err}
use Rattle.rules.specs.declared.Label.{Label}
use Rattle.labels.specs.declared.Unread.{Unread}
use Rattle.labels.specs.Coding.{LabelsLaid}
use Rattle.labels.specs.Reading.{read_says, coded_of, coarse_back, exact_back}
use Rattle.labels.proofs.Back.{exact_back_lem, coarse-back}

abbrev pub label : ℕ → Label
label n = record { 0 = n }

says_is : (r : Result Label Unread) (l : ℕ) → read_says r ≡ l ∷ [] → r ≡ Ok (label l)
says_is (Ok x) l e = let z : x.0 ≡ l = cc in ap (λ (n : ℕ). Ok (label n)) z
says_is (Err x) l e = let z : ◌≡◌ {A = ℕ} 0 1 = cc in absurd (omega arith)

-- Columns that meet PARTS, coded over any fields that have codes, and what the coding left of them.
module _ (names : ℕ) (p : Parts) (law : Meets names p) (small : (e : ℕ) → p.labels ! e < 4294967296) (fields : List ℕ) (few : length fields ≤ 32767) where
  abbrev d : Coded
  d = coded fields p.offsets p.labels (objects_of p)

  module _ {c₀ a₀ l₀ c a l : List ℕ} {rows : ℕ} (w : LabelsLaid d c₀ a₀ l₀ rows c a l) where
    abbrev left : Coded
    left = coded_of (take (length p.labels) c) fields (take rows a) (take rows l)

    labels_size : length d.escape_label ≡ rows
    unfolding coded
    labels_size = length-map d.escape_at (λ e. p.labels ! e) ∙ sym w.rows

    codes_size : length d.codes ≡ length p.labels
    unfolding coded
    codes_size = codes-count names p law fields few

    is_coded : left ≡ d
    unfolding coded
    is_coded =
        rw (w.codes, w.escape_at, w.escape_label, over-front d.codes c₀ (length p.labels) codes_size, over-front d.escape_at a₀ rows (sym w.rows), over-front d.escape_label l₀ rows labels_size)

    module _ (o : ℕ) (h : o < objects_of p) where
      abbrev e : ℕ
      e = p.offsets ! o

      reads : (k : ℕ) → k < degree p.offsets o → label_reads d e k ≡ true
      reads k m = label-good names p law fields few o k h m (omega (arith, own_at names p law o k m, small (e + k)))

      exact_d : (k : ℕ) → k < degree p.offsets o → exact_back d e k ≡ p.labels ! (e + k) ∷ []
      unfolding coded
      exact_d k m =
          exact_back_lem d (places_rise (λ e. is_escaped (codes_for fields p.offsets p.labels (objects_of p) ! e)) _) (sym (length-map d.escape_at (λ e. p.labels ! e))) e k (λ j n. reads j (omega arith))
          ∙ ap (λ (x : ℕ). x ∷ []) (read-labels names p law fields few o k h m)

      coarse-d : (k : ℕ) → k < degree p.offsets o → coarse_back d (e + k) ≡ coarse (p.labels ! (e + k)) ∷ []
      unfolding coded
      coarse-d k m =
          coarse-back d (places_rise (λ e. is_escaped (codes_for fields p.offsets p.labels (objects_of p) ! e)) _) (sym (length-map d.escape_at (λ e. p.labels ! e))) e k (reads k m)
          ∙ ap (λ (x : ℕ). x ∷ []) (coarse-code d e k (reads k m) ∙ ap coarse (read-labels names p law fields few o k h m))

      -- an answer that meets the contract of `exact`, or of `coarse`, over the used parts is the label
      pub exact_label : (k : ℕ) (r : Result Label Unread) → k < degree p.offsets o → read_says r ≡ exact_back left e k → r ≡ Ok (label (p.labels ! (e + k)))
      exact_label k r m s = says_is r _ (s ∙ ap (λ (z : Coded). exact_back z e k) is_coded ∙ exact_d k m)

      pub coarse_label : (k : ℕ) (r : Result Label Unread) → k < degree p.offsets o → read_says r ≡ coarse_back left (e + k) → r ≡ Ok (label (coarse (p.labels ! (e + k))))
      coarse_label k r m s = says_is r _ (s ∙ ap (λ (z : Coded). coarse_back z (e + k)) is_coded ∙ coarse-d k m)
