-- Which fields are chosen, by the marks. Assumes nothing.
use Prim.Native.Nat.{ℕ, ◌+◌, ◌-◌, ◌≤◌, ◌<◌}
use native.Mathlib.Nat.{sub-zero}
use native.Mathlib.Omega.{arith}
use mathlib.Core.Path.{◌≡◌, sym, ap, ◌∙◌}
use mathlib.Core.List.{List, ◌∷◌}
use lib.ListN.{length, length-replicate}
use lib.Seq.{ext_get_or}
use Rattle.columns.specs.Lists.{◌!◌}
use Rattle.columns.specs.Columns.{zeros, over, cleared}
use Rattle.columns.proofs.Lists.{tab-at, tab-length}
use Rattle.columns.proofs.Written.{zeroed, zero-at}
use Rattle.rules.specs.Types.{loader_label}
use Rattle.rules.specs.Labels.{occurring, listed, fields_of}
use Rattle.label_fields.specs.Marks.{mark_labels, marked_labels}
use Rattle.labels.specs.Fields.{slots_named, first, Chosen}
use Rattle.labels.proofs.Listed.{fields-listed, fields-ranked}
use Rattle.label_fields.proofs.Marks.{marked_occurring}

-- the labels marked in a table that was cleared
pub marked_cleared : (names : ℕ) (t₀ ls : List ℕ) {z t : List ℕ} → names ≤ loader_label → names + 2 ≤ length t₀ → z ≡ cleared 0 t₀ → t ≡ mark_labels names z ls → marked_labels names t ≡ occurring names ls
marked_cleared names t₀ ls {z} few long e m =
    let is : z ≡ zeros (length t₀) = zeroed t₀ e in
    ap (marked_labels names) m
    ∙ marked_occurring names z ls few (omega (arith, ap length is, length-replicate {A = ℕ} (length t₀) 0)) (λ i l. ap (λ (t : List ℕ). t ! i) is ∙ zero-at (length t₀) i)

pub slots_all : (labels : List ℕ) → slots_named labels 0 (length labels) ≡ labels
slots_all labels =
    ext_get_or 0 (slots_named labels 0 (length labels)) labels (tab-length _ (length labels))
    (λ i l. tab-at (λ k. labels ! (0 + k)) 0 (length labels) i (omega (arith, tab-length (λ k. labels ! (0 + k)) (length labels))) ∙ let z : 0 + i ≡ i = omega arith in rw z)

-- Which fields are chosen, from how many are marked in a cleared table.
module _ (names : ℕ) (t₀ ns labels : List ℕ) (few : names ≤ loader_label) (long : names + 2 ≤ length t₀) {z t : List ℕ} {r : ℕ} (e : z ≡ cleared 0 t₀) (m : t ≡ mark_labels names z (loader_label ∷ ns)) (n : r ≡ length (marked_labels names t)) where
  marked_listed : marked_labels names t ≡ listed names ns
  unfolding listed
  marked_listed = marked_cleared names t₀ (loader_label ∷ ns) few long e m

  pub chosen_listed : r ≤ 32767 → marked_labels names t ≡ fields_of names ns labels
  chosen_listed h = marked_listed ∙ sym (fields-listed names ns labels (omega (arith, ap length marked_listed)))

  pub chosen_marked : {f₀ f : List ℕ} → r ≤ 32767 → f ≡ over (marked_labels names t) f₀ → Chosen (fields_of names ns labels) f₀ r f
  chosen_marked {f₀} h w = record { used = n ∙ ap length (chosen_listed h); front = w ∙ ap (λ (z : List ℕ). over z f₀) (chosen_listed h) }

  pub chosen_ranked : 32767 < r → fields_of names ns labels ≡ first names labels
  chosen_ranked h = fields-ranked names ns labels (omega (arith, ap length marked_listed))

  -- and where the fields have room these have
  pub marked_fit : {m : ℕ} → r ≤ 32767 → length (fields_of names ns labels) ≤ m → length (marked_labels names t) ≤ m
  marked_fit h l = omega (arith, ap length (chosen_listed h), l)

  pub ranked_fit : {m : ℕ} → 32767 < r → length (fields_of names ns labels) ≤ m → length (first names labels) ≤ m
  ranked_fit h l = omega (arith, ap length (chosen_ranked h), l)

-- how many occur on the edges, by the marks of all their labels
pub occurring-count : (names : ℕ) (t₀ labels : List ℕ) {z t : List ℕ} {r : ℕ} → names ≤ loader_label → names + 2 ≤ length t₀ → z ≡ cleared 0 t₀ → t ≡ mark_labels names z (slots_named labels 0 (length labels - 0)) → r ≡ length (marked_labels names t) → r ≡ length (occurring names labels)
occurring-count names t₀ labels {z} few long e m n =
    let all : slots_named labels 0 (length labels - 0) ≡ labels = rw (sub-zero (length labels)) (slots_all labels) in
    n ∙ ap length (marked_cleared names t₀ labels few long e (m ∙ ap (mark_labels names z) all))
