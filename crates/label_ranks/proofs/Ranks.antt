-- What the steps of the ranking come to: the labels of the first sorted keys are the first of the ranking. Assumes nothing.
use Prim.Native.Nat.{ℕ, ◌+◌, ◌-◌, ◌≤◌, ◌<◌, min}
use native.Mathlib.Omega.{arith}
use mathlib.Core.Path.{◌≡◌, sym, ap, ◌∙◌}
use mathlib.Core.List.{List, ◌++◌, map}
use lib.Dec.{leb}
use lib.ListN.{length, take, drop, length-append, length-take, length-map, length-replicate, get_or-append}
use Rattle.columns.specs.Lists.{◌!◌, count, sort, part}
use Rattle.columns.specs.Columns.{zeros, cleared, over}
use Rattle.columns.proofs.Lists.{map_at}
use Rattle.columns.proofs.Sums.{length-sort}
use Rattle.columns.proofs.Written.{zeroed, zero-at, over-front}
use Rattle.rules.specs.Types.{loader_label}
use Rattle.rules.specs.Labels.{ranked}
use Rattle.labels.specs.Fields.{table_label, first_ranked}
use Rattle.label_ranks.specs.Keys.{uses, keys_of, key_label, key_labels, Keyed, Of32Bits}
use Rattle.label_ranks.proofs.Uses.{uses_few, uses-at}
use Rattle.label_ranks.proofs.Ranking.{ranked-keys, take_min}
use Rattle.labels.proofs.Occurring.{tab-take}

-- counted from zeros
module _ (names : ℕ) (labels c₀ : List ℕ) {z counts : List ℕ} (cleared_is : z ≡ cleared 0 c₀) (uses-are : counts ≡ uses names z labels) where
  zeros_are : z ≡ zeros (length c₀)
  zeros_are = zeroed c₀ cleared_is

  none : (s : ℕ) → z ! s ≡ 0
  none s = ap (λ (t : List ℕ). t ! s) zeros_are ∙ zero-at (length c₀) s

  pub counted_few : length labels ≤ 4294967295 → Of32Bits counts
  counted_few short s l = omega (arith, ap (λ (t : List ℕ). t ! s) uses-are, uses_few names z labels s, none s)

  pub counted : names ≤ loader_label → names + 2 ≤ length c₀ → (i : ℕ) → i ≤ names → counts ! i ≡ count (table_label names i) labels
  counted few room i l =
      ap (λ (t : List ℕ). t ! i) uses-are
      ∙ uses-at names i few l z labels (omega (arith, ap length zeros_are, length-replicate {A = ℕ} (length c₀) 0))
      ∙ omega (arith, none i)

-- the keys that are written
module _ {names : ℕ} {counts k₀ keys : List ℕ} {used : ℕ} (w : Keyed names counts k₀ used keys) where
  pub used_within : used ≤ length keys
  unfolding over
  used_within = omega (arith, w.used, ap length w.keys, length-append (keys_of names counts) (drop (length (keys_of names counts)) k₀))

  written : part keys 0 used ≡ keys_of names counts
  written = let z : used - 0 ≡ used = omega arith in rw (z, w.keys) (over-front (keys_of names counts) k₀ used (sym w.used))

-- their sorted front
module _ (names : ℕ) (labels : List ℕ) (few : names ≤ loader_label) (short : length labels ≤ 4294967295) {counts k₀ keys : List ℕ} {used : ℕ} (at : (i : ℕ) → i ≤ names → counts ! i ≡ count (table_label names i) labels) (w : Keyed names counts k₀ used keys) (ys rest : List ℕ) (sorted : ys ≡ sort leb (part keys 0 used)) where
  is_sorted : ys ≡ sort leb (keys_of names counts)
  is_sorted = sorted ∙ ap (sort leb) (written w)

  is_ranked : map key_label ys ≡ ranked names labels
  is_ranked = ap (map key_label) is_sorted ∙ ranked-keys names labels few short counts at

  sorted_size : used ≡ length ys
  sorted_size = w.used ∙ sym (ap length is_sorted ∙ length-sort leb (keys_of names counts))

  ranked_size : used ≡ length (ranked names labels)
  ranked_size = sorted_size ∙ sym (length-map ys key_label) ∙ ap length is_ranked

  pub first_used : (k n : ℕ) → n ≡ min k used → n ≡ length (first_ranked k names labels)
  unfolding first_ranked
  first_used k n e = e ∙ ap (min k) ranked_size ∙ sym (length-take k (ranked names labels))

  pub first-labels : (k n : ℕ) → n ≡ min k used → key_labels (ys ++ rest) n ≡ first_ranked k names labels
  unfolding first_ranked
  first-labels k n e =
      tab-take (λ i. key_label ((ys ++ rest) ! i)) (ranked names labels) n (omega (arith, ranked_size))
      (λ i l. let m : i < length ys = omega (arith, sorted_size) in
      ap key_label (get_or-append ys rest 0 i m) ∙ sym (map_at key_label 0 ys i m) ∙ ap (λ (z : List ℕ). z ! i) is_ranked)
      ∙ ap (λ (m : ℕ). take m (ranked names labels)) (e ∙ ap (min k) ranked_size)
      ∙ take_min k (ranked names labels)
