-- What a pass over all objects comes to is the graph of the rules. Assumes nothing.
use Prim.Native.Nat.{ℕ, zero, suc, ◌+◌, ◌≤◌, ◌<◌}
use native.Mathlib.Nat.{zero-add}
use native.Mathlib.Omega.{arith}
use mathlib.Core.Path.{◌≡◌, refl, sym, ap, ap₂, ◌∙◌}
use mathlib.Core.List.{List, [], ◌∷◌, ◌++◌}
use lib.Dec.{leb}
use lib.ListN.{length, replicate, take, drop}
use lib.Seq.{sets, sets-eq}
use Rattle.columns.specs.Lists.{◌!◌, collect, tab, sort}
use Rattle.columns.specs.Columns.{over}
use Rattle.columns.proofs.Sums.{total_ext, length-collect, collect_ext, tab_ext}
use Rattle.sort.proofs.Sorted.{sort-length}
use Rattle.rules.specs.Input.{Input, object_count}
use Rattle.rules.specs.Edges.{edges_of, weak_targets, edges, offset, weak_pairs, graph}
use Rattle.edge_append.specs.Append.{edges_among, weak_among, missing_among}
use Rattle.edge_append.specs.Object.{RefParts}
use Rattle.edge_pass.specs.Walk.{edges_to, weak_to, from_to, missing_to, ends_to}
use Rattle.edge_pass.proofs.Bridge.{edges-of, weak-of, missing-of}
use Rattle.edge_pass.proofs.Runs.{runs_targets, runs_objects}
use Rattle.edge_pass.proofs.Parted.{Agrees}

-- What is written from the front on is written over the front.
pub over-front : (xs d : List ℕ) → length xs ≤ length d → sets d 0 xs ≡ over xs d
unfolding over
over-front xs d h =
    let z : 0 + length xs ≡ length xs = omega arith in
    sets-eq xs d 0 (omega arith) ∙ ap (λ (k : ℕ). xs ++ drop k d) z

-- behind a 0
pub over-behind : (us d : List ℕ) → d ! 0 ≡ 0 → length us < length d → sets d 1 us ≡ over (0 ∷ us) d
unfolding over
over-behind us [] e h = absurd (omega arith)
over-behind us (a ∷ d) e h =
    let z : 1 + length us ≡ suc (length us) = omega arith in
    sets-eq us (a ∷ d) 1 (omega arith) ∙ ap (λ (k : ℕ). take 1 (a ∷ d) ++ us ++ drop k (a ∷ d)) z ∙ ap (λ (b : ℕ). b ∷ (us ++ drop (length us) d)) e

tab-front : (g : ℕ → ℕ) (n : ℕ) → tab g (suc n) ≡ g 0 ∷ tab (λ i. g (suc i)) n
unfolding tab
tab-front g zero = refl
tab-front g (suc n) = ap (λ (l : List ℕ). l ++ (g (suc n) ∷ [])) (tab-front g n)

-- The columns.
module _ (x : Input) (p : ℕ → RefParts) (agree : (i : ℕ) → i < object_count x → Agrees x i (p i)) where
  abbrev n : ℕ
  n = object_count x

  abbrev ids : List ℕ
  ids = x.objects.ids

  edges-to : (m : ℕ) → m ≤ n → edges_to ids p m ≡ collect (edges_of x) m
  unfolding edges_to
  edges-to m h = collect_ext _ _ m (λ i l. ap (edges_among ids) (agree i (omega arith)).references ∙ sym (edges-of x i))

  pub all_edges : edges_to ids p n ≡ edges x
  unfolding edges
  all_edges = edges-to n (omega arith)

  pub all_weak : weak_to ids p n ≡ (graph x).weak_to
  unfolding weak_to graph weak_pairs
  all_weak = collect_ext _ _ n (λ i l. ap (sort leb) (ap (weak_among ids) (agree i l).references ∙ sym (weak-of x i))) ∙ sym (runs_targets (weak_targets x) n)

  pub all_objects : from_to ids p 0 n ≡ (graph x).weak_from
  unfolding from_to graph weak_pairs
  all_objects =
      collect_ext _ _ n
      (λ i l. ap₂ (λ (k j : ℕ). replicate k j) (ap length (ap (weak_among ids) (agree i l).references ∙ sym (weak-of x i)) ∙ sym (sort-length (weak_targets x i))) (zero-add i))
      ∙ sym (runs_objects (weak_targets x) n)

  pub all_missing : missing_to ids p n ≡ (graph x).dangling
  unfolding missing_to graph
  all_missing = total_ext _ _ n (λ i l. ap (missing_among ids) (agree i l).references ∙ sym (missing-of x i))

  pub all_offsets : 0 ∷ ends_to ids p 0 n ≡ (graph x).offsets
  unfolding ends_to graph offset
  all_offsets =
      ap (λ (l : List ℕ). 0 ∷ l)
      (tab_ext _ _ n (λ i l. zero-add (length (edges_to ids p (suc i))) ∙ ap length (edges-to (suc i) (omega arith)) ∙ length-collect (edges_of x) (suc i)))
      ∙ sym (tab-front (offset x) n)
