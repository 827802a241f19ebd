-- THE SAME REFERENCES UNDER EVERY POLICY (M-111): what is said of two builds of one input x, of which b is what the one left under the policy p, and d what the
-- other left under q. Either route: it is the input's. Assumes nothing.
use Rattle.std.specs.Prelude.{ℕ, ◌+◌, ◌<◌, ◌≡◌, List, map, take}
use Rattle.columns.specs.Lists.{◌!◌}
use Rattle.rules.specs.declared.ReferencePolicy.{ReferencePolicy}
use Rattle.rules.specs.Input.{Input, object_count}
use Rattle.rules.specs.Edges.{Edge}
use Rattle.rules.specs.Built.{BuildLeft, used_columns}
use Rattle.rules.specs.Questions.{edges_read, weak_read}
use Rattle.rules.specs.Policies.{reached, taken_together, NoWeakSlot, KeepsMore, Subsequence}

-- Object o's edges and weak targets, read back from what a build left.
abbrev pub edges_left : Input → BuildLeft → ℕ → List Edge
edges_left x b o = edges_read (used_columns (object_count x) b) o

abbrev pub weak_left : Input → BuildLeft → ℕ → List ℕ
weak_left x b o = weak_read (used_columns (object_count x) b) o

pub record SameReferences (x : Input) (p q : ReferencePolicy) (b d : BuildLeft) : Type 0 where
  -- "Per object, edges plus weak pairs are the same targets, counted with repeats;
  pub same_targets : (o t : ℕ) → o < object_count x → reached (edges_left x b o) (weak_left x b o) t ≡ reached (edges_left x d o) (weak_left x d o) t
  -- dangling counts and roots are equal;
  pub same_dangling : b.says ! 7 ≡ d.says ! 7
  pub same_roots : take (b.says ! 3) b.roots ≡ take (d.says ! 3) d.roots
  -- objects of classes without a weak slot have the same edges in the same order.
  pub same_order : (o : ℕ) → o < object_count x → NoWeakSlot x o → edges_left x b o ≡ edges_left x d o
  -- Keeping more never removes an edge": those under p are left, in their order, and others stand between them.
  pub never_removed : KeepsMore p q → (o : ℕ) → o < object_count x → Subsequence (edges_left x b o) (edges_left x d o)
  -- In numbers: edges and weak pairs returned, and the account row by row, are the same sums.
  pub same_sum : b.says ! 1 + b.says ! 2 ≡ d.says ! 1 + d.says ! 2
  pub same_rows : map taken_together b.account ≡ map taken_together d.account
