-- What the narrow stages of a build answer and leave: ROOM of the first four buffers, and the end. Assumes nothing.
use Rattle.std.specs.Prelude.{Option, None, Some, ℕ, ◌≡◌, true, cond, List, [], ◌∷◌, ◌++◌, ltb}
use Rattle.columns.specs.Lists.{◌!◌}
use Rattle.columns.specs.Columns.{over, cleared, accepts, kept, Begins}
use Rattle.store.specs.Blocked.{blocks_of}
use Rattle.rules.specs.Input.{Input}
use Rattle.rules.specs.Edges.{Parts, graph}
use Rattle.rules.specs.Places.{place_count}
use Rattle.rules.specs.Account.{account, no_account}
use Rattle.rules.specs.Needs.{Lent, Rooms, buffer, need_weak, need_roots, need_offsets}
use Rattle.rules.specs.Verdict.{first_of, at, faults, plain_counts}
use Rattle.rules.specs.Built.{CodedLeft, BuildLeft}
unfoldable pub use Rattle.rules.specs.Needs.{Fits}

-- the lengths of the columns of buffers 1 to 4
pub record Early : Type 0 where
  pub targets : ℕ
  pub labels : ℕ
  pub weak_from : ℕ
  pub weak_to : ℕ
  pub roots : ℕ
  pub bases : ℕ
  pub short : ℕ
  pub working : ℕ

abbrev pub early : ℕ → ℕ → ℕ → ℕ → ℕ → ℕ → ℕ → ℕ → Early
early t l f w r b s k = record { targets = t; labels = l; weak_from = f; weak_to = w; roots = r; bases = b; short = s; working = k }

abbrev pub early_of : Rooms → Early
early_of r = early r.targets r.labels r.weak_from r.weak_to r.roots r.coded.bases r.coded.short r.working

-- "ROOM: a buffer is smaller than its need": the short ones of buffers 1 to 4, by the places, weak pairs, roots and offsets that are needed.
unfoldable pub short_early : ℕ → ℕ → ℕ → ℕ → Early → List ℕ
short_early places weak roots offsets e =
    buffer 1 (ltb e.targets places ∷ ltb e.labels places ∷ [])
    ++ (buffer 2 (ltb e.weak_from weak ∷ ltb e.weak_to weak ∷ [])
    ++ (buffer 3 (ltb e.roots roots ∷ [])
    ++ buffer 4 (ltb e.bases (blocks_of offsets) ∷ ltb e.short offsets ∷ ltb e.working offsets ∷ [])))

abbrev pub first : List ℕ → Option ℕ
first [] = None
first (k ∷ ks) = Some k

unfoldable pub first_short : ℕ → ℕ → ℕ → ℕ → Early → Option ℕ
first_short places weak roots offsets e = first (short_early places weak roots offsets e)

-- The answer before the edges, from that of the checks; acceptance has the weak pairs and the roots.
unfoldable pub room_says : List ℕ → ℕ → ℕ → ℕ → Early → List ℕ
room_says checked weak roots offsets e =
    cond (accepts checked) (first_of (at 9 (short_early (checked ! 1) weak roots offsets e)) (0 ∷ 0 ∷ weak ∷ roots ∷ 0 ∷ 0 ∷ 0 ∷ 0 ∷ [])) checked

-- The edges laid, nothing coded yet: the numbers of plain columns, unless the answer before refuses.
unfoldable pub edges_says : List ℕ → Parts → List ℕ
edges_says before p = cond (accepts before) (plain_counts p) before

-- What the first half of a build answers: refusals 1 to 8, then ROOM 1 to 4.
unfoldable pub half_says : Input → Early → List ℕ
half_says x e =
    let p = graph x in
    first_of (faults x ++ at 9 (short_early (place_count x) (need_weak x) (need_roots x) (need_offsets p) e)) (plain_counts p)

-- "After acceptance the unused end of every output column and all work space is zero; after any refusal of a build everything lent for writing is zero."
pub record Settled (says ts ls fs ws rs wk : List ℕ) (a : List (List ℕ)) (ts' ls' fs' ws' rs' wk' : List ℕ) (a' : List (List ℕ)) : Type 0 where
  pub targets : ts' ≡ cleared (kept 1 says) ts
  pub labels : ls' ≡ cleared 0 ls
  pub weak_from : fs' ≡ cleared (kept 2 says) fs
  pub weak_to : ws' ≡ cleared (kept 2 says) ws
  pub roots : rs' ≡ cleared (kept 3 says) rs
  pub working : wk' ≡ cleared 0 wk
  pub account : a' ≡ cond (accepts says) a no_account

-- all that a build leaves, in the order of the columns
abbrev pub left_of : List ℕ → List ℕ → List ℕ → List ℕ → List ℕ → List ℕ → List ℕ → CodedLeft → List (List ℕ) → BuildLeft
left_of says ts ls fs ws rs wk coded a = record {
  says = says;
  targets = ts;
  labels = ls;
  weak_from = fs;
  weak_to = ws;
  roots = rs;
  working = wk;
  coded = coded;
  account = a;
}

-- the rooms that columns of these lengths are
abbrev pub rooms_of : ℕ → ℕ → ℕ → ℕ → ℕ → ℕ → Lent → Rooms
rooms_of ts ls fs ws rs wk l = record { targets = ts; labels = ls; weak_from = fs; weak_to = ws; roots = rs; working = wk; coded = l }

-- What the first half leaves where it accepts: the plain columns of the graph, over the fronts of the columns lent, and the account. The work columns
-- begin with the labels and the offsets.
pub record Laid (x : Input) (says ts₀ fs₀ ws₀ rs₀ ts ls fs ws rs wk : List ℕ) (a : List (List ℕ)) : Type 0 where
  pub targets : accepts says ≡ true → ts ≡ over (graph x).targets ts₀
  pub labels : accepts says ≡ true → Begins (graph x).labels ls
  pub weak_from : accepts says ≡ true → fs ≡ over (graph x).weak_from fs₀
  pub weak_to : accepts says ≡ true → ws ≡ over (graph x).weak_to ws₀
  pub roots : accepts says ≡ true → rs ≡ over (graph x).roots rs₀
  pub offsets : accepts says ≡ true → Begins (graph x).offsets wk
  pub account : accepts says ≡ true → a ≡ account x
