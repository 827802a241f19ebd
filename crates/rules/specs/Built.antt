-- What each build call leaves, as one value: its answer and every column that it is lent. Assumes nothing.
use Rattle.std.specs.Prelude.{ℕ, suc, cond, List, [], ◌∷◌, map, ltb, length, take}
use Rattle.columns.specs.Lists.{◌!◌, any_of}
use Rattle.columns.specs.Columns.{zeros, accepts, leaves}
use Rattle.store.specs.Blocked.{Blocked, blocked, blocks_of}
use Rattle.rules.specs.Input.{Input, Schema}
use Rattle.rules.specs.Edges.{Parts, graph}
use Rattle.rules.specs.Labels.{Coded, code_table}
use Rattle.rules.specs.Account.{account, no_account}
use Rattle.rules.specs.Needs.{Lent, Rooms, label_columns}
use Rattle.rules.specs.Verdict.{build_says}
use Rattle.rules.specs.Parts.{parts_says}
use Rattle.rules.specs.Questions.{Columns}

-- "After acceptance the unused end of every output column and all work space is zero; after any refusal of a build everything lent for writing is zero."
pub record CodedLeft : Type 0 where
  pub bases : List ℕ
  pub short : List ℕ
  pub long_at : List ℕ
  pub long_value : List ℕ
  pub fields : List ℕ
  pub table : List ℕ
  pub escape_at : List ℕ
  pub escape_label : List ℕ
  pub codes : List ℕ
  pub counting : List ℕ
  pub ranking : List ℕ

-- the columns of buffers 4 to 9 after an answer
unfoldable pub coded_left : List ℕ → Schema → Parts → Lent → CodedLeft
coded_left says s p l =
    let b = blocked p.offsets in
    let d = label_columns s p in
    record {
      bases = leaves says b.bases l.bases;
      short = leaves says b.short l.short;
      long_at = leaves says b.long_at l.long_at;
      long_value = leaves says b.long_value l.long_value;
      fields = leaves says d.fields l.fields;
      table = leaves says (code_table s.names d.fields) l.table;
      escape_at = leaves says d.escape_at l.escape_at;
      escape_label = leaves says d.escape_label l.escape_label;
      codes = leaves says d.codes l.codes;
      counting = zeros l.counting;
      ranking = zeros l.ranking;
    }

-- What a build leaves. The work labels and the working offsets are work space.
pub record BuildLeft : Type 0 where
  pub says : List ℕ
  pub targets : List ℕ
  pub labels : List ℕ
  pub weak_from : List ℕ
  pub weak_to : List ℕ
  pub roots : List ℕ
  pub working : List ℕ
  pub coded : CodedLeft
  pub account : List (List ℕ)

unfoldable pub build_left : Input → Rooms → BuildLeft
build_left x r =
    let says = build_says x r in
    let p = graph x in
    record {
      says = says;
      targets = leaves says p.targets r.targets;
      labels = zeros r.labels;
      weak_from = leaves says p.weak_from r.weak_from;
      weak_to = leaves says p.weak_to r.weak_to;
      roots = leaves says p.roots r.roots;
      working = zeros r.working;
      coded = coded_left says x.schema p r.coded;
      account = cond (accepts says) (account x) no_account;
    }

-- What `from_parts` leaves: "it counts as a build, but gives no account."
pub record PartsLeft : Type 0 where
  pub says : List ℕ
  pub coded : CodedLeft

unfoldable pub parts_left : Schema → Parts → Lent → PartsLeft
parts_left s p l = record { says = parts_says s p l; coded = coded_left (parts_says s p l) s p l }

-- "Queries take the used parts, at the lengths a build returns": of the coded columns, and of all that a build of so many objects left.
abbrev pub used_blocks : ℕ → ℕ → CodedLeft → Blocked
used_blocks offsets long c = record {
  bases = take (blocks_of offsets) c.bases;
  short = take offsets c.short;
  long_at = take long c.long_at;
  long_value = take long c.long_value;
}

abbrev pub used_labels : ℕ → ℕ → ℕ → CodedLeft → Coded
used_labels edges fields escapes c = record {
  codes = take edges c.codes;
  fields = take fields c.fields;
  escape_at = take escapes c.escape_at;
  escape_label = take escapes c.escape_label;
}

unfoldable pub used_columns : ℕ → BuildLeft → Columns
used_columns objects b = record {
  offsets = used_blocks (suc objects) (b.says ! 4) b.coded;
  targets = take (b.says ! 1) b.targets;
  labels = used_labels (b.says ! 1) (b.says ! 5) (b.says ! 6) b.coded;
  weak_from = take (b.says ! 2) b.weak_from;
  weak_to = take (b.says ! 2) b.weak_to;
}

-- Behind `from_parts` the targets and the weak pairs are those that were handed over.
unfoldable pub used_parts : Parts → PartsLeft → Columns
used_parts p b = record {
  offsets = used_blocks (length p.offsets) (b.says ! 4) b.coded;
  targets = p.targets;
  labels = used_labels (b.says ! 1) (b.says ! 5) (b.says ! 6) b.coded;
  weak_from = p.weak_from;
  weak_to = p.weak_to;
}

-- "A host may lend its slots as rows of offset, label and weak"; "filling from slot rows only with ROOM 17. Their outputs are zero after a refusal."
pub record SlotsLeft : Type 0 where
  pub says : List ℕ
  pub offsets : List ℕ
  pub labels : List ℕ
  pub weak : List ℕ

module _ {Row : Type 0} (offset label weak : Row → ℕ) where
  unfoldable pub fill_says : List Row → ℕ → ℕ → ℕ → List ℕ
  fill_says rows a b c = cond (any_of (ltb a (length rows) ∷ ltb b (length rows) ∷ ltb c (length rows) ∷ [])) (9 ∷ 17 ∷ []) (0 ∷ length rows ∷ [])

  unfoldable pub slots_left : List Row → ℕ → ℕ → ℕ → SlotsLeft
  slots_left rows a b c =
      let says = fill_says rows a b c in
      record {
        says = says;
        offsets = leaves says (map offset rows) a;
        labels = leaves says (map label rows) b;
        weak = leaves says (map weak rows) c;
      }
