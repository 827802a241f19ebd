-- Codes by the table: how many they are, and that they are the codes of the fields that the table is of. Assumes nothing.
use Prim.Native.Nat.{ℕ, zero, suc, ◌+◌, ◌-◌, ◌≤◌, ◌<◌}
use native.Mathlib.Numerals.{add-one}
use native.Mathlib.Omega.{arith}
use mathlib.Core.Path.{◌≡◌, sym, ap, ◌∙◌}
use mathlib.Core.Bool.{cond}
use mathlib.Core.List.{List, ◌++◌, map}
use lib.ListN.{length, length-append}
use Rattle.columns.specs.Lists.{◌!◌, part}
use Rattle.columns.specs.Columns.{over}
use Rattle.columns.proofs.Lists.{tab-length}
use Rattle.columns.proofs.Sums.{tab_ext, collect_ext, part_length_lem}
use Rattle.columns.proofs.Parts.{never-falls}
use Rattle.rules.specs.Types.{loader_label, array_element_label, is_element}
use Rattle.rules.specs.Labels.{expected, label_code, codes_of, codes_for, coded, own}
use Rattle.labels.specs.Coding.{gap_of, code_by, code_in, codes_by, all_by, LaidOut, escapes_in, escaped_to, labels_to, RoomFor, Escapes, TableOf, CodesLaid}
use Rattle.labels.proofs.Table.{table-code}
use Rattle.labels.proofs.Escapes.{escapes_places, escaped_over}

pub codes-length : (names : ℕ) (table ls : List ℕ) → length (codes_by names table ls) ≡ length ls
unfolding codes_by
codes-length names table ls = tab-length (code_in names table ls) (length ls)

-- an object's labels begin at or before the next one's, and end within the labels
pub laid_within : {offsets : List ℕ} {edges : ℕ} → LaidOut offsets edges → (o : ℕ) → suc o < length offsets → (offsets ! o ≤ offsets ! suc o) × (offsets ! suc o ≤ edges)
laid_within {offsets} {edges} law o l =
    (law.rises o l, omega (arith, never-falls offsets (length offsets - 1) (λ i m. law.rises i (omega arith)) (suc o) (omega arith), law.ends))

pub laid_next : {offsets : List ℕ} {edges : ℕ} → LaidOut offsets edges → (o : ℕ) → o < length offsets - 1 → (offsets ! o ≤ offsets ! (o + 1)) × (offsets ! (o + 1) ≤ edges)
laid_next law o l = rw (add-one o) (laid_within law o (omega arith))

pub all_more : (names : ℕ) (table offsets labels : List ℕ) (o : ℕ) → all_by names table offsets labels (o + 1) ≡ all_by names table offsets labels o ++ codes_by names table (part labels (offsets ! o) (offsets ! (o + 1)))
unfolding all_by
all_more names table offsets labels o = rw (add-one o)

-- the codes of the first o objects end where the next one's labels begin
pub all_length : (names : ℕ) (table offsets labels : List ℕ) → LaidOut offsets (length labels) → (o : ℕ) → o < length offsets → length (all_by names table offsets labels o) ≡ offsets ! o
unfolding all_by
all_length names table offsets labels law zero l = sym law.starts
all_length names table offsets labels law (suc o) l =
    let n = laid_within law o l in
    length-append (all_by names table offsets labels o) (codes_by names table (own offsets labels o))
    ∙ omega (arith, all_length names table offsets labels law o (omega arith), codes-length names table (own offsets labels o), part_length_lem labels (offsets ! o) (offsets ! suc o) n.1, n.0)

-- Where the table is of these fields, the codes by it are document 01's.
module _ (names : ℕ) (fields table : List ℕ) (few : names ≤ loader_label) (law : TableOf names fields table) where
  code_is : (n l : ℕ) → code_by names table n l ≡ label_code fields n l
  unfolding code_by
  code_is n l = ap (λ (z : ℕ). cond (is_element l) (32768 + gap_of n (l - array_element_label)) z) (table-code names fields table few law l)

  codes_are : (ls : List ℕ) → codes_by names table ls ≡ codes_of fields ls
  unfolding codes_by codes_of
  codes_are ls = tab_ext (code_in names table ls) (λ k. label_code fields (expected ls k) (ls ! k)) (length ls) (λ k l. code_is (expected ls k) (ls ! k))

  pub all_coded : (offsets labels : List ℕ) (m : ℕ) → all_by names table offsets labels m ≡ codes_for fields offsets labels m
  unfolding all_by codes_for
  all_coded offsets labels m = collect_ext _ _ m (λ o l. codes_are (own offsets labels o))

  -- the number of escapes
  pub escapes_coded : (offsets labels : List ℕ) (m : ℕ) → escapes_in (all_by names table offsets labels m) ≡ length (coded fields offsets labels m).escape_at
  unfolding coded escaped_to
  escapes_coded offsets labels m = ap escapes_in (all_coded offsets labels m) ∙ escapes_places (codes_for fields offsets labels m)

-- The escapes among the codes that are written, and room for them.
module _ (names : ℕ) (table offsets labels c₀ c : List ℕ) (law : LaidOut offsets (length labels)) (e : c ≡ over (all_by names table offsets labels (length offsets - 1)) c₀) where
  abbrev cs : List ℕ
  cs = all_by names table offsets labels (length offsets - 1)

  full : length cs ≡ length labels
  full = all_length names table offsets labels law (length offsets - 1) (omega (arith, law.some)) ∙ law.ends

  pub escaped_in : escaped_to c (length labels) ≡ escaped_to cs (length cs)
  escaped_in = ap (escaped_to c) (sym full) ∙ ap (λ (z : List ℕ). escaped_to z (length cs)) e ∙ escaped_over cs c₀

  pub room_escapes : (a l : List ℕ) → RoomFor (escapes_in cs) a l → RoomFor (length (escaped_to c (length labels))) a l
  room_escapes a l room = rw (escaped_in, ← escapes_places cs) room

  pub codes_laid : (a₀ l₀ a l : List ℕ) (r : ℕ) → names ≤ loader_label → Escapes c labels a₀ l₀ r a l → CodesLaid names table offsets labels c₀ a₀ l₀ r c a l
  unfolding coded escaped_to labels_to
  codes_laid a₀ l₀ a l r few w fields of =
      let m = length offsets - 1 in
      let is : cs ≡ codes_for fields offsets labels m = all_coded names fields table few of offsets labels m in
      let places : escaped_to c (length labels) ≡ (coded fields offsets labels m).escape_at = escaped_in ∙ ap (λ (z : List ℕ). escaped_to z (length z)) is in
      record {
        rows = w.rows ∙ ap length places;
        codes = e ∙ ap (λ (z : List ℕ). over z c₀) is;
        escape_at = w.escape_at ∙ ap (λ (z : List ℕ). over z a₀) places;
        escape_label = w.escape_label ∙ ap (λ (z : List ℕ). over (map (λ e. labels ! e) z) l₀) places;
      }
