-- What the questions answer where the columns hold a graph: each call's own answer, on the left, is the same question on the plain edges, on the right.
-- c are the columns, of n objects. The object asked is o. Its edges are es, from `start` up to `end`. Its weak targets are ws, and vs as the rows hold them.
-- Assumes nothing.
use Rattle.std.specs.Prelude.{ℕ, suc, ◌+◌, ◌≤◌, ◌<◌, ◌≡◌, false, List, [], ◌∷◌, None, map, eqb, length}
use Rattle.columns.specs.Lists.{◌!◌, part}
use Rattle.columns.specs.Ranks.{rank}
use Rattle.rules.specs.Edges.{Edge}
use Rattle.rules.specs.Questions.{Columns, plainly, coarse_in, exact_in, label_in, field_in, referent_in, plain_edges}
use Rattle.ask_span.specs.Reading.{span_of, count_of, span_part, weak_rows_of}
use Rattle.ask_span.specs.Graph.{span_in, strong}
use Rattle.ask_label.specs.Labelled.{coarse_at, ExactAt, LabelTo}
use Rattle.ask_field.specs.Sought.{field_found, referent_found}
use Rattle.ask_reader.specs.Read.{stored}
use Rattle.ask_edges.specs.Read.{stands_in}
use Rattle.ask_edges.specs.Object.{edges_found}
use Rattle.ask_short.specs.Lean.{shortly, leanly, label_found}
use Rattle.answer_replies.specs.Reply.{span_number, reply_of}

-- The reader over the parts of an object that exists: at position k stand the target and the code of edge k, and the end comes behind the last edge.
pub record InOrder (c : Columns) (o start end : ℕ) (es : List Edge) : Type 0 where
  pub codes_of : span_part (span_in c o) c.labels.codes ≡ part c.labels.codes start end
  pub edge : (k : ℕ) → k < length es → stands_in c o k ≡ stored (map (λ (e : Edge). e.target) es ! k) (c.labels.codes ! (start + k))
  pub ends : (k : ℕ) → length es ≤ k → stands_in c o k ≡ None

-- The whole questions. Those about edges are not lent the weak pairs (`strong`).
pub record Answers (c : Columns) (n o start end : ℕ) (es : List Edge) (ws vs : List ℕ) : Type 0 where
  pub span : span_in c o ≡ plainly n o (0 ∷ start ∷ end ∷ [])
  pub edge_count : count_of (span_in c o) ≡ plainly n o (0 ∷ length es ∷ [])
  pub targets_of : o < n → span_part (span_in c o) c.targets ≡ map (λ (e : Edge). e.target) es
  pub weak_referents : weak_rows_of (length c.offsets.short) c.weak_from c.weak_to o ≡ plainly n o (0 ∷ rank c.weak_from o ∷ rank c.weak_from (suc o) ∷ [])
  pub weak_targets : o < n → span_part (weak_rows_of (length c.offsets.short) c.weak_from c.weak_to o) c.weak_to ≡ vs
  pub coarse_label : (k : ℕ) → coarse_at (strong c) o k ≡ plainly n o (coarse_in es k)
  pub exact_label : (k : ℕ) {says : List ℕ} → ExactAt (strong c) o k says → says ≡ plainly n o (exact_in es k)
  pub label_of : (t : ℕ) {says : List ℕ} → LabelTo (strong c) o t says → says ≡ plainly n o (0 ∷ label_in es t)
  pub field : (l : ℕ) → field_found (strong c) o l ≡ plainly n o (0 ∷ field_in es l)
  pub referent : (l : ℕ) → referent_found c o l ≡ plainly n o (0 ∷ referent_in es ws l)
  pub object_edges : (a b : ℕ) → edges_found (strong c) o a b ≡ plain_edges n o es a b
  pub reader : o < n → InOrder c o start end es

-- A reply in one number is 0, after which the whole question is to be asked, or the number of the plain answer.
abbrev pub Replies : ℕ → ℕ → Type 0
Replies reply number = eqb reply 0 ≡ false → reply ≡ number

-- The questions by the short columns alone, in one number.
pub record Replied (c : Columns) (n o start end : ℕ) (es : List Edge) (ws : List ℕ) : Type 0 where
  pub span : Replies (span_number (span_of (shortly c.offsets) (length c.labels.codes) (length c.targets) o)) (span_number (plainly n o (0 ∷ start ∷ end ∷ [])))
  pub label_of : (t : ℕ) → Replies (reply_of (label_found (leanly (strong c)) o t)) (reply_of (plainly n o (0 ∷ label_in es t)))
  pub field : (l : ℕ) → Replies (reply_of (field_found (leanly (strong c)) o l)) (reply_of (plainly n o (0 ∷ field_in es l)))
  pub referent : (l : ℕ) → Replies (reply_of (referent_found (leanly c) o l)) (reply_of (plainly n o (0 ∷ referent_in es ws l)))
  pub object_edges : (a b : ℕ) → eqb (reply_of (edges_found (leanly (strong c)) o a b).says) 0 ≡ false → edges_found (leanly (strong c)) o a b ≡ plain_edges n o es a b
