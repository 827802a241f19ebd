-- From the steps to what the call leaves: the definition of the whole question, on the short columns alone. Assumes nothing.
use Prim.Native.Nat.{ℕ, ◌+◌, ◌-◌, ◌≤◌, ◌<◌}
use native.Mathlib.Omega.{arith}
use mathlib.Core.Path.{◌≡◌, refl, sym, ap, ◌∙◌}
use mathlib.Core.Logic.{◌⊎◌, inl, inr}
use mathlib.Core.Bool.{Bool, true, false, cond}
use mathlib.Core.List.{List, [], ◌∷◌}
use lib.Dec.{ltb}
use lib.ListN.{length}
use borrow.Author.Tests.{lt-ltb, le-ltb}
use Rattle.columns.specs.Lists.{first_place, any_of}
use Rattle.columns.specs.Columns.{cleared, accepts, kept, leaves}
use Rattle.columns.proofs.Lists.{tab-length}
use Rattle.columns.proofs.Tests.{some_of}
use Rattle.columns.proofs.Written.{cleared_all}
use Rattle.rules.specs.Questions.{Columns, objects_in, EdgesLeft, into_says, edges_into}
use Rattle.answer_replies.specs.Reply.{reply_of}
use Rattle.ask_span.specs.Graph.{span_in}
use Rattle.ask_edges.specs.Object.{unread, edges_met, edges_found, left_edges, own_room, OwnRead, own_says, OwnSettled}
use Rattle.ask_edges.proofs.Found.{found_is, found-edges}
use Rattle.ask_short_edges.specs.Replied.{EdgesReplied, ShortSettled}

-- an answer and the columns that were left, in one number
replied_as : {left : EdgesLeft} {says t l : List ℕ} {r : ℕ} → r ≡ reply_of says → left_edges says t l ≡ left → EdgesReplied left r t l
replied_as q e = record {
  reply = q ∙ ap (λ (x : EdgesLeft). reply_of x.says) e;
  targets = ap (λ (x : EdgesLeft). x.targets) e;
  labels = ap (λ (x : EdgesLeft). x.labels) e;
}

-- room for all of n edges
room_all : (n a b : ℕ) → n ≤ a → n ≤ b → n ≡ own_room n a b
unfolding own_room any_of
room_all n a b h g = sym (rw (le-ltb a n h, le-ltb b n g))

-- the end, as the whole call has it
module _ (n r o : ℕ) where
  abbrev says : List ℕ
  says = own_says n r n o

  kept_is : kept 1 says ≡ cond (ltb r n) 0 n
  unfolding kept own_says accepts
  kept_is = rw (le-ltb n n (omega arith)) (go (ltb r n))
    where
      go : (b : Bool) → kept 1 (cond b (12 ∷ o ∷ []) (0 ∷ n ∷ [])) ≡ cond b 0 n
      go true = refl
      go false = refl

  reply_is : reply_of says ≡ cond (ltb r n) 0 (n + 2)
  unfolding reply_of own_says accepts
  reply_is = rw (le-ltb n n (omega arith)) (go (ltb r n))
    where
      go : (b : Bool) → reply_of (cond b (12 ∷ o ∷ []) (0 ∷ n ∷ [])) ≡ cond b 0 (n + 2)
      go true = refl
      go false = refl

  settled-whole : {m : ℕ} {t₀ l₀ t l : List ℕ} → ShortSettled n r m t₀ l₀ t l → OwnSettled says says t₀ l₀ t l
  settled-whole {m} {t₀} {l₀} s = record {
    answer = refl;
    targets = s.targets ∙ ap (λ (k : ℕ). cleared k t₀) (sym kept_is);
    labels = s.labels ∙ ap (λ (k : ℕ). cleared k l₀) (sym kept_is);
  }

-- an answer that is COLUMNS or ROOM accepts nothing
none_said : (o : ℕ) (values : List ℕ) (b s : Bool) → s ≡ true → accepts (cond b (12 ∷ o ∷ []) (cond s (9 ∷ 23 ∷ []) values)) ≡ false
unfolding accepts
none_said o values true s e = refl
none_said o values false s e = rw e

module _ (c : Columns) (o : ℕ) (t₀ l₀ : List ℕ) where
  pub replied_edges : {e z r m : ℕ} {t₁ l₁ t l : List ℕ} → span_in c o ≡ 0 ∷ e ∷ z ∷ [] → z - e ≤ length t₀ → z - e ≤ length l₀
      → OwnRead (objects_in c) c.targets c.labels e (z - e) (z - e) r t₀ l₀ t₁ l₁ → ShortSettled (z - e) r m t₁ l₁ t l
      → EdgesReplied (edges_found c o (length t₀) (length l₀)) m t l
  replied_edges {e} {z} {r} at h g w s =
      replied_as (s.reply ∙ sym (reply_is (z - e) r o))
      (found-edges c o at t₀ l₀ (room_all (z - e) (length t₀) (length l₀) h g) w refl (settled-whole (z - e) r o s))

  -- A refusal: of the span, or where a column is too short. Both columns are zero.
  module _ {m : ℕ} {t l : List ℕ} (none : m ≡ 0) (t_is : t ≡ cleared 0 t₀) (l_is : l ≡ cleared 0 l₀) where
    refused : accepts (edges_found c o (length t₀) (length l₀)).says ≡ false → EdgesReplied (edges_found c o (length t₀) (length l₀)) m t l
    unfolding edges_found edges_into reply_of leaves
    refused f = record { reply = none ∙ sym (rw f); targets = t_is ∙ cleared_all t₀ ∙ sym (rw f); labels = l_is ∙ cleared_all l₀ ∙ sym (rw f) }

    pub replied_refused : {says : List ℕ} → says ≡ span_in c o → accepts says ≡ false → EdgesReplied (edges_found c o (length t₀) (length l₀)) m t l
    unfolding edges_found edges_into
    replied_refused at f = let no_span : accepts (span_in c o) ≡ false = ap accepts (sym at) ∙ f in refused (rw (no_span, no_span))

    pub replied_short : {e z : ℕ} → span_in c o ≡ 0 ∷ e ∷ z ∷ [] → (length t₀ < z - e) ⊎ (length l₀ < z - e) → EdgesReplied (edges_found c o (length t₀) (length l₀)) m t l
    unfolding edges_into into_says edges_met
    replied_short {e} {z} at h =
        refused (ap (λ (x : EdgesLeft). accepts x.says) (found_is c o at (length t₀) (length l₀))
        ∙ rw (tab-length _ (z - e)) (none_said o (0 ∷ (z - e) ∷ []) (ltb (first_place (unread (objects_in c) c.targets c.labels e) (z - e)) (z - e)) _ (short-of h)))
      where
        short-of : (length t₀ < z - e) ⊎ (length l₀ < z - e) → any_of (ltb (length t₀) (z - e) ∷ ltb (length l₀) (z - e) ∷ []) ≡ true
        short-of (inl l) = some_of _ 0 (lt-ltb _ _ l)
        short-of (inr l) = some_of _ 1 (lt-ltb _ _ l)
