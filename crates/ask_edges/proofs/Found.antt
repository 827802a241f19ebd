-- What `object_edges` leaves: from its steps; and of an object that reads back its edges, as the rules have them. Assumes nothing.
use Prim.Native.Nat.{ℕ, ◌+◌, ◌-◌, ◌≤◌, ◌<◌, min}
use native.Mathlib.Omega.{arith}
use mathlib.Core.Path.{◌≡◌, refl, sym, ap, ap₂, ◌∙◌}
use mathlib.Core.Logic.{⊎_elim}
use mathlib.Core.Bool.{Bool, true, false, cond, false≢true}
use mathlib.Core.List.{List, [], ◌∷◌}
use lib.Dec.{eqb, ltb}
use lib.ListN.{length, get_or, drop, length-append, length-drop}
use borrow.Author.Tests.{lt-ltb, le-ltb, ltb-true, ltb-false, not-true}
use Rattle.columns.specs.Lists.{◌!◌, tab, first_place, any_of}
use Rattle.columns.specs.Columns.{zeros, over, cleared, accepts, leaves, kept}
use Rattle.columns.proofs.Lists.{lt_or_ge, tab-length}
use Rattle.columns.proofs.Sums.{tab_ext, map-tab}
use Rattle.columns.proofs.Tests.{none_of, each_of, any_false, no_places}
use Rattle.columns.proofs.Written.{cleared_all, cleared-over, leaves-zeros, leaves-padded}
use Rattle.rules.specs.Edges.{Edge}
use Rattle.rules.specs.Labels.{exact_label}
use Rattle.rules.specs.Parts.{no_object}
use Rattle.rules.specs.Questions.{Columns, objects_in, offset_at, edges_in, edges_read, reads_back, asked, into_says, EdgesLeft, edges_into, object_edges, Promised}
use Rattle.labels.specs.Reading.{walk_back}
use Rattle.labels.proofs.Back.{walk_back_lem}
use Rattle.ask_span.specs.Graph.{span_in}
use Rattle.ask_span.proofs.Spans.{span-read, span_none, span-columns}
use Rattle.ask_span.proofs.Escapes.{escapes_rising, escapes_paired, edge_reads}
use Rattle.ask_edges.specs.Object.{unread, target_met, label_met, edges_met, edges_found, left_edges, own_room, OwnRead, own_says, OwnSettled}

-- so many edges as there is room for: all, or none
pub room_few : (n a b : ℕ) → (own_room n a b ≤ a) × (own_room n a b ≤ b)
unfolding own_room
room_few n a b = go (any_of (ltb a n ∷ ltb b n ∷ [])) refl
  where
    go : (t : Bool) → any_of (ltb a n ∷ ltb b n ∷ []) ≡ t → (cond t 0 n ≤ a) × (cond t 0 n ≤ b)
    go true e = (omega arith, omega arith)
    go false e = let both = none_of _ e in (ltb-false a n (both 0), ltb-false b n (both 1))

room_short : (n a b : ℕ) → ltb (own_room n a b) n ≡ any_of (ltb a n ∷ ltb b n ∷ [])
unfolding own_room any_of
room_short n a b =
    ⊎_elim (λ l. rw (lt-ltb a n l, lt-ltb 0 n (omega arith)))
    (λ g. ⊎_elim (λ l. rw (le-ltb a n g, lt-ltb b n l, lt-ltb 0 n (omega arith))) (λ h. rw (le-ltb a n g, le-ltb b n h, le-ltb n n (omega arith))) (lt_or_ge b n))
    (lt_or_ge a n)

-- A column of which m numbers were written, and what an answer keeps of it.
over-length : (xs d : List ℕ) → length xs ≤ length d → length (over xs d) ≡ length d
unfolding over
over-length xs d l = omega (arith, length-append xs (drop (length xs) d), length-drop (length xs) d)

settled : (f : ℕ → ℕ) (says d₀ : List ℕ) {d₁ d : List ℕ} (m n : ℕ) → d₁ ≡ over (tab f m) d₀ → m ≤ length d₀ → d ≡ cleared (kept 1 says) d₁
    → (accepts says ≡ true → (m ≡ n) × (says ! 1 ≡ n)) → d ≡ leaves says (tab f n) (length d₀)
unfolding kept
settled f says d₀ {d₁} {d} m n w l c h = go (accepts says) refl
  where
    long : length d₁ ≡ length d₀
    long = ap length w ∙ over-length (tab f m) d₀ (omega (arith, tab-length f m))

    go : (b : Bool) → accepts says ≡ b → d ≡ leaves says (tab f n) (length d₀)
    go true e =
        let all = h e in
        let upto : kept 1 says ≡ n = rw e all.1 in
        let whole : d₁ ≡ over (tab f n) d₀ = w ∙ ap (λ (k : ℕ). over (tab f k) d₀) all.0 in
        leaves-padded says (tab f n) (length d₀) e (c ∙ ap₂ cleared upto whole ∙ cleared-over (tab f n) d₀ n (tab-length f n) (omega (arith, all.0)))
    go false e =
        let none : kept 1 says ≡ 0 = rw e in
        leaves-zeros says (tab f n) (length d₀) e (c ∙ ap (λ (k : ℕ). cleared k d₁) none ∙ cleared_all d₁ ∙ ap zeros long)

-- what was left, part by part
left-same : {says says' t t' l l' : List ℕ} → says ≡ says' → t ≡ t' → l ≡ l' → left_edges says t l ≡ left_edges says' t' l'
left-same p q r = cc

-- an answer of these cases that is COLUMNS gives the object
columns-with : (o : ℕ) (s t u : Bool) (n : ℕ) (span : List ℕ) → (eqb (span ! 0) 12 ≡ true → span ≡ 12 ∷ o ∷ [])
    → eqb (cond s (cond t (12 ∷ o ∷ []) (cond u (9 ∷ 23 ∷ []) (0 ∷ n ∷ []))) span ! 0) 12 ≡ true
    → cond s (cond t (12 ∷ o ∷ []) (cond u (9 ∷ 23 ∷ []) (0 ∷ n ∷ []))) span ≡ 12 ∷ o ∷ []
columns-with o true true u n span h e = refl
columns-with o true false true n span h e = absurd (false≢true e)
columns-with o true false false n span h e = absurd (false≢true e)
columns-with o false t u n span h e = h e

-- the steps' answer is the definition's
module _ (c : Columns) (o : ℕ) where
  -- of a refused span both columns are cleared
  pub found_refused : (t₀ l₀ : List ℕ) {before says t l : List ℕ} → before ≡ span_in c o → accepts before ≡ false → OwnSettled before says t₀ l₀ t l
      → left_edges says t l ≡ edges_found c o (length t₀) (length l₀)
  unfolding edges_found edges_into leaves kept
  found_refused t₀ l₀ {before} {says} {t} {l} at f s =
      let refused : accepts (span_in c o) ≡ false = ap accepts (sym at) ∙ f in
      let none : kept 1 before ≡ 0 = rw f in
      let t_is : t ≡ zeros (length t₀) = s.targets ∙ ap (λ (k : ℕ). cleared k t₀) none ∙ cleared_all t₀ in
      let l_is : l ≡ zeros (length l₀) = s.labels ∙ ap (λ (k : ℕ). cleared k l₀) none ∙ cleared_all l₀ in
      rw (refused, refused, s.answer ∙ at, t_is, l_is)

  module _ {e z : ℕ} (at : span_in c o ≡ 0 ∷ e ∷ z ∷ []) where
    abbrev n : ℕ
    n = z - e

    abbrev es : List Edge
    es = edges_met c.targets c.labels e n

    abbrev first : ℕ
    first = first_place (unread (objects_in c) c.targets c.labels e) n

    -- the definition, of this span
    pub found_is : (a b : ℕ) → edges_found c o a b ≡ edges_into (cond (ltb first n) (12 ∷ o ∷ []) (into_says es a b)) es a b
    unfolding edges_found accepts
    found_is a b = rw at

    count : length es ≡ n
    unfolding edges_met
    count = tab-length _ n

    says_is : (a b : ℕ) {r : ℕ} → r ≡ first → own_says n r (own_room n a b) o ≡ cond (ltb first n) (12 ∷ o ∷ []) (into_says es a b)
    unfolding own_says into_says
    says_is a b q = rw (q, count, room_short n a b)

    room_within : (a b : ℕ) → own_room n a b ≤ n
    unfolding own_room
    room_within a b = go (any_of (ltb a n ∷ ltb b n ∷ []))
      where
        go : (t : Bool) → cond t 0 n ≤ n
        go true = omega arith
        go false = omega arith

    -- where it accepts, all edges are read and have room
    all_there : (r room : ℕ) {says : List ℕ} → says ≡ own_says n r room o → room ≤ n → accepts says ≡ true → (min r room ≡ n) × (says ! 1 ≡ n)
    unfolding own_says accepts
    all_there r room {says} q m = go (ltb r n) refl (ltb room n) refl q
      where
        go : (s : Bool) → ltb r n ≡ s → (t : Bool) → ltb room n ≡ t → says ≡ cond s (12 ∷ o ∷ []) (cond t (9 ∷ 23 ∷ []) (0 ∷ n ∷ []))
            → accepts says ≡ true → (min r room ≡ n) × (says ! 1 ≡ n)
        go true e t f q ok = absurd (false≢true (sym (ap accepts q) ∙ ok))
        go false e true f q ok = absurd (false≢true (sym (ap accepts q) ∙ ok))
        go false e false f q ok = (omega (arith, ltb-false r n e, ltb-false room n f), ap (λ (xs : List ℕ). xs ! 1) q)

    into_is : (says : List ℕ) (a b : ℕ)
        → left_edges says (leaves says (tab (target_met c.targets e) n) a) (leaves says (tab (label_met c.labels e) n) b) ≡ edges_into says es a b
    unfolding edges_into edges_met
    into_is says a b = rw (map-tab (λ (x : Edge). x.target) (λ k. record { target = target_met c.targets e k; label = label_met c.labels e k }) n, map-tab (λ (x : Edge). x.label) (λ k. record { target = target_met c.targets e k; label = label_met c.labels e k }) n)

    pub found-edges : (t₀ l₀ : List ℕ) {r room : ℕ} {before says t₁ l₁ t l : List ℕ} → room ≡ own_room n (length t₀) (length l₀)
        → OwnRead (objects_in c) c.targets c.labels e n room r t₀ l₀ t₁ l₁ → before ≡ own_says n r room o → OwnSettled before says t₁ l₁ t l
        → left_edges says t l ≡ edges_found c o (length t₀) (length l₀)
    found-edges t₀ l₀ {r} {room} {before} {says} {t₁} {l₁} {t} {l} q w v s =
        let a = length t₀ in
        let b = length l₀ in
        let few = room_few n a b in
        let all = all_there r room v (omega (arith, q, room_within a b)) in
        let t_is : t ≡ leaves before (tab (target_met c.targets e) n) a
        = settled (target_met c.targets e) before t₀ (min r room) n w.targets (omega (arith, q, few.0)) s.targets all in
        let l_is : l ≡ leaves before (tab (label_met c.labels e) n) b
        = settled (label_met c.labels e) before l₀ (min r room) n w.labels (omega (arith, q, few.1)) s.labels all in
        let said : before ≡ cond (ltb first n) (12 ∷ o ∷ []) (into_says es a b) = v ∙ ap (λ (k : ℕ). own_says n r k o) q ∙ says_is a b w.read in
        left-same s.answer t_is l_is ∙ into_is before a b ∙ ap (λ (x : List ℕ). edges_into x es a b) said ∙ sym (found_is a b)

-- Of an object that reads back they are its edges.
module _ (c : Columns) (o : ℕ) where
  module _ (m : o < objects_in c) (h : reads_back c o ≡ true) where
    abbrev from : ℕ
    from = offset_at c o

    label-met : (k : ℕ) → k < edges_in c o → walk_back c.labels from k ≡ exact_label c.labels from k ∷ []
    label-met k l = walk_back_lem c.labels (escapes_rising c o h) (escapes_paired c o h) from k (λ j i. edge_reads c o h j (omega arith))

    target-met : (k : ℕ) → k < edges_in c o → no_object (objects_in c) c.targets (from + k) ≡ false
    unfolding reads_back
    target-met k l = any_false (λ k. no_object (objects_in c) c.targets (from + k)) (edges_in c o) k (not-true _ (each_of _ h 9)) l

    all_read : first_place (unread (objects_in c) c.targets c.labels from) (edges_in c o) ≡ edges_in c o
    unfolding unread any_of
    all_read = ap (λ (xs : List ℕ). get_or xs 0 (edges_in c o)) (no_places _ (edges_in c o) (λ k l. rw (target-met k l, label-met k l)))

    edges-met : edges_met c.targets c.labels from (edges_in c o) ≡ edges_read c o
    unfolding edges_met edges_read
    edges-met = tab_ext _ _ (edges_in c o) (λ k l. rw (label-met k l))

    found-read : (a b : ℕ) → edges_found c o a b ≡ object_edges c o a b
    unfolding object_edges asked
    found-read a b = found_is c o (span-read c o m h) a b ∙ rw (all_read, le-ltb (edges_in c o) (edges_in c o) (omega arith), edges-met, lt-ltb o (objects_in c) m, h)

  -- of one that does not exist, INDEX
  found_none : (a b : ℕ) → objects_in c ≤ o → edges_found c o a b ≡ object_edges c o a b
  unfolding edges_found object_edges asked edges_into leaves accepts
  found_none a b l = rw (span_none c o l, le-ltb o (objects_in c) l)

  -- The promise of a question, on any columns: what the rules say wherever that is not COLUMNS, and COLUMNS with the object.
  pub edges-left : (a b : ℕ) → eqb ((object_edges c o a b).says ! 0) 12 ≡ false → edges_found c o a b ≡ object_edges c o a b
  unfolding object_edges asked edges_into
  edges-left a b = go (ltb o (objects_in c)) refl (reads_back c o) refl
    where
      go : (t : Bool) → ltb o (objects_in c) ≡ t → (r : Bool) → reads_back c o ≡ r
          → eqb (cond t (cond r (into_says (edges_read c o) a b) (12 ∷ o ∷ [])) (11 ∷ o ∷ []) ! 0) 12 ≡ false → edges_found c o a b ≡ object_edges c o a b
      go true t true r e = found-read (ltb-true _ _ t) r a b
      go true t false r e = absurd (false≢true (sym e))
      go false t r q e = found_none a b (ltb-false _ _ t)

  found-columns : (a b : ℕ) → eqb ((edges_found c o a b).says ! 0) 12 ≡ true → (edges_found c o a b).says ≡ 12 ∷ o ∷ []
  unfolding edges_found edges_into into_says
  found-columns a b =
      let s = span_in c o in
      let n = s ! 2 - s ! 1 in
      let es = edges_met c.targets c.labels (s ! 1) n in
      columns-with o (accepts s) (ltb (first_place (unread (objects_in c) c.targets c.labels (s ! 1)) n) n) (any_of (ltb a (length es) ∷ ltb b (length es) ∷ [])) (length es)
      s (span-columns c o)

  pub edges_promised : (a b : ℕ) → Promised o (edges_found c o a b).says (object_edges c o a b).says
  edges_promised a b = record { answered = λ e. ap (λ (x : EdgesLeft). x.says) (edges-left a b e); columns = found-columns a b }
