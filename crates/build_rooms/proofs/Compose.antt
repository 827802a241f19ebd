-- How the stages of a build come together: the answer, and all that is left. Assumes nothing.
use Prim.Native.Nat.{ℕ, suc, ◌+◌, min}
use native.Mathlib.Numerals.{add-one}
use native.Mathlib.Omega.{arith}
use mathlib.Core.Path.{◌≡◌, refl, sym, ap, ◌∙◌}
use mathlib.Core.Bool.{Bool, true, false, cond, true≢false}
use mathlib.Core.List.{List, [], ◌∷◌, ◌++◌, append_assoc}
use lib.Dec.{ltb}
use lib.ListN.{length}
use Rattle.columns.specs.Lists.{◌!◌, any_of}
use Rattle.columns.specs.Columns.{zeros, accepts}
use Rattle.columns.proofs.Lists.{tab-length}
use Rattle.columns.proofs.Tests.{append-empty}
use Rattle.columns.proofs.Written.{cleared_all, settled-column}
use Rattle.columns.proofs.Answers.{accepting}
use Rattle.rules.specs.Input.{Input, object_count}
use Rattle.rules.specs.Edges.{Parts, graph, offset}
use Rattle.rules.specs.Places.{place_count}
use Rattle.rules.specs.Account.{account, no_account}
use Rattle.rules.specs.Needs.{Rooms, Lent, buffer, need_weak, need_roots, need_offsets, need_bases, short_later, short_of_build, short_of_parts, Fits}
use Rattle.rules.specs.Verdict.{first_of, at, faults, counts, build_says, plain_counts}
use Rattle.rules.specs.Built.{CodedLeft, coded_left, build_left}
use Rattle.rules.proofs.Acceptance.{Refuse, refuse_append, refuse_at, at-empty, Passed, passed, faults_refuse, build_says_lem}
use Rattle.rules.proofs.Finished.{weak-even}
use Rattle.build_rooms.specs.Stages.{Early, early_of, short_early, room_says, edges_says, half_says, Settled, left_of, rooms_of, Laid}
use Rattle.build_rooms.proofs.Fitting.{same-short}

-- The first fault refuses.
first_refuses : (f : List ℕ) (fs : List (List ℕ)) → Refuse (f ∷ fs) → accepts f ≡ false
first_refuses f fs r = go (accepts f) refl
  where
    go : (b : Bool) → accepts f ≡ b → accepts f ≡ false
    go false e = e
    go true e = let z : ◌≡◌ {A = List (List ℕ)} (f ∷ fs) [] = r.none_met f e in let z' : ◌≡◌ {A = ℕ} 0 1 = cc in absurd (omega arith)

-- ROOM behind an answer that accepts
last_room : (ks a b : List ℕ) → accepts a ≡ true → cond (accepts (first_of (at 9 ks) a)) b (first_of (at 9 ks) a) ≡ first_of (at 9 ks) b
unfolding at accepts
last_room [] a b h = rw h
last_room (k ∷ ks) a b h = refl

offsets_are : (x : Input) → need_offsets (graph x) ≡ object_count x + 1
unfolding graph
offsets_are x = tab-length (offset x) (suc (object_count x)) ∙ sym (add-one (object_count x))

room_open : (p a b o : ℕ) (e : Early) → room_says (0 ∷ p ∷ []) a b o e ≡ first_of (at 9 (short_early p a b o e)) (0 ∷ 0 ∷ a ∷ b ∷ 0 ∷ 0 ∷ 0 ∷ 0 ∷ [])
unfolding room_says accepts
room_open p a b o e = refl

room_handed : (c : List ℕ) (a b o : ℕ) (e : Early) → accepts c ≡ false → room_says c a b o e ≡ c
unfolding room_says
room_handed c a b o e h = rw h

edges-handed : (v : List ℕ) (p : Parts) → accepts v ≡ false → edges_says v p ≡ v
unfolding edges_says
edges-handed v p h = rw h

-- The first half: the checks, the needs, ROOM 1 to 4, the edges. Numbers that fit where the needs do stand for the places, p, and the weak pairs, w.
module _ (x : Input) (e : Early) {c v r : List ℕ} (p w n : ℕ) (checked : c ≡ first_of (faults x) (0 ∷ p ∷ [])) (placed : accepts c ≡ true → Fits (min e.targets e.labels) (place_count x) p)
    (weak : accepts c ≡ true → Fits (min e.weak_from e.weak_to) (need_weak x) w) (roots : accepts c ≡ true → n ≡ need_roots x)
    (rooms : v ≡ room_says c w n (object_count x + 1) e) (edges : r ≡ edges_says v (graph x))
  where
    -- an input that passes the checks, and one that does not
    passes : faults x ≡ [] → r ≡ half_says x e
    unfolding half_says edges_says
    passes none =
        let said : c ≡ 0 ∷ p ∷ [] = checked ∙ rw none in
        let ok : accepts c ≡ true = ap accepts said ∙ accepting (p ∷ []) in
        let es : List ℕ = short_early (place_count x) (need_weak x) (need_roots x) (need_offsets (graph x)) e in
        let a : List ℕ = 0 ∷ 0 ∷ w ∷ need_roots x ∷ 0 ∷ 0 ∷ 0 ∷ 0 ∷ [] in
        let same = same-short (place_count x) (need_weak x) p w (need_roots x) (need_offsets (graph x)) e (placed ok) (weak ok) in
        let is : v ≡ first_of (at 9 es) a = rooms ∙ rw (said, roots ok, ← offsets_are x, ← same) (room_open p w (need_roots x) (need_offsets (graph x)) e) in
        edges ∙ rw (is, none) (last_room es a (plain_counts (graph x)) (accepting _))

    fails : (f : List ℕ) (fs : List (List ℕ)) → faults x ≡ f ∷ fs → r ≡ half_says x e
    unfolding half_says
    fails f fs some =
        let no : accepts f ≡ false = first_refuses f fs (rw (← some) (faults_refuse x)) in
        let said : c ≡ f = checked ∙ rw some in
        let handed : v ≡ f = rooms ∙ room_handed c w n (object_count x + 1) e (ap accepts said ∙ no) ∙ said in
        edges ∙ edges-handed v (graph x) (ap accepts handed ∙ no) ∙ handed ∙ rw some

    pub edge_said : r ≡ half_says x e
    edge_said = go (faults x) refl
      where
        go : (fs : List (List ℕ)) → faults x ≡ fs → r ≡ half_says x e
        go [] h = passes h
        go (f ∷ fs) h = fails f fs h

-- where the first half accepts, there is no fault, and the answer has the numbers of the graph
module _ (x : Input) (e : Early) (ok : accepts (half_says x e) ≡ true) where
  abbrev short : List ℕ
  short = short_early (place_count x) (need_weak x) (need_roots x) (need_offsets (graph x)) e

  none_met : faults x ++ at 9 short ≡ []
  unfolding half_says
  none_met = (refuse_append (faults_refuse x) (refuse_at 9 refl short)).none_met (plain_counts (graph x)) ok

  pub edge-passed : Passed x
  edge-passed = passed x (append-empty (faults x) (at 9 short) none_met).0

  pub edge-accepts : half_says x e ≡ plain_counts (graph x)
  unfolding half_says
  edge-accepts = rw none_met

-- The whole: ROOM 5 to 9 behind the first half.
four : (a b c d l : List ℕ) → ((a ++ b) ++ c) ++ d ++ l ≡ (a ++ (b ++ (c ++ d))) ++ l
four a b c d l = ap (λ (z : List ℕ). z ++ l) (append_assoc (a ++ b) c d ∙ append_assoc a b (c ++ d))

abbrev early_for : Input → Rooms → List ℕ
early_for x r = short_early (place_count x) (need_weak x) (need_roots x) (need_offsets (graph x)) (early_of r)

short_cut : (x : Input) (r : Rooms) → short_of_build x r ≡ early_for x r ++ short_later x.schema (graph x) r.coded
unfolding short_of_build short_early
short_cut x r =
    let p = graph x in
    four (buffer 1 (ltb r.targets (place_count x) ∷ ltb r.labels (place_count x) ∷ [])) (buffer 2 (ltb r.weak_from (need_weak x) ∷ ltb r.weak_to (need_weak x) ∷ []))
    (buffer 3 (ltb r.roots (need_roots x) ∷ [])) (buffer 4 (ltb r.coded.bases (need_bases p) ∷ ltb r.coded.short (need_offsets p) ∷ ltb r.working (need_offsets p) ∷ []))
    (short_later x.schema p r.coded)

first_cut : (fs : List (List ℕ)) (es later a b : List ℕ) → accepts a ≡ true → accepts (first_of (fs ++ at 9 es) a) ≡ false
    → first_of (fs ++ at 9 (es ++ later)) b ≡ first_of (fs ++ at 9 es) a
unfolding at
first_cut (f ∷ fs) es later a b h k = refl
first_cut [] [] later a b h k = absurd (true≢false (sym h ∙ k))
first_cut [] (e ∷ es) later a b h k = refl

-- buffer 4 is not short twice
two_of : (a b c : Bool) → buffer 4 (a ∷ b ∷ c ∷ []) ≡ [] → buffer 4 (a ∷ b ∷ []) ≡ []
unfolding any_of
two_of true b c h = h
two_of false true c h = h
two_of false false c h = refl

blocks_lent : (x : Input) (r : Rooms) → early_for x r ≡ [] → short_of_parts x.schema (graph x) r.coded ≡ short_later x.schema (graph x) r.coded
unfolding short_early short_of_parts
blocks_lent x r none =
    ap (λ (z : List ℕ). z ++ short_later x.schema (graph x) r.coded)
    (two_of (ltb r.coded.bases (need_bases (graph x))) (ltb r.coded.short (need_offsets (graph x))) (ltb r.working (need_offsets (graph x)))
    (append-empty (buffer 3 _) _ (append-empty (buffer 2 _) _ (append-empty (buffer 1 _) _ none).1).1).1)

build_accepts : (x : Input) (r : Rooms) → accepts (half_says x (early_of r)) ≡ true → (faults x ≡ []) × (early_for x r ≡ [])
unfolding half_says
build_accepts x r h =
    let es = early_for x r in
    let none = append-empty (faults x) (at 9 es) ((refuse_append (faults_refuse x) (refuse_at 9 refl es)).none_met (plain_counts (graph x)) h) in
    (none.0, at-empty 9 es none.1)

build_rest : (x : Input) (r : Rooms) → (faults x ≡ []) × (early_for x r ≡ [])
    → build_says x r ≡ first_of (at 9 (short_of_parts x.schema (graph x) r.coded)) (counts x.schema (graph x))
unfolding build_says
build_rest x r none = rw (none.0, short_cut x r, none.1, blocks_lent x r none.1)

build_handed : (x : Input) (r : Rooms) → accepts (half_says x (early_of r)) ≡ false → build_says x r ≡ half_says x (early_of r)
unfolding build_says half_says
build_handed x r refused = rw (short_cut x r) (first_cut (faults x) (early_for x r) (short_later x.schema (graph x) r.coded) (plain_counts (graph x)) (counts x.schema (graph x)) (accepting _) refused)

-- the answer of the whole, from that of the first half
pub build_said : (x : Input) (r : Rooms) {before says : List ℕ} → before ≡ half_says x (early_of r)
    → says ≡ cond (accepts before) (first_of (at 9 (short_of_parts x.schema (graph x) r.coded)) (counts x.schema (graph x))) before → says ≡ build_says x r
build_said x r {before} {says} first then = go (accepts before) refl
  where
    go : (b : Bool) → accepts before ≡ b → says ≡ build_says x r
    go true ok = then ∙ rw ok (sym (build_rest x r (build_accepts x r (ap accepts (sym first) ∙ ok))))
    go false h = then ∙ rw h (first ∙ sym (build_handed x r (ap accepts (sym first) ∙ h)))

-- columns that are equal one by one
left-same : {s s' ts ts' ls ls' fs fs' ws ws' rs rs' wk wk' : List ℕ} {d d' : CodedLeft} {a a' : List (List ℕ)} → s ≡ s' → ts ≡ ts' → ls ≡ ls' → fs ≡ fs' → ws ≡ ws' → rs ≡ rs' → wk ≡ wk' → d ≡ d'
    → a ≡ a' → left_of s ts ls fs ws rs wk d a ≡ left_of s' ts' ls' fs' ws' rs' wk' d' a'
left-same e1 e2 e3 e4 e5 e6 e7 e8 e9 = cc

account-kept : (says : List ℕ) (x : Input) {a a₁ : List (List ℕ)} → (accepts says ≡ true → a₁ ≡ account x) → a ≡ cond (accepts says) a₁ no_account → a ≡ cond (accepts says) (account x) no_account
account-kept says x {a} {a₁} h e = go (accepts says) refl
  where
    go : (b : Bool) → accepts says ≡ b → a ≡ cond (accepts says) (account x) no_account
    go true ok = e ∙ rw (ok, h ok)
    go false w = e ∙ rw w

-- the second half accepts only what the first did
first-accepts : (before rest : List ℕ) {says : List ℕ} → says ≡ cond (accepts before) rest before → accepts says ≡ true → accepts before ≡ true
first-accepts before rest {says} then ok = go (accepts before) refl
  where
    go : (b : Bool) → accepts before ≡ b → accepts before ≡ true
    go true h = h
    go false h = absurd (true≢false (sym ok ∙ ap accepts (rw h at then) ∙ h))

-- All that is left, from what each half leaves.
module _
    (x : Input) (l : Lent) (ls₀ wk₀ : List ℕ) {before says ts₀ fs₀ ws₀ rs₀ ts₁ ls₁ fs₁ ws₁ rs₁ wk₁ ts ls fs ws rs wk : List ℕ} {a₁ a : List (List ℕ)} {d : CodedLeft}
    (laid : Laid x before ts₀ fs₀ ws₀ rs₀ ts₁ ls₁ fs₁ ws₁ rs₁ wk₁ a₁) (settled : Settled says ts₁ ls₁ fs₁ ws₁ rs₁ wk₁ a₁ ts ls fs ws rs wk a)
    (first : before ≡ half_says x (early_of (rooms_of (length ts₀) (length ls₀) (length fs₀) (length ws₀) (length rs₀) (length wk₀) l)))
    (then : says ≡ cond (accepts before) (first_of (at 9 (short_of_parts x.schema (graph x) l)) (counts x.schema (graph x))) before)
    (coded : d ≡ coded_left says x.schema (graph x) l) (tn : length ts₁ ≡ length ts₀) (ln : length ls₁ ≡ length ls₀) (fn : length fs₁ ≡ length fs₀)
    (wn : length ws₁ ≡ length ws₀) (rn : length rs₁ ≡ length rs₀) (kn : length wk₁ ≡ length wk₀)
  where
    abbrev r : Rooms
    r = rooms_of (length ts₀) (length ls₀) (length fs₀) (length ws₀) (length rs₀) (length wk₀) l

    said : says ≡ build_says x r
    said = build_said x r first then

    ok : accepts says ≡ true → accepts before ≡ true
    ok h = first-accepts before _ then h

    told : (i : ℕ) → accepts says ≡ true → says ! i ≡ counts x.schema (graph x) ! i
    told i h = ap (λ (z : List ℕ). z ! i) (said ∙ build_says_lem x r (ap accepts (sym said) ∙ h))

    told-edges : accepts says ≡ true → says ! 1 ≡ length (graph x).targets
    unfolding counts
    told-edges h = told 1 h

    told-weak : accepts says ≡ true → says ! 2 ≡ length (graph x).weak_from
    unfolding counts
    told-weak h = told 2 h

    told-roots : accepts says ≡ true → says ! 3 ≡ length (graph x).roots
    unfolding counts
    told-roots h = told 3 h

    pub built-left : left_of says ts ls fs ws rs wk d a ≡ build_left x r
    unfolding build_left
    built-left =
        rw (← said)
        (left-same refl (settled-column says (graph x).targets ts₀ 1 (λ h. laid.targets (ok h)) told-edges tn settled.targets)
        (settled.labels ∙ cleared_all ls₁ ∙ ap zeros ln)
        (settled-column says (graph x).weak_from fs₀ 2 (λ h. laid.weak_from (ok h)) told-weak fn settled.weak_from)
        (settled-column says (graph x).weak_to ws₀ 2 (λ h. laid.weak_to (ok h)) (λ h. told-weak h ∙ weak-even x) wn settled.weak_to)
        (settled-column says (graph x).roots rs₀ 3 (λ h. laid.roots (ok h)) told-roots rn settled.roots) (settled.working ∙ cleared_all wk₁ ∙ ap zeros kn) coded
        (account-kept says x (λ h. laid.account (ok h)) settled.account))
