-- Refusals in order: what each test that passes leaves to decide, and what one that fails decides. Assumes nothing.
use mathlib.Core.Path.{◌≡◌, refl, sym, ap, ◌∙◌}
use mathlib.Core.Bool.{Bool, true, false, cond, false≢true}
use mathlib.Core.List.{List, [], ◌∷◌, ◌++◌, append_assoc}
use Rattle.std.specs.Prelude.{Result, Ok, Err}
use Rattle.std.specs.Result.{MatchResult, IsErrAnd}
use Prim.Native.Nat.{ℕ, suc, ◌≤◌, ◌<◌}
use native.Mathlib.Omega.{arith}
use borrow.Author.Tests.{lt-ltb, le-ltb, leb-false, ne_eqb}
use lib.Dec.{ltb}
use lib.ListN.{length, take}
use Rattle.columns.specs.Lists.{◌!◌, places, first_place}
use Rattle.columns.specs.Columns.{accepts}
use Rattle.columns.specs.Ranks.{Rises}
use Rattle.columns.proofs.Lists.{first_none}
use Rattle.columns.proofs.Parts.{places_ext}
use Rattle.columns.proofs.Tests.{none_of, second_fails}
use Rattle.columns.proofs.Ranks.{steps_rise}
use Rattle.rules.specs.declared.Refusal.{Refusal}
use Rattle.rules.specs.Types.{refusal_says}
use Rattle.rules.specs.Input.{Input, Schema, object_count, class_count}
use Rattle.rules.specs.Verdict.{first_of, at, once, bad_lengths, bad_limit, bad_size, bad_object, bad_dumped, bad_find, bad_copied, bad_span, bad_root}
use Rattle.rules.proofs.First.{first-append, first-once, first-place}
use Rattle.rules.proofs.Even.{schema_lengths_lem}
use Rattle.rules.proofs.Acceptance.{Refuse, refuse_append, refuse_at, size_allowed}
use Rattle.check_input.specs.Flat.{table_columns, faults_tables, faults_late, faults_before}
use Rattle.check_tables.specs.Reads.{size_only}
use Rattle.check_tables.specs.Reads.{Tables}
use Rattle.check_tables.proofs.Even.{schema_dumped, schema_tables}
use Rattle.check_ids.specs.Copying.{held_codes, TestedCodes}
use Rattle.check_whole.proofs.Either.{first_is}
use Rattle.check_whole.proofs.Narrow.{same_dumped}

-- no refusal is an acceptance
pub refused : {A : Type 0} (k : ℕ) (ps : List ℕ) → accepts (suc k ∷ ps) ≡ true → A
unfolding accepts
refused k ps e = absurd (false≢true (sym (ne_eqb (suc k) 0 (λ z. omega arith)) ∙ e))

-- an answer that refuses is the first of its faults, whatever stands behind them; of one that accepts there are none
pub refused_first : (fs gs : List (List ℕ)) (n : ℕ) (done : List ℕ) {says : List ℕ} → says ≡ first_of fs (0 ∷ n ∷ []) → accepts says ≡ false
    → says ≡ first_of (fs ++ gs) done
unfolding accepts
refused_first [] gs n done e h = absurd (false≢true (sym h ∙ ap accepts e))
refused_first (f ∷ fs) gs n done e h = e

pub passed_first : (fs gs : List (List ℕ)) (n : ℕ) (done : List ℕ) → Refuse fs → {says : List ℕ} → says ≡ first_of fs (0 ∷ n ∷ []) → accepts says ≡ true
    → first_of gs done ≡ first_of (fs ++ gs) done
passed_first fs gs n done refuse e h = rw (refuse.none_met (0 ∷ n ∷ []) (ap accepts (sym e) ∙ h))

-- a number with place 0, and one with a lowest place, in front of others
module _ (k : ℕ) (fs : List (List ℕ)) (done : List ℕ) where
  pub once_fails : {b : Bool} → b ≡ true → k ∷ 0 ∷ [] ≡ first_of (at k (once b) ++ fs) done
  once_fails {b} h = sym (first-append (at k (once b)) fs done ∙ first-once k b (first_of fs done) ∙ rw h)

  pub once-passes : {b : Bool} → b ≡ false → first_of fs done ≡ first_of (at k (once b) ++ fs) done
  once-passes {b} h = sym (first-append (at k (once b)) fs done ∙ first-once k b (first_of fs done) ∙ rw h)

  pub place_fails : (t : ℕ → Bool) (n : ℕ) {p : ℕ} → p ≡ first_place t n → p < n → k ∷ p ∷ [] ≡ first_of (at k (places t n) ++ fs) done
  place_fails t n e l = sym (first-append (at k (places t n)) fs done ∙ first-place k t n (first_of fs done) ∙ rw (← e, lt-ltb _ _ l))

  pub place-passes : (t : ℕ → Bool) (n : ℕ) {p : ℕ} → p ≡ first_place t n → n ≤ p → first_of fs done ≡ first_of (at k (places t n) ++ fs) done
  place-passes t n e l = sym (first-append (at k (places t n)) fs done ∙ first-place k t n (first_of fs done) ∙ rw (← e, le-ltb _ _ l))

  pub list_fails : {p : ℕ} (ps : List ℕ) → p ∷ [] ≡ take 1 ps → k ∷ p ∷ [] ≡ first_of (at k ps ++ fs) done
  unfolding at
  list_fails {p} [] e = let z : ◌≡◌ {A = ℕ} 0 1 = cc in absurd (omega arith)
  list_fails {p} (q ∷ ps) e = let z : p ≡ q = cc in rw z

  pub list_passes : (ps : List ℕ) → [] ≡ take 1 ps → first_of fs done ≡ first_of (at k ps ++ fs) done
  unfolding at
  list_passes [] e = refl
  list_passes (q ∷ ps) e = let z : ◌≡◌ {A = ℕ} 0 1 = cc in absurd (omega arith)

-- the columns that the checks of objects and classes read, of a whole input
abbrev tables_of : Input → Input
tables_of x =
    let o = x.objects in
    let k = x.schema.classes in
    let s = x.schema.slots in
    table_columns o.ids o.kinds o.classes o.lengths k.ids k.dumped k.kinds k.slot_start k.slot_end k.static_start k.static_end s.offsets s.labels s.weak x.schema.statics.names x.schema.statics.types x.schema.names

same_tables : (x : Input) → faults_tables (tables_of x) ≡ faults_tables x
unfolding faults_tables bad_object
same_tables x =
    ap (λ (ps : List ℕ). at 3 (places (bad_object x) (object_count x)) ++ at 4 ps)
    (places_ext (bad_dumped (tables_of x)) (bad_dumped x) (class_count x.schema) (λ c l. sym (same_dumped (tables_of x) c) ∙ same_dumped x c))

tables_refuses : (x : Input) → Refuse (faults_tables x)
unfolding faults_tables
tables_refuses x = refuse_append (refuse_at 3 refl _) (refuse_at 4 refl _)

-- The checks behind those of the tables.
module _ (x : Input) (done : List ℕ) where
  abbrev n : ℕ
  n = object_count x

  abbrev roots : List (List ℕ)
  roots = at 7 (places (bad_root n x.roots) (length x.roots))

  pub late_copied : {p : ℕ} → p ∷ [] ≡ take 1 (bad_copied x.route) → 5 ∷ p ∷ [] ≡ first_of (faults_late x) done
  unfolding faults_late
  late_copied e = list_fails 5 (at 6 (places (bad_span x) n) ++ roots) done (bad_copied x.route) e

  -- the answer of the copied ids, m, is that of their test, r, whose fault is refused
  module _ {r : Result ℕ ℕ} {m : Result ℕ Refusal} {codes : List ℕ} (Post : ℕ → Refusal → Type 0) (t : TestedCodes (bad_copied x.route) codes r)
      (h : MatchResult r (λ n. m ≡ Ok n) (λ p. IsErrAnd m (Post p))) where
    pub copied_refuses : {e : Refusal} → m ≡ Err e → ((p : ℕ) (v : Refusal) → Post p v → v ≡ Refusal.Copied p) → refusal_says e ≡ first_of (faults_late x) done
    copied_refuses {e} w f = go r refl h
      where
        go : (v : Result ℕ ℕ) → r ≡ v → MatchResult v (λ n. m ≡ Ok n) (λ p. IsErrAnd m (Post p)) → refusal_says e ≡ first_of (faults_late x) done
        go (Ok n) q k = absurd cc
        go (Err p) q k = rw (f p e (rw w at k)) (late_copied (rw q at t.fault))

    pub copied_clean : {n : ℕ} → m ≡ Ok n → [] ≡ take 1 (bad_copied x.route)
    copied_clean {n} w = go r refl h
      where
        go : (v : Result ℕ ℕ) → r ≡ v → MatchResult v (λ n. m ≡ Ok n) (λ p. IsErrAnd m (Post p)) → [] ≡ take 1 (bad_copied x.route)
        go (Ok k) q e = rw q at t.fault
        go (Err p) q e = absurd (rw w at e)

    pub copied_held : {n : ℕ} → m ≡ Ok n → n ≡ held_codes codes
    copied_held {n} w = go r refl h
      where
        go : (v : Result ℕ ℕ) → r ≡ v → MatchResult v (λ n. m ≡ Ok n) (λ p. IsErrAnd m (Post p)) → n ≡ held_codes codes
        go (Ok k) q e = let z : k ≡ n = cc in sym z ∙ rw q at t.held
        go (Err p) q e = absurd (rw w at e)

  module _ (ids : [] ≡ take 1 (bad_copied x.route)) {o : ℕ} (eo : o ≡ first_place (bad_span x) n) where
    later : first_of (at 6 (places (bad_span x) n) ++ roots) done ≡ first_of (faults_late x) done
    unfolding faults_late
    later = list_passes 5 (at 6 (places (bad_span x) n) ++ roots) done (bad_copied x.route) ids

    pub late_span : o < n → 6 ∷ o ∷ [] ≡ first_of (faults_late x) done
    late_span l = place_fails 6 roots done (bad_span x) n eo l ∙ later

    module _ (l : n ≤ o) {i : ℕ} (ei : i ≡ first_place (bad_root n x.roots) (length x.roots)) where
      last : first_of roots done ≡ cond (ltb i (length x.roots)) (7 ∷ i ∷ []) done
      last = first-place 7 (bad_root n x.roots) (length x.roots) done ∙ rw (← ei)

      pub late_root : i < length x.roots → 7 ∷ i ∷ [] ≡ first_of (faults_late x) done
      late_root k = sym (last ∙ rw (lt-ltb _ _ k)) ∙ place-passes 6 roots done (bad_span x) n eo l ∙ later

      pub late_none : length x.roots ≤ i → done ≡ first_of (faults_late x) done
      late_none k = sym (last ∙ rw (le-ltb _ _ k)) ∙ place-passes 6 roots done (bad_span x) n eo l ∙ later

  -- All checks but PLACES.
  abbrev behind : List (List ℕ)
  behind = at 3 (places (bad_object x) n) ++ (at 4 (places (bad_dumped x) (class_count x.schema)) ++ faults_late x)

  pub before_lengths : bad_lengths x ≡ true → 1 ∷ 0 ∷ [] ≡ first_of (faults_before x) done
  unfolding faults_before
  before_lengths h = once_fails 1 (at 2 (once (bad_limit x)) ++ behind) done h

  module _ (h1 : bad_lengths x ≡ false) where
    pub before_limit : bad_limit x ≡ true → 2 ∷ 0 ∷ [] ≡ first_of (faults_before x) done
    unfolding faults_before
    before_limit h = once_fails 2 behind done h ∙ once-passes 1 (at 2 (once (bad_limit x)) ++ behind) done h1

    -- and the answer of the objects and classes, where no list differs and nothing is over the limit
    module _ (h2 : bad_limit x ≡ false) {says : List ℕ} (e : says ≡ first_of (faults_tables (tables_of x)) (0 ∷ 0 ∷ [])) where
      tables : first_of (faults_tables x ++ faults_late x) done ≡ first_of (faults_before x) done
      unfolding faults_before faults_tables
      tables = rw append_assoc (once-passes 2 behind done h2 ∙ once-passes 1 (at 2 (once (bad_limit x)) ++ behind) done h1)

      pub tables_refuse : accepts says ≡ false → says ≡ first_of (faults_before x) done
      tables_refuse h = refused_first (faults_tables x) (faults_late x) 0 done (e ∙ ap (λ fs. first_of fs (0 ∷ 0 ∷ [])) (same_tables x)) h ∙ tables

      pub tables_pass : accepts says ≡ true → first_of (faults_late x) done ≡ first_of (faults_before x) done
      tables_pass h = passed_first (faults_tables x) (faults_late x) 0 done (tables_refuses x) (e ∙ ap (λ fs. first_of fs (0 ∷ 0 ∷ [])) (same_tables x)) h ∙ tables

-- The checks of objects and classes.
module _ (x : Input) {o : ℕ} (eo : o ≡ first_place (bad_object x) (object_count x)) where
  abbrev classes : List (List ℕ)
  classes = at 4 (places (bad_dumped x) (class_count x.schema))

  pub table_object : o < object_count x → 3 ∷ o ∷ [] ≡ first_of (faults_tables x) (0 ∷ 0 ∷ [])
  unfolding faults_tables
  table_object l = place_fails 3 classes (0 ∷ 0 ∷ []) (bad_object x) (object_count x) eo l

  module _ (l : object_count x ≤ o) {c : ℕ} (ec : c ≡ first_place (bad_dumped x) (class_count x.schema)) where
    last_class : first_of classes (0 ∷ 0 ∷ []) ≡ cond (ltb c (class_count x.schema)) (4 ∷ c ∷ []) (0 ∷ 0 ∷ [])
    last_class = first-place 4 (bad_dumped x) (class_count x.schema) (0 ∷ 0 ∷ []) ∙ rw (← ec)

    passed : first_of classes (0 ∷ 0 ∷ []) ≡ first_of (faults_tables x) (0 ∷ 0 ∷ [])
    unfolding faults_tables
    passed = place-passes 3 classes (0 ∷ 0 ∷ []) (bad_object x) (object_count x) eo l

    pub table_class : c < class_count x.schema → 4 ∷ c ∷ [] ≡ first_of (faults_tables x) (0 ∷ 0 ∷ [])
    table_class k = sym (last_class ∙ rw (lt-ltb _ _ k)) ∙ passed

    pub table_none : class_count x.schema ≤ c → 0 ∷ 0 ∷ [] ≡ first_of (faults_tables x) (0 ∷ 0 ∷ [])
    table_none k = sym (last_class ∙ rw (le-ltb _ _ k)) ∙ passed

-- Columns of one length, of an input whose lengths do not differ.
module _ (x : Input) (h : bad_lengths x ≡ false) where
  abbrev k : Schema
  k = x.schema

  pub dumped_even : length k.classes.dumped ≡ class_count k
  dumped_even = schema_dumped k (schema_lengths_lem x h)

  pub tables_even : Tables k.classes.dumped k.classes.kinds k.classes.slot_start k.classes.slot_end k.classes.static_start k.classes.static_end
      k.slots.offsets k.slots.labels k.slots.weak k.statics.names k.statics.types
  tables_even = schema_tables k (schema_lengths_lem x h)

-- an id size that is allowed is at most 8
pub size_small : (size : ℕ) → bad_size (size_only size) ≡ false → size ≤ 8
size_small size h = size_allowed _ h

-- Ids rise where no object is at fault.
pub ids_rise : (x : Input) {o : ℕ} → o ≡ first_place (bad_object x) (object_count x) → object_count x ≤ o → Rises x.objects.ids
unfolding bad_object
ids_rise x {o} e l =
    steps_rise x.objects.ids
    (λ i m. leb-false (x.objects.ids ! suc i) (x.objects.ids ! i)
    (second_fails _ _ (none_of _ (first_none (bad_object x) (object_count x) (suc i) (rw (← e) l) m) 1) (lt-ltb 0 (suc i) (omega arith))))

-- No class is found at fault where none is at fault at all.
pub finds_none : (x : Input) {c : ℕ} → c ≡ first_place (bad_dumped x) (class_count x.schema) → class_count x.schema ≤ c
    → class_count x.schema ≡ first_place (bad_find x) (class_count x.schema)
unfolding bad_dumped
finds_none x e l =
    first_is (bad_find x) (class_count x.schema) (class_count x.schema) (omega arith)
    (λ j m. none_of _ (first_none (bad_dumped x) (class_count x.schema) j (rw (← e) l) m) 1) (λ m. absurd (omega arith))
