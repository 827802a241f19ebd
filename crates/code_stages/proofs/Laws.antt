-- Answers: which buffer is short, what a stage hands on, and what each stage's answer comes to case by case. Assumes nothing.
use Prim.Native.Nat.{ℕ, ◌+◌, ◌-◌, ◌≤◌, ◌<◌}
use native.Mathlib.Omega.{arith}
use mathlib.Core.Path.{◌≡◌, refl, sym, ap, ◌∙◌}
use mathlib.Core.Bool.{Bool, true, false, cond, true≢false}
use mathlib.Core.List.{List, [], ◌∷◌}
use lib.Dec.{ltb}
use lib.ListN.{length, set, take}
use borrow.Author.Tests.{lt-ltb, le-ltb, ltb-false}
use Rattle.columns.specs.Lists.{◌!◌, any_of}
use Rattle.columns.specs.Columns.{accepts, over, leaves}
use Rattle.columns.proofs.Tests.{none_of, or_none, some_of}
use Rattle.columns.proofs.Written.{begins_over}
use Rattle.std.specs.Prelude.{Result, Ok, Err}
use Rattle.std.specs.Result.{IsErrAnd}
use Rattle.std.proofs.lemmas.Result.{err_from_is_err_and}
use Rattle.store.specs.declared.CodedOffsets.{CodedOffsets}
use Rattle.store.specs.declared.OffsetsError.{OffsetsError}
use Rattle.store.specs.Blocked.{coded_says, coding_says, Coding, blocks_of, long_rows}
use Rattle.store.proofs.Verdict.{climbs_high}
use Rattle.rules.specs.declared.Refusal.{Refusal}
use Rattle.rules.specs.declared.Counts.{Counts}
use Rattle.rules.specs.Types.{refusal_says, built_says, loader_label}
use Rattle.rules.proofs.Types.{refusal_refuses}
use Rattle.labels.specs.Coding.{LaidOut, escapes_in, escaped_to, Escapes}
use Rattle.labels.proofs.Coded.{escaped_in, codes_laid}
use Rattle.labels.proofs.Escapes.{escapes_places}
use Rattle.code_stages.specs.Stages.{hand_on, unless_short, label_room, space_short, OffsetsReady, offsets_says, OffsetsCoded, fields_says, space_says, codes_says}
use Rattle.code_stages.specs.Stages.{codes_all, CodesCoded, FieldsWritten, escapes_of}
use Rattle.rules.specs.Labels.{fields_of, code_table, coded}
use Rattle.labels.specs.Fields.{Chosen}
use Rattle.labels.proofs.Listed.{fields_few}
use Rattle.code_stages.specs.Settling.{used_to}

-- a pair of columns that is short of a need, by its first and by its second column
pub short-first : (need a b : ℕ) → a < need → any_of (ltb a need ∷ ltb b need ∷ []) ≡ true
unfolding any_of
short-first need a b h = rw (lt-ltb a need h)

pub short_second : (need a b : ℕ) → need ≤ a → any_of (ltb a need ∷ ltb b need ∷ []) ≡ ltb b need
unfolding any_of
short_second need a b h = rw (le-ltb a need h) (or_none (ltb b need))

pub short_none : (need a b : ℕ) → any_of (ltb a need ∷ ltb b need ∷ []) ≡ false → (need ≤ a) × (need ≤ b)
short_none need a b e = (ltb-false a need (none_of _ e 0), ltb-false b need (none_of _ e 1))

any_none : (a b : Bool) → a ≡ false → b ≡ false → any_of (a ∷ b ∷ []) ≡ false
unfolding any_of
any_none a b h g = rw (h, g)

any-one : (a : Bool) → any_of (a ∷ []) ≡ a
unfolding any_of
any-one true = refl
any-one false = refl

-- nothing is used after a refusal
pub used_none : (r : Refusal) (n : ℕ) → used_to (refusal_says r) n ≡ 0
used_none r n = ap (λ (b : Bool). cond b n 0) (refusal_refuses r)

-- an answer that is an acceptance, and one that is a refusal
pub accepts-done : {v : Result Counts Refusal} {n : Counts} → v ≡ Ok n → accepts (built_says v) ≡ true
unfolding accepts
accepts-done e = ap (λ (b : Result Counts Refusal). accepts (built_says b)) e

pub accepts_refused : {v : Result Counts Refusal} {r : Refusal} → v ≡ Err r → accepts (built_says v) ≡ false
accepts_refused {v} {r} e = ap (λ (b : Result Counts Refusal). accepts (built_says b)) e ∙ refusal_refuses r

-- what a `?` hands on
pub handed : {v r : Result Counts Refusal} {e : Refusal} → v ≡ Err e → IsErrAnd r (λ d. d ≡ e) → (r ≡ v) × (accepts (built_says v) ≡ false)
handed {r = r} w h = let p = err_from_is_err_and r h in (p.1 ∙ ap (λ (d : Refusal). Err d) p.2 ∙ sym w, accepts_refused w)

pub refused_never : {A : Type 0} (says : List ℕ) → accepts says ≡ false → accepts says ≡ true → A
refused_never says n y = absurd (true≢false (sym y ∙ n))

-- What a stage hands on.
pub on_true : (before rest : List ℕ) → accepts before ≡ true → hand_on before rest ≡ rest
unfolding hand_on
on_true before rest y = rw y

pub on_false : (before rest : List ℕ) → accepts before ≡ false → hand_on before rest ≡ before
unfolding hand_on
on_false before rest n = rw n

pub on_accepts : (before rest : List ℕ) → accepts (hand_on before rest) ≡ true → (accepts before ≡ true) × (accepts rest ≡ true)
unfolding hand_on
on_accepts before rest = go (accepts before) refl
  where
    go : (b : Bool) → accepts before ≡ b → accepts (cond b rest before) ≡ true → (accepts before ≡ true) × (accepts rest ≡ true)
    go true e y = (e, y)
    go false e y = absurd (true≢false (sym y ∙ e))

-- The offsets: laid out, none is below its block's base, so that only ROOM can refuse them.
module _ (vs : List ℕ) (ready : OffsetsReady vs) where
  coding_laid : (nb ns na nv : ℕ)
      → coding_says vs nb ns na nv
      ≡ unless_short 4 (ltb nb (blocks_of (length vs)) ∷ ltb ns (length vs) ∷ [])
      (unless_short 5 (ltb na (long_rows vs) ∷ ltb nv (long_rows vs) ∷ []) (0 ∷ blocks_of (length vs) ∷ length vs ∷ long_rows vs ∷ []))
  unfolding coding_says any_of
  coding_laid nb ns na nv =
      rw (climbs_high vs (λ i l. ready.climbs i l), le-ltb 67108865 (length vs) ready.few_offsets, le-ltb (length vs) (length vs) (omega arith))
      (pairs (ltb nb (blocks_of (length vs))) (ltb ns (length vs)) (ltb na (long_rows vs)) (ltb nv (long_rows vs)) _ _ _)
    where
      pairs : (b s a v : Bool) (x y z : List ℕ) → cond b x (cond s x (cond a y (cond v y z))) ≡ cond (any_of (b ∷ s ∷ [])) x (cond (any_of (a ∷ v ∷ [])) y z)
      pairs true s a v x y z = refl
      pairs false true a v x y z = refl
      pairs false false true v x y z = refl
      pairs false false false true x y z = refl
      pairs false false false false x y z = refl

  -- the stage, where code_offsets answers o
  offsets-chain : (before : List ℕ) (t u : Bool) (b n long : ℕ)
      → (let o = cond t (9 ∷ 4 ∷ []) (cond u (9 ∷ 5 ∷ []) (0 ∷ b ∷ n ∷ long ∷ [])) in cond (accepts o) (set before 4 (o ! 3)) o)
      ≡ cond t (9 ∷ 4 ∷ []) (cond u (9 ∷ 5 ∷ []) (set before 4 long))
  unfolding accepts
  offsets-chain before true u b n long = refl
  offsets-chain before false true b n long = refl
  offsets-chain before false false b n long = refl

  module _ {nb ns na nv : ℕ} {o : Result CodedOffsets OffsetsError} {b s a v : List ℕ} (coding : Coding vs nb ns na nv o b s a v) (before says : List ℕ) (y : accepts before ≡ true)
      (e : says ≡ cond (accepts (coded_says o)) (set before 4 (coded_says o ! 3)) (coded_says o)) where
    offsets-accepts : accepts says ≡ true → accepts (coded_says o) ≡ true
    offsets-accepts h = go (accepts (coded_says o)) refl (ap accepts (sym e) ∙ h)
      where
        go : (t : Bool) → accepts (coded_says o) ≡ t → accepts (cond t (set before 4 (coded_says o ! 3)) (coded_says o)) ≡ true → accepts (coded_says o) ≡ true
        go true q z = q
        go false q z = z

    pub offsets-coded : OffsetsCoded before vs nb ns na nv says b s a v
    unfolding offsets_says leaves
    offsets-coded = record {
      answer = e ∙ ap (λ (o : List ℕ). cond (accepts o) (set before 4 (o ! 3)) o) (coding.answer ∙ coding_laid nb ns na nv)
          ∙ offsets-chain before (any_of (ltb nb (blocks_of (length vs)) ∷ ltb ns (length vs) ∷ [])) (any_of (ltb na (long_rows vs) ∷ ltb nv (long_rows vs) ∷ [])) (blocks_of (length vs)) (length vs) (long_rows vs) ∙ sym (on_true before _ y);
      filled = λ h. let t = offsets-accepts h in record {
        bases = rw t at coding.bases;
        short = rw t at coding.short;
        long_at = rw t at coding.long_at;
        long_value = rw t at coding.long_value;
      };
    }

pub offsets-handed : (vs : List ℕ) {nb ns na nv : ℕ} {b s a v before : List ℕ} → accepts before ≡ false → OffsetsCoded before vs nb ns na nv before b s a v
unfolding offsets_says
offsets-handed vs {before = before} n = record { answer = sym (on_false before _ n); filled = λ y. refused_never before n y }

-- The fields: handed on, either column short, and room for both.
module _ (before : List ℕ) (need names nf nt : ℕ) where
  pub fields-handed : accepts before ≡ false → before ≡ fields_says before need names nf nt
  unfolding fields_says
  fields-handed n = sym (on_false before _ n)

  module _ (y : accepts before ≡ true) {says : List ℕ} where
    pub fields-short-table : nt < names + 2 → says ≡ 9 ∷ 6 ∷ [] → says ≡ fields_says before need names nf nt
    unfolding fields_says
    fields-short-table h e = e ∙ sym (on_true before _ y ∙ rw (some_of (ltb nf need ∷ ltb nt (names + 2) ∷ []) 1 (lt-ltb nt (names + 2) h)))

    pub fields-short : nf < need → says ≡ 9 ∷ 6 ∷ [] → says ≡ fields_says before need names nf nt
    unfolding fields_says any_of
    fields-short h e = e ∙ sym (on_true before _ y ∙ rw (lt-ltb nf need h))

    pub fields_fit : names + 2 ≤ nt → need ≤ nf → says ≡ set before 5 need → says ≡ fields_says before need names nf nt
    unfolding fields_says
    fields_fit h g e = e ∙ sym (on_true before _ y ∙ rw (any_none (ltb nf need) (ltb nt (names + 2)) (le-ltb nf need g) (le-ltb nt (names + 2) h)))

-- the fields that were chosen, and the table of them
pub chosen_front : {fields f₀ f : List ℕ} {r : ℕ} → Chosen fields f₀ r f → take r f ≡ fields
chosen_front {fields} {f₀} {f} w = ap (λ (n : ℕ). take n f) w.used ∙ begins_over fields f₀ w.front

-- how many they are
pub chosen_within : {fields f₀ f : List ℕ} {r n : ℕ} → Chosen fields f₀ r f → length fields ≤ n → r ≤ n
chosen_within w l = omega (arith, w.used, l)

pub chosen_few : (names : ℕ) (named labels : List ℕ) {f₀ f : List ℕ} {r : ℕ} → Chosen (fields_of names named labels) f₀ r f → r ≤ 32767
chosen_few names named labels w = omega (arith, w.used, fields_few names named labels)

pub fields_written : (names : ℕ) {fields f₀ f : List ℕ} (t₀ : List ℕ) {t : List ℕ} {r : ℕ} → Chosen fields f₀ r f → t ≡ over (code_table names (take r f)) t₀
    → FieldsWritten names fields f t
fields_written names {fields} {f₀} {f} t₀ w e = record {
  listed = begins_over fields f₀ w.front;
  tabled = begins_over (code_table names fields) t₀ (e ∙ ap (λ (z : List ℕ). over (code_table names z) t₀) (chosen_front w));
}

-- The codes.
module _ (escapes edges na nl nc : ℕ) where
  pub label_refuses : (k : ℕ) → accepts (label_room escapes edges na nl nc (9 ∷ k ∷ [])) ≡ false
  unfolding accepts
  label_refuses k = go (any_of (ltb na escapes ∷ ltb nl escapes ∷ [])) (any_of (ltb nc edges ∷ []))
    where
      go : (t u : Bool) → accepts (cond t (9 ∷ 7 ∷ []) (cond u (9 ∷ 8 ∷ []) (9 ∷ k ∷ []))) ≡ false
      go true u = refl
      go false true = refl
      go false false = refl

  pub label-codes-short : nc < edges → (x z : List ℕ) → label_room escapes edges na nl nc x ≡ label_room escapes edges na nl nc z
  label-codes-short h x z = rw (any-one (ltb nc edges) ∙ lt-ltb nc edges h)

  pub label_escapes_short : any_of (ltb na escapes ∷ ltb nl escapes ∷ []) ≡ true → (x : List ℕ) → label_room escapes edges na nl nc x ≡ 9 ∷ 7 ∷ []
  label_escapes_short t x = rw t

  pub label-fits : any_of (ltb na escapes ∷ ltb nl escapes ∷ []) ≡ false → edges ≤ nc → (x : List ℕ) → label_room escapes edges na nl nc x ≡ x
  label-fits t h x = rw (t, any-one (ltb nc edges) ∙ le-ltb nc edges h)

-- the escapes counted among the codes that are written
pub codes-rows : (names : ℕ) (table offsets labels c₀ c : List ℕ) → LaidOut offsets (length labels) → c ≡ over (codes_all names table offsets labels) c₀
    → length (escaped_to c (length labels)) ≡ escapes_in (codes_all names table offsets labels)
codes-rows names table offsets labels c₀ c law e =
    ap length (escaped_in names table offsets labels c₀ c law e) ∙ sym (escapes_places (codes_all names table offsets labels))

module _ (before : List ℕ) (names : ℕ) (table offsets labels c₀ a₀ l₀ : List ℕ) where
  abbrev rows : ℕ
  rows = escapes_in (codes_all names table offsets labels)

  pub codes-handed : {c a l : List ℕ} → accepts before ≡ false → CodesCoded before names table offsets labels c₀ a₀ l₀ before c a l
  unfolding codes_says
  codes-handed n = record { answer = sym (on_false before _ n); laid = λ y. refused_never before n y }

  module _ (y : accepts before ≡ true) {says c a l : List ℕ} where
    -- a refusal of buffer 7 or 8
    pub codes-short : (x : List ℕ) → accepts x ≡ false → says ≡ x → x ≡ label_room rows (length labels) (length a₀) (length l₀) (length c₀) (set before 6 rows)
        → CodesCoded before names table offsets labels c₀ a₀ l₀ says c a l
    unfolding codes_says
    codes-short x n e f = record { answer = e ∙ f ∙ sym (on_true before _ y); laid = λ h. refused_never says (ap accepts e ∙ n) h }

    -- the codes written, and then their escapes
    pub codes-coded : {r : ℕ} → LaidOut offsets (length labels) → names ≤ loader_label → c ≡ over (codes_all names table offsets labels) c₀ → length labels ≤ length c₀
        → any_of (ltb (length a₀) rows ∷ ltb (length l₀) rows ∷ []) ≡ false → Escapes c labels a₀ l₀ r a l → says ≡ set before 6 rows
        → CodesCoded before names table offsets labels c₀ a₀ l₀ says c a l
    unfolding codes_says
    codes-coded law few e room fits w f = record {
      answer = f ∙ sym (on_true before _ y ∙ label-fits rows (length labels) (length a₀) (length l₀) (length c₀) fits room (set before 6 rows));
      laid = λ h. codes_laid names table offsets labels c₀ c law e a₀ l₀ a l rows few
          (record { rows = sym (codes-rows names table offsets labels c₀ c law e); escape_at = w.escape_at; escape_label = w.escape_label });
    }

-- Buffer 9: handed on, short, and with room.
module _ (before : List ℕ) (escapes edges names na nl nc nu nk : ℕ) where
  pub space_handed : accepts before ≡ false → before ≡ space_says before escapes edges names na nl nc nu nk
  unfolding space_says
  space_handed n = sym (on_false before _ n)

  pub space_short_lem : {says : List ℕ} → accepts before ≡ true → any_of (space_short names nu nk) ≡ true → says ≡ label_room escapes edges na nl nc (9 ∷ 9 ∷ [])
      → says ≡ space_says before escapes edges names na nl nc nu nk
  unfolding space_says
  space_short_lem y t e = e ∙ sym (on_true before _ y ∙ rw t)

  pub space_fits : accepts before ≡ true → any_of (space_short names nu nk) ≡ false → before ≡ space_says before escapes edges names na nl nc nu nk
  unfolding space_says
  space_fits y t = sym (on_true before _ y ∙ rw t)

-- the escapes of fields that are known under another name
pub escapes_same : {fields other : List ℕ} (offsets labels : List ℕ) {r : ℕ} → fields ≡ other → r ≡ length (coded other offsets labels (length offsets - 1)).escape_at
    → r ≡ escapes_of fields offsets labels
unfolding escapes_of
escapes_same offsets labels e n = n ∙ ap (λ (z : List ℕ). length (coded z offsets labels (length offsets - 1)).escape_at) (sym e)
