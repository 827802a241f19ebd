-- The list asked in order: what each turn keeps, where it ends, and that the end is what the rules say is left. Assumes nothing.
use Prim.Native.Nat.{ℕ, ◌+◌, ◌≤◌, ◌<◌}
use native.Mathlib.Omega.{arith}
use mathlib.Core.Path.{◌≡◌, refl, sym, ap, ◌∙◌}
use mathlib.Core.Bool.{Bool, true, false, cond, not, false≢true}
use mathlib.Core.List.{List, [], ◌∷◌, ◌++◌, map}
use lib.Dec.{ltb}
use lib.ListN.{length, set, take, drop, length-map, length-set, take-append-drop}
use lib.Seq.{ext_get_or, get_or-take, get_or-set_same, get_or-set_other, length-take-le}
use borrow.Author.Count.{below_more}
use borrow.Author.Tests.{lt-ltb, le-ltb, ltb-false}
use Rattle.columns.specs.Lists.{◌!◌, places, first_place}
use Rattle.columns.specs.Columns.{over, cleared, accepts, leaves, kept, Begins}
use Rattle.columns.proofs.Lists.{map_at, first-hit}
use Rattle.columns.proofs.Tests.{no_places, none_of}
use Rattle.columns.proofs.Written.{settled-column, leaves-zeros, zeroed}
use Rattle.rules.specs.Questions.{Columns}
use Rattle.rules.specs.Each.{target_said, found_said, first_refused, each_says, each_left}
use Rattle.ask_short.specs.Lean.{shortly}
use Rattle.ask_each.specs.Listed.{asks, left_each, refused_at, target_at, found_at, Told, Asking, Onward, Asked}
use Rattle.ask_each_rows.specs.Rows.{lacking, Row, at_position, EachSettled}
use Rattle.ask_each_spans.proofs.Offsets.{told_less}

-- a column that has the list's numbers at its positions begins with them
begins_listed : (g : ℕ → ℕ) (os d : List ℕ) → length os ≤ length d → ((j : ℕ) → j < length os → d ! j ≡ g (os ! j)) → Begins (map g os) d
begins_listed g os d within h =
    rw (length-map os g)
    (ext_get_or 0 (take (length os) d) (map g os) (length-take-le (length os) d within ∙ sym (length-map os g))
    (λ j l. let below : j < length os = omega (arith, length-take-le (length os) d within) in get_or-take (length os) d j 0 below ∙ h j below ∙ sym (map_at g 0 os j below)))

begins_over : (xs d : List ℕ) → Begins xs d → d ≡ over xs d
unfolding over
begins_over xs d h = sym (take-append-drop (length xs) d) ∙ ap (λ (ys : List ℕ). ys ++ drop (length xs) d) h

-- two columns that are no shorter than the list
pub room_for : (n a b : ℕ) → lacking n a b ≡ false → (n ≤ a) × (n ≤ b)
room_for n a b e =
    let h = none_of (ltb a n ∷ ltb b n ∷ []) e in
    (ltb-false a n (h 0), ltb-false b n (h 1))

-- one row more
rows_more : (g : ℕ → ℕ) (d : List ℕ) (i v : ℕ) → i < length d → ((j : ℕ) → j < i → d ! j ≡ g j) → v ≡ g i → (j : ℕ) → j < i + 1 → set d i v ! j ≡ g j
rows_more g d i v within h e =
    below_more (λ j. set d i v ! j ≡ g j) i (λ j l. get_or-set_other d i j v 0 (λ q. omega arith) ∙ h j l) (get_or-set_same d i v 0 within ∙ e)

-- The walk over the list: its start, one more, one way after another, and the end.
module _ (c : Columns) (l : ℕ) (os : List ℕ) where
  abbrev f : ℕ → List ℕ
  f = asks c l

  pub asking_start : {t m : List ℕ} → Told (shortly c.offsets) (length c.labels.codes) (length c.targets) os t m 0 (length os) → Onward c l os 0 t m t m 0
  asking_start h = record {
    rises = omega arith;
    asking = record { within = omega arith; none = λ j q. absurd (omega arith); targets = λ j q. absurd (omega arith); found = λ j q. absurd (omega arith); spans = h };
    same_targets = refl;
    same_found = refl;
  }

  pub onward_start : {t m : List ℕ} {from : ℕ} → Asking c l os t m from → Onward c l os from t m t m from
  onward_start a = record { rises = omega arith; asking = a; same_targets = refl; same_found = refl }

  module _ {from i : ℕ} {t₀ m₀ t m : List ℕ} (w : Onward c l os from t₀ m₀ t m i) where
    pub onward_on : {t' m' : List ℕ} {j : ℕ} → Onward c l os i t m t' m' j → Onward c l os from t₀ m₀ t' m' j
    onward_on g = record {
      rises = omega (arith, w.rises, g.rises);
      asking = g.asking;
      same_targets = g.same_targets ∙ w.same_targets;
      same_found = g.same_found ∙ w.same_found;
    }

    onward_more : {says : List ℕ} → f (os ! i) ≡ says → accepts says ≡ true → i < length os → length os ≤ length t₀ → length os ≤ length m₀
        → Onward c l os from t₀ m₀ (set t i (target_said says)) (set m i (found_said says)) (i + 1)
    onward_more {says} e ok there in-t in-m =
        let a = w.asking in
        let t_in : i < length t = omega (arith, w.same_targets) in
        let m_in : i < length m = omega (arith, w.same_found) in
        record {
          rises = omega (arith, w.rises);
          asking = record {
            within = omega arith;
            none = below_more (λ j. accepts (f (os ! j)) ≡ true) i a.none (ap accepts e ∙ ok);
            targets = rows_more (target_at f os) t i (target_said says) t_in a.targets (ap target_said (sym e));
            found = rows_more (found_at f os) m i (found_said says) m_in a.found (ap found_said (sym e));
            spans = told_less (shortly c.offsets) (length c.labels.codes) (length c.targets) os (target_said says) (found_said says) a.spans;
          };
          same_targets = length-set t i (target_said says) ∙ w.same_targets;
          same_found = length-set m i (found_said says) ∙ w.same_found;
        }

    -- a row that was written, and one that was refused
    pub onward-row : {says t' m' : List ℕ} {done : Bool} → Row says i t m done t' m' → done ≡ true → f (os ! i) ≡ says → i < length os → length os ≤ length t₀ → length os ≤ length m₀
        → Onward c l os from t₀ m₀ t' m' (i + 1)
    onward-row {says} {t'} {m'} r d e there in-t in-m =
        let ok : accepts says ≡ true = sym r.answer ∙ d in
        let is_t : t' ≡ set t i (target_said says) = r.targets ∙ ap (λ (b : Bool). cond b (set t i (target_said says)) t) ok in
        let is_m : m' ≡ set m i (found_said says) = r.found ∙ ap (λ (b : Bool). cond b (set m i (found_said says)) m) ok in
        rw (is_t, is_m) (onward_more e ok there in-t in-m)

    pub onward-kept : {says t' m' : List ℕ} {done : Bool} → Row says i t m done t' m' → done ≡ false → Onward c l os from t₀ m₀ t' m' i
    onward-kept {says} {t'} {m'} r d =
        let no : accepts says ≡ false = sym r.answer ∙ d in
        let is_t : t' ≡ t = r.targets ∙ ap (λ (b : Bool). cond b (set t i (target_said says)) t) no in
        let is_m : m' ≡ m = r.found ∙ ap (λ (b : Bool). cond b (set m i (found_said says)) m) no in
        rw (is_t, is_m) w

    not_refused : (j : ℕ) → j < i → refused_at f os j ≡ false
    not_refused j h = ap not (w.asking.none j h)

    -- the answer is the refusal's number and the position
    pub onward_refused : {says says' : List ℕ} → f (os ! i) ≡ says → accepts says ≡ false → says' ≡ at_position says i → i < length os → Asked f os says' t₀ m₀ t m
    unfolding accepts first_refused
    onward_refused {says} {says'} e refused told there =
        let bad : refused_at f os i ≡ true = ap (λ (s : List ℕ). not (accepts s)) e ∙ ap not refused in
        let is : first_place (refused_at f os) (length os) ≡ i = first-hit (refused_at f os) i (length os) (no_places (refused_at f os) i not_refused) bad there in
        let none : accepts says' ≡ false = ap accepts told ∙ refused in
        record {
          answer = told ∙ rw (is, lt-ltb i (length os) there, e);
          all = λ ok. absurd (false≢true (sym none ∙ ok));
          targets = λ ok. absurd (false≢true (sym none ∙ ok));
          found = λ ok. absurd (false≢true (sym none ∙ ok));
          same_targets = w.same_targets;
          same_found = w.same_found;
        }

    pub onward-end : length os ≤ i → length os ≤ length t₀ → length os ≤ length m₀ → Asked f os (0 ∷ i ∷ []) t₀ m₀ t m
    unfolding first_refused
    onward-end h in-t in-m =
        let a = w.asking in
        let n : i ≡ length os = omega (arith, a.within) in
        let none : places (refused_at f os) (length os) ≡ [] = no_places (refused_at f os) (length os) (λ j q. not_refused j (omega arith)) in
        record {
          answer = rw (none, le-ltb (length os) (length os) (omega arith), n);
          all = λ ok. n;
          targets = λ ok. begins_listed (λ o. target_said (f o)) os t (omega (arith, w.same_targets)) (λ j q. a.targets j (omega arith));
          found = λ ok. begins_listed (λ o. found_said (f o)) os m (omega (arith, w.same_found)) (λ j q. a.found j (omega arith));
          same_targets = w.same_targets;
          same_found = w.same_found;
        }

module _ (f : ℕ → List ℕ) (os : List ℕ) where
  -- three parts make what is left
  left_is : (a b : ℕ) {says t m : List ℕ} → says ≡ each_says f os a b → t ≡ leaves says (map (λ o. target_said (f o)) os) a → m ≡ leaves says (map (λ o. found_said (f o)) os) b
      → left_each says t m ≡ each_left f os a b
  unfolding each_left
  left_is a b {says} {t} {m} e p q = rw (p, q) (ap (λ (s : List ℕ). left_each s (leaves s (map (λ o. target_said (f o)) os) a) (leaves s (map (λ o. found_said (f o)) os) b)) e)

  -- a column that begins with the rows, settled
  settled : (g : ℕ → ℕ) (says d d₀ : List ℕ) {d' : List ℕ} → (accepts says ≡ true → Begins (map g os) d) → (accepts says ≡ true → says ! 1 ≡ length os) → d' ≡ cleared (kept 1 says) d
      → length d ≡ length d₀ → d' ≡ leaves says (map g os) (length d₀)
  settled g says d d₀ {d'} h all e same =
      settled-column says (map g os) d 1 (λ ok. begins_over (map g os) d (h ok)) (λ ok. all ok ∙ sym (length-map os g)) refl e ∙ ap (leaves says (map g os)) same

  module _ (t₀ m₀ : List ℕ) where
    -- an output shorter than the list
    pub each_room : {says t m : List ℕ} → lacking (length os) (length t₀) (length m₀) ≡ true → EachSettled (9 ∷ 12 ∷ []) says t₀ m₀ t m
        → left_each says t m ≡ each_left f os (length t₀) (length m₀)
    unfolding each_says kept accepts
    each_room {says} {t} {m} few s =
        let is : says ≡ each_says f os (length t₀) (length m₀) = s.answer ∙ rw few in
        let no : accepts says ≡ false = ap accepts s.answer in
        left_is (length t₀) (length m₀) is (leaves-zeros says (map (λ o. target_said (f o)) os) (length t₀) no (zeroed t₀ s.targets)) (leaves-zeros says (map (λ o. found_said (f o)) os) (length m₀) no (zeroed m₀ s.found))

    -- room for all: what was asked, settled
    pub each-asked : {t₁ m₁ t₂ m₂ says says' t m : List ℕ} → lacking (length os) (length t₀) (length m₀) ≡ false → length t₁ ≡ length t₀ → length m₁ ≡ length m₀
        → Asked f os says t₁ m₁ t₂ m₂ → EachSettled says says' t₂ m₂ t m → left_each says' t m ≡ each_left f os (length t₀) (length m₀)
    unfolding each_says
    each-asked {t₁} {m₁} {t₂} {m₂} {says} {says'} {t} {m} enough same-t same-m a s =
        let is : says ≡ each_says f os (length t₀) (length m₀) = a.answer ∙ rw enough in
        ap (λ (z : List ℕ). left_each z t m) s.answer
        ∙ left_is (length t₀) (length m₀) is
        (settled (λ o. target_said (f o)) says t₂ t₀ a.targets a.all s.targets (a.same_targets ∙ same-t))
        (settled (λ o. found_said (f o)) says m₂ m₀ a.found a.all s.found (a.same_found ∙ same-m))
