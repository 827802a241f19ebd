-- The escapes of the label columns are those of the elements, and the uses of the fields behind the first of the ranking. Assumes nothing.
use Prim.Native.Nat.{ℕ, zero, suc, ◌+◌, ◌-◌, ◌%◌, ◌≤◌, ◌<◌, min}
use native.Mathlib.Nat.{add-zero, not-suc-le-zero}
use native.Mathlib.Numerals.{add-one}
use native.Mathlib.Omega.{arith}
use mathlib.Core.Path.{◌≡◌, refl, sym, ap, ap₂, subst, ◌∙◌}
use mathlib.Core.Logic.{⊎_elim}
use mathlib.Core.Bool.{Bool, true, false, cond}
use mathlib.Core.List.{List, [], ◌∷◌, ◌++◌, map}
use mathlib.Core.Option.{Option, none, some}
use lib.Dec.{eqb, ltb}
use lib.ListN.{length, take, drop, take-append-drop, length-take, length-replicate}
use lib.Seq.{take-length, take-add}
use borrow.Author.Tests.{eq-eqb, ne_eqb, eqb-true, eqb-false, lt-ltb, le-ltb, le-leb, lt-leb}
use Rattle.columns.specs.Lists.{◌!◌, tab, places, find, next, found, sum, one, count, total, or_else}
use Rattle.columns.specs.Columns.{zeros, cleared}
use Rattle.columns.proofs.Written.{cleared_all, zeroed, zero-at}
use Rattle.columns.proofs.Folds.{fold-length}
use Rattle.columns.proofs.Lists.{lt_or_ge}
use Rattle.columns.proofs.Parts.{places_ext}
use Rattle.columns.proofs.Every.{Chain}
use Rattle.columns.proofs.Search.{find-get}
use Rattle.columns.proofs.Sums.{sum-append, sum-sort, sum-collect, sum-tab, sum-map, total_ext, total-add, part_at, part_length_lem, one_few}
use Rattle.columns.proofs.Counts.{occurs, occurs-count, places_count, places_beyond, places-length, places_within}
use Rattle.rules.specs.Types.{loader_label, array_element_label, is_element}
use Rattle.rules.specs.Labels.{occurring, ranked, field_code, label_code, expected, codes_of, codes_for, is_escaped, coded, own}
use Rattle.labels.specs.Coding.{table_place, code_by, code_in, codes_by, all_by, LaidOut, Room, escapes_in, escaped_to}
use Rattle.labels.specs.Fields.{table_label, first_ranked}
use Rattle.labels.proofs.Table.{label-places}
use Rattle.labels.proofs.Escapes.{escapes_places, escapes_append, escapes_few}
use Rattle.labels.proofs.Coded.{laid_within, all_length}
use Rattle.labels.proofs.Occurring.{tab-take}
use Rattle.need_escapes.specs.Uncoded.{KnownLabels, cap, capped, is_more, used_more, layers}
use Rattle.need_escapes.proofs.Layers.{more_than, falling, sum-behind, sort-falls, few_more, count_swap}
use Rattle.need_escapes.proofs.Capped.{capped-count, cap-length}

-- a number of a list occurs in it
occurs-at : (xs : List ℕ) (e : ℕ) → e < length xs → occurs xs (xs ! e) ≡ true
occurs-at [] e l = absurd (not-suc-le-zero l)
occurs-at (a ∷ xs) zero l = rw (eq-eqb a a refl)
occurs-at (a ∷ xs) (suc e) l = go (eqb a (xs ! e)) (find xs (xs ! e)) (occurs-at xs e (omega arith))
  where
    go : (b : Bool) (f : Option ℕ) → found f ≡ true → found (cond b (some 0) (next f)) ≡ true
    go true f h = refl
    go false none h = h
    go false (some i) h = refl

sum-places : (f : ℕ → ℕ) (xs : List ℕ) → sum f xs ≡ total (λ k. f (xs ! k)) (length xs)
sum-places f xs = ap (sum f) (sym (tab-take (λ k. xs ! k) xs (length xs) (omega arith) (λ k l. refl) ∙ take-length xs)) ∙ sum-tab f (λ k. xs ! k) (length xs)

module _ (names : ℕ) (labels : List ℕ) (few : names ≤ loader_label) where
  abbrev uses : ℕ → ℕ
  uses l = count l labels

  -- the ranking has each name that occurs and the loader once, and nothing else
  ranked-count : (l : ℕ) → count l (ranked names labels) ≡ count l (occurring names labels)
  unfolding ranked
  ranked-count l = sum-sort (λ a. one (eqb a l)) _ (occurring names labels)

  loader_count : (l : ℕ) (b : Bool) → (l ≡ loader_label → ⊥) → count l (cond b (loader_label ∷ []) []) ≡ 0
  loader_count l true n = rw (ne_eqb loader_label l (λ e. n (sym e)))
  loader_count l false n = refl

  name_once : (l : ℕ) → l < names → count l (ranked names labels) ≡ one (occurs labels l)
  unfolding occurring
  name_once l h =
      ranked-count l ∙ sum-append (λ a. one (eqb a l)) (places (occurs labels) names) (cond (occurs labels loader_label) (loader_label ∷ []) [])
      ∙ omega (arith, places_count (occurs labels) names l h, loader_count l (occurs labels loader_label) (λ e. omega arith))

  loader_once : count loader_label (ranked names labels) ≡ one (occurs labels loader_label)
  unfolding occurring
  loader_once =
      ranked-count loader_label ∙ sum-append (λ a. one (eqb a loader_label)) (places (occurs labels) names) (cond (occurs labels loader_label) (loader_label ∷ []) [])
      ∙ omega (arith, places_beyond (occurs labels) names loader_label few, is (occurs labels loader_label))
    where
      is : (b : Bool) → count loader_label (cond b (loader_label ∷ []) []) ≡ one b
      is true = refl
      is false = refl

  other_none : (l : ℕ) → (l ≡ loader_label → ⊥) → names ≤ l → count l (ranked names labels) ≡ 0
  unfolding occurring
  other_none l n h =
      ranked-count l ∙ sum-append (λ a. one (eqb a l)) (places (occurs labels) names) (cond (occurs labels loader_label) (loader_label ∷ []) [])
      ∙ omega (arith, places_beyond (occurs labels) names l h, loader_count l (occurs labels loader_label) n)

  once : (l : ℕ) → count l (ranked names labels) ≤ 1
  once l =
      ⊎_elim
      (λ h. omega (arith, name_once l h, one_few (occurs labels l)))
      (λ h. go (eqb l loader_label) refl h)
      (lt_or_ge l names)
    where
      go : (b : Bool) → eqb l loader_label ≡ b → names ≤ l → count l (ranked names labels) ≤ 1
      go true e h = rw (eqb-true l loader_label e) (omega (arith, loader_once, one_few (occurs labels loader_label)))
      go false e h = omega (arith, other_none l (eqb-false l loader_label e) h)

  -- The labels that occur, by their places in the table; those used more than t times.
  occurring-places : occurring names labels ≡ map (table_label names) (places (λ i. occurs labels (table_label names i)) (names + 1))
  unfolding occurring
  occurring-places =
      sym (label-places names (λ i. occurs labels (table_label names i))
      ∙ ap₂ ◌++◌ (places_ext _ _ names (λ i l. rw (ne_eqb i names (λ e. omega arith)))) (ap (λ (b : Bool). cond b (loader_label ∷ []) []) last))
    where
      last : occurs labels (table_label names names) ≡ occurs labels loader_label
      last = rw (eq-eqb names names refl)

  falls : Chain (falling uses) (ranked names labels)
  unfolding ranked
  falls = sort-falls uses (occurring names labels)

  module _ (table : List ℕ) (at : (i : ℕ) → i ≤ names → table ! i ≡ min 65535 (uses (table_label names i))) where
    used_more_lem : (t : ℕ) → t < 65535 → more_than uses t (ranked names labels) ≡ used_more names table t
    unfolding ranked used_more places
    used_more_lem t low =
        sum-sort (λ a. one (ltb t (uses a))) _ (occurring names labels)
        ∙ ap (more_than uses t) occurring-places
        ∙ sum-map (λ a. one (ltb t (uses a))) (table_label names) (places (λ i. occurs labels (table_label names i)) (names + 1))
        ∙ sum-collect (λ i. one (ltb t (uses (table_label names i)))) (λ i. cond (occurs labels (table_label names i)) (i ∷ []) []) (names + 1)
        ∙ total_ext _ _ (names + 1) (λ i l. each i (at i (omega arith)) (occurs labels (table_label names i)) (occurs-count labels (table_label names i)))
        ∙ sym (places-length (is_more table t) (names + 1))
      where
        each : (i : ℕ) → table ! i ≡ min 65535 (uses (table_label names i)) → (b : Bool) → one b ≡ min 1 (uses (table_label names i))
            → sum (λ j. one (ltb t (uses (table_label names j)))) (cond b (i ∷ []) []) ≡ one (ltb t (table ! i))
        each i e true h =
            add-zero _
            ∙ ⊎_elim
            (λ l. rw (lt-ltb t (uses (table_label names i)) l, lt-ltb t (table ! i) (omega arith)))
            (λ l. rw (le-ltb t (uses (table_label names i)) l, le-ltb t (table ! i) (omega arith)))
            (lt_or_ge t (uses (table_label names i)))
        each i e false h = rw (le-ltb t (table ! i) (omega arith))

    -- no more labels are used 65,535 times than have codes, where there are no more than 2^28 edges
    pub few_capped : length labels ≤ 268435456 → used_more names table 65534 ≤ 32767
    few_capped short =
        omega (arith, used_more_lem 65534 (omega arith), few_more uses (ranked names labels), count_swap (ranked names labels) labels, most labels)
      where
        most : (xs : List ℕ) → sum (λ l. count l (ranked names labels)) xs ≤ length xs
        most [] = omega arith
        most (x ∷ xs) = omega (arith, once x, most xs)

    -- the layers are the uses of the labels behind the first k
    pub layers-behind : (k m : ℕ) → m ≤ 65534 → used_more names table m ≤ k → layers k names table m ≡ sum uses (drop k (ranked names labels))
    layers-behind k m low end =
        total_ext _ _ m (λ t l. ap (λ (n : ℕ). n - k) (sym (used_more_lem t (omega arith))))
        ∙ sym (sum-behind uses k m (ranked names labels) falls (omega (arith, used_more_lem m (omega arith))))

  -- What becomes of one label where the first k of the ranking have codes.
  module _ (k : ℕ) (codes : k ≤ 32767) (ok : KnownLabels names labels) (z : ℕ) where
    abbrev rest : List ℕ
    rest = drop k (ranked names labels)

    split_count : (l : ℕ) → count l (first_ranked k names labels) + count l rest ≡ count l (ranked names labels)
    unfolding first_ranked
    split_count l =
        sym (sum-append (λ a. one (eqb a l)) (take k (ranked names labels)) (drop k (ranked names labels))) ∙ ap (count l) (take-append-drop k (ranked names labels))

    first-length : length (first_ranked k names labels) ≤ k
    unfolding first_ranked
    first-length = omega (arith, length-take k (ranked names labels))

    field_escapes : (l : ℕ) → count l (ranked names labels) ≡ 1 → one (is_escaped (field_code (first_ranked k names labels) l)) ≡ count l rest
    unfolding field_code
    field_escapes l h = go (find (first_ranked k names labels) l) refl (occurs-count (first_ranked k names labels) l)
      where
        go : (f : Option ℕ) → find (first_ranked k names labels) l ≡ f → one (found f) ≡ min 1 (count l (first_ranked k names labels)) → one (is_escaped (or_else 32767 f)) ≡ count l rest
        go none e g = omega (arith, split_count l)
        go (some i) e g =
            let low : i < 32767 = omega (arith, (find-get (first_ranked k names labels) l i e).0, first-length) in
            let same : i % 32768 ≡ i = omega arith in
            rw (same, ne_eqb i 32767 (λ q. omega arith)) (omega (arith, split_count l))

    -- it is escaped where an element is escaped in any table, or where it is a field behind those that have codes
    abbrev Splits : ℕ → ℕ → Type 0
    Splits n l = one (is_escaped (label_code (first_ranked k names labels) n l)) ≡ one (is_escaped (code_by names (zeros z) n l)) + count l rest

    escapes_one : (e n : ℕ) → e < length labels → Splits n (labels ! e)
    unfolding code_by
    escapes_one e n l = ⊎_elim name (λ h. ⊎_elim loader element h) (ok e l)
      where
        here : one (occurs labels (labels ! e)) ≡ 1
        here = ap one (occurs-at labels e l)

        field : is_element (labels ! e) ≡ false → count (labels ! e) (ranked names labels) ≡ 1 → Splits n (labels ! e)
        field f h = rw (f, zero-at z (table_place names (labels ! e))) (omega (arith, field_escapes (labels ! e) h))

        name : labels ! e < names → Splits n (labels ! e)
        name h = field (lt-leb array_element_label (labels ! e) (omega arith)) (name_once (labels ! e) h ∙ here)

        loader : labels ! e ≡ loader_label → Splits n (labels ! e)
        loader h = field (lt-leb array_element_label (labels ! e) (omega arith)) (ap (λ (l : ℕ). count l (ranked names labels)) h ∙ loader_once ∙ sym (ap (λ (l : ℕ). one (occurs labels l)) h) ∙ here)

        element : array_element_label ≤ labels ! e → Splits n (labels ! e)
        element h = rw (le-leb array_element_label (labels ! e) h) (omega (arith, split_count (labels ! e), other_none (labels ! e) (λ q. omega arith) (omega arith)))

    -- so it is of the labels of one object, and of all
    module _ (offsets : List ℕ) (laid : LaidOut offsets (length labels)) where
      escapes_tab : (g : ℕ → ℕ) (n : ℕ) → escapes_in (tab g n) ≡ total (λ i. one (is_escaped (g i))) n
      unfolding escapes_in
      escapes_tab g n = sum-tab (λ c. one (is_escaped c)) g n

      object : (o : ℕ) → suc o < length offsets
          → escapes_in (codes_of (first_ranked k names labels) (own offsets labels o)) ≡ escapes_in (codes_by names (zeros z) (own offsets labels o)) + sum (λ l. count l rest) (own offsets labels o)
      unfolding codes_of codes_by
      object o h =
          let ls : List ℕ = own offsets labels o in
          let in-labels = laid_within laid o h in
          let size : length ls ≡ offsets ! suc o - offsets ! o = part_length_lem labels (offsets ! o) (offsets ! suc o) in-labels.1 in
          escapes_tab (λ i. label_code (first_ranked k names labels) (expected ls i) (ls ! i)) (length ls)
          ∙ total_ext _ _ (length ls)
          (λ i l. subst (Splits (expected ls i)) (sym (part_at labels (offsets ! o) (offsets ! suc o) i (omega arith))) (escapes_one (offsets ! o + i) (expected ls i) (omega arith)))
          ∙ total-add (λ i. one (is_escaped (code_in names (zeros z) ls i))) (λ i. count (ls ! i) rest) (length ls)
          ∙ ap₂ ◌+◌ (sym (escapes_tab (code_in names (zeros z) ls) (length ls))) (sym (sum-places (λ l. count l rest) ls))

      objects : (m : ℕ) → m < length offsets
          → escapes_in (codes_for (first_ranked k names labels) offsets labels m) ≡ escapes_in (all_by names (zeros z) offsets labels m) + sum (λ l. count l rest) (take (offsets ! m) labels)
      unfolding codes_for all_by escapes_in
      objects zero h = rw laid.starts
      objects (suc m) h =
          let in-labels = laid_within laid m h in
          let step : offsets ! m + (offsets ! suc m - offsets ! m) ≡ offsets ! suc m = omega arith in
          let more : take (offsets ! suc m) labels ≡ take (offsets ! m) labels ++ own offsets labels m = ap (λ (n : ℕ). take n labels) (sym step) ∙ take-add (offsets ! m) (offsets ! suc m - offsets ! m) labels in
          rw more
          (omega (
            arith,
            objects m (omega arith),
            object m h,
            sum-append (λ l. count l rest) (take (offsets ! m) labels) (own offsets labels m),
            escapes_append (codes_for (first_ranked k names labels) offsets labels m) (codes_of (first_ranked k names labels) (own offsets labels m)),
            escapes_append (all_by names (zeros z) offsets labels m) (codes_by names (zeros z) (own offsets labels m)),
          ))

      pub escapes_split : length (coded (first_ranked k names labels) offsets labels (length offsets - 1)).escape_at ≡ escapes_in (all_by names (zeros z) offsets labels (length offsets - 1)) + sum uses rest
      unfolding coded escaped_to
      escapes_split =
          sym (escapes_places (codes_for (first_ranked k names labels) offsets labels (length offsets - 1)))
          ∙ objects (length offsets - 1) (omega (arith, laid.some))
          ∙ ap (λ (n : ℕ). escapes_in (all_by names (zeros z) offsets labels (length offsets - 1)) + n)
          (ap (λ (n : ℕ). sum (λ l. count l rest) (take n labels)) laid.ends ∙ ap (sum (λ l. count l rest)) (take-length labels) ∙ count_swap labels rest)

-- one layer more, and how many labels it has at most
pub layers_more : (k names : ℕ) (table : List ℕ) (t : ℕ) {rows n : ℕ} → rows ≡ layers k names table t → n ≡ used_more names table t → rows + (n - k) ≡ layers k names table (t + 1)
layers_more k names table t e f = rw (add-one t) (ap₂ ◌+◌ e (ap (λ (n : ℕ). n - k) f))

pub layer_few : (names : ℕ) (table : List ℕ) (t : ℕ) → used_more names table t ≤ names + 1
unfolding used_more
layer_few names table t = places_within (is_more table t) (names + 1)

pub not_last : (names : ℕ) (table : List ℕ) (t : ℕ) {n : ℕ} → n ≡ used_more names table t → 32767 < n → t ≤ 65534 → used_more names table 65534 ≤ 32767 → t < 65534
not_last names table t e h l last =
    ⊎_elim (λ g. g) (λ g. let q : t ≡ 65534 = omega arith in absurd (omega (arith, e, ap (used_more names table) q))) (lt_or_ge t 65534)

-- The steps of `slow_escapes`: a table of zeros, the elements' escapes by it, the uses counted in it, and their layers.
module _ (names : ℕ) (offsets labels t₀ : List ℕ) (room : Room names t₀) (laid : LaidOut offsets (length labels)) (ok : KnownLabels names labels) (short : length labels ≤ 268435456) {z t : List ℕ} (cleared_is : z ≡ cleared 0 t₀) (counted : t ≡ capped names z labels) where
  zeros_are : z ≡ zeros (length t₀)
  zeros_are = zeroed t₀ cleared_is

  at : (i : ℕ) → i ≤ names → t ! i ≡ min 65535 (count (table_label names i) labels)
  at i l = ap (λ (d : List ℕ). d ! i) (counted ∙ ap (λ (d : List ℕ). capped names d labels) zeros_are) ∙ capped-count names i room.few l (length t₀) labels (omega (arith, room.long))

  same : length t ≡ length t₀
  same = ap length counted ∙ fold-length (cap names) (cap-length names) z labels ∙ ap length zeros_are ∙ length-replicate {A = ℕ} (length t₀) 0

  pub uses_room : Room names t
  uses_room = record { few = room.few; long = omega (arith, same, room.long) }

  pub table-left : cleared 0 t ≡ zeros (length t₀)
  table-left = cleared_all t ∙ ap zeros same

  pub uses_few : used_more names t 65534 ≤ 32767
  uses_few = few_capped names labels room.few t at short

  module _ {a : ℕ} (elements : a ≡ escapes_in (all_by names z offsets labels (length offsets - 1))) where
    pub elements_few : a ≤ 268435456
    elements_few =
        omega (arith, elements, escapes_few (all_by names z offsets labels (length offsets - 1)), all_length names z offsets labels laid (length offsets - 1) (omega (arith, laid.some)), laid.ends)

    pub escapes_sum : {b : ℕ} (k last : ℕ) → k ≤ 32767 → last ≤ 65534 → used_more names t last ≤ k → b ≡ layers k names t last
        → a + b ≡ length (coded (first_ranked k names labels) offsets labels (length offsets - 1)).escape_at
    escapes_sum k last codes low ends rows =
        ap₂ ◌+◌ (elements ∙ ap (λ (d : List ℕ). escapes_in (all_by names d offsets labels (length offsets - 1))) zeros_are)
        (rows ∙ layers-behind names labels room.few t at k last low ends)
        ∙ sym (escapes_split names labels room.few k codes ok (length t₀) offsets laid)
