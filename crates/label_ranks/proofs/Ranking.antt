-- Sorting the keys is the ranking: more used first, ties by smaller label. Assumes nothing.
use Prim.Native.Nat.{ℕ, zero, suc, ◌+◌, ◌≤◌, ◌<◌, min}
use native.Mathlib.Omega.{arith}
use mathlib.Core.Path.{◌≡◌, refl, sym, ap, ap₂, ◌∙◌}
use mathlib.Core.Logic.{⊎_elim}
use mathlib.Core.Bool.{Bool, true, false, cond}
use mathlib.Core.List.{List, [], ◌∷◌, ◌++◌, map, map-append}
use mathlib.Core.Option.{Option, none, some}
use lib.Dec.{eqb, leb, ltb}
use lib.ListN.{length, take}
use lib.Seq.{take-length, take_all}
use borrow.Author.Tests.{le-leb, lt-leb, lt-ltb, eq-eqb, ne_eqb}
use Rattle.columns.specs.Lists.{◌!◌, places, find, next, found, one, count, insert, sort}
use Rattle.columns.specs.Ranks.{Rises}
use Rattle.columns.proofs.Lists.{lt_or_ge}
use Rattle.columns.proofs.Parts.{places_ext}
use Rattle.columns.proofs.Every.{Every, every-at, every_index, every-sort}
use Rattle.columns.proofs.Sums.{one_few}
use Rattle.rules.specs.Types.{loader_label}
use Rattle.rules.specs.Labels.{occurring, ranked}
use Rattle.labels.specs.Fields.{table_label}
use Rattle.label_ranks.specs.Keys.{key_of, is_used, key_at, keys_of, key_label}
use Rattle.labels.proofs.Table.{label-places}
use Rattle.labels.proofs.Occurring.{occurring-rises, every-occurring}

-- a sort of images is the image of the sort by the images' order
module _ (f : ℕ → ℕ) where
  insert-map : (a : ℕ) (ys : List ℕ) → insert leb (f a) (map f ys) ≡ map f (insert (λ a b. leb (f a) (f b)) a ys)
  insert-map a [] = refl
  insert-map a (b ∷ ys) = go (leb (f a) (f b)) (insert-map a ys)
    where
      go : (t : Bool) → insert leb (f a) (map f ys) ≡ map f (insert (λ a b. leb (f a) (f b)) a ys)
          → cond t (f a ∷ f b ∷ map f ys) (f b ∷ insert leb (f a) (map f ys)) ≡ map f (cond t (a ∷ b ∷ ys) (b ∷ insert (λ a b. leb (f a) (f b)) a ys))
      go true h = refl
      go false h = ap (λ (z : List ℕ). f b ∷ z) h

  sort-map : (xs : List ℕ) → sort leb (map f xs) ≡ map f (sort (λ a b. leb (f a) (f b)) xs)
  sort-map [] = refl
  sort-map (a ∷ xs) = ap (insert leb (f a)) (sort-map xs) ∙ insert-map a (sort (λ a b. leb (f a) (f b)) xs)

-- of a list that rises, two orders that agree on rising pairs make one sort
module _ (le le' : ℕ → ℕ → Bool) (top : ℕ) (agree : (a b : ℕ) → a < b → b ≤ top → le a b ≡ le' a b) where
  insert_agree : (a : ℕ) (ys : List ℕ) → Every (λ b. (a < b) × (b ≤ top)) ys → insert le a ys ≡ insert le' a ys
  insert_agree a [] e = refl
  insert_agree a (b ∷ ys) e = rw (agree a b e.0.0 e.0.1, insert_agree a ys e.1)

  sort_agree : (xs : List ℕ) → Rises xs → ((i : ℕ) → i < length xs → xs ! i ≤ top) → sort le xs ≡ sort le' xs
  sort_agree [] rise low = refl
  sort_agree (a ∷ xs) rise low =
      ap (insert le a) (sort_agree xs (λ p q h l. rise (suc p) (suc q) (omega arith) (omega arith)) (λ i l. low (suc i) (omega arith)))
      ∙ insert_agree a (sort le' xs) (every-sort (λ b. (a < b) × (b ≤ top)) le' xs (every_index (λ b. (a < b) × (b ≤ top)) xs (λ i l. (rise 0 (suc i) (omega arith) (omega arith), low (suc i) (omega arith)))))

-- a smaller label comes first exactly where it is used at least as often
key_order : (m n a b : ℕ) → m ≤ 4294967295 → n ≤ 4294967295 → a < b → b ≤ loader_label → leb (key_of m a) (key_of n b) ≡ leb n m
key_order m n a b hm hn l h =
    ⊎_elim
    (λ g. rw (lt-leb n m g) (lt-leb (key_of m a) (key_of n b) (omega arith)))
    (λ g. rw (le-leb n m g) (le-leb (key_of m a) (key_of n b) (omega arith)))
    (lt_or_ge m n)

count_few : (l : ℕ) (ls : List ℕ) → count l ls ≤ length ls
count_few l [] = omega arith
count_few l (a ∷ ls) = omega (arith, one_few (eqb a l), count_few l ls)

-- a key gives its label back
labels-back : (f : ℕ → ℕ) (xs : List ℕ) → Every (λ l. key_label (f l) ≡ l) xs → map key_label (map f xs) ≡ xs
labels-back f [] e = refl
labels-back f (a ∷ xs) e = ap₂ ◌∷◌ e.0 (labels-back f xs e.1)

-- a label occurs where its count is not zero
used_found : (l : ℕ) (ls : List ℕ) → ltb 0 (count l ls) ≡ found (find ls l)
used_found l [] = refl
used_found l (a ∷ ls) = go (eqb a l) (find ls l) (used_found l ls)
  where
    go : (b : Bool) (f : Option ℕ) → ltb 0 (count l ls) ≡ found f → ltb 0 (one b + count l ls) ≡ found (cond b (some 0) (next f))
    go true f h = lt-ltb 0 (1 + count l ls) (omega arith)
    go false none h = let z : 0 + count l ls ≡ count l ls = omega arith in rw z h
    go false (some j) h = let z : 0 + count l ls ≡ count l ls = omega arith in rw z h

map-map : (f g : ℕ → ℕ) (xs : List ℕ) → map f (map g xs) ≡ map (λ a. f (g a)) xs
map-map f g [] = refl
map-map f g (a ∷ xs) = ap (λ (z : List ℕ). f (g a) ∷ z) (map-map f g xs)

map-places : (f g : ℕ → ℕ) (t : ℕ → Bool) (n : ℕ) → ((i : ℕ) → i < n → f i ≡ g i) → map f (places t n) ≡ map g (places t n)
unfolding places
map-places f g t zero h = refl
map-places f g t (suc n) h =
    map-append f (places t n) (cond (t n) (n ∷ []) [])
    ∙ ap₂ ◌++◌ (map-places f g t n (λ i l. h i (omega arith))) (last (t n))
    ∙ sym (map-append g (places t n) (cond (t n) (n ∷ []) []))
  where
    last : (b : Bool) → map f (cond b (n ∷ []) []) ≡ map g (cond b (n ∷ []) [])
    last true = ap (λ (z : ℕ). z ∷ []) (h n (omega arith))
    last false = refl

-- The keys of the uses are those of the labels that occur, and sorted they are those of the ranking.
module _ (names : ℕ) (labels : List ℕ) (few : names ≤ loader_label) (short : length labels ≤ 4294967295) where
  abbrev key_for : ℕ → ℕ
  key_for l = key_of (count l labels) l

  keys_are : (counts : List ℕ) → ((i : ℕ) → i ≤ names → counts ! i ≡ count (table_label names i) labels) → keys_of names counts ≡ map key_for (occurring names labels)
  unfolding keys_of occurring
  keys_are counts at =
      map-places (key_at names counts) (λ i. key_for (table_label names i)) (is_used counts) (names + 1) (λ i l. ap (λ (n : ℕ). key_of n (table_label names i)) (at i (omega arith)))
      ∙ sym (map-map key_for (table_label names) (places (is_used counts) (names + 1)))
      ∙ ap (map key_for) (label-places names (is_used counts) ∙ ap₂ ◌++◌ (places_ext (is_used counts) (λ l. found (find labels l)) names name) (ap (λ (b : Bool). cond b (loader_label ∷ []) []) last))
    where
      is : (i : ℕ) → i ≤ names → is_used counts i ≡ found (find labels (table_label names i))
      is i l = ap (ltb 0) (at i l) ∙ used_found (table_label names i) labels

      name : (i : ℕ) → i < names → is_used counts i ≡ found (find labels i)
      name i l = is i (omega arith) ∙ rw (ne_eqb i names (λ e. omega arith))

      last : is_used counts names ≡ found (find labels loader_label)
      last = is names (omega arith) ∙ rw (eq-eqb names names refl)

  sorted_keys : sort leb (map key_for (occurring names labels)) ≡ map key_for (ranked names labels)
  unfolding ranked
  sorted_keys =
      sort-map key_for (occurring names labels)
      ∙ ap (map key_for)
      (sort_agree (λ a b. leb (key_for a) (key_for b)) (λ a b. leb (count b labels) (count a labels)) loader_label
      (λ a b l h. key_order (count a labels) (count b labels) a b (omega (arith, count_few a labels)) (omega (arith, count_few b labels)) l h)
      (occurring names labels) (occurring-rises names labels few)
      (every-at (λ l. l ≤ loader_label) 0 (occurring names labels) (every-occurring names labels few (λ l. l ≤ loader_label) (omega arith) (λ l h. omega arith))))

  every-ranked : (P : ℕ → Type 0) → P loader_label → ((l : ℕ) → l < names → P l) → Every P (ranked names labels)
  unfolding ranked
  every-ranked P loader name = every-sort P _ (occurring names labels) (every-occurring names labels few P loader name)

  -- of the sorted keys, the labels
  pub ranked-keys : (counts : List ℕ) → ((i : ℕ) → i ≤ names → counts ! i ≡ count (table_label names i) labels) → map key_label (sort leb (keys_of names counts)) ≡ ranked names labels
  ranked-keys counts at =
      ap (λ (z : List ℕ). map key_label (sort leb z)) (keys_are counts at)
      ∙ ap (map key_label) sorted_keys
      ∙ labels-back key_for (ranked names labels) (every-ranked (λ l. key_label (key_for l) ≡ l) (back loader_label (omega arith)) (λ l h. back l (omega arith)))
    where
      back : (l : ℕ) → l ≤ loader_label → key_label (key_for l) ≡ l
      back l h = omega arith

pub take_min : (k : ℕ) (xs : List ℕ) → take (min k (length xs)) xs ≡ take k xs
take_min k xs =
    ⊎_elim
    (λ l. let e : min k (length xs) ≡ k = omega arith in rw e)
    (λ l. let e : min k (length xs) ≡ length xs = omega arith in rw (e, take-length xs, take_all k xs l))
    (lt_or_ge k (length xs))
