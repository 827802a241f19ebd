-- Reading an object's edges in order, and writing those that have room. Assumes nothing.
use Prim.Native.Nat.{ℕ, ◌+◌, ◌-◌, ◌≤◌, ◌<◌, min}
use native.Mathlib.Omega.{arith}
use mathlib.Core.Path.{◌≡◌, refl, sym, ap, ◌∙◌}
use mathlib.Core.Bool.{Bool, true, false, cond}
use mathlib.Core.List.{List, [], ◌∷◌}
use lib.Dec.{eqb, leb}
use lib.ListN.{length, set}
use Rattle.columns.specs.Lists.{◌!◌, tab, part, any_of}
use Rattle.columns.proofs.First.{Searching, searching_start, searching_more, searching_hit, searching_end}
use Rattle.columns.proofs.Written.{Written, written_none, written_tab}
use Rattle.rules.specs.Labels.{Coded, after}
use Rattle.labels.specs.Reading.{step_back, next_back, walk_back}
use Rattle.labels.proofs.Walk.{next_more, walk_ends}
use Rattle.ask_edges.specs.Read.{step_at, with_label, edge_back}
use Rattle.ask_edges.specs.Object.{unread, target_met, label_met, OwnRead}
use Rattle.ask_edges.proofs.InOrder.{stands_edge}

-- an edge that is read has an object for its target, and a label
pub met : (b : Bool) (x : ℕ) (ls : List ℕ) {t l : ℕ} → t ∷ l ∷ [] ≡ cond b [] (with_label x ls) → (b ≡ false) × (t ≡ x) × (ls ≡ l ∷ [])
met true x ls e = absurd (omega (arith, ap length e))
met false x [] e = absurd (omega (arith, ap length e))
met false x (a ∷ ls) e = (refl, (cc), (cc))

pub unmet : (b : Bool) (x : ℕ) (ls : List ℕ) → [] ≡ cond b [] (with_label x ls) → any_of (b ∷ eqb (length ls) 0 ∷ []) ≡ true
unfolding any_of
unmet true x ls e = refl
unmet false x [] e = refl
unmet false x (a ∷ ls) e = absurd (omega (arith, ap length e))

-- k of n edges have been read, and those that have room are written
pub record Reading (objects : ℕ) (ts : List ℕ) (d : Coded) (e n room : ℕ) (t₀ l₀ : List ℕ) (next k : ℕ) (t l : List ℕ) : Type 0 where
  pub searching : Searching (unread objects ts d e) n k
  pub expects : next_back d e k ≡ next ∷ []
  pub targets : Written (tab (target_met ts e) (min k room)) t₀ t (min k room)
  pub labels : Written (tab (label_met d e) (min k room)) l₀ l (min k room)

-- What stands at position k of the parts from e up to z, read: its target, where that is an object, and its label.
module _ (objects : ℕ) (ts : List ℕ) (d : Coded) (e z next k : ℕ) (m : k < z - e) (targeted : z ≤ length ts) (coded : z ≤ length d.codes) where
  abbrev read : List ℕ
  read = edge_back objects d.fields d.escape_at d.escape_label (e + k) next (step_at (part ts e z) (part d.codes e z) k)

  pub edge-said : read ≡ cond (leb objects (ts ! (e + k))) [] (with_label (ts ! (e + k)) (step_back d e k next))
  unfolding edge_back
  edge-said = rw (stands_edge ts d.codes e z k targeted coded m)

module _ (objects : ℕ) (ts : List ℕ) (d : Coded) (e n room : ℕ) where
  pub reading_start : (t l : List ℕ) → Reading objects ts d e n room t l 0 0 t l
  unfolding next_back tab
  reading_start t l =
      let none : min 0 room ≡ 0 = omega arith in
      record { searching = searching_start _ _; expects = refl; targets = rw none (written_none t); labels = rw none (written_none l) }

  module _ {t₀ l₀ t l : List ℕ} {next k : ℕ} (w : Reading objects ts d e n room t₀ l₀ next k t l) (m : k < n) where
    walked : walk_back d e k ≡ step_back d e k next
    walked = sym (walk_ends d e k next w.expects)

    -- the next edge can be read, and is written where it has room
    module _ {lv : ℕ} (object : leb objects (ts ! (e + k)) ≡ false) (label : step_back d e k next ≡ lv ∷ []) where
      goes_on : Searching (unread objects ts d e) n (k + 1)
      unfolding unread any_of
      goes_on = searching_more _ _ w.searching m (rw (object, walked, label))

      expects_next : next_back d e (k + 1) ≡ after next lv ∷ []
      expects_next = next_more d e k next lv w.expects label

      pub reading_more : {tv : ℕ} → tv ≡ ts ! (e + k) → k < room → room ≤ length t₀ → room ≤ length l₀
          → Reading objects ts d e n room t₀ l₀ (after next lv) (k + 1) (set t k tv) (set l k lv)
      reading_more {tv} is r p q =
          let now : min k room ≡ k = omega arith in
          let then : min (k + 1) room ≡ k + 1 = omega arith in
          let label_is : lv ≡ label_met d e k = sym (ap (λ (ls : List ℕ). ls ! 0) (walked ∙ label)) in
          record {
            searching = goes_on;
            expects = expects_next;
            targets = rw then (written_tab (target_met ts e) k tv (rw now at w.targets) (omega arith) is);
            labels = rw then (written_tab (label_met d e) k lv (rw now at w.labels) (omega arith) label_is);
          }

      pub reading_past : room ≤ k → Reading objects ts d e n room t₀ l₀ (after next lv) (k + 1) t l
      reading_past r =
          let same : min (k + 1) room ≡ min k room = omega arith in
          record { searching = goes_on; expects = expects_next; targets = rw same w.targets; labels = rw same w.labels }

    -- the next edge cannot be read
    pub reading_stops : any_of (leb objects (ts ! (e + k)) ∷ eqb (length (step_back d e k next)) 0 ∷ []) ≡ true → OwnRead objects ts d e n room k t₀ l₀ t l
    unfolding unread
    reading_stops bad = record {
      read = searching_hit _ _ w.searching m (rw walked bad);
      targets = w.targets.holds;
      labels = w.labels.holds;
    }

  pub reading_ends : {t₀ l₀ t l : List ℕ} {next k : ℕ} → Reading objects ts d e n room t₀ l₀ next k t l → k ≡ n → OwnRead objects ts d e n room n t₀ l₀ t l
  reading_ends {t₀} {l₀} {t} {l} {next} {k} w q =
      let all : OwnRead objects ts d e n room k t₀ l₀ t l = record { read = searching_end _ _ w.searching (omega (arith, q)); targets = w.targets.holds; labels = w.labels.holds } in
      rw q at all
