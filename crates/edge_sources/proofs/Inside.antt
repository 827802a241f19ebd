-- What a reader's ids give is appended one by one, until one does not stand inside. Assumes nothing.
use Prim.Native.Nat.{ℕ, ◌+◌, ◌*◌, ◌≤◌, ◌<◌}
use mathlib.Core.Path.{◌≡◌, refl, sym, ap, ◌∙◌}
use mathlib.Core.Bool.{Bool, true, false}
use mathlib.Core.List.{List, [], ◌∷◌}
use lib.ListN.{length}
use Rattle.columns.specs.Lists.{◌!◌, tab, leading}
use Rattle.rules.specs.Edges.{Ref}
use Rattle.edge_append.specs.Append.{EdgeRoom, Appended}
use Rattle.index.specs.Copied.{Ids}
use Rattle.rules.specs.Input.{copied_id}
use Rattle.edge_append.specs.Held.{slot_with, element_with, copied_slot, copied_element}
use Rattle.edge_append.specs.Raw.{bytes_id, slot_ends, slots_read, raw_slot, raw_element}
use Rattle.edge_append.specs.declared.Pass.{Pass}
use Rattle.edge_append.proofs.Appending.{tab_room, tab-end}
use Rattle.edge_append.proofs.Bytes.{leading_past, leading_stop, leading_all}
use Rattle.edge_sources.specs.Ids.{held_slot, held_element, read_of}

-- the reference at a place, by the id read there
pub slot-held : {id_at now : ℕ → ℕ} (labels weak : List ℕ) (keeps : Bool) (first k : ℕ) {id : ℕ} → now ≡ id_at → id ≡ now k → slot_with labels weak keeps (first + k) id ≡ held_slot id_at labels weak keeps first k
unfolding held_slot
slot-held labels weak keeps first k same e = ap (slot_with labels weak keeps (first + k)) (e ∙ ap (λ f. f k) same)

pub element-held : {id_at now : ℕ → ℕ} (k : ℕ) {id : ℕ} → now ≡ id_at → id ≡ now k → element_with k id ≡ held_element id_at k
unfolding held_element
element-held k same e = ap (element_with k) (e ∙ ap (λ f. f k) same)

-- what a test of the reader as it is now says of the reader as it was
pub told_inside : {inside now : ℕ → Bool} (k : ℕ) {b c : Bool} → now ≡ inside → b ≡ now k → b ≡ c → inside k ≡ c
told_inside k same e f = sym (ap (λ g. g k) same) ∙ sym e ∙ f

module _ (ref : ℕ → Ref) (inside : ℕ → Bool) {ids : List ℕ} {s q : Pass} {ts ls ws ts' ls' ws' : List ℕ} (k : ℕ) (all : leading inside k ≡ k) (a : Appended ids (tab ref k) s q ts ls ws ts' ls' ws') where
  pub held_room : {r : Ref} → r ≡ ref k → inside k ≡ true → (n : ℕ) → k < n → EdgeRoom ids (read_of ref inside n) s (length ts) (length ls) (length ws) → EdgeRoom ids (r ∷ []) q (length ts') (length ls') (length ws')
  unfolding read_of
  held_room e h n l m = tab_room ref k a e (leading inside n) (leading_past inside k all h n l) m

  pub held_stop : inside k ≡ false → (n : ℕ) → k ≤ n → Appended ids (read_of ref inside n) s q ts ls ws ts' ls' ws'
  unfolding read_of
  held_stop h n l = tab-end ref k (leading inside n) (sym (leading_stop inside k all h n l)) a

  pub held_end : (n : ℕ) → k ≡ n → Appended ids (read_of ref inside n) s q ts ls ws ts' ls' ws'
  unfolding read_of
  held_end n e = tab-end ref k (leading inside n) (sym all ∙ ap (leading inside) e) a

-- By each route these are the references of the rules: all of them by the copied route, and by the raw route those before the first that ends past the body.
module _ (c : Ids) (start : ℕ) where
  pub copied-read : (labels weak : List ℕ) (keeps : Bool) (first n : ℕ) → tab (copied_slot c start labels weak keeps first) n ≡ read_of (held_slot (λ k. copied_id c (start + k)) labels weak keeps first) (λ k. true) n
  unfolding read_of held_slot copied_slot
  copied-read labels weak keeps first n = ap (tab (copied_slot c start labels weak keeps first)) (sym (leading_all (λ k. true) (λ i. refl) n))

  pub copied-elements : (n : ℕ) → tab (copied_element c start) n ≡ read_of (held_element (λ k. copied_id c (start + k))) (λ k. true) n
  unfolding read_of held_element copied_element
  copied-elements n = ap (tab (copied_element c start)) (sym (leading_all (λ k. true) (λ i. refl) n))

module _ (bytes : List ℕ) (size start : ℕ) where
  pub raw-read : (body : ℕ) (offsets labels weak : List ℕ) (keeps : Bool) (first n : ℕ) → tab (raw_slot bytes size start offsets labels weak keeps first) (slots_read offsets size body first n)
      ≡ read_of (held_slot (λ k. bytes_id bytes size (start + offsets ! (first + k))) labels weak keeps first) (slot_ends offsets size body first) n
  unfolding read_of held_slot raw_slot slots_read
  raw-read body offsets labels weak keeps first n = refl

  pub raw-elements : (n : ℕ) → tab (raw_element bytes size start) n ≡ read_of (held_element (λ k. bytes_id bytes size (start + k * size))) (λ k. true) n
  unfolding read_of held_element raw_element
  raw-elements n = ap (tab (raw_element bytes size start)) (sym (leading_all (λ k. true) (λ i. refl) n))
