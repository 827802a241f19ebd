-- From what counting left, and the quick tests or a walk of every edge, to the lowest object that cannot be read. Assumes nothing.
use Prim.Native.Nat.{ℕ, zero, suc, ◌+◌, ◌-◌, ◌≤◌, ◌<◌}
use native.Mathlib.Nat.{sub_self}
use native.Mathlib.Omega.{arith}
use native.Mathlib.Decide.{dec_lt}
use mathlib.Core.Path.{◌≡◌, sym, ap, ap₂, ◌∙◌}
use mathlib.Core.Bool.{Bool, true, false, not, false≢true}
use mathlib.Core.List.{List}
use lib.ListN.{length, get_or}
use borrow.Author.Tests.{lt-leb, leb-true, leb-false}
use Rattle.columns.specs.Lists.{◌!◌, places, first_place, any}
use Rattle.columns.proofs.Lists.{first_none}
use Rattle.columns.proofs.Tests.{each_of, no_places}
use Rattle.rules.specs.Parts.{no_object}
use Rattle.rules.specs.Questions.{Columns, objects_in, offset_at}
use Rattle.rules.specs.Incoming.{Spanned}
use Rattle.rules.proofs.Incoming.{can_spanned}
use Rattle.inverse.specs.Inverse.{tallied, Tallied}
use Rattle.incoming_read.specs.Unread.{first_unread, span_reads, codes_plain}
use Rattle.incoming_read.proofs.Lowest.{unread_none, none_unread, good_spans}
use Rattle.incoming_read.proofs.Quick.{quick_reads, spans_end}
use Rattle.incoming_judge.specs.Judged.{Judged, Counted, no_doubt}

-- every place from the first object's offset up to the last one's end is of some object's edge
objects_between : (c : Columns) → Spanned c → (m : ℕ) → m ≤ objects_in c → (e : ℕ) → offset_at c 0 ≤ e → e < offset_at c m → c.targets ! e < objects_in c
objects_between c h zero l e a b = absurd (omega arith)
objects_between c h (suc m) l e a b = go (dec_lt e (offset_at c m)) (objects_between c h m (omega arith) e a)
  where
    go : Dec (e < offset_at c m) → (e < offset_at c m → c.targets ! e < objects_in c) → c.targets ! e < objects_in c
    go (yes p) ih = ih p
    go (no p) ih =
        let whole : offset_at c m + (e - offset_at c m) ≡ e = omega arith in
        rw whole at (h.objects m (e - offset_at c m) l (omega arith))

-- Of columns whose spans read.
module _ (c : Columns) {all-narrow : Bool} {a b : ℕ} (k : Counted c all-narrow a b) where
  abbrev n : ℕ
  n = objects_in c

  pub some_object : 0 < n
  some_object = omega (arith, k.some)

  pub ordered : a ≤ b
  ordered = omega (arith, k.start, k.end, (spans_end c k.good some_object).ordered)

  pub coded : b ≤ length c.labels.codes
  coded = omega (arith, k.end, (spans_end c k.good some_object).coded)

  pub targeted : b ≤ length c.targets
  targeted = omega (arith, k.end, (spans_end c k.good some_object).targeted)

  module _ {w₀ w : List ℕ} {stop : ℕ} (t : Tallied n c.targets a b w₀ stop w) where
    abbrev test : ℕ → Bool
    test i = no_object n c.targets (a + i)

    -- counting that stopped at the end counted the targets of all edges
    all_counted : stop ≡ b → w ≡ tallied c.targets (offset_at c 0) (offset_at c n - offset_at c 0) w₀
    all_counted e = t.counts ∙ ap₂ (λ (i j : ℕ). tallied c.targets i j w₀) k.start (ap₂ ◌-◌ (e ∙ k.end) k.start)

    -- none of them was no object
    none_met : b ≤ stop → (i : ℕ) → i < b - a → test i ≡ false
    none_met l i m = first_none test (b - a) i (omega (arith, t.place)) m

    ends_at : ((i : ℕ) → i < b - a → test i ≡ false) → stop ≡ b
    ends_at h =
        let none : first_place test (b - a) ≡ b - a = ap (λ (xs : List ℕ). get_or xs 0 (b - a)) (no_places test (b - a) h) in
        omega (arith, t.place, none, ordered)

    are_objects : b ≤ stop → (e : ℕ) → offset_at c 0 ≤ e → e < offset_at c n → c.targets ! e < n
    are_objects l e p q =
        let whole : a + (e - a) ≡ e = omega (arith, k.start) in
        rw whole at (leb-false n (c.targets ! (a + (e - a))) (none_met l (e - a) (omega (arith, k.start, k.end))))

    pub judged_quick : no_doubt all-narrow c.offsets.long_at c.offsets.long_value c.labels a b stop ≡ true → Judged c w₀ n w
    unfolding no_doubt
    judged_quick ok =
        let past : b ≤ stop = leb-true b stop (each_of _ ok 0) in
        let plain : codes_plain c.labels (offset_at c 0) (offset_at c n) ≡ true
        = ap₂ (codes_plain c.labels) (sym k.start) (sym k.end) ∙ each_of _ ok 3 in
        record {
          place = sym (none_unread c (quick_reads c (each_of _ ok 2) k.good (sym k.narrow ∙ each_of _ ok 1) plain (are_objects past)));
          counts = λ e. all_counted (ends_at (none_met past));
        }

    pub judged_walk : {r : ℕ} → r ≡ first_unread c → Judged c w₀ r w
    judged_walk {r} e = record { place = e; counts = λ q. all_counted (ends_at (all_objects (can_spanned c (unread_none c (sym e ∙ q))))) }
      where
        all_objects : Spanned c → (i : ℕ) → i < b - a → test i ≡ false
        all_objects h i l = lt-leb n (c.targets ! (a + i)) (objects_between c h n (omega arith) (a + i) (omega (arith, k.start)) (omega (arith, k.end)))

-- Of columns of which a span does not read: where each object could be read, all spans would.
pub judged_spans : (c : Columns) (w : List ℕ) {r : ℕ}
    → not (any (λ o. not (span_reads c.offsets (length c.labels.codes) (length c.targets) o)) (objects_in c)) ≡ false → r ≡ first_unread c → Judged c w r w
judged_spans c w {r} bad e = record { place = e; counts = λ q. absurd (false≢true (sym bad ∙ good_spans c (unread_none c (sym e ∙ q)))) }

-- Of columns without an object.
pub judged_none : (c : Columns) (w : List ℕ) → objects_in c ≡ 0 → Judged c w 0 w
unfolding tallied places
judged_none c w e = record { place = rw e; counts = λ q. rw (e, sub_self (offset_at c 0)) }
