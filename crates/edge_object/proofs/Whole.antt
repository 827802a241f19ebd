-- The four parts of an object, appended one after the other, are the object. Assumes nothing.
use Prim.Native.Nat.{ℕ, ◌+◌, ◌-◌, ◌≤◌}
use native.Mathlib.Omega.{arith}
use mathlib.Core.Path.{◌≡◌, ap, ◌∙◌}
use mathlib.Core.List.{List, ◌++◌, map}
use lib.ListN.{length, replicate}
use lib.Dec.{leb}
use lib.Seq.{length-sets}
use Rattle.columns.specs.Lists.{sort}
use Rattle.edge_append.specs.Append.{edges_among, weak_among, edge_target, edge_label, EdgeRoom, Appended}
use Rattle.edge_append.specs.Account.{row, Grows, AccountIn, account_after, account_with}
use Rattle.edge_append.specs.Object.{RefParts, together, PairsSettled, ObjectReady, Done}
use Rattle.edge_append.specs.declared.Pass.{Pass}
use Rattle.edge_append.proofs.Appending.{appended_on, room_first, room_rest, same-weak}
use Rattle.edge_append.proofs.Pairs.{object_done}
use Rattle.edge_append.proofs.Tallies.{rows_four, appended_grows, row_as}

pub settled_as : {n o from to : ℕ} {fs ws fs' ws' : List ℕ} → n ≡ o → PairsSettled n from to fs ws fs' ws' → PairsSettled o from to fs ws fs' ws'
settled_as e b = rw (← e) b

pub settled-objects : {o from to : ℕ} {fs ws fs' ws' : List ℕ} → PairsSettled o from to fs ws fs' ws' → length fs' ≡ length fs
settled-objects {o} {from} {to} {fs} b = ap length b.objects ∙ length-sets fs from (replicate (to - from) o)

pub room_slots : {ids : List ℕ} {p : RefParts} {s : Pass} {nt nl nf nw : ℕ} {a : List (List ℕ)} → ObjectReady ids p s nt nl nf nw a → EdgeRoom ids p.slots s nt nl nw
unfolding together
room_slots {p = p} r = room_first (p.elements ++ (p.statics ++ p.loaders)) r.room

module _
    {ids : List ℕ} {p : RefParts} {s s1 : Pass} {ts ls ws ts1 ls1 ws1 : List ℕ} {nf : ℕ} {a : List (List ℕ)} (r : ObjectReady ids p s (length ts) (length ls) nf (length ws) a)
    (a1 : Appended ids p.slots s s1 ts ls ws ts1 ls1 ws1)
  where
    pub room_elements : EdgeRoom ids p.elements s1 (length ts1) (length ls1) (length ws1)
    unfolding together
    room_elements = room_first (p.statics ++ p.loaders) (room_rest a1 r.room)

    module _ {s2 : Pass} {ts2 ls2 ws2 : List ℕ} (a2 : Appended ids p.elements s1 s2 ts1 ls1 ws1 ts2 ls2 ws2) where
      pub room_statics : EdgeRoom ids p.statics s2 (length ts2) (length ls2) (length ws2)
      unfolding together
      room_statics = room_first p.loaders (room_rest a2 (room_rest a1 r.room))

      module _ {s3 : Pass} {ts3 ls3 ws3 : List ℕ} (a3 : Appended ids p.statics s2 s3 ts2 ls2 ws2 ts3 ls3 ws3) where
        pub room_loaders : EdgeRoom ids p.loaders s3 (length ts3) (length ls3) (length ws3)
        unfolding together
        room_loaders = room_rest a3 (room_rest a2 (room_rest a1 r.room))

        module _ {s4 : Pass} {ts4 ls4 ws4 : List ℕ} (a4 : Appended ids p.loaders s3 s4 ts3 ls3 ws3 ts4 ls4 ws4) where
          pub all_appended : Appended ids (together p) s s4 ts ls ws ts4 ls4 ws4
          unfolding together
          all_appended = appended_on a1 (appended_on a2 (appended_on a3 a4))

          pub all_grow : AccountIn a s × Grows s s1 × Grows s1 s2 × Grows s2 s3 × Grows s3 s4
          all_grow = (r.account, appended_grows a1, appended_grows a2, appended_grows a3, appended_grows a4)

          pub settle_room : (s.weak ≤ s4.weak) × (s4.weak ≤ nf) × (s4.weak ≤ length ws4)
          settle_room =
              let n = all_appended.next_weak in
              (omega (arith, n), omega (arith, n, r.objects), omega (arith, n, r.room.weaks, same-weak all_appended))

          pub all_done : {o : ℕ} {fs fs' ws' : List ℕ} {a' : List (List ℕ)} → a' ≡ account_after a s s1 s2 s3 s4 → PairsSettled o s.weak s4.weak fs ws4 fs' ws'
              → Done ids p o s s4 ts ls fs ws a ts4 ls4 fs' ws' a'
          unfolding account_after account_with
          all_done e b = record {
            object = object_done all_appended b r.room.weaks;
            account = e ∙ rows_four (row_as a1 (row a 0)) (row_as a2 (row a 1)) (row_as a3 (row a 2)) (row_as a4 (row a 3));
          }

          pub settled-weak : {o : ℕ} {fs fs' ws' : List ℕ} → PairsSettled o s.weak s4.weak fs ws4 fs' ws' → length ws' ≡ length ws
          settled-weak b =
              let d = object_done all_appended b r.room.weaks in
              ap length d.weaks ∙ length-sets ws s.weak (sort leb (weak_among ids (together p)))

-- The columns keep their lengths.
module _
    {ids : List ℕ} {p : RefParts} {o : ℕ} {s q : Pass} {ts ls fs ws : List ℕ} {a : List (List ℕ)} {ts' ls' fs' ws' : List ℕ} {a' : List (List ℕ)}
    (d : Done ids p o s q ts ls fs ws a ts' ls' fs' ws' a')
  where
    pub done-targets : length ts' ≡ length ts
    done-targets = ap length d.object.targets ∙ length-sets ts s.edges (map edge_target (edges_among ids (together p)))

    pub done-labels : length ls' ≡ length ls
    done-labels = ap length d.object.labels ∙ length-sets ls s.edges (map edge_label (edges_among ids (together p)))

    pub done-objects : length fs' ≡ length fs
    done-objects = ap length d.object.objects ∙ length-sets fs s.weak (replicate (length (weak_among ids (together p))) o)

    pub done-weak : length ws' ≡ length ws
    done-weak = ap length d.object.weaks ∙ length-sets ws s.weak (sort leb (weak_among ids (together p)))
