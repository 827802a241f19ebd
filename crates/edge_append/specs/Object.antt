-- What one object leaves: its edges, its weak targets sorted beside its number, its missing ids. Assumes nothing.
use Rattle.std.specs.Prelude.{ℕ, zero, suc, ◌+◌, ◌≤◌, ◌≡◌, List, [], ◌∷◌, ◌++◌, map, leb, length, replicate}
use Rattle.std.proofs.lemmas.List.Edits.{sets}
use Rattle.columns.specs.Lists.{◌!◌, sort}
use Rattle.index.specs.Copied.{Ids}
use Rattle.rules.specs.declared.ReferencePolicy.{ReferencePolicy}
use Rattle.rules.specs.Input.{Input, Copied, Raw}
use Rattle.rules.specs.Edges.{Ref}
use Rattle.edge_append.specs.Append.{edges_among, weak_among, missing_among, edge_target, edge_label, EdgeRoom}
use Rattle.edge_append.specs.Held.{copied_slots, copied_elements, statics_at, loader_at}
use Rattle.edge_append.specs.Raw.{raw_slots, raw_elements}
use Rattle.edge_append.specs.Account.{AccountIn, account_with}
use Rattle.edge_append.specs.declared.Pass.{Pass}
-- a run of the weak columns
pub use Rattle.edge_weak.specs.Weak.{PairsSettled}

-- The references of one object in their four parts, and in order.
pub record RefParts : Type 0 where
  pub slots : List Ref
  pub elements : List Ref
  pub statics : List Ref
  pub loaders : List Ref

unfoldable pub together : RefParts → List Ref
together p = p.slots ++ (p.elements ++ (p.statics ++ p.loaders))

-- By the copied route: ids from `start` on, an object of a kind, a class and a length, and the mark of the class that is found at it.
unfoldable pub copied_parts : Ids → ℕ → List ℕ → List ℕ → List ℕ → List ℕ → List ℕ → ReferencePolicy → ℕ → ℕ → ℕ → List ℕ → List ℕ → List ℕ
    → List ℕ → List ℕ → List ℕ → ℕ → RefParts
copied_parts c start kinds starts ends labels weak policy kind class count loaders firsts lasts names types values mark = record {
  slots = copied_slots c start kinds starts ends labels weak policy kind class;
  elements = copied_elements c start kind count;
  statics = statics_at firsts lasts names types values mark;
  loaders = loader_at loaders mark;
}

-- By the raw route: a body of `body` bytes from `start` on.
unfoldable pub raw_parts : List ℕ → ℕ → ℕ → ℕ → List ℕ → List ℕ → List ℕ → List ℕ → List ℕ → List ℕ → ReferencePolicy → ℕ → ℕ → ℕ
    → List ℕ → List ℕ → List ℕ → List ℕ → List ℕ → List ℕ → ℕ → RefParts
raw_parts bytes size start body kinds starts ends offsets labels weak policy kind class count loaders firsts lasts names types values mark = record {
  slots = raw_slots bytes size start body kinds starts ends offsets labels weak policy kind class;
  elements = raw_elements bytes size start kind count;
  statics = statics_at firsts lasts names types values mark;
  loaders = loader_at loaders mark;
}

-- The classes that a mark tells of: the class and one, 0 for none.
abbrev pub mark_classes : ℕ → List ℕ
mark_classes zero = []
mark_classes (suc c) = c ∷ []

-- The parts of object o of an input, by the copied route.
unfoldable pub copied_parts_of : Input → Copied → ℕ → ℕ → RefParts
copied_parts_of x c o mark =
    let k = x.schema.classes in
    let t = x.schema.statics in
    copied_parts c.ids (c.starts ! o) k.kinds k.slot_start k.slot_end x.schema.slots.labels x.schema.slots.weak x.policy
    (x.objects.kinds ! o) (x.objects.classes ! o) (x.objects.lengths ! o) k.loaders k.static_start k.static_end t.names t.types t.values mark

-- by the raw route
unfoldable pub raw_parts_of : Input → Raw → ℕ → ℕ → RefParts
raw_parts_of x r o mark =
    let k = x.schema.classes in
    let t = x.schema.statics in
    raw_parts r.bytes r.size (r.starts ! o) (r.lengths ! o) k.kinds k.slot_start k.slot_end x.schema.slots.offsets x.schema.slots.labels
    x.schema.slots.weak x.policy (x.objects.kinds ! o) (x.objects.classes ! o) (x.objects.lengths ! o) k.loaders k.static_start k.static_end
    t.names t.types t.values mark

-- The references of object o appended, and its weak pairs in their place: "weak pairs sort by object, then target, repeats kept".
pub record Object (ids : List ℕ) (rs : List Ref) (o : ℕ) (s q : Pass) (ts ls fs ws ts' ls' fs' ws' : List ℕ) : Type 0 where
  pub targets : ts' ≡ sets ts s.edges (map edge_target (edges_among ids rs))
  pub labels : ls' ≡ sets ls s.edges (map edge_label (edges_among ids rs))
  pub objects : fs' ≡ sets fs s.weak (replicate (length (weak_among ids rs)) o)
  pub weaks : ws' ≡ sets ws s.weak (sort leb (weak_among ids rs))
  pub next : q.edges ≡ s.edges + length (edges_among ids rs)
  pub next_weak : q.weak ≡ s.weak + length (weak_among ids rs)
  pub lost : q.missing ≡ s.missing + missing_among ids rs

-- There is room for the parts of one object: in columns of nt targets, nl labels, nf and nw weak pairs.
pub record ObjectReady (ids : List ℕ) (p : RefParts) (s : Pass) (nt nl nf nw : ℕ) (a : List (List ℕ)) : Type 0 where
  pub room : EdgeRoom ids (together p) s nt nl nw
  pub objects : s.weak + length (weak_among ids (together p)) ≤ nf
  pub account : AccountIn a s

-- What the parts of object o leave in the columns and in the account.
pub record Done (ids : List ℕ) (p : RefParts) (o : ℕ) (s q : Pass) (ts ls fs ws : List ℕ) (a : List (List ℕ)) (ts' ls' fs' ws' : List ℕ) (a' : List (List ℕ)) : Type 0 where
  pub object : Object ids (together p) o s q ts ls fs ws ts' ls' fs' ws'
  pub account : a' ≡ account_with ids a p.slots p.elements p.statics p.loaders
