-- "Worked dump, to be proved" of document 01: cases (a) to (n) as one table, with rows for the slips to expect and for boundaries. Assumes nothing.
use Rattle.std.specs.Prelude.{ℕ, zero, suc, ◌+◌, ◌*◌, ◌/◌, ◌%◌, Bool, true, false, cond, ◌&&◌, List, [], ◌∷◌, ◌++◌, map, eqb, length}
use Prim.Native.String.{String}
use Rattle.columns.specs.Lists.{tab, total, flat, one, sort}
use Rattle.store.specs.Blocked.{blocked, read_back}
use Rattle.index.specs.Copied.{copied_of, code_of}
use Rattle.rules.specs.declared.ReferencePolicy.{ReferencePolicy}
use Rattle.rules.specs.Types.{loader_label, array_element_label, keeps}
use Rattle.rules.specs.Input.{Input, Route, object_count}
use Rattle.rules.specs.Edges.{Edge, Pair, pair_le, graph}
use Rattle.rules.specs.Places.{place_count}
use Rattle.rules.specs.Labels.{coded, code_table, exact_label, ranked}
use Rattle.rules.specs.Account.{account}
use Rattle.rules.specs.Demand.{held, lost}
use Rattle.rules.specs.Needs.{Lent, Rooms, need_places, need_weak, need_roots, need_offsets, need_bases, need_long, need_fields, need_table, need_escapes}
use Rattle.rules.specs.Needs.{need_codes}
use Rattle.rules.specs.Verdict.{build_says}
use Rattle.rules.specs.Parts.{parts_faults}
use Rattle.rules.specs.Built.{build_left}
use Rattle.rules.specs.Questions.{Columns, columns_of, edges_read, weak_read, reads_back, span, edge_count, exact_of, coarse_of, label_of, field, referent, weak_referents, EdgesLeft, object_edges}
use Rattle.rules.specs.Incoming.{edge_targets, Incoming, incoming_of, in_offsets, InRooms, InLeft, invert_says, invert_left, used_incoming}
use Rattle.rules.specs.Each.{EachLeft, each_left}
use Rattle.rules.specs.Policies.{reached}

-- A check: its case, what is computed and what the document says.
pub record Check : Type 0 where
  pub name : String
  pub computed : List ℕ
  pub says : List ℕ

abbrev same : List ℕ → List ℕ → Bool
same [] [] = true
same [] (b ∷ ys) = false
same (a ∷ xs) [] = false
same (a ∷ xs) (b ∷ ys) = eqb a b && same xs ys

-- the cases that come out otherwise than the document says
abbrev pub wrong : List Check → List String
wrong [] = []
wrong (c ∷ cs) = cond (same c.computed c.says) [] (c.name ∷ []) ++ wrong cs

abbrev case : String → List ℕ → List ℕ → List Check
case n a b = record { name = n; computed = a; says = b } ∷ []

-- "Names 3. Class 0: slot (0, label 0). Class 1: kind weak, slot (0, label 1, weak). Class 2: dumped, id 4096, loader 512, object static name 2 value 256.
-- Objects: 256 class 0 holding 264; 264 class 1 holding 256; 512 array of 0, 256, 9999; 4096 class." The loader and the static's value are given.
abbrev dump_with : ℕ → ℕ → Route → ReferencePolicy → Input
dump_with loader value route policy = record {
  objects = record { ids = 256 ∷ 264 ∷ 512 ∷ 4096 ∷ []; kinds = 0 ∷ 0 ∷ 1 ∷ 3 ∷ []; classes = 0 ∷ 1 ∷ 0 ∷ 0 ∷ []; lengths = 0 ∷ 0 ∷ 3 ∷ 0 ∷ [] };
  schema = record {
    classes = record {
      ids = 0 ∷ 0 ∷ 4096 ∷ [];
      loaders = 0 ∷ 0 ∷ loader ∷ [];
      dumped = 0 ∷ 0 ∷ 1 ∷ [];
      kinds = 0 ∷ 2 ∷ 0 ∷ [];
      slot_start = 0 ∷ 1 ∷ 2 ∷ [];
      slot_end = 1 ∷ 2 ∷ 2 ∷ [];
      static_start = 0 ∷ 0 ∷ 0 ∷ [];
      static_end = 0 ∷ 0 ∷ 1 ∷ [];
    };
    slots = record { offsets = 0 ∷ 0 ∷ []; labels = 0 ∷ 1 ∷ []; weak = 0 ∷ 1 ∷ [] };
    statics = record { names = 2 ∷ []; types = 2 ∷ []; values = value ∷ [] };
    names = 3;
  };
  roots = 3 ∷ 0 ∷ 3 ∷ [];
  route = route;
  policy = policy;
}

abbrev dump : Route → ReferencePolicy → Input
dump route policy = dump_with 512 256 route policy

-- the ids that its objects hold, in order, by each route
abbrev held_ids : List ℕ
held_ids = 264 ∷ 256 ∷ 0 ∷ 256 ∷ 9999 ∷ []

abbrev by_copied : Route
by_copied = Route.copied (record { ids = copied_of 256 held_ids; starts = 0 ∷ 1 ∷ 2 ∷ 0 ∷ [] })

abbrev bytes_of : ℕ → ℕ → List ℕ
bytes_of zero v = []
bytes_of (suc n) v = bytes_of n (v / 256) ++ (v % 256 ∷ [])

-- `second` is the length of the second object's body
abbrev raw_with : ℕ → ℕ → Route
raw_with second n = Route.raw (record { bytes = flat (bytes_of n) held_ids; size = n; starts = 0 ∷ n ∷ (2 * n) ∷ 0 ∷ []; lengths = n ∷ second ∷ (3 * n) ∷ 0 ∷ [] })

abbrev by_raw : ℕ → Route
by_raw n = raw_with n n

abbrev neither : ReferencePolicy
neither = record { soft = false; weak = false }

abbrev keep_soft : ReferencePolicy
keep_soft = record { soft = true; weak = false }

abbrev keep_weak : ReferencePolicy
keep_weak = record { soft = false; weak = true }

abbrev keep_both : ReferencePolicy
keep_both = record { soft = true; weak = true }

-- f of the dump under each of the four policies, one after the other
abbrev each : Route → (Input → List ℕ) → List ℕ
each route f = flat (λ p. f (dump route p)) (neither ∷ keep_soft ∷ keep_weak ∷ keep_both ∷ [])

abbrev columns : Input → Columns
columns x = columns_of x.schema (graph x)

-- an answer with the two columns that it leaves
abbrev left_by : EdgesLeft → List ℕ
left_by e = e.says ++ e.targets ++ e.labels

-- what object o's edges and weak pairs are, read back: how many edges with their targets and labels, and how many weak targets, and these
abbrev read_by : Columns → ℕ → List ℕ
read_by c o =
    let es = edges_read c o in
    let ws = weak_read c o in
    length es ∷ (edge_targets es ++ map (λ (e : Edge). e.label) es ++ length ws ∷ ws)

-- the incoming side, and all that inverting leaves; lent e entries, o offsets and l long rows
abbrev sides : Incoming → List ℕ
sides i = i.sources ++ i.places

abbrev inverted_by : InLeft → List ℕ
inverted_by l = l.says ++ l.sources ++ l.places ++ l.bases ++ l.short ++ l.long_at ++ l.working

abbrev lent_in : ℕ → ℕ → ℕ → InRooms
lent_in e o l = record { sources = e; places = e; bases = 1; short = o; long_at = l; long_value = l; working = o }

-- all that asking a list leaves
abbrev asked_by : EachLeft → List ℕ
asked_by e = e.says ++ e.targets ++ e.found

-- just the room that a build needs
unfoldable pub enough : Input → Rooms
enough x =
    let p = graph x in
    let s = x.schema in
    record {
      targets = need_places x;
      labels = need_places x;
      weak_from = need_weak x;
      weak_to = need_weak x;
      roots = need_roots x;
      working = need_offsets p;
      coded = record {
        bases = need_bases p;
        short = need_offsets p;
        long_at = need_long p;
        long_value = need_long p;
        fields = need_fields s p;
        table = need_table s;
        escape_at = need_escapes s p;
        escape_label = need_escapes s p;
        codes = need_codes p;
        counting = need_table s;
        ranking = need_table s;
      };
    }

abbrev no_lent : Lent
no_lent = record { bases = 0; short = 0; long_at = 0; long_value = 0; fields = 0; table = 0; escape_at = 0; escape_label = 0; codes = 0; counting = 0; ranking = 0 }

abbrev no_room : Rooms
no_room = record { targets = 7; labels = 7; weak_from = 0; weak_to = 1; roots = 0; working = 0; coded = no_lent }

-- What holds by every route.
unfoldable pub graph_cases : Route → List Check
graph_cases route =
    let x = dump route neither in
    let g = graph x in
    let c = columns x in
    let y = graph (dump route keep_weak) in
    let d = columns (dump route keep_weak) in
    case "a" g.offsets (0 ∷ 1 ∷ 1 ∷ 2 ∷ 4 ∷ [])
    ++ case "b" g.targets (1 ∷ 0 ∷ 0 ∷ 2 ∷ [])
    ++ case "c" c.labels.codes (0 ∷ 0x8001 ∷ 2 ∷ 3 ∷ [])
    ++ case "d, weak" (g.weak_from ++ g.weak_to) (1 ∷ 0 ∷ [])
    ++ case "d, dangling" (g.dangling ∷ []) (1 ∷ [])
    ++ case "e" (total (held x) (object_count x) ∷ length g.targets ∷ length g.weak_to ∷ total (lost x) (object_count x) ∷ []) (6 ∷ 4 ∷ 1 ∷ 1 ∷ [])
    ++ case "e, account" (flat (λ r. r) (account x)) (1 ∷ 1 ∷ 0 ∷ 1 ∷ 0 ∷ 1 ∷ 1 ∷ 0 ∷ 0 ∷ 1 ∷ 0 ∷ 0 ∷ [])
    ++ case "f" (length y.targets ∷ length y.weak_to ∷ []) (5 ∷ 0 ∷ [])
    ++ case "i, element" (field c 2 array_element_label) (0 ∷ 0 ∷ [])
    ++ case "i, other element" (field c 2 (array_element_label + 1)) (0 ∷ [])
    ++ case "i, loader" (field c 3 loader_label) (0 ∷ 2 ∷ [])
    ++ case "j" (referent c 1 1) (0 ∷ 0 ∷ [])
    ++ case "k" g.roots (0 ∷ 3 ∷ [])
    ++ case "name count" (field c 3 3) (0 ∷ [])
    ++ case "span" (span c 3 ++ edge_count c 3 ++ weak_referents c 1) (0 ∷ 2 ∷ 4 ∷ 0 ∷ 2 ∷ 0 ∷ 0 ∷ 1 ∷ [])
    ++ case "labels" (exact_of c 2 0 ++ coarse_of c 2 0 ++ label_of c 2 0 ++ label_of c 2 3)
    (0 ∷ (array_element_label + 1) ∷ 0 ∷ array_element_label ∷ 0 ∷ (array_element_label + 1) ∷ 0 ∷ [])
    ++ case "no object, no edge" (field c 4 0 ++ exact_of c 3 2) (11 ∷ 4 ∷ 11 ∷ 2 ∷ [])
    ++ case "object's edges" (left_by (object_edges c 3 3 2)) (0 ∷ 2 ∷ 0 ∷ 2 ∷ 0 ∷ 2 ∷ loader_label ∷ [])
    ++ case "object's edges, no room" (left_by (object_edges c 3 2 1) ++ left_by (object_edges c 4 1 1)) (9 ∷ 23 ∷ 0 ∷ 0 ∷ 0 ∷ 11 ∷ 4 ∷ 0 ∷ 0 ∷ [])
    ++ case "reads back" (tab (λ o. one (reads_back c o)) 4) (1 ∷ 1 ∷ 1 ∷ 1 ∷ [])
    ++ case "M-103, incoming" (sides (incoming_of c) ++ in_offsets c) (2 ∷ 3 ∷ 0 ∷ 3 ∷ 1 ∷ 2 ∷ 0 ∷ 3 ∷ 0 ∷ 2 ∷ 3 ∷ 4 ∷ 4 ∷ [])
    ++ case "M-103, keep weak" (sides (incoming_of d) ++ in_offsets d) (1 ∷ 2 ∷ 3 ∷ 0 ∷ 3 ∷ 1 ∷ 2 ∷ 3 ∷ 0 ∷ 4 ∷ 0 ∷ 3 ∷ 4 ∷ 5 ∷ 5 ∷ [])
    ++ case "M-103, left" (inverted_by (invert_left c (lent_in 5 6 1)))
    (0 ∷ 4 ∷ 0 ∷ 2 ∷ 3 ∷ 0 ∷ 3 ∷ 0 ∷ 1 ∷ 2 ∷ 0 ∷ 3 ∷ 0 ∷ 0 ∷ 0 ∷ 2 ∷ 3 ∷ 4 ∷ 4 ∷ 0 ∷ 0 ∷ 0 ∷ 0 ∷ 0 ∷ 0 ∷ 0 ∷ 0 ∷ [])
    ++ case "M-103, used" (sides (used_incoming 4 (invert_left c (lent_in 5 6 1))) ++ (used_incoming 4 (invert_left c (lent_in 5 6 1))).offsets.short)
    (2 ∷ 3 ∷ 0 ∷ 3 ∷ 1 ∷ 2 ∷ 0 ∷ 3 ∷ 0 ∷ 2 ∷ 3 ∷ 4 ∷ 4 ∷ [])
    ++ case "M-103, room" (invert_says c (lent_in 4 5 0) ++ inverted_by (invert_left c (lent_in 3 4 0)) ++ invert_says c (lent_in 4 4 0))
    (0 ∷ 4 ∷ 0 ∷ 9 ∷ 10 ∷ 0 ∷ 0 ∷ 0 ∷ 0 ∷ 0 ∷ 0 ∷ 0 ∷ 0 ∷ 0 ∷ 0 ∷ 0 ∷ 0 ∷ 0 ∷ 0 ∷ 0 ∷ 9 ∷ 11 ∷ [])
    ++ case "M-103, columns" (invert_says (record { offsets = c.offsets; targets = 1 ∷ 0 ∷ 4 ∷ 2 ∷ []; labels = c.labels; weak_from = []; weak_to = [] }) (lent_in 0 0 0)) (12 ∷ 3 ∷ [])
    ++ case "M-104, loader" (asked_by (each_left (λ o. field c o loader_label) (3 ∷ 0 ∷ 3 ∷ []) 3 4)) (0 ∷ 3 ∷ 2 ∷ 0 ∷ 2 ∷ 1 ∷ 0 ∷ 1 ∷ 0 ∷ [])
    ++ case "M-104, elements" (asked_by (each_left (λ o. field c o array_element_label) (2 ∷ 3 ∷ 2 ∷ 0 ∷ []) 4 4)) (0 ∷ 4 ∷ 0 ∷ 0 ∷ 0 ∷ 0 ∷ 1 ∷ 0 ∷ 1 ∷ 0 ∷ [])
    ++ case "M-104, refused" (asked_by (each_left (λ o. field c o loader_label) (3 ∷ 4 ∷ 9 ∷ []) 3 3)) (11 ∷ 1 ∷ 0 ∷ 0 ∷ 0 ∷ 0 ∷ 0 ∷ 0 ∷ [])
    ++ case "M-104, room" (asked_by (each_left (λ o. field c o loader_label) (4 ∷ 3 ∷ []) 2 1) ++ asked_by (each_left (λ o. field c o loader_label) [] 0 1)) (9 ∷ 12 ∷ 0 ∷ 0 ∷ 0 ∷ 0 ∷ 0 ∷ 0 ∷ [])
    ++ case "M-111, object 1" (each route (λ y. read_by (columns y) 1)) (0 ∷ 1 ∷ 0 ∷ 0 ∷ 1 ∷ 0 ∷ 1 ∷ 0 ∷ 1 ∷ 0 ∷ 1 ∷ 0 ∷ 1 ∷ 0 ∷ [])
    ++ case "M-111, sums" (each route (λ y. length (graph y).targets ∷ length (graph y).weak_to ∷ (graph y).dangling ∷ [])) (4 ∷ 1 ∷ 1 ∷ 4 ∷ 1 ∷ 1 ∷ 5 ∷ 0 ∷ 1 ∷ 5 ∷ 0 ∷ 1 ∷ [])
    ++ case "M-111, roots" (each route (λ y. (graph y).roots)) (0 ∷ 3 ∷ 0 ∷ 3 ∷ 0 ∷ 3 ∷ 0 ∷ 3 ∷ [])
    ++ case "M-111, reached" (each route (λ y. tab (reached (edges_read (columns y) 1) (weak_read (columns y) 1)) 4)) (1 ∷ 0 ∷ 0 ∷ 0 ∷ 1 ∷ 0 ∷ 0 ∷ 0 ∷ 1 ∷ 0 ∷ 0 ∷ 0 ∷ 1 ∷ 0 ∷ 0 ∷ 0 ∷ [])
    ++ case "accepted" (build_says x (enough x)) (0 ∷ 4 ∷ 1 ∷ 2 ∷ 0 ∷ 4 ∷ 0 ∷ 1 ∷ [])
    ++ case "no room" (build_says x no_room ++ (build_left x no_room).targets ++ flat (λ r. r) (build_left x no_room).account)
    (9 ∷ 2 ∷ 0 ∷ 0 ∷ 0 ∷ 0 ∷ 0 ∷ 0 ∷ 0 ∷ 0 ∷ 0 ∷ 0 ∷ 0 ∷ 0 ∷ 0 ∷ 0 ∷ 0 ∷ 0 ∷ 0 ∷ 0 ∷ 0 ∷ [])
    ++ case "meets PARTS" (length (parts_faults 3 g) ∷ []) (0 ∷ [])

-- a gap, and a difference: what is stored, the row if there is one, and what reads back
abbrev gap_case : ℕ → List ℕ
gap_case gap =
    let d = coded [] (0 ∷ 1 ∷ []) ((array_element_label + gap) ∷ []) 1 in
    d.codes ++ d.escape_at ++ d.escape_label ++ (exact_label d 0 0 ∷ [])

abbrev difference_case : ℕ → List ℕ
difference_case v =
    let b = blocked (7 ∷ (7 + v) ∷ []) in
    b.short ++ b.long_at ++ b.long_value ++ read_back b 1

unfoldable pub empty : Input
empty = record {
  objects = record { ids = []; kinds = []; classes = []; lengths = [] };
  schema = record {
    classes = record { ids = []; loaders = []; dumped = []; kinds = []; slot_start = []; slot_end = []; static_start = []; static_end = [] };
    slots = record { offsets = []; labels = []; weak = [] };
    statics = record { names = []; types = []; values = [] };
    names = 0;
  };
  roots = [];
  route = Route.copied (record { ids = copied_of 0 []; starts = [] });
  policy = neither;
}

abbrev pair : ℕ → ℕ → Pair
pair o t = record { object = o; target = t }

unfoldable pub table : List Check
table =
    graph_cases by_copied ++ graph_cases (by_raw 4) ++ graph_cases (by_raw 8)
    ++ case "g" (place_count (dump (by_raw 4) neither) ∷ place_count (dump (by_raw 8) neither) ∷ place_count (dump by_copied neither) ∷ []) (7 ∷ 7 ∷ 5 ∷ [])
    ++ case "h" (code_of 256 264 ∷ code_of 256 4096 ∷ code_of 256 9999 ∷ []) (2 ∷ 481 ∷ 4294967295 ∷ [])
    ++ case "l, 32,766" (gap_case 32766) (0xFFFE ∷ (array_element_label + 32766) ∷ [])
    ++ case "l, 32,767" (gap_case 32767) (0xFFFF ∷ 0 ∷ (array_element_label + 32767) ∷ (array_element_label + 32767) ∷ [])
    ++ case "m, 65,534" (difference_case 65534) (0 ∷ 65534 ∷ 0 ∷ 65541 ∷ [])
    ++ case "m, 65,535" (difference_case 65535) (0 ∷ 65535 ∷ 1 ∷ 65542 ∷ 0 ∷ 65542 ∷ [])
    ++ case "n" (graph empty).offsets (0 ∷ [])
    ++ case "left" (build_left (dump (by_raw 4) neither) (enough (dump (by_raw 4) neither))).targets (1 ∷ 0 ∷ 0 ∷ 2 ∷ 0 ∷ 0 ∷ 0 ∷ [])
    ++ case "missing loader" ((graph (dump_with 9999 256 by_copied neither)).dangling ∷ place_count (dump_with 9999 256 by_copied neither) ∷ []) (1 ∷ 4 ∷ [])
    ++ case "missing static" ((graph (dump_with 512 9999 by_copied neither)).dangling ∷ place_count (dump_with 512 9999 by_copied neither) ∷ []) (2 ∷ 4 ∷ [])
    ++ case "slot past its body"
    (place_count (dump (raw_with 3 4) neither) ∷ length (graph (dump (raw_with 3 4) keep_weak)).targets ∷ length (graph (dump (raw_with 3 4) neither)).weak_to ∷ [])
    (7 ∷ 4 ∷ 0 ∷ [])
    ++ case "policy, soft" (tab (λ k. one (keeps keep_soft k)) 5) (0 ∷ 1 ∷ 0 ∷ 0 ∷ 0 ∷ [])
    ++ case "policy, weak" (tab (λ k. one (keeps keep_weak k)) 5) (1 ∷ 0 ∷ 1 ∷ 1 ∷ 1 ∷ [])
    ++ case "field between elements" (coded (7 ∷ []) (0 ∷ 3 ∷ []) ((array_element_label + 3) ∷ 7 ∷ (array_element_label + 5) ∷ []) 1).codes (0x8003 ∷ 0 ∷ 0x8001 ∷ [])
    ++ case "next object" (coded [] (0 ∷ 1 ∷ 2 ∷ []) ((array_element_label + 3) ∷ (array_element_label + 5) ∷ []) 2).codes (0x8003 ∷ 0x8005 ∷ [])
    ++ case "code table" (code_table 3 (0 ∷ 2 ∷ loader_label ∷ [])) (0 ∷ 32767 ∷ 1 ∷ 2 ∷ 32767 ∷ [])
    ++ case "no code" (coded (7 ∷ []) (0 ∷ 2 ∷ []) (7 ∷ 8 ∷ []) 1).codes (0 ∷ 0x7FFF ∷ [])
    ++ case "tie" (ranked 4 (3 ∷ 1 ∷ 3 ∷ loader_label ∷ loader_label ∷ 2 ∷ [])) (3 ∷ loader_label ∷ 1 ∷ 2 ∷ [])
    ++ case "weak order" (flat (λ (p : Pair). p.object ∷ p.target ∷ []) (sort pair_le (pair 2 1 ∷ pair 1 5 ∷ pair 1 3 ∷ pair 1 5 ∷ [])))
    (1 ∷ 3 ∷ 1 ∷ 5 ∷ 1 ∷ 5 ∷ 2 ∷ 1 ∷ [])
