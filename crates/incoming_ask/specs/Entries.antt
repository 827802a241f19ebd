-- The questions on the incoming side of a graph, over the used parts of its columns: what each answers, on any columns. Assumes nothing.
use Rattle.std.specs.Prelude.{ℕ, ◌+◌, ◌-◌, cond, List, [], ◌∷◌, ltb, length}
use Rattle.columns.specs.Lists.{◌!◌}
use Rattle.columns.specs.Columns.{accepts}
use Rattle.store_read.specs.Back.{blocked_in}
use Rattle.rules.specs.Incoming.{Incoming}
use Rattle.incoming_ask.specs.declared.Incoming as Lent
use Rattle.ask_span.specs.Reading.{span_of}

-- the incoming side that a value lends
abbrev pub incoming_in : Lent.Incoming → Incoming
incoming_in i = record { sources = i.sources.now; places = i.places.now; offsets = blocked_in i.offsets }

-- Where the entries of object t stand: INDEX of the object; COLUMNS where its offsets cannot be read, fall, or end past the sources or the places.
abbrev pub in_span : Incoming → ℕ → List ℕ
in_span i t = span_of i.offsets (length i.sources) (length i.places) t

-- how many objects the incoming side is of
abbrev pub in_objects : Incoming → ℕ
in_objects i = length i.offsets.short - 1

-- Entry k of those from a up to b: INDEX of the entry; the object that refers, and the place of its edge. A source that is none of the objects is COLUMNS.
unfoldable pub entry_in : List ℕ → List ℕ → ℕ → ℕ → ℕ → ℕ → ℕ → List ℕ
entry_in sources places a b objects t k =
    cond (ltb k (b - a)) (cond (ltb (sources ! (a + k)) objects) (0 ∷ sources ! (a + k) ∷ places ! (a + k) ∷ []) (12 ∷ t ∷ [])) (11 ∷ k ∷ [])

-- Entry k of object t: INDEX of the object and COLUMNS first.
unfoldable pub entry_of : Incoming → ℕ → ℕ → List ℕ
entry_of i t k =
    let s = in_span i t in
    cond (accepts s) (entry_in i.sources i.places (s ! 1) (s ! 2) (in_objects i) t k) s
