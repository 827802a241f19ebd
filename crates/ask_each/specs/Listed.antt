-- A field asked of each object of a list: the single question, what a call left, and the steps. Assumes nothing.
use Rattle.std.specs.Prelude.{ℕ, ◌≤◌, ◌<◌, ◌≡◌, Bool, true, cond, not, List, [], ◌∷◌, map, eqb, ltb, length}
use Rattle.columns.specs.Lists.{◌!◌}
use Rattle.columns.specs.Columns.{accepts, Begins}
use Rattle.rules.specs.Questions.{Columns}
use Rattle.rules.specs.Each.{target_said, found_said, EachLeft, first_refused}
use Rattle.ask_field.specs.Sought.{field_found}
use Rattle.ask_short.specs.Lean.{shortly}
-- the code that alone says a label, the spans told, and the steps that read no object
pub use Rattle.ask_each_codes.specs.Codes.{Sole, Quick}
pub use Rattle.ask_each_spans.specs.Told.{Based, FewTold, Few, Told, Telling}
pub use Rattle.ask_each_rows.specs.Rows.{EachSettled}

-- the single question, of one label
abbrev pub asks : Columns → ℕ → ℕ → List ℕ
asks c l o = field_found c o l

-- what a call left, as one value
abbrev pub left_each : List ℕ → List ℕ → List ℕ → EachLeft
left_each says targets found = record { says = says; targets = targets; found = found }

-- What a list of the object o alone leaves, read as the single question's answer.
abbrev pub single : ℕ → EachLeft → List ℕ
single o e = cond (accepts e.says) (cond (eqb (e.found ! 0) 1) (0 ∷ e.targets ! 0 ∷ []) (0 ∷ [])) (e.says ! 0 ∷ o ∷ [])

-- The steps. The list is asked in order, up to the first object that is refused.
abbrev pub refused_at : (ℕ → List ℕ) → List ℕ → ℕ → Bool
refused_at f os i = not (accepts (f (os ! i)))

abbrev pub target_at : (ℕ → List ℕ) → List ℕ → ℕ → ℕ
target_at f os i = target_said (f (os ! i))

abbrev pub found_at : (ℕ → List ℕ) → List ℕ → ℕ → ℕ
found_at f os i = found_said (f (os ! i))

-- The first i objects were asked and none was refused: their answers stand in the columns, and behind them the spans of the others.
pub record Asking (c : Columns) (l : ℕ) (os t m : List ℕ) (i : ℕ) : Type 0 where
  pub within : i ≤ length os
  pub none : (j : ℕ) → j < i → accepts (asks c l (os ! j)) ≡ true
  pub targets : (j : ℕ) → j < i → t ! j ≡ target_at (asks c l) os j
  pub found : (j : ℕ) → j < i → m ! j ≡ found_at (asks c l) os j
  pub spans : Told (shortly c.offsets) (length c.labels.codes) (length c.targets) os t m i (length os)

pub record Onward (c : Columns) (l : ℕ) (os : List ℕ) (from : ℕ) (t₀ m₀ t m : List ℕ) (i : ℕ) : Type 0 where
  pub rises : from ≤ i
  pub asking : Asking c l os t m i
  pub same_targets : length t ≡ length t₀
  pub same_found : length m ≡ length m₀

pub record Asked (f : ℕ → List ℕ) (os says t₀ m₀ t m : List ℕ) : Type 0 where
  pub answer : says ≡ cond (ltb (first_refused f os) (length os)) (f (os ! first_refused f os) ! 0 ∷ first_refused f os ∷ []) (0 ∷ length os ∷ [])
  pub all : accepts says ≡ true → says ! 1 ≡ length os
  pub targets : accepts says ≡ true → Begins (map (λ o. target_said (f o)) os) t
  pub found : accepts says ≡ true → Begins (map (λ o. found_said (f o)) os) m
  pub same_targets : length t ≡ length t₀
  pub same_found : length m ≡ length m₀
