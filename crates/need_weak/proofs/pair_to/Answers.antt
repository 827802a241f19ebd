-- `need_weak::pair_to` meets its contract: what the lookup answers says what becomes of the id. Assumes nothing.
use mir.Val.{bool_byte}
use mathlib.Core.Path.{◌≡◌, refl, ap, ◌∙◌}
use mathlib.Core.Bool.{Bool, true, false}
use Rattle.columns.specs.Lists.{one}
use Rattle.edge_append.proofs.Outcomes.{zero-nothing}
use Rattle.need_weak.proofs.Counting.{pair_is, pair_sought}
use Rattle.need_weak.proofs.pair_to.Goals as goal

byte : (b : Bool) → bool_byte b ≡ one b
byte true = refl
byte false = refl

pub returns-then-id-eq0 : goal.returns-then-id-eq0
returns-then-id-eq0 c = pair_is c.args.ids.now c.args.id (zero-nothing c.args.ids.now 0 0 false c.args.id c.if-id-eq0.true)

pub returns : goal.returns
returns c = let e = pair_sought c.args.ids.now c.args.id c.if-id-eq0.false c.find_sorted.result (c.find_sorted.ensures.sought c.requires) in c.from.ensures ∙ byte c.is_ok.result ∙ ap one c.is_ok.ensures.value ∙ e
