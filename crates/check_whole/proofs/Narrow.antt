-- Faults of a whole input are those of the columns that they read. Assumes nothing.
use mathlib.Core.Path.{◌≡◌, refl, sym, ap, ◌∙◌}
use mathlib.Core.Bool.{Bool}
use mathlib.Core.List.{List, [], ◌∷◌}
use mathlib.Core.Option.{Option, none, some}
use Prim.Native.Nat.{ℕ}
use lib.Dec.{eqb}
use Rattle.columns.specs.Lists.{◌!◌, find, all_of, any_of}
use Rattle.rules.specs.Input.{Input, found_at}
use Rattle.rules.specs.Verdict.{bad_dumped, bad_class, bad_slot, bad_static, bad_find, found_badly}
use Rattle.check_tables.specs.Reads.{schema_columns}
use Rattle.check_tables.specs.Found.{find_columns}
use Rattle.check_whole.specs.Whole.{dumped_columns}

-- where a class is found depends on four columns
pub same-find : (x : Input) (c : ℕ) → bad_find x c ≡ bad_find (find_columns x.objects.ids x.objects.kinds x.schema.classes.ids x.schema.classes.dumped) c
unfolding bad_find found_at
same-find x c = ap (λ (b : Bool). all_of (eqb (x.schema.classes.dumped ! c) 1 ∷ b ∷ [])) (go (find x.objects.ids (x.schema.classes.ids ! c)))
  where
    go : (f : Option ℕ) → found_badly x c f ≡ found_badly (find_columns x.objects.ids x.objects.kinds x.schema.classes.ids x.schema.classes.dumped) c f
    go none = refl
    go (some o) = refl

pub dumped_both : (ids kinds classIds dumped classKinds slot_start slot_end static_start static_end offsets labels weak staticNames types : List ℕ) (names c : ℕ)
    → bad_dumped (dumped_columns ids kinds classIds dumped classKinds slot_start slot_end static_start static_end offsets labels weak staticNames types names) c
    ≡ any_of (bad_class (schema_columns dumped classKinds slot_start slot_end static_start static_end offsets labels weak staticNames types names) c ∷ bad_find (find_columns ids kinds classIds dumped) c ∷ [])
unfolding bad_dumped bad_class bad_slot bad_static
dumped_both ids kinds classIds dumped classKinds slot_start slot_end static_start static_end offsets labels weak staticNames types names c =
    let x = dumped_columns ids kinds classIds dumped classKinds slot_start slot_end static_start static_end offsets labels weak staticNames types names in
    ap (λ (b : Bool). any_of (bad_class x.schema c ∷ b ∷ [])) (same-find x c)

pub same_dumped : (x : Input) (c : ℕ) →
    let k = x.schema in
    bad_dumped (dumped_columns x.objects.ids x.objects.kinds k.classes.ids k.classes.dumped k.classes.kinds k.classes.slot_start k.classes.slot_end k.classes.static_start k.classes.static_end k.slots.offsets k.slots.labels k.slots.weak k.statics.names k.statics.types k.names) c
    ≡ bad_dumped x c
unfolding bad_dumped bad_class bad_slot bad_static
same_dumped x c =
    let k = x.schema in
    dumped_both x.objects.ids x.objects.kinds k.classes.ids k.classes.dumped k.classes.kinds k.classes.slot_start k.classes.slot_end k.classes.static_start k.classes.static_end k.slots.offsets k.slots.labels k.slots.weak k.statics.names k.statics.types k.names c
    ∙ sym (ap (λ (b : Bool). any_of (bad_class k c ∷ b ∷ [])) (same-find x c))
