-- `code_stages::offsets::offsets_stage` meets its contract. A refusal is handed on; else what `code_offsets` answers decides. Assumes nothing.
use mathlib.Core.Path.{◌≡◌, sym, ap, ◌∙◌}
use mathlib.Core.Bool.{false, cond}
use mathlib.Core.List.{List}
use Prim.Native.Nat.{ℕ}
use lib.ListN.{set}
use Rattle.std.specs.Prelude.{Result, Ok, Err, MatchResult}
use Rattle.std.specs.Result.{IsErrAnd}
use Rattle.std.proofs.lemmas.Result.{err_from_is_err_and}
use Rattle.columns.specs.Lists.{◌!◌}
use Rattle.columns.specs.Columns.{accepts}
use Rattle.store.specs.declared.CodedOffsets.{CodedOffsets}
use Rattle.store.specs.declared.OffsetsError.{OffsetsError}
use Rattle.store.specs.Blocked.{coded_says}
use Rattle.rules.specs.declared.Counts.{Counts}
use Rattle.rules.specs.declared.Refusal.{Refusal}
use Rattle.rules.specs.Types.{refusal_says, built_says}
use Rattle.rules.proofs.Types.{refusal_refuses}
use Rattle.code_stages.proofs.Laws.{accepts-done, handed, offsets-handed, offsets-coded}
use Rattle.code_stages.proofs.offsets.offsets_stage.Goals as goal

-- what `map_err` makes of an answer
abbrev Mapped : Result CodedOffsets OffsetsError → Result CodedOffsets Refusal → Type 0
Mapped o m = MatchResult o (λ x. m ≡ Ok x) (λ e. IsErrAnd m (λ d. refusal_says d ≡ coded_says (Err e)))

abbrev chain : List ℕ → Result CodedOffsets OffsetsError → List ℕ
chain before o = cond (accepts (coded_says o)) (set before 4 (coded_says o ! 3)) (coded_says o)

coded_ok : (o : Result CodedOffsets OffsetsError) (m : Result CodedOffsets Refusal) (x : CodedOffsets) → Mapped o m → m ≡ Ok x → o ≡ Ok x
coded_ok (Ok y) m x h e = let z : y ≡ x = cc in ap (λ (c : CodedOffsets). Ok c) z
coded_ok (Err d) m x h e = let p = err_from_is_err_and m h in let q = p.1 in cc

coded_err : (o : Result CodedOffsets OffsetsError) (m : Result CodedOffsets Refusal) (d : Refusal) → Mapped o m → m ≡ Err d → refusal_says d ≡ coded_says o
coded_err (Ok y) m d h e = cc
coded_err (Err x) m d h e = let p = err_from_is_err_and m h in let q = p.1 in let z : d ≡ p.0 = cc in ap refusal_says z ∙ p.2

chain_ok : {v : Result Counts Refusal} {n : Counts} {o : Result CodedOffsets OffsetsError} {x : CodedOffsets} → v ≡ Ok n → o ≡ Ok x → set (built_says (Ok n)) 4 x.long ≡ chain (built_says v) o
unfolding accepts
chain_ok w e = rw (w, e)

chain_err : (before : List ℕ) (d : Refusal) (o : Result CodedOffsets OffsetsError) → refusal_says d ≡ coded_says o → refusal_says d ≡ chain before o
chain_err before d o e = let n : accepts (coded_says o) ≡ false = ap accepts (sym e) ∙ refusal_refuses d in rw n e

pub returns-in_err-c : goal.returns-in_err-c
returns-in_err-c c = let p = handed c.in_err-c.was c.from_residual.ensures.1 in
    rw p.0 (offsets-handed c.args.offsets.now p.1)

pub returns-in_err-coded : goal.returns-in_err-coded
returns-in_err-coded c = let a = c.args in
    let y = accepts-done c.in_ok-c.was in
    let o = c.code_offsets.result in
    let p = err_from_is_err_and c.from_residual-in_err-coded.result c.from_residual-in_err-coded.ensures.1 in
    let d = c.in_err-coded.field-0.0 in
    let says : built_says c.from_residual-in_err-coded.result ≡ refusal_says d = rw (p.1, p.2) in
    offsets-coded a.offsets.now (c.requires y) c.code_offsets.ensures (built_says a.v) _ y
    (says ∙ chain_err (built_says a.v) d o (coded_err o c.map_err.result d c.map_err.ensures.cases c.in_err-coded.was))

pub returns : goal.returns
returns c = let a = c.args in
    let y = accepts-done c.in_ok-c.was in
    let o = c.code_offsets.result in
    offsets-coded a.offsets.now (c.requires y) c.code_offsets.ensures (built_says a.v) _ y
    (chain_ok c.in_ok-c.was (coded_ok o c.map_err.result c.in_ok-coded.coded c.map_err.ensures.cases c.in_ok-coded.was))
