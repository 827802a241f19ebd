-- `label_codes::code_object` meets its contract: the codes of the first i labels are written, and next is what is expected behind them. Assumes nothing.
use mathlib.Core.Path.{◌≡◌, refl, ap, ◌∙◌}
use Prim.Native.Nat.{ℕ}
use native.Mathlib.Omega.{arith}
use native.Mathlib.Numerals.{add-one}
use lib.ListN.{length}
use Rattle.columns.specs.Lists.{◌!◌, tab}
use Rattle.columns.proofs.Written.{written_none, written_tab, written_end}
use Rattle.rules.specs.Labels.{after}
use Rattle.labels.specs.Coding.{code_by, code_in, codes_by}
use Rattle.label_codes.proofs.code_object.Goals as goal

pub loop-i-init : goal.loop-i-init
unfolding tab
loop-i-init c = (refl, written_none _)

pub loop-i-preserved : goal.loop-i-preserved
loop-i-preserved c = let a = c.args in
    let w = c.loop-i.invariant in
    let ls = a.labels.now in
    let e : c.code_of.result ≡ code_in a.names a.table.now ls c.loop-i.i = c.code_of.ensures ∙ ap (λ (n : ℕ). code_by a.names a.table.now n (ls ! c.loop-i.i)) w.0 in (
      rw (add-one c.loop-i.i) (c.after-next.ensures ∙ ap (λ (n : ℕ). after n (ls ! c.loop-i.i)) w.0),
      written_tab (code_in a.names a.table.now ls) c.loop-i.i _ w.1 (omega arith) e,
    )

pub returns : goal.returns
unfolding codes_by
returns c = let a = c.args in
    let ls = a.labels.now in
    let e : c.loop-i.i ≡ length ls = omega arith in
    written_end (tab (code_in a.names a.table.now ls)) (length ls) c.loop-i.invariant.1 e
