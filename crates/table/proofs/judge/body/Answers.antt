-- Block 0 was looked at but for its rows; the blocks before block k pass, so the first that does not is what the whole body answers.
use Prim.Native.Nat.{◌-◌, ◌<◌}
use mathlib.Core.Path.{◌≡◌, refl, sym, ap, ◌∙◌}
use native.Mathlib.Omega.{arith}
use Rattle.std.proofs.lemmas.Result.{err_from_is_err_and}
use Rattle.answer.specs.Answer.{judged}
use Rattle.block.specs.Block.{blocks}
use Rattle.block.specs.Kind.{left_out}
use Rattle.table.specs.Release.{rules_of}
use Rattle.table.proofs.Part.{part_tests}
use Rattle.table.proofs.Reading.{begun, begun_long}
use Rattle.table.proofs.Forms.{first_rows, body_is}
use Rattle.table.proofs.Runs.{runs_none, runs_more, runs_stop}
use Rattle.table.proofs.judge.body.Goals as goal

pub returns-in_err-rows_of : goal.returns-in_err-rows_of
returns-in_err-rows_of c =
    let k = c.requires.known in
    let inside : 0 < blocks (c.args.t.bands - left_out c.args.t.form) c.args.t.rows = omega (arith, k.0.long, begun_long (begun _ c.requires.value)) in
    let first = first_rows c.args.bytes.now _ _ _ k.1 k.0.bands k.0.rows (begun _ c.requires.value) _ c.rows_of.ensures in
    let p = err_from_is_err_and c.from_residual.result c.from_residual.ensures.1 in
    rw (p.1, p.2) (body_is c.args.bytes.now _ _ _ k.1 k.0.bands k.0.rows _ _ refl (runs_stop _ 0 _ _ inside (runs_none _) (sym c.in_err-rows_of.was ∙ first)))

pub loop-k-init : goal.loop-k-init
loop-k-init c =
    let k = c.requires.known in
    let first = first_rows c.args.bytes.now _ _ _ k.1 k.0.bands k.0.rows (begun _ c.requires.value) _ c.rows_of.ensures in
    runs_more _ 0 (runs_none _) (sym c.in_ok-rows_of.was ∙ first)

pub returns-in_err-block : goal.returns-in_err-block
returns-in_err-block c =
    let k = c.requires.known in
    let p = err_from_is_err_and c.from_residual-in_err-block.result c.from_residual-in_err-block.ensures.1 in
    rw (p.1, p.2)
    (body_is c.args.bytes.now _ _ _ k.1 k.0.bands k.0.rows _ _ c.blocks-k-end.ensures
    (runs_stop _ c.loop-k.k _ _ c.loop-k-test.true c.loop-k.invariant
    (sym c.in_err-block.was ∙ c.block.ensures ∙ ap judged (part_tests c.args.bytes.now (rules_of c.args.t.form) _ _ c.loop-k.k))))

pub loop-k-preserved : goal.loop-k-preserved
loop-k-preserved c =
    runs_more _ c.loop-k.k c.loop-k.invariant
    (sym c.in_ok-block.was ∙ c.block.ensures ∙ ap judged (part_tests c.args.bytes.now (rules_of c.args.t.form) _ _ c.loop-k.k))

pub returns : goal.returns
returns c =
    let k = c.requires.known in
    let inside : 0 < blocks (c.args.t.bands - left_out c.args.t.form) c.args.t.rows = omega (arith, k.0.long, begun_long (begun _ c.requires.value)) in
    let e : c.loop-k.k ≡ c.blocks-k-end.result = omega (arith, inside, c.blocks-k-end.ensures, c.loop-k-test.false, c.loop-k.auto.k-end) in
    body_is c.args.bytes.now _ _ _ k.1 k.0.bands k.0.rows _ _ (e ∙ c.blocks-k-end.ensures) c.loop-k.invariant
