-- Head, lent gains and body in their order; where all pass, the copied gains are the table's.
use Prim.Native.Nat.{◌+◌, ◌-◌}
use mathlib.Core.Path.{sym, ◌∙◌}
use native.Mathlib.Omega.{arith}
use Rattle.std.proofs.lemmas.Result.{err_from_is_err_and}
use Rattle.block.specs.Kind.{left_out}
use Rattle.block.proofs.Shape.{row_block}
use Rattle.table.proofs.Reading.{head_refuses, lent_refuses, body_answers}
use Rattle.table.proofs.Told.{read_refuses, read_finishes}
use Rattle.table.proofs.Forms.{gains_of_law}
use Rattle.table.proofs.read.Goals as goal

pub returns-in_err-t : goal.returns-in_err-t
returns-in_err-t c =
    let p = err_from_is_err_and c.from_residual.result c.from_residual.ensures.1 in
    let both = read_refuses _ _ _ _ (head_refuses _ _ _ _ c.in_err-t.ensures.told) in
    record { told = rw (p.1, p.2) both.0; written = both.1 }

pub returns-then-gains-t : goal.returns-then-gains-t
returns-then-gains-t c =
    let k = c.in_ok-t.ensures.known in
    let both = read_refuses _ _ _ _ (lent_refuses _ _ _ c.in_ok-t.ensures.told (λ z. c.if-gains-t.true (rw (k.0.bands, k.0.rows) z))) in
    record { told = both.0; written = both.1 }

pub returns-in_err-body : goal.returns-in_err-body
returns-in_err-body c =
    let k = c.in_ok-t.ensures.known in
    let p = err_from_is_err_and c.from_residual-in_err-body.result c.from_residual-in_err-body.ensures.1 in
    let both = read_refuses _ _ _ _
    (body_answers _ _ _ _ c.in_ok-t.ensures.told (rw (k.0.bands, k.0.rows) at c.if-gains-t.false) (sym c.in_err-body.was ∙ c.body.ensures)) in
    record { told = rw (p.1, p.2) both.0; written = both.1 }

pub copy_rows-requires-clause-there : goal.copy_rows-requires-clause-there
copy_rows-requires-clause-there c =
    let k = c.in_ok-t.ensures.known in
    let t = c.in_ok-t.t in
    let f = k.0.stores.fits in
    λ r l. omega (arith, k.0.long, row_block (t.bands - left_out t.form) t.rows (0 + r) f.some f.most (omega (arith, l)))

pub returns : goal.returns
returns c =
    let k = c.in_ok-t.ensures.known in
    let both = read_finishes _ _ c.args.gains.now _ _ _ k.0.bands k.0.rows
    (gains_of_law _ _ _ _ k.1 k.0.bands k.0.rows _ _ c.if-gains-t.false c.copy_rows.ensures)
    (body_answers _ _ _ _ c.in_ok-t.ensures.told (rw (k.0.bands, k.0.rows) at c.if-gains-t.false) (sym c.in_ok-body.was ∙ c.body.ensures)) in
    record { told = both.0; written = both.1 }
