-- Head and body in their order.
use mathlib.Core.Path.{sym, ◌∙◌}
use Rattle.std.proofs.lemmas.Result.{err_from_is_err_and}
use Rattle.table.proofs.Reading.{table_head_refuses, table_body_answers}
use Rattle.table.proofs.judge.table.Goals as goal

pub returns-in_err-t-clause-told : goal.returns-in_err-t-clause-told
returns-in_err-t-clause-told c =
    let p = err_from_is_err_and c.from_residual.result c.from_residual.ensures.1 in rw (p.1, p.2) (table_head_refuses _ _ _ c.in_err-t.ensures.told)

pub returns-in_err-body-clause-told : goal.returns-in_err-body-clause-told
returns-in_err-body-clause-told c =
    let p = err_from_is_err_and c.from_residual-in_err-body.result c.from_residual-in_err-body.ensures.1 in
    rw (p.1, p.2) (table_body_answers _ _ _ c.in_ok-t.ensures.told (sym c.in_err-body.was ∙ c.body.ensures))

pub returns-clause-told : goal.returns-clause-told
returns-clause-told c = table_body_answers _ _ _ c.in_ok-t.ensures.told (sym c.in_ok-body.was ∙ c.body.ensures)
