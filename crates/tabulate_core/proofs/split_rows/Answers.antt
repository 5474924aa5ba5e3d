-- The rows so far were split and their gains are in place; the first that is refused ends it.
use borrow.Author.Rules.{rules}
use mathlib.Core.Path.{refl}
use native.Mathlib.Omega.{arith}
use Rattle.std.specs.Prelude.{Ok, Err}
use Rattle.answer.proofs.Follows.{few_gains}
use Rattle.tabulate_core.proofs.Rows.{going_none, going_inside, going_words, going_more, going_all, row_place, row_refused, row_stops, rows_end}
use Rattle.tabulate_core.proofs.split_rows.Goals as goal

pub loop-row-init : goal.loop-row-init
loop-row-init c = going_none _ _ _ _ c.requires.gains_len

pub in_row-requires : goal.in_row-requires
in_row-requires c =
    let z = c.requires.shaped in
    let w = going_words c.loop-row.invariant c.loop-row-test.true z c.as_chunks.ensures.front c.in-Err.ensures.told c.in-Err.ensures.written in (
      row_refused w refl z.some z.most,
      omega (arith, row_place w, going_inside c.loop-row.invariant c.loop-row-test.true, few_gains z.last z.most),
    )

pub returns-in-Err : goal.returns-in-Err
returns-in-Err c =
    let z = c.requires.shaped in
    let w =
    going_words c.loop-row.invariant c.loop-row-test.true {a = Err c.in-Err.why} z c.as_chunks.ensures.front c.in-Err.ensures.told c.in-Err.ensures.written in
    record {
      told = row_stops w c.loop-row-test.true c.loop-row.invariant.done refl c.in_row.ensures.class c.in_row.ensures.place;
      all = λ e. cc;
    }

pub loop-row-preserved : goal.loop-row-preserved
loop-row-preserved c =
    let z = c.requires.shaped in
    let w =
    going_words c.loop-row.invariant c.loop-row-test.true {a = Ok tt} z c.as_chunks.ensures.front c.in_default.ensures.told c.in_default.ensures.written in
    going_more c.loop-row.invariant c.loop-row-test.true _ w refl c.split_row.auto.gains (search rules)

pub returns : goal.returns
returns c = record {
  told = rows_end _ _ _ _ c.loop-row.auto.row-end c.loop-row-test.false c.loop-row.invariant.done;
  all = λ e. going_all c.loop-row.invariant (omega arith);
}
