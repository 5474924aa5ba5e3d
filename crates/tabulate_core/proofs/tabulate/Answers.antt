-- Bands, rows, the input's length and the lent bytes in their order; past them the rows are split and stored.
use Prim.Native.Nat.{ℕ, ◌*◌}
use mathlib.Core.Path.{refl, sym, ap}
use mathlib.Core.Bool.{not}
use native.Mathlib.Omega.{arith}
use lib.ListN.{length}
use borrow.Author.Tests.{eq-eqb, ne_eqb}
use Rattle.answer.specs.declared.Refusal.TheVariants.{Count, StoredLength}
use Rattle.answer.proofs.Chain.{stop, skip, clear}
use Rattle.block.proofs.Shape.{blocks_small}
use Rattle.block.proofs.Tests.{Within, shape_is}
use Rattle.table.specs.Release.{form1}
use Rattle.tabulate_core.proofs.Argument.{some_named}
use Rattle.tabulate_core.proofs.Told.{rows_up, room_short, room_enough, tells_refused, tells_none, tells_stored}
use Rattle.tabulate_core.proofs.tabulate.Goals as goal

pub returns-in_default : goal.returns-in_default
returns-in_default c =
    let both = tells_none _ c.args.input.now c.in_default.ensures.bands _ refl in
    record { told = both.0; written = both.1 }

pub returns-then-not-shape_ok : goal.returns-then-not-shape_ok
returns-then-not-shape_ok c =
    let rows = rows_up (length c.args.input.now) c.in-Some.ensures.within.0 c.div_ceil-rows.ensures in
    let both = tells_refused _ _ (some_named _ c.in-Some.ensures.bands) rows _ Count (stop (ap not (sym c.if-not-shape_ok.ensures))) refl in
    record { told = both.0; written = both.1 }

pub returns-then-input-rows : goal.returns-then-input-rows
returns-then-input-rows c =
    let rows = rows_up (length c.args.input.now) c.in-Some.ensures.within.0 c.div_ceil-rows.ensures in
    let both = tells_refused _ _ (some_named _ c.in-Some.ensures.bands) rows _ StoredLength
    (skip (ap not (sym c.if-not-shape_ok.ensures)) (stop (ap not (ne_eqb _ _ c.if-input-rows.true)))) refl in
    record { told = both.0; written = both.1 }

pub overflow_mul-end : goal.overflow_mul-end
overflow_mul-end c =
    let z : Within form1 c.in-Some.bands c.div_ceil-rows.result = shape_is c.in-Some.bands c.div_ceil-rows.result (sym c.if-not-shape_ok.ensures) in
    omega (arith, c.blocks_of-end.ensures, blocks_small c.in-Some.bands c.div_ceil-rows.result, z.last)

pub returns-then-bytes-end : goal.returns-then-bytes-end
returns-then-bytes-end c =
    let rows = rows_up (length c.args.input.now) c.in-Some.ensures.within.0 c.div_ceil-rows.ensures in
    let both = tells_refused _ _ (some_named _ c.in-Some.ensures.bands) rows _ StoredLength
    (skip (ap not (sym c.if-not-shape_ok.ensures)) (skip (ap not (eq-eqb _ _ c.if-input-rows.false))
    (stop (room_short _ c.blocks_of-end.ensures c.if-bytes-end.true)))) refl in
    record { told = both.0; written = both.1 }

pub returns : goal.returns
returns c =
    let rows = rows_up (length c.args.input.now) c.in-Some.ensures.within.0 c.div_ceil-rows.ensures in
    let both = tells_stored _ _ (some_named _ c.in-Some.ensures.bands) rows _ _ (ap (λ (m : ℕ). 512 * m) c.blocks_of-end.ensures)
    (skip (ap not (sym c.if-not-shape_ok.ensures)) (skip (ap not (eq-eqb _ _ c.if-input-rows.false))
    (skip (room_enough _ c.blocks_of-end.ensures c.if-bytes-end.false) clear)))
    c.store.ensures.told c.store.ensures.written in
    record { told = both.0; written = both.1 }
