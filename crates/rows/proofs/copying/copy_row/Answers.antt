-- The first j gains of the row are in their places; then the last one, where it is not stored.
use Prim.Native.Nat.{◌+◌}
use mathlib.Core.Path.{◌≡◌, refl}
use native.Mathlib.Omega.{arith}
use Rattle.answer.specs.Limits.{parts}
use Rattle.block.proofs.Tests.{left_out_small}
use Rattle.rows.proofs.Row.{own_long, own_inside, own_stored, own_left, row_more, row_all}
use Rattle.rows.proofs.copying.copy_row.Goals as goal

pub word_at-requires : goal.word_at-requires
word_at-requires c =
    let st = c.args.t.stores.fits in
    let p = c.per_block-per.ensures in
    let e = c.width-width.ensures in
    omega (
      arith,
      own_long _ st.some st.most c.args.row c.args.bytes.now parts c.args.t.bands _ _ p e c.requires.there,
      own_inside _ st.some st.most c.args.row c.args.bytes.now parts c.args.t.bands _ _ p e,
      c.loop-j-test.true,
    )

pub loop-j-preserved : goal.loop-j-preserved
loop-j-preserved c =
    let st = c.args.t.stores.fits in
    let p = c.per_block-per.ensures in
    let e = c.width-width.ensures in
    row_more _ _ _ _ _ _ _ c.loop-j.j _ _ c.loop-j.invariant (omega (arith, c.requires.room, e, c.loop-j-test.true))
    (own_stored _ st.some st.most c.args.row c.args.bytes.now parts c.args.t.bands _ _ p e c.loop-j.j _ (omega (arith, e, c.loop-j-test.true)) c.word_at.ensures.0)
    refl

pub last_gain-requires : goal.last_gain-requires
last_gain-requires c =
    let st = c.args.t.stores.fits in
    let p = c.per_block-per.ensures in
    let e = c.width-width.ensures in (
      own_long _ st.some st.most c.args.row c.args.bytes.now parts c.args.t.bands _ _ p e c.requires.there,
      own_inside _ st.some st.most c.args.row c.args.bytes.now parts c.args.t.bands _ _ p e,
      omega (arith, e, st.most),
    )

pub returns-then-width-t : goal.returns-then-width-t
returns-then-width-t c =
    let st = c.args.t.stores.fits in
    let p = c.per_block-per.ensures in
    let e = c.width-width.ensures in
    let copied = row_all _ _ _ _ _ _ _ c.loop-j.j c.width-width.result c.loop-j.invariant (omega (arith, c.loop-j-test.false, c.loop-j.auto.j-end)) in
    let last : c.args.t.bands ≡ c.width-width.result + 1 = omega (arith, e, c.if-width-t.true, left_out_small c.args.t.form) in
    row_more _ _ _ _ _ _ _ c.width-width.result _ _ copied (omega (arith, c.requires.room, c.if-width-t.true))
    (rw e (own_left _ st.some st.most c.args.row c.args.bytes.now parts c.args.t.bands _ _ p e _ c.last_gain.ensures))
    last

pub returns-else-width-t : goal.returns-else-width-t
returns-else-width-t c =
    row_all _ _ _ _ _ _ _ c.loop-j.j c.args.t.bands c.loop-j.invariant
    (omega (arith, c.loop-j-test.false, c.loop-j.auto.j-end, c.width-width.ensures, c.if-width-t.false))
