-- The row's number and its first j gains were put, with room left for the others.
use mathlib.Core.Path.{sym}
use native.Mathlib.Omega.{arith}
use Rattle.digits.proofs.Written.{wrote_length, added_room}
use Rattle.lister_core.proofs.Room.{put_digits}
use Rattle.lister_core.proofs.Lines.{gains_none, gains_more, row_put}
use Rattle.lister_core.proofs.put_row.Goals as goal

pub loop-j-init : goal.loop-j-init
loop-j-init c =
    let p = put_digits 5 c.args.row (omega arith) (omega (arith, c.requires.0)) (omega arith) c.put_number.ensures in
    gains_none _ _ (added_room p.added)

pub put_gain-requires : goal.put_gain-requires
put_gain-requires c =
    let p = put_digits 5 c.args.row (omega arith) (omega (arith, c.requires.0)) (omega arith) c.put_number.ensures in
    let q = c.loop-j.invariant in
    omega (arith, p.short, q.short, wrote_length p.added.wrote, wrote_length q.added.wrote)

pub loop-j-preserved : goal.loop-j-preserved
loop-j-preserved c = gains_more _ c.loop-j.j _ c.gain_in.ensures c.loop-j.invariant c.put_gain.ensures.text c.put_gain.ensures.short

pub returns : goal.returns
returns c =
    let p = put_digits 5 c.args.row (omega arith) (omega (arith, c.requires.0)) (omega arith) c.put_number.ensures in
    let all = row_put c.args.row _ c.args.t.bands c.loop-j.j (omega arith) (omega arith) p c.loop-j.invariant c.put_text.ensures in
    record { text = rw (sym c.width-width.ensures) all.added; short = all.short }
