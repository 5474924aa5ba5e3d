use native.Mathlib.Omega.{arith}
use Rattle.lister_core.proofs.Room.{put_short, digits_then}
use Rattle.lister_core.proofs.put_gain.Goals as goal

pub returns : goal.returns
returns c =
    let p = digits_then 1 5 c.args.gain (put_short 1 (omega arith) (omega arith) c.put_text.ensures) (omega arith) (omega (arith, c.ranges.gain)) (omega arith)
    c.put_number.ensures in
    record { text = p.added; short = p.short }
