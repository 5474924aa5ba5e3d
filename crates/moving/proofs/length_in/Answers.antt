-- The form, then bands and rows.
use Rattle.block.specs.Kind.{left_out}
use Rattle.block.proofs.Tests.{left_out_small}
use Rattle.moving.proofs.Length.{no_form, no_shape, length_is}
use Rattle.moving.proofs.length_in.Goals as goal

pub returns-in_default : goal.returns-in_default
returns-in_default c = record { told = no_form _ _ _ c.in_default.ensures.0 c.in_default.ensures.1 }

pub returns-in-None : goal.returns-in-None
returns-in-None c =
    let f = c.in-Ok.form in
    record { told = no_shape c.args.form c.args.bands c.args.rows (left_out f) c.in-Ok.ensures (left_out_small f) c.in-None.ensures }

pub returns-in-Some : goal.returns-in-Some
returns-in-Some c =
    let f = c.in-Ok.form in
    let m = c.in-Some.ensures in
    record { told = length_is c.args.form c.args.bands c.args.rows (left_out f) c.in-Ok.ensures (left_out_small f) _ m.0 (rw (m.1, m.2, m.3) at c.length.ensures) }
