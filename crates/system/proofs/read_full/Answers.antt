-- The bytes that one more read took are those that it put after the others.
use Rattle.std.proofs.Common.{rules, length, ◌-◌, subst}
use Rattle.std.specs.Io.KnownBytes.{Consumes}
use Rattle.std.proofs.KnownBytes.{Consumes-trans}
use Rattle.system.proofs.Filled.{filled_more}
use Rattle.system.proofs.read_full.Goals as goal

pub loop-done-preserved : goal.loop-done-preserved
loop-done-preserved g c =
    let from = c.loop-done.done in
    let room = length c.loop-done.buf - from in
    let read = c.in-Ok.ensures in
    let joined = filled_more from room c.in-Ok.n c.loop-done.buf c.read.new.buf c.loop-done.invariant.1 read.bound.0 in
    (search rules, search rules, subst (Consumes _ _) joined (Consumes-trans _ _ _ _ _ c.loop-done.invariant.2 read.bytes.0))
