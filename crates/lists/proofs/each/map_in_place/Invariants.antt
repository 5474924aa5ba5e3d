use Rattle.std.proofs.Common.{◌≡◌, length, take, drop}
use Rattle.std.specs.List.{AllZip}
use Rattle.lists.proofs.each.map_in_place.Given as goal

abbrev pub invariant-loop-x : goal.invariant-loop-x
invariant-loop-x g l = (length l.buf ≡ length l.fn.buf) × AllZip (goal.F-post g l.f) (take l.x-index l.fn.buf) (take l.x-index l.buf) × (drop l.x-index l.buf ≡ drop l.x-index l.fn.buf)
