use Rattle.std.proofs.Common.{◌≡◌, length, take}
use Rattle.std.specs.List.{AllZip}
use Rattle.lists.proofs.each.map_into.Given as goal

abbrev pub invariant-loop-i : goal.invariant-loop-i
invariant-loop-i g l = (length l.dst ≡ length l.src) × AllZip (goal.F-post g l.f) (take l.i l.src) (take l.i l.dst)
