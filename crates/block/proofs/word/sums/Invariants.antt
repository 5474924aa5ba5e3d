use Prim.Native.Nat.{ℕ, ◌+◌, ◌*◌, ◌≤◌}
use mathlib.Core.Path.{◌≡◌}
use Rattle.lists.specs.Lists.{sum_to}
use Rattle.block.specs.Read.{bytes_from}
use Rattle.block.proofs.word.sums.Given as goal

abbrev pub invariant-loop-i : goal.invariant-loop-i
invariant-loop-i l = (l.a ≡ sum_to (bytes_from l.block 0) l.i)
    × (l.b ≡ sum_to (λ (k : ℕ). (k + 1) * bytes_from l.block 0 k) l.i)
    × (l.a ≤ 255 * l.i)
    × (l.b ≤ 129540 * l.i)
