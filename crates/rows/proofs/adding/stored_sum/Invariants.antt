use Prim.Native.Nat.{ℕ, ◌+◌, ◌*◌, ◌≤◌}
use mathlib.Core.Path.{◌≡◌}
use Rattle.lists.specs.Lists.{sum_to}
use Rattle.block.specs.Read.{bytes_from, word_at}
use Rattle.rows.proofs.adding.stored_sum.Given as goal

abbrev pub invariant-loop-j : goal.invariant-loop-j
invariant-loop-j l = (l.sum ≡ sum_to (λ (k : ℕ). word_at (bytes_from l.block 0) (l.first + 2 * k)) l.j) × (l.sum ≤ 65535 * l.j)
