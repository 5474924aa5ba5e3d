use Prim.Native.Nat.{ℕ, ◌+◌}
use lib.Dec.{eqb}
use Rattle.lists.proofs.First.{Passed}
use Rattle.block.specs.Read.{bytes_from}
use Rattle.block.proofs.word.is_blank.Given as goal

abbrev pub invariant-loop-x : goal.invariant-loop-x
invariant-loop-x l = Passed (λ (j : ℕ). eqb (bytes_from l.block 0 (l.first + j)) 0) l.x-index
