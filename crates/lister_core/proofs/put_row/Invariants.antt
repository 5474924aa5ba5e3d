use Prim.Native.Nat.{ℕ, ◌+◌, ◌*◌}
use Rattle.lists.specs.Lists.{tab}
use Rattle.answer.specs.Limits.{parts}
use Rattle.block.specs.Block.{row_gain}
use Rattle.block.specs.Read.{bytes_from, word_at}
use Rattle.lister_core.specs.Lines.{gains_text}
use Rattle.lister_core.proofs.Room.{Put}
use Rattle.lister_core.proofs.put_row.Given as goal

abbrev pub invariant-loop-j : goal.invariant-loop-j
invariant-loop-j l =
    Put (6 * l.j) (gains_text (tab (row_gain parts l.width (λ (i : ℕ). word_at (bytes_from l.block 0) (l.first + 2 * i)) 0) l.j)) l.initial.text l.text
