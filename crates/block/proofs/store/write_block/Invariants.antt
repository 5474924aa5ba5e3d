use Prim.Native.Nat.{◌+◌, ◌*◌}
use Rattle.lists.specs.Lists.{Placed}
use Rattle.block.specs.Asked.{own_word, run_byte}
use Rattle.block.proofs.store.write_block.Given as goal

abbrev pub invariant-loop-j : goal.invariant-loop-j
invariant-loop-j l =
    Placed 0 l.initial.bytes l.bytes (512 * l.k) (512 * l.k + 2 * l.j) (run_byte (own_word l.form l.width l.bands l.rows l.gains l.k))
