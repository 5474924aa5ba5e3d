use Prim.Native.Nat.{◌*◌}
use Rattle.lists.specs.Lists.{Filled}
use Rattle.block.specs.Block.{table_byte}
use Rattle.block.proofs.store.write_all.Given as goal

abbrev pub invariant-loop-k : goal.invariant-loop-k
invariant-loop-k l = Filled 0 l.initial.bytes l.bytes (512 * l.k) (table_byte l.form l.width l.bands l.rows l.gains)
