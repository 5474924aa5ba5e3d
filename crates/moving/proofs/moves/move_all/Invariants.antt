use Prim.Native.Nat.{◌+◌, ◌-◌, ◌*◌}
use mathlib.Core.Path.{◌≡◌}
use lib.ListN.{length}
use Rattle.lists.specs.Lists.{Filled}
use Rattle.block.specs.Block.{table_byte}
use Rattle.block.specs.Kind.{left_out}
use Rattle.table.specs.Release.{table_gains}
use Rattle.moving.proofs.moves.move_all.Given as goal

abbrev pub invariant-loop-k : goal.invariant-loop-k
invariant-loop-k l =
    (length l.gains ≡ 500)
    × Filled 0 l.initial.res l.res (512 * l.k)
    (table_byte (1 + left_out l.to.form) (l.to.bands - left_out l.to.form) l.to.bands l.to.rows (table_gains l.bytes))
