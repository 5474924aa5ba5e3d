use Prim.Native.Nat.{◌+◌, ◌-◌}
use Rattle.lists.specs.Lists.{Placed}
use Rattle.answer.specs.Limits.{parts}
use Rattle.block.specs.Read.{gain_at}
use Rattle.block.specs.Kind.{left_out}
use Rattle.rows.proofs.Row.{row_from}
use Rattle.rows.proofs.copying.copy_row.Given as goal

abbrev pub invariant-loop-j : goal.invariant-loop-j
invariant-loop-j l =
    Placed 0 l.initial.gains l.gains l.to (l.to + l.j)
    (row_from parts (l.t.bands - left_out l.t.form) (gain_at (l.t.bands - left_out l.t.form) l.bytes) l.row l.to)
