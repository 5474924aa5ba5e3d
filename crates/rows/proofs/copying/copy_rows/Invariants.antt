use Prim.Native.Nat.{◌-◌, ◌*◌}
use Rattle.lists.specs.Lists.{Filled}
use Rattle.answer.specs.Limits.{parts}
use Rattle.block.specs.Read.{gain_at}
use Rattle.block.specs.Kind.{left_out}
use Rattle.rows.proofs.Row.{rows_from}
use Rattle.rows.proofs.copying.copy_rows.Given as goal

abbrev pub invariant-loop-r : goal.invariant-loop-r
invariant-loop-r l =
    Filled 0 l.initial.gains l.gains (l.r * l.t.bands)
    (rows_from parts (l.t.bands - left_out l.t.form) l.t.bands (gain_at (l.t.bands - left_out l.t.form) l.bytes) l.first)
