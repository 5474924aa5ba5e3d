use Prim.Native.Nat.{◌-◌}
use native.Mathlib.Omega.{arith}
use Rattle.block.specs.Kind.{left_out}
use Rattle.block.proofs.Shape.{blocks_small}
use Rattle.block.proofs.layout.Layout.length.Goals as goal

pub overflow_mul-result : goal.overflow_mul-result
overflow_mul-result c =
    omega (arith, c.blocks-2.ensures, blocks_small (c.args.self.bands - left_out c.args.self.form) c.args.self.rows, c.args.self.stores.fits.rows)
