use Rattle.std.proofs.Common.{T, sym, refl, subst, ◌∙◌}
use lib.Ieee.{binary32, fits}
use Rattle.floats.proofs.Pattern.{nan_only, no_nan, abs_bits, abs_no_nan}
use Rattle.floats.proofs.bits.abs.Goals as goal

pub returns-then-is_nan : goal.returns-then-is_nan
returns-then-is_nan c = rw (nan_only c.args.x (sym c.is_nan.ensures.value ∙ c.if-is_nan.true)) refl

pub float_from_bits-result : goal.float_from_bits-result
float_from_bits-result c =
    let fits_x : T (fits binary32 c.args.x) = subst T (sym c.well_formed.0.1) tt in
    abs_no_nan c.args.x fits_x (no_nan c.args.x (sym c.is_nan.ensures.value ∙ c.if-is_nan.false))

pub returns-else-is_nan : goal.returns-else-is_nan
returns-else-is_nan c =
    let fits_x : T (fits binary32 c.args.x) = subst T (sym c.well_formed.0.1) tt in
    abs_bits c.args.x fits_x (no_nan c.args.x (sym c.is_nan.ensures.value ∙ c.if-is_nan.false))
