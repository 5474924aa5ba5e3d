-- The two differences leave a number without a sign, whose last two bits give the whole number (`size_sums`).
use Rattle.std.proofs.Common.{◌≡◌, true, T, Float, sym, subst, arith}
use lib.Ieee.{binary32, fits, le, sub}
use Rattle.floats.specs.Floats.{abs_of}
use Rattle.floats.specs.Values.{f32}
use Rattle.floats.proofs.Halves.{Evens}
use Rattle.floats.proofs.Ties.{plain_below, size_sums, even_bits}
use Rattle.floats.proofs.round.whole_size.Goals as goal

known : (size : Float) → T (fits binary32 size) → abs_of size ≡ size → le size (f32 0x4b00_0000) ≡ true
    → Evens size (sub binary32 (f32 0x4b40_0000) (sub binary32 (f32 0x4b40_0000) size))
known size held plain most = size_sums size held plain (plain_below size plain most)

pub float_to_bits-halves : goal.float_to_bits-halves
float_to_bits-halves c = (known c.args.size (subst T (sym c.well_formed.0.1) tt) c.requires.0 c.requires.1).number

pub overflow_add-even : goal.overflow_add-even
overflow_add-even c =
    let evens = known c.args.size (subst T (sym c.well_formed.0.1) tt) c.requires.0 c.requires.1 in
    record { fits = omega (arith, evens.under) }

pub float_from_bits-result : goal.float_from_bits-result
float_from_bits-result c =
    let evens = known c.args.size (subst T (sym c.well_formed.0.1) tt) c.requires.0 c.requires.1 in
    even_bits c.args.size _ (plain_below c.args.size c.requires.0 c.requires.1) evens.is

pub returns : goal.returns
returns c = (known c.args.size (subst T (sym c.well_formed.0.1) tt) c.requires.0 c.requires.1).is
