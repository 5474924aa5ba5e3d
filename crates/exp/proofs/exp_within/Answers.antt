-- k is read from y, which is x or, for a NaN, the lower end (`exp_reads`): its word is the definition's k (`shifted_word`), and that y was read
-- does not show in the result, since a NaN comes back by `rest` (`reads_same`).
use mathlib.Core.Path.{◌≡◌, refl}
use lib.Ieee.{Float, nan, add, sub, mul, sum, is_nan, lt, le, eq, of_bits}
use Rattle.consts.specs.Consts.{exp_underflow}
use Rattle.floats.specs.Words.{trunc_word}
use Rattle.exp.specs.Exp.{j_of, rest_of, poly_of, scale_of, exp_of}
use Rattle.exp.proofs.Steps.{exp_reads, read_number, reads_range, reads_same, shifted_word}
use Rattle.exp.proofs.exp_within.Goals as goal

-- the last step, with k and j from y
abbrev ended : Float → Float → Float
ended x y = scale_of (poly_of (rest_of x (j_of y))) (trunc_word (j_of y))

ended-nan : ended nan exp_underflow ≡ ended nan nan
unfolding add sub mul sum of_bits
ended-nan = refl

pub float_to_bits-k : goal.float_to_bits-k
unfolding is_nan of_bits
float_to_bits-k c = read_number exp_underflow _ c.at_least.result tt c.at_least.ensures

pub returns : goal.returns
unfolding exp_of of_bits le lt eq
returns c lo hi = let reads = exp_reads c.args.x c.at_least.result lo hi c.at_least.ensures in
    let k = shifted_word c.at_least.result (reads_range exp_underflow c.args.x c.at_least.result (tt, tt) reads) in
    simp (lo, hi) (cc (k, reads_same ended exp_underflow c.args.x c.at_least.result ended-nan reads))
