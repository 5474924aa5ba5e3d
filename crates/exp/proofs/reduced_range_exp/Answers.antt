-- Below the cutoff +0; from there on k is read as in `exp_within`, and the factor's word ends in 23 zero bits, so it is no NaN's pattern (`low_zero`).
use mathlib.Core.Path.{◌≡◌, refl}
use native.Mathlib.Omega.{arith}
use lib.Ieee.{Float, nan, binary32, add, sub, mul, sum, is_nan, lt, le, eq, of_bits}
use Rattle.floats.specs.Values.{f32}
use Rattle.consts.specs.Consts.{exp_lower_cutoff}
use Rattle.floats.specs.Words.{add_word, shl23, trunc_word}
use Rattle.floats.proofs.Pattern.{low_zero}
use Rattle.exp.specs.Exp.{j_of, rest_of, poly_of, reduced_range_exp_of}
use Rattle.exp.proofs.Steps.{InRange, Reads, reduced_reads, reads_range, reads_same, read_number, shifted_word}
use Rattle.exp.proofs.reduced_range_exp.Goals as goal

-- the last step, with k and j from y
abbrev ended : Float → Float → Float
ended x y = mul binary32 (poly_of (rest_of x (j_of y))) (f32 (shl23 (add_word (trunc_word (j_of y)) 127)))

ended-nan : ended nan exp_lower_cutoff ≡ ended nan nan
unfolding add sub mul sum of_bits
ended-nan = refl

pub returns-then-x : goal.returns-then-x
unfolding reduced_range_exp_of
returns-then-x c = simp c.if-x.true

pub float_to_bits-k : goal.float_to_bits-k
unfolding is_nan of_bits
float_to_bits-k c = read_number exp_lower_cutoff _ c.at_least.result tt c.at_least.ensures

pub float_from_bits-result : goal.float_from_bits-result
float_from_bits-result c = low_zero _ (omega arith)

-- the cutoff is a number and below 0
range : (x v : Float) → Reads exp_lower_cutoff x v → InRange v
unfolding of_bits le lt eq
range x v reads = reads_range exp_lower_cutoff _ _ (tt, tt) reads

pub returns : goal.returns
unfolding reduced_range_exp_of
returns c =
    let reads : Reads exp_lower_cutoff c.args.x c.at_least.result = reduced_reads _ _ c.requires c.if-x.false c.at_least.ensures in
    simp c.if-x.false (cc (shifted_word c.at_least.result (range _ _ reads), reads_same ended _ _ _ ended-nan reads))
