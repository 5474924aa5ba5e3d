-- The polynomial of exp.rs, for a rest of at most 7/16 in size, lies from 0 to 25/16, and for a rest at most 0 up to 1. Assumes nothing.
use Prim.Native.Nat.{ℕ}
use mathlib.Core.Bool.{true, false}
use mathlib.Core.List.{List, [], ◌∷◌}
use lib.IntN.{negsuc}
use lib.Dec.{T}
use lib.Ieee.{Float, fin, add, mul, le, of_bits}
use Rattle.consts.specs.Consts.{exp_poly0, exp_poly1, exp_poly2, exp_poly3, exp_poly4, exp_poly5, exp_poly6}
use Rattle.exp.specs.Exp.{poly_of}
use Rattle.floats.specs.Values.{zero_f, one_f}
use Rattle.floats.specs.Between.{Between}
use Rattle.floats.proofs.Between.{between_wider, Row, rows_ok, from_end, to_end, horner_between}

-- the ends of the rest, and the largest value
abbrev pub rest_low : Float
rest_low = fin true 7 (negsuc 3)

abbrev pub rest_high : Float
rest_high = fin false 7 (negsuc 3)

abbrev pub poly_top : Float
poly_top = fin false 25 (negsuc 3)

-- a product of at most m / 2 ^ (k + 1) in size, plus c
abbrev row : ℕ → ℕ → Float → Row
row m k c = (fin true m (negsuc k), fin false m (negsuc k), c)

-- all steps but the last
abbrev rows : List Row → List Row
rows last = row 1 9 exp_poly5 ∷ row 1 6 exp_poly4 ∷ row 1 4 exp_poly3 ∷ row 3 4 exp_poly2 ∷ row 17 5 exp_poly1 ∷ last

abbrev both : List Row
both = rows (row 9 3 exp_poly0 ∷ [])

-- for a rest at most 0 the last product is not positive
abbrev lower : List Row
lower = rows ((fin true 9 (negsuc 3), zero_f, exp_poly0) ∷ [])

rows_ok_law : Between exp_poly6 exp_poly6 exp_poly6
    × T (rows_ok exp_poly6 exp_poly6 rest_low rest_high both) × T (le zero_f (from_end exp_poly6 both)) × T (le (to_end exp_poly6 both) poly_top)
    × T (rows_ok exp_poly6 exp_poly6 rest_low zero_f lower) × T (le zero_f (from_end exp_poly6 lower)) × T (le (to_end exp_poly6 lower) one_f)
unfolding add mul le of_bits
rows_ok_law = ((tt, tt), tt, tt, tt, tt, tt, tt)

pub poly_between : (r : Float) → Between rest_low rest_high r → Between zero_f poly_top (poly_of r)
poly_between r j =
    between_wider zero_f (from_end exp_poly6 both) (to_end exp_poly6 both) poly_top (poly_of r) rows_ok_law.2 rows_ok_law.3
    (horner_between both exp_poly6 exp_poly6 rest_low rest_high exp_poly6 r rows_ok_law.1 rows_ok_law.0 j)

pub poly_at_most_1 : (r : Float) → Between rest_low zero_f r → Between zero_f one_f (poly_of r)
poly_at_most_1 r j =
    between_wider zero_f (from_end exp_poly6 lower) (to_end exp_poly6 lower) one_f (poly_of r) rows_ok_law.5 rows_ok_law.6
    (horner_between lower exp_poly6 exp_poly6 rest_low zero_f exp_poly6 r rows_ok_law.4 rows_ok_law.0 j)
