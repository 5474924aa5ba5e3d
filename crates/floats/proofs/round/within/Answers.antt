-- The size is x's pattern without its sign (`abs_bits`); its whole number's pattern, with the sign added, is that of x's (`signed`).
use Rattle.std.proofs.Common.{◌≡◌, ◌+◌, ◌-◌, ◌%◌, ◌^◌, not, T, Float, sym, ap, ◌∙◌, subst, arith}
use lib.Ieee.{binary32, fits, is_nan, of_bits, to_bits}
use lib.Ieee.Bits.{to_bits-lt}
use Rattle.floats.specs.Floats.{abs_of, round_even}
use Rattle.floats.proofs.Magnitude.{Below, below_fin}
use Rattle.floats.proofs.Pattern.{abs_bits, abs_no_nan}
use Rattle.floats.proofs.Sign.{finite_number}
use Rattle.floats.proofs.Ties.{below_top, size_below, size_le, size_twice, size_bits, signed, even_number, even_bits}
use Rattle.floats.proofs.round.within.Goals as goal

number : (x : Float) → Below 23 x → T (not (is_nan x))
number x below = finite_number x (below_fin 23 x below)

-- the size, as the code has it
size : (x : Float) → T (fits binary32 x) → Below 23 x → of_bits binary32 (to_bits binary32 x % 2 ^ 31) ≡ abs_of x
size x held below = abs_bits x held (number x below)

-- its whole number w, with the sign put back
back : (x w : Float) → T (fits binary32 x) → Below 23 x → w ≡ round_even binary32 (abs_of x)
    → of_bits binary32 (to_bits binary32 w + (to_bits binary32 x - to_bits binary32 x % 2 ^ 31)) ≡ round_even binary32 x
back x w held below whole = rw whole (signed x held below)

pub float_from_bits-size : goal.float_from_bits-size
float_from_bits-size c =
    let below = below_top c.args.x c.requires.0 c.requires.1 in
    abs_no_nan c.args.x (subst T (sym c.well_formed.0.1) tt) (number c.args.x below)

pub whole_size-whole-requires : goal.whole_size-whole-requires
whole_size-whole-requires c =
    let below = below_top c.args.x c.requires.0 c.requires.1 in
    rw (size c.args.x (subst T (sym c.well_formed.0.1) tt) below) (size_twice c.args.x, size_le c.args.x below)

pub float_to_bits-whole : goal.float_to_bits-whole
float_to_bits-whole c =
    let below = below_top c.args.x c.requires.0 c.requires.1 in
    let whole = c.whole_size-whole.ensures ∙ ap (round_even binary32) (size c.args.x (subst T (sym c.well_formed.0.1) tt) below) in
    rw whole (even_number (abs_of c.args.x) (size_below c.args.x below))

pub overflow_add-result : goal.overflow_add-result
overflow_add-result c =
    let held : T (fits binary32 c.args.x) = subst T (sym c.well_formed.0.1) tt in
    let below = below_top c.args.x c.requires.0 c.requires.1 in
    let whole = c.whole_size-whole.ensures ∙ ap (round_even binary32) (size c.args.x held below) in
    record { fits = rw whole (omega (arith, size_bits c.args.x held below, to_bits-lt binary32 c.args.x held)) }

pub float_from_bits-result : goal.float_from_bits-result
float_from_bits-result c =
    let held : T (fits binary32 c.args.x) = subst T (sym c.well_formed.0.1) tt in
    let below = below_top c.args.x c.requires.0 c.requires.1 in
    let whole = c.whole_size-whole.ensures ∙ ap (round_even binary32) (size c.args.x held below) in
    even_bits c.args.x _ below (back c.args.x c.whole_size-whole.result held below whole)

pub returns : goal.returns
returns c =
    let held : T (fits binary32 c.args.x) = subst T (sym c.well_formed.0.1) tt in
    let below = below_top c.args.x c.requires.0 c.requires.1 in
    back c.args.x c.whole_size-whole.result held below (c.whole_size-whole.ensures ∙ ap (round_even binary32) (size c.args.x held below))
