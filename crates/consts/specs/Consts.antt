-- The constants by their f32 patterns, under the Rust's names, and the table that says which decimal each stands for. Definitions only.
use Rattle.std.specs.Prelude.{ℕ, Bool, true, false, List, [], ◌∷◌, Float}
use Rattle.floats.specs.Values.{f32}

-- ---- exp.rs
abbrev pub inv_log2 : Float
inv_log2 = f32 0x3fb8_aa3b

abbrev pub ln2 : Float
ln2 = f32 0x3f31_7218

abbrev pub rounding_magic : Float
rounding_magic = f32 0x4b40_0000

abbrev pub log2_hi : Float
log2_hi = f32 0xbf31_7200

abbrev pub log2_lo : Float
log2_lo = f32 0xb5bf_be8e

abbrev pub exp_poly0 : Float
exp_poly0 = f32 0x3f80_0000

abbrev pub exp_poly1 : Float
exp_poly1 = f32 0x3f80_0000

abbrev pub exp_poly2 : Float
exp_poly2 = f32 0x3eff_fffb

abbrev pub exp_poly3 : Float
exp_poly3 = f32 0x3e2a_aa28

abbrev pub exp_poly4 : Float
exp_poly4 = f32 0x3d2a_adad

abbrev pub exp_poly5 : Float
exp_poly5 = f32 0x3c09_2f6e

abbrev pub exp_poly6 : Float
exp_poly6 = f32 0x3ab4_a000

abbrev pub exp_overflow : Float
exp_overflow = f32 0x42d0_0000

abbrev pub exp_underflow : Float
exp_underflow = f32 0xc2d0_0000

-- -126.5 times LN_2, rounded, plus 0.01, rounded
abbrev pub exp_lower_cutoff : Float
exp_lower_cutoff = f32 0xc2af_58a3

-- ---- tanh.rs
abbrev pub tanh_cutoff : Float
tanh_cutoff = f32 0x4110_51ec

abbrev pub tanh_tiny : Float
tanh_tiny = f32 0x39d1_b717

abbrev pub tanh_small : Float
tanh_small = f32 0x3f0c_cccd

abbrev pub tanh_p1 : Float
tanh_p1 = f32 0x3f7f_ffff

abbrev pub tanh_p3 : Float
tanh_p3 = f32 0xbeaa_a964

abbrev pub tanh_p5 : Float
tanh_p5 = f32 0x3e08_4d1f

abbrev pub tanh_p7 : Float
tanh_p7 = f32 0xbd55_7b89

abbrev pub tanh_p9 : Float
tanh_p9 = f32 0x3c7d_eb05

-- ---- erf.rs
abbrev pub erf_p : Float
erf_p = f32 0x3ea7_ba05

abbrev pub erf_a0 : Float
erf_a0 = f32 0x3e82_7906

abbrev pub erf_a1 : Float
erf_a1 = f32 0xbe91_a98e

abbrev pub erf_a2 : Float
erf_a2 = f32 0x3fb5_f0e3

abbrev pub erf_a3 : Float
erf_a3 = f32 0xbfba_00e3

abbrev pub erf_a4 : Float
erf_a4 = f32 0x3f87_dc22

abbrev pub sqrt2 : Float
sqrt2 = f32 0x3fb5_04f3

-- 1 divided by SQRT_2
abbrev pub sqrt2_rcp : Float
sqrt2_rcp = f32 0x3f35_04f3

abbrev pub sqrt2_pi : Float
sqrt2_pi = f32 0x3f4c_422a

abbrev pub gelu_cube : Float
gelu_cube = f32 0x3d37_2713

-- ---- sin_cos.rs
abbrev pub pi : Float
pi = f32 0x4049_0fdb

abbrev pub minus_pi : Float
minus_pi = f32 0xc049_0fdb

abbrev pub inv2_pi : Float
inv2_pi = f32 0x3e22_f983

abbrev pub half_pi : Float
half_pi = f32 0x3fc9_0fdb

abbrev pub two_pi_hi : Float
two_pi_hi = f32 0x40c9_0000

abbrev pub two_pi_lo : Float
two_pi_lo = f32 0x3afd_aa22

abbrev pub sin_a3 : Float
sin_a3 = f32 0xbe08_5798

abbrev pub sin_a5 : Float
sin_a5 = f32 0x3b53_f27e

abbrev pub sin_b2 : Float
sin_b2 = f32 0x3d09_4c2d

abbrev pub sin_b4 : Float
sin_b4 = f32 0x39ff_b307

abbrev pub large_threshold : Float
large_threshold = f32 0x473b_8000

-- -126.5 and 0.01, of which the cutoff is made
abbrev pub cutoff_factor : Float
cutoff_factor = f32 0xc2fd_0000

abbrev pub cutoff_term : Float
cutoff_term = f32 0x3c23_d70a

-- ---- the table: the sign, digits and places of a decimal, digits / 10 ^ places, and the constant
abbrev pub Row : Type 0
Row = Bool × ℕ × ℕ × Float

abbrev pub decimals : List Row
decimals =
    (false, 144269504088896340735992468100189214, 35, inv_log2)
    ∷ (false, 693147180559945309417232121458176568, 36, ln2)
    ∷ (false, 12582912, 0, rounding_magic)
    ∷ (true, 693145752, 9, log2_hi)
    ∷ (true, 142860677, 14, log2_lo)
    ∷ (false, 1, 0, exp_poly0)
    ∷ (false, 1, 0, exp_poly1)
    ∷ (false, 499999851, 9, exp_poly2)
    ∷ (false, 16666472, 8, exp_poly3)
    ∷ (false, 416695364, 10, exp_poly4)
    ∷ (false, 837312452, 11, exp_poly5)
    ∷ (false, 137805939, 11, exp_poly6)
    ∷ (false, 104, 0, exp_overflow)
    ∷ (true, 104, 0, exp_underflow)
    ∷ (false, 902, 2, tanh_cutoff)
    ∷ (false, 4, 4, tanh_tiny)
    ∷ (false, 55, 2, tanh_small)
    ∷ (false, 999999940395355224609375, 24, tanh_p1)
    ∷ (true, 33332359790802001953125, 23, tanh_p3)
    ∷ (false, 13310669362545013427734375, 26, tanh_p5)
    ∷ (true, 521197654306888580322265625, 28, tanh_p7)
    ∷ (false, 15497927553951740264892578125, 30, tanh_p9)
    ∷ (false, 3275911, 7, erf_p)
    ∷ (false, 254829592, 9, erf_a0)
    ∷ (true, 284496736, 9, erf_a1)
    ∷ (false, 1421413741, 9, erf_a2)
    ∷ (true, 1453152027, 9, erf_a3)
    ∷ (false, 1061405429, 9, erf_a4)
    ∷ (false, 7978845608028654, 16, sqrt2_pi)
    ∷ (false, 44715, 6, gelu_cube)
    ∷ (false, 31415927, 7, pi)
    ∷ (true, 31415927, 7, minus_pi)
    ∷ (false, 15915494, 8, inv2_pi)
    ∷ (false, 15707964, 7, half_pi)
    ∷ (false, 628125, 5, two_pi_hi)
    ∷ (false, 19353072, 10, two_pi_lo)
    ∷ (true, 13314664364, 11, sin_a3)
    ∷ (false, 32340581529, 13, sin_a5)
    ∷ (false, 33519912511, 12, sin_b2)
    ∷ (false, 48770775902, 14, sin_b4)
    ∷ (false, 48000, 0, large_threshold)
    ∷ (true, 1265, 1, cutoff_factor)
    ∷ (false, 1, 2, cutoff_term)
    ∷ []
