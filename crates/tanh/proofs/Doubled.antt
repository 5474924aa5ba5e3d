-- Past tanh's three tests twice the size lies between the ends of `exp`, or is a NaN. Assumes nothing.
use mathlib.Core.Path.{◌≡◌, refl}
use mathlib.Core.Bool.{true, false, true≢false}
use lib.Ieee.{Float, nan, inf, fin, binary32, mul, lt, le, eq, is_nan, of_bits}
use lib.Ieee.Bits.{is_false}
use Rattle.floats.specs.Values.{two_f}
use Rattle.consts.specs.Consts.{exp_underflow, exp_overflow, tanh_small, tanh_cutoff}
use Rattle.floats.proofs.Monotone.{mul_mono_r}
use Rattle.floats.proofs.Order.{lt_le_trans, le_lt_trans, lt→nle, not_le}

abbrev Within : Float → Type 0
Within x = (le x exp_underflow ≡ false) × (le exp_overflow x ≡ false)

pub doubled_within : (size : Float) → le size tanh_small ≡ false → le tanh_cutoff size ≡ false → Within (mul binary32 size two_f)
unfolding of_bits is_nan le lt eq mul
doubled_within nan lo hi = (refl, refl)
doubled_within (inf true) lo hi = absurd (true≢false lo)
doubled_within (inf false) lo hi = absurd (true≢false hi)
doubled_within (fin s m e) lo hi =
    let x = fin s m e in
    let y = mul binary32 x two_f in
    let from = mul_mono_r binary32 tanh_small x two_f tt tt tt tt (not_le x tanh_small tt tt lo) in
    let to = mul_mono_r binary32 x tanh_cutoff two_f tt tt tt tt (not_le tanh_cutoff x tt tt hi) in (
      is_false (le y exp_underflow) (lt→nle exp_underflow y (lt_le_trans exp_underflow (mul binary32 tanh_small two_f) y tt from)),
      is_false (le exp_overflow y) (lt→nle y exp_overflow (le_lt_trans y (mul binary32 tanh_cutoff two_f) exp_overflow to tt)),
    )
