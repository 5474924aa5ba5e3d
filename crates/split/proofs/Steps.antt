-- What `steps_of` casts is the definition's whole number. Assumes nothing.
use mathlib.Core.Path.{◌≡◌, refl, sym, ap, subst, ◌∙◌}
use mathlib.Core.Bool.{true, false}
use Prim.Native.Nat.{ℕ, ◌*◌, ◌≤◌}
use native.Mathlib.Nat.{mul-one, le_of_eq, le_trans}
use native.Mathlib.Omega.{arith}
use lib.Dec.{T, lit<}
use lib.IntN.{ℤ, pos}
use lib.Ieee.{Float, nan, inf, fin, binary32, up, down, mul, le, fits, of_bits}
use lib.Ieee.Exact.{HasValue}
use lib.Ieee.Fits.{down_pos, mul-fits}
use lib.Ieee.Nearest.{closest, closest_mono}
use Rattle.floats.specs.Values.{zero_f, one_f}
use Rattle.floats.specs.Floats.{abs_of, round_even}
use Rattle.floats.proofs.Scaled.{Casts, product, rounded, even_fits, casts}
use Rattle.floats.proofs.Near.{closest_exact}
use Rattle.floats.proofs.Pattern.{fits_sign}
use Rattle.floats.proofs.Signed.{le→⊑}
use Rattle.answer.specs.Limits.{step_power, step_count}
use Rattle.split.specs.Split.{is_weight, steps_over, steps_of}

-- the code's factor
abbrev pub steps_f : Float
steps_f = fin false 1 (pos step_power)

-- ---- as the code has it
-- what is cast, and the whole number that it is
abbrev code : ℕ → ℤ → Float
code m e = round_even binary32 (mul binary32 (fin false m e) steps_f)

abbrev steps : ℕ → ℤ → ℕ
steps m e = closest (m * up e * step_count) (down e)

module _ (m : ℕ) (e : ℤ) (F : T (fits binary32 (fin false m e))) (h : m * up e ≤ down e) where
  steps_few : steps m e ≤ step_count
  steps_few =
      le_trans (closest_mono (m * up e * step_count) (down e) step_count 1 (down_pos e) (lit< tt) (omega (arith, h)))
      (le_of_eq (closest_exact step_count 1 step_count (lit< tt) refl))

  steps_value : HasValue (code m e) false (steps m e) 1
  steps_value =
      let y = mul binary32 (fin false m e) steps_f in
      subst (λ d. HasValue (code m e) false (closest (m * up e * step_count) d) 1) (mul-one (down e))
      (rounded y (m * up e * step_count) (down e * 1) (rw mul-one (down_pos e)) (mul-fits binary32 (fin false m e) steps_f)
      (product m e step_power (lit< tt) F h))

  steps_cast : Casts (code m e) (steps m e)
  steps_cast = casts (code m e) (steps m e) (omega (arith, steps_few)) (even_fits (mul binary32 (fin false m e) steps_f)) steps_value

-- w is a weight, and r what the code casts
weight_steps : (w r : Float) → T (fits binary32 w) → is_weight w → r ≡ round_even binary32 (mul binary32 (abs_of w) steps_f)
    → Casts r (steps_of w) × (steps_of w ≤ step_count)
unfolding le of_bits steps_over
weight_steps nan r F b q = absurd b.0
weight_steps (inf true) r F b q = absurd b.0
weight_steps (inf false) r F b q = absurd b.1
weight_steps (fin false m e) r F b q =
    let h : m * up e ≤ down e = omega (arith, le→⊑ (fin false m e) one_f tt tt b.1) in
    (rw q (steps_cast m e F h), steps_few m e F h)
weight_steps (fin true m e) r F b q =
    let n : m * up e ≡ 0 = omega (arith, le→⊑ zero_f (fin true m e) tt tt b.0) in
    let h : m * up e ≤ down e = omega arith in
    let same : steps m e ≡ closest (0 * step_count) (down e) = ap (λ k. closest (k * step_count) (down e)) n in
    let G = fits_sign binary32 true false m e F in
    (rw (q, sym same) (steps_cast m e G h), rw (sym same) (steps_few m e G h))

-- the same, a being its size
pub cast : (w a r : Float) → T (fits binary32 w) → is_weight w → a ≡ abs_of w → r ≡ round_even binary32 (mul binary32 a steps_f)
    → Casts r (steps_of w) × (steps_of w ≤ step_count)
cast w a r F b p q = weight_steps w r F b (q ∙ ap (λ x. round_even binary32 (mul binary32 x steps_f)) p)
