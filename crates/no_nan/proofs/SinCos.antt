-- Sin and Cos of a value below 48,000 in size are finite. Assumes nothing.
use Prim.Native.Nat.{ℕ, suc, ◌+◌, ◌*◌, ◌^◌, ◌≤◌, ◌<◌}
use mathlib.Core.Path.{sym, ◌∙◌}
use native.Mathlib.Nat.{le_of_eq, le_trans, le_refl, mul-one, zero-mul}
use native.Mathlib.Omega.{arith}
use mathlib.Core.Bool.{Bool, true, false, cond}
use lib.IntN.{ℤ, pos}
use lib.Dec.{T, lit≤, lit<}
use lib.Ieee.{Float, nan, inf, fin, binary32, up, down, add, sub, mul, neg, lt, le, of_bits}
use lib.Ieee.Fits.{down_pos}
use lib.Ieee.Nearest.{closest, closest_mono}
use lib.Ieee.Scale.{finite}
use Rattle.floats.specs.Values.{zero_f, one_f}
use Rattle.consts.specs.Consts.{pi, minus_pi, inv2_pi, half_pi, two_pi_hi, two_pi_lo, sin_a3, sin_a5, sin_b2, sin_b4, large_threshold}
use Rattle.floats.specs.Floats.{mul_add, abs_of, round_even}
use Rattle.floats.proofs.Magnitude.{Below, below_fin, below_mono, between_below, round_below, mul_below, add_below, sub_below, div_below}
use Rattle.floats.proofs.Near.{closest_exact}
use Rattle.floats.proofs.NotNegative.{square_le, add_le, mul_le}
use Rattle.floats.proofs.Order.{le_trans_f, lt→le}
use Rattle.floats.proofs.Sign.{finite_number}
use Rattle.floats.proofs.Signed.{⊑→le, le_neg}
use Rattle.floats.proofs.FromOne.{plus_one}
use Rattle.floats.specs.Between.{Between}
use Rattle.floats.proofs.Between.{between_wider, box, mul_between}
use Rattle.sin_cos.specs.SinCos.{min_of, max_of, turns_of, reduced_of, fold_high, fold_low, fold_of, numerator, denominator, ratio_of, sin_of, cos_of}
use Rattle.lists.proofs.Tests.{all_of}

-- ---- the domain
sides : (m : ℕ) (e : ℤ) → T (le (fin true m e) (fin false m e))
sides m e = ⊑→le (fin true m e) (fin false m e) tt tt (simp zero-mul (omega arith))

abs_between : (x y : Float) → T (finite x) → T (le (abs_of x) y) → Between (neg y) y x
unfolding neg
abs_between nan y F h = absurd F
abs_between (inf s) y F h = absurd F
abs_between (fin true m e) y F h = (le_neg (fin false m e) y h, le_trans_f (fin true m e) (fin false m e) y (sides m e) h)
abs_between (fin false m e) y F h = (le_trans_f (neg y) (fin true m e) (fin false m e) (le_neg (fin false m e) y h) (sides m e), h)

threshold : T (le (fin true 1 (pos 16)) (neg large_threshold)) × T (le large_threshold (fin false 1 (pos 16)))
    × T (all_of (box (neg large_threshold) large_threshold inv2_pi inv2_pi (fin true 1 (pos 13)) (fin false 1 (pos 13)))) × Between inv2_pi inv2_pi inv2_pi
unfolding neg mul le of_bits
threshold = (tt, tt, tt, (tt, tt))

-- ---- the constants
record Constants : Type 0 where
  turn_high : Below 3 two_pi_hi
  turn_low : Below 0 two_pi_lo
  pi_size : Below 2 pi
  minus_pi_size : Below 2 minus_pi
  half_pi_size : Below 1 half_pi
  a3_size : Below 0 sin_a3
  a5_size : Below 0 sin_a5
  b2_size : Below 0 sin_b2
  b4_size : Below 0 sin_b4
  one_size : Below 0 one_f
  b2_above : T (le zero_f sin_b2)
  b4_above : T (le zero_f sin_b4)

trig : Constants
unfolding le of_bits
trig =
    record {
      turn_high = lit≤ tt;
      turn_low = lit≤ tt;
      pi_size = lit≤ tt;
      minus_pi_size = lit≤ tt;
      half_pi_size = lit≤ tt;
      a3_size = lit≤ tt;
      a5_size = lit≤ tt;
      b2_size = lit≤ tt;
      b4_size = lit≤ tt;
      one_size = lit≤ tt;
      b2_above = tt;
      b4_above = tt;
    }

-- ---- steps
even_below : (k : ℕ) (x : Float) → k ≤ 127 → Below k x → Below k (round_even binary32 x)
unfolding round_even
even_below k nan u h = h
even_below k (inf s) u h = h
even_below k (fin s m e) u h =
    round_below binary32 s (closest (m * up e) (down e)) 1 k (lit< tt) u
    (le_trans (closest_mono (m * up e) (down e) (2 ^ k) 1 (down_pos e) (lit< tt) (le_trans (le_of_eq (mul-one (m * up e))) h))
    (le_of_eq (closest_exact (2 ^ k) 1 (2 ^ k) (lit< tt) (sym (mul-one (2 ^ k))) ∙ sym (mul-one (2 ^ k)))))

mul_add_below : (i j l k : ℕ) (x y c : Float) → i + j ≤ k → l ≤ k → k < 127 → Below i x → Below j y → Below l c
    → Below (suc k) (mul_add x y c)
mul_add_below i j l k x y c t u v h g f =
    add_below binary32 k l k (mul binary32 x y) c (le_refl k) u v (mul_below binary32 i j k x y t (omega arith) h g) f

cond_below : (k : ℕ) (b : Bool) (x y : Float) → Below k x → Below k y → Below k (cond b x y)
cond_below k true x y h l = h
cond_below k false x y h l = l

-- x less its whole turns
reduced_below : (x : Float) → Between (neg large_threshold) large_threshold x → Below 18 (reduced_of x)
unfolding reduced_of
reduced_below x b =
    let n = turns_of x in
    let y = mul binary32 x inv2_pi in
    let s = mul_between (neg large_threshold) large_threshold inv2_pi inv2_pi (fin true 1 (pos 13)) (fin false 1 (pos 13)) x inv2_pi
    threshold.2 b threshold.3 in
    let N = even_below 13 y (lit≤ tt) (between_below 13 y s.0 s.1) in
    let w = between_wider (fin true 1 (pos 16)) (neg large_threshold) large_threshold (fin false 1 (pos 16)) x threshold.0 threshold.1 b in
    let p = mul binary32 n two_pi_hi in
    let q = mul binary32 n two_pi_lo in
    sub_below binary32 17 13 17 (sub binary32 x p) q (lit≤ tt) (lit≤ tt) (lit≤ tt)
    (sub_below binary32 16 16 16 x p (lit≤ tt) (lit≤ tt) (lit≤ tt) (between_below 16 x w.0 w.1)
    (mul_below binary32 13 3 16 n two_pi_hi (lit≤ tt) (lit≤ tt) N trig.turn_high))
    (mul_below binary32 13 0 13 n two_pi_lo (lit≤ tt) (lit≤ tt) N trig.turn_low)

-- one fold: x or c - x
fold_high_below : (k : ℕ) (x : Float) → 2 ≤ k → k < 127 → Below k x → Below (suc k) (fold_high x)
unfolding min_of
fold_high_below k x u v h =
    let y = sub binary32 pi x in
    cond_below (suc k) (lt x y) x y (below_mono k (suc k) x (omega arith) h) (sub_below binary32 2 k k pi x u (le_refl k) v trig.pi_size h)

fold_low_below : (k : ℕ) (x : Float) → 2 ≤ k → k < 127 → Below k x → Below (suc k) (fold_low x)
unfolding max_of
fold_low_below k x u v h =
    let y = sub binary32 minus_pi x in
    cond_below (suc k) (lt y x) x y (below_mono k (suc k) x (omega arith) h) (sub_below binary32 2 k k minus_pi x u (le_refl k) v trig.minus_pi_size h)

fold_below : (x : Float) → Below 19 x → Below 22 (fold_of x)
unfolding fold_of
fold_below x h =
    fold_high_below 21 (fold_low (fold_high x)) (lit≤ tt) (lit≤ tt)
    (fold_low_below 20 (fold_high x) (lit≤ tt) (lit≤ tt) (fold_high_below 19 x (lit≤ tt) (lit≤ tt) h))

-- ---- the rational approximation: its denominator is 1 at least
under : (q : Float) → Below 44 q → T (le zero_f q) → T (le one_f (denominator q))
under q h z =
    let p = mul binary32 q sin_b4 in
    let P = mul_below binary32 44 0 44 q sin_b4 (lit≤ tt) (lit≤ tt) h trig.b4_size in
    let b = add binary32 p sin_b2 in
    let B = add_below binary32 44 0 44 p sin_b2 (lit≤ tt) (lit≤ tt) (lit≤ tt) P trig.b2_size in
    let Q = below_fin 44 q h in
    let u = add_le binary32 p sin_b2
    (mul_le binary32 q sin_b4 Q (below_fin 0 sin_b4 trig.b4_size) z trig.b4_above) trig.b2_above in
    (plus_one (mul binary32 q b) (mul_le binary32 q b Q (below_fin 45 b B) z u)).0

ratio_below : (x : Float) → Below 22 x → Below 112 (ratio_of x)
unfolding ratio_of of_bits
ratio_below x h =
    let q = mul binary32 x x in
    let Q = mul_below binary32 22 22 44 x x (lit≤ tt) (lit≤ tt) h h in
    let a = mul_add q sin_a5 sin_a3 in
    let u = mul_add q a one_f in
    let A = mul_add_below 44 0 0 44 q sin_a5 sin_a3 (lit≤ tt) (lit≤ tt) (lit≤ tt) Q trig.a5_size trig.a3_size in
    let U = mul_add_below 44 45 0 89 q a one_f (lit≤ tt) (lit≤ tt) (lit≤ tt) Q A trig.one_size in
    div_below binary32 112 (numerator q x) (denominator q) (lit≤ tt)
    (mul_below binary32 90 22 112 u x (lit≤ tt) (lit≤ tt) U h) (under q Q (square_le binary32 x (finite_number x (below_fin 22 x h))))

module _ (x : Float) (F : T (finite x)) (h : T (lt (abs_of x) large_threshold)) where
  rest_below : Below 18 (reduced_of x)
  rest_below = reduced_below x (abs_between x large_threshold F (lt→le (abs_of x) large_threshold h))

  pub sin_finite : T (finite (sin_of x))
  unfolding sin_of
  sin_finite =
      let r = reduced_of x in
      below_fin 112 (ratio_of (fold_of r)) (ratio_below (fold_of r) (fold_below r (below_mono 18 19 r (lit≤ tt) rest_below)))

  pub cos_finite : T (finite (cos_of x))
  unfolding cos_of
  cos_finite =
      let y = sub binary32 half_pi (reduced_of x) in
      below_fin 112 (ratio_of (fold_of y)) (ratio_below (fold_of y) (fold_below y
      (sub_below binary32 1 18 18 half_pi (reduced_of x) (lit≤ tt) (lit≤ tt) (lit≤ tt) trig.half_pi_size rest_below)))
