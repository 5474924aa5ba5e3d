-- A sound meter, part by part, and the meter after finite samples: it is sound again. Assumes nothing.
use Prim.Native.Nat.{ℕ, ◌≤◌, ◌<◌}
use mathlib.Core.Path.{◌≡◌, sym, subst}
use mathlib.Core.Bool.{true, not, ◌&&◌}
use mathlib.Core.List.{List}
use native.Mathlib.Omega.{arith}
use borrow.Author.Tests.{leb-true, le-leb}
use lib.Dec.{T, T_not, not_T, leb}
use lib.Ieee.{Float, nan, of_bits, lt, le, is_nan}
use lib.Ieee.Bits.{is_true}
use lib.Ieee.Fits.{and_l, and_r, and_i}
use lib.ListN.{length, get_or}
use Rattle.lists.proofs.First.{Passed}
use Rattle.floats.specs.Floats.{finite_at}
use Rattle.floats.proofs.Sign.{finite_number}
use Rattle.floats.proofs.Order.{le_numbers, lt→nle, nlt→le}
use Rattle.floats.proofs.NotNegative.{square_add_le}
use Rattle.floats.specs.Values.{zero_f}
use Rattle.min_max.specs.MinMax.{Least, Largest}
use Rattle.min_max.proofs.Joined.{extreme_number}
use Rattle.sum.specs.declared.SumOp.TheVariants.{SumSquare}
use Rattle.sum.proofs.Fold.{sum_keeps}
use Rattle.meter.specs.Meter.{sound_meter, next_of}
use Rattle.meter.specs.declared.Meter.{Meter}
use Rattle.meter.proofs.Feed.{Accepted}
use Rattle.meter.proofs.Overs.{overs_few}

-- a sound meter, part by part
pub record Sound (m : Meter) : Type 0 where
  pub sum : T (le zero_f m.sum_squares)
  pub least : T (not (is_nan m.least))
  pub largest : T (not (is_nan m.largest))
  pub overs : m.overs ≤ m.count

zero_number : T (not (is_nan zero_f))
unfolding of_bits is_nan
zero_number = tt

pub sound_parts : (m : Meter) → T (sound_meter m) → Sound m
sound_parts m t =
    let a = not (is_nan m.sum_squares) in
    let b = not (is_nan m.least) in
    let c = not (is_nan m.largest) in
    let d = not (lt m.sum_squares zero_f) in
    let abcd = and_l (a && b && c && d) _ t in
    let abc = and_l (a && b && c) d abcd in
    let ab = and_l (a && b) c abc in
    record {
      sum = nlt→le m.sum_squares zero_f (and_l a b ab) zero_number (and_r (a && b && c) d abcd);
      least = and_r a b ab;
      largest = and_r (a && b) c abc;
      overs = leb-true _ _ (is_true _ (and_r (a && b && c && d) _ t));
    }

parts_sound : (m : Meter) → Sound m → T (sound_meter m)
parts_sound m p =
    let a = not (is_nan m.sum_squares) in
    let b = not (is_nan m.least) in
    let c = not (is_nan m.largest) in
    let x = m.sum_squares in
    let d = not_T (lt x zero_f) (λ (h : T (lt x zero_f)). T_not (le zero_f x) (lt→nle x zero_f h) p.sum) in
    let abc = and_i (a && b) c (and_i a b (le_numbers zero_f x p.sum).1 p.least) p.largest in
    and_i (a && b && c && not (lt x zero_f)) (leb m.overs m.count) (and_i (a && b && c) (not (lt x zero_f)) abc d)
    (subst T (sym (le-leb _ _ p.overs)) tt)

-- finite samples are numbers
pub each_number : (s : List Float) → Passed (finite_at s) (length s) → (i : ℕ) → i < length s → T (not (is_nan (get_or s i nan)))
each_number s p i h = finite_number _ (subst T (sym (p i h)) tt)

pub next_parts : (m : Meter) (s : List Float) → Accepted m s → Sound (next_of m s)
next_parts m s a =
    let p = sound_parts m (subst T (sym a.sound) tt) in
    record {
      sum = sum_keeps SumSquare (λ b. T (le zero_f b)) (λ b x k f. square_add_le b x k (finite_number x f)) s a.each_finite m.sum_squares p.sum;
      least = extreme_number Least m.least s p.least;
      largest = extreme_number Largest m.largest s p.largest;
      overs = omega (arith, p.overs, overs_few s);
    }

pub next_sound : (m : Meter) (s : List Float) → Accepted m s → sound_meter (next_of m s) ≡ true
next_sound m s a = is_true (sound_meter (next_of m s)) (parts_sound (next_of m s) (next_parts m s a))
