-- Overs: by hand, by two comparisons, over joined lists, of nothing, and never more than samples. Assumes nothing.
use Prim.Native.Nat.{◌+◌, ◌≤◌}
use mathlib.Core.Path.{◌≡◌, refl, sym}
use mathlib.Core.Bool.{◌||◌}
use mathlib.Core.List.{List, [], ◌++◌}
use native.Mathlib.Omega.{arith}
use lib.IntN.{pos}
use lib.Ieee.{Float, nan, neg, lt, eq, le, of_bits}
use lib.ListN.{length, get_or}
use Rattle.lists.specs.Lists.{bit}
use Rattle.lists.proofs.Sum.{sum_none, sum_bits, sum_of_joined}
use Rattle.floats.specs.Values.{one_f}
use Rattle.floats.proofs.Size.{size_reaches}
use Rattle.meter.specs.Meter.{is_over, overs_in}
use Rattle.meter.specs.Claims.{FullScale}

pub full_scale : FullScale
unfolding of_bits le lt eq
full_scale = (refl, refl, refl, refl, refl, refl)

pub over_by_order : (x : Float) → is_over x ≡ le one_f x || le x (neg one_f)
unfolding of_bits neg
over_by_order x = size_reaches 1 (pos 0) x (omega arith)

pub overs_append : (s t : List Float) → overs_in (s ++ t) ≡ overs_in s + overs_in t
unfolding overs_in
overs_append s t = sum_of_joined (λ x. bit (is_over x)) nan s t

pub overs_none : overs_in [] ≡ 0
unfolding overs_in
overs_none = sym (sum_none _)

pub overs_few : (s : List Float) → overs_in s ≤ length s
unfolding overs_in
overs_few s = sum_bits (λ i. is_over (get_or s i nan)) (length s)
