-- What the promises of the meter's methods determine: two outcomes that one allows are equal. Assumes nothing.
use Prim.Native.Nat.{ℕ}
use mathlib.Core.Path.{◌≡◌, sym, ◌∙◌, ap}
use mathlib.Core.List.{List}
use mathlib.Core.Option.{none, some, get_or}
use native.Mathlib.Omega.{arith}
use lib.Ieee.{Float}
use Rattle.answer.proofs.Numbers.{refusal_one}
use Rattle.meter.specs.Meter.{new_meter, feed_of, values_of, fed_told}
use Rattle.meter.specs.declared.Meter.{Meter}
use Rattle.std.specs.Prelude.{Ok, Err}
use Rattle.meter.specs.Meter.{Fed}

-- five values make a meter
made : ℕ × ℕ × Float × Float × Float → Meter
made v = record { count = v.0; overs = v.1; sum_squares = v.2; least = v.3; largest = v.4 }

told_some : (v : ℕ × ℕ × Float × Float × Float) → some v ≡ none → ⊥
told_some v e = let z : ◌≡◌ {A = ℕ} 0 1 = cc in omega arith

-- what is told is one to one
pub fed_one : (r q : Fed) → fed_told r ≡ fed_told q → r ≡ q
unfolding made
fed_one (Ok m) (Ok n) e = ap (λ o. Ok (made (get_or o (values_of m)))) (ap (λ t. t.1) e)
fed_one (Ok m) (Err r) e = absurd (told_some (values_of m) (ap (λ t. t.1) e))
fed_one (Err r) (Ok m) e = absurd (told_some (values_of m) (sym (ap (λ t. t.1) e)))
fed_one (Err r) (Err q) e = ap Err (refusal_one r q (ap (λ t. t.0.0) e) (ap (λ t. t.0.1) e))

pub feed_determined : (m : Meter) (s : List Float) (r q : Fed) → fed_told r ≡ fed_told (feed_of m s) → fed_told q ≡ fed_told (feed_of m s) → r ≡ q
feed_determined m s r q x y = fed_one r q (x ∙ sym y)

pub new_determined : (r q : Meter) → r ≡ new_meter → q ≡ new_meter → r ≡ q
new_determined r q x y = x ∙ sym y
