-- Count and overs are those of all samples fed, over any number of accepted feedings. Assumes nothing.
use Prim.Native.Nat.{ℕ, ◌+◌}
use mathlib.Core.Path.{◌≡◌, refl, ap}
use mathlib.Core.List.{List, [], ◌∷◌, ◌++◌, flatten}
use native.Mathlib.Omega.{arith}
use lib.Ieee.{Float}
use lib.ListN.{length, length-append}
use Rattle.meter.specs.Meter.{overs_in, new_meter, next_of, feed_of, feed_all, onward}
use Rattle.meter.specs.declared.Meter.{Meter}
use Rattle.meter.specs.Meter.{Fed}
use Rattle.meter.specs.Claims.{CountIsFed, OversAreFed, OversCounted}
use Rattle.meter.proofs.Feed.{accepted}
use Rattle.std.specs.Prelude.{Ok, Err}
use Rattle.meter.proofs.Overs.{overs_append, overs_none, overs_few}

-- a number of the meter that grows by a number of the samples, from any meter on
module _ (number : Meter → ℕ) (of : List Float → ℕ) (none : of [] ≡ 0) (joined : (s t : List Float) → of (s ++ t) ≡ of s + of t)
    (next : (m : Meter) (s : List Float) → number (next_of m s) ≡ number m + of s) where
  grows : (m n : Meter) (pieces : List (List Float)) → feed_all m pieces ≡ Ok n → number n ≡ number m + of (flatten pieces)
  unfolding flatten feed_all
  grows m n [] e = let same : number m ≡ number n = cc in omega (arith, none)
  grows m n (s ∷ pieces) e = go (feed_of m s) refl (λ k. grows k n pieces) e
    where
      go : (f : Fed) → feed_of m s ≡ f → ((k : Meter) → feed_all k pieces ≡ Ok n → number n ≡ number k + of (flatten pieces))
          → onward f (λ k. feed_all k pieces) ≡ Ok n → number n ≡ number m + of (s ++ flatten pieces)
      go (Ok k) f rest e =
          let c : number k ≡ number (next_of m s) = ap number (accepted m s k f).1 in
          omega (arith, next m s, rest k e, joined s (flatten pieces))
      go (Err r) f rest e = absurd (let z : ◌≡◌ {A = ℕ} 0 1 = cc in omega arith)

pub count_is_fed : CountIsFed
count_is_fed n pieces e = omega (arith, grows (λ m. m.count) length refl length-append (λ m s. refl) new_meter n pieces e)

pub overs_are_fed : OversAreFed
overs_are_fed n pieces e = omega (arith, grows (λ m. m.overs) overs_in overs_none overs_append (λ m s. refl) new_meter n pieces e)

pub overs_counted : OversCounted
overs_counted n pieces e = omega (arith, count_is_fed n pieces e, overs_are_fed n pieces e, overs_few (flatten pieces))
