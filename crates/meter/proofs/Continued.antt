-- The meter's values are the folds of `sum` and `min_max`, continued. Assumes nothing.
use mathlib.Core.Path.{◌≡◌, refl, ap}
use mathlib.Core.List.{List}
use lib.Ieee.{Float}
use lib.Ieee.Bits.{is_true}
use borrow.Author.Tests.{le-ltb}
use Rattle.answer.proofs.Chain.{gives, clear, skip, none_found}
use Rattle.answer.proofs.Told.{tells_done}
use Rattle.min_max.specs.MinMax.{extremes_answer, extremes_told, min_max_told}
use Rattle.min_max.proofs.Taken.{takes}
use Rattle.sum.specs.Sum.{add_up_answer, total_told, add_up_told}
use Rattle.sum.specs.declared.SumOp.TheVariants.{SumSquare}
use Rattle.meter.specs.Meter.{new_meter, next_of, feed_of}
use Rattle.meter.specs.declared.Meter.{Meter}
use Rattle.meter.proofs.Feed.{Accepted, accepted}
use Rattle.std.specs.Prelude.{Ok}
use Rattle.meter.proofs.Sound.{each_number}

-- each value by its own fold, from the held one (`next_of` of specs/Meter.antt)
pub continued : (m n : Meter) (s : List Float) → feed_of m s ≡ Ok n → n ≡ next_of m s
continued m n s e = (accepted m s n e).1

-- what a meter takes, the sum and the extremes take
sum_takes : (m : Meter) (s : List Float) → Accepted m s → (Ok tt) ≡ add_up_answer SumSquare s
unfolding add_up_answer
sum_takes m s a = gives (skip (le-ltb _ _ a.few) (skip refl (none_found a.each_finite clear)))

extremes_take : (m : Meter) (s : List Float) → Accepted m s → (Ok tt) ≡ extremes_answer s
extremes_take m s a = takes s (record { few = a.few; domain = λ i h. is_true _ (each_number s a.each_finite i h) })

-- of a new meter they are what `add_up` and `min_max` answer
pub new_fed : (n : Meter) (s : List Float) → feed_of new_meter s ≡ Ok n
    → (total_told (Ok n.sum_squares) ≡ add_up_told SumSquare s)
    × (extremes_told (Ok (record { least = n.least; largest = n.largest })) ≡ min_max_told s)
new_fed n s e =
    let a = accepted new_meter s n e in (
      tells_done _ _ (Ok tt) refl (sum_takes new_meter s a.0) (ap (λ (n : Meter). n.sum_squares) a.1),
      tells_done _ _ (Ok tt) refl (extremes_take new_meter s a.0) (ap (λ (n : Meter). (n.least, n.largest)) a.1),
    )
