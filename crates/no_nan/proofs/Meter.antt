-- The meter that a feeding hands back holds no NaN. Assumes nothing.
--
--   feed-no-nan : (m : Meter) (s : List Float) → FedNumbers m s
use mathlib.Core.Path.{sym, subst}
use mathlib.Core.List.{List}
use lib.Ieee.{Float}
use Rattle.floats.specs.Values.{zero_f}
use Rattle.floats.proofs.Order.{le_numbers}
use Rattle.meter.specs.Meter.{next_of}
use Rattle.meter.specs.declared.Meter.{Meter}
use Rattle.meter.proofs.Feed.{accepted}
use Rattle.meter.proofs.Sound.{next_parts}
use Rattle.no_nan.specs.NoNan.{Number}
use Rattle.no_nan.specs.Kernels.{FedNumbers}

pub feed_no_nan : (m : Meter) (s : List Float) → FedNumbers m s
feed_no_nan m s n e =
    let a = accepted m s n e in
    let p = next_parts m s a.0 in
    subst (λ (n : Meter). Number n.sum_squares × Number n.least × Number n.largest) (sym a.1)
    ((le_numbers zero_f (next_of m s).sum_squares p.sum).1, p.least, p.largest)
