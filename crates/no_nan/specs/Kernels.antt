-- What is claimed of the sums, the meter and normalize. Definitions only.
use Rattle.std.specs.Prelude.{◌≡◌, Bool, List, Float}
use Rattle.floats.specs.Values.{zero_f}
use Rattle.floats.specs.Each.{Each}
use Rattle.std.specs.Prelude.{Ok}
use Rattle.sum.specs.Sum.{sum_from, add_up_answer}
use Rattle.sum.specs.declared.SumOp.{SumOp}
use Rattle.meter.specs.Meter.{feed_of}
use Rattle.meter.specs.declared.Meter.{Meter}
use Rattle.normalize.specs.Normalize.{in_place_answer, in_place_out, normalize_answer, normalize_out}
use Rattle.normalize.specs.declared.Settings.{Settings}
use Rattle.no_nan.specs.NoNan.{Number}

-- a sum that is not refused is no NaN
abbrev pub SumNumber : SumOp → List Float → Type 0
SumNumber op s = (Ok tt) ≡ add_up_answer op s → Number (sum_from op zero_f s)

-- no float of the meter that a feeding hands back is a NaN
abbrev pub FedNumbers : Meter → List Float → Type 0
FedNumbers m s = (n : Meter) → feed_of m s ≡ Ok n → Number n.sum_squares × Number n.least × Number n.largest

-- what normalize leaves where it is done, in place and from one slice into another
abbrev pub InPlaceNumbers : Settings → Bool → List Float → Bool → List Float → List Float → Type 0
InPlaceNumbers st hs es hb eb s = (Ok tt) ≡ in_place_answer st hs es hb eb s → Each Number (in_place_out st hs es hb eb s)

abbrev pub NormalizeNumbers : Settings → Bool → List Float → Bool → List Float → List Float → List Float → Type 0
NormalizeNumbers st hs es hb eb s d = (Ok tt) ≡ normalize_answer st hs es hb eb s d → Each Number (normalize_out st hs es hb eb s d)
