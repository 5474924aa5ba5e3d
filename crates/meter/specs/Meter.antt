-- RULES, Meter: the start, the next meter, the refusals, what a feeding tells, and feedings that chain. Definitions only.
use Rattle.std.specs.Prelude.{ℕ, ◌+◌, Bool, true, false, not, ◌&&◌, List, [], ◌∷◌, ltb, leb, Float, length, get_or}
use Rattle.std.proofs.Math.Option.{Option, none, some}
use Rattle.std.specs.Float.{nan, inf}
use Rattle.std.specs.Float.Ieee.{lt, le, is_nan}
use Rattle.lists.specs.Lists.{sum_to, bit}
use Rattle.answer.specs.Answer.{Test, judged, told_of}
use Rattle.answer.specs.Limits.{element_limit}
use Rattle.answer.specs.Answer.{Answer}
use Rattle.answer.specs.declared.Refusal.{Refusal}
use Rattle.answer.specs.declared.Refusal.TheVariants.{TooMany, NotFinite, Domain}
use Rattle.floats.specs.Values.{zero_f, one_f}
use Rattle.min_max.specs.MinMax.{least_from, largest_from}
use Rattle.floats.specs.Floats.{abs_of, first_not_finite}
use Rattle.sum.specs.Sum.{sum_from}
use Rattle.sum.specs.declared.SumOp.TheVariants.{SumSquare}
use Rattle.std.specs.Prelude.{Result, Ok, Err}
use Rattle.meter.specs.declared.Meter.{Meter}

-- what a feeding hands back: the next meter, or why it is refused
abbrev pub Fed : Type 0
Fed = Result Meter Refusal

abbrev pub count_limit : ℕ
count_limit = 4294967295

abbrev pub new_meter : Meter
new_meter = record { count = 0; overs = 0; sum_squares = zero_f; least = inf false; largest = inf true }

-- a sample whose size is at least 1.0, full scale
abbrev pub is_over : Float → Bool
is_over x = le one_f (abs_of x)

-- 1 where the sample at place i of a list is one, else 0, and how many of the list's samples are
abbrev pub over_at : List Float → ℕ → ℕ
over_at s i = bit (is_over (get_or s i nan))

unfoldable pub overs_in : List Float → ℕ
overs_in s = sum_to (over_at s) (length s)

-- the next meter: every sample and every over counted, and the three folds continued from the held values
abbrev pub next_of : Meter → List Float → Meter
next_of m s =
    record {
      count = m.count + length s;
      overs = m.overs + overs_in s;
      sum_squares = sum_from SumSquare m.sum_squares s;
      least = least_from m.least s;
      largest = largest_from m.largest s;
    }

-- no float is a NaN, the sum of squares is not below zero, and there are no more overs than samples
abbrev pub sound_meter : Meter → Bool
sound_meter m =
    not (is_nan m.sum_squares) && not (is_nan m.least) && not (is_nan m.largest) && not (lt m.sum_squares zero_f) && leb m.overs m.count

-- the refusals in order (RULES, Order)
abbrev pub tests : Meter → List Float → List Test
tests m s =
    (ltb element_limit (length s), TooMany)
    ∷ (ltb count_limit (m.count + length s), TooMany)
    ∷ (not (sound_meter m), NotFinite)
    ∷ (ltb (first_not_finite s) (length s), Domain (first_not_finite s))
    ∷ []

-- the meter where none holds, the refusal where one does
abbrev pub fed_by : Answer → Meter → Fed
fed_by (Ok tt) m = Ok m
fed_by (Err r) m = Err r

unfoldable pub feed_of : Meter → List Float → Fed
feed_of m s = fed_by (judged (tests m s)) (next_of m s)

-- what a feeding tells: number and place, and the next meter's five values, or nothing
abbrev pub values_of : Meter → ℕ × ℕ × Float × Float × Float
values_of m = (m.count, m.overs, m.sum_squares, m.least, m.largest)

abbrev pub fed_told : Fed → (ℕ × ℕ) × Option (ℕ × ℕ × Float × Float × Float)
fed_told (Ok m) = (told_of (Ok tt), some (values_of m))
fed_told (Err r) = (told_of (Err r), none)

-- feedings that chain: each into the meter that the one before it handed back, up to the first refusal
abbrev pub onward : Fed → (Meter → Fed) → Fed
onward (Ok m) then = then m
onward (Err r) then = Err r

unfoldable pub feed_all : Meter → List (List Float) → Fed
feed_all m [] = Ok m
feed_all m (s ∷ pieces) = onward (feed_of m s) (λ next. feed_all next pieces)
