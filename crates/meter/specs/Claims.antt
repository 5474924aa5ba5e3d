-- The claims on feedings in pieces and on overs. Statements only.
use Rattle.std.specs.Prelude.{◌≤◌, ◌≡◌, true, false, Float, length}
use mathlib.Core.List.{List, ◌++◌, flatten}
use Rattle.floats.specs.Values.{f32}
use Rattle.meter.specs.Meter.{is_over, overs_in, new_meter, feed_of, feed_all}
use Rattle.std.specs.Prelude.{Ok}
use Rattle.meter.specs.declared.Meter.{Meter}

-- where the joined feeding isn't refused, neither piece is, and feeding them in order gives its meter
abbrev pub TwoPieces : Type 0
TwoPieces =
    (m n : Meter) (s t : List Float)
    → feed_of m (s ++ t) ≡ Ok n
    → (k : Meter) × (feed_of m s ≡ Ok k) × (feed_of k t ≡ Ok n)

-- so for any number of pieces
abbrev pub AllPieces : Type 0
AllPieces = (m n : Meter) (pieces : List (List Float)) → feed_of m (flatten pieces) ≡ Ok n → feed_all m pieces ≡ Ok n

-- the count is the number of samples fed, over any number of feedings that are not refused
abbrev pub CountIsFed : Type 0
CountIsFed = (n : Meter) (pieces : List (List Float)) → feed_all new_meter pieces ≡ Ok n → n.count ≡ length (flatten pieces)

-- and the overs are the number of such samples among them
abbrev pub OversAreFed : Type 0
OversAreFed = (n : Meter) (pieces : List (List Float)) → feed_all new_meter pieces ≡ Ok n → n.overs ≡ overs_in (flatten pieces)

-- never more than the count, in a meter that feedings reach from a new one
abbrev pub OversCounted : Type 0
OversCounted = (n : Meter) (pieces : List (List Float)) → feed_all new_meter pieces ≡ Ok n → n.overs ≤ n.count

-- by hand: 1.0 and -1.0 are overs; the f32 next below them in size, -0 and the largest subnormal are not
abbrev pub FullScale : Type 0
FullScale =
    (is_over (f32 0x3f80_0000) ≡ true) × (is_over (f32 0xbf80_0000) ≡ true) × (is_over (f32 0x3f7f_ffff) ≡ false) × (is_over (f32 0xbf7f_ffff) ≡ false)
    × (is_over (f32 0x8000_0000) ≡ false) × (is_over (f32 0x007f_ffff) ≡ false)
