-- Where the joined feeding isn't refused no piece is, and feeding the pieces in order gives the same meter. Assumes nothing.
use mathlib.Core.Bool.{true}
use mathlib.Core.Path.{◌≡◌, sym, ◌∙◌, ap}
use mathlib.Core.List.{List, [], ◌∷◌, ◌++◌, flatten}
use native.Mathlib.Nat.{add_assoc, add-zero}
use native.Mathlib.Omega.{arith}
use lib.Ieee.{Float}
use lib.Ieee.Scale.{finite}
use lib.ListN.{length-append}
use Rattle.floats.proofs.Each.{each_left, each_right}
use Rattle.min_max.proofs.Fold.{extreme_append, extreme_none}
use Rattle.sum.proofs.Fold.{sum_append, sum_none}
use Rattle.meter.specs.Meter.{next_of, feed_all}
use Rattle.meter.specs.declared.Meter.{Meter}
use Rattle.meter.specs.Claims.{TwoPieces, AllPieces}
use Rattle.meter.proofs.Feed.{Accepted, accepts, accepted}
use Rattle.meter.proofs.Overs.{overs_append, overs_none}
use Rattle.std.specs.Prelude.{Ok}
use Rattle.meter.proofs.Sound.{next_sound}

-- the next meter's next one is the joined feeding's
next_append : (m : Meter) (s t : List Float) → next_of m (s ++ t) ≡ next_of (next_of m s) t
next_append m s t = simp (length-append, overs_append, add_assoc, sum_append, extreme_append)

next_none : (m : Meter) → next_of m [] ≡ m
next_none m = simp (overs_none, add-zero, sum_none, extreme_none)

abbrev Finite : Float → Type 0
Finite x = finite x ≡ true

module _ (m : Meter) (s t : List Float) (a : Accepted m (s ++ t)) where
  first_accepted : Accepted m s
  first_accepted =
      let l = length-append s t in
      record {
        few = omega (arith, a.few);
        room = omega (arith, a.room);
        sound = a.sound;
        each_finite = each_left Finite s t a.each_finite;
      }

  second_accepted : Accepted (next_of m s) t
  second_accepted =
      let l = length-append s t in
      record {
        few = omega (arith, a.few);
        room = omega (arith, a.room);
        sound = next_sound m s first_accepted;
        each_finite = each_right Finite s t a.each_finite;
      }

pub two_pieces : TwoPieces
two_pieces m n s t e =
    let a = accepted m (s ++ t) n e in (
      next_of m s,
      sym (accepts m s (first_accepted m s t a.0)),
      sym (accepts (next_of m s) t (second_accepted m s t a.0)) ∙ ap Ok (sym (a.1 ∙ next_append m s t)),
    )

pub all_pieces : AllPieces
unfolding flatten feed_all
all_pieces m n [] e = ap Ok (sym ((accepted m [] n e).1 ∙ next_none m))
all_pieces m n (s ∷ pieces) e =
    let p = two_pieces m n s (flatten pieces) e in
    rw p.1 (all_pieces p.0 n pieces p.2)
