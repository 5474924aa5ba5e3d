-- `Between lo hi z`, z from lo to hi: through products, by their four corners, and so through the steps of a polynomial. Assumes nothing.
use Rattle.std.proofs.Common.{Bool, true, false, cond, ◌&&◌, T, List, [], ◌∷◌, subst, inl, inr}
use lib.Ieee.{Float, binary32, add, sub, mul, neg, le, of_bits}
use lib.Ieee.Fits.{and_l, and_r}
use lib.Ieee.Scale.{finite}
use Rattle.floats.specs.Floats.{mul_add}
use Rattle.floats.proofs.Sign.{finite_number}
use Rattle.floats.proofs.Signed.{le_neg}
use Rattle.floats.proofs.Order.{le_trans_f, le_refl_f, le_total, finite_between}
use Rattle.floats.proofs.Monotone.{add_mono, sub_mono, mul_mono_r, mul_mono_l, mul_anti_l, mul_comm_f}
use Rattle.floats.proofs.NotNegative.{mul_le}
use Rattle.floats.specs.Values.{zero_f}
use Rattle.lists.proofs.Tests.{all_of, holds}
use Rattle.floats.specs.Between.{Between}

pub between_finite : (lo hi z : Float) → T (finite lo) → T (finite hi) → Between lo hi z → T (finite z)
between_finite lo hi z p q b = finite_between lo z hi p q b.0 b.1

-- wider ends
pub between_wider : (lo l h hi z : Float) → T (le lo l) → T (le h hi) → Between l h z → Between lo hi z
between_wider lo l h hi z p q b = (le_trans_f lo l z p b.0, le_trans_f z h hi b.1 q)

pub between_neg : (lo hi z : Float) → Between lo hi z → Between (neg hi) (neg lo) (neg z)
between_neg lo hi z b = (le_neg z hi b.1, le_neg lo z b.0)

-- ---- sums
pub add_between : (l h a b t r : Float) → T (finite l) → T (finite h) → T (finite a) → T (finite b) → Between l h t → Between a b r
    → Between (add binary32 l a) (add binary32 h b) (add binary32 t r)
add_between l h a b t r L H A B i j =
    let F = between_finite l h t L H i in
    let R = between_finite a b r A B j in (
      add_mono binary32 l t a r L F A R i.0 j.0,
      add_mono binary32 t h r b F H R B i.1 j.1,
    )

pub sub_between : (l h a b t r : Float) → T (finite l) → T (finite h) → T (finite a) → T (finite b) → Between l h t → Between a b r
    → Between (sub binary32 l b) (sub binary32 h a) (sub binary32 t r)
sub_between l h a b t r L H A B i j =
    let F = between_finite l h t L H i in
    let R = between_finite a b r A B j in (
      sub_mono binary32 l t b r L F B R i.0 j.1,
      sub_mono binary32 t h r a F H R A i.1 j.0,
    )

-- either of two values
pub cond_between : (lo hi : Float) (b : Bool) (y z : Float) → Between lo hi y → Between lo hi z → Between lo hi (cond b y z)
cond_between lo hi true y z i j = i
cond_between lo hi false y z i j = j

-- ---- products
-- c times r, by the products at the ends of r
side : (c r a b L H : Float) → T (finite c) → T (finite a) → T (finite b)
    → Between L H (mul binary32 c a) → Between L H (mul binary32 c b) → Between a b r → Between L H (mul binary32 c r)
unfolding of_bits
side c r a b L H C A B u v w =
    let R = between_finite a b r A B w in
    elim (le_total zero_f c (finite_number zero_f tt) (finite_number c C)) [
      | inl p ↦ (
        le_trans_f L (mul binary32 c a) (mul binary32 c r) u.0 (mul_mono_l binary32 c a r C A R p w.0),
        le_trans_f (mul binary32 c r) (mul binary32 c b) H (mul_mono_l binary32 c r b C R B p w.1) v.1,
      )
      | inr p ↦ (
        le_trans_f L (mul binary32 c b) (mul binary32 c r) v.0 (mul_anti_l binary32 c r b C R B p w.1),
        le_trans_f (mul binary32 c r) (mul binary32 c a) H (mul_anti_l binary32 c a r C A R p w.0) u.1,
      )
    ]

swap : (c a L H : Float) → Between L H (mul binary32 c a) → Between L H (mul binary32 a c)
swap c a L H b = subst (Between L H) (mul_comm_f binary32 c a) b

-- the four corners of t from l to h and r from a to b have products from L to H
abbrev pub box : Float → Float → Float → Float → Float → Float → List Bool
box l h a b L H =
    finite l
    ∷ finite h
    ∷ finite a
    ∷ finite b
    ∷ le L (mul binary32 l a)
    ∷ le (mul binary32 l a) H
    ∷ le L (mul binary32 l b)
    ∷ le (mul binary32 l b) H
    ∷ le L (mul binary32 h a)
    ∷ le (mul binary32 h a) H
    ∷ le L (mul binary32 h b)
    ∷ le (mul binary32 h b) H
    ∷ []

pub mul_between : (l h a b L H t r : Float) → T (all_of (box l h a b L H)) → Between l h t → Between a b r → Between L H (mul binary32 t r)
mul_between l h a b L H t r ok i j =
    let c = holds (box l h a b L H) ok in
    let low = side l r a b L H (c 0) (c 2) (c 3) (c 4, c 5) (c 6, c 7) j in
    let high = side h r a b L H (c 1) (c 2) (c 3) (c 8, c 9) (c 10, c 11) j in
    swap r t L H (side r t l h L H (between_finite a b r (c 2) (c 3) j) (c 0) (c 1) (swap l r L H low) (swap h r L H high) i)

-- p up to P, times s
pub scaled_between : (p P s : Float) → T (finite P) → T (finite s) → T (le zero_f s) → Between zero_f P p
    → Between zero_f (mul binary32 P s) (mul binary32 p s)
unfolding of_bits
scaled_between p P s F G z b =
    let K = between_finite zero_f P p tt F b in
    (mul_le binary32 p s K G b.0 z, mul_mono_r binary32 p P s K F G z b.1)

-- ---- polynomials, from the highest coefficient down
-- a step: the ends of the product t * r, and the coefficient that is added to it
abbrev pub Row : Type 0
Row = Float × Float × Float

abbrev pub horner : Float → Float → List Row → Float
horner t r [] = t
horner t r (w ∷ ws) = horner (mul_add t r w.2) r ws

-- the tests of all steps, and the ends after the last
abbrev finite_row : Row → List Bool
finite_row w = finite w.0 ∷ finite w.1 ∷ finite w.2 ∷ []

abbrev pub rows_ok : Float → Float → Float → Float → List Row → Bool
rows_ok l h a b [] = true
rows_ok l h a b (w ∷ ws) =
    all_of (box l h a b w.0 w.1) && (all_of (finite_row w) && rows_ok (add binary32 w.0 w.2) (add binary32 w.1 w.2) a b ws)

abbrev pub from_end : Float → List Row → Float
from_end l [] = l
from_end l (w ∷ ws) = from_end (add binary32 w.0 w.2) ws

abbrev pub to_end : Float → List Row → Float
to_end h [] = h
to_end h (w ∷ ws) = to_end (add binary32 w.1 w.2) ws

pub horner_between : (ws : List Row) (l h a b t r : Float) → T (rows_ok l h a b ws) → Between l h t → Between a b r
    → Between (from_end l ws) (to_end h ws) (horner t r ws)
horner_between [] l h a b t r ok i j = i
horner_between (w ∷ ws) l h a b t r ok i j =
    let L = w.0 in
    let H = w.1 in
    let c = w.2 in
    let later = rows_ok (add binary32 L c) (add binary32 H c) a b ws in
    let corners = all_of (box l h a b L H) in
    let others = all_of (finite_row w) && later in
    let f = holds (finite_row w) (and_l (all_of (finite_row w)) later (and_r corners others ok)) in
    let same = le_refl_f c (finite_number c (f 2)) in
    let m = mul_between l h a b L H t r (and_l corners others ok) i j in
    horner_between ws (add binary32 L c) (add binary32 H c) a b (mul_add t r c) r (and_r (all_of (finite_row w)) later (and_r corners others ok))
    (add_between L H c c (mul binary32 t r) c (f 0) (f 1) (f 2) (f 2) m (same, same)) j
