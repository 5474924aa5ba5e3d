-- Order doesn't matter as numbers: the same elements have equal extremes, and of f32s only a zero may change sign. Assumes nothing.
use Prim.Native.Nat.{zero, suc}
use native.Mathlib.Omega.{arith}
use mathlib.Core.Path.{◌≡◌, refl, sym, ap₂, subst, ◌∙◌}
use mathlib.Core.Logic.{inl, inr}
use mathlib.Core.Bool.{Bool, true, false, not, true≢false}
use mathlib.Core.List.{List, [], ◌∷◌}
use lib.Dec.{T}
use lib.IntN.{pos}
use lib.Ieee.{Float, fin, binary32, of_bits, fits, eq, le, lt, is_nan}
use Rattle.floats.specs.Values.{zero_f}
use Rattle.floats.specs.Each.{Each}
use Rattle.floats.proofs.Order.{le_antisym, le_both, not_lt}
use Rattle.min_max.specs.MinMax.{Side, Least, Largest, beyond, start_of, keep, extreme_from, extreme_of}
use Rattle.min_max.proofs.Sides.{start_number}
use Rattle.min_max.proofs.Joined.{extreme_one}
use Rattle.min_max.proofs.Reached.{Reached, reached}
use Rattle.min_max_facts.specs.MinMaxFacts.{Turned, Within, AnyOrder, OnlyZeros, ZeroTurns}
use Rattle.min_max_facts.proofs.Grouping.{two_pieces, answer_is_number}

from_start : (side : Side) (s : List Float) → Reached side (start_of side) s (extreme_of side s)
from_start side s = reached side (start_of side) s (start_number side)

-- what fewer elements reach does not lie beyond what more do
not_past : (side : Side) (s t : List Float) → Within s t → beyond side (extreme_of side s) (extreme_of side t) ≡ false
not_past side s t w = elim (from_start side s).one_of [
  | inl e ↦ rw e (from_start side t).old
  | inr a ↦ let b = w a.0 a.1 in rw a.2 (rw b.2 at ((from_start side t).all b.0 b.1))
]

-- of two numbers neither lies beyond the other: each is at most the other
neither : (side : Side) (x y : Float) → T (not (is_nan x)) → T (not (is_nan y)) → beyond side x y ≡ false → beyond side y x ≡ false → T (le x y) × T (le y x)
neither Least x y p q e f = (not_lt y x q p f, not_lt x y p q e)
neither Largest x y p q e f = (not_lt y x q p e, not_lt x y p q f)

level : (side : Side) (s t : List Float) → Within s t → Within t s
    → T (le (extreme_of side s) (extreme_of side t)) × T (le (extreme_of side t) (extreme_of side s))
level side s t v w = neither side _ _ (answer_is_number side s) (answer_is_number side t) (not_past side s t v) (not_past side t s w)

pub any_order : AnyOrder
any_order side s t v w = let l = level side s t v w in le_both _ _ l.0 l.1

-- ---- two numbers, as the list of them
of_two : (side : Side) (x y : Float) → T (not (is_nan x)) → T (not (is_nan y)) → extreme_of side (x ∷ y ∷ []) ≡ keep side x y
of_two side x y p q = two_pieces side (x ∷ []) (y ∷ []) ∙ ap₂ (keep side) (extreme_one side x p) (extreme_one side y q)

other_way : (x y : Float) → Within (x ∷ y ∷ []) (y ∷ x ∷ [])
other_way x y zero h = (1, omega arith, refl)
other_way x y (suc zero) h = (0, omega arith, refl)
other_way x y (suc (suc i)) h = absurd (omega arith)

pub turned : Turned
turned side x y p q =
    subst T (ap₂ eq (of_two side x y p q) (of_two side y x q p)) (any_order side (x ∷ y ∷ []) (y ∷ x ∷ []) (other_way x y) (other_way y x))

-- ---- to the bit
abbrev Fits : Float → Type 0
Fits x = T (fits binary32 x)

start_fits : (side : Side) → Fits (start_of side)
unfolding fits
start_fits Least = tt
start_fits Largest = tt

zero_is : (s : Bool) → eq (fin s 0 (pos 0)) zero_f ≡ true
unfolding eq of_bits
zero_is true = refl
zero_is false = refl

extreme_fits : (side : Side) (s : List Float) → Each Fits s → Fits (extreme_of side s)
extreme_fits side s f = elim (from_start side s).one_of [
  | inl e ↦ rw e (start_fits side)
  | inr a ↦ rw a.2 (f a.0 a.1)
]

pub only_zeros : OnlyZeros
only_zeros side s t f v w e =
    let l = level side s t v w in
    let g : Each Fits t = λ i h. let a = w i h in subst Fits a.2 (f a.0 a.1) in
    elim (le_antisym binary32 _ _ (extreme_fits side s f) (extreme_fits side t g) l.0 l.1) [
      | inl same ↦ same
      | inr z ↦ absurd (true≢false (sym (zero_is z.0) ∙ subst (λ x. eq x zero_f ≡ false) z.1.0 e))
    ]

pub zero_turns : ZeroTurns
unfolding extreme_from lt of_bits
zero_turns Least = (refl, refl)
zero_turns Largest = (refl, refl)
