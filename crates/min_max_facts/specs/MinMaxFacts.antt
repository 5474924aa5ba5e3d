-- The claims on the extremes of pieces: about values, of lists of any length, once over the side; then about the calls. Two answers of a side are
-- joined by `keep`: the second where it lies strictly beyond the first, else the first. Statements only.
use Rattle.std.specs.Prelude.{ℕ, ◌≤◌, ◌<◌, ◌≡◌, false, not, T, length, get_or, Float}
use mathlib.Core.List.{List, [], ◌∷◌, ◌++◌, map, flatten}
use Rattle.std.specs.Float.{binary32}
use Rattle.std.specs.Float.Ieee.{fits, eq, is_nan}
use Rattle.answer.specs.Limits.{element_limit}
use Rattle.std.specs.Prelude.{Ok}
use Rattle.floats.specs.Values.{f32, zero_f}
use Rattle.floats.specs.Each.{Each, Some}
use Rattle.min_max.specs.MinMax.{Side, Least, Largest, keep, extreme_of, extremes_answer, min_max_told, max_num_told, min_num_told}

-- ---- grouping, to the bit

-- the extreme of two pieces joined is their two extremes joined
abbrev pub TwoPieces : Type 0
TwoPieces = (side : Side) (s t : List Float) → extreme_of side (s ++ t) ≡ keep side (extreme_of side s) (extreme_of side t)

-- of any number of chunks, the extreme over the chunks' extremes is that of the whole
abbrev pub AllChunks : Type 0
AllChunks = (side : Side) (chunks : List (List Float)) → extreme_of side (map (extreme_of side) chunks) ≡ extreme_of side (flatten chunks)

-- an extreme is a number, NaNs among the elements or not
abbrev pub AnswerIsNumber : Type 0
AnswerIsNumber = (side : Side) (s : List Float) → T (not (is_nan (extreme_of side s)))

-- and of numbers it doesn't matter which two are joined first; only the middle one has to be a number
abbrev pub AnyGrouping : Type 0
AnyGrouping = (side : Side) (x y z : Float) → T (not (is_nan y)) → keep side (keep side x y) z ≡ keep side x (keep side y z)

-- the extreme of nothing changes nothing, before a number or after it
abbrev pub EmptyAnswer : Type 0
EmptyAnswer = (side : Side) (x : Float) → T (not (is_nan x)) → (keep side (extreme_of side []) x ≡ x) × (keep side x (extreme_of side []) ≡ x)

-- ---- order, as numbers

-- two numbers joined the other way round are equal
abbrev pub Turned : Type 0
Turned = (side : Side) (x y : Float) → T (not (is_nan x)) → T (not (is_nan y)) → T (eq (keep side x y) (keep side y x))

-- each element of s stands somewhere in t
abbrev pub Within : List Float → List Float → Type 0
Within s t = Each (λ x. Some (λ y. y ≡ x) t) s

-- the same elements, in any order and each any number of times, have equal extremes
abbrev pub AnyOrder : Type 0
AnyOrder = (side : Side) (s t : List Float) → Within s t → Within t s → T (eq (extreme_of side s) (extreme_of side t))

-- of f32s they are the same to the bit where they are no zero
abbrev pub OnlyZeros : Type 0
OnlyZeros =
    (side : Side) (s t : List Float)
    → Each (λ x. T (fits binary32 x)) s
    → Within s t
    → Within t s
    → eq (extreme_of side s) zero_f ≡ false
    → extreme_of side s ≡ extreme_of side t

-- a zero may change sign; the smallest example, on either side: of +0 and -0 the first stays
abbrev pub ZeroTurns : Type 0
ZeroTurns =
    let minus_zero = f32 0x8000_0000 in
    (side : Side)
    → (extreme_of side (zero_f ∷ minus_zero ∷ []) ≡ zero_f) × (extreme_of side (minus_zero ∷ zero_f ∷ []) ≡ minus_zero)

-- ---- the calls

-- the values of two answers joined, least with least, largest with largest
abbrev pub joined : Float × Float → Float × Float → Float × Float
joined a b = (keep Least a.0 b.0, keep Largest a.1 b.1)

-- where the joined call isn't refused neither piece's is, and it tells their answers joined
abbrev pub JoinedCall : Type 0
JoinedCall =
    (s t : List Float)
    → (Ok tt) ≡ extremes_answer (s ++ t)
    → ((Ok tt) ≡ extremes_answer s) × ((Ok tt) ≡ extremes_answer t) × (min_max_told (s ++ t) ≡ ((0, 0), joined (min_max_told s).1 (min_max_told t).1))

-- no chunk's call is refused
abbrev pub EachDone : List (List Float) → Type 0
EachDone chunks = (i : ℕ) → i < length chunks → (Ok tt) ≡ extremes_answer (get_or chunks i [])

abbrev pub ChunksDone : Type 0
ChunksDone = (chunks : List (List Float)) → (Ok tt) ≡ extremes_answer (flatten chunks) → EachDone chunks

-- what `min_max` tells, with one side's value alone; `min_num` and `max_num` tell the same
abbrev pub side_told : Side → List Float → (ℕ × ℕ) × Float
side_told Least s = ((min_max_told s).0, (min_max_told s).1.0)
side_told Largest s = ((min_max_told s).0, (min_max_told s).1.1)

abbrev pub OneSide : Type 0
OneSide = (s : List Float) → (side_told Least s ≡ min_num_told s) × (side_told Largest s ≡ max_num_told s)

-- the call over the chunks' answers is done and tells the extreme of the whole, whatever its length, where no chunk's call is refused and there are
-- no more chunks than a call takes
abbrev pub ChunksCall : Type 0
ChunksCall =
    (side : Side) (chunks : List (List Float))
    → length chunks ≤ element_limit
    → EachDone chunks
    → side_told side (map (λ s. (side_told side s).1) chunks) ≡ ((0, 0), extreme_of side (flatten chunks))
