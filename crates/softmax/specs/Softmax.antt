-- softmax.rs over one lane (RULES, Softmax), each step rounded once, and what the two calls answer and leave. Definitions only.
use Rattle.std.specs.Prelude.{ℕ, Bool, false, cond, not, ◌&&◌, ◌||◌, List, [], ◌∷◌, map, eqb, ltb, length, get_or, Float}
use Rattle.std.specs.Float.{nan, inf, fin, binary32}
use Rattle.std.specs.Float.Ieee.{sub, mul, div}
use Rattle.std.specs.Float.Ieee.Scale.{finite}
use Rattle.answer.specs.Answer.{Test, judged, told_of, when_done}
use Rattle.answer.specs.Limits.{element_limit}
use Rattle.answer.specs.Answer.{Answer}
use Rattle.answer.specs.declared.Refusal.TheVariants.{Length, TooMany, Domain, Masked}
use Rattle.floats.specs.Values.{zero_f, one_f, f32_min}
use Rattle.exp.specs.Exp.{reduced_range_exp_of}
use Rattle.lists.specs.Lists.{first_not, tab}
use Rattle.min_max.specs.MinMax.{largest_from}
use Rattle.sum.specs.Sum.{sum_from}
use Rattle.sum.specs.declared.SumOp.TheVariants.{Sum}

-- the maximum, from `f32::MIN`
unfoldable pub max_of : List Float → Float
max_of s = largest_from f32_min s

-- each exponential, of x minus the maximum
abbrev pub exp_less : Float → Float → Float
exp_less max x = reduced_range_exp_of (sub binary32 x max)

unfoldable pub exps_of : List Float → List Float
exps_of s = map (exp_less (max_of s)) s

-- the sum, from zero
unfoldable pub sum_of : List Float → Float
sum_of es = sum_from Sum zero_f es

-- each times the reciprocal of the sum
abbrev pub scaled_by : Float → List Float → List Float
scaled_by sum es = map (λ e. mul binary32 e (div binary32 one_f sum)) es

-- `Softmax`
unfoldable pub weights_of : List Float → List Float
weights_of s = scaled_by (sum_of (exps_of s)) (exps_of s)

-- ---- the calls
-- minus infinity
abbrev pub is_masked : Float → Bool
is_masked nan = false
is_masked (inf s) = s
is_masked (fin s m e) = false

-- the domain: finite or minus infinity
abbrev pub in_domain : Float → Bool
in_domain x = finite x || is_masked x

-- the first place outside the domain, or the length
unfoldable pub first_outside : List Float → ℕ
first_outside s = first_not (λ i. in_domain (get_or s i nan)) (length s)

-- one or more elements, all masked
unfoldable pub all_masked : List Float → Bool
all_masked s = ltb 0 (length s) && eqb (first_not (λ i. is_masked (get_or s i nan)) (length s)) (length s)

-- what the calls write: zeros for an all-masked input, which only flush lets through
unfoldable pub result_of : List Float → List Float
result_of s = cond (all_masked s) (tab (λ i. zero_f) (length s)) (weights_of s)

-- the tests of both calls, in the order of RULES, Order
abbrev pub tests : Bool → List Float → List Test
tests flush s =
    (ltb element_limit (length s), TooMany)
    ∷ (ltb (first_outside s) (length s), Domain (first_outside s))
    ∷ (not flush && all_masked s, Masked)
    ∷ []

-- in place, what the call tells and what it leaves
unfoldable pub in_place_answer : Bool → List Float → Answer
in_place_answer flush s = judged (tests flush s)

abbrev pub in_place_told : Bool → List Float → ℕ × ℕ
in_place_told flush s = told_of (in_place_answer flush s)

abbrev pub in_place_out : Bool → List Float → List Float
in_place_out flush s = when_done (in_place_answer flush s) (result_of s) s

-- from one slice into another, whose length is asked first
unfoldable pub softmax_answer : Bool → List Float → List Float → Answer
softmax_answer flush s d = judged ((not (eqb (length s) (length d)), Length) ∷ tests flush s)

abbrev pub softmax_told : Bool → List Float → List Float → ℕ × ℕ
softmax_told flush s d = told_of (softmax_answer flush s d)

abbrev pub softmax_out : Bool → List Float → List Float → List Float
softmax_out flush s d = when_done (softmax_answer flush s d) (result_of s) d
