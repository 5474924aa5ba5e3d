-- normalize.rs (RULES, Normalize): the result at a place, and what the two calls answer and leave. Definitions only.
use Rattle.std.specs.Prelude.{ℕ, ◌≡◌, Bool, true, false, cond, not, ◌&&◌, List, [], ◌∷◌, eqb, ltb, length, get_or, Float, Option, Some, None, is_some}
use denote.Ref.{Bor}
use Rattle.std.specs.Float.{nan, binary32}
use Rattle.std.specs.Float.Ieee.{add, sub, mul, eq, is_nan}
use Rattle.std.specs.Float.Ieee.Scale.{finite}
use Rattle.lists.specs.Lists.{tab, first_not}
use Rattle.floats.specs.Floats.{mul_add, finite_at}
use Rattle.floats.specs.Values.{zero_f, one_f}
use Rattle.answer.specs.Answer.{Test, judged, when_done, told_of}
use Rattle.answer.specs.Limits.{element_limit}
use Rattle.answer.specs.Answer.{Answer}
use Rattle.answer.specs.declared.Refusal.TheVariants.{Length, TooMany, NotFinite, Domain, Result}
use Rattle.normalize.specs.declared.Settings.{Settings}

-- ---- the three arms, of which each begins with x less pre_scale_bias
abbrev pub centred : Settings → Float → Float
centred st x = sub binary32 x st.pre_scale_bias

-- no per-element slice
abbrev pub arm1 : Settings → Float → Float
arm1 st x = mul_add (centred st x) st.scale st.bias

-- a per-element scale e, no per-element bias, and bias +0 or -0: no addition happens
abbrev pub arm2 : Settings → Float → Float → Float
arm2 st e x = mul binary32 (centred st x) (mul binary32 e st.scale)

-- everything else, with a per-element scale e and bias b: 1 and 0 where there is none
abbrev pub arm3 : Settings → Float → Float → Float → Float
arm3 st e b x = mul_add (centred st x) (mul binary32 e st.scale) (add binary32 b st.bias)

-- which arm: hs says that there is a per-element scale, hb a per-element bias
unfoldable pub norm_of : Settings → Bool → Float → Bool → Float → Float → Float
norm_of st false e false b x = arm1 st x
norm_of st true e false b x = cond (eq st.bias zero_f) (arm2 st e x) (arm3 st e b x)
norm_of st hs e true b x = arm3 st e b x

-- ---- a place: a slice that is marked absent isn't looked at
abbrev pub pick_at : Bool → List Float → ℕ → Float → Float
pick_at has s i other = cond has (get_or s i nan) other

-- es and eb are the per-element scale and bias, s the data
abbrev pub result_at : Settings → Bool → List Float → Bool → List Float → List Float → ℕ → Float
result_at st hs es hb eb s i = norm_of st hs (pick_at hs es i one_f) hb (pick_at hb eb i zero_f) (get_or s i nan)

abbrev pub results : Settings → Bool → List Float → Bool → List Float → List Float → List Float
results st hs es hb eb s = tab (result_at st hs es hb eb s) (length s)

-- ---- refusals
-- 1: a slice in use whose length is not n
abbrev pub unfit_of : Bool → ℕ → ℕ → Bool
unfit_of has k n = has && not (eqb k n)

-- 3
abbrev pub settings_ok : Settings → Bool
settings_ok st = finite st.pre_scale_bias && (finite st.scale && finite st.bias)

-- 4: the lowest index bad in the data or in a slice in use, or the length
abbrev pub finite_in : Bool → List Float → ℕ → Bool
finite_in has s i = cond has (finite_at s i) true

abbrev pub finite_all : Bool → List Float → Bool → List Float → List Float → ℕ → Bool
finite_all hs es hb eb s i = finite_at s i && (finite_in hs es i && finite_in hb eb i)

unfoldable pub first_bad : Bool → List Float → Bool → List Float → List Float → ℕ
first_bad hs es hb eb s = first_not (finite_all hs es hb eb s) (length s)

-- 6: the first index whose result would be a NaN, or the length
abbrev pub result_number : Settings → Bool → List Float → Bool → List Float → List Float → ℕ → Bool
result_number st hs es hb eb s i = not (is_nan (result_at st hs es hb eb s i))

unfoldable pub first_nan_result : Settings → Bool → List Float → Bool → List Float → List Float → ℕ
first_nan_result st hs es hb eb s = first_not (result_number st hs es hb eb s) (length s)

-- all but the length of what is written
abbrev pub tests : Settings → Bool → List Float → Bool → List Float → List Float → List Test
tests st hs es hb eb s =
    (unfit_of hs (length es) (length s), Length)
    ∷ (unfit_of hb (length eb) (length s), Length)
    ∷ (ltb element_limit (length s), TooMany)
    ∷ (not (settings_ok st), NotFinite)
    ∷ (ltb (first_bad hs es hb eb s) (length s), Domain (first_bad hs es hb eb s))
    ∷ (ltb (first_nan_result st hs es hb eb s) (length s), Result (first_nan_result st hs es hb eb s))
    ∷ []

-- ---- in place: what is told, and what is left of the data
unfoldable pub in_place_answer : Settings → Bool → List Float → Bool → List Float → List Float → Answer
in_place_answer st hs es hb eb s = judged (tests st hs es hb eb s)

abbrev pub in_place_told : Settings → Bool → List Float → Bool → List Float → List Float → ℕ × ℕ
in_place_told st hs es hb eb s = told_of (in_place_answer st hs es hb eb s)

abbrev pub in_place_out : Settings → Bool → List Float → Bool → List Float → List Float → List Float
in_place_out st hs es hb eb s = when_done (in_place_answer st hs es hb eb s) (results st hs es hb eb s) s

-- ---- from s into d
unfoldable pub normalize_answer : Settings → Bool → List Float → Bool → List Float → List Float → List Float → Answer
normalize_answer st hs es hb eb s d = judged ((not (eqb (length s) (length d)), Length) ∷ tests st hs es hb eb s)

abbrev pub normalize_told : Settings → Bool → List Float → Bool → List Float → List Float → List Float → ℕ × ℕ
normalize_told st hs es hb eb s d = told_of (normalize_answer st hs es hb eb s d)

abbrev pub normalize_out : Settings → Bool → List Float → Bool → List Float → List Float → List Float → List Float
normalize_out st hs es hb eb s d = when_done (normalize_answer st hs es hb eb s d) (results st hs es hb eb s) d

-- ---- for the code
-- the list of a slice that may be absent
abbrev pub list_of : Option (Bor (List Float)) → List Float
list_of None = []
list_of (Some s) = s.now

-- it is the slice s, where `has` says that there is one
abbrev pub Shows : Option (Bor (List Float)) → Bool → List Float → Type 0
Shows o has s = (is_some o ≡ has) × (has ≡ true → list_of o ≡ s)

-- the slices in use have the length n
pub record Fitted (hs : Bool) (es : List Float) (hb : Bool) (eb : List Float) (n : ℕ) : Type 0 where
  pub scale : hs ≡ true → length es ≡ n
  pub bias : hb ≡ true → length eb ≡ n
