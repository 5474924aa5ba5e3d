-- The same of a `Scaling`, which holds the settings and the slices that may be absent. For the code.
use Rattle.std.specs.Prelude.{ℕ, ◌≡◌, ◌<◌, Bool, true, false, List, length, Float, Option, MatchOption, is_some}
use Rattle.floats.specs.Values.{zero_f, one_f}
use Rattle.answer.specs.Answer.{Test}
use Rattle.normalize.specs.declared.scaling.Scaling.{Scaling}
use Rattle.normalize.specs.Normalize.{norm_of, list_of, pick_at, finite_all, result_at, results, result_number, tests, Fitted}

-- `post i b` says that a test may answer b at i. It passes at every place below n; or at i it does not, and at all before it does.
unfoldable pub FirstAt : (ℕ → Bool → Type 0) → ℕ → Option ℕ → Type 0
FirstAt post n found =
    MatchOption found ((k : ℕ) → k < n → post k true) (λ i. (i < n) × post i false × ((k : ℕ) → k < i → post k true))

module _ (by : Scaling) where
  -- i lies in the slices in use
  abbrev pub Reaches : ℕ → Type 0
  Reaches i =
      (is_some by.element_scale ≡ true → i < length (list_of by.element_scale))
      × (is_some by.element_bias ≡ true → i < length (list_of by.element_bias))

  -- they have the length n
  abbrev pub Fits : ℕ → Type 0
  Fits n = Fitted (is_some by.element_scale) (list_of by.element_scale) (is_some by.element_bias) (list_of by.element_bias) n

  -- at the place i, where the element is x
  abbrev pub value_of : ℕ → Float → Float
  value_of i x =
      norm_of by.settings (is_some by.element_scale) (pick_at (is_some by.element_scale) (list_of by.element_scale) i one_f) (is_some by.element_bias)
      (pick_at (is_some by.element_bias) (list_of by.element_bias) i zero_f) x

  -- and of the data s
  abbrev pub result_by : List Float → ℕ → Float
  result_by s i = result_at by.settings (is_some by.element_scale) (list_of by.element_scale) (is_some by.element_bias) (list_of by.element_bias) s i

  abbrev pub results_by : List Float → List Float
  results_by s = results by.settings (is_some by.element_scale) (list_of by.element_scale) (is_some by.element_bias) (list_of by.element_bias) s

  abbrev pub all_finite : List Float → ℕ → Bool
  all_finite s i = finite_all (is_some by.element_scale) (list_of by.element_scale) (is_some by.element_bias) (list_of by.element_bias) s i

  abbrev pub number_by : List Float → ℕ → Bool
  number_by s i = result_number by.settings (is_some by.element_scale) (list_of by.element_scale) (is_some by.element_bias) (list_of by.element_bias) s i

  abbrev pub tests_by : List Float → List Test
  tests_by s = tests by.settings (is_some by.element_scale) (list_of by.element_scale) (is_some by.element_bias) (list_of by.element_bias) s
