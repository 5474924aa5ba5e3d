-- Where a call of normalize is done, no output is a NaN. Assumes nothing.
--
--   in-place-numbers : (st : Settings) (hs : Bool) (es : List Float) (hb : Bool) (eb s : List Float) → InPlaceNumbers st hs es hb eb s
--   normalize-numbers : .. (d : List Float) → NormalizeNumbers st hs es hb eb s d
use Prim.Native.Nat.{◌<◌}
use mathlib.Core.Path.{◌≡◌, sym, subst}
use mathlib.Core.Bool.{Bool, not}
use mathlib.Core.List.{List}
use lib.Dec.{T, eqb}
use lib.ListN.{length}
use lib.Ieee.{Float, nan}
use Rattle.floats.specs.Each.{Each}
use Rattle.lists.proofs.First.{first_clear}
use Rattle.lists.proofs.Tab.{tab_at, tab_length}
use Rattle.answer.specs.Answer.{judged, when_done}
use Rattle.std.specs.Prelude.{Ok}
use Rattle.answer.specs.declared.Refusal.TheVariants.{Length}
use Rattle.answer.proofs.Chain.{opened}
use Rattle.normalize.specs.declared.Settings.{Settings}
use Rattle.normalize.specs.Normalize.{result_at, results, result_number, first_nan_result, tests, in_place_answer, normalize_answer}
use Rattle.normalize.proofs.Passing.{passing}
use Rattle.no_nan.specs.NoNan.{Number}
use Rattle.no_nan.specs.Kernels.{InPlaceNumbers, NormalizeNumbers}

module _ (st : Settings) (hs : Bool) (es : List Float) (hb : Bool) (eb s : List Float) where
  numbers : (Ok tt) ≡ judged (tests st hs es hb eb s) → Each Number (results st hs es hb eb s)
  unfolding first_nan_result
  numbers e i h =
      let k : i < length s = rw tab_length at h in
      rw (tab_at (result_at st hs es hb eb s) (length s) i nan k)
      (subst T (sym (first_clear (result_number st hs es hb eb s) (length s) (passing st hs es hb eb s e).1 i k)) tt)

  pub in_place_numbers : InPlaceNumbers st hs es hb eb s
  unfolding in_place_answer
  in_place_numbers e = subst (λ a. Each Number (when_done a (results st hs es hb eb s) s)) e (numbers e)

  pub normalize_numbers : (d : List Float) → NormalizeNumbers st hs es hb eb s d
  unfolding normalize_answer
  normalize_numbers d e =
      subst (λ a. Each Number (when_done a (results st hs es hb eb s) d)) e
      (numbers (opened (not (eqb (length s) (length d))) Length (tests st hs es hb eb s) e).1)
