-- The promises of `normalize` and `normalize_in_place` determine their outcomes: two that one allows are equal. Assumes nothing.
use mathlib.Core.Path.{◌≡◌}
use mathlib.Core.Bool.{Bool}
use mathlib.Core.List.{List}
use lib.Ieee.{Float}
use Rattle.answer.specs.Answer.{Answer}
use Rattle.answer.specs.Answer.{Outcome}
use Rattle.answer.proofs.Outcome.{one_outcome}
use Rattle.normalize.specs.declared.Settings.{Settings}
use Rattle.normalize.specs.Normalize.{in_place_told, in_place_out, normalize_told, normalize_out}

-- a is the answer and l what is left of the lent slice; b and m likewise
module _ (st : Settings) (hs : Bool) (es : List Float) (hb : Bool) (eb s : List Float) (a b : Answer) (l m : List Float) where
  pub in_place_determined :
      Outcome (in_place_told st hs es hb eb s) (in_place_out st hs es hb eb s) a l
      → Outcome (in_place_told st hs es hb eb s) (in_place_out st hs es hb eb s) b m
      → (a ≡ b) × (l ≡ m)
  in_place_determined x y = one_outcome x y

  pub normalize_determined : (d : List Float)
      → Outcome (normalize_told st hs es hb eb s d) (normalize_out st hs es hb eb s d) a l
      → Outcome (normalize_told st hs es hb eb s d) (normalize_out st hs es hb eb s d) b m
      → (a ≡ b) × (l ≡ m)
  normalize_determined d x y = one_outcome x y
