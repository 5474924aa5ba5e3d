-- Of a slice that is absent the list does not matter: what a call answers and leaves is the same by every list. Assumes nothing.
use mathlib.Core.Path.{◌≡◌, refl, ap}
use mathlib.Core.Bool.{Bool, true, false}
use mathlib.Core.List.{List}
use denote.Ref.{Bor}
use lib.Ieee.{Float}
use Rattle.std.specs.Prelude.{Option, is_some}
use Rattle.normalize.specs.declared.Settings.{Settings}
use Rattle.normalize.specs.Normalize.{list_of, Shows, first_bad, first_nan_result, tests, results, in_place_answer, in_place_told, in_place_out, normalize_answer, normalize_told, normalize_out}

module _ (st : Settings) (s : List Float) where
  -- a scale, or a bias, that is absent
  pub no_scale : (es fs : List Float) (hb : Bool) (eb : List Float) → tests st false es hb eb s ≡ tests st false fs hb eb s
  unfolding first_bad first_nan_result
  no_scale es fs hb eb = refl

  pub no_bias : (hs : Bool) (es eb fb : List Float) → tests st hs es false eb s ≡ tests st hs es false fb s
  unfolding first_bad first_nan_result
  no_bias hs es eb fb = refl

  -- so the lists need to agree only where they are in use
  same_scale : (hs : Bool) (es fs : List Float) (hb : Bool) (eb : List Float) → (hs ≡ true → es ≡ fs)
      → (tests st hs es hb eb s ≡ tests st hs fs hb eb s) × (results st hs es hb eb s ≡ results st hs fs hb eb s)
  same_scale false es fs hb eb e = (no_scale es fs hb eb, refl)
  same_scale true es fs hb eb e = (ap (λ l. tests st true l hb eb s) (e refl), ap (λ l. results st true l hb eb s) (e refl))

  same_bias : (hs : Bool) (es : List Float) (hb : Bool) (eb fb : List Float) → (hb ≡ true → eb ≡ fb)
      → (tests st hs es hb eb s ≡ tests st hs es hb fb s) × (results st hs es hb eb s ≡ results st hs es hb fb s)
  same_bias hs es false eb fb e = (no_bias hs es eb fb, refl)
  same_bias hs es true eb fb e = (ap (λ l. tests st hs es true l s) (e refl), ap (λ l. results st hs es true l s) (e refl))

  module _ (o p : Option (Bor (List Float))) (hs : Bool) (es : List Float) (hb : Bool) (eb : List Float) (a : Shows o hs es) (b : Shows p hb eb) where
    same : (tests st (is_some o) (list_of o) (is_some p) (list_of p) s ≡ tests st hs es hb eb s)
        × (results st (is_some o) (list_of o) (is_some p) (list_of p) s ≡ results st hs es hb eb s)
    same =
        let x = same_scale hs (list_of o) es hb (list_of p) a.1 in
        let y = same_bias hs es hb (list_of p) eb b.1 in
        rw (a.0, b.0) (rw (x.0, x.1) y)

    -- what the two calls tell and leave
    pub in_place_shown : (in_place_told st (is_some o) (list_of o) (is_some p) (list_of p) s ≡ in_place_told st hs es hb eb s)
        × (in_place_out st (is_some o) (list_of o) (is_some p) (list_of p) s ≡ in_place_out st hs es hb eb s)
    unfolding in_place_answer
    in_place_shown = rw (same.0, same.1) (refl, refl)

    pub normalize_shown : (d : List Float)
        → (normalize_told st (is_some o) (list_of o) (is_some p) (list_of p) s d ≡ normalize_told st hs es hb eb s d)
        × (normalize_out st (is_some o) (list_of o) (is_some p) (list_of p) s d ≡ normalize_out st hs es hb eb s d)
    unfolding normalize_answer
    normalize_shown d = rw (same.0, same.1) (refl, refl)
