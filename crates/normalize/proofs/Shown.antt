-- What a look shows: a finite result, that all that went into it is finite; finite data, where no slice is in use, that results are numbers. Assumes nothing.
use Prim.Native.Nat.{ℕ}
use mathlib.Core.Path.{◌≡◌}
use mathlib.Core.Logic.{inl, inr}
use mathlib.Core.Bool.{Bool, true, false, cond, not, ◌&&◌, false≢true}
use mathlib.Core.List.{List}
use lib.Ieee.{Float, nan, binary32, add, mul, eq, ne, of_bits}
use lib.Ieee.Scale.{finite}
use lib.ListN.{get_or}
use denote.Floats.{passes, is_true}
use Rattle.lists.proofs.Tests.{both}
use Rattle.floats.specs.Floats.{finite_at}
use Rattle.floats.proofs.NoNan.{add_number, sub_number, mul_number}
use Rattle.floats.proofs.Sign.{finite_number}
use Rattle.floats.proofs.Finite.{add_finite, sub_finite, mul_finite}
use Rattle.floats.specs.Values.{zero_f, one_f}
use Rattle.normalize.specs.Normalize.{centred, arm1, arm2, arm3, norm_of, result_at, settings_ok, finite_all, result_number}
use Rattle.normalize.specs.declared.Settings.{Settings}

module _ (st : Settings) where
  centred_shows : (x : Float) → finite (centred st x) ≡ true → finite x ≡ true
  centred_shows x h = (sub_finite binary32 x st.pre_scale_bias h).0

  arm1_shows : (x : Float) → finite (arm1 st x) ≡ true → finite x ≡ true
  arm1_shows x h =
      centred_shows x (mul_finite binary32 (centred st x) st.scale (add_finite binary32 (mul binary32 (centred st x) st.scale) st.bias h).0).0

  arm2_shows : (e x : Float) → finite (arm2 st e x) ≡ true → (finite x ≡ true) × (finite e ≡ true)
  arm2_shows e x h =
      let both = mul_finite binary32 (centred st x) (mul binary32 e st.scale) h in
      (centred_shows x both.0, (mul_finite binary32 e st.scale both.1).0)

  arm3_shows : (e b x : Float) → finite (arm3 st e b x) ≡ true → (finite x ≡ true) × ((finite e ≡ true) × (finite b ≡ true))
  arm3_shows e b x h =
      let both = add_finite binary32 (arm2 st e x) (add binary32 b st.bias) h in
      let low = arm2_shows e x both.0 in
      (low.0, (low.1, (add_finite binary32 b st.bias both.1).0))

  -- what is in use: the data, and the slices that are not absent
  in_use : (hs : Bool) (es : List Float) (hb : Bool) (eb s : List Float) (i : ℕ) → finite (result_at st hs es hb eb s i) ≡ true
      → finite_all hs es hb eb s i ≡ true
  unfolding norm_of
  in_use false es false eb s i h = rw (arm1_shows (get_or s i nan) h)
  in_use true es false eb s i h = chosen (eq st.bias zero_f) h
    where
      chosen : (c : Bool) → finite (cond c (arm2 st (get_or es i nan) (get_or s i nan)) (arm3 st (get_or es i nan) zero_f (get_or s i nan))) ≡ true
          → finite_all true es false eb s i ≡ true
      chosen true k = rw ((arm2_shows (get_or es i nan) (get_or s i nan) k).0, (arm2_shows (get_or es i nan) (get_or s i nan) k).1)
      chosen false k =
          let shown = arm3_shows (get_or es i nan) zero_f (get_or s i nan) k in
          rw (shown.0, shown.1.0)
  in_use false es true eb s i h =
      let shown = arm3_shows one_f (get_or eb i nan) (get_or s i nan) h in
      rw (shown.0, shown.1.1)
  in_use true es true eb s i h =
      let shown = arm3_shows (get_or es i nan) (get_or eb i nan) (get_or s i nan) h in
      rw (shown.0, shown.1.0, shown.1.1)

-- what the searches for 4 and for 6 ask of a place
abbrev pub Sound : Settings → Bool → List Float → Bool → List Float → List Float → ℕ → Type 0
Sound st hs es hb eb s i = (finite_all hs es hb eb s i ≡ true) × (result_number st hs es hb eb s i ≡ true)

-- a finite result shows both
pub result_shows : (st : Settings) (hs : Bool) (es : List Float) (hb : Bool) (eb s : List Float) (i : ℕ)
    → finite (result_at st hs es hb eb s i) ≡ true → Sound st hs es hb eb s i
result_shows st hs es hb eb s i h = (in_use st hs es hb eb s i h, is_true _ (finite_number (result_at st hs es hb eb s i) (passes _ h)))

-- and so does a finite element, where no slice is in use and the scale is not zero
pub data_shows : (st : Settings) (hs : Bool) (es : List Float) (hb : Bool) (eb s : List Float) (i : ℕ) → not hs ≡ true → not hb ≡ true
    → settings_ok st ≡ true → ne st.scale zero_f ≡ true → finite_at s i ≡ true → Sound st hs es hb eb s i
unfolding norm_of ne of_bits
data_shows st true es hb eb s i a b ok z h = absurd (false≢true a)
data_shows st false es true eb s i a b ok z h = absurd (false≢true b)
data_shows st false es false eb s i a b ok z h =
    let x = get_or s i nan in
    let p = both (finite st.pre_scale_bias) (finite st.scale && finite st.bias) ok in
    let q = both (finite st.scale) (finite st.bias) p.1 in
    let X = passes (finite x) h in
    let P = passes (finite st.pre_scale_bias) p.0 in
    let S = passes (finite st.scale) q.0 in
    let B = passes (finite st.bias) q.1 in
    let centre = sub_number binary32 x st.pre_scale_bias (finite_number _ X) (finite_number _ P) (inl X) in
    let product = mul_number binary32 (centred st x) st.scale centre (finite_number _ S) (inr (passes _ z)) (inl S) in
    (rw h, is_true _ (add_number binary32 (mul binary32 (centred st x) st.scale) st.bias product (finite_number _ B) (inr B)))
