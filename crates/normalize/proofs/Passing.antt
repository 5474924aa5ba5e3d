-- What is known of the slices once none of `tests` holds. Assumes nothing.
use Prim.Native.Nat.{ℕ, ◌≤◌}
use mathlib.Core.Path.{◌≡◌, ap}
use mathlib.Core.Bool.{Bool, true, false, not, false≢true}
use mathlib.Core.List.{List, []}
use lib.ListN.{length, drop}
use lib.Ieee.{Float}
use borrow.Author.Tests.{eqb-true, ltb-false, le-ltb, not-false}
use Rattle.answer.specs.Answer.{Answer, Test, judged}
use Rattle.answer.specs.Limits.{element_limit}
use Rattle.std.specs.Prelude.{Ok}
use Rattle.answer.specs.declared.Refusal.TheVariants.{Length, TooMany, NotFinite, Domain, Result}
use Rattle.answer.proofs.Chain.{Gives, skip, gives, opened}
use Rattle.normalize.specs.declared.Settings.{Settings}
use Rattle.normalize.specs.Normalize.{unfit_of, settings_ok, first_nan_result, tests, Fitted}

-- a slice in use has the length n
pub fit : (has : Bool) (s : List Float) (n : ℕ) → unfit_of has (length s) n ≡ false → has ≡ true → length s ≡ n
fit true s n h e = eqb-true _ _ (not-false _ h)
fit false s n h e = absurd (false≢true e)

-- as a call tests: past the first four, the two searches are left
abbrev pub searches : Settings → Bool → List Float → Bool → List Float → List Float → List Test
searches st hs es hb eb s = drop 4 (tests st hs es hb eb s)

module _ (st : Settings) (hs : Bool) (es : List Float) (hb : Bool) (eb s : List Float) where
  pub passing : (Ok tt) ≡ judged (tests st hs es hb eb s) → Fitted hs es hb eb (length s) × (length s ≤ first_nan_result st hs es hb eb s)
  passing e =
      let o1 = opened _ Length (drop 1 (tests st hs es hb eb s)) e in
      let o2 = opened _ Length (drop 2 (tests st hs es hb eb s)) o1.1 in
      let o3 = opened _ TooMany (drop 3 (tests st hs es hb eb s)) o2.1 in
      let o4 = opened _ NotFinite (drop 4 (tests st hs es hb eb s)) o3.1 in
      let o5 = opened _ (Domain _) (drop 5 (tests st hs es hb eb s)) o4.1 in
      let o6 = opened _ (Result _) [] o5.1 in
      (record { scale = fit hs es (length s) o1.0; bias = fit hb eb (length s) o2.0 }, ltb-false _ _ o6.0)

  pub past_four : {a : Answer} → unfit_of hs (length es) (length s) ≡ false → unfit_of hb (length eb) (length s) ≡ false → length s ≤ element_limit
      → settings_ok st ≡ true → Gives (searches st hs es hb eb s) a → a ≡ judged (tests st hs es hb eb s)
  past_four u v l o g = gives (skip u (skip v (skip (le-ltb _ _ l) (skip (ap not o) g))))
