-- A feeding at each of its returns, and what an accepted feeding has passed. Assumes nothing.
use Prim.Native.Nat.{ℕ, ◌+◌, ◌≤◌}
use mathlib.Core.Path.{◌≡◌, refl, ◌∙◌, ap}
use mathlib.Core.Bool.{true, not}
use mathlib.Core.List.{List, [], ◌∷◌}
use native.Mathlib.Omega.{arith}
use lib.Dec.{ltb}
use lib.Ieee.{Float}
use lib.ListN.{length}
use borrow.Author.Tests.{ltb-false, le-ltb, not-false}
use Rattle.lists.proofs.First.{Passed, first_clear}
use Rattle.floats.specs.Floats.{finite_at, first_not_finite}
use Rattle.answer.specs.Answer.{judged}
use Rattle.answer.specs.Limits.{element_limit}
use Rattle.answer.specs.Answer.{Answer}
use Rattle.answer.specs.declared.Refusal.{Refusal}
use Rattle.answer.specs.declared.Refusal.TheVariants.{NotFinite, Domain}
use Rattle.answer.proofs.Chain.{Gives, gives, clear, skip, opened, none_found}
use Rattle.meter.specs.Meter.{count_limit, sound_meter, tests, next_of, fed_by, feed_of}
use Rattle.std.specs.Prelude.{Ok, Err}
use Rattle.meter.specs.declared.Meter.{Meter}

module _ (m : Meter) (s : List Float) where
  -- past the two tests of refusal 2
  pub past_counts : {a : Answer} → length s ≤ element_limit → m.count + length s ≤ count_limit
      → Gives ((not (sound_meter m), NotFinite) ∷ (ltb (first_not_finite s) (length s), Domain (first_not_finite s)) ∷ []) a → Gives (tests m s) a
  past_counts few room g = skip (le-ltb _ _ few) (skip (le-ltb _ _ room) g)

  pub feed_refused : {r : Refusal} → Gives (tests m s) (Err r) → Err r ≡ feed_of m s
  unfolding feed_of
  feed_refused g = ap (λ a. fed_by a (next_of m s)) (gives g)

  pub feed_next : {n : Meter} → n ≡ next_of m s → Gives (tests m s) (Ok tt) → Ok n ≡ feed_of m s
  unfolding feed_of
  feed_next e g = ap Ok e ∙ ap (λ a. fed_by a (next_of m s)) (gives g)

  -- what an accepted feeding has passed
  pub record Accepted : Type 0 where
    pub few : length s ≤ element_limit
    pub room : m.count + length s ≤ count_limit
    pub sound : sound_meter m ≡ true
    pub each_finite : Passed (finite_at s) (length s)

  pub accepts : Accepted → Ok (next_of m s) ≡ feed_of m s
  accepts a =
      feed_next refl
      (past_counts a.few a.room (skip (ap not a.sound) (none_found a.each_finite clear)))

  -- and the meter that it hands back
  pub accepted : (n : Meter) → feed_of m s ≡ Ok n → Accepted × (n ≡ next_of m s)
  unfolding feed_of
  accepted n e = go (judged (tests m s)) refl e
    where
      passed : (Ok tt) ≡ judged (tests m s) → Accepted
      passed d =
          let a = opened _ _ _ d in
          let b = opened _ _ _ a.1 in
          let c = opened _ _ _ b.1 in
          let f = opened _ _ _ c.1 in
          record {
            few = ltb-false _ _ a.0;
            room = ltb-false _ _ b.0;
            sound = not-false _ c.0;
            each_finite = first_clear _ _ (ltb-false _ _ f.0);
          }

      go : (a : Answer) → a ≡ judged (tests m s) → fed_by a (next_of m s) ≡ Ok n → Accepted × (n ≡ next_of m s)
      go (Ok tt) d e = (passed d, cc)
      go (Err r) d e = absurd (let z : ◌≡◌ {A = ℕ} 0 1 = cc in omega arith)
