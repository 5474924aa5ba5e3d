-- Past the tests of the numbers of levels and gains: softmax's answer is the rest of `split`'s, and where it is done the levels are such as
-- softmax's facts ask for. Assumes nothing.
use Prim.Native.Nat.{ℕ, ◌≤◌}
use mathlib.Core.Path.{◌≡◌, refl, sym, ap, ◌∙◌}
use mathlib.Core.Bool.{Bool, true, false, not}
use mathlib.Core.Logic.{inl, inr}
use mathlib.Core.List.{List, [], ◌∷◌}
use native.Mathlib.Nat.{le_trans}
use native.Mathlib.Omega.{arith}
use borrow.Author.Tests.{eq-eqb, le-ltb, ltb-false}
use lib.Dec.{T, ltb, lit≤}
use lib.ListN.{length}
use lib.Ieee.{Float, binary32, fits}
use Rattle.answer.specs.Answer.{Test, judged, told_of, Answer}
use Rattle.std.specs.Prelude.{Ok, Err}
use Rattle.answer.specs.declared.Refusal.TheVariants.{Domain, Masked}
use Rattle.answer.specs.declared.Refusal.{Refusal}
use Rattle.answer.proofs.Chain.{Gives, skip, rest, gives, opened, refuses, finishes}
use Rattle.answer.proofs.Numbers.{told_one}
use Rattle.lists.proofs.First.{first_clear}
use Rattle.softmax.specs.Softmax.{first_outside, all_masked, softmax_answer, softmax_told}
use Rattle.floats.specs.Each.{Each}
use Rattle.softmax_facts.proofs.Called.{some_or_none}
use Rattle.softmax_facts.specs.SoftmaxFacts.{Input}
use Rattle.answer.specs.Limits.{band_limit}
use Rattle.split.specs.Split.{tests, gains_of, level_steps, split_answer, split_told, split_out}

-- the tests that softmax makes too
abbrev pub last_tests : List Float → List Test
last_tests s = (ltb (first_outside s) (length s), Domain (first_outside s)) ∷ (all_masked s, Masked) ∷ []

pub softmax_rest : (s d : List Float) (a : Answer) → length s ≤ band_limit → length s ≡ length d → told_of a ≡ softmax_told false s d
    → a ≡ judged (last_tests s)
unfolding softmax_answer
softmax_rest s d a few l e =
    told_one a (softmax_answer false s d) e
    ∙ sym (gives (skip (ap not (eq-eqb (length s) (length d) l)) (skip (le-ltb _ _ (le_trans few (lit≤ tt))) (rest refl))))

pub done_input : (s : List Float) → 1 ≤ length s → length s ≤ band_limit → Each (λ x. T (fits binary32 x)) s → Ok tt ≡ judged (last_tests s) → Input s
unfolding first_outside
done_input s some few f e =
    let inside = opened (ltb (first_outside s) (length s)) (Domain (first_outside s)) _ e in
    let shown = opened (all_masked s) Masked [] inside.1 in
    let limit = le_trans few (lit≤ tt) in
    let domain = first_clear _ (length s) (ltb-false (first_outside s) (length s) inside.0) in
    record {
      few = limit;
      domain = domain;
      f32s = f;
      unmasked = elim (some_or_none s limit domain f shown.0) [ inl k ↦ k | inr z ↦ absurd (omega arith) ];
    }

-- what they refuse with
pub last_refused : (P : Refusal → Type 0) (s : List Float) (r : Refusal) → ((i : ℕ) → P (Domain i)) → P Masked → Err r ≡ judged (last_tests s) → P r
unfolding judged
last_refused P s r d m e = step (ltb (first_outside s) (length s)) (all_masked s) e
  where
    step : (b c : Bool) → Err r ≡ judged ((b, Domain (first_outside s)) ∷ (c, Masked) ∷ []) → P r
    step true c e = let q : r ≡ Domain (first_outside s) = cc in rw q (d (first_outside s))
    step false true e = let q : r ≡ Masked = cc in rw q m
    step false false e = absurd (let z : ◌≡◌ {A = ℕ} 0 1 = cc in omega arith)

-- all the tests, from the last two
pub past_counts : (s : List Float) (g : List ℕ) {a : Answer} → 1 ≤ length s → length s ≤ band_limit → length s ≡ length g
    → a ≡ judged (last_tests s) → Gives (tests s g) a
past_counts s g some few l e = skip (le-ltb _ _ some) (skip (le-ltb _ _ few) (skip (ap not (eq-eqb (length s) (length g) l)) (rest e)))

-- ---- what the call tells and leaves: of a refusal, and where it is done
abbrev pub Told : List Float → List ℕ → Answer → List ℕ → Type 0
Told s g a left = record { told : told_of a ≡ split_told s g; written : left ≡ split_out s g }

pub refused : (s : List Float) (g : List ℕ) {r : Refusal} → Gives (tests s g) (Err r) → Told s g (Err r) g
unfolding split_answer
refused s g k = let both = refuses {ts = tests s g} (gains_of (level_steps s)) g k in record { told = both.0; written = both.1 }

pub finished : (s : List Float) (g left : List ℕ) → left ≡ gains_of (level_steps s) → Gives (tests s g) (Ok tt) → Told s g (Ok tt) left
unfolding split_answer
finished s g left e k = let both = finishes {ts = tests s g} (gains_of (level_steps s)) g e k in record { told = both.0; written = both.1 }
