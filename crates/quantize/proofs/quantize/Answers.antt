-- Each return is the first test of the list that holds (`Gives`): what that answer tells, and what it leaves. Past all four dst is filled with the codes.
use Rattle.std.proofs.Common.{rules, true, length, drop, ◌≤◌, ℕ, ◌≡◌, Float, List, map, sym, ◌∙◌, ap}
use mathlib.Core.Bool.{not}
use borrow.Author.Tests.{lt-ltb, le-ltb, eq-eqb, ne_eqb}
use Rattle.answer.specs.Answer.{when_done, told_of}
use Rattle.answer.specs.Limits.{element_limit}
use lib.Ieee.Scale.{finite}
use Rattle.answer.specs.Answer.{Answer}
use Rattle.answer.specs.declared.Refusal.TheVariants.{Domain}
use Rattle.answer.proofs.Chain.{Gives, told_and_left, clear, stop, skip, found_at, found_nowhere}
use Rattle.floats.specs.Floats.{finite_at}
use Rattle.lists.proofs.Turns.{zip_map}
use Rattle.quantize.specs.Quantize.{code_of, tests, quantize_answer, quantize_told, quantize_out}
use Rattle.quantize.proofs.quantize.Goals as goal

-- what the first test that holds tells and leaves
outcome : (inv : Float) (zp : ℕ) (s : List Float) (d : List ℕ) {a : Answer} → Gives (tests inv s d) a
    → (told_of a ≡ quantize_told inv s d) × (when_done a (map (code_of inv zp) s) d ≡ quantize_out inv zp s d)
unfolding quantize_answer
outcome inv zp s d g = told_and_left _ _ g

-- past the first three
past : (inv : Float) (s : List Float) (d : List ℕ) {a : Answer} → length s ≡ length d → length s ≤ element_limit → finite inv ≡ true
    → Gives (drop 3 (tests inv s d)) a → Gives (tests inv s d) a
past inv s d same most ok g = skip (ap not (eq-eqb _ _ same)) (skip (le-ltb _ _ most) (skip (ap not ok) g))

pub returns-then-src-dst : goal.returns-then-src-dst
returns-then-src-dst c =
    let x = c.args in
    let o = outcome x.inv_scale x.zero_point x.src.now x.dst.now (stop (ap not (ne_eqb _ _ c.if-src-dst.true))) in
    record { told = o.0; written = o.1 }

pub returns-then-src-gt-ELEMENT_LIMIT : goal.returns-then-src-gt-ELEMENT_LIMIT
returns-then-src-gt-ELEMENT_LIMIT c =
    let x = c.args in
    let o = outcome x.inv_scale x.zero_point x.src.now x.dst.now
    (skip (ap not (eq-eqb _ _ c.if-src-dst.false)) (stop (lt-ltb _ _ c.if-src-gt-ELEMENT_LIMIT.true))) in
    record { told = o.0; written = o.1 }

pub returns-then-not-is_finite : goal.returns-then-not-is_finite
returns-then-not-is_finite c =
    let x = c.args in
    let o = outcome x.inv_scale x.zero_point x.src.now x.dst.now
    (skip (ap not (eq-eqb _ _ c.if-src-dst.false)) (skip (le-ltb _ _ c.if-src-gt-ELEMENT_LIMIT.false)
    (stop (ap not (sym c.is_finite.ensures ∙ c.if-not-is_finite.true))))) in
    record { told = o.0; written = o.1 }

pub returns-in-Some : goal.returns-in-Some
returns-in-Some c =
    let x = c.args in
    let o = outcome x.inv_scale x.zero_point x.src.now x.dst.now
    (past _ _ _ c.if-src-dst.false c.if-src-gt-ELEMENT_LIMIT.false (sym c.is_finite.ensures ∙ c.if-not-is_finite.false)
    (found_at Domain (finite_at x.src.now) (length x.src.now) c.in-Some.at (sym c.in-Some.is ∙ c.first_not_finite.ensures))) in
    record { told = o.0; written = o.1 }

pub returns : goal.returns
returns c =
    let x = c.args in
    let o = outcome x.inv_scale x.zero_point x.src.now x.dst.now
    (past _ _ _ c.if-src-dst.false c.if-src-gt-ELEMENT_LIMIT.false (sym c.is_finite.ensures ∙ c.if-not-is_finite.false)
    (found_nowhere (finite_at x.src.now) (length x.src.now) (sym c.in_default.is ∙ c.first_not_finite.ensures) clear)) in
    let codes = zip_map _ (code_of x.inv_scale x.zero_point) _ _ (λ y n h. search rules) c.map_into.ensures in
    record { told = o.0; written = codes ∙ o.1 }
