-- Each refusal is the first test that holds; the count's is a difference in the code, so that nothing wraps, and a sum in the definition.
-- Past all of them the numbers are those of `next_of`, as `added` and `look` promise them.
use Prim.Native.Nat.{◌+◌, ◌≤◌, ◌<◌}
use mathlib.Core.Path.{◌≡◌, sym, ◌∙◌, ap, subst}
use mathlib.Core.Bool.{true, not}
use mathlib.Core.List.{List, [], ◌∷◌}
use native.Mathlib.Omega.{arith}
use lib.Dec.{T, ltb}
use lib.Ieee.{Float}
use lib.Ieee.Scale.{finite}
use lib.ListN.{length}
use borrow.Author.Tests.{lt-ltb, le-ltb}
use Rattle.floats.specs.Floats.{first_not_finite}
use Rattle.answer.specs.Answer.{Answer}
use Rattle.answer.specs.declared.Refusal.TheVariants.{Domain}
use Rattle.answer.proofs.Chain.{Gives, clear, stop, skip, found_at, found_nowhere}
use Rattle.sum.specs.declared.SumOp.TheVariants.{SumSquare}
use Rattle.sum.proofs.Shows.{shows_square, all_finite}
use Rattle.answer.specs.Limits.{element_limit}
use Rattle.meter.specs.declared.Meter.{Meter}
use Rattle.meter.specs.Meter.{tests, count_limit, sound_meter, fed_told}
use Rattle.meter.proofs.Feed.{feed_refused, feed_next, past_counts}
use Rattle.meter.proofs.Overs.{overs_few}
use Rattle.meter.proofs.Sound.{sound_parts}
use borrow.Author.Rules.{rules}
use Rattle.meter.proofs.Meter.feed.Goals as goal

pub returns-then-src-gt-ELEMENT_LIMIT : goal.returns-then-src-gt-ELEMENT_LIMIT
returns-then-src-gt-ELEMENT_LIMIT c = ap fed_told (feed_refused _ _ (stop (lt-ltb _ _ c.if-src-gt-ELEMENT_LIMIT.true)))

pub returns-then-self-samples : goal.returns-then-self-samples
returns-then-self-samples c = let over : count_limit < c.args.self.count + length c.args.src.now = omega arith in
    ap fed_told (feed_refused _ _ (skip (le-ltb _ _ c.if-src-gt-ELEMENT_LIMIT.false) (stop (lt-ltb _ _ over))))

pub returns-then-not-is_sound : goal.returns-then-not-is_sound
returns-then-not-is_sound c = let room : c.args.self.count + length c.args.src.now ≤ count_limit = omega arith in
    ap fed_told
    (feed_refused c.args.self c.args.src.now
    (past_counts c.args.self c.args.src.now c.if-src-gt-ELEMENT_LIMIT.false room (stop (ap not (sym c.is_sound.ensures ∙ c.if-not-is_sound.true)))))

pub first_unless_shown-requires : goal.first_unless_shown-requires
first_unless_shown-requires c h = all_finite SumSquare c.args.self.sum_squares c.args.src.now shows_square
    (ap finite (sym c.added-squares.ensures.squares) ∙ sym c.is_finite.ensures ∙ h)

-- past the first three tests
past : (m : Meter) (s : List Float) {a : Answer} → length s ≤ element_limit → m.count + length s ≤ count_limit → sound_meter m ≡ true
    → Gives ((ltb (first_not_finite s) (length s), Domain (first_not_finite s)) ∷ []) a → Gives (tests m s) a
past m s few room sound g = past_counts m s few room (skip (ap not sound) g)

pub returns-in-Some : goal.returns-in-Some
returns-in-Some c =
    ap fed_told
    (feed_refused c.args.self c.args.src.now
    (past c.args.self c.args.src.now c.if-src-gt-ELEMENT_LIMIT.false (omega arith) (sym c.is_sound.ensures ∙ c.if-not-is_sound.false)
    (found_at Domain _ _ c.in-Some.bad c.in-Some.ensures)))

pub overflow_add-result-2 : goal.overflow_add-result-2
overflow_add-result-2 c =
    let sound : sound_meter c.args.self ≡ true = sym c.is_sound.ensures ∙ c.if-not-is_sound.false in
    let fits : c.args.self.overs + c.added-squares.result.1 ≤ count_limit =
    omega (arith, (sound_parts c.args.self (subst T (sym sound) tt)).overs, overs_few c.args.src.now, c.added-squares.ensures.overs) in
    search rules

pub returns : goal.returns
returns c =
    let seen = c.look-seen in
    let sum = c.added-squares in
    ap fed_told
    (feed_next c.args.self c.args.src.now (cc (seen.ensures.high, seen.ensures.low, sum.ensures.squares, sum.ensures.overs))
    (past c.args.self c.args.src.now c.if-src-gt-ELEMENT_LIMIT.false (omega arith) (sym c.is_sound.ensures ∙ c.if-not-is_sound.false)
    (found_nowhere _ _ c.in_default.ensures clear)))
