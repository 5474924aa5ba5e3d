-- Each return is the first test of the list that holds, those before it passed (`past`, `skip`); past all four the domain holds, and dst is the mapped list.
use Rattle.std.proofs.Common.{◌≡◌, ◌≤◌, List, length, drop, sym, ◌∙◌, ap, Float, map, true, not}
use lib.Ieee.{nan}
use borrow.Author.Tests.{eq-eqb, ne_eqb, lt-ltb, le-ltb}
use Rattle.std.proofs.lemmas.List.Elements.{All-from_get_or}
use Rattle.answer.specs.Answer.{Answer, told_of, when_done}
use Rattle.answer.specs.Limits.{element_limit}
use Rattle.answer.specs.declared.Refusal.TheVariants.{Domain}
use Rattle.answer.proofs.Chain.{Gives, told_and_left, clear, stop, skip, found_at, found_nowhere}
use Rattle.lists.proofs.Found.{none_passed}
use Rattle.unary.specs.declared.Op.{Op}
use Rattle.unary.specs.Unary.{tests, first_outside, inside_at, in_domain, apply_answer, apply_told, apply_out, eval_of, alpha_ok}
use Rattle.unary.proofs.apply.Goals as goal

-- what the first test that holds tells and leaves
outcome : (op : Op) (s d : List Float) {a : Answer} → Gives (tests op s d) a
    → (told_of a ≡ apply_told op s d) × (when_done a (map (eval_of op) s) d ≡ apply_out op s d)
unfolding apply_answer
outcome op s d g = told_and_left _ _ g

-- past the three before the search
past : (op : Op) (s d : List Float) {a : Answer} → length s ≡ length d → length s ≤ element_limit → alpha_ok op ≡ true
    → Gives (drop 3 (tests op s d)) a → Gives (tests op s d) a
past op s d same most ok g = skip (ap not (eq-eqb _ _ same)) (skip (le-ltb _ _ most) (skip (ap not ok) g))

pub returns-then-src-dst : goal.returns-then-src-dst
returns-then-src-dst c =
    let o = outcome c.args.op c.args.src.now c.args.dst.now (stop (ap not (ne_eqb _ _ c.if-src-dst.true))) in
    record { told = o.0; written = o.1 }

pub returns-then-src-gt-ELEMENT_LIMIT : goal.returns-then-src-gt-ELEMENT_LIMIT
returns-then-src-gt-ELEMENT_LIMIT c =
    let o = outcome c.args.op c.args.src.now c.args.dst.now
    (skip (ap not (eq-eqb _ _ c.if-src-dst.false)) (stop (lt-ltb _ _ c.if-src-gt-ELEMENT_LIMIT.true))) in
    record { told = o.0; written = o.1 }

pub returns-then-not-alpha_ok : goal.returns-then-not-alpha_ok
returns-then-not-alpha_ok c =
    let o = outcome c.args.op c.args.src.now c.args.dst.now
    (skip (ap not (eq-eqb _ _ c.if-src-dst.false)) (skip (le-ltb _ _ c.if-src-gt-ELEMENT_LIMIT.false)
    (stop (ap not (sym c.alpha_ok.ensures ∙ c.if-not-alpha_ok.true))))) in
    record { told = o.0; written = o.1 }

pub returns-in-Some : goal.returns-in-Some
unfolding first_outside
returns-in-Some c =
    let s = c.args.src.now in
    let o = outcome c.args.op s c.args.dst.now
    (past _ _ _ c.if-src-dst.false c.if-src-gt-ELEMENT_LIMIT.false (sym c.alpha_ok.ensures ∙ c.if-not-alpha_ok.false)
    (found_at Domain (inside_at c.args.op s) (length s) c.in-Some.at (sym c.in-Some.is ∙ c.first_outside.ensures))) in
    record { told = o.0; written = o.1 }

pub fill-requires-clause-inside : goal.fill-requires-clause-inside
fill-requires-clause-inside c =
    let s = c.args.src.now in
    All-from_get_or (λ x. in_domain c.args.op x ≡ true) s nan (none_passed (inside_at c.args.op s) (length s) (sym c.in_default.is ∙ c.first_outside.ensures))

pub returns : goal.returns
unfolding first_outside
returns c =
    let s = c.args.src.now in
    let o = outcome c.args.op s c.args.dst.now
    (past _ _ _ c.if-src-dst.false c.if-src-gt-ELEMENT_LIMIT.false (sym c.alpha_ok.ensures ∙ c.if-not-alpha_ok.false)
    (found_nowhere (inside_at c.args.op s) (length s) (sym c.in_default.is ∙ c.first_outside.ensures) clear)) in
    record { told = o.0; written = c.fill.ensures ∙ o.1 }
