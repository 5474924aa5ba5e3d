-- A refusal is the length's, or `judge`'s with nothing written. Where it is done all is in the domain (`done_domain`), so no element less the maximum is
-- above zero; all masked gives zeros (`result_clear`), and else the passes together are the result (`result_passes`).
use Rattle.std.proofs.Common.{◌≡◌, Bool, Float, List, ◌∷◌, length, sym, ◌∙◌, ap, Err, rules}
use mathlib.Core.Bool.{not}
use lib.Dec.{eqb}
use borrow.Author.Tests.{eq-eqb, ne_eqb}
use Rattle.answer.specs.Answer.{Test}
use Rattle.answer.specs.declared.Refusal.TheVariants.{Length}
use Rattle.answer.proofs.Chain.{stop, skip, rest, refuses, finishes}
use Rattle.lists.proofs.Turns.{zip_map, zip_same}
use Rattle.softmax.specs.Softmax.{tests, result_of, exp_less, softmax_answer, in_place_answer}
use Rattle.softmax.proofs.Maximum.{not_above_at}
use Rattle.softmax.proofs.Result.{result_clear, result_passes, done_domain}
use Rattle.softmax.proofs.softmax.Goals as goal

-- what `softmax_answer` judges
abbrev all : Bool → List Float → List Float → List Test
all flush s d = (not (eqb (length s) (length d)), Length) ∷ tests flush s

pub returns-then-src-dst : goal.returns-then-src-dst
unfolding softmax_answer
returns-then-src-dst c =
    let both = refuses {ts = all c.args.flush c.args.src.now c.args.dst.now} (result_of c.args.src.now) c.args.dst.now
    (stop (ap not (ne_eqb _ _ c.if-src-dst.true))) in
    record { told = both.0; written = both.1 }

pub returns-in_err-judge : goal.returns-in_err-judge
unfolding softmax_answer in_place_answer
returns-in_err-judge c =
    let same : c.from_residual.result ≡ Err c.in_err-judge.field-0.0 = search rules in
    let both = refuses {ts = all c.args.flush c.args.src.now c.args.dst.now} (result_of c.args.src.now) c.args.dst.now
    (skip (ap not (eq-eqb _ _ c.if-src-dst.false)) (rest (sym c.in_err-judge.was ∙ c.judge.ensures))) in
    record { told = rw same both.0; written = both.1 }

pub returns-then-all_masked : goal.returns-then-all_masked
unfolding softmax_answer in_place_answer
returns-then-all_masked c =
    let both = finishes {ts = all c.args.flush c.args.src.now c.args.dst.now} (result_of c.args.src.now) c.args.dst.now
    (result_clear c.args.src.now _ _ (sym c.all_masked.ensures ∙ c.if-all_masked.true) c.if-src-dst.false (zip_same _ _ _ _ (λ x y h. search rules) c.map_in_place.ensures))
    (skip (ap not (eq-eqb _ _ c.if-src-dst.false)) (rest (sym c.in_ok-judge.was ∙ c.judge.ensures))) in
    record { told = both.0; written = both.1 }

pub map_into-requires-clause-callable : goal.map_into-requires-clause-callable
map_into-requires-clause-callable c =
    let inside = done_domain c.args.src.now _ (sym c.in_ok-judge.was ∙ c.judge.ensures) in
    λ k d h κ p n u. rw c.max-max.ensures (not_above_at c.args.src.now inside k d h)

pub returns : goal.returns
unfolding softmax_answer in_place_answer
returns c =
    let exps = zip_map _ (exp_less c.max-max.result) _ _ (λ x y h. search rules) c.map_into.ensures in
    let both = finishes {ts = all c.args.flush c.args.src.now c.args.dst.now} (result_of c.args.src.now) c.args.dst.now
    (result_passes c.args.src.now c.max-max.result _ _ (sym c.all_masked.ensures ∙ c.if-all_masked.false) c.max-max.ensures exps c.scale.ensures)
    (skip (ap not (eq-eqb _ _ c.if-src-dst.false)) (rest (sym c.in_ok-judge.was ∙ c.judge.ensures))) in
    record { told = both.0; written = both.1 }
