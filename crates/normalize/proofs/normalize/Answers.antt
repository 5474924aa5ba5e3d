-- A refusal is the length's, or `judge`'s with nothing written; where it is done the slices in use fit (`passing`), so `fill` may run, and leaves the results.
use Rattle.std.proofs.Common.{◌≡◌, Float, List, ◌∷◌, Option, Bor, length, is_some, sym, ◌∙◌, ap, Err, rules}
use mathlib.Core.Bool.{not}
use lib.Dec.{eqb}
use borrow.Author.Tests.{eq-eqb, ne_eqb}
use Rattle.answer.specs.Answer.{Test}
use Rattle.answer.specs.declared.Refusal.TheVariants.{Length}
use Rattle.answer.proofs.Chain.{stop, skip, rest, refuses, finishes}
use Rattle.normalize.specs.declared.Settings.{Settings}
use Rattle.normalize.specs.Normalize.{list_of, tests, results, normalize_answer}
use Rattle.normalize.proofs.Passing.{passing}
use Rattle.normalize.proofs.normalize.Goals as goal

-- what `normalize_answer` judges, and the results
module _ (st : Settings) (es eb : Option (Bor (List Float))) (s : List Float) where
  abbrev all : List Float → List Test
  all d = (not (eqb (length s) (length d)), Length) ∷ tests st (is_some es) (list_of es) (is_some eb) (list_of eb) s

  abbrev new : List Float
  new = results st (is_some es) (list_of es) (is_some eb) (list_of eb) s

pub returns-then-src-dst : goal.returns-then-src-dst
unfolding normalize_answer
returns-then-src-dst c =
    let both = refuses {ts = all c.args.settings c.args.element_scale c.args.element_bias c.args.src.now c.args.dst.now}
    (new c.args.settings c.args.element_scale c.args.element_bias c.args.src.now) c.args.dst.now
    (stop (ap not (ne_eqb _ _ c.if-src-dst.true))) in
    record { told = both.0; written = both.1 }

pub returns-in_err-judge : goal.returns-in_err-judge
unfolding normalize_answer
returns-in_err-judge c =
    let same : c.from_residual.result ≡ Err c.in_err-judge.field-0.0 = search rules in
    let both = refuses {ts = all c.args.settings c.args.element_scale c.args.element_bias c.args.src.now c.args.dst.now}
    (new c.args.settings c.args.element_scale c.args.element_bias c.args.src.now) c.args.dst.now
    (skip (ap not (eq-eqb _ _ c.if-src-dst.false)) (rest (sym c.in_err-judge.was ∙ c.judge.ensures))) in
    record { told = rw same both.0; written = both.1 }

pub fill-requires-clause-fits : goal.fill-requires-clause-fits
fill-requires-clause-fits c = (passing c.args.settings _ _ _ _ _ (sym c.in_ok-judge.was ∙ c.judge.ensures)).0

pub returns : goal.returns
unfolding normalize_answer
returns c =
    let both = finishes {ts = all c.args.settings c.args.element_scale c.args.element_bias c.args.src.now c.args.dst.now}
    (new c.args.settings c.args.element_scale c.args.element_bias c.args.src.now) c.args.dst.now
    c.fill.ensures (skip (ap not (eq-eqb _ _ c.if-src-dst.false)) (rest (sym c.in_ok-judge.was ∙ c.judge.ensures))) in
    record { told = both.0; written = both.1 }
