-- As in `normalize`, with no length to ask about.
use Rattle.std.proofs.Common.{◌≡◌, is_some, sym, ◌∙◌, Err, rules}
use Rattle.answer.proofs.Chain.{rest, refuses, finishes}
use Rattle.normalize.specs.Normalize.{list_of, tests, results, in_place_answer}
use Rattle.normalize.proofs.Passing.{passing}
use Rattle.normalize.proofs.normalize_in_place.Goals as goal

pub returns-in_err-judge : goal.returns-in_err-judge
unfolding in_place_answer
returns-in_err-judge c =
    let same : c.from_residual.result ≡ Err c.in_err-judge.field-0.0 = search rules in
    let both = refuses {ts = tests c.args.settings (is_some c.args.element_scale) (list_of c.args.element_scale) (is_some c.args.element_bias) (list_of c.args.element_bias) c.args.buf.now}
    (results c.args.settings (is_some c.args.element_scale) (list_of c.args.element_scale) (is_some c.args.element_bias) (list_of c.args.element_bias) c.args.buf.now) c.args.buf.now
    (rest (sym c.in_err-judge.was ∙ c.judge.ensures)) in
    record { told = rw same both.0; written = both.1 }

pub fill_in_place-requires : goal.fill_in_place-requires
fill_in_place-requires c = (passing c.args.settings _ _ _ _ _ (sym c.in_ok-judge.was ∙ c.judge.ensures)).0

pub returns : goal.returns
unfolding in_place_answer
returns c =
    let both = finishes {ts = tests c.args.settings (is_some c.args.element_scale) (list_of c.args.element_scale) (is_some c.args.element_bias) (list_of c.args.element_bias) c.args.buf.now}
    (results c.args.settings (is_some c.args.element_scale) (list_of c.args.element_scale) (is_some c.args.element_bias) (list_of c.args.element_bias) c.args.buf.now) c.args.buf.now
    c.fill_in_place.ensures (rest (sym c.in_ok-judge.was ∙ c.judge.ensures)) in
    record { told = both.0; written = both.1 }
