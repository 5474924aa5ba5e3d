-- As in `softmax`, with no length to ask about, and each pass over what the one before it left in buf.
use Rattle.std.proofs.Common.{refl, sym, ◌∙◌, rules}
use Rattle.answer.proofs.Chain.{rest, finishes}
use Rattle.lists.proofs.Turns.{zip_map, zip_same}
use Rattle.softmax.specs.Softmax.{tests, result_of, exp_less, in_place_answer}
use Rattle.softmax.proofs.Maximum.{not_above_at}
use Rattle.softmax.proofs.Result.{result_clear, result_passes, done_domain}
use Rattle.softmax.proofs.softmax_in_place.Goals as goal

pub returns-then-all_masked-clause-written : goal.returns-then-all_masked-clause-written
unfolding in_place_answer
returns-then-all_masked-clause-written c =
    (finishes {ts = tests c.args.flush c.args.buf.now} (result_of c.args.buf.now) c.args.buf.now
    (result_clear c.args.buf.now _ _ (sym c.all_masked.ensures ∙ c.if-all_masked.true) refl (zip_same _ _ _ _ (λ x y h. search rules) c.map_in_place.ensures))
    (rest (sym c.in_ok-judge.was ∙ c.judge.ensures))).1

pub map_in_place-requires-2 : goal.map_in_place-requires-2
map_in_place-requires-2 c =
    let inside = done_domain c.args.buf.now _ (sym c.in_ok-judge.was ∙ c.judge.ensures) in
    λ k d h κ p n u. rw c.max-max.ensures (not_above_at c.args.buf.now inside k d h)

pub returns-clause-written : goal.returns-clause-written
unfolding in_place_answer
returns-clause-written c =
    let exps = zip_map _ (exp_less c.max-max.result) _ _ (λ x y h. search rules) c.map_in_place-2.ensures in
    (finishes {ts = tests c.args.flush c.args.buf.now} (result_of c.args.buf.now) c.args.buf.now
    (result_passes c.args.buf.now c.max-max.result _ _ (sym c.all_masked.ensures ∙ c.if-all_masked.false) c.max-max.ensures exps c.scale.ensures)
    (rest (sym c.in_ok-judge.was ∙ c.judge.ensures))).1
