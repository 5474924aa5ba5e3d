-- Softmax's refusal is the split's; where it is done its weights are such that steps and parts may be taken.
use Rattle.std.proofs.Common.{sym, ap, ◌∙◌}
use native.Mathlib.Omega.{arith}
use Rattle.std.proofs.lemmas.Result.{err_from_is_err_and}
use Rattle.lists.proofs.Turns.{zip_map}
use Rattle.split.specs.Split.{gains_of, steps_of}
use Rattle.split.proofs.Passed.{softmax_rest, past_counts, refused, finished}
use Rattle.split.proofs.Weighed.{Weighed, weighed, are_weights, stepped, stepped_length, stepped_total}
use Rattle.split.proofs.by_weights.Goals as goal

pub returns-in_err-softmax : goal.returns-in_err-softmax
returns-in_err-softmax c =
    let p = c.requires.in_bounds in
    let q = err_from_is_err_and c.from_residual.result c.from_residual.ensures.1 in
    let t = c.in_err-softmax.ensures.told in
    rw (q.1, q.2) (refused _ _ (past_counts _ _ p.0 p.1 p.2 (softmax_rest _ _ _ p.1 c.requires.levels_len.0 t)))

pub map_into-requires-clause-callable : goal.map_into-requires-clause-callable
map_into-requires-clause-callable c =
    let p = c.requires.in_bounds in
    let w : Weighed c.args.levels.now c.softmax.new.dst =
    weighed _ _ _ p.0 p.1 c.requires.levels_len.0 (λ i h. c.type_inv.levels i) c.in_ok-softmax.ensures.told c.in_ok-softmax.ensures.written in
    are_weights w

pub part-requires : goal.part-requires
part-requires c =
    let p = c.requires.in_bounds in
    let w : Weighed c.args.levels.now c.softmax.new.dst =
    weighed _ _ _ p.0 p.1 c.requires.levels_len.0 (λ i h. c.type_inv.levels i) c.in_ok-softmax.ensures.told c.in_ok-softmax.ensures.written in
    let e = zip_map _ steps_of _ _ (λ x y h. h.0) c.map_into.ensures in
    (omega (arith, stepped_length w e), sym p.2 ∙ sym (stepped_length w e), stepped_total w e, omega arith)

pub returns : goal.returns
returns c =
    let p = c.requires.in_bounds in
    let w : Weighed c.args.levels.now c.softmax.new.dst =
    weighed _ _ _ p.0 p.1 c.requires.levels_len.0 (λ i h. c.type_inv.levels i) c.in_ok-softmax.ensures.told c.in_ok-softmax.ensures.written in
    let e = zip_map _ steps_of _ _ (λ x y h. h.0) c.map_into.ensures in
    finished _ _ _ (c.part.ensures ∙ ap gains_of (stepped w e))
    (past_counts _ _ p.0 p.1 p.2 (softmax_rest _ _ _ p.1 c.requires.levels_len.0 c.in_ok-softmax.ensures.told))
