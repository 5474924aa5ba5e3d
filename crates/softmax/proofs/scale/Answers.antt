-- The factor is the reciprocal of the sum, and each element is multiplied by it.
use Rattle.std.proofs.Common.{ap, ◌∙◌, rules}
use Rattle.std.specs.Float.{binary32}
use Rattle.std.specs.Float.Ieee.{mul, div}
use Rattle.floats.specs.Values.{one_f}
use Rattle.lists.proofs.Turns.{zip_map}
use Rattle.softmax.specs.Softmax.{sum_of, scaled_by}
use Rattle.softmax.proofs.scale.Goals as goal

pub returns : goal.returns
unfolding sum_of
returns c =
    let times = zip_map _ (λ x. mul binary32 x (div binary32 one_f c.sum_from.result)) _ _ (λ x y h. search rules) c.map_in_place.ensures in
    times ∙ ap (λ t. scaled_by t c.args.buf.now) c.sum_from.ensures
