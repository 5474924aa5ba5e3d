use Rattle.normalize.proofs.Shown.{data_shows, result_shows}
use Rattle.normalize.specs.Normalize.{list_of}
use Rattle.std.proofs.Common.{is_some, rules}
use Rattle.normalize.proofs.judging.needs_search.Goals as goal

pub returns-then-by : goal.returns-then-by
returns-then-by c e i h = data_shows c.args.by.settings (is_some c.args.by.element_scale) (list_of c.args.by.element_scale) (is_some c.args.by.element_bias) (list_of c.args.by.element_bias) c.args.src.now i (search rules)
    (search rules) c.requires.settings
    c.if-by.true (c.any_not_finite.ensures e i h)

pub returns : goal.returns
returns c e i h = result_shows c.args.by.settings (is_some c.args.by.element_scale) (list_of c.args.by.element_scale) (is_some c.args.by.element_bias) (list_of c.args.by.element_bias) c.args.src.now i (c.any_not_finite_result.ensures e i h)
