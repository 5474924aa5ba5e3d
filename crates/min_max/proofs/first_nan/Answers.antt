-- The look has seen no NaN; or `position` finds the first.
use Rattle.std.proofs.Common.{rules, tests, ◌∙◌}
use Rattle.std.proofs.lemmas.Iterator.{YieldsList-from_slice}
use Rattle.std.proofs.lemmas.Iterator.Search.{position_from_yields_List}
use lib.Ieee.{nan, is_nan}
use Rattle.lists.proofs.Found.{found_none, found_position}
use Rattle.min_max.proofs.first_nan.Goals as goal

pub returns-then-not-any : goal.returns-then-not-any
returns-then-not-any c = found_none _ _ (c.requires c.if-not-any.true)

pub returns : goal.returns
returns c =
    let src = c.args.src.now in
    position_from_yields_List is_nan _ _ _ c.position.ensures.ran (YieldsList-from_slice src cc) (λ x b q k. search (rules, tests))
    ∙ found_position is_nan nan src
