-- In each arm the slices in use are known, and the test is `all_finite` at the place.
use Rattle.std.proofs.Common.{rules}
use Rattle.normalize.specs.Scaling.{all_finite}
use Rattle.normalize.proofs.Searched.{found_by}
use Rattle.normalize.proofs.judging.first_not_finite.Goals as goal

pub returns-in-None-None : goal.returns-in-None-None
returns-in-None-None c =
    found_by _ _ (all_finite c.args.by c.args.src.now) c.first_failing.ensures (λ i b h. rw (c.in-None-None.is-0, c.in-None-None.is-1) (search rules))

pub returns-in-None-Some : goal.returns-in-None-Some
returns-in-None-Some c =
    found_by _ _ (all_finite c.args.by c.args.src.now) c.first_failing-in-None-Some.ensures
    (λ i b h. rw (c.in-None-Some.is-0, c.in-None-Some.is-1) (search rules))

pub returns-in-Some-None : goal.returns-in-Some-None
returns-in-Some-None c =
    found_by _ _ (all_finite c.args.by c.args.src.now) c.first_failing-in-Some-None.ensures
    (λ i b h. rw (c.in-Some-None.is-0, c.in-Some-None.is-1) (search rules))

pub returns-in-Some-Some : goal.returns-in-Some-Some
returns-in-Some-Some c =
    found_by _ _ (all_finite c.args.by c.args.src.now) c.first_failing-in-Some-Some.ensures
    (λ i b h. rw (c.in-Some-Some.is-0, c.in-Some-Some.is-1) (search rules))
