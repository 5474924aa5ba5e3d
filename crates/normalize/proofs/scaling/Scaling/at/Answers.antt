-- Each return is the arm of `norm_of` that the slices and the bias choose.
use mathlib.Core.Path.{◌∙◌}
use Rattle.normalize.specs.Normalize.{norm_of}
use Rattle.normalize.proofs.scaling.Scaling.at.Goals as goal

pub returns-in-None-None : goal.returns-in-None-None
unfolding norm_of
returns-in-None-None c = rw (c.in-None-None.is-0, c.in-None-None.is-1)

pub returns-in-None-Some : goal.returns-in-None-Some
unfolding norm_of
returns-in-None-Some c = c.full.ensures ∙ rw (c.in-None-Some.is-0, c.in-None-Some.is-1)

pub returns-in-Some-None : goal.returns-in-Some-None
unfolding norm_of
returns-in-Some-None c = rw (c.in-Some-None.is-0, c.in-Some-None.is-1, c.if-st.true)

pub returns-in-Some-None-2 : goal.returns-in-Some-None-2
unfolding norm_of
returns-in-Some-None-2 c = c.full-in-Some-None-2.ensures ∙ rw (c.in-Some-None.is-0, c.in-Some-None.is-1, c.if-st.false)

pub returns-in-Some-Some : goal.returns-in-Some-Some
unfolding norm_of
returns-in-Some-Some c = c.full-in-Some-Some.ensures ∙ rw (c.in-Some-Some.is-0, c.in-Some-Some.is-1)
