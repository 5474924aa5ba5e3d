use mathlib.Core.Path.{ap}
use mathlib.Core.Bool.{not}
use borrow.Author.Tests.{lt-ltb, le-ltb, ne_eqb}
use Rattle.answer.proofs.Chain.{stop, skip}
use Rattle.split.proofs.Passed.{refused}
use Rattle.split.proofs.split.Goals as goal

pub returns-then-n-lt1 : goal.returns-then-n-lt1
returns-then-n-lt1 c = refused _ _ (stop (lt-ltb _ _ c.if-n-lt1.true))

pub returns-then-n-gt-BAND_LIMIT : goal.returns-then-n-gt-BAND_LIMIT
returns-then-n-gt-BAND_LIMIT c = refused _ _ (skip (le-ltb _ _ c.if-n-lt1.false) (stop (lt-ltb _ _ c.if-n-gt-BAND_LIMIT.true)))

pub returns-then-n-gains : goal.returns-then-n-gains
returns-then-n-gains c =
    refused _ _ (skip (le-ltb _ _ c.if-n-lt1.false) (skip (le-ltb _ _ c.if-n-gt-BAND_LIMIT.false) (stop (ap not (ne_eqb _ _ c.if-n-gains.true)))))
