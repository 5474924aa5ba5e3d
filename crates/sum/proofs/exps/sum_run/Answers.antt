-- The exponentials are those of the run (`zip_map`), and their plain sum is its sum.
use Rattle.std.proofs.Common.{ap, ◌∙◌, rules}
use lib.Ieee.{binary32, sub}
use Rattle.lists.proofs.Turns.{zip_map}
use Rattle.exp.specs.Exp.{exp_of}
use Rattle.sum.specs.Sum.{sum_from}
use Rattle.sum.specs.declared.SumOp.TheVariants.{Sum}
use Rattle.sum.proofs.Fold.{exps_sum}
use Rattle.sum.proofs.exps.sum_run.Goals as goal

pub returns : goal.returns
returns c =
    let z = zip_map _ (λ x. exp_of (sub binary32 x c.args.offset)) c.args.run.now c.map_into.new.dst (λ x y h. search rules) c.map_into.ensures in
    c.sum.ensures ∙ ap (sum_from Sum c.args.held) z ∙ exps_sum c.args.offset c.args.held c.args.run.now
