use Rattle.std.proofs.Common.{ap, ◌∙◌}
use Rattle.lists.proofs.Turns.{zip_map}
use Rattle.split.specs.Split.{split_told, split_out}
use Rattle.tabulate_core.specs.Rows.{level_of}
use Rattle.tabulate_core.proofs.split_by.Goals as goal

pub returns : goal.returns
returns c =
    let e = zip_map _ level_of _ _ (λ x y h. h) c.map_into.ensures in
    record {
      told = c.split.ensures.told ∙ ap (λ l. split_told l c.args.gains.now) e;
      written = c.split.ensures.written ∙ ap (λ l. split_out l c.args.gains.now) e;
    }
