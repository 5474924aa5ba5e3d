use Rattle.std.proofs.Common.{ap, ◌∙◌, drop}
use Rattle.std.proofs.lemmas.List.{drop-drop}
use Rattle.hex_words.proofs.words.Words.take.Goals as goal

pub loop-x-preserved : goal.loop-x-preserved
loop-x-preserved g c = c.word.ensures.rest ∙ ap (drop 1) c.loop-x.invariant ∙ drop-drop 1 c.loop-x.x-index c.args.self.now.rest.now
