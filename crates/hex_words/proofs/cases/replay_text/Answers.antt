-- The closure asks of agrees only what is so of it at any time.
use denote.Param.Always.{mut_total}
use Rattle.hex_words.proofs.cases.replay_text.Goals as goal

pub each_case-requires : goal.each_case-requires
each_case-requires g c = mut_total _ _ (λ s a. mut_total _ _ (λ f x. c.requires f x.0))
