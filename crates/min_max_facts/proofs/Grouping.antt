-- Grouping doesn't matter, to the bit: two pieces, any number of chunks, and answers one by one. Assumes nothing.
use mathlib.Core.Path.{refl, sym, ap, ap₂, ◌∙◌}
use mathlib.Core.List.{[], ◌∷◌, map, flatten}
use Rattle.min_max.specs.MinMax.{start_of, keep, extreme_of}
use Rattle.min_max.proofs.Fold.{extreme_none}
use Rattle.min_max.proofs.Sides.{start_number}
use Rattle.min_max.proofs.Joined.{keep_grouped, start_first, start_last, extreme_number, extreme_one, two_joined}
use Rattle.min_max_facts.specs.MinMaxFacts.{TwoPieces, AllChunks, AnswerIsNumber, AnyGrouping, EmptyAnswer}

pub two_pieces : TwoPieces
two_pieces side s t = two_joined side (start_of side) s t

pub answer_is_number : AnswerIsNumber
answer_is_number side s = extreme_number side (start_of side) s (start_number side)

-- the first chunk's answer is a piece, the others' are another
pub all_chunks : AllChunks
unfolding flatten
all_chunks side [] = refl
all_chunks side (s ∷ chunks) =
    two_pieces side (extreme_of side s ∷ []) (map (extreme_of side) chunks)
    ∙ ap₂ (keep side) (extreme_one side (extreme_of side s) (answer_is_number side s)) (all_chunks side chunks)
    ∙ sym (two_pieces side s (flatten chunks))

pub any_grouping : AnyGrouping
any_grouping side x y z n = keep_grouped side x y z n

pub empty_answer : EmptyAnswer
empty_answer side x n =
    let e = extreme_none side (start_of side) in
    (ap (λ h. keep side h x) e ∙ start_first side x n, ap (keep side x) e ∙ start_last side x)
