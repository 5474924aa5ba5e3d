-- The calls obey it: pieces and chunks of a call that is not refused, and the call over the chunks' answers. Assumes nothing.
use Prim.Native.Nat.{zero, suc, suc-le-suc}
use native.Mathlib.Nat.{zero-lt-suc, not-suc-le-zero, le_of_suc-le-suc}
use native.Mathlib.Omega.{arith}
use mathlib.Core.Path.{◌≡◌, refl, sym, ap, ap₂, ◌∙◌}
use mathlib.Core.List.{List, [], ◌∷◌, ◌++◌, map, flatten}
use lib.ListN.{length, length-append, length-map}
use lib.Ieee.{Float}
use lib.Ieee.Bits.{is_true}
use Rattle.answer.specs.Answer.{told_with}
use Rattle.std.specs.Prelude.{Ok}
use Rattle.answer.proofs.Told.{part_told}
use Rattle.floats.specs.Values.{zero_f}
use Rattle.floats.specs.Each.{Each}
use Rattle.floats.proofs.Each.{each_cons, each_left, each_right}
use Rattle.min_max.specs.MinMax.{Side, Least, Largest, extreme_of, extremes_answer, min_max_told}
use Rattle.min_max.proofs.Taken.{InDomain, takes, taken}
use Rattle.min_max_facts.specs.MinMaxFacts.{JoinedCall, EachDone, ChunksDone, side_told, OneSide, ChunksCall, joined}
use Rattle.min_max_facts.proofs.Grouping.{two_pieces, all_chunks, answer_is_number}

-- a call that is done tells the extremes
done_told : (s : List Float) → (Ok tt) ≡ extremes_answer s → min_max_told s ≡ ((0, 0), (extreme_of Least s, extreme_of Largest s))
done_told s d = sym (ap (λ a. told_with a (extreme_of Least s, extreme_of Largest s) (zero_f, zero_f)) d)

pub joined_call : JoinedCall
joined_call s t d =
    let a = taken (s ++ t) d in
    let l = length-append s t in
    let p = takes s (record { few = omega (arith, a.few); domain = each_left InDomain s t a.domain }) in
    let q = takes t (record { few = omega (arith, a.few); domain = each_right InDomain s t a.domain }) in (
      p,
      q,
      done_told (s ++ t) d
          ∙ ap₂ (λ x y. ((0, 0), (x, y))) (two_pieces Least s t) (two_pieces Largest s t)
          ∙ sym (ap₂ (λ v w. ((0, 0), joined v.1 w.1)) (done_told s p) (done_told t q)),
    )

pub chunks_done : ChunksDone
unfolding flatten
chunks_done [] d i h = absurd (not-suc-le-zero h)
chunks_done (s ∷ chunks) d zero h = (joined_call s (flatten chunks) d).0
chunks_done (s ∷ chunks) d (suc i) h = chunks_done chunks (joined_call s (flatten chunks) d).1 i (le_of_suc-le-suc h)

-- ---- one side alone
pub one_side : OneSide
one_side s =
    let a = extremes_answer s in
    (part_told (λ (v : Float × Float). v.0) _ _ a a _ refl, part_told (λ (v : Float × Float). v.1) _ _ a a _ refl)

side_done : (side : Side) (s : List Float) → (Ok tt) ≡ extremes_answer s → side_told side s ≡ ((0, 0), extreme_of side s)
side_done Least s d = ap (λ v. (v.0, v.1.0)) (done_told s d)
side_done Largest s d = ap (λ v. (v.0, v.1.1)) (done_told s d)

-- ---- over the chunks' answers
answers_are : (side : Side) (chunks : List (List Float)) → EachDone chunks → map (λ s. (side_told side s).1) chunks ≡ map (extreme_of side) chunks
answers_are side [] d = refl
answers_are side (s ∷ chunks) d =
    ap₂ ◌∷◌ (ap (λ v. v.1) (side_done side s (d 0 (zero-lt-suc (length chunks))))) (answers_are side chunks (λ i h. d (suc i) (suc-le-suc h)))

answers_domain : (side : Side) (chunks : List (List Float)) → Each InDomain (map (extreme_of side) chunks)
answers_domain side [] i h = absurd (not-suc-le-zero h)
answers_domain side (s ∷ chunks) i h =
    each_cons InDomain (extreme_of side s) (map (extreme_of side) chunks) (is_true _ (answer_is_number side s)) (answers_domain side chunks) i h

pub chunks_call : ChunksCall
chunks_call side chunks few d =
    let answers = map (extreme_of side) chunks in
    let done = takes answers (record { few = rw (length-map chunks (extreme_of side)) few; domain = answers_domain side chunks }) in
    rw (answers_are side chunks d) (side_done side answers done ∙ ap (λ v. ((0, 0), v)) (all_chunks side chunks))
