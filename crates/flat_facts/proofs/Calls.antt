-- Both calls leave such weights, with flush or without. Assumes nothing.
use mathlib.Core.Path.{refl, sym, ap, ◌∙◌, subst}
use lib.ListN.{length}
use Rattle.answer.proofs.Numbers.{zero_done}
use Rattle.softmax_facts.proofs.Called.{called}
use Rattle.flat_facts.specs.FlatFacts.{Flat, FlatCall, FlatInPlace}
use Rattle.flat_facts.proofs.Weights.{flat_weights}

pub flat_call : FlatCall
flat_call flush s d answer left I l o =
    let c = called s I flush d (sym l) in
    (zero_done answer (ap (λ t. t.0) (o.told ∙ c.told)), subst (Flat (length s)) (sym (o.left ∙ c.left)) (flat_weights s I))

pub flat_in_place : FlatInPlace
flat_in_place flush s answer left I o =
    let c = called s I flush s refl in
    (zero_done answer (ap (λ t. t.0) (o.told ∙ c.in_place_told_law)), subst (Flat (length s)) (sym (o.left ∙ c.in_place_left)) (flat_weights s I))
