-- Two sums by hand of the definition, computed: three equal bands of 32768 parts add up to 32768, where each rounded by itself makes 32769,
-- and two equal bands of two parts lie at no distance from their exact shares, where all to one lies at 4. Assumes nothing.
use mathlib.Core.Path.{◌≡◌, refl}
use mathlib.Core.List.{[], ◌∷◌}
use Rattle.lists.specs.Lists.{sum_to, tab}
use Rattle.parts.specs.Parts.{total, lt1, left, ahead, rank, gain, gains_over, distance_over}

pub by_hand : (total (gains_over 32768 (1 ∷ 1 ∷ 1 ∷ [])) ≡ 32768) × (distance_over 2 (1 ∷ 1 ∷ []) (gains_over 2 (1 ∷ 1 ∷ [])) ≡ 0)
unfolding total lt1 left ahead rank gain gains_over distance_over sum_to tab
by_hand = (refl, refl)
