-- The worked cases, computed. Assumes nothing.
use mathlib.Core.Path.{refl}
use Rattle.octet.specs.Number.{value_be, digits_be}
use Rattle.key.specs.Around.{ring, are_keys, up, apart, is_down, tie, closer}
use Rattle.closest_row.specs.Closest.{closest_from, closest_of}
use Rattle.reason.specs.Reason.{passing, reason_of}
use Rattle.reason.specs.Cases.{keyed, Cases}

pub cases : Cases
unfolding value_be digits_be ring are_keys up apart is_down tie closer closest_from closest_of passing reason_of keyed
cases = ((refl, refl), (refl, refl), (refl, refl), (refl, refl), (refl, refl))
