-- The worked cases hold: antt computes each row. Assumes nothing.
use mathlib.Core.Path.{refl}
use Rattle.search.specs.Halving.{halving, binary}
use Rattle.search.specs.Cases.{keys_from, FiveHeld, FiveNot, Few, Full, Digits}

pub five-held : FiveHeld
unfolding halving
five-held = refl

pub five-not : FiveNot
unfolding halving
five-not = refl

pub few : Few
unfolding halving
few = (refl, refl)

pub full : Full
unfolding halving keys_from
full = refl

pub digits_right : Digits
unfolding binary
digits_right = refl
