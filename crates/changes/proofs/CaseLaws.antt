-- The worked cases hold: antt computes each call. Assumes nothing.
use mathlib.Core.Path.{refl}
use Rattle.octet.specs.Number.{value_be, digits_be}
use Rattle.octet.specs.Part.{splice, same, all_zero}
use Rattle.refusal.specs.Table.{or_refuse}
use Rattle.record.specs.Record.{record_form}
use Rattle.own.specs.Own.{rising_by, own_by}
use Rattle.kept.specs.Keys.{has}
use Rattle.table.specs.Rows.{rows, joined, bytes_of}
use Rattle.cache.specs.Form.{follows, leading, held_in, held_of, cache_form}
use Rattle.changed.specs.Changes.{changes}
use Rattle.changes.specs.Listed.{list_call}
use Rattle.changes.specs.Cases.{ThreeChanges, ByteShort, NothingChanged, TenNew, TenGone, UnequalPlaces}

-- all that a call is made of
unfoldable computed : Unit {0}
unfolding value_be digits_be splice same all_zero or_refuse record_form rising_by own_by has rows joined bytes_of follows leading held_in held_of cache_form changes list_call
computed = tt

pub three-changes : ThreeChanges
unfolding computed
three-changes = refl

pub byte_short : ByteShort
unfolding computed
byte_short = refl

pub nothing-changed : NothingChanged
unfolding computed
nothing-changed = refl

pub ten_new : TenNew
unfolding computed
ten_new = refl

pub ten_gone : TenGone
unfolding computed
ten_gone = refl

pub unequal_places : UnequalPlaces
unfolding computed
unequal_places = refl
