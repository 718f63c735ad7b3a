-- To believe. Where the contents of a field stand in a datagram, or nothing where the field is absent; and the answers of reading a field. Assumes nothing.
use Rattle.std.specs.Prelude.{ℕ, Option, Some}
use Rattle.wire_fields.specs.declared.Cursor.{Cursor}
use Rattle.wire_fields.specs.declared.Place.{Place}

abbrev pub Part : Type 0
Part = Option Place

-- the place of a start and a length
abbrev pub here : ℕ → ℕ → Part
here start len = Some (record { start = start; len = len })

-- a field that must be there, and one that may be absent: what was found and the next position, or none where it is not right
abbrev pub Need : Type 0
Need = Option (Place × Cursor)

abbrev pub Maybe : Type 0
Maybe = Option (Part × Cursor)
