-- Helps the code. What the buffer of an AUTHORITY holds, as flags and as places in what it was read from. Assumes nothing.
use Rattle.std.specs.Prelude.{ℕ, ◌+◌, ◌/◌, ◌%◌, List, Bool, get_or, eqb, Option as Answer, Some, None}
use Rattle.std.proofs.Math.Option.{Option, some, none}
use Rattle.wire_fields.specs.Kinds.{buffer_kinds}
use Rattle.wire_fields.specs.Reading.{places_at}
use Rattle.wire_fields.specs.Places.{Part}
use Rattle.wire_buffer.specs.declared.Inside.{Inside}

-- the place of a field
abbrev pub start_of : Part → ℕ
start_of (Some p) = p.start
start_of None = 0

-- the bit of a weight in the byte at an offset from a place
unfoldable pub flag_at : List ℕ → ℕ → ℕ → ℕ → Bool
flag_at d start offset weight = eqb (get_or d (start + offset) 0 / weight % 2) 1

-- the fields of a buffer; the buffer from a place to the end of any list
abbrev pub inside_shown : List ℕ → List Part → Inside
inside_shown d ps =
    record {
      l = flag_at d (start_of (get_or ps 0 None)) 0 2;
      b = flag_at d (start_of (get_or ps 0 None)) 1 8;
      n = flag_at d (start_of (get_or ps 0 None)) 1 1;
      chain = get_or ps 1 None;
      token = get_or ps 2 None;
      classifier = get_or ps 3 None;
      payload = get_or ps 4 None;
      entry = get_or ps 5 None;
      cpa = get_or ps 6 None;
    }

abbrev pub buffer_shown : List ℕ → Option (List Part) → Answer Inside
buffer_shown d none = None
buffer_shown d (some ps) = Some (inside_shown d ps)

unfoldable pub buffer_at : List ℕ → ℕ → Answer Inside
buffer_at d i = buffer_shown d (places_at buffer_kinds d i)
