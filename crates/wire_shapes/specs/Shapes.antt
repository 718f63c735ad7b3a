-- To believe. What the contents of a field must look like: "A length, count or code that 000 doesn't allow makes a field malformed". Assumes nothing.
use Rattle.std.specs.Prelude.{ℕ, ◌+◌, ◌*◌, ◌%◌, List, Bool, true, ◌&&◌, ◌||◌, length, get_or, leb, eqb}
use Rattle.record.specs.Entry.{entry_form}
use Rattle.wire_shapes.specs.Field.{number_at}
use Rattle.wire_shapes.specs.declared.Shape.{Shape}
use Rattle.wire_shapes.specs.declared.Shape.TheVariants.{Sized, Any, Entry, Array, Lookup, Split}

-- an array: how many elements, from least to most; the length 8 + count * size; the elements' number and size; the elements
unfoldable pub array_form : ℕ → ℕ → ℕ → ℕ → List ℕ → Bool
array_form element size least most v =
    leb 8 (length v)
    && leb least (number_at 0 2 v)
    && leb (number_at 0 2 v) most
    && eqb (number_at 2 2 v) (8 + number_at 0 2 v * size)
    && eqb (number_at 4 2 v) element
    && eqb (number_at 6 2 v) size
    && eqb (length v) (8 + number_at 0 2 v * size)

-- LOOKUP's controls: flags 2, precision 2, criteria 1 (0, 1, 2, 4 or 8), reason 1 (0 to 3), reserved 2
abbrev pub is_criteria : ℕ → Bool
is_criteria n = leb n 2 || eqb n 4 || eqb n 8

unfoldable pub lookup_form : List ℕ → Bool
lookup_form v = eqb (length v) 8 && leb (get_or v 5 0) 3 && is_criteria (get_or v 4 0)

-- an AUTHORITY's split controls: size 2 (at most 37,348), offset 2 (a multiple of 1,188)
unfoldable pub split_form : List ℕ → Bool
split_form v = eqb (length v) 4 && leb (number_at 0 2 v) 0x91E4 && eqb (number_at 2 2 v % 1188) 0

-- the contents have the shape
unfoldable pub has_shape : Shape → List ℕ → Bool
has_shape (Sized n) v = eqb (length v) n
has_shape Any v = true
has_shape Entry v = entry_form v
has_shape Lookup v = lookup_form v
has_shape Split v = split_form v
has_shape (Array element size least most) v = array_form element size least most v

-- a kind of field: its number, whether it may be absent, whether padding follows it, what its contents must look like,
-- and what is left of contents when the ignored bits are cleared
pub record Kind : Type 0 where
  pub number : ℕ
  pub optional : Bool
  pub padded : Bool
  pub shape : Shape
  pub kept : List ℕ → List ℕ
