-- To believe. "A record is 100 bytes: key 32, port 2 (big-endian), address count 1 (1 to 4), one zero byte, four addresses of 16 bytes, the unused
-- ones zero", and of the addresses (document 02, request 13) the first only: "the count 1 and the other addresses zero". A record is its bytes; its
-- fields are parts of them. Assumes nothing.
use Rattle.std.specs.Prelude.{ℕ, ◌*◌, Bool, ◌&&◌, List, eqb, length, get_or, drop}
use Rattle.octet.specs.Number.{value_be}
use Rattle.octet.specs.Part.{part, all_zero}
use Rattle.key.specs.Number.{key_at}

-- the key, the port, how many addresses there are, and they themselves
abbrev pub key_of : List ℕ → ℕ
key_of r = key_at 0 r

abbrev pub port_of : List ℕ → ℕ
port_of r = value_be 256 (part 32 2 r)

abbrev pub count_of : List ℕ → ℕ
count_of r = get_or r 34 0

abbrev pub addresses_of : List ℕ → List ℕ
addresses_of r = part 36 (16 * count_of r) r

-- is the list a record in form?
unfoldable pub record_form : List ℕ → Bool
record_form r =
    eqb (length r) 100
    && eqb (count_of r) 1
    && eqb (get_or r 35 0) 0
    && all_zero (drop 52 r)
