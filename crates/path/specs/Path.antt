-- To believe. A record on a path: "any held record whose port and one of whose addresses stand together as an endpoint on the LOOKUP's path" (02, Wish 2). A path
-- is "endpoints as on the wire, none allowed": 18 bytes each, port 2 (big-endian), address 16. Assumes nothing.
use Rattle.std.specs.Prelude.{ℕ, ◌/◌, ◌%◌, Bool, ◌&&◌, List, eqb, length, drop}
use Rattle.octet.specs.Number.{value_be}
use Rattle.octet.specs.Part.{part, same}
use Rattle.record.specs.Record.{port_of, count_of}
use Rattle.table.specs.Rows.{rows, any_of}

-- "1 if not whole ones"
unfoldable pub path_form : List ℕ → Bool
path_form path = eqb (length path % 18) 0

-- the endpoints of a path, and what each says
abbrev pub endpoints_of : List ℕ → List (List ℕ)
endpoints_of path = rows 18 (length path / 18) path

abbrev pub endpoint_port : List ℕ → ℕ
endpoint_port e = value_be 256 (part 0 2 e)

abbrev pub endpoint_address : List ℕ → List ℕ
endpoint_address e = part 2 16 e

-- the addresses of a record one by one, so many as its count says
abbrev pub address_rows : List ℕ → List (List ℕ)
address_rows r = rows 16 (count_of r) (drop 36 r)

-- do the record's port and one of its addresses stand together in the endpoint?
unfoldable pub stands_in : List ℕ → List ℕ → Bool
stands_in r e = eqb (endpoint_port e) (port_of r) && any_of (λ (a : List ℕ). same a (endpoint_address e)) (address_rows r)

-- and in some endpoint of the path?
unfoldable pub on_path : List ℕ → List ℕ → Bool
on_path r path = any_of (stands_in r) (endpoints_of path)
