-- Helps the code. The bytes of the datagrams that calls send, run after run as they are put: shown to be those of the messages
-- (wire_write, Sent) by the laws of this crate. Assumes nothing.
use Rattle.std.specs.Prelude.{ℕ, ◌+◌, ◌*◌, List, ◌∷◌, ◌++◌, cond, get_or}
use Rattle.octet.specs.Number.{digits_be}
use Rattle.record.specs.Record.{count_of}
use Rattle.record.specs.Entry.{entry_of}
use Rattle.wire_fields.specs.Message.{opening}
use Rattle.wire_write.specs.Making.{formed_at}

-- a header
abbrev pub header_bytes : ℕ → ℕ → ℕ → ℕ → List ℕ
header_bytes major minor kind id = opening ++ (major ∷ minor ∷ kind ∷ digits_be 256 4 id)

-- the number and the length of a field with so many bytes of contents
abbrev pub mark : ℕ → ℕ → List ℕ
mark number len = digits_be 256 2 number ++ digits_be 256 2 (len + 4)

-- a field of up to four bytes with its padding
abbrev pub word_field : ℕ → ℕ → ℕ → List ℕ
word_field number len word = mark number len ++ digits_be 256 4 word

-- the route entry that carries a record, with its padding
abbrev pub entry_field : ℕ → ℕ → List ℕ → List ℕ
entry_field major minor r = mark 0x9A (38 + 16 * count_of r) ++ entry_of major minor r ++ digits_be 256 2 0

-- how many bytes that is of the record at a place of a slice; 0 where none in form stands there
abbrev pub entry_len : ℕ → List ℕ → ℕ
entry_len at s = cond (formed_at at s) (44 + 16 * get_or s (at + 34) 0) 0

-- ACK and AUTHORITY: header and acked ID
abbrev pub acked_front : ℕ → ℕ → ℕ → ℕ → ℕ → List ℕ
acked_front major minor kind id acked = header_bytes major minor kind id ++ word_field 0x18 4 acked

-- AUTHORITY: the same, split controls, flags
abbrev pub answer_front : ℕ → ℕ → ℕ → ℕ → ℕ → List ℕ
answer_front major minor id acked size =
    acked_front major minor 8 id acked ++ mark 0x98 4 ++ digits_be 256 2 size ++ digits_be 256 2 0 ++ word_field 0x40 2 0

-- FLOOD and INQUIRE: header, controls or flags, validate key
abbrev pub key_front : ℕ → ℕ → ℕ → ℕ → ℕ → ℕ → ℕ → List ℕ → List ℕ
key_front major minor kind id number len word key =
    header_bytes major minor kind id ++ word_field number len word ++ mark 0x39 32 ++ key
