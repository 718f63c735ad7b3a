-- Helps the code. What writing a message again makes, from the answer that `read` gave and the datagram d that it gave it of: rows and pieces. Assumes nothing.
use Rattle.std.specs.Prelude.{ℕ, ◌+◌, ◌-◌, ◌*◌, List, [], ◌∷◌, Bool, false, cond, eqb, length, Some, None}
use Rattle.wire_fields.specs.Kinds.{one_of}
use Rattle.wire_fields.specs.Places.{Part}
use Rattle.wire_buffer.specs.Buffer.{start_of}
use Rattle.wire_buffer.specs.declared.Inside.{Inside}
use Rattle.wire_read.specs.Answers.{is_here}
use Rattle.wire_read.specs.Meaning.{bit}
use Rattle.wire_read.specs.declared.Head.{Head}
use Rattle.wire_read.specs.declared.Incoming.{Incoming}
use Rattle.wire_read.specs.declared.Incoming.TheVariants as M
use Rattle.wire_read.specs.declared.messages.Solicit.{Solicit}
use Rattle.wire_read.specs.declared.messages.Advertise.{Advertise}
use Rattle.wire_read.specs.declared.messages.Request.{Request}
use Rattle.wire_read.specs.declared.messages.Flood.{Flood}
use Rattle.wire_read.specs.declared.messages.Inquire.{Inquire}
use Rattle.wire_read.specs.declared.messages.Lookup.{Lookup}
use Rattle.wire_write.specs.Writing.{Made}
use Rattle.wire_write.specs.Pieces.{lent_of, made_by}
use Rattle.wire_write.specs.Rows.{solicit_rows, advertise_rows, request_rows, flood_rows, inquire_rows, authority_rows, ack_rows, lookup_rows, spelled_piece, first_piece, no_piece, spelled_bytes, lookup_bytes, ack_pieces}
use Rattle.wire_write.specs.declared.Row.{Row}
use Rattle.wire_write.specs.declared.Piece.{Piece}
use Rattle.wire_write.specs.declared.Source.TheVariants.{Spelled, First}

-- how long a field is
abbrev pub len_of : Part → ℕ
len_of (Some p) = p.len
len_of None = 0

-- a place as a piece of the datagram; a piece of the bytes that the writer spells out that may be absent
abbrev pub piece_of : Part → Piece
piece_of p = record { there = is_here p; source = First; start = start_of p; len = len_of p }

abbrev pub spelled_if : Bool → ℕ → ℕ → Piece
spelled_if there start len = record { there = there; source = Spelled; start = start; len = len }

-- no message
abbrev pub no_message : Made
no_message = record { ok = false; bytes = [] }

-- the pieces of each message, by the rows of its type
abbrev pub solicit_pieces : Solicit → List Piece
solicit_pieces m = piece_of m.entry ∷ first_piece m.nonce 20 ∷ no_piece ∷ no_piece ∷ no_piece ∷ no_piece ∷ no_piece ∷ no_piece ∷ no_piece ∷ []

abbrev pub advertise_pieces : Advertise → List Piece
advertise_pieces m =
    spelled_piece 0 4 ∷ piece_of m.keys ∷ first_piece m.nonce 20 ∷ no_piece ∷ no_piece ∷ no_piece ∷ no_piece ∷ no_piece ∷ no_piece ∷ []

abbrev pub request_pieces : Request → List Piece
request_pieces m =
    spelled_if m.flags 8 2 ∷ spelled_if m.split 4 4 ∷ first_piece m.nonce 16 ∷ piece_of m.keys ∷ piece_of m.credential
    ∷ piece_of m.signature ∷ piece_of m.key ∷ no_piece ∷ no_piece ∷ []

abbrev pub flood_pieces : Flood → List Piece
flood_pieces m =
    spelled_piece 8 3 ∷ first_piece m.validate 32 ∷ piece_of m.token ∷ piece_of m.revoke ∷ piece_of m.entry ∷ piece_of m.reached
    ∷ no_piece ∷ no_piece ∷ no_piece ∷ []

abbrev pub inquire_pieces : Inquire → List Piece
inquire_pieces m =
    spelled_piece 8 2 ∷ first_piece m.validate 32 ∷ piece_of m.nonce ∷ piece_of m.credential ∷ piece_of m.signature ∷ piece_of m.key
    ∷ no_piece ∷ no_piece ∷ no_piece ∷ []

abbrev pub authority_pieces : Inside → List Piece
authority_pieces f =
    spelled_piece 0 4 ∷ spelled_piece 4 4 ∷ spelled_piece 8 2 ∷ piece_of f.chain ∷ piece_of f.token ∷ piece_of f.classifier ∷ piece_of f.payload
    ∷ piece_of f.entry ∷ piece_of f.cpa ∷ []

abbrev pub lookup_pieces : Lookup → List Piece
lookup_pieces m =
    spelled_piece 0 8 ∷ first_piece m.target 32 ∷ first_piece m.validate 32 ∷ piece_of m.entry ∷ piece_of m.path ∷ piece_of m.credential
    ∷ piece_of m.signature ∷ piece_of m.key ∷ no_piece ∷ []

-- the bytes that the writer spells out for each
abbrev pub inquire_bits : Inquire → ℕ
inquire_bits m = 16 * bit m.a + (8 * bit m.x + 4 * bit m.c)

abbrev pub authority_bytes : ℕ → ℕ → Inside → List ℕ
authority_bytes acked size f = spelled_bytes acked size (2 * bit f.l) (8 * bit f.b + bit f.n)

abbrev pub controls_bytes : Lookup → List ℕ
controls_bytes m = lookup_bytes (2 * bit m.a) (cond (eqb m.criteria 8) m.precision 0) m.criteria m.reason

-- a message of rows and pieces, of bytes spelled out and of the datagram
abbrev pub copied : ℕ → ℕ → Head → List ℕ → List ℕ → List Row → List Piece → Made
copied major type h spelled d rows ps = made_by major h.minor type h.id (lent_of spelled d d) rows ps

unfoldable pub resent : ℕ → List ℕ → Incoming → Made
resent major d (M.Refused n) = no_message
resent major d (M.Solicit m) = copied major 1 m.head d d solicit_rows (solicit_pieces m)
resent major d (M.Advertise m) = copied major 2 m.head (spelled_bytes m.acked 0 0 0) d advertise_rows (advertise_pieces m)
resent major d (M.Request m) =
    copied major 3 m.head (spelled_bytes 0 (length d - cond m.flags 28 20) 0 0) d request_rows (request_pieces m)
resent major d (M.Flood m) =
    cond (one_of (is_here m.revoke) (is_here m.entry))
    (copied major 4 m.head (spelled_bytes 0 0 0 (bit m.d)) d flood_rows (flood_pieces m)) no_message
resent major d (M.Inquire m) = copied major 7 m.head (spelled_bytes 0 0 0 (inquire_bits m)) d inquire_rows (inquire_pieces m)
resent major d (M.Authority m) =
    copied major 8 m.head (authority_bytes m.acked (length d - 28) m.fields) d authority_rows (authority_pieces m.fields)
resent major d (M.Ack m) = copied major 9 m.head (spelled_bytes m.acked 0 0 (bit m.n)) d ack_rows (ack_pieces m.flags)
resent major d (M.Lookup m) = copied major 11 m.head (controls_bytes m) d lookup_rows (lookup_pieces m)
