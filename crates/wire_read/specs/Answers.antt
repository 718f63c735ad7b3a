-- Helps the code. What the code answers, from what a datagram holds (Refusals): the message as numbers and as places in the datagram. That it is the
-- message that the datagram reads as is a theorem of `wire`. Assumes nothing.
use Rattle.std.specs.Prelude.{ℕ, ◌+◌, ◌*◌, List, ◌∷◌, Bool, false, cond, ◌&&◌, length, get_or, drop, leb, eqb, is_some, Some, None}
use Rattle.std.proofs.Math.Option.{Option, some, none}
use Rattle.octet.specs.Part.{part, same}
use Rattle.wire_fields.specs.Message.{opening}
use Rattle.wire_shapes.specs.Field.{number_at}
use Rattle.wire_fields.specs.Refusals.{Found, refused, found, found_in}
use Rattle.wire_fields.specs.Places.{Part, here}
use Rattle.wire_buffer.specs.Buffer.{start_of, flag_at, inside_shown}
use Rattle.wire_read.specs.declared.Head.{Head}
use Rattle.wire_read.specs.declared.Incoming.{Incoming}
use Rattle.wire_read.specs.declared.Incoming.TheVariants.{Refused, Solicit, Advertise, Request, Flood, Inquire, Authority, Ack, Lookup}

-- whether a field is there
abbrev pub is_here : Part → Bool
is_here p = is_some p

-- the bit of a weight in a field, clear where it is absent
unfoldable pub part_flag : List ℕ → Part → ℕ → ℕ → Bool
part_flag d (Some p) offset weight = flag_at d p.start offset weight
part_flag d None offset weight = false

unfoldable pub head_of : List ℕ → Head
head_of d = record { minor = get_or d 6 0; id = number_at 8 4 d }

abbrev pub solicit_shown : List ℕ → List Part → Incoming
solicit_shown d ps = Solicit (record { head = head_of d; entry = get_or ps 0 None; nonce = start_of (get_or ps 1 None) })

abbrev pub advertise_shown : List ℕ → List Part → Incoming
advertise_shown d ps =
    Advertise (record {
      head = head_of d;
      acked = number_at (start_of (get_or ps 0 None)) 4 d;
      keys = get_or ps 1 None;
      nonce = start_of (get_or ps 2 None);
    })

abbrev pub request_shown : List ℕ → List Part → Incoming
request_shown d ps =
    Request (record {
      head = head_of d;
      flags = is_here (get_or ps 0 None);
      split = is_here (get_or ps 1 None);
      nonce = start_of (get_or ps 2 None);
      keys = get_or ps 3 None;
      credential = get_or ps 4 None;
      signature = get_or ps 5 None;
      key = get_or ps 6 None;
    })

abbrev pub flood_shown : List ℕ → List Part → Incoming
flood_shown d ps =
    Flood (record {
      head = head_of d;
      d = flag_at d (start_of (get_or ps 0 None)) 1 1;
      validate = start_of (get_or ps 1 None);
      token = get_or ps 2 None;
      revoke = get_or ps 3 None;
      entry = get_or ps 4 None;
      reached = get_or ps 5 None;
    })

abbrev pub inquire_shown : List ℕ → List Part → Incoming
inquire_shown d ps =
    Inquire (record {
      head = head_of d;
      a = flag_at d (start_of (get_or ps 0 None)) 1 16;
      x = flag_at d (start_of (get_or ps 0 None)) 1 8;
      c = flag_at d (start_of (get_or ps 0 None)) 1 4;
      validate = start_of (get_or ps 1 None);
      nonce = get_or ps 2 None;
      credential = get_or ps 3 None;
      signature = get_or ps 4 None;
      key = get_or ps 5 None;
    })

abbrev pub authority_shown : List ℕ → List Part → Incoming
authority_shown d ps =
    Authority (record { head = head_of d; acked = number_at (start_of (get_or ps 0 None)) 4 d; fields = inside_shown d (drop 2 ps) })

abbrev pub ack_shown : List ℕ → List Part → Incoming
ack_shown d ps =
    Ack (record {
      head = head_of d;
      acked = number_at (start_of (get_or ps 0 None)) 4 d;
      flags = is_here (get_or ps 1 None);
      n = part_flag d (get_or ps 1 None) 1 1;
    })

-- the precision counts only where the criteria are 8
unfoldable pub precision_at : List ℕ → ℕ → ℕ
precision_at d start = cond (eqb (get_or d (start + 4) 0) 8) (get_or d (start + 2) 0 * 256 + get_or d (start + 3) 0) 0

abbrev pub lookup_shown : List ℕ → List Part → Incoming
lookup_shown d ps =
    Lookup (record {
      head = head_of d;
      a = flag_at d (start_of (get_or ps 0 None)) 1 2;
      precision = precision_at d (start_of (get_or ps 0 None));
      criteria = get_or d (start_of (get_or ps 0 None) + 4) 0;
      reason = get_or d (start_of (get_or ps 0 None) + 5) 0;
      target = start_of (get_or ps 1 None);
      validate = start_of (get_or ps 2 None);
      entry = get_or ps 3 None;
      path = get_or ps 4 None;
      credential = get_or ps 5 None;
      signature = get_or ps 6 None;
      key = get_or ps 7 None;
    })

-- the same by the places of the first three fields and of those behind them
abbrev pub lookup_behind : List ℕ → ℕ → ℕ → ℕ → Option (List Part) → Incoming
lookup_behind d controls target validate none = Refused 6
lookup_behind d controls target validate (some ps) = lookup_shown d (here controls 8 ∷ here target 32 ∷ here validate 32 ∷ ps)

-- the number of the refusal by length and header, 0 for none
unfoldable pub head_number : List ℕ → ℕ → ℕ
head_number d major =
    cond (leb 12 (length d) && leb (length d) 1232) (cond (same (part 0 5 d) opening) (cond (eqb (get_or d 5 0) major) 0 4) 3) 2

-- what is read of what was found
unfoldable pub incoming_of : List ℕ → Found → Incoming
incoming_of d (refused n) = Refused n
incoming_of d (found t ps) = cond (eqb t 1) (solicit_shown d ps) (cond (eqb t 2) (advertise_shown d ps) (cond (eqb t 3) (request_shown d ps)
    (cond (eqb t 4) (flood_shown d ps) (cond (eqb t 7) (inquire_shown d ps) (cond (eqb t 8) (authority_shown d ps)
    (cond (eqb t 9) (ack_shown d ps) (lookup_shown d ps)))))))

-- what is read of a datagram
abbrev pub read_in : List ℕ → ℕ → Incoming
read_in d major = incoming_of d (found_in d major)
