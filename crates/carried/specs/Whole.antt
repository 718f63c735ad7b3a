-- To believe. Who wants an AUTHORITY and is lent a datagram: the numbers of reading, and "5" also for a message of another type. Assumes nothing.
use Rattle.std.specs.Prelude.{ℕ, List, Option, Some, None, Result, Ok, Err, cond, ◌&&◌, eqb, get_or}
use Rattle.wire_read.specs.Answers.{head_number, read_in}
use Rattle.wire_read.specs.declared.Incoming.{Incoming}
use Rattle.wire_read.specs.declared.Incoming.TheVariants as M
use Rattle.wire_read.specs.declared.messages.Authority.{Authority}

abbrev pub whole_of : Incoming → Result Authority ℕ
whole_of (M.Refused n) = Err n
whole_of (M.Authority m) = Ok m
whole_of (M.Solicit m) = Err 5
whole_of (M.Advertise m) = Err 5
whole_of (M.Request m) = Err 5
whole_of (M.Flood m) = Err 5
whole_of (M.Inquire m) = Err 5
whole_of (M.Ack m) = Err 5
whole_of (M.Lookup m) = Err 5

-- the number of a refusal; none where an AUTHORITY was read
abbrev pub number_in : Result Authority ℕ → Option ℕ
number_in (Err n) = Some n
number_in (Ok m) = None

-- the number that stands against a datagram before it is read as an AUTHORITY: none where its header is right and its type is an AUTHORITY's
unfoldable pub other_in : ℕ → List ℕ → Option ℕ
other_in major d = cond (eqb (head_number d major) 0 && eqb (get_or d 7 0) 8) None (number_in (whole_of (read_in d major)))
