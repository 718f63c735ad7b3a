-- To believe. The call that names a record for a LOOKUP and says why: the candidates are "the own record included" and the records held that are
-- not on the LOOKUP's path (02, Wishes 2 and 5). Refused with 1 where "lent memory is not as above", with 2 to 6 as any datagram, with 7 where it
-- is a good message of another type (W5.3). The message is looked at, and nothing is done. Assumes nothing.
use Rattle.std.specs.Prelude.{ℕ, ◌+◌, ◌-◌, List, []}
use Rattle.octet.specs.Part.{part}
use Rattle.refusal.specs.Table.{or_refuse}
use Rattle.key.specs.Number.{key_at}
use Rattle.own.specs.Own.{own_records}
use Rattle.wire_buffer.specs.Buffer.{start_of}
use Rattle.wire_read.specs.Answers.{read_in}
use Rattle.wire_read.specs.declared.Incoming.{Incoming}
use Rattle.wire_read.specs.declared.Incoming.TheVariants as M
use Rattle.look.specs.Seen.{size_of}
use Rattle.cache.specs.Calls.{memory_wrong, held_by}
use Rattle.neighbours.specs.Closest.{candidates, off_path, closest_of}
use Rattle.reason.specs.Because.{Because}
use Rattle.reason.specs.Reason.{reason_of}

-- a number of refusal, or the record with the reason
pub data Told : Type 0 where
  refused : ℕ → Told
  named : List ℕ → Because → Told

-- of some candidates
abbrev pub named_of : ℕ → List (List ℕ) → Told
named_of t cands = named (closest_of t cands) (reason_of t cands)

-- of our own records and those held, without those on a path
abbrev pub named_past : (ours held : List (List ℕ)) (path : List ℕ) (t : ℕ) → Told
named_past ours held path t = named_of t (candidates ours (off_path path held))

-- of a message: refused as reading refuses it, with 7 where it is another one, and by path and target where it is a LOOKUP, whose endpoints stand
-- behind the 8 bytes of the array's header
unfoldable pub answer_to : {A : Type 0} → (refuse : ℕ → A) → (lookup : List ℕ → ℕ → A) → (d : List ℕ) → Incoming → A
answer_to refuse lookup d (M.Refused n) = refuse n
answer_to refuse lookup d (M.Solicit x) = refuse 7
answer_to refuse lookup d (M.Advertise x) = refuse 7
answer_to refuse lookup d (M.Request x) = refuse 7
answer_to refuse lookup d (M.Flood x) = refuse 7
answer_to refuse lookup d (M.Inquire x) = refuse 7
answer_to refuse lookup d (M.Authority x) = refuse 7
answer_to refuse lookup d (M.Ack x) = refuse 7
answer_to refuse lookup d (M.Lookup x) = lookup (part (start_of x.path + 8) (size_of x.path - 8) d) (key_at x.target d)

unfoldable pub name_call : (own cache : List ℕ) (major : ℕ) (d : List ℕ) → Told
name_call own cache major d =
    or_refuse refused (memory_wrong own cache []) (answer_to refused (named_past (own_records own) (held_by own cache)) d (read_in d major))
