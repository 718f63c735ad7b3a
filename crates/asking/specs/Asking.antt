-- Helps the code. A route entry's record that must be inquired about, whatever message it stands in: "If the very same record is held, or an inquiry for its key
-- is waiting, no more. Otherwise an INQUIRE for its key follows". Tied to document 01 by `ours-meets` (sentences/Theorems). Assumes nothing.
use Rattle.std.specs.Prelude.{ℕ, Bool, cond, not, ◌&&◌, List, length, ◌==◌}
use Rattle.octet.specs.Part.{same}
use Rattle.record.specs.Record.{key_of}
use Rattle.record.specs.Entry.{record_of}
use Rattle.own.specs.Own.{Own, is_own}
use Rattle.table.specs.Rows.{any_of}
use Rattle.waiting.specs.Form.{is_inquiry}

-- must the record be inquired about? Not if the very same one is held, or an inquiry for its key is waiting
unfoldable pub must_ask : List (List ℕ) → List (List ℕ) → List ℕ → Bool
must_ask recs ps r = not (any_of (λ (q : List ℕ). same q r) recs) && not (any_of (is_inquiry (key_of r)) ps)

-- must the record be inquired about that the entry names, of a message that may have none? "our own key there is passed over" (02, Wish 2). No entry has no bytes
unfoldable pub asks_for : Own → List (List ℕ) → List (List ℕ) → List ℕ → Bool
asks_for own recs ps v = not (length v == 0) && not (is_own own (key_of (record_of v))) && must_ask recs ps (record_of v)

-- how many bytes the INQUIRE has, where one is sent
abbrev pub inquire_room : Bool → ℕ
inquire_room opens = cond opens 76 0
