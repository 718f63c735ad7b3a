-- To believe. What changed, listed for whoever asks: "Compare two saved caches of the same own key and C"; "Refusals: 1 for either cache malformed or unequal C,
-- 15 if the list doesn't fit" (02, Wish 10). Assumes nothing.
use Rattle.std.specs.Prelude.{ℕ, ◌*◌, not, List, [], ◌∷◌, eqb, ltb, length}
use Rattle.octet.specs.Part.{splice}
use Rattle.own.specs.Own.{own_keys}
use Rattle.refusal.specs.Table.{Refusal, when, or_refuse}
use Rattle.cache.specs.Form.{cache_form}
use Rattle.cache.specs.Calls.{memory_wrong, held_by}
use Rattle.changed.specs.Changes.{Change, changes}
use Rattle.changed.specs.Entries.{list_bytes}
use Rattle.gauge_commit.specs.Sending.{answer}
use Rattle.gauge_commit.specs.declared.Answer.{Answer}

-- what changed between two caches as lent
abbrev pub changes_of : (own first second : List ℕ) → List Change
changes_of own first second = changes (held_by own first) (held_by own second)

-- what is handed back: the answer, and the output
pub record Listed : Type 0 where
  pub given : Answer
  pub output : List ℕ

abbrev pub listed : Answer → List ℕ → Listed
listed a output = record { given = a; output = output }

-- nothing is written, and no counts are given
abbrev pub refused_with : List ℕ → ℕ → Listed
refused_with output n = listed (answer n 0 0) output

-- how many entries, and how many bytes they take at the output's start; the rest of it is as lent
abbrev pub list_done : List Change → List ℕ → Listed
list_done l output = listed (answer 0 (length l) (101 * length l)) (splice 0 (list_bytes l) output)

-- "15 if the list doesn't fit"
abbrev pub room_wrong : List Change → List ℕ → List Refusal
room_wrong l output = when 15 (ltb (length output) (101 * length l)) ∷ []

unfoldable pub list_or_room : List Change → List ℕ → Listed
list_or_room l output = or_refuse (refused_with output) (room_wrong l output) (list_done l output)

-- "1 for either cache malformed or unequal C"
abbrev pub list_wrong : (own first second output : List ℕ) → List Refusal
list_wrong own first second output =
    memory_wrong own first
    (when 1 (not (cache_form (own_keys own) second))
    ∷ when 1 (not (eqb (length first) (length second)))
    ∷ room_wrong (changes_of own first second) output)

unfoldable pub list_call : (own first second output : List ℕ) → Listed
list_call own first second output =
    or_refuse (refused_with output) (list_wrong own first second output) (list_done (changes_of own first second) output)
