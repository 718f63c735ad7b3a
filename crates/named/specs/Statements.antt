-- To believe. "The reason printed must be true of the definition, and exactly one is given" (02, Wish 5), of the call. Assumes nothing.
use Rattle.std.specs.Prelude.{ℕ, ◌+◌, ◌-◌, ◌≡◌, false, List}
use Rattle.octet.specs.Part.{part}
use Rattle.key.specs.Number.{key_at}
use Rattle.key.specs.Around.{closer}
use Rattle.record.specs.Record.{key_of}
use Rattle.own.specs.Own.{own_records}
use Rattle.kept.specs.Keys.{◌∈◌}
use Rattle.wire_buffer.specs.Buffer.{start_of}
use Rattle.wire_read.specs.Answers.{read_in}
use Rattle.wire_read.specs.declared.Incoming.TheVariants as M
use Rattle.wire_read.specs.declared.messages.Lookup as L
use Rattle.look.specs.Seen.{size_of}
use Rattle.cache.specs.Calls.{held_by}
use Rattle.neighbours.specs.Closest.{candidates, off_path, closest_of}
use Rattle.reason.specs.Because.{Because, First}
use Rattle.named.specs.Call.{named, name_call}

-- the target of a LOOKUP, and its candidates: our own records, and those held that are not on its path
abbrev pub target_of : List ℕ → L.Lookup → ℕ
target_of d x = key_at x.target d

abbrev pub candidates_of : (own cache d : List ℕ) → L.Lookup → List (List ℕ)
candidates_of own cache d x = candidates (own_records own) (off_path (part (start_of x.path + 8) (size_of x.path - 8) d) (held_by own cache))

-- the record is the closest of the candidates, as wherever the closest is asked for: one of them, and none is closer; and the reason is the first that
-- holds, and no other is
pub record NamedFor (t : ℕ) (cands : List (List ℕ)) (r : List ℕ) (b : Because) : Type 0 where
  pub closest : r ≡ closest_of t cands
  pub candidate : r ∈ cands
  pub none-closer : (q : List ℕ) → q ∈ cands → closer t (key_of q) (key_of r) ≡ false
  pub first : First t cands b
  pub one : (c : Because) → First t cands c → c ≡ b

-- a call that names a record was handed a LOOKUP, and what it tells is so
abbrev pub NamesTruly : Type 0
NamesTruly =
    (own cache : List ℕ) (major : ℕ) (d r : List ℕ) (b : Because) → name_call own cache major d ≡ named r b
    → (x : L.Lookup) × (read_in d major ≡ M.Lookup x) × NamedFor (target_of d x) (candidates_of own cache d x) r b
