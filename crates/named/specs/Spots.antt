-- Helps the code. What the code answers with, places among our own records and those of the cache, and what is told by it. Assumes nothing.
use Rattle.std.specs.Prelude.{ℕ, ◌≡◌, Bool, false, List, [], is_none, Option, Some, None, Result, Ok, Err}
use Rattle.std.proofs.Math.Option.{some, none}
use Rattle.std.proofs.Math.Option as O
use Rattle.record.specs.Record.{key_of}
use Rattle.reason.specs.Reason.{because_of}
use Rattle.reason.specs.declared.Reason.{Reason}
use Rattle.reason.specs.declared.Reason.TheVariants.{Only, Target, Tied, Nearest}
use Rattle.named.specs.Call.{Told, refused, named}
use Rattle.neighbours.specs.Where.{Lies}
use Rattle.neighbours.specs.Where as W
use Rattle.neighbours.specs.declared.nearest.Spot.{Spot}
use Rattle.named.specs.declared.Choice.{Choice}

-- the record that stands there, and whether one does
abbrev pub record_at : List ℕ → List ℕ → Option Spot → List ℕ
record_at own cache None = []
record_at own cache (Some x) = W.record_at own cache x

abbrev pub spotted : List ℕ → List ℕ → Option Spot → O.Option (List ℕ)
spotted own cache None = none
spotted own cache (Some x) = some (W.record_at own cache x)

abbrev pub is_nowhere : Option Spot → Bool
is_nowhere x = is_none x

-- it lies within what is lent
abbrev pub Inside : List ℕ → List ℕ → Option Spot → Type 0
Inside own cache None = Unit {0}
Inside own cache (Some x) = Lies own cache x

-- what is told by it
abbrev pub choice_told : List ℕ → List ℕ → Choice → Told
choice_told own cache c = named (record_at own cache c.chosen) (because_of c.reason (key_of (record_at own cache c.other)))

abbrev pub told_by : List ℕ → List ℕ → Result Choice ℕ → Told
told_by own cache (Err n) = refused n
told_by own cache (Ok c) = choice_told own cache c

-- a record is named, and where a key goes with the reason there is another candidate; each lies within what is lent
abbrev pub Shows : Reason → Option Spot → Type 0
Shows Only o = Unit {0}
Shows Target o = Unit {0}
Shows Tied o = is_nowhere o ≡ false
Shows Nearest o = is_nowhere o ≡ false

pub record Placed (own cache : List ℕ) (c : Choice) : Type 0 where
  pub chosen : Inside own cache c.chosen
  pub somewhere : is_nowhere c.chosen ≡ false
  pub other : Inside own cache c.other
  pub shows : Shows c.reason c.other

abbrev pub Within : List ℕ → List ℕ → Result Choice ℕ → Type 0
Within own cache (Err n) = Unit {0}
Within own cache (Ok c) = Placed own cache c
