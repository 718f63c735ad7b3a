-- Helps the code. One count among the 256, read and written. Tied to the counts of keys by `count-there` and `count_set` (proofs/FirstsLaws). Assumes nothing.
use Rattle.std.specs.Prelude.{ℕ, ◌*◌, List}
use Rattle.octet.specs.Number.{value_le, digits_le}
use Rattle.octet.specs.Part.{part, splice}

-- the count of the byte b
abbrev pub count_at : ℕ → List ℕ → ℕ
count_at b firsts = value_le 256 (part (2 * b) 2 firsts)

-- the counts with another for the byte b
abbrev pub with_count : ℕ → ℕ → List ℕ → List ℕ
with_count b n firsts = splice (2 * b) (digits_le 256 2 n) firsts
