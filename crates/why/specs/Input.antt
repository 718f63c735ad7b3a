-- To believe. What the program reads: a first record of kind 4 as a trace has it (02, Wish 1), the cache's length in 2 bytes, little-endian, the
-- cache, and a datagram up to the end. 16 and 17 of the first record come before all else, 16 also for a cache cut short; 17 where nothing is read,
-- as of an empty trace. Assumes nothing.
use Rattle.std.specs.Prelude.{ℕ, ◌+◌, List, [], ◌∷◌, ◌++◌, eqb, ltb, length, get_or, take, drop}
use Rattle.octet.specs.Part.{part}
use Rattle.refusal.specs.Table.{Refusal, when, or_refuse}
use Rattle.trace.specs.Trace.{length_of}
use Rattle.trace.specs.Fault.{faults}
use Rattle.named.specs.Call.{Told, refused, name_call}
use Rattle.why.specs.Text.{text_of}

-- the first record, and what stands behind it
abbrev pub first_of : List ℕ → List ℕ
first_of input = take (2 + length_of input) input

abbrev pub behind_of : List ℕ → List ℕ
behind_of input = drop (2 + length_of input) input

-- behind a good first record: length, kind, major, minor and the own record
abbrev pub rest_wrong : List ℕ → List Refusal
rest_wrong rest = when 16 (ltb (length rest) (2 + length_of rest)) ∷ []

unfoldable pub told_behind : List ℕ → List ℕ → Told
told_behind first rest =
    or_refuse refused (rest_wrong rest) (name_call (part 6 100 first) (part 2 (length_of rest) rest) (get_or first 4 0) (drop (2 + length_of rest) rest))

unfoldable pub told_of : List ℕ → Told
told_of input =
    or_refuse refused (when 17 (eqb (length input) 0) ∷ faults 0 (first_of input)) (told_behind (first_of input) (behind_of input))

abbrev pub why_text : List ℕ → List ℕ
why_text input = text_of (told_of input)
