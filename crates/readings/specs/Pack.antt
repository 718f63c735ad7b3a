-- To believe. A reading written to the start of what is lent: "Refusals of this layer: 1 wrong length or no room to write .. 3 depth outside; nothing is
-- written", the lowest that applies. Assumes nothing.
use Rattle.std.specs.Prelude.{ℕ, not, List, [], ◌∷◌, ltb, length, Result, Ok, Err}
use Rattle.octet.specs.Part.{splice}
use Rattle.refusal.specs.Table.{Refusal, when, or_refuse}
use Rattle.readings.specs.Reading.{image, fine}
use Rattle.readings.specs.declared.Reading.{Reading}

-- what is handed back: the answer, and what was lent for writing
pub record PackHanded : Type 0 where
  pub answer : Result ℕ ℕ
  pub out : List ℕ

abbrev pub pack_handed : Result ℕ ℕ → List ℕ → PackHanded
pack_handed answer out = record { answer = answer; out = out }

unfoldable pub pack_refusals : Reading → List ℕ → List Refusal
pack_refusals r out = when 1 (ltb (length out) (length (image r))) ∷ when 3 (not (fine r.measured)) ∷ []

unfoldable pub pack_of : Reading → List ℕ → PackHanded
pack_of r out =
    or_refuse (λ (n : ℕ). pack_handed (Err n) out) (pack_refusals r out) (pack_handed (Ok (length (image r))) (splice 0 (image r) out))

-- the paper's number of an answer
abbrev pub pack_number : Result ℕ ℕ → ℕ
pack_number (Ok n) = 0
pack_number (Err n) = n
