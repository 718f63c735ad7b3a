-- To believe. What the program writes: "the program prints the record chosen and one reason" (02, Wish 5), a line each; a refusal is its number
-- alone, on a line. Text is ASCII: a space is 32, a line's end 10. Assumes nothing.
use Rattle.std.specs.Prelude.{ℕ, List, [], ◌∷◌, ◌++◌}
use Rattle.octet.specs.Number.{digits_be}
use Rattle.octet.specs.Part.{part}
use Rattle.record.specs.Record.{port_of}
use Rattle.digits.specs.Digits.{decimal, hex_of}
use Rattle.reason.specs.Because.{Because, only, target, tied, nearest}
use Rattle.named.specs.Call.{Told, refused, named}

-- `record `, the key of 64 digits, the port and the address of 32
abbrev pub record_text : List ℕ → List ℕ
record_text r =
    (114 ∷ 101 ∷ 99 ∷ 111 ∷ 114 ∷ 100 ∷ 32 ∷ []) ++ hex_of (part 0 32 r) ++ (32 ∷ []) ++ decimal (port_of r) ++ (32 ∷ []) ++ hex_of (part 36 16 r)
    ++ (10 ∷ [])

-- a word, a key of 64 digits and the line's end
abbrev pub key_text : List ℕ → ℕ → List ℕ
key_text word k = word ++ hex_of (digits_be 256 32 k) ++ (10 ∷ [])

-- `only`, `target`, `tied ` with a key or `nearest ` with a key
abbrev pub reason_text : Because → List ℕ
reason_text only = 111 ∷ 110 ∷ 108 ∷ 121 ∷ 10 ∷ []
reason_text target = 116 ∷ 97 ∷ 114 ∷ 103 ∷ 101 ∷ 116 ∷ 10 ∷ []
reason_text (tied k) = key_text (116 ∷ 105 ∷ 101 ∷ 100 ∷ 32 ∷ []) k
reason_text (nearest k) = key_text (110 ∷ 101 ∷ 97 ∷ 114 ∷ 101 ∷ 115 ∷ 116 ∷ 32 ∷ []) k

abbrev pub number_text : ℕ → List ℕ
number_text n = decimal n ++ (10 ∷ [])

abbrev pub text_of : Told → List ℕ
text_of (refused n) = number_text n
text_of (named r b) = record_text r ++ reason_text b
