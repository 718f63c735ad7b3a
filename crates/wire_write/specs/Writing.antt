-- Helps the code. What writing a message gives and leaves: "writing one gives 0, 6 or 15"; "With any refusal the counts returned are 0 .. and every writable
-- byte stays as lent. On acceptance the output changes only in its first bytes, as many as returned." Tied to the layout by `output-reads` (wire/Theorems).
-- Assumes nothing.
use Rattle.std.specs.Prelude.{ℕ, List, ◌++◌, Bool, cond, ◌&&◌, ◌≡◌, length, drop, leb}
use Rattle.wire_write.specs.declared.Written.{Written}

-- what is to be written: whether its fields are right, and its bytes
pub record Made : Type 0 where
  pub ok : Bool
  pub bytes : List ℕ

-- the bytes fit the output and a datagram
unfoldable pub fit : List ℕ → List ℕ → Bool
fit b old = leb (length b) (length old) && leb (length b) 1232

-- 6 where a field is not right, 15 where there is no room, else 0 and the length
unfoldable pub write_as : Made → List ℕ → Written
write_as m old =
    cond m.ok
    (cond (fit m.bytes old) (record { number = 0; length = length m.bytes }) (record { number = 15; length = 0 }))
    (record { number = 6; length = 0 })

-- the output after it
unfoldable pub write_in : Made → List ℕ → List ℕ
write_in m old = cond (m.ok && fit m.bytes old) (m.bytes ++ drop (length m.bytes) old) old

-- what a call of a writer gives back and leaves
pub record Wrote (m : Made) (old : List ℕ) (r : Written) (out : List ℕ) : Type 0 where
  pub answer : r ≡ write_as m old
  pub output : out ≡ write_in m old
