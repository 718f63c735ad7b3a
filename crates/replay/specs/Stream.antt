-- To believe. A trace that arrives in pieces, cut anywhere: what is kept from one piece to the next, what a piece gives, and what the end of the input gives.
-- `Streams` (Statements) says that the pieces make no difference. Assumes nothing.
use Rattle.std.specs.Prelude.{ℕ, ◌+◌, Bool, false, cond, List, [], ◌∷◌, ◌++◌, eqb, ltb, length}
use Rattle.trace.specs.Trace.{length_of}
use Rattle.trace.specs.Fault.{ends}
use Rattle.night.specs.Step.{Night, start, step_of}
use Rattle.night.specs.Replay.{line_of, at_end}
use Rattle.replay.specs.Text.{texts_of}

-- ---- the stream so far

-- the number of the record that comes next, counted from 0; the night; the bytes of that record that are there; has a bad record ended the replay?
pub record Stream : Type 0 where
  pub at : ℕ
  pub night : Night
  pub begun : List ℕ
  pub over : Bool

abbrev pub stream : ℕ → Night → List ℕ → Bool → Stream
stream at n begun over = record { at = at; night = n; begun = begun; over = over }

-- before the first byte
abbrev pub opened : Stream
opened = stream 0 start [] false

-- the text that is written, and the stream behind it
pub record Fed : Type 0 where
  pub text : List ℕ
  pub left : Stream

abbrev pub gives : List ℕ → Stream → Fed
gives text left = record { text = text; left = left }

abbrev pub after : List ℕ → Fed → Fed
after text f = gives (text ++ f.text) f.left

-- ---- a piece of the trace

-- "length (2 bytes, counting what follows)": two bytes, and then as many more as they say
abbrev pub wanted : List ℕ → ℕ
wanted r = cond (ltb (length r) 2) 2 (2 + length_of r)

abbrev pub is_whole : List ℕ → Bool
is_whole r = eqb (length r) (wanted r)

-- a record that is whole is one step, and its line is written; "the replay stops there" where it is bad
unfoldable pub took : Stream → List ℕ → Fed
took s r =
    let t = step_of s.at s.night r in
    gives (texts_of (line_of s.at t.answer)) (stream (s.at + 1) t.night [] (ends t.answer))

-- one byte more of the record
abbrev pub grown : Stream → List ℕ → Fed
grown s r = cond (is_whole r) (took s r) (gives [] (stream s.at s.night r false))

-- the bytes one by one; none is looked at behind a bad record
unfoldable pub fed : Stream → List ℕ → Fed
fed s [] = gives [] s
fed s (b ∷ bs) =
    let f = grown s (s.begun ++ (b ∷ [])) in
    cond s.over (gives [] s) (after f.text (fed f.left bs))

-- pieces, one after the other
unfoldable pub fed_all : Stream → List (List ℕ) → Fed
fed_all s [] = gives [] s
fed_all s (c ∷ cs) = after (fed s c).text (fed_all (fed s c).left cs)

-- ---- the end of the input

pub record Closed : Type 0 where
  pub text : List ℕ
  pub night : Night

abbrev pub closing : List ℕ → Night → Closed
closing text n = record { text = text; night = n }

-- a record that is begun is cut short, and has its line; "an empty trace gives "0 17""
unfoldable pub closed : Stream → Closed
closed s =
    let t = took s s.begun in
    cond s.over (closing [] s.night)
    (cond (eqb (length s.begun) 0) (closing (texts_of (at_end s.at)) s.night) (closing t.text t.left.night))
