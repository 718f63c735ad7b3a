-- To believe. A line as text: "its number from 1, a space and the answer". Assumes nothing.
use Rattle.std.specs.Prelude.{ℕ, List, [], ◌∷◌, ◌++◌}
use Rattle.digits.specs.Digits.{decimal}
use Rattle.night.specs.Replay.{Line}

-- a space is 32, a line's end 10
unfoldable pub text_of : Line → List ℕ
text_of l = decimal l.place ++ (32 ∷ []) ++ decimal l.answer ++ (10 ∷ [])

unfoldable pub texts_of : List Line → List ℕ
texts_of [] = []
texts_of (l ∷ ls) = text_of l ++ texts_of ls
