-- To believe. Keys as numbers: their order and their difference. Assumes nothing.
use Rattle.std.specs.Prelude.{ℕ, ◌-◌, ◌^◌, min, max, cond, List, [], ◌∷◌, nat_lt}
use Rattle.octet.specs.Number.{value_be}
use Rattle.octet.specs.Part.{part}
use Rattle.key.specs.declared.Key.{Key}
use Rattle.std.specs.declared.cmp.Ordering.{Ordering}
use Rattle.std.specs.declared.cmp.Ordering.TheVariants.{Less, Equal, Greater}

-- the key whose 32 bytes stand at a place, most significant first
abbrev pub key_at : ℕ → List ℕ → ℕ
key_at at s = value_be 256 (part at 32 s)

-- the key's four words, most significant first
abbrev pub words : Key → List ℕ
words k = k.a ∷ k.b ∷ k.c ∷ k.d ∷ []

-- the number that a key in hand is
unfoldable pub number : Key → ℕ
number k = value_be (2 ^ 64) (words k)

-- how the number m stands to the number n
unfoldable pub order_of : ℕ → ℕ → Ordering
order_of m n = cond (nat_lt m n) Less (cond (nat_lt n m) Greater Equal)

-- the larger of two numbers less the smaller
unfoldable pub distance : ℕ → ℕ → ℕ
distance m n = max m n - min m n
