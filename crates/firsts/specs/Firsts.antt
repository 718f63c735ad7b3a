-- To believe. "keep beside the cache 256 counts: how many held keys begin with each byte" (02, Wish 12): numbers of 16 bits, least significant byte first, that of
-- the byte b at 2 b. No count is over 256, so 16 bits hold it. Assumes nothing.
use Rattle.std.specs.Prelude.{ℕ, zero, suc, ◌/◌, ◌^◌, List, [], ◌++◌, eqb, length}
use Rattle.octet.specs.Number.{digits_le}
use Rattle.kept.specs.Keys.{among}

-- the byte that a key begins with: the most significant of its 32
unfoldable pub first_byte : ℕ → ℕ
first_byte k = k / 256 ^ 31

-- how many of the keys begin with the byte b
unfoldable pub count : ℕ → List ℕ → ℕ
count b keys = length (among (λ (k : ℕ). eqb (first_byte k) b) keys)

-- the counts of n bytes from the byte b on
unfoldable pub counts_from : ℕ → ℕ → List ℕ → List ℕ
counts_from b zero keys = []
counts_from b (suc n) keys = digits_le 256 2 (count b keys) ++ counts_from (suc b) n keys

-- all of them: 512 bytes
unfoldable pub firsts_of : List ℕ → List ℕ
firsts_of keys = counts_from 0 256 keys
