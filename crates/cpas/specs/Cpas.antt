-- To believe. Our CPAs as they are lent (02, Wish 11): for each own record, in their order, a length of 2 bytes, least significant first, from 1 to 1,024, and so
-- many bytes; nothing after the last. Assumes nothing.
use Rattle.std.specs.Prelude.{ℕ, zero, suc, ◌+◌, Bool, ◌&&◌, List, eqb, leb, length, take, drop}
use Rattle.octet.specs.Number.{value_le}
use Rattle.octet.specs.Part.{part}

-- how long the first is; what stands behind it
abbrev pub cpa_size : List ℕ → ℕ
cpa_size b = value_le 256 (take 2 b)

abbrev pub behind_cpa : List ℕ → List ℕ
behind_cpa b = drop (2 + cpa_size b) b

-- does a CPA stand there, whole?
unfoldable pub cpa_form : List ℕ → Bool
cpa_form b = leb 1 (cpa_size b) && leb (cpa_size b) 1024 && leb (2 + cpa_size b) (length b)

-- are they n, one behind the other, and nothing after?
unfoldable pub cpas_form : ℕ → List ℕ → Bool
cpas_form zero b = eqb (length b) 0
cpas_form (suc n) b = cpa_form b && cpas_form n (behind_cpa b)

-- the CPA of a place, the first being 0
unfoldable pub cpa_of : ℕ → List ℕ → List ℕ
cpa_of zero b = part 2 (cpa_size b) b
cpa_of (suc i) b = cpa_of i (behind_cpa b)
