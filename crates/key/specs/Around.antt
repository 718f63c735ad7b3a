-- To believe. How keys stand around our own key, and how close they are to a target. Keys go round (02, Wish 4): "a key is above ours if (key - own) modulo
-- 2^256 is from 1 to 2^255, else below; nearness on a side counts along that side. Closeness to a target is the shorter way round; at equal distance take
-- the key reached by going down from the target." Whatever goes by sides, nearness or closeness goes by these names. A number from 2^256 on is no key: with
-- it numbers stand as on a line, farther apart than any two keys, so that each definition is total. Assumes nothing.
use Rattle.std.specs.Prelude.{ℕ, ◌+◌, ◌-◌, ◌%◌, ◌^◌, min, Bool, cond, not, ◌&&◌, ◌||◌, ◌==◌, nat_le, nat_lt}
use Rattle.key.specs.Number.{distance}

-- the two sides of our own key
pub data Side : Type 0 where
  below above : Side

-- how many keys there are, and half as many
unfoldable pub ring : ℕ
ring = 2 ^ 256

unfoldable pub half : ℕ
half = 2 ^ 255

-- are both numbers keys?
unfoldable pub are_keys : ℕ → ℕ → Bool
are_keys j k = nat_lt j ring && nat_lt k ring

-- the steps up from the key j to the key k: (k - j) modulo 2^256
unfoldable pub up : ℕ → ℕ → ℕ
up j k = ((k + ring) - j) % ring

-- is the key k above our own? One that is not, and is not our own, is below
unfoldable pub is_above : ℕ → ℕ → Bool
is_above own k = cond (are_keys own k) (nat_le 1 (up own k) && nat_le (up own k) half) (nat_lt own k)

abbrev pub side_of : ℕ → ℕ → Side
side_of own k = cond (is_above own k) above below

-- how far out on its side the key k is, counted along that side: the nearer, the less
unfoldable pub nearness : ℕ → ℕ → ℕ
nearness own k = cond (are_keys own k) (cond (is_above own k) (up own k) (up k own)) (ring + distance own k)

-- how far two keys are apart: the shorter way round
unfoldable pub apart : ℕ → ℕ → ℕ
apart j k = cond (are_keys j k) (min (up j k) (up k j)) (ring + distance j k)

-- is the key k reached by going down from the target, the shorter way?
unfoldable pub is_down : ℕ → ℕ → Bool
is_down target k = cond (are_keys target k) (nat_le (up k target) (up target k)) (nat_lt k target)

-- of two keys equally far from the target, is k the one that is taken?
unfoldable pub tie : ℕ → ℕ → ℕ → Bool
tie target k j = is_down target k && not (is_down target j)

-- is the key k taken before the key j as the closest to the target?
unfoldable pub closer : ℕ → ℕ → ℕ → Bool
closer target k j =
    nat_lt (apart target k) (apart target j)
    || (apart target k == apart target j && tie target k j)
