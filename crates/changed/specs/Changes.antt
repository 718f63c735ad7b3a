-- To believe. "List, in key order, each key gone, new, or held with another record, the last two with the second cache's record, and no other; changing the
-- first cache by that list, a definition and no call, gives the second" (02, Wish 10). On the records that two caches hold, keys strictly increasing.
-- Assumes nothing.
use Rattle.std.specs.Prelude.{ℕ, cond, List, [], ◌∷◌, ltb}
use Rattle.octet.specs.Part.{same}
use Rattle.record.specs.Record.{key_of}
use Rattle.kept.specs.Records.{put_by, without_by}

-- a key is gone; a record's key is new; a key that was held has another record, this one
pub data Change : Type 0 where
  gone : ℕ → Change
  new other : List ℕ → Change

abbrev pub key_in : Change → ℕ
key_in (gone k) = k
key_in (new r) = key_of r
key_in (other r) = key_of r

-- what changed from the first records to the second: the smaller of the two first keys stands in one of them only; of two with one key the bytes are compared
unfoldable pub changes : List (List ℕ) → List (List ℕ) → List Change
changes [] [] = []
changes [] (q ∷ b) = new q ∷ changes [] b
changes (p ∷ a) [] = gone (key_of p) ∷ changes a []
changes (p ∷ a) (q ∷ b) =
    cond (ltb (key_of p) (key_of q)) (gone (key_of p) ∷ changes a (q ∷ b))
    (cond (ltb (key_of q) (key_of p)) (new q ∷ changes (p ∷ a) b)
    (cond (same p q) (changes a b) (other q ∷ changes a b)))

-- records changed by one entry: a key is taken out; a record is put in by its key, in place of one that has the key
unfoldable pub changed_by : Change → List (List ℕ) → List (List ℕ)
changed_by (gone k) a = without_by key_of k a
changed_by (new r) a = put_by key_of r a
changed_by (other r) a = put_by key_of r a

-- and by a list of them, one after the other
unfoldable pub apply : List Change → List (List ℕ) → List (List ℕ)
apply [] a = a
apply (c ∷ cs) a = apply cs (changed_by c a)
