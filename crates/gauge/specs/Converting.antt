-- To believe. What a conversion of old memory hands back to C: the number and no counts, the cache and the waiting table. Assumes nothing.
use Rattle.std.specs.Prelude.{ℕ, List}
use Rattle.convert.specs.Convert.{Converted, convert_call}
use Rattle.gauge_commit.specs.Sending.{answer}
use Rattle.gauge_commit.specs.declared.Answer.{Answer}

pub record Conversion : Type 0 where
  pub answer : Answer
  pub cache : List ℕ
  pub waiting : List ℕ

abbrev pub conversion : Answer → List ℕ → List ℕ → Conversion
conversion a cache t = record { answer = a; cache = cache; waiting = t }

abbrev pub answered : Converted → Conversion
answered c = conversion (answer c.number 0 0) c.cache c.waiting

abbrev pub conversion_of : List ℕ → List ℕ → List ℕ → Conversion
conversion_of own cache t = answered (convert_call own cache t)
