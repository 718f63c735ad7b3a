-- Helps the code. What the tests of the old form answer. Assumes nothing.
use Rattle.std.specs.Prelude.{ℕ, cond, List, Option, Some, None}
use Rattle.own.specs.Own.{Own}
use Rattle.waiting.specs.Form.{used_of}
use Rattle.convert.specs.Old.{old_held_in, old_cache_form, old_waiting_form}

-- a cache in the old form, with how many records it holds; a waiting table, with how many places are used
unfoldable pub old_cache_formed : Own → List ℕ → Option ℕ
old_cache_formed own cache = cond (old_cache_form own cache) (Some (old_held_in own cache)) None

unfoldable pub old_waiting_formed : Own → List ℕ → Option ℕ
old_waiting_formed own t = cond (old_waiting_form own t) (Some (used_of t)) None
