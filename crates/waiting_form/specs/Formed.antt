-- Helps the code. What the form test answers. Assumes nothing.
use Rattle.std.specs.Prelude.{ℕ, cond, List, Option, Some, None}
use Rattle.own.specs.Own.{Own}
use Rattle.waiting.specs.Form.{waiting_form, used_of}

-- a table in form, with how many places are used, or one out of form
unfoldable pub waiting_formed : Own → List ℕ → Option ℕ
waiting_formed own t = cond (waiting_form own t) (Some (used_of t)) None
