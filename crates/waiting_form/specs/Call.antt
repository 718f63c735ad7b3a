-- Helps the code. A tick on memory that nobody has tested: 1 where the own records or the table are out of form, 15 where the list has no room for 16 numbers of
-- 32 bits; refused, it counts nothing and leaves each byte. Tied to document 01 by `ours-meets` (sentences/Theorems). Assumes nothing.
use Rattle.std.specs.Prelude.{ℕ, not, ◌&&◌, List, [], ◌∷◌, ltb, length}
use Rattle.octet.specs.Part.{splice}
use Rattle.own.specs.Own.{own_form, own_keys}
use Rattle.refusal.specs.Table.{Refusal, when, or_refuse}
use Rattle.table.specs.Rows.{bytes_of}
use Rattle.waiting.specs.Form.{waiting_form, places_of}
use Rattle.waiting.specs.Tick.{id_bytes}
use Rattle.waiting.specs.Ticking.{ticked, listed}

-- what a tick hands back: a number of document 01, how many IDs are listed, the table and the output as they are left
pub record Ticked : Type 0 where
  pub number : ℕ
  pub count : ℕ
  pub table : List ℕ
  pub output : List ℕ

abbrev pub tick_handed : ℕ → ℕ → List ℕ → List ℕ → Ticked
tick_handed n k t o = record { number = n; count = k; table = t; output = o }

unfoldable pub tick_refusals : List ℕ → List ℕ → List ℕ → List Refusal
tick_refusals own t o = when 1 (not (own_form own && waiting_form (own_keys own) t)) ∷ when 15 (ltb (length o) 64) ∷ []

unfoldable pub tick_done : List ℕ → List ℕ → Ticked
tick_done t o = tick_handed 0 (length (listed (places_of t))) (bytes_of 2240 (ticked (places_of t))) (splice 0 (id_bytes (listed (places_of t))) o)

unfoldable pub tick_call : List ℕ → List ℕ → List ℕ → Ticked
tick_call own t o = or_refuse (λ (n : ℕ). tick_handed n 0 t o) (tick_refusals own t o) (tick_done t o)
