-- Helps the code. Whether lent memory is as document 01 has it: "1: lent memory is not as above". It is tested whole, whatever the message needs. Tied to
-- document 01 by `ours-meets` (sentences/Theorems). Assumes nothing.
use Rattle.std.specs.Prelude.{ℕ, Bool, ◌&&◌, cond, List, eqb, length, Option, Some, None}
use Rattle.own.specs.Own.{own_form, own_keys, own_records}
use Rattle.octet.specs.Part.{same}
use Rattle.cache.specs.Form.{keys_of, cache_form, held_in, held_of}
use Rattle.firsts.specs.Firsts.{firsts_of}
use Rattle.waiting.specs.Form.{waiting_form, used_of}
use Rattle.cpas.specs.Cpas.{cpas_form}
use Rattle.gauge_plan.specs.Lent.{Memory, Receive}
use Rattle.gauge_plan.specs.declared.memory.Fit.{Fit}

-- own records, cache and waiting table in form
unfoldable pub tables_fit : List ℕ → Memory → Bool
tables_fit own m = own_form own && cache_form (own_keys own) m.cache && waiting_form (own_keys own) m.waiting

-- memory in form, in which so many records are held and so many places used
abbrev pub fitness : ℕ → ℕ → Option Fit
fitness held used = Some (record { held = held; used = used })

-- and with it how many records are held and how many places are used
unfoldable pub memory_of : List ℕ → Memory → Option Fit
memory_of own m = cond (tables_fit own m) (fitness (held_in (own_keys own) m.cache) (used_of m.waiting)) None

-- what comes with a datagram: a CPA for each own record (02, Wish 11); "a 16-byte nonce .. (other lengths give 1)"; "A key handed in has 32 bytes, else 1"
unfoldable pub comes_fit : Receive → Bool
comes_fit l = cpas_form (length (own_records l.own)) l.cpas && eqb (length l.nonce) 16 && eqb (length l.key) 32

-- "Counts lent that disagree with the cache are refused with 1" (02, Wish 12)
unfoldable pub counts_fit : List ℕ → Memory → Bool
counts_fit own m = same m.firsts (firsts_of (keys_of (held_of (own_keys own) m.cache)))

-- what is lent to a datagram received beside those two tables
unfoldable pub hands_fit : Memory → Receive → Bool
hands_fit m l = comes_fit l && counts_fit l.own m

-- of a tick: own records and waiting table in form
unfoldable pub tick_fit : List ℕ → Memory → Bool
tick_fit own m = own_form own && waiting_form (own_keys own) m.waiting
