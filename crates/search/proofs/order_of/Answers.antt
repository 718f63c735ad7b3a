-- `search::order_of` meets its contract: by the first words, or by all of the two keys. Assumes nothing.
use mathlib.Core.List.{List}
use Prim.Native.Nat.{ℕ, ◌+◌, ◌*◌, ◌≤◌}
use native.Mathlib.Omega.{arith}
use lib.ListN.{length}
use mathlib.Core.Path.{sym}
use Rattle.octet.specs.Number.{Digits}
use Rattle.search.proofs.SeekLaws.{first-less, first_more}
use Rattle.search.proofs.order_of.Goals.{After-read_u64-word, Start}
use Rattle.search.proofs.order_of.Goals as goal

-- the first place, the bytes lent, and the key's place, from where the word is read
abbrev start : After-read_u64-word → Start
start r = (goal.at.After-read_u64-word r).Start

abbrev held : After-read_u64-word → List ℕ
held r = (start r).args.cache.now

abbrev wanted : After-read_u64-word → List ℕ
wanted r = (start r).args.key.now

abbrev place : After-read_u64-word → ℕ
place r = 100 * (start r).args.i

held_bytes_lem : (r : After-read_u64-word) → Digits 256 (held r)
held_bytes_lem r = λ i. omega (arith, r.type_inv.cache i)

wanted-bytes : (r : After-read_u64-word) → Digits 256 (wanted r)
wanted-bytes r = λ i. omega (arith, r.type_inv.key i)

room : (r : After-read_u64-word) → place r + 32 ≤ length (held r)
room r = (start r).requires.i_in_bounds

pub returns-then-word-first : goal.returns-then-word-first
returns-then-word-first c =
    let r = (goal.at.returns-then-word-first c).After-read_u64-word in
    sym (first-less (place r) 0 (held r) (wanted r) (held_bytes_lem r) (wanted-bytes r) (room r) (start r).requires.in_bounds
    (omega (arith, c.if-word-first.true, r.read_u64-word.ensures, (start r).requires.first_value)))

pub returns-then-first-word : goal.returns-then-first-word
returns-then-first-word c =
    let r = (goal.at.returns-then-first-word c).After-read_u64-word in
    sym (first_more (place r) 0 (held r) (wanted r) (held_bytes_lem r) (wanted-bytes r) (room r) (start r).requires.in_bounds
    (omega (arith, c.if-first-word.true, r.read_u64-word.ensures, (start r).requires.first_value)))

pub returns : goal.returns
returns c = c.order_at.ensures
