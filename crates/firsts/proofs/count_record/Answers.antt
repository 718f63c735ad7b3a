-- `firsts::count_record` meets its contract: the record's key begins with the byte that is counted. Assumes nothing.
use mathlib.Core.Path.{refl, sym, ap, subst, ◌∙◌}
use mathlib.Core.List.{List, map}
use Prim.Native.Nat.{ℕ, ◌+◌, ◌*◌, ◌<◌}
use native.Mathlib.Omega.{arith}
use lib.ListN.{length, get_or}
use Rattle.octet.specs.Number.{Digits}
use Rattle.record.specs.Record.{key_of}
use Rattle.table.specs.Rows.{rows}
use Rattle.firsts.specs.Places.{count_at, with_count}
use Rattle.firsts.proofs.FirstsLaws.{firsts_length, row_room, row-counted}
use Rattle.firsts.proofs.count_record.Goals.{Start}
use Rattle.firsts.proofs.count_record.Goals as goal

-- the byte that is counted
abbrev byte : Start → ℕ
byte s = get_or s.args.cache.now (100 * s.args.i) 0

pub count_up-requires : goal.count_up-requires
count_up-requires c =
    let bytes : Digits 256 c.args.cache.now = λ i. omega (arith, c.type_inv.cache i) in
    let s = (goal.at.count_up-requires c).Start in
    let a = s.args in (
      ap length s.requires.2 ∙ firsts_length (map key_of (rows 100 a.i a.cache.now)),
      subst (λ (f : List ℕ). count_at (byte s) f < 65535) (sym s.requires.2) (row_room a.i a.cache.now (omega arith) (byte s) (bytes (100 * a.i))),
    )

pub returns : goal.returns
returns c =
    let bytes : Digits 256 c.args.cache.now = λ i. omega (arith, c.type_inv.cache i) in
    let s = (goal.at.returns c).Start in
    let a = s.args in
    c.count_up.ensures ∙ ap (λ (f : List ℕ). with_count (byte s) (count_at (byte s) f + 1) f) s.requires.2
    ∙ row-counted a.i a.cache.now (omega arith) bytes s.requires.0 (byte s) (bytes (100 * a.i)) refl
