-- `sides::count_upto` meets its contract: those that are smaller, and the key where it is held. Assumes nothing.
use mathlib.Core.Path.{◌≡◌, ap, ◌∙◌}
use mathlib.Core.Bool.{Bool, true, false, cond}
use mathlib.Core.List.{List, map}
use Prim.Native.Nat.{ℕ, suc}
use native.Mathlib.Omega.{arith}
use Rattle.key.specs.Number.{key_at}
use Rattle.record.specs.Record.{key_of}
use Rattle.table.specs.Rows.{rows}
use Rattle.kept.specs.Keys.{has}
use Rattle.kept.specs.Turned.{count_under, count_upto}
use Rattle.kept.proofs.TurnLaws.{under_le}
use Rattle.search.proofs.SeekLaws.{keys_many, sought-held, sought-none}
use Rattle.sides.proofs.SideLaws.{upto_is}
use Rattle.sides.proofs.count_upto.Goals.{After-find_key}
use Rattle.sides.proofs.count_upto.Goals as goal

abbrev wanted : After-find_key → ℕ
wanted f = key_at 0 f.args.key.now

abbrev keys : After-find_key → List ℕ
keys f = let a = f.args in map key_of (rows 100 a.used a.cache.now)

-- so many are at most it, by whether it is held
many : (f : After-find_key) (b : Bool) → has (wanted f) (keys f) ≡ b
    → count_upto (wanted f) (keys f) ≡ cond b (suc (count_under (wanted f) (keys f))) (count_under (wanted f) (keys f))
many f b e =
    upto_is (wanted f) 0 (keys f) f.requires.rising
    ∙ ap (λ (t : Bool). cond t (suc (count_under (wanted f) (keys f))) (count_under (wanted f) (keys f))) e

pub overflow_add-result : goal.overflow_add-result
overflow_add-result c =
    let f = (goal.at.overflow_add-result c).After-find_key in
    omega (
      arith,
      (sought-held (wanted f) (keys f) f.find_key.ensures c.in-Ok.is).1,
      under_le (wanted f) (keys f),
      keys_many c.args.used c.args.cache.now,
      c.requires.used_in_bounds,
    )

pub returns-in-Ok : goal.returns-in-Ok
returns-in-Ok c =
    let f = (goal.at.returns-in-Ok c).After-find_key in
    let there = sought-held (wanted f) (keys f) f.find_key.ensures c.in-Ok.is in
    omega (arith, there.1, many f true there.0)

pub returns-in-Err : goal.returns-in-Err
returns-in-Err c =
    let f = (goal.at.returns-in-Err c).After-find_key in
    let out = sought-none (wanted f) (keys f) f.find_key.ensures c.in-Err.is in
    omega (arith, out.1, many f false out.0)
