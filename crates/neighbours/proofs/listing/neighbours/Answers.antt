-- `neighbours::listing::neighbours` meets its contract: the keys round the ring, from the key down, and from it up. Assumes nothing.
use mathlib.Core.Path.{◌≡◌, ◌∙◌}
use Prim.Native.Nat.{◌*◌, ◌≤◌, ◌<◌}
use lib.ListN.{length, length-map}
use Rattle.octet.specs.Number.{Bytes}
use Rattle.key.specs.Number.{key_at}
use Rattle.key.specs.Around.{ring}
use Rattle.key.proofs.KeyLaws.{key-lt}
use Rattle.record.specs.Record.{key_of}
use Rattle.table.specs.Rows.{rows}
use Rattle.table.proofs.RowLaws.{rows-length}
use Rattle.kept.proofs.TurnLaws.{count-le, under_le}
use Rattle.cache.specs.Form.{keys_of}
use Rattle.neighbours.proofs.ListLaws.{near-counts, near-out}
use native.Mathlib.Omega.{arith}
use Rattle.neighbours.proofs.listing.neighbours.Goals.{After-count_below-under, After-count_under-first, Start}
use Rattle.neighbours.proofs.listing.neighbours.Goals as goal

room : (s : Start) → 100 * s.args.used ≤ length s.args.cache.now
room s = s.requires.in_bounds.2

many : (s : Start) → length (keys_of (rows 100 s.args.used s.args.cache.now)) ≡ s.args.used
many s = length-map (rows 100 s.args.used s.args.cache.now) key_of ∙ rows-length 100 s.args.used s.args.cache.now

abbrev start : After-count_under-first → Start
start m = (goal.at.After-count_under-first m).Start

first-most : (m : After-count_under-first) → m.count_under-first.result ≤ (start m).args.used
first-most m =
    let s = start m in
    omega (arith, m.count_under-first.ensures, many s, under_le (key_at 0 s.args.key.now) (keys_of (rows 100 s.args.used s.args.cache.now)))

under-most : (m : After-count_below-under) → m.count_below-under.result ≤ m.args.used
under-most m =
    let s = (goal.at.After-count_below-under m).Start in
    omega (arith, m.count_below-under.ensures, many s, count-le (key_at 0 s.args.key.now) (keys_of (rows 100 s.args.used s.args.cache.now)))

pub count_under-first-requires : goal.count_under-first-requires
count_under-first-requires c =
    let s = (goal.at.count_under-first-requires c).Start in
    record { in_bounds = s.requires.in_bounds.0; used_in_bounds = room s; rising = s.requires.rising }

pub count_below-under-requires : goal.count_below-under-requires
count_below-under-requires c =
    let s = (goal.at.count_below-under-requires c).Start in
    record { in_bounds = (s.requires.in_bounds.0, room s); rising = s.requires.rising; every = s.requires.every; first_value = c.count_under-first.ensures }

pub overflow_sub-used : goal.overflow_sub-used
overflow_sub-used c = under-most (goal.at.overflow_sub-used c).After-count_below-under

pub keys_down-requires : goal.keys_down-requires
keys_down-requires c =
    let s = (goal.at.keys_down-requires c).Start in
    let w = under-most (goal.at.keys_down-requires c).After-count_below-under in (
      room s,
      first-most (goal.at.keys_down-requires c).After-count_under-first,
      omega (arith, c.min-below.ensures),
      omega (arith, c.min-below.ensures, s.requires.in_bounds.1),
    )

pub overflow_mul-below : goal.overflow_mul-below
overflow_mul-below c =
    omega (arith, c.min-below.ensures)

pub keys_up-requires : goal.keys_up-requires
keys_up-requires c =
    let s = (goal.at.keys_up-requires c).Start in
    let w = under-most (goal.at.keys_up-requires c).After-count_below-under in (
      room s,
      first-most (goal.at.keys_up-requires c).After-count_under-first,
      omega (arith, c.min-above.ensures),
      omega (arith, c.min-below.ensures, c.min-above.ensures, c.keys_down.auto.out, s.requires.in_bounds.1),
    )

pub returns : goal.returns
returns c =
    let s = (goal.at.returns c).Start in
    let a = s.args in
    let bytes : Bytes a.cache.now = λ i. omega (arith, c.type_inv.cache i) in
    let key_bytes_lem : Bytes a.key.now = λ i. omega (arith, c.type_inv.key i) in
    let o : key_at 0 a.key.now < ring = key-lt 0 a.key.now key_bytes_lem s.requires.in_bounds.0 in record {
      value = near-counts (key_at 0 a.key.now) a.used a.cache.now s.requires.rising s.requires.every o bytes (room s) c.count_under-first.result c.count_below-under.result
          c.min-below.result c.min-above.result c.count_under-first.ensures c.count_below-under.ensures c.min-below.ensures c.min-above.ensures;
      out_after = near-out (key_at 0 a.key.now) a.used a.cache.now s.requires.rising s.requires.every o bytes (room s) c.count_under-first.result c.count_below-under.result
          c.min-below.result c.min-above.result c.count_under-first.ensures c.count_below-under.ensures c.min-below.ensures c.min-above.ensures
          a.out.now c.keys_down.new.out c.keys_up.new.out s.requires.in_bounds.1 c.keys_down.ensures
          c.keys_up.ensures;
    }
