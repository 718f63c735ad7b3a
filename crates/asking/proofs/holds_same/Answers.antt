-- `asking::holds_same` meets its contract: the place found for the entry's key decides. Assumes nothing.
use Rattle.std.proofs.Common.{◌≡◌, ℕ, ◌+◌, ◌-◌, List, take, drop, sym, ap, ◌∙◌, arith, length-drop, length-take}
use Rattle.octet.specs.Part.{part}
use Rattle.key.specs.Number.{key_at}
use Rattle.record.specs.Record.{key_of}
use Rattle.record.specs.Entry.{record_of}
use Rattle.record.proofs.EntryLaws.{record_key}
use Rattle.record.proofs.PlaceLaws.{entry_at}
use Rattle.table.specs.Rows.{rows}
use Rattle.cache.specs.Form.{keys_of}
use Rattle.cache.specs.Place.{find_key}
use Rattle.cache.proofs.FindLaws.{found-place}
use Rattle.asking.proofs.SameLaws.{same_here, same-nowhere}
use Rattle.asking.proofs.holds_same.Goals.{After-find, Start}
use Rattle.asking.proofs.holds_same.Goals as goal

abbrev start : After-find → Start
start f = (goal.at.After-find f).Start

-- the record that the entry names
abbrev named : Start → List ℕ
named s = record_of (part s.args.start s.args.len s.args.d.now)

-- the key that was looked for is that record's
found : (f : After-find)
    → f.find.result ≡ find_key (key_of (named (start f))) (keys_of (rows 100 (start f).args.held (start f).args.cache.now))
found f =
    let s = start f in
    let a = s.args in
    let size : a.start + a.len - a.start ≡ a.len = omega arith in
    f.find.ensures
    ∙ ap (λ (k : ℕ). find_key k (keys_of (rows 100 a.held a.cache.now)))
    (ap (λ (n : ℕ). key_at 0 (take n (drop a.start a.d.now))) size ∙ sym (record_key (part a.start a.len a.d.now) s.requires.2))

pub find-requires : goal.find-requires
find-requires c =
    let a = c.args in
    let long = (entry_at a.start a.len a.d.now c.requires.1 c.requires.2).long in
    let cut = length-take (a.start + a.len - a.start) (drop a.start a.d.now) in
    record { used_in_bounds = c.requires.0; in_bounds = omega (arith, long, cut, length-drop a.start a.d.now, c.requires.1); rising = c.requires.3 }

pub overflow_mul-i : goal.overflow_mul-i
overflow_mul-i c =
    let f = (goal.at.overflow_mul-i c).After-find in
    let s = start f in
    let a = s.args in
    omega (arith, found-place (key_of (named s)) a.held a.cache.now (found f) c.in-Ok.is, s.requires.0)

pub same_as_entry-requires : goal.same_as_entry-requires
same_as_entry-requires c =
    let f = (goal.at.same_as_entry-requires c).After-find in
    let s = start f in
    let a = s.args in
    let inside = found-place (key_of (named s)) a.held a.cache.now (found f) c.in-Ok.is in
    record { at_in_bounds = omega (arith, inside, s.requires.0); len_in_bounds = s.requires.1; d_value = s.requires.2 }

pub returns-in-Ok : goal.returns-in-Ok
returns-in-Ok c =
    let f = (goal.at.returns-in-Ok c).After-find in
    let s = start f in
    let a = s.args in
    c.same_as_entry.ensures
    ∙ sym (same_here (named s) a.held a.cache.now s.requires.3 (found f) c.in-Ok.is
    (found-place (key_of (named s)) a.held a.cache.now (found f) c.in-Ok.is))

pub returns-in-Err : goal.returns-in-Err
returns-in-Err c =
    let f = (goal.at.returns-in-Err c).After-find in
    let s = start f in
    sym (same-nowhere (named s) s.args.held s.args.cache.now s.requires.3 (found f) c.in-Err.is)
