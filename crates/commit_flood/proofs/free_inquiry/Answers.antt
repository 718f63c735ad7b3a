-- `free_inquiry` meets its contract: the key's inquiry is the one found, or none is and the table is as it was. Assumes nothing.
use mathlib.Core.Path.{sym, ap, ◌∙◌}
use Rattle.key.specs.Number.{key_at}
use Rattle.table.specs.Rows.{bytes_of}
use Rattle.gauge_commit.proofs.PlaceLaws.{found-used, found-freed, none-freed}
use borrow.Author.Rules.{rules}
use Rattle.commit_flood.proofs.free_inquiry.Goals as goal

pub free-requires : goal.free-requires
free-requires c =
    let at-find-inquiry = c in
    let s = c in
    let a = s.args in
    let p = s.requires in (
      found-used (key_at 0 a.key.now) a.used a.waiting.now at-find-inquiry.find_inquiry.ensures c.in-Some.is,
      p.0,
      p.1,
    )

pub returns-in-Some : goal.returns-in-Some
returns-in-Some c =
    let at-found = c in
    let at-find-inquiry = c in
    let s = c in
    let a = s.args in
    let e = found-freed (key_at 0 a.key.now) a.used a.waiting.now at-find-inquiry.find_inquiry.ensures at-found.in-Some.is in
    c.free.ensures ∙ ap (bytes_of 2240) (sym e)

pub returns-in_default : goal.returns-in_default
returns-in_default c =
    let s = c in
    let a = s.args in
    let p = s.requires in
    none-freed (key_at 0 a.key.now) a.used a.waiting.now c.find_inquiry.ensures c.in_default.is p.0 p.1
