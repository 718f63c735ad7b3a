-- `asking::must_ask` meets its contract: the records held first, then the inquiries that wait for the entry's key. Assumes nothing.
use Rattle.std.proofs.Common.{sym, ◌∙◌, arith}
use Rattle.octet.specs.Part.{part}
use Rattle.record.specs.Entry.{record_of}
use Rattle.table.specs.Rows.{rows}
use Rattle.asking.proofs.AskingLaws.{not_so, entry-room, key_in_lem, ask-held, ask-found}
use Rattle.asking.proofs.must_ask.Goals as goal

pub returns-then-holds_same : goal.returns-then-holds_same
returns-then-holds_same c =
    let a = c.args in
    sym (ask-held (rows 100 a.held a.cache.now) (rows 140 a.used a.waiting.now) (record_of (part a.start a.len a.d.now))
    (sym c.holds_same.ensures ∙ c.if-holds_same.true))

pub find_inquiry-requires : goal.find_inquiry-requires
find_inquiry-requires c =
    let a = c.args in
    (omega arith, c.requires.1, entry-room a.start a.len a.d.now c.requires.2 c.requires.3)

pub returns : goal.returns
returns c =
    let a = c.args in
    sym (ask-found (rows 100 a.held a.cache.now) (rows 140 a.used a.waiting.now) (record_of (part a.start a.len a.d.now))
    (sym c.holds_same.ensures ∙ c.if-holds_same.false)
    (key_in_lem a.start a.len a.d.now c.requires.2 c.requires.3) c.find_inquiry.ensures ∙ not_so c.is_none.ensures)
