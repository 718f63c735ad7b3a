-- `asking::asks_for` meets its contract: no entry, our own key, or the question that every entry is asked. Assumes nothing.
use Rattle.std.proofs.Common.{◌≡◌, ℕ, true, List, length, sym, ap, ◌∙◌, arith}
use Rattle.octet.specs.Part.{part}
use Rattle.octet.proofs.PartLaws.{length_part}
use Rattle.record.specs.Record.{key_of}
use Rattle.record.specs.Entry.{entry_form, record_of}
use Rattle.own.specs.Own.{own_keys, is_own}
use Rattle.table.specs.Rows.{rows}
use Rattle.asking.proofs.AskingLaws.{entry-room, key_in_lem, asks_none, asks-own, asks-other}
use Rattle.asking.proofs.asks_for.Goals.{After-is_own, Else-is_own, Else-len-eq0, Start}
use Rattle.asking.proofs.asks_for.Goals as goal

-- the entry, and how long it is
abbrev entry : Start → List ℕ
entry s = part s.args.start s.args.len s.args.d.now

long : (s : Start) → length (entry s) ≡ s.args.len
long s = length_part s.args.start s.args.len s.args.d.now s.requires.3

-- where there is one
module _ (c : Else-len-eq0) where
  abbrev s : Start
  s = (goal.at.Else-len-eq0 c).Start

  formed : entry_form (entry s) ≡ true
  formed = s.requires.4 (omega (arith, c.if-len-eq0.false))

  there : ¬ (length (entry s) ≡ 0)
  there e = c.if-len-eq0.false (sym (long s) ∙ e)

own_key : (c : After-is_own) → (let e = (goal.at.After-is_own c).Else-len-eq0 in is_own (own_keys (s e).args.own.now) (key_of (record_of (entry (s e)))) ≡ c.is_own.result)
own_key c =
    let e = (goal.at.After-is_own c).Else-len-eq0 in
    let a = (s e).args in
    ap (is_own (own_keys a.own.now)) (key_in_lem a.start a.len a.d.now (s e).requires.3 (formed e)) ∙ sym c.is_own.ensures

pub returns-then-len-eq0 : goal.returns-then-len-eq0
returns-then-len-eq0 c =
    let s = (goal.at.returns-then-len-eq0 c).Start in
    let a = s.args in
    sym (asks_none (own_keys a.own.now) (rows 100 a.held a.cache.now) (rows 140 a.used a.waiting.now) (entry s) (long s ∙ c.if-len-eq0.true))

pub is_own-requires : goal.is_own-requires
is_own-requires c = let a = (s (goal.at.is_own-requires c).Else-len-eq0).args in entry-room a.start a.len a.d.now (s (goal.at.is_own-requires c).Else-len-eq0).requires.3 (formed (goal.at.is_own-requires c).Else-len-eq0)

pub returns-then-is_own : goal.returns-then-is_own
returns-then-is_own c =
    let e = (goal.at.returns-then-is_own c).Else-len-eq0 in
    let a = (s e).args in
    sym (asks-own (own_keys a.own.now) (rows 100 a.held a.cache.now) (rows 140 a.used a.waiting.now) (entry (s e)) (there e)
    (own_key (goal.at.returns-then-is_own c).After-is_own ∙ c.if-is_own.true))

pub must_ask-requires : goal.must_ask-requires
must_ask-requires c = let e = (goal.at.must_ask-requires c).Else-len-eq0 in ((s e).requires.1, (s e).requires.2, (s e).requires.3, formed e, (s e).requires.5)

pub returns : goal.returns
returns c =
    let e = (goal.at.returns c).Else-len-eq0 in
    let a = (s e).args in
    c.must_ask.ensures
    ∙ sym (asks-other (own_keys a.own.now) (rows 100 a.held a.cache.now) (rows 140 a.used a.waiting.now) (entry (s e)) (there e)
    (own_key (goal.at.returns c).After-is_own ∙ c.if-is_own.false))
