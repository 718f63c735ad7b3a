-- `commit_show` meets its contract: the AUTHORITY's length is where the INQUIRE begins, and the two stand one after the other. Assumes nothing.
use native.Mathlib.Omega.{arith}
use Prim.Native.Nat.{ℕ, ◌+◌, ◌*◌, ◌≤◌}
use lib.ListN.{length}
use mathlib.Core.Path.{◌≡◌, refl, sym, ap, ◌∙◌, subst}
use mathlib.Core.Bool.{Bool, true, false}
use mathlib.Core.List.{List}
use borrow.Author.Tests.{not-true, not-false}
use Rattle.octet.specs.Part.{part}
use Rattle.key.specs.Number.{key_at}
use Rattle.record.specs.Record.{count_of, record_form}
use Rattle.record.specs.Entry.{record_of}
use Rattle.own.specs.Own.{own_keys}
use Rattle.table.specs.Rows.{rows}
use Rattle.neighbours.specs.Closest.{off_path, closest_past}
use Rattle.neighbours.proofs.ClosestLaws.{closest_formed}
use Rattle.neighbours.proofs.SkipLaws.{off-held}
use Rattle.wire_write.specs.Making.{closest_made}
use Rattle.asking.specs.Asking.{inquire_room}
use Rattle.gauge_commit.specs.Sending.{answer, lengths, sending}
use Rattle.gauge_commit.proofs.SentLaws.{shown_closest, record_long, none-behind, behind-sent, behind-told}
use borrow.Author.Rules.{rules}
use Rattle.commit_answer.proofs.commit_show.Goals.{After-send_closest-first, Start}
use Rattle.commit_answer.proofs.commit_show.Goals as goal

-- behind the AUTHORITY
module _ (c : After-send_closest-first) where
  abbrev s : Start
  s = (goal.at.After-send_closest-first c).Start

  abbrev recs : List (List ℕ)
  recs = rows 100 s.args.held s.args.cache.now

  abbrev path : List ℕ
  path = s.args.path.now

  abbrev nearest : List ℕ
  nearest = closest_past s.args.own.now recs path (key_at 0 s.args.target.now)

  -- its bytes, and how many they are
  abbrev shown : List ℕ
  shown = let a = s.args in (closest_made a.head.major a.head.minor a.head.id a.acked nearest 0).bytes

  formed : record_form nearest ≡ true
  formed =
      let a = s.args in
      closest_formed (key_at 0 a.target.now) (own_keys a.own.now) a.own.now (off_path path recs) s.requires.own_value.0
      (off-held path (own_keys a.own.now) recs s.requires.own_value.1.held)

  size : length shown ≡ 80 + 16 * count_of nearest
  size = let a = s.args in shown_closest a.head.major a.head.minor a.head.id a.acked nearest formed

  -- what follows it
  abbrev named : List ℕ
  named = record_of s.args.entry.now

  fits_both : length shown + inquire_room s.args.opens ≤ length s.args.output.now
  fits_both = omega (arith, size, s.requires.own_value.3)

pub send_closest-first-requires : goal.send_closest-first-requires
send_closest-first-requires c =
    let s = c in
    (s.requires.own_value.0, s.requires.own_value.1, s.requires.own_value.2, omega (arith, s.requires.own_value.3))

pub returns-then-not-opens : goal.returns-then-not-opens
returns-then-not-opens c =
    let shows = (goal.at.returns-then-not-opens c).After-send_closest-first in
    let a = (s shows).args in
    let e : a.opens ≡ false = c.if-not-opens.true in
    let none = none-behind a.head.major a.head.minor a.head.id (shown shows) a.opens a.nonce.now (named shows) e in record { value = c.answer_of.ensures ∙ ap (λ (l : ℕ). answer 0 l 0) shows.send_closest-first.ensures.value.0 ∙ ap lengths (sym none); waiting_after = rw e refl; output_after = shows.send_closest-first.ensures.output_after ∙ ap (λ (ds : List (List ℕ)). sending ds a.output.now) (sym none) }

pub ask-requires : goal.ask-requires
ask-requires c =
    let i = c in
    let shows = (goal.at.ask-requires c).After-send_closest-first in
    let a = (s shows).args in
    let p = (s shows).requires.used_bound in
    let e : a.opens ≡ true = i.if-not-opens.false in
    let room : length (shown shows) + 76 ≤ length a.output.now =
    subst (λ (b : Bool). length (shown shows) + inquire_room b ≤ length a.output.now) e (fits_both shows) in
    (p.0 e, p.1, p.2, p.3, p.4 e, omega (arith, room, shows.send_closest-first.ensures.value.0))

pub returns : goal.returns
returns c =
    let at-ask = c in
    let i = c in
    let shows = (goal.at.returns c).After-send_closest-first in
    let a = (s shows).args in
    let p = (s shows).requires.used_bound in
    let e : a.opens ≡ true = i.if-not-opens.false in
    let long = record_long a.entry.now (p.4 e) in record {
      value = c.answer_of-2.ensures
          ∙ behind-told a.head.major a.head.minor a.head.id (shown shows) a.opens a.nonce.now (named shows) long p.3 e shows.send_closest-first.ensures.value.0;
      waiting_after = rw e at-ask.ask.ensures.waiting_after;
      output_after = at-ask.ask.ensures.output_after
          ∙ behind-sent a.head.major a.head.minor a.head.id (shown shows) a.opens a.nonce.now (named shows) long p.3 e
          shows.send_closest-first.result a.output.now shows.send_closest-first.new.output (fits_both shows)
          shows.send_closest-first.ensures.value.0 shows.send_closest-first.ensures.output_after;
    }
