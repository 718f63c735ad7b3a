-- `plan_message::plan_message` meets its contract: each arm is the clause of its message, by what is told of it, and reading knows the places. Assumes nothing.
use mathlib.Core.Path.{◌≡◌, sym, subst, ◌∙◌}
use mathlib.Core.Bool.{true}
use Prim.Native.Nat.{◌+◌, ◌≤◌, ◌<◌}
use native.Mathlib.Omega.{arith}
use lib.ListN.{length}
use Rattle.octet.specs.Part.{part}
use Rattle.record.specs.Entry.{entry_form}
use Rattle.wire_read.specs.Answers as R
use Rattle.wire_read.specs.declared.Incoming as T
use Rattle.look.specs.Seen.{brief_of}
use Rattle.look.specs.declared.Brief.{Brief}
use Rattle.gauge_plan.specs.Lent.{Memory, with_tables, Receive, planning}
use Rattle.plan_message.proofs.AnswerLaws.{known_answer}
use Rattle.plan_message.proofs.BriefLaws.{refused_by, flood-by, revoke-by, inquire-by, authority_by, ack-by, lookup-by, other_by, known-flood, known-entry, known-inquire, known-lookup}
use Rattle.plan_message.proofs.BriefLaws.{RefusedBy, FloodBy, RevokeBy, InquireBy, AuthorityBy, AckBy, LookupBy, OtherBy, KnownFlood, KnownEntry, KnownInquire, KnownLookup}
use Rattle.plan_message.proofs.plan_message.Goals.{After-brief_at-told, In-11, Start}
use Rattle.plan_message.proofs.plan_message.Goals as goal

abbrev start : After-brief_at-told → Start
start m = (goal.at.After-brief_at-told m).Start

-- all that was lent, with any memory besides and whatever else the datagram comes with
abbrev memory-at : Start → Memory → Memory
memory-at s o = with_tables s.args.cache.now s.args.waiting.now o

abbrev lent_at : Start → Receive → Receive
lent_at s l =
    let a = s.args in
    planning a.own.now a.cpas.now a.major a.id a.verdict a.key.now a.datagram.now a.output.now l

-- what holds of every answer and what is told of it holds here
by : (m : After-brief_at-told) (P : T.Incoming → Brief → Type 0) → ((a : T.Incoming) → P a (brief_of a))
    → P (R.read_in (start m).args.datagram.now (start m).args.major) m.brief_at-told.result
by m P f =
    let a = R.read_in (start m).args.datagram.now (start m).args.major in
    subst (P a) (sym m.brief_at-told.ensures) (f a)

pub plan_revoke-requires : goal.plan_revoke-requires
plan_revoke-requires c =
    let m = (goal.at.plan_revoke-requires c).After-brief_at-told in
    let s = start m in
    let d = s.args.datagram.now in
    (s.requires.0, omega (arith, s.requires.4), by m (KnownFlood d) (known-flood d) (known_answer d s.args.major) c.in-4.is)

pub returns-then-seen-eq0 : goal.returns-then-seen-eq0
returns-then-seen-eq0 c o l =
    let m = (goal.at.returns-then-seen-eq0 c).After-brief_at-told in
    let s = start m in
    c.plan_revoke.ensures
    ∙ sym (by m (RevokeBy (memory-at s o) (lent_at s l) s.args.held s.args.used) (revoke-by (memory-at s o) (lent_at s l) s.args.held s.args.used) (known_answer s.args.datagram.now s.args.major) c.in-4.is c.if-seen-eq0.true)

pub plan_flood-requires : goal.plan_flood-requires
plan_flood-requires c =
    let m = (goal.at.plan_flood-requires c).After-brief_at-told in
    let s = start m in
    let d = s.args.datagram.now in
    let k = c.in-4.is in
    let e = by m (KnownEntry d) (known-entry d) (known_answer d s.args.major) k c.if-seen-eq0.false in
    (s.requires.0, s.requires.2, s.requires.3, by m (KnownFlood d) (known-flood d) (known_answer d s.args.major) k, e.0, e.1)

pub plan_inquire-requires : goal.plan_inquire-requires
plan_inquire-requires c =
    let m = (goal.at.plan_inquire-requires c).After-brief_at-told in
    let s = start m in
    let d = s.args.datagram.now in
    (s.requires.0, s.requires.1, by m (KnownInquire d) (known-inquire d) (known_answer d s.args.major) c.in-7.is)

-- the places of a LOOKUP
told-lookup : (c : In-11)
    → (let m = (goal.at.In-11 c).After-brief_at-told in
    let x = m.brief_at-told.result in
    let d = (start m).args.datagram.now in
    (x.seen.target + 32 ≤ length d) × (8 ≤ x.size) × (x.path + x.size ≤ length d) × (x.seen.entry + x.seen.entry_length ≤ length d)
    × (0 < x.seen.entry_length → entry_form (part x.seen.entry x.seen.entry_length d) ≡ true))
told-lookup c =
    let m = (goal.at.In-11 c).After-brief_at-told in
    let s = start m in
    let d = s.args.datagram.now in
    by m (KnownLookup d) (known-lookup d) (known_answer d s.args.major) c.in-11.is

pub overflow_add-told : goal.overflow_add-told
overflow_add-told c = omega (arith, (told-lookup (goal.at.overflow_add-told c).In-11).2)

pub overflow_sub-told : goal.overflow_sub-told
overflow_sub-told c = omega (arith, (told-lookup (goal.at.overflow_sub-told c).In-11).1)

pub overflow_cast-seen-in-11-3 : goal.overflow_cast-seen-in-11-3
overflow_cast-seen-in-11-3 c = omega (arith, (told-lookup (goal.at.overflow_cast-seen-in-11-3 c).In-11).3)

pub plan_lookup-requires : goal.plan_lookup-requires
plan_lookup-requires c =
    let p = (goal.at.plan_lookup-requires c).In-11 in
    let s = (goal.at.plan_lookup-requires c).Start in
    let t = told-lookup p in
    (s.requires.0, s.requires.2, s.requires.3, t.0, omega (arith, t.1, t.2), t.3, t.4)

pub returns-in-0 : goal.returns-in-0
returns-in-0 c o l =
    let m = (goal.at.returns-in-0 c).After-brief_at-told in
    let s = start m in
    sym (by m (RefusedBy (memory-at s o) (lent_at s l) s.args.held s.args.used) (refused_by (memory-at s o) (lent_at s l) s.args.held s.args.used) c.in-0.is)

pub returns-else-seen-eq0 : goal.returns-else-seen-eq0
returns-else-seen-eq0 c o l =
    let m = (goal.at.returns-else-seen-eq0 c).After-brief_at-told in
    let s = start m in
    c.plan_flood.ensures
    ∙ sym (by m (FloodBy (memory-at s o) (lent_at s l) s.args.held s.args.used) (flood-by (memory-at s o) (lent_at s l) s.args.held s.args.used) c.in-4.is c.if-seen-eq0.false)

pub returns-in-7 : goal.returns-in-7
returns-in-7 c o l =
    let m = (goal.at.returns-in-7 c).After-brief_at-told in
    let s = start m in
    c.plan_inquire.ensures
    ∙ sym (by m (InquireBy (memory-at s o) (lent_at s l) s.args.held s.args.used) (inquire-by (memory-at s o) (lent_at s l) s.args.held s.args.used) c.in-7.is)

pub returns-in-8 : goal.returns-in-8
returns-in-8 c o l =
    let m = (goal.at.returns-in-8 c).After-brief_at-told in
    let s = start m in
    c.plan_authority.ensures
    ∙ sym (by m (AuthorityBy (memory-at s o) (lent_at s l) s.args.held s.args.used) (authority_by (memory-at s o) (lent_at s l) s.args.held s.args.used) c.in-8.is)

pub returns-in-9 : goal.returns-in-9
returns-in-9 c o l =
    let m = (goal.at.returns-in-9 c).After-brief_at-told in
    let s = start m in
    c.plan_ack.ensures
    ∙ sym (by m (AckBy (memory-at s o) (lent_at s l) s.args.held s.args.used) (ack-by (memory-at s o) (lent_at s l) s.args.held s.args.used) c.in-9.is)

pub returns-in-11 : goal.returns-in-11
returns-in-11 c o l =
    let m = (goal.at.returns-in-11 c).After-brief_at-told in
    let s = start m in
    c.plan_lookup.ensures
    ∙ sym (by m (LookupBy (memory-at s o) (lent_at s l) s.args.held s.args.used) (lookup-by (memory-at s o) (lent_at s l) s.args.held s.args.used) c.in-11.is)

pub returns-in_default : goal.returns-in_default
returns-in_default c o l =
    let m = (goal.at.returns-in_default c).After-brief_at-told in
    let s = start m in
    sym (by m (OtherBy (memory-at s o) (lent_at s l) s.args.held s.args.used) (other_by (memory-at s o) (lent_at s l) s.args.held s.args.used)
    (λ e. omega arith) (λ e. omega arith) (λ e. omega arith) (λ e. omega arith) (λ e. omega arith) (λ e. omega arith))
