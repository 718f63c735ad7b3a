-- `named::name_in` meets its contract: each answer is the clause of its message, by what is told of it, and reading knows the places. Assumes
-- nothing.
use mathlib.Core.Path.{◌≡◌, sym, ap, ap₂, subst, ◌∙◌}
use mathlib.Core.List.{List}
use Prim.Native.Nat.{ℕ, ◌+◌, ◌-◌, ◌≤◌}
use native.Mathlib.Omega.{arith}
use lib.ListN.{length, take, drop}
use borrow.Author.Rules.{rules}
use Rattle.std.specs.Prelude.{Result, Ok, Err}
use Rattle.octet.specs.Part.{part}
use Rattle.key.specs.Number.{number}
use Rattle.wire_read.specs.Answers as R
use Rattle.wire_read.specs.declared.Incoming as T
use Rattle.look.specs.Seen.{brief_of}
use Rattle.look.specs.declared.Brief.{Brief}
use Rattle.plan_message.proofs.AnswerLaws.{known_answer}
use Rattle.plan_message.proofs.BriefLaws.{KnownLookup, known-lookup}
use Rattle.named.specs.declared.Choice.{Choice}
use Rattle.named.specs.Places.{choice_for}
use Rattle.named.proofs.CallLaws.{RefusedBy, refused_by, OtherBy, other_by, LookupBy, lookup-by}
use Rattle.named.proofs.name_in.Goals.{After-brief_at-told, Else-told-ne11, Start}
use Rattle.named.proofs.name_in.Goals as goal

module _ (m : After-brief_at-told) where
  abbrev start : Start
  start = (goal.at.After-brief_at-told m).Start

  abbrev d : List ℕ
  d = start.args.datagram.now

  abbrev lookup : List ℕ → ℕ → Result Choice ℕ
  lookup path t = Ok (choice_for start.args.own.now start.args.cache.now start.args.used path t)

  abbrev told : Brief
  told = m.brief_at-told.result

  -- what holds of every answer and what is told of it holds here
  by : (P : T.Incoming → Brief → Type 0) → ((a : T.Incoming) → P a (brief_of a)) → P (R.read_in d start.args.major) told
  by P f =
      let a = R.read_in d start.args.major in
      subst (P a) (sym m.brief_at-told.ensures) (f a)

  -- the places of a LOOKUP
  known : told.seen.kind ≡ 11 → (told.seen.target + 32 ≤ length d) × (8 ≤ told.size) × (told.path + told.size ≤ length d)
  known e = let w = by (KnownLookup d) (known-lookup d) (known_answer d start.args.major) e in (w.0, w.1, w.2)

-- behind the tests: it is a LOOKUP
abbrev looked : Else-told-ne11 → After-brief_at-told
looked e = (goal.at.Else-told-ne11 e).After-brief_at-told

pub returns-then-told-eq0 : goal.returns-then-told-eq0
returns-then-told-eq0 c =
    let m = (goal.at.returns-then-told-eq0 c).After-brief_at-told in
    sym (by m (RefusedBy Err (lookup m) (d m)) (refused_by Err (lookup m) (d m)) c.if-told-eq0.true)

pub returns-then-told-ne11 : goal.returns-then-told-ne11
returns-then-told-ne11 c =
    let m = (goal.at.returns-then-told-ne11 c).After-brief_at-told in
    sym (by m (OtherBy Err (lookup m) (d m)) (other_by Err (lookup m) (d m)) c.if-told-eq0.false c.if-told-ne11.true)

pub overflow_cast-told : goal.overflow_cast-told
overflow_cast-told c = let e = (goal.at.overflow_cast-told c).Else-told-ne11 in let m = looked e in omega (arith, (known m e.if-told-ne11.false).0, (start m).well_formed)

pub key_at-target-requires : goal.key_at-target-requires
key_at-target-requires c = let e = (goal.at.key_at-target-requires c).Else-told-ne11 in omega (arith, (known (looked e) e.if-told-ne11.false).0)

pub overflow_add-start : goal.overflow_add-start
overflow_add-start c =
    let e = (goal.at.overflow_add-start c).Else-told-ne11 in
    let m = looked e in
    let w = known m e.if-told-ne11.false in
    omega (arith, w.1, w.2, (start m).well_formed)

pub overflow_add-end : goal.overflow_add-end
overflow_add-end c =
    let e = (goal.at.overflow_add-end c).Else-told-ne11 in
    let m = looked e in
    omega (arith, (known m e.if-told-ne11.false).2, (start m).well_formed)

pub slice_bounds-choose-count : goal.slice_bounds-choose-count
slice_bounds-choose-count c = let e = (goal.at.slice_bounds-choose-count c).Else-told-ne11 in omega (arith, (known (looked e) e.if-told-ne11.false).1)

pub slice_bounds-choose-start : goal.slice_bounds-choose-start
slice_bounds-choose-start c = let e = (goal.at.slice_bounds-choose-start c).Else-told-ne11 in omega (arith, (known (looked e) e.if-told-ne11.false).1)

pub slice_bounds-choose-end : goal.slice_bounds-choose-end
slice_bounds-choose-end c = let e = (goal.at.slice_bounds-choose-end c).Else-told-ne11 in omega (arith, (known (looked e) e.if-told-ne11.false).2)

pub returns : goal.returns
returns c =
    let e = (goal.at.returns c).Else-told-ne11 in
    let m = looked e in
    let x = told m in
    let size : x.path + x.size - (x.path + 8) ≡ x.size - 8 = omega (arith, (known m e.if-told-ne11.false).1) in
    let path : take (x.path + x.size - (x.path + 8)) (drop (x.path + 8) (d m)) ≡ part (x.path + 8) (x.size - 8) (d m) =
    ap (λ (n : ℕ). take n (drop (x.path + 8) (d m))) size in
    ap Ok c.choose.ensures ∙ ap₂ (lookup m) path c.key_at-target.ensures
    ∙ sym (by m (LookupBy Err (lookup m) (d m)) (lookup-by Err (lookup m) (d m)) e.if-told-ne11.false)
