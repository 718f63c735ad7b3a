-- `plan_answer::plan_inquire` meets its contract: each return is one `rw` of its tests. Assumes nothing.
use mathlib.Core.Path.{◌≡◌, refl, sym, ap, ◌∙◌}
use mathlib.Core.Bool.{true}
use mathlib.Core.List.{List}
use Prim.Native.Nat.{ℕ, ◌+◌, ◌≤◌}
use native.Mathlib.Omega.{arith}
use lib.ListN.{length}
use borrow.Author.Tests.{not-true, not-false, lt-ltb, le-ltb}
use Rattle.key.specs.Number.{key_at}
use Rattle.own.specs.Own.{own_keys, own_records, own_place, is_own}
use Rattle.own.proofs.PlaceLaws.{own_in}
use Rattle.refusal.specs.Table.{or_refuse}
use Rattle.cpas.specs.Cpas.{cpa_of}
use Rattle.cpas.proofs.CpaLaws.{cpa_length}
use Rattle.gauge_plan.specs.declared.Plan.TheVariants.{Certify}
use Rattle.plan_answer.specs.Answering.{inquire_plan}
use Rattle.plan_answer.proofs.plan_inquire.Goals.{After-cpa_at-cpa, Else-not-is_own, Start}
use Rattle.plan_answer.proofs.plan_inquire.Goals as goal

abbrev start : After-cpa_at-cpa → Start
start c = (goal.at.After-cpa_at-cpa c).Start

-- the CPA of the key's own record, and how long it is
abbrev ours : After-cpa_at-cpa → List ℕ
ours c = let a = (start c).args in cpa_of (own_place (own_keys a.own.now) (key_at a.validate a.d.now)) a.cpas.now

found : (c : After-cpa_at-cpa) → length c.cpa_at-cpa.result.now ≡ length (ours c)
found c = ap length (c.cpa_at-cpa.ensures ∙ ap (λ (i : ℕ). cpa_of i (start c).args.cpas.now) c.place_of-at.ensures.value)

few : (c : After-cpa_at-cpa) → length c.cpa_at-cpa.result.now ≤ 1024
few c =
    let s = start c in
    let p = c in
    omega (
      arith,
      ap length c.cpa_at-cpa.ensures,
      (cpa_length (length (own_records s.args.own.now)) p.place_of-at.result s.args.cpas.now
          p.place_of-at.ensures.upper_bound s.requires.1).1,
    )

pub is_own-requires : goal.is_own-requires
is_own-requires c =
    let s = c in
    s.requires.2

pub returns-then-not-is_own : goal.returns-then-not-is_own
unfolding inquire_plan or_refuse
returns-then-not-is_own c = rw (sym c.is_own.ensures ∙ c.if-not-is_own.true) refl

is_ours : (e : Else-not-is_own) → (let a = e.args in is_own (own_keys a.own.now) (key_at a.validate a.d.now)) ≡ true
is_ours e = sym e.is_own.ensures ∙ e.if-not-is_own.false

pub place_of-at-requires : goal.place_of-at-requires
place_of-at-requires c =
    let s = c in
    record { at_in_bounds = s.requires.2; own = own_in (own_keys s.args.own.now) (key_at s.args.validate s.args.d.now) (is_ours (goal.at.place_of-at-requires c).Else-not-is_own) }

pub cpa_at-cpa-requires : goal.cpa_at-cpa-requires
cpa_at-cpa-requires c =
    let s = c in
    (length (own_records s.args.own.now), c.place_of-at.ensures.upper_bound, s.requires.1)

pub overflow_add-cpa : goal.overflow_add-cpa
overflow_add-cpa c = omega (arith, few (goal.at.overflow_add-cpa c).After-cpa_at-cpa)

pub returns-then-room-cpa : goal.returns-then-room-cpa
unfolding inquire_plan or_refuse
returns-then-room-cpa c =
    let p = (goal.at.returns-then-room-cpa c).After-cpa_at-cpa in
    let a = (start p).args in
    rw (is_ours (goal.at.After-cpa_at-cpa p).Else-not-is_own, lt-ltb a.room (40 + length (ours p)) (omega (arith, c.if-room-cpa.true, found p))) refl

pub returns : goal.returns
unfolding inquire_plan or_refuse
returns c =
    let p = (goal.at.returns c).After-cpa_at-cpa in
    let a = (start p).args in
    ap (Certify a.acked) p.place_of-at.ensures.value
    ∙ rw (is_ours (goal.at.After-cpa_at-cpa p).Else-not-is_own, le-ltb a.room (40 + length (ours p)) (omega (arith, c.if-room-cpa.false, found p))) refl
