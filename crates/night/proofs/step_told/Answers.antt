-- `night::step_told` meets its contract. Assumes nothing.
use mathlib.Core.Path.{◌≡◌, sym, ap, ◌∙◌}
use Prim.Native.Nat.{◌≤◌}
use native.Mathlib.Omega.{arith}
use lib.ListN.{length}
use Rattle.refusal.specs.Table.{first_of}
use Rattle.trace.specs.Fault.{faults}
use Rattle.night.specs.Step.{night_in, state_len}
use Rattle.trace.proofs.FaultLaws.{good-record}
use Rattle.night.proofs.CallLaws.{opening_unfit, opening-fits, opening-back}
use Rattle.night.proofs.ToldLaws.{zeros-enough, refuses-state, refuses-output, refuses-record, body-fits, opening-length, opens, makes}
use borrow.Author.Rules.{rules}
use Rattle.night.proofs.step_told.Goals.{Else-bad-ne0}
use Rattle.night.proofs.step_told.Goals as goal

-- behind the third test: both slices have their length, the record is good
fit : (c : Else-bad-ne0) → length c.args.state.now ≡ state_len
fit c = c.if-state-ne-STATE.false

wide : (c : Else-bad-ne0) → length c.args.output.now ≡ 2464
wide c = c.if-room-ne-OUTPUT.false

fits-so : (c : Else-bad-ne0) → length (night_in c.args.state.now).opening ≡ 102
fits-so c = opening-fits c.args.state.now (fit c)

clean : (c : Else-bad-ne0) → first_of (faults c.args.at c.args.piece.now) ≡ 0
clean c = sym c.fault_of-bad.ensures ∙ c.if-bad-ne0.false

kinded : (c : Else-bad-ne0) → 4 ≤ length c.args.piece.now
kinded c = (good-record _ _ (clean c)).0

pub returns-then-state-ne-STATE : goal.returns-then-state-ne-STATE
returns-then-state-ne-STATE c =
    let a = c.args in
    refuses-state a.output.now _ c.clear.ensures a.at (night_in a.state.now) a.piece.now _
    c.number_alone.ensures (opening_unfit a.state.now c.if-state-ne-STATE.true)

pub returns-then-room-ne-OUTPUT : goal.returns-then-room-ne-OUTPUT
returns-then-room-ne-OUTPUT c =
    let a = c.args in
    refuses-output a.output.now _ c.clear.ensures a.at (night_in a.state.now) a.piece.now _
    (opening-fits a.state.now c.if-state-ne-STATE.false) c.number_alone-then-room-ne-OUTPUT.ensures c.if-room-ne-OUTPUT.true

pub returns-then-bad-ne0 : goal.returns-then-bad-ne0
returns-then-bad-ne0 c =
    let a = c.args in
    refuses-record a.output.now _ c.clear.ensures a.at (night_in a.state.now) a.piece.now _
    (opening-fits a.state.now c.if-state-ne-STATE.false) c.if-room-ne-OUTPUT.false _ c.number_alone-then-bad-ne0.ensures
    c.fault_of-bad.ensures c.if-bad-ne0.true

pub read_u16_le-kind-requires : goal.read_u16_le-kind-requires
read_u16_le-kind-requires c = kinded (goal.at.read_u16_le-kind-requires c).Else-bad-ne0

pub slice_bounds-copy_to-count : goal.slice_bounds-copy_to-count
slice_bounds-copy_to-count c = kinded (goal.at.slice_bounds-copy_to-count c).Else-bad-ne0

pub slice_bounds-copy_to-start : goal.slice_bounds-copy_to-start
slice_bounds-copy_to-start c = kinded (goal.at.slice_bounds-copy_to-start c).Else-bad-ne0

pub copy_to-requires : goal.copy_to-requires
copy_to-requires c =
    let i = (goal.at.copy_to-requires c).Else-bad-ne0 in
    let a = c.args in
    let l =
    opening-length a.at a.piece.now (clean i) _ c.read_u16_le-kind.ensures c.if-kind-eq4.true in
    omega (arith, l, fit i)

pub returns-then-kind-eq4 : goal.returns-then-kind-eq4
returns-then-kind-eq4 c =
    let i = (goal.at.returns-then-kind-eq4 c).Else-bad-ne0 in
    let a = c.args in
    let n = night_in a.state.now in
    let known = c.read_u16_le-kind.ensures in
    opens a.output.now _ c.clear.ensures a.at n a.piece.now _ (fits-so i) (wide i) (clean i) _ known
    c.number_alone-then-kind-eq4.ensures c.if-kind-eq4.true _
    (ap night_in c.copy_to.ensures
    ∙ opening-back a.state.now (fit i) _ (opening-length a.at a.piece.now (clean i) _ known c.if-kind-eq4.true))

pub slice_bounds-make-count : goal.slice_bounds-make-count
slice_bounds-make-count c = kinded (goal.at.slice_bounds-make-count c).Else-bad-ne0

pub slice_bounds-make-start : goal.slice_bounds-make-start
slice_bounds-make-start c = kinded (goal.at.slice_bounds-make-start c).Else-bad-ne0

pub make-requires : goal.make-requires
make-requires c =
    let i = (goal.at.make-requires c).Else-bad-ne0 in
    let a = c.args in
    let whole = body-fits a.at a.piece.now (clean i) _ c.read_u16_le-kind.ensures in
    record { state_len = fit i; body_value = whole; output_value = zeros-enough a.output.now _ c.clear.ensures (wide i) }

pub returns : goal.returns
returns c =
    let i = (goal.at.returns c).Else-bad-ne0 in
    let a = c.args in
    makes a.at (night_in a.state.now) a.piece.now (length a.output.now) (fits-so i) (wide i) (clean i) _
    c.read_u16_le-kind.ensures c.if-kind-eq4.false _ c.make.ensures
