use mathlib.Core.Path.{◌≡◌, refl, sym, ap₂, ◌∙◌}
use mathlib.Core.Bool.{true}
use Prim.Native.Nat.{◌+◌, ◌*◌, ◌<◌}
use native.Mathlib.Omega.{arith}
use lib.ListN.{get_or, drop}
use Rattle.octet.specs.Part.{part, same}
use Rattle.octet.proofs.PartLaws.{part_at}
use Rattle.path.specs.Path.{endpoint_address, on_path}
use Rattle.path.proofs.OnPathLaws.{address_lies, endpoint_lies, from_start, none_left, other-port, same-port, address-found, address-passed, addresses-end}
use Rattle.path.proofs.on_path.Goals.{After-equal_words-found, Then-found}
use Rattle.path.proofs.on_path.Goals as goal

-- of a comparison of two addresses: that there is such an address; what the comparison says
within : (e : After-equal_words-found)
    → (let a = e.args in e.loop-i.i < get_or (part a.at 100 a.s.now) 34 0)
within e = let a = e.args in omega (arith, e.loop-i-test.true, part_at a.at 100 34 a.s.now (omega arith))

compared : (e : After-equal_words-found)
    → (let a = e.args in
    same (part (16 * e.loop-i.i) 16 (drop 36 (part a.at 100 a.s.now)))
    (endpoint_address (part (18 * e.path.k) 18 a.path.now)))
    ≡ e.equal_words-found.result
compared e =
    let a = e.args in
    let i = e.loop-i.i in
    let there : e.equal_words-found.result ≡ same (part (a.at + 36 + 16 * i) 16 a.s.now) (part (18 * e.path.k + 2) 16 a.path.now) =
    e.equal_words-found.ensures in
    ap₂ same (address_lies a.at i a.s.now (omega (arith, e.loop-i-test.true, e.requires.1)))
    (endpoint_lies (18 * e.path.k) a.path.now)
    ∙ sym there

-- at the first match
found_here : (c : Then-found)
    → (c.equal_words-found.result ≡ true)
    × (let a = c.args in on_path (part a.at 100 a.s.now) a.path.now ≡ true)
found_here c =
    let e = (goal.at.Then-found c).After-equal_words-found in
    let a = e.args in (
      c.if-found.true,
      e.loop-i.invariant.2
          ∙ address-found (part a.at 100 a.s.now) a.path.now (part (18 * e.path.k) 18 a.path.now) (e.path.k + 1)
          e.loop-i.i (within e) (compared e ∙ c.if-found.true),
    )

pub path-init : goal.path-init
path-init c = let a = c.args in (refl, omega arith, from_start (part a.at 100 a.s.now) a.path.now)

pub loop-i-init : goal.loop-i-init
loop-i-init c =
    let a = c.args in
    let r = part a.at 100 a.s.now in (
      c.path.invariant.0,
      omega arith,
      c.path.invariant.2 ∙ same-port r a.path.now c.path.k c.path-test.true (sym c.same_port.ensures ∙ c.if-same_port.true),
    )

pub path-preserved-in-loop-i : goal.path-preserved-in-loop-i
path-preserved-in-loop-i c =
    let a = c.args in
    let r = part a.at 100 a.s.now in (
      c.loop-i.invariant.0,
      omega arith,
      c.loop-i.invariant.2
          ∙ addresses-end r a.path.now (part (18 * c.path.k) 18 a.path.now) (c.path.k + 1) c.loop-i.i
          (omega (arith, part_at a.at 100 34 a.s.now (omega arith))),
    )

pub equal_words-found-requires : goal.equal_words-found-requires
equal_words-found-requires c = record { n_in_bounds = omega arith; n_in_bounds_2 = omega arith }

pub loop-i-preserved : goal.loop-i-preserved
loop-i-preserved c =
    let e = (goal.at.loop-i-preserved c).After-equal_words-found in
    let a = e.args in (
      c.if-found.false,
      omega arith,
      e.loop-i.invariant.2
          ∙ address-passed (part a.at 100 a.s.now) a.path.now (part (18 * e.path.k) 18 a.path.now) (e.path.k + 1)
          e.loop-i.i (within e) (compared e ∙ c.if-found.false),
    )

pub path-preserved : goal.path-preserved
path-preserved c =
    let a = c.args in (
      c.path.invariant.0,
      omega arith,
      c.path.invariant.2
          ∙ other-port (part a.at 100 a.s.now) a.path.now c.path.k c.path-test.true
          (sym c.same_port.ensures ∙ c.if-same_port.false),
    )

pub returns-after-path : goal.returns-after-path
returns-after-path c =
    let a = c.args in
    c.path.invariant.0
    ∙ sym (c.path.invariant.2 ∙ none_left (part a.at 100 a.s.now) a.path.now c.path.k c.path-test.false)

pub returns-then-found : goal.returns-then-found
returns-then-found c = (found_here (goal.at.returns-then-found c).Then-found).0 ∙ sym (found_here (goal.at.returns-then-found c).Then-found).1
