-- `wire_buffer::is_whole` meets its contract: the two numbers stand in the four bytes at the place. Assumes nothing.
use Prim.Native.Nat.{ℕ, ◌+◌, ◌-◌}
use borrow.Author.Tests.{eq-eqb, ne_eqb}
use native.Mathlib.Omega.{arith}
use mathlib.Core.List.{List}
use mathlib.Core.Path.{◌≡◌, sym, ap, subst, ◌∙◌}
use lib.Dec.{eqb}
use lib.ListN.{length}
use Rattle.wire_shapes.specs.Field.{number_at}
use Rattle.wire_fields.specs.Reading.{whole_in, FourAt}
use Rattle.std.specs.Prelude.{Some}
use Rattle.wire_fields.specs.Places.{Part}
use Rattle.wire_fields.specs.declared.Place.{Place}
use Rattle.wire_fields.proofs.RefusalLaws.{whole_in_lem}
use Rattle.wire_buffer.proofs.is_whole.Goals as goal

pub returns-in_default : goal.returns-in_default
unfolding whole_in
returns-in_default c = rw c.in_default.is

-- the part that was lent is at a place, and the four bytes are there
four : (d : List ℕ) (p : Part) (o : Place) → p ≡ Some o → FourAt d p → FourAt d (Some o)
four d p o e h = subst (FourAt d) e h

pub read_u16-requires : goal.read_u16-requires
read_u16-requires c = let f = four c.args.d.now _ _ c.in-Some.is c.requires in omega (arith, f.0, f.1)

pub overflow_add-place : goal.overflow_add-place
overflow_add-place c = let f = four c.args.d.now _ _ c.in-Some.is c.requires in omega (arith, f.1)

pub overflow_sub-d : goal.overflow_sub-d
overflow_sub-d c = let f = four c.args.d.now _ _ c.in-Some.is c.requires in omega (arith, f.1)

pub returns-then-read_u16-d : goal.returns-then-read_u16-d
returns-then-read_u16-d c =
    let d = c.args.d.now in
    let f = four d _ _ c.in-Some.is c.requires in
    let s = c.in-Some.place.start in
    let l = c.in-Some.place.len in
    let n = ne_eqb (number_at s 2 d) (length d - (s + l)) (λ q. c.if-read_u16-d.true (c.read_u16.ensures ∙ q)) in
    rw (c.in-Some.is, whole_in_lem d c.in-Some.place f.1 f.0, n)

pub overflow_add-place-2 : goal.overflow_add-place-2
overflow_add-place-2 c = let f = four c.args.d.now _ _ c.in-Some.is c.requires in omega (arith, f.0, f.1)

pub read_u16-requires-2 : goal.read_u16-requires-2
read_u16-requires-2 c = let f = four c.args.d.now _ _ c.in-Some.is c.requires in omega (arith, f.0, f.1)

pub returns : goal.returns
returns c =
    let d = c.args.d.now in
    let f = four d _ _ c.in-Some.is c.requires in
    let s = c.in-Some.place.start in
    let l = c.in-Some.place.len in
    let e = eq-eqb (number_at s 2 d) (length d - (s + l)) (sym c.read_u16.ensures ∙ c.if-read_u16-d.false) in
    rw (c.in-Some.is, whole_in_lem d c.in-Some.place f.1 f.0, e)
    (ap (λ (n : ℕ). eqb n 0) c.read_u16-2.ensures)
