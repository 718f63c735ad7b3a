use mathlib.Core.Path.{sym, ap}
use Prim.Native.Nat.{ℕ}
use lib.Dec.{eqb}
use Rattle.wire_shapes.specs.Shapes.{has_shape}
use Rattle.octet.proofs.PartLaws.{length_part}
use Rattle.wire_shapes.proofs.contents.has_shape.Goals as goal

pub returns-in-Sized : goal.returns-in-Sized
unfolding has_shape
returns-in-Sized c =
    let a = c.args in
    rw c.in-Sized.is
    (ap (λ (k : ℕ). eqb k c.in-Sized.n) (sym (length_part a.start a.len a.d.now c.requires)))

pub returns-in-Any : goal.returns-in-Any
unfolding has_shape
returns-in-Any c = rw c.in-Any.is

pub returns-in-Entry : goal.returns-in-Entry
unfolding has_shape
returns-in-Entry c = rw c.in-Entry.is c.is_entry.ensures

pub returns-in-Lookup : goal.returns-in-Lookup
unfolding has_shape
returns-in-Lookup c = rw c.in-Lookup.is c.is_lookup.ensures

pub returns-in-Split : goal.returns-in-Split
unfolding has_shape
returns-in-Split c = rw c.in-Split.is c.is_split.ensures

pub returns-in-Array : goal.returns-in-Array
unfolding has_shape
returns-in-Array c = rw c.in-Array.is c.is_array.ensures
