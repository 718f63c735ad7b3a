-- A slice after the part of it from a place on was lent to be changed. Assumes nothing.
use mathlib.Core.Path.{◌≡◌, sym, ap, ap₂, ◌∙◌}
use Prim.Native.Nat.{ℕ, ◌+◌, ◌-◌, ◌≤◌}
use native.Mathlib.Omega.{arith}
use mathlib.Core.List.{List, [], ◌++◌, append_assoc, append-nil}
use lib.ListN.{length, take, drop, drop_of_length-le, length-drop}
use lib.Seq.{take_all, take-add, drop-drop}
use borrow.Rule.Slice.PartMut.{put_mid}
use Rattle.octet.specs.Part.{part, splice}

pub put_lent : (at j : ℕ) (b old new : List ℕ) → at + j + length b ≤ length old → new ≡ splice j b (take (length old - at) (drop at old))
    → put_mid at (length old - at) old new ≡ splice (at + j) b old
unfolding splice
put_lent at j b old new h e =
    let rest : List ℕ = drop at old in
    let all : take (length old - at) rest ≡ rest = take_all (length old - at) rest (omega (arith, length-drop at old)) in
    let none : drop (length old - at) rest ≡ [] = drop_of_length-le rest {i = length old - at} (omega (arith, length-drop at old)) in
    let place : at + j + length b ≡ at + (j + length b) = omega arith in
    let behind : drop (at + j + length b) old ≡ drop (j + length b) rest = ap (λ (k : ℕ). drop k old) place ∙ sym (drop-drop (j + length b) at old) in
    let front : take (at + j) old ≡ take at old ++ take j rest = take-add at j old in
    ap (λ (n : List ℕ). take at old ++ (n ++ drop (length old - at) rest)) (e ∙ ap (splice j b) all)
    ∙ ap (λ (l : List ℕ). take at old ++ (splice j b rest ++ l)) none
    ∙ ap (λ (l : List ℕ). take at old ++ l) (append-nil (splice j b rest))
    ∙ sym (ap₂ (λ (x y : List ℕ). x ++ b ++ y) front behind ∙ simp append_assoc)

-- a part of what is lent
pub part_lent : (at j n : ℕ) (old : List ℕ) → at + j + n ≤ length old → part j n (take (length old - at) (drop at old)) ≡ part (at + j) n old
part_lent at j n old h =
    let all : take (length old - at) (drop at old) ≡ drop at old = take_all (length old - at) (drop at old) (omega (arith, length-drop at old)) in
    ap (part j n) all ∙ ap (take n) (drop-drop j at old)
