use mathlib.Core.Path.{refl, sym, ap, ◌∙◌}
use mathlib.Core.List.{List, reverse}
use Prim.Native.Nat.{ℕ, ◌+◌, ◌*◌, ◌≤◌}
use native.Mathlib.Nat.{zero-add}
use lib.ListN.{length, take}
use lib.Seq.{take_all}
use Rattle.octet.specs.Number.{Bytes}
use Rattle.octet.specs.Part.{part, splice}
use Rattle.octet.proofs.PartLaws.{splice_nil}
use Rattle.table.specs.Rows.{rows}
use Rattle.kept.specs.Turned.{turned}
use Rattle.key.specs.Number.{key_at}
use Rattle.cache.specs.Form.{keys_of}
use Rattle.neighbours.specs.Listing.{key_bytes}
use Rattle.neighbours.proofs.ListLaws.{key-digits, write_turn, down-length, down_key}
use native.Mathlib.Omega.{arith}
use Rattle.neighbours.proofs.listing.keys_down.Goals as goal

pub loop-i-init : goal.loop-i-init
unfolding key_bytes
loop-i-init c = (refl, sym (splice_nil 0 c.args.out.now))

pub loop-i-preserved : goal.loop-i-preserved
loop-i-preserved c =
    let at-wrap = c in
    let l = c in
    let a = l.args in
    let i = l.loop-i.i in
    let s = a.cache.now in
    let p = 100 * at-wrap.wrap-start.result in
    let inside : p + 32 ≤ length s = omega (arith, at-wrap.wrap-start.ensures.1) in
    let bytes : Bytes s = λ j. omega (arith, l.type_inv.cache j) in
    let row = key-digits p s bytes inside in (
      omega (arith, c.copy_block.auto.dst, l.loop-i.invariant.0),
      c.copy_block.ensures ∙ ap (λ (k : ℕ). splice k (part p 32 s) l.loop-i.out) (sym (zero-add (32 * i)))
          ∙ write_turn 0 i _ (take a.n (reverse (turned a.from (keys_of (rows 100 a.used a.cache.now))))) _ a.out.now l.loop-i.out
          (omega
          (arith, down-length a.used s a.from a.n (omega arith)))
          (down_key a.used s a.from a.n i (omega arith) (omega arith) (omega arith)
          ∙ ap (λ (k : ℕ). key_at (100 * k) s) (sym at-wrap.wrap-start.ensures.0)) row l.loop-i.invariant.1 (omega arith),
    )

pub shape_of-out : goal.shape_of-out
shape_of-out c = c.loop-i.invariant.0

pub returns : goal.returns
returns c =
    let l = c in
    let a = l.args in
    l.loop-i.invariant.1
    ∙ ap (λ (t : List ℕ). splice 0 (key_bytes t) a.out.now)
    (take_all l.loop-i.i (take a.n (reverse (turned a.from (keys_of (rows 100 a.used a.cache.now))))) (omega (
      arith,
      down-length a.used a.cache.now a.from a.n (omega arith),
    )))
