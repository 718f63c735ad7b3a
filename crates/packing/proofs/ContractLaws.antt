-- Theorems of the functions' own contracts: `Post` is what a function's `ensures` says of its arguments a, its result r and its parameters at exit s.
-- In this order: two results coincide; what `pack` wrote, `unpack` reads; what `unpack` read, `pack` writes. Assumes nothing.
use Prim.Native.Nat.{ℕ, ◌≤◌}
use mathlib.Core.Path.{◌≡◌, sym, ap, ap₂, ◌∙◌}
use lib.ListN.{length, take}
use contract.Lifetimes.{Lfts}
use borrow.Fn.World.{ArgsD, ResD}
use denote.Triple.Clauses.{AtExit}
use Rattle.std.specs.Prelude.{Ok}
use Rattle.octet.specs.Number.{Bytes}
use Rattle.octet.specs.Part.{splice}
use Rattle.readings.specs.Unpack.{unpack_of}
use Rattle.readings.specs.Pack.{pack_handed, pack_of}
use Rattle.readings.specs.declared.Reading.{Reading}
use Rattle.readings.proofs.Theorems.{packed_reads, unpacked_writes}
use Rattle.packing.specs.contracts.packing.pack as packing
use Rattle.packing.proofs.packing.pack.Reads as packed
use Rattle.packing.specs.contracts.unpacking.unpack as unpacking
use Rattle.packing.proofs.unpacking.unpack.Reads as unpacked
use Rattle.readings.specs.contracts.balance as balancing
use Rattle.readings.proofs.balance.Reads as balanced

pub unpack_coincides : (κs : Lfts 1) (a : ArgsD unpacking.signature κs) (r r' : ResD unpacking.signature κs) (s s' : AtExit unpacking.ended κs)
    → unpacked.Post κs a r s → unpacked.Post κs a r' s' → r ≡ r'
unpack_coincides κs a r r' s s' p q = p ∙ sym q

pub pack_coincides : (κs : Lfts 1) (a : ArgsD packing.signature κs) (r r' : ResD packing.signature κs) (s s' : AtExit packing.ended κs)
    → packed.Post κs a r s → packed.Post κs a r' s' → pack_handed r s.1.0.now ≡ pack_handed r' s'.1.0.now
pack_coincides κs a r r' s s' p q = p.0 ∙ sym q.0

pub balance_coincides : (κs : Lfts 0) (a : ArgsD balancing.signature κs) (r r' : ResD balancing.signature κs) (s s' : AtExit balancing.ended κs)
    → balanced.Post κs a r s → balanced.Post κs a r' s' → r ≡ r'
balance_coincides κs a r r' s s' p q = p ∙ sym q

pub packed_unpacks : (κs : Lfts 1) (a : ArgsD packing.signature κs) (n : ℕ) (s : AtExit packing.ended κs) → packed.Post κs a (Ok n) s
    → (κs' : Lfts 1) (b : ArgsD unpacking.signature κs') (u : ResD unpacking.signature κs') (t : AtExit unpacking.ended κs')
    → b.0.now ≡ take n s.1.0.now → unpacked.Post κs' b u t → u ≡ Ok a.0
packed_unpacks κs a n s p κs' b u t e q =
    packed_reads a.0 p.1 a.1.0.now s.1.0.now n p.0 u (q ∙ ap unpack_of e)

pub unpacked_packs : (κs : Lfts 1) (a : ArgsD unpacking.signature κs) (r : Reading) (s : AtExit unpacking.ended κs) → unpacked.Post κs a (Ok r) s
    → Bytes a.0.now → (κs' : Lfts 1) (b : ArgsD packing.signature κs') (w : ResD packing.signature κs') (t : AtExit packing.ended κs')
    → b.0 ≡ r → length a.0.now ≤ length b.1.0.now → packed.Post κs' b w t
    → pack_handed w t.1.0.now ≡ pack_handed (Ok (length a.0.now)) (splice 0 a.0.now b.1.0.now)
unpacked_packs κs a r s p bytes κs' b w t e room q =
    let out = b.1.0.now in
    let all = unpacked_writes a.0.now bytes r p out t.1.0.now w room (q.0 ∙ ap (λ (x : Reading). pack_of x out) e) in
    ap₂ pack_handed all.0 all.1
