-- What is proved of readings. Assumes nothing.
use mathlib.Core.Path.{refl, sym, ap, ◌∙◌}
use Prim.Native.Nat.{ℕ}
use native.Mathlib.Omega.{arith}
use mathlib.Core.List.{List}
use lib.IntN.{pos, -ℤ-+ℤ_cancel}
use lib.ListN.{length}
use Rattle.std.specs.Prelude.{Ok, Err}
use Rattle.octet.specs.Part.{splice}
use Rattle.refusal.specs.Table.{InOrder, by_number}
use Rattle.refusal.proofs.CallLaws.{refusal-keeps, call-exactly}
use Rattle.readings.specs.Reading.{image}
use Rattle.readings.specs.Unpack.{unpack_refusals, reading_in, unpack_of, unpack_number}
use Rattle.readings.specs.Pack.{PackHanded, pack_handed, pack_refusals, pack_of, pack_number}
use Rattle.readings.specs.Statements.{ReadingReadsBack, WritesBack, PackedReads, UnpackedWrites, NumbersBack, UnpackOne, PackOne, BalanceOne, UnpackExactly, PackExactly, RefusedKeeps, Depths, NegativeZero, Edges, Balanced, Balances}
use Rattle.readings.specs.declared.Reading.{Reading}
use Rattle.readings.proofs.EdgeLaws as edge
use Rattle.readings.proofs.NumberLaws as numbers
use Rattle.readings.proofs.PatternLaws.{patterns}
use Rattle.readings.proofs.RoundLaws as round

-- ---- there and back

pub reads_back : ReadingReadsBack
reads_back = round.reads_back

pub writes_back : WritesBack
writes_back = round.writes_back

pub packed_reads : PackedReads
packed_reads = round.packed_reads

pub unpacked_writes : UnpackedWrites
unpacked_writes = round.unpacked_writes

pub numbers_back : NumbersBack
numbers_back = numbers.numbers_back

-- ---- two results

pub unpack_one : UnpackOne
unpack_one s r r' p q = p ∙ sym q

pub pack_one : PackOne
pack_one r out left left' a a' p q = (ap (λ (h : PackHanded). h.answer) (p ∙ sym q), ap (λ (h : PackHanded). h.out) (p ∙ sym q))

pub balance_one : BalanceOne
balance_one i o b b' p q = p ∙ sym q

-- ---- refusals

unpack_order : (s : List ℕ) → InOrder by_number 1 (unpack_refusals s)
unfolding unpack_refusals
unpack_order s =
    (omega arith, omega arith, (omega arith, omega arith, (omega arith, omega arith, (omega arith, omega arith, (omega arith, omega arith, tt)))))

pub unpack_exactly : UnpackExactly
unfolding unpack_of
unpack_exactly s n p = call-exactly unpack_number Err (λ k. refl) (Ok (reading_in s)) refl (unpack_refusals s) 1 (unpack_order s) n p

module _ (r : Reading) (out : List ℕ) where
  pack-order : InOrder by_number 1 (pack_refusals r out)
  unfolding pack_refusals
  pack-order = (omega arith, omega arith, (omega arith, omega arith, tt))

  abbrev number : PackHanded → ℕ
  number h = pack_number h.answer

  abbrev refused : ℕ → PackHanded
  refused k = pack_handed (Err k) out

pub pack_exactly : PackExactly
unfolding pack_of
pack_exactly r out n p =
    call-exactly (number r out) (refused r out) (λ k. refl) (pack_handed (Ok (length (image r))) (splice 0 (image r) out)) refl (pack_refusals r out) 1
    (pack-order r out) n p

pub refused_keeps : RefusedKeeps
unfolding pack_of
refused_keeps r out p =
    refusal-keeps (number r out) (refused r out) (λ k. refl) (pack_handed (Ok (length (image r))) (splice 0 (image r) out)) refl
    (λ (h : PackHanded). h.out) out (λ k. refl) (pack_refusals r out) p

-- ---- depths

pub depths : Depths
depths = patterns

pub negative_zero : NegativeZero
negative_zero = edge.negative_zero

pub edges : Edges
edges = edge.edges

-- ---- the balance

pub balanced : Balanced
balanced i o = -ℤ-+ℤ_cancel (pos i) (pos o)

pub balances : Balances
balances = (refl, refl, refl)
