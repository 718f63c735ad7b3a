-- `key::same_at` meets its contract: lists of bytes of one length are the same where their numbers are. Assumes nothing.
use Rattle.std.proofs.Common.{sym, ◌∙◌, arith}
use Rattle.octet.specs.Number.{Digits}
use Rattle.octet.specs.Part.{part}
use Rattle.octet.proofs.PartLaws.{part-digits, length_part}
use Rattle.key.proofs.PlaceLaws.{same_value}
use Rattle.key.proofs.ordered.same_at.Goals as goal

pub returns : goal.returns
returns c =
    let known2 = c in
    let known = c in
    let args = known.args in
    let s = args.s.now in
    let t = args.t.now in
    let a = args.a in
    let b = args.b in
    let ds : Digits 256 s = λ i. omega (arith, known.type_inv.s i) in
    let dt : Digits 256 t = λ i. omega (arith, known2.type_inv.t i) in
    c.equal_words.ensures
    ∙ same_value 256 (part a 32 s) (part b 32 t) (part-digits 256 a 32 s (omega arith) ds) (part-digits 256 b 32 t (omega arith) dt)
    (length_part a 32 s (omega arith) ∙ sym (length_part b 32 t (omega arith)))
