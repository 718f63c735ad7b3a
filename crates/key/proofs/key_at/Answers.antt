-- `key::key_at` meets its contract: the four words are the groups of eight bytes. Assumes nothing.
use Rattle.std.proofs.Common.{◌≡◌, ℕ, ◌+◌, ◌^◌, [], ◌∷◌, ap, ◌∙◌, add_assoc, arith}
use Rattle.octet.specs.Number.{value_be}
use Rattle.octet.specs.Part.{part}
use Rattle.octet.proofs.BigLaws.{groups_be, value_be_groups}
use Rattle.key.specs.Number.{number}
use Rattle.key.proofs.key_at.Goals as goal

pub returns : goal.returns
unfolding number groups_be
returns c =
    let at-start = c in
    let at = at-start.args.at in
    let s = at-start.args.s.now in
    let e2 : at + 8 + 8 ≡ at + 16 = add_assoc at 8 8 in
    let e3 : at + 8 + 8 + 8 ≡ at + 24 = ap (λ (k : ℕ). k + 8) e2 ∙ add_assoc at 16 8 in
    let word : ℕ → ℕ = λ (p : ℕ). value_be 256 (part p 8 s) in
    let g : value_be (2 ^ 64) (word at ∷ word (at + 8) ∷ word (at + 8 + 8) ∷ word (at + 8 + 8 + 8) ∷ []) ≡ value_be 256 (part at 32 s) =
    value_be_groups 256 8 4 at s (omega arith) in
    cc
