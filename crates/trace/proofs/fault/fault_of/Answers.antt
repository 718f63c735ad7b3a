-- `trace::fault::fault_of` meets its contract. Assumes nothing.
use mathlib.Core.Path.{◌≡◌, sym, ap, ◌∙◌}
use Prim.Native.Nat.{ℕ, ◌+◌, ◌-◌, ◌≤◌}
use lib.ListN.{length}
use borrow.Author.Rules.{rules}
use Rattle.refusal.specs.Table.{first_of}
use Rattle.trace.specs.Fault.{misplaced}
use Rattle.trace.specs.Trace.{length_of, kind_of, body_fits, is_kind}
use Rattle.trace.proofs.FaultLaws.{fault-short, fault-cut, fault-body, fault-kind, fault-placed}
use Rattle.trace.proofs.fault.fault_of.Goals.{After-body_fits, After-is_kind, Else-len-told}
use Rattle.trace.proofs.fault.fault_of.Goals as goal

-- behind the second test: the record is whole, and has a kind
whole : (c : Else-len-told) → (let r = c.args.piece.now in (length r ≡ 2 + length_of r) × (4 ≤ length r))
whole c = (c.if-len-told.false ∙ ap (λ (n : ℕ). 2 + n) c.read_u16_le-told.ensures, search rules)

fitted : (c : After-body_fits) → (let r = c.args.piece.now in c.body_fits.result ≡ body_fits (kind_of r) (length r - 4))
fitted c = c.body_fits.ensures ∙ ap (λ (k : ℕ). body_fits k (length c.args.piece.now - 4)) c.read_u16_le-kind.ensures

known : (c : After-is_kind) → c.is_kind.result ≡ is_kind (kind_of c.args.piece.now)
known c = c.is_kind.ensures ∙ ap is_kind c.read_u16_le-kind.ensures

pub returns-then-len-lt4 : goal.returns-then-len-lt4
returns-then-len-lt4 c = fault-short _ _ c.if-len-lt4.true

pub returns-then-len-told : goal.returns-then-len-told
returns-then-len-told c = fault-cut _ _ (λ e. c.if-len-told.true (e ∙ ap (λ (n : ℕ). 2 + n) (sym c.read_u16_le-told.ensures)))

pub returns-then-not-body_fits : goal.returns-then-not-body_fits
returns-then-not-body_fits c =
    let s = whole (goal.at.returns-then-not-body_fits c).Else-len-told in
    fault-body _ _ s.0 s.1 (sym (fitted (goal.at.returns-then-not-body_fits c).After-body_fits) ∙ c.if-not-body_fits.true)

pub returns-then-not-is_kind : goal.returns-then-not-is_kind
returns-then-not-is_kind c =
    let s = whole (goal.at.returns-then-not-is_kind c).Else-len-told in
    fault-kind _ _ s.0 s.1 (sym (fitted (goal.at.returns-then-not-is_kind c).After-body_fits) ∙ c.if-not-body_fits.false)
    (sym (known (goal.at.returns-then-not-is_kind c).After-is_kind) ∙ c.if-not-is_kind.true)

pub returns : goal.returns
returns c =
    let s = whole (goal.at.returns c).Else-len-told in
    c.misplaced.ensures ∙ ap (λ (k : ℕ). first_of (misplaced c.args.at k)) c.read_u16_le-kind.ensures
    ∙ fault-placed _ _ s.0 s.1 (sym (fitted (goal.at.returns c).After-body_fits) ∙ c.if-not-body_fits.false)
    (sym (known (goal.at.returns c).After-is_kind) ∙ c.if-not-is_kind.false)
