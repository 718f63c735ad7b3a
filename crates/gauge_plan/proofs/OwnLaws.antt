-- Laws of own records in form: the one of a place lies within what is lent, is one of them and in form. Assumes nothing.
use mathlib.Core.Path.{◌≡◌, refl, ap, subst, ◌∙◌}
use mathlib.Core.Bool.{true}
use mathlib.Core.List.{List, [], ◌∷◌}
use mathlib.Core.Logic.{inl, inr}
use Prim.Native.Nat.{ℕ, zero, suc, ◌+◌, ◌*◌, ◌/◌, ◌≤◌, ◌<◌}
use native.Mathlib.Omega.{arith}
use lib.ListN.{length, get_or}
use Rattle.record.specs.Record.{record_form}
use Rattle.own.specs.Own.{own_form, own_keys, own_records, own_record, own_place, IsOwn}
use Rattle.own.proofs.FormLaws.{own_formed}
use Rattle.own.proofs.PlaceLaws.{place_below}
use Rattle.table.proofs.RowLaws.{rows-length, row_at}
use Rattle.kept.specs.Keys.{◌∈◌, Every}

pub place_within : (own : List ℕ) (k : ℕ) → IsOwn (own_keys own) k → own_place (own_keys own) k < length (own_records own)
place_within own k o = omega (arith, place_below own k o, rows-length 100 (length own / 100) own)

at_in : (rs : List (List ℕ)) (i : ℕ) → i < length rs → get_or rs i [] ∈ rs
at_in [] i h = absurd (omega arith)
at_in (r ∷ rs) zero h = inl refl
at_in (r ∷ rs) (suc i) h = inr (at_in rs i (omega arith))

pub formed_in : (rs : List (List ℕ)) → Every (λ (r : List ℕ). record_form r ≡ true) rs → (r : List ℕ) → r ∈ rs → record_form r ≡ true
formed_in [] a r m = absurd m
formed_in (q ∷ rs) a r (inl e) = ap record_form e ∙ a.0
formed_in (q ∷ rs) a r (inr m) = formed_in rs a.1 r m

module _ (own : List ℕ) (owned : own_form own ≡ true) (i : ℕ) (within : i < length (own_records own)) where
  few : i < length own / 100
  few = omega (arith, within, rows-length 100 (length own / 100) own)

  pub record-room : 100 * i + 100 ≤ length own
  record-room = omega (arith, few, (own_formed own owned).many)

  pub record_in : own_record own i ∈ own_records own
  record_in = subst (λ (r : List ℕ). r ∈ own_records own) (row_at 100 (length own / 100) own i few) (at_in (own_records own) i within)

  pub record-formed : record_form (own_record own i) ≡ true
  record-formed = formed_in (own_records own) (own_formed own owned).formed (own_record own i) record_in
