-- The statements of specs/Statements.antt, proved under the same names. Assumes nothing.
use Prim.Native.Nat.{ℕ}
use native.Mathlib.Omega.{arith}
use mathlib.Core.Path.{◌≡◌, refl, sym, ap, subst, ◌∙◌}
use mathlib.Core.Bool.{Bool, true, false, not, cond}
use mathlib.Core.List.{List, []}
use Rattle.refusal.specs.Table.{or_refuse}
use Rattle.own.specs.Own.{own_form, own_keys, own_records}
use Rattle.wire_read.specs.Answers.{read_in}
use Rattle.wire_read.specs.declared.Incoming.{Incoming}
use Rattle.wire_read.specs.declared.Incoming.TheVariants as M
use Rattle.wire_read.specs.declared.messages.Lookup as L
use Rattle.key.specs.Around.{closer}
use Rattle.record.specs.Record.{key_of}
use Rattle.kept.specs.Keys.{◌∈◌}
use Rattle.cache.specs.Form.{cache_form}
use Rattle.cache.specs.Calls.{held_by}
use Rattle.cache.proofs.FormLaws.{true_form}
use Rattle.neighbours.specs.Closest.{closest_of}
use Rattle.reason.specs.Because.{Because, only, First, Candidates}
use Rattle.reason.specs.Reason.{reason_of}
use Rattle.named.specs.Call.{Told, refused, named, named_past, answer_to, name_call}
use Rattle.named.specs.Statements.{target_of, candidates_of, NamedFor, NamesTruly}
use Rattle.closest_row.proofs.ClosestLaws as Near
use Rattle.reason.proofs.ReasonLaws.{reason-first}
use Rattle.reason.proofs.Theorems.{one_reason}
use Rattle.named.proofs.OwnedLaws.{candidates_are}

-- a refusal names nothing
number : Told → ℕ
number (refused n) = 0
number (named r b) = 1

not_named : {A : Type 0} {n : ℕ} {r : List ℕ} {b : Because} → refused n ≡ named r b → A
unfolding number
not_named e = absurd (let z : ◌≡◌ {A = ℕ} 0 1 = ap number e in omega arith)

-- what is named, told apart
shown_record : Told → List ℕ
shown_record (refused n) = []
shown_record (named r b) = r

shown_reason : Told → Because
shown_reason (refused n) = only
shown_reason (named r b) = b

named_for : (t : ℕ) (cands : List (List ℕ)) (r : List ℕ) (b : Because) → Candidates cands → named (closest_of t cands) (reason_of t cands) ≡ named r b
    → NamedFor t cands r b
unfolding shown_record shown_reason
named_for t cands r b w e =
    let er : closest_of t cands ≡ r = ap shown_record e in
    let eb : reason_of t cands ≡ b = ap shown_reason e in
    record {
      closest = sym er;
      candidate = subst (λ (z : List ℕ). z ∈ cands) er (Near.closest_in_lem t cands w.0);
      none-closer = λ q m. ap (λ (z : List ℕ). closer t (key_of q) (key_of z)) (sym er) ∙ Near.none-closer t cands q m;
      first = subst (First t cands) eb (reason-first t cands w);
      one = λ c f. (one_reason t cands w).1 c f ∙ eb;
    }

module _ (own cache : List ℕ) (major : ℕ) (d r : List ℕ) (b : Because) where
  -- of memory in form, by the message
  by-message : (a : Incoming) → own_form own ≡ true → cache_form (own_keys own) cache ≡ true
      → answer_to refused (named_past (own_records own) (held_by own cache)) d a ≡ named r b
      → (x : L.Lookup) × (a ≡ M.Lookup x) × NamedFor (target_of d x) (candidates_of own cache d x) r b
  unfolding answer_to
  by-message (M.Refused n) o f e = not_named e
  by-message (M.Solicit x) o f e = not_named e
  by-message (M.Advertise x) o f e = not_named e
  by-message (M.Request x) o f e = not_named e
  by-message (M.Flood x) o f e = not_named e
  by-message (M.Inquire x) o f e = not_named e
  by-message (M.Authority x) o f e = not_named e
  by-message (M.Ack x) o f e = not_named e
  by-message (M.Lookup x) o f e = (
    x,
    refl,
    named_for (target_of d x) (candidates_of own cache d x) r b (candidates_are own o (held_by own cache) _ (true_form (own_keys own) cache f).held) e,
  )

  by-memory : (o f : Bool) → own_form own ≡ o → cache_form (own_keys own) cache ≡ f
      → cond (not o) (refused 1) (cond (not f) (refused 1) (answer_to refused (named_past (own_records own) (held_by own cache)) d (read_in d major)))
      ≡ named r b
      → (x : L.Lookup) × (read_in d major ≡ M.Lookup x) × NamedFor (target_of d x) (candidates_of own cache d x) r b
  by-memory false f p q e = not_named e
  by-memory true false p q e = not_named e
  by-memory true true p q e = by-message (read_in d major) p q e

  by_call : name_call own cache major d ≡ named r b
      → (x : L.Lookup) × (read_in d major ≡ M.Lookup x) × NamedFor (target_of d x) (candidates_of own cache d x) r b
  unfolding name_call or_refuse
  by_call e = by-memory (own_form own) (cache_form (own_keys own) cache) refl refl e

pub names_truly : NamesTruly
names_truly own cache major d r b e = by_call own cache major d r b e
