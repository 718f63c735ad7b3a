-- What a message is answered with, by what is told of it (look, Seen): refused, another message, or a LOOKUP with its path and its target. Assumes nothing.
use Prim.Native.Nat.{ℕ, ◌+◌, ◌-◌}
use native.Mathlib.Omega.{arith}
use mathlib.Core.Path.{◌≡◌, refl}
use mathlib.Core.List.{List}
use Rattle.octet.specs.Part.{part}
use Rattle.key.specs.Number.{key_at}
use Rattle.wire_read.specs.declared.Incoming as T
use Rattle.wire_read.specs.declared.Incoming.TheVariants as M
use Rattle.look.specs.Seen.{look_of, brief_of}
use Rattle.look.specs.declared.Brief.{Brief}
use Rattle.named.specs.Call.{answer_to}

module _ {A : Type 0} (refuse : ℕ → A) (lookup : List ℕ → ℕ → A) (d : List ℕ) where
  abbrev pub RefusedBy : T.Incoming → Brief → Type 0
  RefusedBy a x = x.seen.kind ≡ 0 → answer_to refuse lookup d a ≡ refuse x.seen.number

  pub refused_by : (a : T.Incoming) → RefusedBy a (brief_of a)
  unfolding answer_to brief_of look_of
  refused_by (M.Refused n) e = refl
  refused_by (M.Solicit x) e = absurd (let z : ◌≡◌ {A = ℕ} 1 0 = e in omega arith)
  refused_by (M.Advertise x) e = absurd (let z : ◌≡◌ {A = ℕ} 2 0 = e in omega arith)
  refused_by (M.Request x) e = absurd (let z : ◌≡◌ {A = ℕ} 3 0 = e in omega arith)
  refused_by (M.Flood x) e = absurd (let z : ◌≡◌ {A = ℕ} 4 0 = e in omega arith)
  refused_by (M.Inquire x) e = absurd (let z : ◌≡◌ {A = ℕ} 7 0 = e in omega arith)
  refused_by (M.Authority x) e = absurd (let z : ◌≡◌ {A = ℕ} 8 0 = e in omega arith)
  refused_by (M.Ack x) e = absurd (let z : ◌≡◌ {A = ℕ} 9 0 = e in omega arith)
  refused_by (M.Lookup x) e = absurd (let z : ◌≡◌ {A = ℕ} 11 0 = e in omega arith)

  abbrev pub OtherBy : T.Incoming → Brief → Type 0
  OtherBy a x = (x.seen.kind ≡ 0 → ⊥) → (x.seen.kind ≡ 11 → ⊥) → answer_to refuse lookup d a ≡ refuse 7

  pub other_by : (a : T.Incoming) → OtherBy a (brief_of a)
  unfolding answer_to brief_of look_of
  other_by (M.Refused n) e f = absurd (e refl)
  other_by (M.Solicit x) e f = refl
  other_by (M.Advertise x) e f = refl
  other_by (M.Request x) e f = refl
  other_by (M.Flood x) e f = refl
  other_by (M.Inquire x) e f = refl
  other_by (M.Authority x) e f = refl
  other_by (M.Ack x) e f = refl
  other_by (M.Lookup x) e f = absurd (f refl)

  abbrev pub LookupBy : T.Incoming → Brief → Type 0
  LookupBy a x = x.seen.kind ≡ 11 → answer_to refuse lookup d a ≡ lookup (part (x.path + 8) (x.size - 8) d) (key_at x.seen.target d)

  pub lookup-by : (a : T.Incoming) → LookupBy a (brief_of a)
  unfolding answer_to brief_of look_of
  lookup-by (M.Refused n) e = absurd (let z : ◌≡◌ {A = ℕ} 0 11 = e in omega arith)
  lookup-by (M.Solicit x) e = absurd (let z : ◌≡◌ {A = ℕ} 1 11 = e in omega arith)
  lookup-by (M.Advertise x) e = absurd (let z : ◌≡◌ {A = ℕ} 2 11 = e in omega arith)
  lookup-by (M.Request x) e = absurd (let z : ◌≡◌ {A = ℕ} 3 11 = e in omega arith)
  lookup-by (M.Flood x) e = absurd (let z : ◌≡◌ {A = ℕ} 4 11 = e in omega arith)
  lookup-by (M.Inquire x) e = absurd (let z : ◌≡◌ {A = ℕ} 7 11 = e in omega arith)
  lookup-by (M.Authority x) e = absurd (let z : ◌≡◌ {A = ℕ} 8 11 = e in omega arith)
  lookup-by (M.Ack x) e = absurd (let z : ◌≡◌ {A = ℕ} 9 11 = e in omega arith)
  lookup-by (M.Lookup x) e = refl
