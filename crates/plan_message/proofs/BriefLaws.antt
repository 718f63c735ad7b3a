-- Laws of the plan by what is told of a message (look, Seen): its type, ID, acked ID and places, its validate key, its flag and its path say all that a plan wants.
-- Assumes nothing.
use Prim.Native.Nat.{ℕ, ◌+◌, ◌-◌, ◌≤◌, ◌<◌}
use native.Mathlib.Omega.{arith}
use mathlib.Core.Path.{◌≡◌, refl, sym, ◌∙◌}
use mathlib.Core.Bool.{Bool, true, false}
use mathlib.Core.List.{List}
use lib.ListN.{length}
use Rattle.octet.specs.Part.{part}
use Rattle.key.specs.Number.{key_at}
use Rattle.own.specs.Own.{own_keys}
use Rattle.record.specs.Entry.{entry_form}
use Rattle.table.specs.Rows.{rows}
use Rattle.wire_shapes.proofs.ShapeLaws.{entry-short}
use Rattle.std.specs.Prelude.{Some, None}
use Rattle.wire_fields.specs.Places.{Part}
use Rattle.wire_buffer.specs.Buffer.{start_of}
use Rattle.wire_read.specs.declared.Incoming as T
use Rattle.wire_read.specs.declared.Incoming.TheVariants as M
use Rattle.wire_read.specs.declared.messages.Flood as F
use Rattle.wire.proofs.ShownLaws.{with_entry}
use Rattle.look.specs.Seen.{size_of, look_of, brief_of}
use Rattle.look.specs.declared.Brief.{Brief}
use Rattle.gauge_plan.specs.declared.Plan.TheVariants.{Refuse}
use Rattle.gauge_plan.specs.Lent.{Memory, Receive}
use Rattle.plan_flood.specs.Flood.{flood_plan, revoke_plan}
use Rattle.plan_answer.specs.Answering.{authority_plan, ack_plan, inquire_plan, lookup_plan}
use Rattle.plan_message.specs.Planned.{plan_for}
use Rattle.plan_message.proofs.AnswerLaws.{EntryIn, PathIn, KnownAnswer}

-- a route entry is not empty
not-empty : (d : List ℕ) (s n : ℕ) → s + n ≤ length d → entry_form (part s n d) ≡ true → n ≡ 0 → ⊥
not-empty d s n h f e =
    let z : ◌≡◌ {A = Bool} true false = sym f ∙ entry-short d s n h (omega arith) in
    let y : ◌≡◌ {A = ℕ} 0 1 = cc in
    omega arith

module _ (m : Memory) (l : Receive) (held used : ℕ) where
  abbrev pub RefusedBy : T.Incoming → Brief → Type 0
  RefusedBy a x =
      x.seen.kind ≡ 0 → plan_for m l held used a ≡ Refuse x.seen.number

  pub refused_by : (a : T.Incoming) → RefusedBy a (brief_of a)
  unfolding plan_for brief_of look_of
  refused_by (M.Refused n) e = refl
  refused_by (M.Solicit x) e = absurd (let z : ◌≡◌ {A = ℕ} 1 0 = e in omega arith)
  refused_by (M.Advertise x) e = absurd (let z : ◌≡◌ {A = ℕ} 2 0 = e in omega arith)
  refused_by (M.Request x) e = absurd (let z : ◌≡◌ {A = ℕ} 3 0 = e in omega arith)
  refused_by (M.Flood x) e = absurd (let z : ◌≡◌ {A = ℕ} 4 0 = e in omega arith)
  refused_by (M.Inquire x) e = absurd (let z : ◌≡◌ {A = ℕ} 7 0 = e in omega arith)
  refused_by (M.Authority x) e = absurd (let z : ◌≡◌ {A = ℕ} 8 0 = e in omega arith)
  refused_by (M.Ack x) e = absurd (let z : ◌≡◌ {A = ℕ} 9 0 = e in omega arith)
  refused_by (M.Lookup x) e = absurd (let z : ◌≡◌ {A = ℕ} 11 0 = e in omega arith)

  abbrev pub FloodBy : T.Incoming → Brief → Type 0
  FloodBy a x =
      x.seen.kind ≡ 4 → (x.seen.entry_length ≡ 0 → ⊥)
      → plan_for m l held used a ≡ flood_plan (own_keys l.own) (rows 100 held m.cache) (rows 140 used m.waiting) used l.id (length l.output) l.datagram x.flag x.seen.id
      x.validate x.seen.entry x.seen.entry_length

  flood-entry : (x : F.Flood) (p : Part) → FloodBy (M.Flood (with_entry x p)) (brief_of (M.Flood (with_entry x p)))
  unfolding plan_for brief_of look_of
  flood-entry x (Some p) e f = refl
  flood-entry x None e f = absurd (f refl)

  pub flood-by : (a : T.Incoming) → FloodBy a (brief_of a)
  unfolding plan_for brief_of look_of
  flood-by (M.Refused n) e f = absurd (let z : ◌≡◌ {A = ℕ} 0 4 = e in omega arith)
  flood-by (M.Solicit x) e f = absurd (let z : ◌≡◌ {A = ℕ} 1 4 = e in omega arith)
  flood-by (M.Advertise x) e f = absurd (let z : ◌≡◌ {A = ℕ} 2 4 = e in omega arith)
  flood-by (M.Request x) e f = absurd (let z : ◌≡◌ {A = ℕ} 3 4 = e in omega arith)
  flood-by (M.Flood x) e f = flood-entry x x.entry e f
  flood-by (M.Inquire x) e f = absurd (let z : ◌≡◌ {A = ℕ} 7 4 = e in omega arith)
  flood-by (M.Authority x) e f = absurd (let z : ◌≡◌ {A = ℕ} 8 4 = e in omega arith)
  flood-by (M.Ack x) e f = absurd (let z : ◌≡◌ {A = ℕ} 9 4 = e in omega arith)
  flood-by (M.Lookup x) e f = absurd (let z : ◌≡◌ {A = ℕ} 11 4 = e in omega arith)

  abbrev pub RevokeBy : T.Incoming → Brief → Type 0
  RevokeBy a x =
      KnownAnswer l.datagram a → x.seen.kind ≡ 4 → x.seen.entry_length ≡ 0
      → plan_for m l held used a ≡ revoke_plan (own_keys l.own) held used l.verdict (key_at 0 l.key) (length l.output) l.datagram x.flag x.seen.id
      x.validate

  revoke-entry : (x : F.Flood) (p : Part) → RevokeBy (M.Flood (with_entry x p)) (brief_of (M.Flood (with_entry x p)))
  unfolding plan_for brief_of look_of
  revoke-entry x (Some p) w e f = absurd (not-empty l.datagram p.start p.len w.1.0 w.1.1 f)
  revoke-entry x None w e f = refl

  pub revoke-by : (a : T.Incoming) → RevokeBy a (brief_of a)
  unfolding plan_for brief_of look_of
  revoke-by (M.Refused n) w e f = absurd (let z : ◌≡◌ {A = ℕ} 0 4 = e in omega arith)
  revoke-by (M.Solicit x) w e f = absurd (let z : ◌≡◌ {A = ℕ} 1 4 = e in omega arith)
  revoke-by (M.Advertise x) w e f = absurd (let z : ◌≡◌ {A = ℕ} 2 4 = e in omega arith)
  revoke-by (M.Request x) w e f = absurd (let z : ◌≡◌ {A = ℕ} 3 4 = e in omega arith)
  revoke-by (M.Flood x) w e f = revoke-entry x x.entry w e f
  revoke-by (M.Inquire x) w e f = absurd (let z : ◌≡◌ {A = ℕ} 7 4 = e in omega arith)
  revoke-by (M.Authority x) w e f = absurd (let z : ◌≡◌ {A = ℕ} 8 4 = e in omega arith)
  revoke-by (M.Ack x) w e f = absurd (let z : ◌≡◌ {A = ℕ} 9 4 = e in omega arith)
  revoke-by (M.Lookup x) w e f = absurd (let z : ◌≡◌ {A = ℕ} 11 4 = e in omega arith)

  abbrev pub InquireBy : T.Incoming → Brief → Type 0
  InquireBy a x =
      x.seen.kind ≡ 7
      → plan_for m l held used a ≡ inquire_plan (own_keys l.own) l.cpas (length l.output) l.datagram x.seen.id x.validate

  pub inquire-by : (a : T.Incoming) → InquireBy a (brief_of a)
  unfolding plan_for brief_of look_of
  inquire-by (M.Refused n) e = absurd (let z : ◌≡◌ {A = ℕ} 0 7 = e in omega arith)
  inquire-by (M.Solicit x) e = absurd (let z : ◌≡◌ {A = ℕ} 1 7 = e in omega arith)
  inquire-by (M.Advertise x) e = absurd (let z : ◌≡◌ {A = ℕ} 2 7 = e in omega arith)
  inquire-by (M.Request x) e = absurd (let z : ◌≡◌ {A = ℕ} 3 7 = e in omega arith)
  inquire-by (M.Flood x) e = absurd (let z : ◌≡◌ {A = ℕ} 4 7 = e in omega arith)
  inquire-by (M.Inquire x) e = refl
  inquire-by (M.Authority x) e = absurd (let z : ◌≡◌ {A = ℕ} 8 7 = e in omega arith)
  inquire-by (M.Ack x) e = absurd (let z : ◌≡◌ {A = ℕ} 9 7 = e in omega arith)
  inquire-by (M.Lookup x) e = absurd (let z : ◌≡◌ {A = ℕ} 11 7 = e in omega arith)

  abbrev pub AuthorityBy : T.Incoming → Brief → Type 0
  AuthorityBy a x =
      x.seen.kind ≡ 8
      → plan_for m l held used a ≡ authority_plan (rows 140 used m.waiting) held used l.verdict (key_at 0 l.key) x.seen.acked x.flag

  pub authority_by : (a : T.Incoming) → AuthorityBy a (brief_of a)
  unfolding plan_for brief_of look_of
  authority_by (M.Refused n) e = absurd (let z : ◌≡◌ {A = ℕ} 0 8 = e in omega arith)
  authority_by (M.Solicit x) e = absurd (let z : ◌≡◌ {A = ℕ} 1 8 = e in omega arith)
  authority_by (M.Advertise x) e = absurd (let z : ◌≡◌ {A = ℕ} 2 8 = e in omega arith)
  authority_by (M.Request x) e = absurd (let z : ◌≡◌ {A = ℕ} 3 8 = e in omega arith)
  authority_by (M.Flood x) e = absurd (let z : ◌≡◌ {A = ℕ} 4 8 = e in omega arith)
  authority_by (M.Inquire x) e = absurd (let z : ◌≡◌ {A = ℕ} 7 8 = e in omega arith)
  authority_by (M.Authority x) e = refl
  authority_by (M.Ack x) e = absurd (let z : ◌≡◌ {A = ℕ} 9 8 = e in omega arith)
  authority_by (M.Lookup x) e = absurd (let z : ◌≡◌ {A = ℕ} 11 8 = e in omega arith)

  abbrev pub AckBy : T.Incoming → Brief → Type 0
  AckBy a x =
      x.seen.kind ≡ 9
      → plan_for m l held used a ≡ ack_plan (rows 140 used m.waiting) held used x.seen.acked x.flag

  pub ack-by : (a : T.Incoming) → AckBy a (brief_of a)
  unfolding plan_for brief_of look_of
  ack-by (M.Refused n) e = absurd (let z : ◌≡◌ {A = ℕ} 0 9 = e in omega arith)
  ack-by (M.Solicit x) e = absurd (let z : ◌≡◌ {A = ℕ} 1 9 = e in omega arith)
  ack-by (M.Advertise x) e = absurd (let z : ◌≡◌ {A = ℕ} 2 9 = e in omega arith)
  ack-by (M.Request x) e = absurd (let z : ◌≡◌ {A = ℕ} 3 9 = e in omega arith)
  ack-by (M.Flood x) e = absurd (let z : ◌≡◌ {A = ℕ} 4 9 = e in omega arith)
  ack-by (M.Inquire x) e = absurd (let z : ◌≡◌ {A = ℕ} 7 9 = e in omega arith)
  ack-by (M.Authority x) e = absurd (let z : ◌≡◌ {A = ℕ} 8 9 = e in omega arith)
  ack-by (M.Ack x) e = refl
  ack-by (M.Lookup x) e = absurd (let z : ◌≡◌ {A = ℕ} 11 9 = e in omega arith)

  abbrev pub LookupBy : T.Incoming → Brief → Type 0
  LookupBy a x =
      x.seen.kind ≡ 11
      → plan_for m l held used a ≡ lookup_plan l.own (rows 100 held m.cache) (rows 140 used m.waiting) held used l.id (length l.output) l.datagram
      x.seen.id x.seen.target (x.path + 8) (x.size - 8) x.seen.entry x.seen.entry_length

  pub lookup-by : (a : T.Incoming) → LookupBy a (brief_of a)
  unfolding plan_for brief_of look_of
  lookup-by (M.Refused n) e = absurd (let z : ◌≡◌ {A = ℕ} 0 11 = e in omega arith)
  lookup-by (M.Solicit x) e = absurd (let z : ◌≡◌ {A = ℕ} 1 11 = e in omega arith)
  lookup-by (M.Advertise x) e = absurd (let z : ◌≡◌ {A = ℕ} 2 11 = e in omega arith)
  lookup-by (M.Request x) e = absurd (let z : ◌≡◌ {A = ℕ} 3 11 = e in omega arith)
  lookup-by (M.Flood x) e = absurd (let z : ◌≡◌ {A = ℕ} 4 11 = e in omega arith)
  lookup-by (M.Inquire x) e = absurd (let z : ◌≡◌ {A = ℕ} 7 11 = e in omega arith)
  lookup-by (M.Authority x) e = absurd (let z : ◌≡◌ {A = ℕ} 8 11 = e in omega arith)
  lookup-by (M.Ack x) e = absurd (let z : ◌≡◌ {A = ℕ} 9 11 = e in omega arith)
  lookup-by (M.Lookup x) e = refl

  abbrev pub OtherBy : T.Incoming → Brief → Type 0
  OtherBy a x =
      (x.seen.kind ≡ 0 → ⊥) → (x.seen.kind ≡ 4 → ⊥) → (x.seen.kind ≡ 7 → ⊥)
      → (x.seen.kind ≡ 8 → ⊥) → (x.seen.kind ≡ 9 → ⊥) → (x.seen.kind ≡ 11 → ⊥) → plan_for m l held used a ≡ Refuse 7

  pub other_by : (a : T.Incoming) → OtherBy a (brief_of a)
  unfolding plan_for brief_of look_of
  other_by (M.Refused n) e₀ e₄ e₇ e₈ e₉ e₁₁ = absurd (e₀ refl)
  other_by (M.Solicit x) e₀ e₄ e₇ e₈ e₉ e₁₁ = refl
  other_by (M.Advertise x) e₀ e₄ e₇ e₈ e₉ e₁₁ = refl
  other_by (M.Request x) e₀ e₄ e₇ e₈ e₉ e₁₁ = refl
  other_by (M.Flood x) e₀ e₄ e₇ e₈ e₉ e₁₁ = absurd (e₄ refl)
  other_by (M.Inquire x) e₀ e₄ e₇ e₈ e₉ e₁₁ = absurd (e₇ refl)
  other_by (M.Authority x) e₀ e₄ e₇ e₈ e₉ e₁₁ = absurd (e₈ refl)
  other_by (M.Ack x) e₀ e₄ e₇ e₈ e₉ e₁₁ = absurd (e₉ refl)
  other_by (M.Lookup x) e₀ e₄ e₇ e₈ e₉ e₁₁ = absurd (e₁₁ refl)

-- what is known of the places told
module _ (d : List ℕ) where
  abbrev pub KnownFlood : T.Incoming → Brief → Type 0
  KnownFlood a x =
      KnownAnswer d a → x.seen.kind ≡ 4 → x.validate + 32 ≤ length d

  pub known-flood : (a : T.Incoming) → KnownFlood a (brief_of a)
  unfolding brief_of look_of
  known-flood (M.Refused n) w e = absurd (let z : ◌≡◌ {A = ℕ} 0 4 = e in omega arith)
  known-flood (M.Solicit x) w e = absurd (let z : ◌≡◌ {A = ℕ} 1 4 = e in omega arith)
  known-flood (M.Advertise x) w e = absurd (let z : ◌≡◌ {A = ℕ} 2 4 = e in omega arith)
  known-flood (M.Request x) w e = absurd (let z : ◌≡◌ {A = ℕ} 3 4 = e in omega arith)
  known-flood (M.Flood x) w e = w.0
  known-flood (M.Inquire x) w e = absurd (let z : ◌≡◌ {A = ℕ} 7 4 = e in omega arith)
  known-flood (M.Authority x) w e = absurd (let z : ◌≡◌ {A = ℕ} 8 4 = e in omega arith)
  known-flood (M.Ack x) w e = absurd (let z : ◌≡◌ {A = ℕ} 9 4 = e in omega arith)
  known-flood (M.Lookup x) w e = absurd (let z : ◌≡◌ {A = ℕ} 11 4 = e in omega arith)

  abbrev pub KnownEntry : T.Incoming → Brief → Type 0
  KnownEntry a x =
      KnownAnswer d a → x.seen.kind ≡ 4 → (x.seen.entry_length ≡ 0 → ⊥)
      → (x.seen.entry + x.seen.entry_length ≤ length d)
      × (entry_form (part x.seen.entry x.seen.entry_length d) ≡ true)

  entry_known : (x : F.Flood) (p : Part) → KnownEntry (M.Flood (with_entry x p)) (brief_of (M.Flood (with_entry x p)))
  unfolding brief_of look_of
  entry_known x (Some p) w e f = w.1
  entry_known x None w e f = absurd (f refl)

  pub known-entry : (a : T.Incoming) → KnownEntry a (brief_of a)
  unfolding brief_of look_of
  known-entry (M.Refused n) w e f = absurd (let z : ◌≡◌ {A = ℕ} 0 4 = e in omega arith)
  known-entry (M.Solicit x) w e f = absurd (let z : ◌≡◌ {A = ℕ} 1 4 = e in omega arith)
  known-entry (M.Advertise x) w e f = absurd (let z : ◌≡◌ {A = ℕ} 2 4 = e in omega arith)
  known-entry (M.Request x) w e f = absurd (let z : ◌≡◌ {A = ℕ} 3 4 = e in omega arith)
  known-entry (M.Flood x) w e f = entry_known x x.entry w e f
  known-entry (M.Inquire x) w e f = absurd (let z : ◌≡◌ {A = ℕ} 7 4 = e in omega arith)
  known-entry (M.Authority x) w e f = absurd (let z : ◌≡◌ {A = ℕ} 8 4 = e in omega arith)
  known-entry (M.Ack x) w e f = absurd (let z : ◌≡◌ {A = ℕ} 9 4 = e in omega arith)
  known-entry (M.Lookup x) w e f = absurd (let z : ◌≡◌ {A = ℕ} 11 4 = e in omega arith)

  abbrev pub KnownInquire : T.Incoming → Brief → Type 0
  KnownInquire a x =
      KnownAnswer d a → x.seen.kind ≡ 7 → x.validate + 32 ≤ length d

  pub known-inquire : (a : T.Incoming) → KnownInquire a (brief_of a)
  unfolding brief_of look_of
  known-inquire (M.Refused n) w e = absurd (let z : ◌≡◌ {A = ℕ} 0 7 = e in omega arith)
  known-inquire (M.Solicit x) w e = absurd (let z : ◌≡◌ {A = ℕ} 1 7 = e in omega arith)
  known-inquire (M.Advertise x) w e = absurd (let z : ◌≡◌ {A = ℕ} 2 7 = e in omega arith)
  known-inquire (M.Request x) w e = absurd (let z : ◌≡◌ {A = ℕ} 3 7 = e in omega arith)
  known-inquire (M.Flood x) w e = absurd (let z : ◌≡◌ {A = ℕ} 4 7 = e in omega arith)
  known-inquire (M.Inquire x) w e = w
  known-inquire (M.Authority x) w e = absurd (let z : ◌≡◌ {A = ℕ} 8 7 = e in omega arith)
  known-inquire (M.Ack x) w e = absurd (let z : ◌≡◌ {A = ℕ} 9 7 = e in omega arith)
  known-inquire (M.Lookup x) w e = absurd (let z : ◌≡◌ {A = ℕ} 11 7 = e in omega arith)

  abbrev pub KnownLookup : T.Incoming → Brief → Type 0
  KnownLookup a x =
      KnownAnswer d a → x.seen.kind ≡ 11
      → (x.seen.target + 32 ≤ length d) × (8 ≤ x.size) × (x.path + x.size ≤ length d) × (x.seen.entry + x.seen.entry_length ≤ length d)
      × (0 < x.seen.entry_length → entry_form (part x.seen.entry x.seen.entry_length d) ≡ true)

  -- an entry, and a path, by place and length
  pub entry-told : (p : Part) → EntryIn d p
      → (start_of p + size_of p ≤ length d) × (0 < size_of p → entry_form (part (start_of p) (size_of p) d) ≡ true)
  entry-told (Some p) w = (w.0, λ h. w.1)
  entry-told None w = (omega arith, λ h. absurd (omega arith))

  pub path-told : (p : Part) → PathIn d p → (8 ≤ size_of p) × (start_of p + size_of p ≤ length d)
  path-told (Some p) w = w
  path-told None w = absurd w

  pub known-lookup : (a : T.Incoming) → KnownLookup a (brief_of a)
  unfolding brief_of look_of
  known-lookup (M.Refused n) w e = absurd (let z : ◌≡◌ {A = ℕ} 0 11 = e in omega arith)
  known-lookup (M.Solicit x) w e = absurd (let z : ◌≡◌ {A = ℕ} 1 11 = e in omega arith)
  known-lookup (M.Advertise x) w e = absurd (let z : ◌≡◌ {A = ℕ} 2 11 = e in omega arith)
  known-lookup (M.Request x) w e = absurd (let z : ◌≡◌ {A = ℕ} 3 11 = e in omega arith)
  known-lookup (M.Flood x) w e = absurd (let z : ◌≡◌ {A = ℕ} 4 11 = e in omega arith)
  known-lookup (M.Inquire x) w e = absurd (let z : ◌≡◌ {A = ℕ} 7 11 = e in omega arith)
  known-lookup (M.Authority x) w e = absurd (let z : ◌≡◌ {A = ℕ} 8 11 = e in omega arith)
  known-lookup (M.Ack x) w e = absurd (let z : ◌≡◌ {A = ℕ} 9 11 = e in omega arith)
  known-lookup (M.Lookup x) w e =
      let told = entry-told x.entry w.1 in
      let path = path-told x.path w.2 in
      (w.0, path.0, path.1, told.0, told.1)
