-- Laws of the plan for a datagram: by the tests that the code makes; what is known of a plan; what the commits require. Assumes nothing.
use mathlib.Core.Path.{◌≡◌, refl, sym, ap, subst, ◌∙◌}
use mathlib.Core.Bool.{Bool, true, false, not}
use mathlib.Core.List.{List, [], ◌∷◌}
use Prim.Native.Nat.{ℕ, ◌+◌, ◌-◌, ◌*◌, ◌≤◌, ◌<◌}
use native.Mathlib.Omega.{arith}
use lib.ListN.{length}
use borrow.Author.Tests.{not-false}
use Rattle.octet.specs.Number.{value_be}
use Rattle.octet.specs.Part.{part, same}
use Rattle.octet.proofs.PartLaws.{length_part}
use Rattle.key.specs.Number.{key_at}
use Rattle.record.specs.Record.{count_of, record_form}
use Rattle.record.specs.Entry.{entry_form, record_of}
use Rattle.own.specs.Own.{own_form, own_keys, own_records, own_place, IsOwn}
use Rattle.refusal.specs.Table.{when, or_refuse}
use Rattle.refusal.proofs.CallLaws.{or_known}
use Rattle.table.specs.Rows.{rows, Laid}
use Rattle.table.proofs.PieceLaws.{part-start}
use Rattle.table.proofs.RowLaws.{rows-length}
use Rattle.kept.specs.Plain.{NotOwn}
use Rattle.cache.specs.Form.{keys_of, Form}
use Rattle.firsts.specs.Firsts.{firsts_of}
use Rattle.neighbours.specs.Closest.{closest_past}
use Rattle.table.specs.Seek.{seek}
use Rattle.waiting.specs.Seek.{is_at}
use Rattle.std.specs.Prelude.{Option, Some, None}
use Rattle.waiting.proofs.SeekLaws.{found-record, found-key, found-other}
use Rattle.std.specs.Prelude.{Some, None}
use Rattle.wire_fields.specs.Places.{Part}
use Rattle.wire_buffer.specs.Buffer.{start_of}
use Rattle.wire_read.specs.Answers as R
use Rattle.wire_read.specs.declared.Head.{Head}
use Rattle.wire_read.specs.declared.Incoming as T
use Rattle.wire_read.specs.declared.Incoming.TheVariants as M
use Rattle.look.specs.Seen.{size_of}
use Rattle.gauge_plan.specs.Lent.{Memory, Receive}
use Rattle.gauge_plan.specs.Memory.{fitness, memory_of, comes_fit, counts_fit, hands_fit}
use Rattle.plan_flood.specs.Rooms.{ack_room}
use Rattle.asking.specs.Asking.{inquire_room, must_ask, asks_for}
use Rattle.asking.proofs.AskingLaws.{asks-tells}
use Rattle.gauge_plan.specs.Own.{not_ours}
use Rattle.plan_flood.specs.Flood.{flood_refusals, revoke_refusals, flood_plan, revoke_plan}
use Rattle.gauge_plan.specs.Found.{place_of}
use Rattle.plan_answer.specs.Answering.{authority_plan, ack_plan, inquire_plan, lookup_plan, authority_refusals, ack_refusals, inquire_refusals, lookup_refusals}
use Rattle.gauge_plan.specs.declared.Plan.{Plan}
use Rattle.gauge_plan.specs.declared.Plan.TheVariants.{Refuse, Flood, Revoke, Learn, Free, Certify, Show}
use Rattle.gauge_plan.specs.declared.memory.Fit.{Fit}
use Rattle.cpas.specs.Cpas.{cpas_form, cpa_of}
use Rattle.gauge_plan.proofs.OwnLaws.{place_within}
use Rattle.gauge_plan.proofs.MemoryLaws as memory
use Rattle.plan_flood.proofs.FloodLaws as flood
use Rattle.plan_answer.proofs.AnsweringLaws as answering
use Rattle.plan_message.specs.Planned.{by_entry, plan_for, plan_by, plan_in, receive_plan}
use Rattle.plan_message.proofs.AnswerLaws.{EntryIn, KnownAnswer, known_answer}
use Rattle.plan_message.proofs.BriefLaws.{entry-told, path-told}

-- ---- the plan by the tests that the code makes

module _ (m : Memory) (l : Receive) where
  -- what is handed in is tested whatever the tables are
  no-hands : comes_fit l ≡ false → (f : Option Fit) → plan_in m l f ≡ Refuse 1
  unfolding or_refuse hands_fit
  no-hands e None = refl
  no-hands e (Some f) = rw e refl

  pub plan-hands : comes_fit l ≡ false → receive_plan m l ≡ Refuse 1
  unfolding receive_plan
  plan-hands e = no-hands e (memory_of l.own m)

  hands : comes_fit l ≡ true → (f : Option Fit) → plan_in m l f ≡ plan_by m l f
  unfolding or_refuse hands_fit
  hands e None = refl
  hands e (Some f) = rw e refl

  pub plan-by : comes_fit l ≡ true → receive_plan m l ≡ plan_by m l (memory_of l.own m)
  unfolding receive_plan
  plan-by e = hands e (memory_of l.own m)

  module _ {h u : ℕ} (fit : memory_of l.own m ≡ fitness h u) where
    pub plan-message : hands_fit m l ≡ true → receive_plan m l ≡ plan_for m l h u (R.read_in l.datagram l.major)
    unfolding receive_plan or_refuse
    plan-message e = rw (fit, e) refl

  -- the counts by first byte are tested where the tables are in form
  module _ (h u : ℕ) where
    pub plan-uncounted : counts_fit l.own m ≡ false → plan_by m l (fitness h u) ≡ Refuse 1
    unfolding or_refuse
    plan-uncounted e = rw e refl

    pub plan-counted : counts_fit l.own m ≡ true → plan_by m l (fitness h u) ≡ plan_for m l h u (R.read_in l.datagram l.major)
    unfolding or_refuse
    plan-counted e = rw e refl

-- what the plan of a message requires of memory
pub message_needs : (own : List ℕ) (m : Memory) {h u : ℕ} → memory_of own m ≡ fitness h u
    → (own_form own ≡ true) × Form (own_keys own) m.cache (rows 100 h m.cache) × (140 * u ≤ length m.waiting)
message_needs own m fit =
    let r = subst (memory.KnownMemory own m) fit (memory.known_memory own m) in
    (r.owned, r.form, r.laid.room)

-- and what the test of the counts requires, and gives
pub counts_need : (own : List ℕ) (m : Memory) {h u : ℕ} → memory_of own m ≡ fitness h u → (100 * h ≤ length m.cache) × (h ≤ 256)
counts_need own m fit =
    let r = subst (memory.KnownMemory own m) fit (memory.known_memory own m) in
    (r.room, omega (arith, r.room, r.form.places.most))

pub counts_by : (own : List ℕ) (m : Memory) {h u : ℕ} → memory_of own m ≡ fitness h u
    → counts_fit own m ≡ same m.firsts (firsts_of (keys_of (rows 100 h m.cache)))
counts_by own m {h} {u} fit = memory.counts_held own m h u (subst (memory.KnownMemory own m) fit (memory.known_memory own m))

-- ---- what is known of a plan

-- a FLOOD with a route entry is planned
pub record Flooded (m : Memory) (l : Receive) (u : ℕ) (s n : Bool) (a : ℕ) (opens : Bool) (start len : ℕ) : Type 0 where
  pub held : ℕ
  pub validate : ℕ
  pub ready : memory.Ready l.own m held u
  pub hands : memory.Handed l.own l.cpas l.nonce l.key
  pub within : start + len ≤ length l.datagram
  pub entry : entry_form (part start len l.datagram) ≡ true
  pub plans : flood.Flooding (own_keys l.own) (rows 100 held m.cache) (rows 140 u m.waiting) u l.id (length l.output)
      l.datagram s a validate start len u s n a opens start len

-- a FLOOD with a revocation
pub record Revoked (m : Memory) (l : Receive) (h u : ℕ) (s n : Bool) (a : ℕ) : Type 0 where
  pub validate : ℕ
  pub ready : memory.Ready l.own m h u
  pub hands : memory.Handed l.own l.cpas l.nonce l.key
  pub counted : m.firsts ≡ firsts_of (keys_of (rows 100 h m.cache))
  pub plans : flood.Revoking (own_keys l.own) h u l.verdict (key_at 0 l.key) (length l.output) l.datagram s a validate h u s n a

-- an AUTHORITY
pub record Learned (m : Memory) (l : Receive) (h u at : ℕ) : Type 0 where
  pub acked : ℕ
  pub cpa : Bool
  pub ready : memory.Ready l.own m h u
  pub hands : memory.Handed l.own l.cpas l.nonce l.key
  pub counted : m.firsts ≡ firsts_of (keys_of (rows 100 h m.cache))
  pub plans : answering.Learning (rows 140 u m.waiting) h u l.verdict (key_at 0 l.key) acked cpa h u at

-- an ACK
pub record Freed (m : Memory) (l : Receive) (h u at : ℕ) (n : Bool) : Type 0 where
  pub acked : ℕ
  pub ready : memory.Ready l.own m h u
  pub hands : memory.Handed l.own l.cpas l.nonce l.key
  pub counted : m.firsts ≡ firsts_of (keys_of (rows 100 h m.cache))
  pub plans : answering.Freeing (rows 140 u m.waiting) h u acked n h u at n

-- an INQUIRE
pub record Certified (m : Memory) (l : Receive) (a at : ℕ) : Type 0 where
  pub held : ℕ
  pub used : ℕ
  pub validate : ℕ
  pub ready : memory.Ready l.own m held used
  pub hands : memory.Handed l.own l.cpas l.nonce l.key
  pub plans : answering.Certifying (own_keys l.own) l.cpas (length l.output) l.datagram a validate a at

-- a LOOKUP
pub record Shown (m : Memory) (l : Receive) (h u a target path size : ℕ) (opens : Bool) (start len : ℕ) : Type 0 where
  pub ready : memory.Ready l.own m h u
  pub hands : memory.Handed l.own l.cpas l.nonce l.key
  pub within : target + 32 ≤ length l.datagram
  pub path-within : path + size ≤ length l.datagram
  pub entry-within : start + len ≤ length l.datagram
  pub entry : 0 < len → entry_form (part start len l.datagram) ≡ true
  pub plans : answering.Showing l.own (rows 100 h m.cache) (rows 140 u m.waiting) h u l.id (length l.output) l.datagram a target path size
      start len h u a target path size opens start len

-- an entry that is inquired about is there
pub shown-entry : (m : Memory) (l : Receive) {h u a target path size : ℕ} {opens : Bool} {start len : ℕ} → Shown m l h u a target path size opens start len
    → opens ≡ true → entry_form (part start len l.datagram) ≡ true
shown-entry m l {h} {u} {a} {target} {path} {size} {opens} {start} {len} k o =
    let v = part start len l.datagram in
    let there = (asks-tells (own_keys l.own) (rows 100 h m.cache) (rows 140 u m.waiting) v (sym k.plans.opens-is ∙ o)).0 in
    k.entry (omega (arith, there, length_part start len l.datagram k.entry-within))

abbrev pub Known : Memory → Receive → Plan → Type 0
Known m l (Refuse n) = Unit {0}
Known m l (Flood u s n a opens start len) = Flooded m l u s n a opens start len
Known m l (Revoke h u s n a) = Revoked m l h u s n a
Known m l (Learn h u at) = Learned m l h u at
Known m l (Free h u at n) = Freed m l h u at n
Known m l (Certify a at) = Certified m l a at
Known m l (Show h u a target path size opens start len) = Shown m l h u a target path size opens start len

module _ (m : Memory) (l : Receive) (h u : ℕ) (ready : memory.Ready l.own m h u)
    (hands : memory.Handed l.own l.cpas l.nonce l.key) (counted : m.firsts ≡ firsts_of (keys_of (rows 100 h m.cache))) where
  flood_known : (s : Bool) (a validate start len : ℕ) → start + len ≤ length l.datagram → entry_form (part start len l.datagram) ≡ true
      → Known m l (flood_plan (own_keys l.own) (rows 100 h m.cache) (rows 140 u m.waiting) u l.id (length l.output)
      l.datagram s a validate start len)
  unfolding flood_plan
  flood_known s a validate start len within entry =
      let own = own_keys l.own in
      let recs = rows 100 h m.cache in
      let ps = rows 140 u m.waiting in
      let room = length l.output in
      let r = record_of (part start len l.datagram) in
      let n = not_ours own validate l.datagram in
      let opens = must_ask recs ps r in
      let K : Plan → Type 0 = flood.KnownFlood own recs ps u l.id room l.datagram s a validate start len in
      or_known (λ (p : Plan). K p → Known m l p) Refuse (flood_refusals own ps u l.id room s n opens r) (Flood u s n a opens start len)
      (λ i k. tt)
      (λ f k. record { held = h; validate = validate; ready = ready; hands = hands; within = within; entry = entry; plans = k })
      (flood.known-flood own recs ps u l.id room l.datagram s a validate start len)

  revoke-known : (s : Bool) (a validate : ℕ)
      → Known m l (revoke_plan (own_keys l.own) h u l.verdict (key_at 0 l.key) (length l.output) l.datagram s a validate)
  unfolding revoke_plan
  revoke-known s a validate =
      let own = own_keys l.own in
      let k = key_at 0 l.key in
      let room = length l.output in
      let n = not_ours own validate l.datagram in
      let K : Plan → Type 0 = flood.KnownRevoke own h u l.verdict k room l.datagram s a validate in
      or_known (λ (p : Plan). K p → Known m l p) Refuse (revoke_refusals own l.verdict k room s n) (Revoke h u s n a)
      (λ i k. tt)
      (λ f k. record { validate = validate; ready = ready; hands = hands; counted = counted; plans = k })
      (flood.known-revoke own h u l.verdict k room l.datagram s a validate)

  authority-known : (acked : ℕ) (cpa : Bool) → Known m l (authority_plan (rows 140 u m.waiting) h u l.verdict (key_at 0 l.key) acked cpa)
  unfolding authority_plan
  authority-known acked cpa =
      let ps = rows 140 u m.waiting in
      let k = key_at 0 l.key in
      let K : Plan → Type 0 = answering.KnownAuthority ps h u l.verdict k acked cpa in
      or_known (λ (p : Plan). K p → Known m l p) Refuse (authority_refusals ps l.verdict k acked cpa) (Learn h u (place_of (seek (is_at acked 2) 0 ps)))
      (λ i k. tt)
      (λ f k. record { acked = acked; cpa = cpa; ready = ready; hands = hands; counted = counted; plans = k })
      (answering.known-authority ps h u l.verdict k acked cpa)

  ack-known : (acked : ℕ) (n : Bool) → Known m l (ack_plan (rows 140 u m.waiting) h u acked n)
  unfolding ack_plan
  ack-known acked n =
      let ps = rows 140 u m.waiting in
      let K : Plan → Type 0 = answering.KnownAck ps h u acked n in
      or_known (λ (p : Plan). K p → Known m l p) Refuse (ack_refusals ps acked) (Free h u (place_of (seek (is_at acked 1) 0 ps)) n)
      (λ i k. tt)
      (λ f k. record { acked = acked; ready = ready; hands = hands; counted = counted; plans = k })
      (answering.known-ack ps h u acked n)

  inquire_known : (a validate : ℕ) → Known m l (inquire_plan (own_keys l.own) l.cpas (length l.output) l.datagram a validate)
  unfolding inquire_plan
  inquire_known a validate =
      let own = own_keys l.own in
      let K : Plan → Type 0 = answering.KnownInquire own l.cpas (length l.output) l.datagram a validate in
      or_known (λ (p : Plan). K p → Known m l p) Refuse (inquire_refusals own l.cpas (length l.output) l.datagram validate) (Certify a (own_place own (key_at validate l.datagram)))
      (λ i k. tt)
      (λ f k. record { held = h; used = u; validate = validate; ready = ready; hands = hands; plans = k })
      (answering.known-inquire own l.cpas (length l.output) l.datagram a validate)

  lookup_known : (a target path size start len : ℕ) → target + 32 ≤ length l.datagram → path + size ≤ length l.datagram
      → start + len ≤ length l.datagram → (0 < len → entry_form (part start len l.datagram) ≡ true)
      → Known m l (lookup_plan l.own (rows 100 h m.cache) (rows 140 u m.waiting) h u l.id (length l.output) l.datagram a target path size start len)
  unfolding lookup_plan
  lookup_known a target path size start len within path-within entry-within entry =
      let recs = rows 100 h m.cache in
      let ps = rows 140 u m.waiting in
      let room = length l.output in
      let r = closest_past l.own recs (part path size l.datagram) (key_at target l.datagram) in
      let opens = asks_for (own_keys l.own) recs ps (part start len l.datagram) in
      let K : Plan → Type 0 = answering.KnownLookup l.own recs ps h u l.id room l.datagram a target path size start len in
      or_known (λ (p : Plan). K p → Known m l p) Refuse (lookup_refusals ps u l.id room opens r) (Show h u a target path size opens start len)
      (λ i k. tt)
      (λ f k. record {
        ready = ready;
        hands = hands;
        within = within;
        path-within = path-within;
        entry-within = entry-within;
        entry = entry;
        plans = k;
      })
      (answering.known-lookup l.own recs ps h u l.id room l.datagram a target path size start len)

  entry_known : (head : Head) (s : Bool) (validate : ℕ) (entry : Part) → EntryIn l.datagram entry → Known m l (by_entry m l h u head s validate entry)
  entry_known head s validate (Some p) w = flood_known s head.id validate p.start p.len w.0 w.1
  entry_known head s validate None w = revoke-known s head.id validate

  message-known : (a : T.Incoming) → KnownAnswer l.datagram a → Known m l (plan_for m l h u a)
  unfolding plan_for
  message-known (M.Refused n) w = tt
  message-known (M.Solicit x) w = tt
  message-known (M.Advertise x) w = tt
  message-known (M.Request x) w = tt
  message-known (M.Flood x) w = entry_known x.head x.d x.validate x.entry w.1
  message-known (M.Inquire x) w = inquire_known x.head.id x.validate
  message-known (M.Authority x) w = authority-known x.acked (R.is_here x.fields.cpa)
  message-known (M.Ack x) w = ack-known x.acked x.n
  message-known (M.Lookup x) w =
      let told = entry-told l.datagram x.entry w.1 in
      let path = path-told l.datagram x.path w.2 in
      lookup_known x.head.id x.target (start_of x.path + 8) (size_of x.path - 8) (start_of x.entry) (size_of x.entry) w.0
      (omega (arith, path.0, path.1)) told.0 told.1

memory_known : (m : Memory) (l : Receive) (f : Option Fit) → memory.KnownMemory l.own m f → Known m l (plan_in m l f)
memory_known m l None w = tt
memory_known m l (Some found) w =
    let h = found.held in
    let u = found.used in
    let fit = hands_fit m l in
    or_known (Known m l) Refuse (when 1 (not fit) ∷ []) (plan_for m l h u (R.read_in l.datagram l.major))
    (λ i. tt)
    (λ f. message-known m l h u w (memory.known_hands m l (not-false fit f.0))
    (memory.counted_held l.own m h u w (memory.known_counts m l (not-false fit f.0)))
    (R.read_in l.datagram l.major) (known_answer l.datagram l.major))

pub known : (m : Memory) (l : Receive) → Known m l (receive_plan m l)
unfolding receive_plan
known m l = memory_known m l (memory_of l.own m) (memory.known_memory l.own m)

-- ---- what the commits require

module _ (m : Memory) (l : Receive) where
  pub plan-needs : comes_fit l ≡ true → (cpas_form (length (own_records l.own)) l.cpas ≡ true) × (length l.key ≡ 32)
  plan-needs e = let w = memory.known_comes l e in (w.certified, w.keyed)

  pub known_by : {p : Plan} → receive_plan m l ≡ p → Known m l p
  known_by e = subst (Known m l) e (known m l)

  pub flood-needs : {u : ℕ} {s n : Bool} {a : ℕ} {opens : Bool} {start len : ℕ} → receive_plan m l ≡ Flood u s n a opens start len
      → (opens ≡ true → u < 16) × (length m.waiting ≡ 2240) × Laid 140 u m.waiting × (length l.nonce ≡ 16)
      × (start + len ≤ length l.datagram) × (entry_form (part start len l.datagram) ≡ true)
      × (ack_room s n + inquire_room opens ≤ length l.output)
  flood-needs {u} {s} {n} {a} {opens} {start} {len} e =
      let k : Flooded m l u s n a opens start len = known_by e in (
        λ o. (let few = k.ready.few in let free = k.plans.free o in omega arith),
        k.ready.size,
        k.ready.laid,
        k.hands.nonced,
        k.within,
        k.entry,
        k.plans.fits_in,
      )

  pub revoke-needs : {h u : ℕ} {s n : Bool} {a : ℕ} → receive_plan m l ≡ Revoke h u s n a
      → (own_form l.own ≡ true) × (length l.key ≡ 32) × Form (own_keys l.own) m.cache (rows 100 h m.cache) × (length m.waiting ≡ 2240)
      × Laid 140 u m.waiting × (u ≤ 16) × (ack_room s n ≤ length l.output) × (m.firsts ≡ firsts_of (keys_of (rows 100 h m.cache)))
  revoke-needs {h} {u} {s} {n} {a} e =
      let k : Revoked m l h u s n a = known_by e in
      (k.ready.owned, k.hands.keyed, k.ready.form, k.ready.size, k.ready.laid, k.ready.few, k.plans.fits_in, k.counted)

  pub learn-needs : {h u at : ℕ} → receive_plan m l ≡ Learn h u at
      → (own_form l.own ≡ true) × Form (own_keys l.own) m.cache (rows 100 h m.cache) × (length m.waiting ≡ 2240)
      × Laid 140 u m.waiting × (u ≤ 16) × (at < u) × (record_form (part (140 * at + 40) 100 m.waiting) ≡ true)
      × NotOwn (own_keys l.own) (key_at (140 * at + 40) m.waiting) × (m.firsts ≡ firsts_of (keys_of (rows 100 h m.cache)))
  learn-needs {h} {u} {at} e =
      let k : Learned m l h u at = known_by e in
      let t = m.waiting in
      let own = own_keys l.own in
      let found = subst (λ (v : ℕ). seek (is_at k.acked 2) 0 (rows 140 v t) ≡ Some at) k.ready.used k.plans.waiting.found in
      let key : key_at (140 * at + 40) t ≡ key_at (140 * at + 8) t =
      sym (ap (value_be 256) (part-start (140 * at + 40) 100 32 t (omega arith))) ∙ found-key own t k.ready.tabled k.acked at found in (
        k.ready.owned,
        k.ready.form,
        k.ready.size,
        k.ready.laid,
        k.ready.few,
        omega (arith, k.plans.waiting.within, rows-length 140 u t),
        found-record own t k.ready.tabled k.acked at found,
        λ o. found-other own t k.ready.tabled k.acked at found (subst (IsOwn own) key o),
        k.counted,
      )

  pub free-needs : {h u at : ℕ} {n : Bool} → receive_plan m l ≡ Free h u at n
      → (own_form l.own ≡ true) × Form (own_keys l.own) m.cache (rows 100 h m.cache) × (length m.waiting ≡ 2240)
      × Laid 140 u m.waiting × (u ≤ 16) × (at < u) × (m.firsts ≡ firsts_of (keys_of (rows 100 h m.cache)))
  free-needs {h} {u} {at} {n} e =
      let k : Freed m l h u at n = known_by e in (
        k.ready.owned,
        k.ready.form,
        k.ready.size,
        k.ready.laid,
        k.ready.few,
        omega (arith, k.plans.waiting.within, rows-length 140 u m.waiting),
        k.counted,
      )

  -- of the CPA, and of the AUTHORITY with it
  pub cpa-needs : {a at : ℕ} → receive_plan m l ≡ Certify a at
      → ((n : ℕ) × (at < n) × (cpas_form n l.cpas ≡ true)) × (40 + length (cpa_of at l.cpas) ≤ length l.output)
  cpa-needs {a} {at} e =
      let k : Certified m l a at = known_by e in
      let n = length (own_records l.own) in
      ((n, omega (arith, k.plans.at_is, place_within l.own (key_at k.validate l.datagram) k.plans.ours), k.hands.certified), k.plans.fits_in)

  -- of the INQUIRE, and of the AUTHORITY
  pub show-needs : {h u a target path size : ℕ} {opens : Bool} {start len : ℕ} → receive_plan m l ≡ Show h u a target path size opens start len
      → ((opens ≡ true → u < 16) × (length m.waiting ≡ 2240) × Laid 140 u m.waiting × (length l.nonce ≡ 16)
      × (start + len ≤ length l.datagram) × (opens ≡ true → entry_form (part start len l.datagram) ≡ true))
      × ((own_form l.own ≡ true) × Form (own_keys l.own) m.cache (rows 100 h m.cache) × (target + 32 ≤ length l.datagram)
      × (path + size ≤ length l.datagram)
      × (80 + 16 * count_of (closest_past l.own (rows 100 h m.cache) (part path size l.datagram) (key_at target l.datagram)) + inquire_room opens
      ≤ length l.output))
  show-needs {h} {u} {a} {target} {path} {size} {opens} {start} {len} e =
      let k : Shown m l h u a target path size opens start len = known_by e in (
        (
          λ o. (let few = k.ready.few in let free = k.plans.free o in omega arith),
          k.ready.size,
          k.ready.laid,
          k.hands.nonced,
          k.entry-within,
          shown-entry m l k,
        ),
        (k.ready.owned, k.ready.form, k.within, k.path-within, k.plans.fits_in),
      )
