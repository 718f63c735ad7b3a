-- The record held for a kept key is that of the inquiry last answered for it.
-- In this order: what stands in the tables after an edit; an accepted datagram, by its plan; any call; any sequence of calls. Assumes nothing.
use mathlib.Core.Path.{◌≡◌, refl, sym, ap, subst, ◌∙◌}
use mathlib.Core.Bool.{Bool, true, false}
use mathlib.Core.List.{List, [], ◌∷◌}
use mathlib.Core.Logic.{◌⊎◌, inl, inr}
use mathlib.Core.Option.{some}
use Prim.Native.Nat.{ℕ, zero, suc, ◌*◌, ◌^◌, ◌<◌}
use native.Mathlib.Nat.{mod-lt}
use native.Mathlib.Omega.{arith}
use lib.ListN.{length, get_or, replicate}
use lib.Seq.{length-take-le}
use borrow.Author.Tests.{eq-eqb, ne_eqb}
use Rattle.octet.specs.Number.{digits_le}
use Rattle.octet.specs.Part.{part}
use Rattle.key.specs.Number.{key_at}
use Rattle.record.specs.Record.{key_of, record_form}
use Rattle.record.specs.Entry.{entry_form, record_of}
use Rattle.record.proofs.EntryLaws.{form_length, record_form_lem}
use Rattle.own.proofs.FormLaws.{own_some}
use Rattle.own.specs.Own.{Own, own_keys, IsOwn}
use Rattle.own.proofs.PlaceLaws.{own_not}
use Rattle.table.specs.Rows.{rows, bytes_of, any_of}
use Rattle.table.proofs.RowLaws.{rows-length}
use Rattle.kept.specs.Keys.{◌∈◌, Every}
use Rattle.kept.specs.Plain.{NotOwn, drops}
use Rattle.kept.proofs.RecordLaws.{mem-learn-by, mem-without-by}
use Rattle.cache.specs.Form.{Form, held_of, places_in}
use Rattle.cache.specs.Bytes.{after_learn, after_remove}
use Rattle.cache.proofs.FormLaws.{form-held}
use Rattle.cache.proofs.KeepLaws.{learnt_form, removed_form}
use Rattle.waiting.specs.Place.{id_of, kind_of, place_key, place_record, new_place, inquiry_place, flood_place}
use Rattle.waiting.specs.Form as W
use Rattle.waiting.specs.Form.{is_inquiry, places_of}
use Rattle.table.specs.Seek.{seek}
use Rattle.waiting.specs.Seek.{has_id}
use Rattle.waiting.specs.Open.{opened, freed}
use Rattle.waiting.specs.Tick.{one_less}
use Rattle.std.specs.Prelude.{Option, Some, None}
use Rattle.waiting.proofs.PlaceLaws.{less-id, less-kind, less-record}
use Rattle.waiting.proofs.NewLaws.{new-id, new-record}
use Rattle.waiting.proofs.FormLaws.{form_unique}
use Rattle.waiting.proofs.KeptLaws.{free-kept, open-inquiry}
use Rattle.waiting.proofs.RoundLaws.{All, all_none, all_at, all_map, all_both, all-freed, all-opened, all-ticked}
use Rattle.wire_read.specs.Answers as R
use Rattle.asking.specs.Asking.{must_ask}
use Rattle.asking.specs.Ids.{id_after}
use Rattle.neighbours.specs.Closest.{off_path, closest_past}
use Rattle.neighbours.proofs.ClosestLaws.{closest_formed}
use Rattle.neighbours.proofs.SkipLaws.{off-held}
use Rattle.wire_write.specs.Making.{closest_made}
use Rattle.gauge_commit.proofs.SentLaws.{shown_closest}
use Rattle.gauge_plan.specs.declared.Plan.{Plan}
use Rattle.gauge_plan.specs.declared.Plan.TheVariants.{Refuse, Flood, Revoke, Learn, Free, Certify, Show}
use Rattle.gauge_plan.proofs.MemoryLaws.{Ready}
use Rattle.asking.proofs.AskingLaws.{ask_tells, asks-tells}
use Rattle.gauge_commit.specs.Replies.{freed_at}
use Rattle.gauge_commit.specs.declared.Answer.{Answer}
use Rattle.gauge_commit.proofs.PlaceLaws.{record-place, record_key}
use Rattle.gauge_plan.specs.Lent.{Memory, empty, Receive, Call, receives, sends, ticks, lists}
use Rattle.gauge_commit.specs.Sending.{Handed}
use Rattle.plan_message.specs.Planned.{receive_plan}
use Rattle.gauge.specs.Receive.{carried, receive_call}
use Rattle.gauge.specs.Send.{send_call}
use Rattle.gauge.specs.Counts.{gauge_tick, gauge_list}
use Rattle.plan_message.proofs.PlannedLaws.{Known, Flooded, Shown, known, shown-entry, learn-needs}
use Rattle.gauge_laws.proofs.RefusedLaws.{refused_keeps}
use Rattle.gauge_laws.proofs.MovedLaws.{ready-form, ready-places, receive-ready, send-moved}
use Rattle.gauge_laws.proofs.TickLaws.{tick_round}
use Rattle.gauge_laws.proofs.FormLaws.{send_cache, tick_cache}
use Rattle.gauge.specs.Words.{left, OneKey, Typed, Proper}
use Rattle.gauge.specs.Ours.{ours}
use Rattle.signed.specs.Answered.{AnswerTold, answer_told, told_from, inquires, inquired, that_of, answered_by, answered, first_told, HoldsLastAnswered}
use Rattle.signed.proofs.ToldLaws.{happened, log_happened}
use Rattle.signed.proofs.StepLaws.{moved_all, ran}
use Rattle.signed.proofs.Theorems.{empty-cache, empty-table, start, typed_calls}
use Rattle.signed.proofs.InquiryLaws.{Quiet, Floods, Looks, Heard, heard, asked-still, asked-none, asked-other, asked_here, answered-still, answered-one, inquires-is, inquires-behind}

-- ---- what stands in the tables after an edit

-- what is known of every one that stands in a list
module _ {A : Type 0} (P : A → Type 0) where
  every_in : (q : A) (l : List A) → Every P l → q ∈ l → P q
  every_in q [] a m = absurd m
  every_in q (x ∷ l) a (inl e) = subst P (sym e) a.0
  every_in q (x ∷ l) a (inr m) = every_in q l a.1 m

  every-by : (l : List A) → ((q : A) → q ∈ l → P q) → Every P l
  every-by [] f = tt
  every-by (x ∷ l) f = (f x (inl refl), every-by l (λ q m. f q (inr m)))

-- a record is the first of its key among those of the inquiries answered; a waiting inquiry's record is the one told
abbrev Last : List (List ℕ) → List ℕ → Type 0
Last rs r = first_told (key_of r) rs ≡ some r

abbrev Asked : List AnswerTold → List ℕ → Type 0
Asked es p = kind_of p ≡ 2 → inquired (id_of p) es ≡ some (place_record p)

-- a record learned is the first of its key; those of other keys stay the first of theirs
last_here : (r : List ℕ) (rs : List (List ℕ)) → Last (r ∷ rs) r
unfolding first_told
last_here r rs = rw (eq-eqb (key_of r) (key_of r) refl) refl

last_there : (q r : List ℕ) (rs : List (List ℕ)) → ¬ (key_of q ≡ key_of r) → Last rs q → Last (r ∷ rs) q
unfolding first_told
last_there q r rs other e = rw (ne_eqb (key_of q) (key_of r) other) e

module _ (own : Own) (cache : List ℕ) (recs : List (List ℕ)) (f : Form own cache recs) (rs : List (List ℕ)) (a : Every (Last rs) recs) where
  last-removed : (k : ℕ) → Every (Last rs) (held_of own (bytes_of (length cache) (after_remove k recs)))
  last-removed k =
      subst (Every (Last rs)) (sym (form-held own (bytes_of (length cache) (after_remove k recs)) (after_remove k recs)
      (removed_form own k cache recs f)))
      (every-by (Last rs) (after_remove k recs) (λ q m. every_in (Last rs) q recs a (mem-without-by key_of k q recs m).0))

  last-learnt : (r : List ℕ) → 0 < length own → record_form r ≡ true → NotOwn own (key_of r)
      → Every (Last (r ∷ rs)) (held_of own (bytes_of (length cache) (after_learn own (length cache) recs r)))
  last-learnt r any formed other =
      let after = after_learn own (length cache) recs r in
      subst (Every (Last (r ∷ rs))) (sym (form-held own (bytes_of (length cache) after) after (learnt_form own cache recs r any f formed other)))
      (every-by (Last (r ∷ rs)) after (λ q m. by q (mem-learn-by key_of (drops own) (places_in (length cache)) r q recs f.held.rising m)))
    where
      by : (q : List ℕ) → (q ≡ r) ⊎ ((q ∈ recs) × (¬ (key_of q ≡ key_of r))) → Last (r ∷ rs) q
      by q (inl e) = subst (Last (r ∷ rs)) (sym e) (last_here r rs)
      by q (inr m) = last_there q r rs m.1 (every_in (Last rs) q recs a m.0)

-- what holds of the places holds of those without one
module _ (own : Own) (t : List ℕ) (ps : List (List ℕ)) (f : W.PlacesForm own t ps) (P : List ℕ → Type 0) (a : All P ps) where
  all_found : (found : Option ℕ) → All P (places_of (bytes_of 2240 (freed_at found ps)))
  all_found (Some i) = subst (All P) (form_unique own (bytes_of 2240 (freed i ps)) (freed i ps) (free-kept own t ps f i)) (all-freed P i ps a)
  all_found None = subst (λ (s : List ℕ). All P (places_of s)) f.bytes (subst (All P) (form_unique own t ps f) a)

-- ---- an accepted datagram

-- what holds between two calls
pub record Holds (k : Own) (es : List AnswerTold) (m : Memory) : Type 0 where
  pub asked : All (Asked es) (places_of m.waiting)
  pub last : Every (Last (answered es)) (held_of k m.cache)

asked_later : (es es' : List AnswerTold) → ((id : ℕ) → inquired id es' ≡ inquired id es) → (ps : List (List ℕ)) → All (Asked es) ps → All (Asked es') ps
asked_later es es' same ps a = all_map (Asked es) (Asked es') (λ p h kind. same (id_of p) ∙ h kind) ps a

-- a route entry that is inquired about: the place that opens is that of the INQUIRE, and no other has its ID
module _ (m : Memory) (l : Receive) (es : List AnswerTold) (g : Answer) {h u : ℕ} (fit : Ready l.own m h u) (start len : ℕ)
    (entry : entry_form (part start len l.datagram) ≡ true) where
  abbrev Entry : List ℕ
  Entry = record_of (part start len l.datagram)

  entry-long : length Entry ≡ 100
  entry-long = form_length Entry (record_form_lem (part start len l.datagram) entry)

  opened-asked : (u ≡ 16 → ⊥) → any_of (has_id (id_after l.id)) (rows 140 u m.waiting) ≡ false → ¬ IsOwn (own_keys l.own) (key_of Entry)
      → must_ask (rows 100 h m.cache) (rows 140 u m.waiting) Entry ≡ true
      → inquired (id_after l.id) (answer_told (receives l) g ∷ es) ≡ some Entry
      → All (Asked es) (places_of m.waiting)
      → All (Asked (answer_told (receives l) g ∷ es))
      (places_of (bytes_of 2240 (opened (inquiry_place (id_after l.id) Entry) (rows 140 u m.waiting))))
  opened-asked free new other asks told asked =
      let t = m.waiting in
      let own = own_keys l.own in
      let ps = rows 140 u t in
      let i = id_after l.id in
      let p = inquiry_place i Entry in
      let later = answer_told (receives l) g ∷ es in
      let is = ready-places l.own m fit in
      let form : W.PlacesForm own t ps = subst (W.PlacesForm own t) is (ready-form l.own m fit) in
      let few = fit.few in
      let long = entry-long in
      let short = length-take-le 32 Entry (omega arith) in
      let small : i < 2 ^ 32 = mod-lt _ (omega arith) in
      let formed = record_form_lem (part start len l.datagram) entry in
      let after = open-inquiry own t ps form i Entry (omega (arith, rows-length 140 u t, free)) small long formed
      (own_not own (key_of Entry) other) new (ask_tells _ _ Entry asks).1 in
      let here : Asked later p =
      λ kind. ap (λ (j : ℕ). inquired j later) (new-id i 2 2 (part 0 32 Entry) Entry short long small)
      ∙ told
      ∙ ap (λ (r : List ℕ). some r) (sym (new-record i 2 2 (part 0 32 Entry) Entry short long)) in
      let others : All (Asked later) ps =
      all_both (λ (q : List ℕ). has_id i q ≡ false) (Asked es) (Asked later) (λ q other h kind. asked-other m l g es (id_of q) other ∙ h kind)
      ps (all_none (has_id i) ps new) (subst (All (Asked es)) is asked) in
      subst (All (Asked later)) (form_unique own (bytes_of 2240 (opened p ps)) (opened p ps) after) (all-opened (Asked later) p ps here others)

-- a FLOOD with a route entry
module _ (m : Memory) (l : Receive) (es : List AnswerTold) (u : ℕ) (s n : Bool) (a start len : ℕ) where
  abbrev Given : Bool → Answer
  Given opens = (carried m l (Flood u s n a opens start len)).answer

  asks-told : (opens : Bool) → Flooded m l u s n a opens start len → inquires (Given opens) ≡ opens
  unfolding carried
  asks-told opens k =
      inquires-is l.major l.minor l.id a l.nonce (record_of (part start len l.datagram)) k.hands.nonced
      (entry-long m l es (Given opens) k.ready start len k.entry) s n opens

  flood-asked : (opens : Bool) → Flooded m l u s n a opens start len → Floods m l (R.read_in l.datagram l.major) start len
      → All (Asked es) (places_of m.waiting)
      → All (Asked (answer_told (receives l) (Given opens) ∷ es)) (places_of (carried m l (Flood u s n a opens start len)).memory.waiting)
  unfolding carried
  flood-asked true k f asked =
      opened-asked m l es (Given true) k.ready start len k.entry (k.plans.free refl) (k.plans.new refl) k.plans.other (sym k.plans.opens-is)
      (asked_here m l (Given true) es (record_of (part start len l.datagram)) f.asked (asks-told true k)) asked
  flood-asked false k f asked =
      asked_later es (answer_told (receives l) (Given false) ∷ es) (asked-none m l (Given false) es (asks-told false k)) (places_of m.waiting) asked

-- a LOOKUP
module _ (m : Memory) (l : Receive) (es : List AnswerTold) (h u a target path size start len : ℕ) where
  abbrev Reply : Bool → Answer
  Reply opens = (carried m l (Show h u a target path size opens start len)).answer

  reply-told : (opens : Bool) → Shown m l h u a target path size opens start len → inquires (Reply opens) ≡ opens
  unfolding carried
  reply-told opens k =
      let path_bytes = part path size l.datagram in
      let recs = rows 100 h m.cache in
      let r = closest_past l.own recs path_bytes (key_at target l.datagram) in
      let formed = closest_formed (key_at target l.datagram) (own_keys l.own) l.own (off_path path_bytes recs) k.ready.owned
      (off-held path_bytes (own_keys l.own) recs k.ready.form.held) in
      inquires-behind l.major l.minor l.id l.nonce (record_of (part start len l.datagram))
      (closest_made l.major l.minor l.id a r 0).bytes opens
      (λ e. omega (arith, e, shown_closest l.major l.minor l.id a r formed))
      (λ o. (k.hands.nonced, entry-long m l es (Reply opens) k.ready start len (shown-entry m l k o)))

  show-asked : (opens : Bool) → Shown m l h u a target path size opens start len → Looks m l (R.read_in l.datagram l.major) opens start len
      → All (Asked es) (places_of m.waiting)
      → All (Asked (answer_told (receives l) (Reply opens) ∷ es)) (places_of (carried m l (Show h u a target path size opens start len)).memory.waiting)
  unfolding carried
  show-asked true k f asked =
      let tells = asks-tells (own_keys l.own) (rows 100 h m.cache) (rows 140 u m.waiting) (part start len l.datagram) (sym k.plans.opens-is) in
      opened-asked m l es (Reply true) k.ready start len (shown-entry m l k refl) (k.plans.free refl) (k.plans.new refl) tells.1 tells.2
      (asked_here m l (Reply true) es (record_of (part start len l.datagram)) (f.asked refl) (reply-told true k)) asked
  show-asked false k f asked =
      asked_later es (answer_told (receives l) (Reply false) ∷ es) (asked-none m l (Reply false) es (reply-told false k)) (places_of m.waiting) asked

module _ (m : Memory) (l : Receive) (es : List AnswerTold) (b : Holds (own_keys l.own) es m) where
  abbrev OwnKey : Own
  OwnKey = own_keys l.own

  -- where nothing is answered, and nothing asked
  last-still : (g : Answer) → ((fs : List AnswerTold) → answered_by fs (R.read_in l.datagram l.major) ≡ []) → (cache : List ℕ)
      → Every (Last (answered es)) (held_of OwnKey cache) → Every (Last (answered (answer_told (receives l) g ∷ es))) (held_of OwnKey cache)
  last-still g q cache a = subst (λ (rs : List (List ℕ)). Every (Last rs) (held_of OwnKey cache)) (sym (answered-still m l g es q)) a

  quiet-holds : (g : Answer) (m' : Memory) → Quiet m l (R.read_in l.datagram l.major) → All (Asked es) (places_of m'.waiting)
      → Every (Last (answered es)) (held_of OwnKey m'.cache) → Holds OwnKey (answer_told (receives l) g ∷ es) m'
  quiet-holds g m' q asked last = record {
    asked = asked_later es (answer_told (receives l) g ∷ es) (asked-still m l g es q.asked) (places_of m'.waiting) asked;
    last = last-still g q.answers m'.cache last;
  }

  -- with the records and places as the plan counts them
  module _ {h u : ℕ} (ready : Ready l.own m h u) where
    last-rows : Every (Last (answered es)) (rows 100 h m.cache)
    last-rows = subst (Every (Last (answered es))) (form-held OwnKey m.cache (rows 100 h m.cache) ready.form) b.last

    asked-rows : All (Asked es) (rows 140 u m.waiting)
    asked-rows = subst (All (Asked es)) (ready-places l.own m ready) b.asked

    asked-found : (found : Option ℕ) → All (Asked es) (places_of (bytes_of 2240 (freed_at found (rows 140 u m.waiting))))
    asked-found =
        let ps = rows 140 u m.waiting in
        all_found OwnKey m.waiting ps
        (subst (W.PlacesForm OwnKey m.waiting) (ready-places l.own m ready) (ready-form l.own m ready))
        (Asked es) asked-rows

    last-without : (k : ℕ) → Every (Last (answered es)) (held_of OwnKey (bytes_of (length m.cache) (after_remove k (rows 100 h m.cache))))
    last-without = last-removed OwnKey m.cache (rows 100 h m.cache) ready.form (answered es) last-rows

  plan-holds : (p : Plan) → receive_plan m l ≡ p → Known m l p → Heard m l (R.read_in l.datagram l.major) p
      → Holds OwnKey (answer_told (receives l) (carried m l p).answer ∷ es) (carried m l p).memory
  unfolding carried
  plan-holds (Refuse n) e k q = absurd q
  plan-holds (Flood u s n a opens start len) e k q = record {
    asked = flood-asked m l es u s n a start len opens k q b.asked;
    last = last-still (Given m l es u s n a start len opens) q.answers m.cache b.last;
  }
  plan-holds (Revoke h u s n a) e k q =
      quiet-holds _ _ q (asked-found k.ready (seek (is_inquiry (key_at 0 l.key)) 0 (rows 140 u m.waiting)))
      (last-without k.ready (key_at 0 l.key))
  plan-holds (Learn h u at) e k q =
      let p = get_or (rows 140 u m.waiting) at [] in
      let r = place_record p in
      let g = (carried m l (Learn h u at)).answer in
      let w = q.waiting in
      let needs = learn-needs m l e in
      let is = record-place u m.waiting at needs.5 in
      let was : inquired q.acked es ≡ some r =
      ap (λ (i : ℕ). inquired i es) (sym w.id-is)
      ∙ all_at (Asked es) at (rows 140 u m.waiting) (asked-rows k.ready) w.within w.kind-is in
      let now = answered-one m l g es r (q.answers es ∙ ap that_of was) refl in
      record {
        asked = asked_later es (answer_told (receives l) g ∷ es) (asked-still m l g es q.asked) (places_of (carried m l (Learn h u at)).memory.waiting)
            (asked-found k.ready (Some at));
        last = subst (λ (rs : List (List ℕ)). Every (Last rs) (held_of OwnKey (carried m l (Learn h u at)).memory.cache)) (sym now)
            (last-learnt OwnKey m.cache (rows 100 h m.cache) k.ready.form (answered es) (last-rows k.ready) r (own_some l.own k.ready.owned)
            (sym (ap record_form is) ∙ needs.6) (λ o. needs.7 (subst (IsOwn OwnKey) (sym (sym (record_key u m.waiting at) ∙ ap key_of is)) o)));
      }
  plan-holds (Free h u at true) e k q =
      quiet-holds _ _ q (asked-found k.ready (Some at)) (last-without k.ready (place_key (get_or (rows 140 u m.waiting) at [])))
  plan-holds (Free h u at false) e k q = quiet-holds _ _ q (asked-found k.ready (Some at)) b.last
  plan-holds (Certify a i) e k q = quiet-holds _ _ q b.asked b.last
  plan-holds (Show h u a target path size opens start len) e k q = record {
    asked = show-asked m l es h u a target path size start len opens k q b.asked;
    last = last-still (Reply m l es h u a target path size start len opens) q.answers m.cache b.last;
  }

  receive-holds : (receive_call m l).answer.number ≡ 0
      → Holds OwnKey (answer_told (receives l) (receive_call m l).answer ∷ es) (receive_call m l).memory
  unfolding receive_call
  receive-holds z = plan-holds (receive_plan m l) refl (known m l) (heard m l z)

-- ---- any call

-- a flood's place is none of an inquiry
flood_kind : (id : ℕ) (key : List ℕ) → kind_of (flood_place id key) ≡ 1
unfolding new_place digits_le
flood_kind id key = refl

-- a refused call tells nothing
refused_asked : (c : Call) (g : Answer) (es : List AnswerTold) → 0 < g.number → (id : ℕ) → inquired id (answer_told c g ∷ es) ≡ inquired id es
unfolding inquired
refused_asked (receives l) g es p id = rw (ne_eqb g.number 0 (omega arith)) refl
refused_asked (sends l) g es p id = refl
refused_asked (ticks l) g es p id = refl
refused_asked (lists l) g es p id = refl

refused_answered : (c : Call) (g : Answer) (es : List AnswerTold) → 0 < g.number → answered (answer_told c g ∷ es) ≡ answered es
unfolding answered
refused_answered (receives l) g es p = rw (ne_eqb g.number 0 (omega arith)) refl
refused_answered (sends l) g es p = refl
refused_answered (ticks l) g es p = refl
refused_answered (lists l) g es p = refl

asked-ticked : (es : List AnswerTold) (p : List ℕ) → length p ≡ 140 → Asked es p → Asked es (one_less p)
asked-ticked es p long h kind =
    ap (λ (i : ℕ). inquired i es) (less-id p) ∙ h (sym (less-kind p) ∙ kind) ∙ ap (λ (r : List ℕ). some r) (sym (less-record p))

module _ (k : Own) (es : List AnswerTold) (m : Memory) (b : Holds k es m) where
  accepted-step : (c : Call) → OneKey k c → Typed c → (ours m c).answer.number ≡ 0 → Holds k (answer_told c (ours m c).answer ∷ es) (ours m c).memory
  unfolding inquired answered gauge_tick gauge_list
  accepted-step (receives l) one ty z =
      let is = one (receive-ready m l z).owned in
      subst (λ (j : Own). Holds j (answer_told (receives l) (receive_call m l).answer ∷ es) (receive_call m l).memory) is
      (receive-holds m l es (subst (λ (j : Own). Holds j es m) (sym is) b) z)
  -- the others tell nothing of inquiries
  accepted-step (sends l) one ty z = record {
    asked = moved_all (Asked es) (λ (p : List ℕ). p ≡ flood_place l.id l.neighbour) (places_of m.waiting)
        (places_of (send_call m l).memory.waiting) (λ p is two. let w = sym (ap kind_of is ∙ flood_kind l.id l.neighbour) ∙ two in absurd (omega arith))
        (send-moved m l ty) b.asked;
    last = subst (λ (cache : List ℕ). Every (Last (answered es)) (held_of k cache)) (sym (send_cache m l)) b.last;
  }
  accepted-step (ticks l) one ty z =
      let r = tick_round m l z in
      record {
        asked = rw r.places (all-ticked (Asked es) (Asked es) (asked-ticked es) (places_of m.waiting) r.form.sized b.asked);
        last = subst (λ (cache : List ℕ). Every (Last (answered es)) (held_of k cache)) (sym (tick_cache m l)) b.last;
      }
  accepted-step (lists l) one ty z = record { asked = b.asked; last = b.last }

  call_step : (c : Call) → OneKey k c → Typed c → Holds k (answer_told c (ours m c).answer ∷ es) (ours m c).memory
  call_step c one ty = go (ours m c).answer.number refl
    where
      go : (n : ℕ) → (ours m c).answer.number ≡ n → Holds k (answer_told c (ours m c).answer ∷ es) (ours m c).memory
      go zero z = accepted-step c one ty z
      go (suc n) z =
          let g = (ours m c).answer in
          let p : 0 < g.number = omega (arith, z) in
          subst (Holds k (answer_told c g ∷ es)) (sym (ap (λ (h : Handed). h.memory) (refused_keeps m c p))) (record {
            asked = asked_later es (answer_told c g ∷ es) (refused_asked c g es p) (places_of m.waiting) b.asked;
            last = subst (λ (rs : List (List ℕ)). Every (Last rs) (held_of k m.cache)) (sym (refused_answered c g es p)) b.last;
          })

-- ---- any sequence of calls

all_hold : (k : Own) (es : List AnswerTold) (m : Memory) → Holds k es m → (calls : List Call) → Proper k calls
    → Holds k (told_from ours m es calls) (left ours m calls)
unfolding told_from left
all_hold k es m b [] proper = b
all_hold k es m b (c ∷ calls) proper =
    all_hold k (answer_told c (ours m c).answer ∷ es) (ours m c).memory (call_step k es m b c proper.0.0 proper.0.1) calls proper.1

pub holds_last_answered : HoldsLastAnswered ours
holds_last_answered k C least most calls proper =
    let none-held : Every (Last (answered [])) (held_of k (replicate (100 * C) 0)) =
    subst (Every (Last (answered []))) (sym (form-held k (replicate (100 * C) 0) [] (empty-cache k C least most))) tt in
    let none-waits : All (Asked []) (places_of (replicate 2240 0)) =
    subst (All (Asked [])) (form_unique k (replicate 2240 0) [] (empty-table k C least most)) tt in
    record {
      history = happened ours C calls;
      happened = log_happened [] (empty C) calls (typed_calls k calls proper);
      keys = (ran k C [] [] (empty C) (start k C least most) calls proper).inv.keeps.held;
      last = (all_hold k [] (empty C) (record { asked = none-waits; last = none-held }) calls proper).last;
    }
