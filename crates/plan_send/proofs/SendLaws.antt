-- Laws of the plan for a FLOOD to send.
-- In this order: where a record is held; the record sent; the plan by the tests that the code makes; what is known of a plan. Assumes nothing.
use mathlib.Core.Path.{◌≡◌, refl, sym, ap, ap₂, subst, ◌∙◌}
use mathlib.Core.Bool.{Bool, true, false, not, ◌&&◌}
use mathlib.Core.List.{List, [], ◌∷◌, ◌++◌}
use Prim.Native.Nat.{ℕ, zero, suc, ◌+◌, ◌*◌, ◌≤◌, ◌<◌}
use native.Mathlib.Nat.{add-zero, zero-add}
use native.Mathlib.Omega.{arith}
use lib.Dec.{eqb, ltb}
use lib.ListN.{length, get_or}
use borrow.Author.Tests.{lt-ltb, le-ltb, eq-eqb, ne_eqb, eqb-true, eqb-false, ltb-false, not-false}
use Rattle.octet.specs.Part.{part}
use Rattle.octet.proofs.TestLaws.{both_true}
use Rattle.key.specs.Number.{key_at}
use Rattle.key.proofs.OrderLaws.{Stand, stand}
use Rattle.key.proofs.OrderLaws.Stand.{below, equal, above}
use Rattle.record.specs.Record.{key_of, count_of, record_form}
use Rattle.own.specs.Own.{own_form, own_keys, own_record, own_place, is_own}
use Rattle.own.proofs.PlaceLaws.{own_in, place_key_lem}
use Rattle.refusal.specs.Table.{Refusal, when, first_of, or_refuse}
use Rattle.refusal.proofs.CallLaws.{or_known, row_applies, row_passes, no_row}
use Rattle.table.specs.Rows.{rows, any_of}
use Rattle.table.proofs.RowLaws.{rows-length, row_at}
use Rattle.kept.specs.Keys.{Every, Rising, plain}
use Rattle.cache.specs.Form.{Form, keys_of, held_in, held_of}
use Rattle.cache.specs.Place.{further, find_key}
use Rattle.std.specs.Result.{result_ok}
use Rattle.std.specs.Prelude.{Option, Some, None, Result, Ok, Err}
use Rattle.cache.proofs.LentLaws.{not_is, not_isn't}
use Rattle.waiting.specs.Form.{used_of}
use Rattle.waiting.specs.Seek.{has_id}
use Rattle.table.specs.Seek.{seek}
use Rattle.table.proofs.SeekLaws.{found_within, found_passes}
use Rattle.gauge_plan.specs.Lent.{Memory}
use Rattle.gauge_plan.specs.Memory.{fitness, tables_fit, memory_of}
use Rattle.gauge_plan.specs.Found.{is_nothing, place_of}
use Rattle.gauge_plan.specs.Opening.{open_rows}
use Rattle.gauge_plan.proofs.OwnLaws.{place_within, record-room, record-formed}
use Rattle.plan_send.specs.Send.{sent_at, keys_fit, held_at, record_sent, flood_room, send_table, sends_at, send_done, send_refusals, sending_plan}
use Rattle.plan_send.specs.declared.Flood.{Flood}
use Rattle.gauge_plan.proofs.MemoryLaws.{Ready, KnownMemory, known_memory, ready}
use Rattle.gauge_plan.proofs.FoundLaws.{some_found}
use Rattle.gauge_plan.proofs.OpeningLaws.{open-refuses, open-passes}

-- ---- where a record is held: the cache's search among rising keys finds the first record with the key

abbrev has_key : ℕ → List ℕ → Bool
has_key k r = eqb (key_of r) k

-- the place found, in a list whose first is number n
abbrev told : ℕ → Result ℕ ℕ → Option ℕ
told n (Ok i) = Some (n + i)
told n (Err i) = None

told-further : (n : ℕ) (f : Result ℕ ℕ) → told (n + 1) f ≡ told n (further f)
told-further n (Ok i) = let e : n + 1 + i ≡ n + suc i = omega arith in ap Some e
told-further n (Err i) = refl

-- a key below all of them
find_low : (k low : ℕ) (ks : List ℕ) → k < low → Rising plain low ks → find_key k ks ≡ Err 0
unfolding find_key
find_low k low [] h r = refl
find_low k low (j ∷ ks) h r = rw (le-ltb j k (omega (arith, r.0)), ne_eqb j k (omega (arith, r.0))) refl

seek_find : (k low n : ℕ) (recs : List (List ℕ)) → Rising plain low (keys_of recs) → seek (has_key k) n recs ≡ told n (find_key k (keys_of recs))
unfolding seek find_key
seek_find k low n [] r = refl
seek_find k low n (x ∷ xs) r = go (stand (key_of x) k) (seek_find k (suc (key_of x)) (n + 1) xs r.1)
  where
    go : Stand (key_of x) k → seek (has_key k) (n + 1) xs ≡ told (n + 1) (find_key k (keys_of xs))
        → seek (has_key k) n (x ∷ xs) ≡ told n (find_key k (keys_of (x ∷ xs)))
    go (below h) ih = rw (ne_eqb (key_of x) k (omega arith), lt-ltb (key_of x) k h) (ih ∙ told-further n (find_key k (keys_of xs)))
    go (equal h) ih = rw (le-ltb (key_of x) k (omega arith), eq-eqb (key_of x) k h) (ap Some (sym (add-zero n)))
    go (above h) ih =
        rw (ne_eqb (key_of x) k (omega arith), le-ltb (key_of x) k (omega arith))
        (ih ∙ ap (told (n + 1)) (find_low k (suc (key_of x)) (keys_of xs) (omega arith) r.1))

ok-told : (f : Result ℕ ℕ) → result_ok f ≡ told 0 f
ok-told (Ok i) = ap Some (sym (zero-add i))
ok-told (Err i) = refl

module _ (k : ℕ) (recs : List (List ℕ)) (rises : Rising plain 0 (keys_of recs)) {f : Result ℕ ℕ} (is : f ≡ find_key k (keys_of recs)) where
  found-told : {g : Result ℕ ℕ} → f ≡ g → held_at k recs ≡ told 0 g
  found-told e = seek_find k 0 0 recs rises ∙ ap (told 0) (sym is ∙ e)

  pub held-ok : result_ok f ≡ held_at k recs
  held-ok = ok-told f ∙ sym (found-told refl)

-- ---- the record sent

one_fails : (a b : Bool) → not a && b ≡ false → a ≡ false → b ≡ false
one_fails false b e h = e
one_fails true b e h = let z : ◌≡◌ {A = ℕ} 0 1 = cc in absurd (omega arith)

-- where it is not ours it is held
module _ (k held : ℕ) (cache : List ℕ) {ours missing : Bool} (m : missing ≡ is_nothing (held_at k (rows 100 held cache)))
    (some : not ours && missing ≡ false) (other : ours ≡ false) where
  pub sent-held : held_at k (rows 100 held cache) ≡ Some (place_of (held_at k (rows 100 held cache)))
  sent-held = some_found (held_at k (rows 100 held cache)) (sym m ∙ one_fails ours missing some other)

  pub sent-within : place_of (held_at k (rows 100 held cache)) < held
  sent-within = omega (arith, found_within (has_key k) _ (rows 100 held cache) sent-held, rows-length 100 held cache)

  pub sent-room : 100 * held ≤ length cache → {at : ℕ} → at ≡ place_of (held_at k (rows 100 held cache)) → 100 * at + 100 ≤ length cache
  sent-room h e = omega (arith, sent-within)

-- ---- the plan by the tests that the code makes

module _ (own cache : List ℕ) (recs ps : List (List ℕ)) (used id room neighbour k : ℕ) where
  abbrev pub planned : Result Flood ℕ
  planned = or_refuse Err (send_table own cache recs ps used id room neighbour k) (send_done own recs used k)

  pub send-nobody : is_nothing (held_at neighbour recs) ≡ true → planned ≡ Err 12
  unfolding or_refuse
  send-nobody e = rw e refl

  module _ (to : is_nothing (held_at neighbour recs) ≡ false) {ours missing : Bool} (o : ours ≡ is_own (own_keys own) k)
      (m : missing ≡ is_nothing (held_at k recs)) where
    pub send-missing : not ours && missing ≡ true → planned ≡ Err 12
    unfolding or_refuse
    send-missing e = rw (to, sym o, sym m, e) refl

    -- with what stands against the place to open
    module _ (some : not ours && missing ≡ false) {barred : ℕ} (eb : barred ≡ first_of (open_rows true ps used id)) where
      abbrev rest : List Refusal
      rest = when 15 (ltb room (flood_room (record_sent own cache ours (sent_at own recs k)))) ∷ []

      send-known-to : planned ≡ or_refuse Err (open_rows true ps used id ++ rest) (sends_at used ours (sent_at own recs k))
      send-known-to = row_passes Err 12 _ _ _ to ∙ rw (sym o, sym m) (row_passes Err 12 _ _ _ some)

      pub send-barred : 0 < barred → planned ≡ Err barred
      send-barred p = send-known-to ∙ open-refuses Err true ps used id rest _ eb p

      module _ (clear : barred ≡ 0) {at count : ℕ} (p : at ≡ sent_at own recs k) (n : count ≡ count_of (record_sent own cache ours at)) where
        send-room : planned ≡ or_refuse Err (when 15 (ltb room (100 + 16 * count)) ∷ []) (sends_at used ours at)
        send-room = send-known-to ∙ open-passes Err true ps used id rest _ eb clear ∙ rw (sym p, sym n) refl

        pub send-long : room < 100 + 16 * count → planned ≡ Err 15
        send-long e = send-room ∙ row_applies Err 15 _ _ _ (lt-ltb room (100 + 16 * count) e)

        pub send-fits : 100 + 16 * count ≤ room → planned ≡ sends_at used ours at
        send-fits e = send-room ∙ row_passes Err 15 _ _ _ (le-ltb room (100 + 16 * count) e) ∙ no_row Err _

module _ (own : List ℕ) (m : Memory) (id : ℕ) (neighbour key : List ℕ) (room : ℕ) where
  pub send-unfit : memory_of own m ≡ None → sending_plan own m id neighbour key room ≡ Err 1
  unfolding sending_plan
  send-unfit e = row_applies Err 1 _ _ _ (not_isn't (subst (KnownMemory own m) e (known_memory own m)))

  module _ {h u : ℕ} (fit : memory_of own m ≡ fitness h u) where
    pub send-ready : Ready own m h u
    send-ready = subst (KnownMemory own m) fit (known_memory own m)

    all_fit : tables_fit own m ≡ true
    unfolding tables_fit
    all_fit = rw (send-ready.owned, send-ready.cached, send-ready.tabled) refl

    pub send-keys : keys_fit neighbour key ≡ false → sending_plan own m id neighbour key room ≡ Err 1
    unfolding sending_plan
    send-keys e = row_passes Err 1 _ _ _ (not_is all_fit) ∙ row_applies Err 1 _ _ _ (not_isn't e)

    pub send-planned : keys_fit neighbour key ≡ true
        → sending_plan own m id neighbour key room
        ≡ planned own m.cache (rows 100 h m.cache) (rows 140 u m.waiting) u id room (key_at 0 neighbour) (key_at 0 key)
    unfolding sending_plan held_of
    send-planned e =
        row_passes Err 1 _ _ _ (not_is all_fit) ∙ row_passes Err 1 _ _ _ (not_is e)
        ∙ ap₂ (λ (h u : ℕ). planned own m.cache (rows 100 h m.cache) (rows 140 u m.waiting) u id room (key_at 0 neighbour) (key_at 0 key))
        (sym send-ready.held) (sym send-ready.used)

    pub send-needs : keys_fit neighbour key ≡ true
        → (own_form own ≡ true) × Form (own_keys own) m.cache (rows 100 h m.cache) × (140 * u ≤ length m.waiting) × (length neighbour ≡ 32) × (length key ≡ 32)
    send-needs e =
        let w = both_true (eqb (length neighbour) 32) (eqb (length key) 32) e in (
          send-ready.owned,
          send-ready.form,
          send-ready.laid.room,
          eqb-true (length neighbour) 32 w.0,
          eqb-true (length key) 32 w.1,
        )

-- ---- what is known of a plan

formed_at_lem : (i : ℕ) (recs : List (List ℕ)) → Every (λ (r : List ℕ). record_form r ≡ true) recs → i < length recs → record_form (get_or recs i []) ≡ true
formed_at_lem i [] w h = absurd (omega arith)
formed_at_lem zero (r ∷ recs) w h = w.0
formed_at_lem (suc i) (r ∷ recs) w h = formed_at_lem i recs w.1 (omega arith)

-- a FLOOD is planned: the neighbour is held, the record is ours or held and has the key given, the ID does not wait, a place is free, and there
-- is room
pub record Sent (own : List ℕ) (m : Memory) (id : ℕ) (neighbour key : List ℕ) (room u : ℕ) (ours : Bool) (at : ℕ) : Type 0 where
  pub ready : Ready own m (held_in (own_keys own) m.cache) u
  pub addressed : length neighbour ≡ 32
  pub keyed : length key ≡ 32
  pub reached : is_nothing (held_at (key_at 0 neighbour) (held_of (own_keys own) m.cache)) ≡ false
  pub ours-is : ours ≡ is_own (own_keys own) (key_at 0 key)
  pub at_is : at ≡ sent_at own (held_of (own_keys own) m.cache) (key_at 0 key)
  pub own-within : ours ≡ true → 100 * at + 100 ≤ length own
  pub within : ours ≡ false → 100 * at + 100 ≤ length m.cache
  pub formed : record_form (record_sent own m.cache ours at) ≡ true
  pub key-is : key_of (record_sent own m.cache ours at) ≡ key_at 0 key
  pub new : any_of (has_id id) (rows 140 u m.waiting) ≡ false
  pub free : u < 16
  pub fits_in : flood_room (record_sent own m.cache ours at) ≤ room

-- where it stands
pub other_at : (own : List ℕ) (recs : List (List ℕ)) (k : ℕ) → is_own (own_keys own) k ≡ false → sent_at own recs k ≡ place_of (held_at k recs)
other_at own recs k o = rw o refl

own_at : (own : List ℕ) (recs : List (List ℕ)) (k : ℕ) → is_own (own_keys own) k ≡ true → sent_at own recs k ≡ own_place (own_keys own) k
own_at own recs k o = rw o refl

pub own_room : (own : List ℕ) (recs : List (List ℕ)) (k : ℕ) → own_form own ≡ true → is_own (own_keys own) k ≡ true → 100 * sent_at own recs k + 100 ≤ length own
own_room own recs k owned o =
    omega (arith, own_at own recs k o, record-room own owned (own_place (own_keys own) k) (place_within own k (own_in (own_keys own) k o)))

-- the record sent is in form and has the key
module _ (own cache : List ℕ) (k held : ℕ) (owned : own_form own ≡ true) (form : Form (own_keys own) cache (rows 100 held cache)) where
  sent-formed : (ours : Bool) (at : ℕ) → ours ≡ is_own (own_keys own) k → (ours ≡ true → at ≡ own_place (own_keys own) k)
      → (ours ≡ false → held_at k (rows 100 held cache) ≡ Some at) → (record_form (record_sent own cache ours at) ≡ true) × (key_of (record_sent own cache ours at) ≡ k)
  sent-formed true at is place found =
      let o = own_in (own_keys own) k (sym is) in
      let e : own_record own (own_place (own_keys own) k) ≡ own_record own at = ap (own_record own) (sym (place refl)) in
      (sym (ap record_form e) ∙ record-formed own owned (own_place (own_keys own) k) (place_within own k o), sym (ap key_of e) ∙ place_key_lem own k o)
  sent-formed false at is place found =
      let recs = rows 100 held cache in
      let n = found_within (has_key k) at recs (found refl) in
      let here : get_or recs at [] ≡ part (100 * at) 100 cache = row_at 100 held cache at (omega (arith, n, rows-length 100 held cache)) in (
        sym (ap record_form here) ∙ formed_at_lem at recs form.held.formed n,
        sym (ap key_of here) ∙ eqb-true (key_of (get_or recs at [])) k (found_passes (has_key k) at recs (found refl)),
      )

module _ (own : List ℕ) (m : Memory) (id : ℕ) (neighbour key : List ℕ) (room : ℕ) where
  abbrev pub KnownSend : Result Flood ℕ → Type 0
  KnownSend (Err n) = Unit {0}
  KnownSend (Ok f) = Sent own m id neighbour key room f.used f.ours f.at

  pub known-send : KnownSend (sending_plan own m id neighbour key room)
  unfolding sending_plan held_of
  known-send =
      let held = held_in (own_keys own) m.cache in
      let used = used_of m.waiting in
      let recs = rows 100 held m.cache in
      let k = key_at 0 key in
      let ours = is_own (own_keys own) k in
      let at = sent_at own recs k in
      or_known KnownSend Err (send_refusals own m id neighbour key room) (send_done own recs used k)
      (λ n. tt)
      (λ f.
      let fit = ready own m (not-false (tables_fit own m) f.0) in
      let keys = both_true (eqb (length neighbour) 32) (eqb (length key) 32) (not-false (keys_fit neighbour key) f.1.0) in
      let rest = f.1.1.1 in
      let sent = sent-formed own m.cache k held fit.owned fit.form ours at refl (own_at own recs k)
      (λ o. sent-held k held m.cache refl rest.0 o ∙ ap Some (sym (other_at own recs k o))) in
      record {
        ready = fit;
        addressed = eqb-true (length neighbour) 32 keys.0;
        keyed = eqb-true (length key) 32 keys.1;
        reached = f.1.1.0;
        ours-is = refl;
        at_is = refl;
        own-within = own_room own recs k fit.owned;
        within = λ o. sent-room k held m.cache refl rest.0 o fit.room (other_at own recs k o);
        formed = sent.0;
        key-is = sent.1;
        new = rest.1.0;
        free = (let most = fit.few in let other = eqb-false used 16 rest.1.1.0 in omega arith);
        fits_in = ltb-false room (flood_room (record_sent own m.cache ours at)) rest.1.1.1.0;
      })
