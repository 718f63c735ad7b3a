-- Ours does what the sentences say of an AUTHORITY, ACK, INQUIRE or LOOKUP received. Assumes nothing.
use mathlib.Core.Path.{◌≡◌, refl, sym, ap, ap₂, subst, ◌∙◌}
use mathlib.Core.Bool.{Bool, true, false, cond, ◌&&◌}
use mathlib.Core.List.{List, [], ◌∷◌}
use Prim.Native.Nat.{ℕ}
use lib.Dec.{eqb}
use lib.ListN.{length, get_or}
use borrow.Author.Tests.{eqb-false}
use Rattle.octet.specs.Part.{part}
use Rattle.octet.proofs.PartLaws.{splice_nil}
use Rattle.key.specs.Number.{key_at}
use Rattle.refusal.proofs.TableLaws.{both}
use Rattle.record.specs.Record.{key_of, record_form}
use Rattle.own.specs.Own.{own_keys, own_place, IsOwn}
use Rattle.table.specs.Rows.{joined, bytes_of, any_of}
use Rattle.cache.specs.Form.{held_of}
use Rattle.cache.specs.Bytes.{after_remove}
use Rattle.neighbours.specs.Closest.{off_path, closest_past}
use Rattle.own.proofs.FormLaws.{own_some}
use Rattle.neighbours.proofs.ClosestLaws.{closest-among, closest-least, closest_formed}
use Rattle.neighbours.proofs.SkipLaws.{off-held}
use Rattle.waiting.specs.Place.{place_key, place_record}
use Rattle.waiting.specs.Form.{places_of}
use Rattle.table.specs.Seek.{seek}
use Rattle.waiting.specs.Seek.{is_at, has_id}
use Rattle.waiting.specs.Open.{freed}
use Rattle.std.specs.Prelude.{Some}
use Rattle.waiting.proofs.KeptLaws.{free-kept}
use Rattle.table.proofs.SeekLaws.{found_within}
use Rattle.waiting.proofs.PlaceLaws.{inquiry-record, inquiry-key, inquiry-other}
use Rattle.wire_fields.specs.Kinds.{authority_kinds}
use Rattle.wire_fields.specs.Reading.{contents_in}
use Rattle.wire_fields.specs.Places.{Part}
use Rattle.wire_buffer.specs.Buffer.{start_of}
use Rattle.look.specs.Seen.{size_of}
use Rattle.asking.specs.Ids.{id_after}
use Rattle.wire_write.specs.Sent.{closest_sent}
use Rattle.wire_write.specs.Making.{cpa_made, closest_made}
use Rattle.gauge_plan.specs.Found.{is_nothing, place_of}
use Rattle.gauge_plan.specs.declared.Plan.TheVariants.{Learn, Free, Certify, Show}
use Rattle.gauge_plan.specs.Lent.{Memory, Receive}
use Rattle.gauge_plan.proofs.OpeningLaws.{second_fails}
use Rattle.plan_message.proofs.AnswerLaws.{EntryIn}
use Rattle.gauge.specs.Receive.{carried}
use Rattle.gauge_laws.proofs.FirstLaws.{whole_record}
use Rattle.sentences.specs.Heard.{inquire, authority, ack, lookup, entry_in}
use Rattle.sentences.specs.Sentences as S
use Rattle.sentences.proofs.MembersLaws.{place_formed}
use Rattle.sentences.proofs.MoveLaws.{seek-some, freed-in}
use Rattle.sentences.proofs.LearnLaws.{table_by, removes, learns}
use Rattle.sentences.proofs.WordLaws.{found-waits}
use Rattle.sentences.proofs.OneLaws.{candidate_to, candidate_from}
use Rattle.sentences.proofs.AskedLaws.{opening, asks-iff, asks-written, route-table}
use Rattle.sentences.proofs.PlanLaws.{held, used, Fine, Does, table-form, ids-rise}

module _ (m : Memory) (l : Receive) (ok : Fine m l) where
  abbrev recs : List (List ℕ)
  recs = held_of (own_keys l.own) m.cache

  abbrev ps : List (List ℕ)
  ps = places_of m.waiting

  -- the place that an AUTHORITY or an ACK answers
  module _ (acked kind : ℕ) (bars : is_nothing (seek (is_at acked kind) 0 ps) ≡ false) where
    abbrev at : ℕ
    at = place_of (seek (is_at acked kind) 0 ps)

    found : seek (is_at acked kind) 0 ps ≡ Some at
    found = seek-some (is_at acked kind) ps bars

    freed-table : S.WaitsExactly (own_keys l.own) (bytes_of 2240 (freed at ps)) (λ (q : List ℕ). S.Waits m q × (¬ (q ≡ get_or ps at [])))
    freed-table = table_by (own_keys l.own) _ (freed at ps) _ (free-kept (own_keys l.own) m.waiting ps (table-form m l ok) at)
        (λ q. freed-in q at ps (ids-rise m l ok) (found_within (is_at acked kind) at ps found))

  -- AUTHORITY
  pub authority-does : (acked : ℕ) (cpa : Bool) → is_nothing (seek (is_at acked 2) 0 ps) ≡ false
      → Does m l (authority acked cpa) (Learn (held m l) (used m l) (place_of (seek (is_at acked 2) 0 ps)))
  unfolding carried held_of joined
  authority-does acked cpa bars h beside =
      let i = at acked 2 bars in
      let p = get_or ps i [] in
      let w = found-waits m 2 acked bars in
      let good = place_formed (own_keys l.own) m.waiting ok.ready.tabled p w.0 in
      record {
        x = authority acked cpa;
        hears = h;
        ds = [];
        reply = refl;
        sent = record { counts = refl; bytes = sym (splice_nil 0 l.output) };
        leaves = record {
          p = p;
          answers = w;
          cache = learns (own_keys l.own) (own_some l.own ok.ready.owned) m ok.ready.cached (place_record p) (inquiry-record (own_keys l.own) p good w.2)
              (λ o. inquiry-other (own_keys l.own) p good w.2 (subst (IsOwn (own_keys l.own)) (inquiry-key (own_keys l.own) p good w.2) o));
          table = freed-table acked 2 bars;
        };
        rest = beside;
      }

  -- ACK
  ack-cache : (acked : ℕ) (b : Bool) (p : List ℕ)
      → S.HoldsExactly (own_keys l.own) m.cache (cond b (bytes_of (length m.cache) (after_remove (place_key p) recs)) m.cache)
      (λ (r : List ℕ). S.Holds (own_keys l.own) m r × (¬ ((b ≡ true) × (key_of r ≡ place_key p))))
  ack-cache acked true p =
      let c = removes (own_keys l.own) m ok.ready.cached (place_key p) in
      record {
        form = c.form;
        size = c.size;
        members = λ r. (λ i. let w = (c.members r).0 i in (w.0, λ e. w.1 e.1), λ w. (c.members r).1 (w.0, λ e. w.1 (refl, e)));
      }
  ack-cache acked false p = record { form = ok.ready.cached; size = refl; members = λ r. (λ i. (i, λ e. both e.0 refl), λ w. w.0) }

  pub ack-does : (acked : ℕ) (b : Bool) → is_nothing (seek (is_at acked 1) 0 ps) ≡ false
      → Does m l (ack acked b) (Free (held m l) (used m l) (place_of (seek (is_at acked 1) 0 ps)) b)
  unfolding carried held_of joined
  ack-does acked b bars h beside = record {
    x = ack acked b;
    hears = h;
    ds = [];
    reply = refl;
    sent = record { counts = refl; bytes = sym (splice_nil 0 l.output) };
    leaves = record {
      p = get_or ps (at acked 1 bars) [];
      answers = found-waits m 1 acked bars;
      cache = ack-cache acked b (get_or ps (at acked 1 bars) []);
      table = freed-table acked 1 bars;
    };
    rest = beside;
  }

  -- INQUIRE
  pub inquire-does : (id validate : ℕ) → Does m l (inquire id (key_at validate l.datagram))
      (Certify id (own_place (own_keys l.own) (key_at validate l.datagram)))
  unfolding carried cpa_made
  inquire-does id validate h beside = record {
    x = inquire id (key_at validate l.datagram);
    hears = h;
    ds = _;
    reply = refl;
    sent = record { counts = refl; bytes = refl };
    leaves = refl;
    rest = beside;
  }

  -- LOOKUP
  module _ (id target path size : ℕ) (route : Part) (w : EntryIn l.datagram route)
      (waits : (opening m l route && any_of (has_id (id_after l.id)) ps) ≡ false) (full : (opening m l route && eqb (used m l) 16) ≡ false) where
    abbrev t : ℕ
    t = key_at target l.datagram

    abbrev q : List ℕ
    q = part path size l.datagram

    abbrev r : List ℕ
    r = closest_past l.own recs q t

    -- the record shown is in form
    shown-good : record_form r ≡ true
    unfolding held_of
    shown-good =
        closest_formed t (own_keys l.own) l.own (off_path q recs) ok.ready.owned (off-held q (own_keys l.own) recs ok.ready.form.held)

    pub lookup-does : Does m l (lookup id t q (entry_in (contents_in l.datagram route)))
        (Show (held m l) (used m l) id target path size (opening m l route) (start_of route) (size_of route))
    unfolding carried closest_made held_of
    lookup-does h beside =
        record {
          x = lookup id t q (entry_in (contents_in l.datagram route));
          hears = h;
          ds = _;
          reply = record {
            r = r;
            ask = opening m l route;
            closest = record {
              candidate = candidate_from l.own q recs r (closest-among t l.own (off_path q recs) ok.ready.owned);
              none-closer = λ y i. closest-least t l.own (off_path q recs) y (candidate_to l.own q recs y i);
            };
            asked = asks-iff m l route w;
            are = ap₂ (λ (y : List ℕ) (ds : List (List ℕ)). S.written authority_kinds (closest_sent l.major l.minor l.id id y) ∷ ds)
                (whole_record r shown-good) (asks-written m l route);
          };
          sent = record { counts = refl; bytes = refl };
          leaves = record {
            cache = refl;
            table = route-table m l ok route w (second_fails (opening m l route) (any_of (has_id (id_after l.id)) ps) waits)
                (λ o. eqb-false (used m l) 16 (second_fails (opening m l route) (eqb (used m l) 16) full o));
          };
          rest = beside;
        }
