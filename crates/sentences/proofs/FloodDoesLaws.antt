-- Ours does what the sentences say of a FLOOD received, with a route entry and with a revocation. Assumes nothing.
use mathlib.Core.Path.{◌≡◌, refl, subst}
use mathlib.Core.Logic.{◌⊎◌, inl, inr}
use mathlib.Core.Bool.{Bool, true, false, cond, ◌&&◌}
use mathlib.Core.List.{List}
use Prim.Native.Nat.{ℕ}
use native.Mathlib.Nat.{mod-lt}
use native.Mathlib.Omega.{arith}
use lib.Dec.{eqb}
use borrow.Author.Tests.{eqb-false}
use Rattle.octet.specs.Part.{part}
use Rattle.key.specs.Number.{key_at}
use Rattle.record.specs.Entry.{entry_form, record_of}
use Rattle.record.proofs.EntryLaws.{form_length, record_form_lem}
use Rattle.own.specs.Own.{own_keys}
use Rattle.refusal.proofs.TableLaws.{AllFail, both}
use Rattle.table.specs.Rows.{bytes_of, any_of}
use Rattle.table.proofs.RowLaws.{rows-length}
use Rattle.cache.specs.Form.{held_of}
use Rattle.waiting.specs.Place.{inquiry_place}
use Rattle.waiting.specs.Form.{is_inquiry, places_of}
use Rattle.table.specs.Seek.{seek}
use Rattle.waiting.specs.Seek.{has_id}
use Rattle.waiting.specs.Open.{opened}
use Rattle.std.specs.Prelude.{Option, Some, None}
use Rattle.waiting.proofs.FormLaws.{form-placed}
use Rattle.waiting.proofs.KeptLaws.{free-kept, open-inquiry}
use Rattle.waiting.specs.Form as W
use Rattle.std.specs.Prelude.{Some, None}
use Rattle.wire_fields.specs.Places.{Part, here}
use Rattle.wire_read.specs.declared.Head.{Head}
use Rattle.wire_write.specs.Making.{ack_made, inquire_made}
use Rattle.asking.specs.Ids.{id_after}
use Rattle.gauge_plan.specs.Own.{not_ours}
use Rattle.asking.specs.Asking.{must_ask}
use Rattle.plan_flood.specs.Flood.{flood_plan, revoke_plan}
use Rattle.gauge_plan.specs.declared.Plan.TheVariants.{Flood, Revoke}
use Rattle.gauge_commit.specs.Replies.{freed_at}
use Rattle.gauge_plan.specs.Lent.{Memory, Receive}
use Rattle.plan_message.specs.Planned.{by_entry}
use Rattle.gauge.specs.Receive.{carried}
use Rattle.plan_message.proofs.AnswerLaws.{EntryIn}
use Rattle.gauge_laws.specs.Table.{flood_table}
use Rattle.sentences.specs.Heard.{entry, revoke}
use Rattle.sentences.specs.Sentences as S
use Rattle.sentences.proofs.MoveLaws.{opened_in, none-inquires}
use Rattle.sentences.proofs.LearnLaws.{table_by, removes}
use Rattle.sentences.proofs.HeardLaws.{said_by}
use Rattle.sentences.proofs.WordLaws.{must_iff, none-asked}
use Rattle.sentences.proofs.OursLaws.{ours_iff}
use Rattle.sentences.proofs.PlanLaws.{held, used, Fine, Does, table-form, ids-rise, passed}

-- of two tests that do not hold together, where the first does the second does not
second_fails : (a b : Bool) → a && b ≡ false → a ≡ true → b ≡ false
second_fails true b e h = e
second_fails false b e h = both h refl

module _ (m : Memory) (l : Receive) (ok : Fine m l) where
  abbrev recs : List (List ℕ)
  recs = held_of (own_keys l.own) m.cache

  abbrev ps : List (List ℕ)
  ps = places_of m.waiting

  -- FLOOD with a route entry
  module _ (id : ℕ) (s : Bool) (validate start len : ℕ) (formed : entry_form (part start len l.datagram) ≡ true)
      (bars : AllFail (flood_table m l s validate (here start len))) where
    abbrev r : List ℕ
    r = record_of (part start len l.datagram)

    abbrev n : Bool
    n = not_ours (own_keys l.own) validate l.datagram

    entry-table : (b : Bool) → must_ask recs ps r ≡ b
        → S.WaitsExactly (own_keys l.own) (cond b (bytes_of 2240 (opened (inquiry_place (id_after l.id) r) ps)) m.waiting)
        (λ (p : List ℕ). S.Waits m p ⊎ (S.MustAsk (own_keys l.own) m r × (p ≡ inquiry_place (id_after l.id) r)))
    entry-table true e =
        let must = (must_iff (own_keys l.own) m r).0 e in
        let good = record_form_lem (part start len l.datagram) formed in
        let full = eqb-false (used m l) 16 (second_fails (must_ask recs ps r) (eqb (used m l) 16) bars.1.1.0 e) in
        let g = open-inquiry (own_keys l.own) m.waiting ps (table-form m l ok) (id_after l.id) r
        (omega (arith, rows-length 140 (used m l) m.waiting, ok.ready.few, full))
        (mod-lt _ (omega arith)) (form_length r good) good bars.0
        (second_fails (must_ask recs ps r) (any_of (has_id (id_after l.id)) ps) bars.1.0 e)
        (none-asked (own_keys l.own) m r must) in
        table_by (own_keys l.own) _ (opened (inquiry_place (id_after l.id) r) ps) _ g
        (λ q. (
          λ i. elim ((opened_in (inquiry_place (id_after l.id) r) q ps).0 i) [ inl w ↦ inl w | inr w ↦ inr (must, w) ],
          λ i. (opened_in (inquiry_place (id_after l.id) r) q ps).1 (elim i [ inl w ↦ inl w | inr w ↦ inr w.1 ]),
        ))
    entry-table false e = table_by (own_keys l.own) m.waiting ps _ (table-form m l ok)
        (λ q. (λ i. inl i, λ i. elim i [ inl w ↦ w | inr w ↦ both ((must_iff (own_keys l.own) m r).1 w.0) e ]))

    entry-does : Does m l (entry id s (key_at validate l.datagram) r) (Flood (used m l) s n id (must_ask recs ps r) start len)
    unfolding carried ack_made inquire_made
    entry-does h beside = record {
      x = entry id s (key_at validate l.datagram) r;
      hears = h;
      ds = _;
      reply = record {
        n = n;
        ask = must_ask recs ps r;
        set = ours_iff (own_keys l.own) (key_at validate l.datagram);
        asked = must_iff (own_keys l.own) m r;
        are = refl;
      };
      sent = record { counts = refl; bytes = refl };
      leaves = record { cache = refl; table = entry-table (must_ask recs ps r) refl };
      rest = beside;
    }

  -- FLOOD with a revocation
  revoke-does : (id : ℕ) (s : Bool) (validate : ℕ)
      → Does m l (revoke id s (key_at validate l.datagram)) (Revoke (held m l) (used m l) s (not_ours (own_keys l.own) validate l.datagram) id)
  unfolding carried ack_made held_of
  revoke-does id s validate h beside =
      let u = key_at 0 l.key in
      record {
        x = revoke id s (key_at validate l.datagram);
        hears = h;
        ds = _;
        reply = record {
          n = not_ours (own_keys l.own) validate l.datagram;
          set = ours_iff (own_keys l.own) (key_at validate l.datagram);
          are = refl;
        };
        sent = record { counts = refl; bytes = refl };
        leaves = record {
          cache = removes (own_keys l.own) m ok.ready.cached u;
          table = table_by (own_keys l.own) _ (freed_at (seek (is_inquiry u) 0 ps) ps) _ (freed-form (seek (is_inquiry u) 0 ps))
              (λ q. none-inquires (own_keys l.own) u q ps (form-placed (own_keys l.own) m.waiting ok.ready.tabled) (ids-rise m l ok));
        };
        rest = beside;
      }
    where
      freed-form : (found : Option ℕ) → W.PlacesForm (own_keys l.own) (bytes_of 2240 (freed_at found ps)) (freed_at found ps)
      freed-form (Some i) = free-kept (own_keys l.own) m.waiting ps (table-form m l ok) i
      freed-form None = subst (λ (t : List ℕ). W.PlacesForm (own_keys l.own) t ps) (table-form m l ok).bytes (table-form m l ok)

  -- any FLOOD
  pub flood-does : (head : Head) (s : Bool) (validate : ℕ) (route : Part) → EntryIn l.datagram route → AllFail (flood_table m l s validate route)
      → Does m l (said_by l.datagram head.id s validate route) (by_entry m l (held m l) (used m l) head s validate route)
  unfolding flood_plan revoke_plan held_of
  flood-does head s validate (Some p) w bars = passed m l _ _ _ bars (entry-does head.id s validate p.start p.len w.1 bars)
  flood-does head s validate None w bars = passed m l _ _ _ bars (revoke-does head.id s validate)
