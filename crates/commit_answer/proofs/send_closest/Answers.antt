-- `send_closest` meets its contract: the closest record is in form, our own or one held, so that the AUTHORITY is written and fits. Assumes nothing.
use native.Mathlib.Omega.{arith}
use Prim.Native.Nat.{ℕ}
use mathlib.Core.Bool.{true}
use mathlib.Core.Path.{◌≡◌, ap₂, ◌∙◌}
use mathlib.Core.List.{List}
use Rattle.octet.specs.Part.{part}
use Rattle.key.specs.Number.{key_at}
use Rattle.record.specs.Record.{record_form}
use Rattle.own.specs.Own.{own_keys}
use Rattle.table.specs.Rows.{rows}
use Rattle.table.proofs.PieceLaws.{part_lent}
use Rattle.neighbours.specs.Closest.{off_path, closest_past}
use Rattle.neighbours.proofs.ClosestLaws.{closest_formed}
use Rattle.neighbours.proofs.SkipLaws.{off-held}
use Rattle.gauge_commit.proofs.SentLaws.{closest-told, closest_few, closest-sent}
use Rattle.gauge_commit.proofs.PlaceLaws.{target_lent, target_long}
use borrow.Author.Rules.{rules}
use Rattle.commit_answer.proofs.send_closest.Goals.{After-closest-shown, Start}
use Rattle.commit_answer.proofs.send_closest.Goals as goal

-- behind the search
module _ (c : After-closest-shown) where
  abbrev s : Start
  s = (goal.at.After-closest-shown c).Start

  abbrev recs : List (List ℕ)
  recs = rows 100 s.args.held s.args.cache.now

  abbrev path : List ℕ
  path = s.args.path.now

  -- the record shown
  abbrev nearest : List ℕ
  nearest = closest_past s.args.own.now recs path (key_at 0 s.args.target.now)

  is : c.closest-shown.result.now ≡ nearest
  is = c.closest-shown.ensures

  formed : record_form nearest ≡ true
  formed =
      let a = s.args in
      closest_formed (key_at 0 a.target.now) (own_keys a.own.now) a.own.now (off_path path recs) s.requires.0
      (off-held path (own_keys a.own.now) recs s.requires.1.held)

pub closest-shown-requires : goal.closest-shown-requires
closest-shown-requires c =
    let s = c in
    let a = s.args in
    let p = s.requires in
    record { own_value = (p.0, p.2); form = p.1 }

pub returns : goal.returns
returns c =
    let wrote = c in
    let m = (goal.at.returns c).After-closest-shown in
    let a = (s m).args in
    let w = rw (is m) at wrote.write_closest-wrote.ensures in
    let fits = (s m).requires.3 in record {
      value = (
        closest-told a.head.major a.head.minor a.head.id a.acked (nearest m) (formed m) fits w,
        closest_few a.head.major a.head.minor a.head.id a.acked (nearest m) (formed m) fits w,
      );
      output_after = closest-sent a.head.major a.head.minor a.head.id a.acked (nearest m) (formed m) fits w;
    }
