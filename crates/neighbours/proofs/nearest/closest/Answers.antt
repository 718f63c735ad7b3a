-- `neighbours::nearest::closest` meets its contract: the record at the place found, which is that of one of our records, or a used one. Assumes nothing.
use mathlib.Core.Path.{◌∙◌}
use Prim.Native.Nat.{◌/◌}
use lib.ListN.{length}
use Rattle.own.specs.Own.{own_keys, own_records}
use Rattle.own.proofs.FormLaws.{own_formed}
use Rattle.table.proofs.RowLaws.{rows-length}
use Rattle.neighbours.specs.Where.{Within, Lies}
use Rattle.neighbours.specs.declared.nearest.Spot.{Spot}
use Rattle.neighbours.specs.declared.nearest.Spot.TheVariants.{Own, Held}
use Rattle.cache.proofs.FormLaws.{form_laid}
use native.Mathlib.Omega.{arith}
use Rattle.neighbours.proofs.nearest.closest.Goals.{Start}
use Rattle.neighbours.proofs.nearest.closest.Goals as goal

lies : (s : Start) (x : Spot) → Within (length (own_records s.args.own.now)) s.args.used x → Lies s.args.own.now s.args.cache.now x
lies s (Own i) w =
    let own = s.args.own.now in
    omega (arith, w, rows-length 100 (length own / 100) own, (own_formed own s.requires.own_value.0).many)
lies s (Held i) w =
    omega (arith, w, (form_laid (own_keys s.args.own.now) s.args.used s.args.cache.now s.requires.form).room)

pub count_under-place-requires : goal.count_under-place-requires
count_under-place-requires c =
    let s = c in
    record { in_bounds = s.requires.own_value.1; used_in_bounds = (form_laid (own_keys s.args.own.now) s.args.used s.args.cache.now s.requires.form).room; rising = s.requires.form.held.rising }

pub record_at-requires : goal.record_at-requires
record_at-requires c = lies (goal.at.record_at-requires c).Start c.place_of_closest-spot.result c.place_of_closest-spot.ensures.within

pub returns : goal.returns
returns c = c.record_at.ensures ∙ c.place_of_closest-spot.ensures.result_value
