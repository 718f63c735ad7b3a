-- `cache::learning::learn` meets its contract: a held key has its record replaced, a new one joins. Assumes nothing.
use mathlib.Core.Path.{◌≡◌, sym, ap, ◌∙◌}
use lib.ListN.{length, length-set}
use Rattle.record.specs.Record.{key_of}
use Rattle.own.specs.Own.{own_keys}
use Rattle.table.specs.Rows.{rows, bytes_of, Laid}
use Rattle.table.proofs.RowLaws.{rows-length}
use Rattle.kept.specs.Records.{put_by}
use Rattle.record.proofs.EntryLaws.{form_length}
use Rattle.cache.proofs.FormLaws.{form_laid}
use Rattle.cache.proofs.FindLaws.{found-place, found-held, found_puts}
use Rattle.cache.proofs.LearnLaws.{held_room, told-held}
use native.Mathlib.Omega.{arith}
use Rattle.cache.proofs.learning.learn.Goals.{Start}
use Rattle.cache.proofs.learning.learn.Goals as goal

laid : (s : Start) → Laid 100 s.args.used s.args.cache.now
laid s = form_laid (own_keys s.args.own.now) s.args.used s.args.cache.now s.requires.form

long : (s : Start) → length s.args.«record».now ≡ 100
long s = form_length s.args.«record».now s.requires.own_value.1

pub find-requires : goal.find-requires
find-requires c =
    let s = (goal.at.find-requires c).Start in record { used_in_bounds = (laid s).room; in_bounds = omega (arith, long s); rising = s.requires.form.held.rising }

pub replace_row-requires : goal.replace_row-requires
replace_row-requires c =
    let s = (goal.at.replace_row-requires c).Start in
    let a = s.args in
    (found-place (key_of a.«record».now) a.used a.cache.now c.find.ensures c.in-Ok.is, long s, laid s)

pub learn_new-requires : goal.learn_new-requires
learn_new-requires c =
    let s = (goal.at.learn_new-requires c).Start in
    record { own_value = s.requires.own_value; form = s.requires.form; not_own = s.requires.not_own; cache_value = sym c.find.ensures ∙ c.in-Err.is }

pub returns-in-Ok : goal.returns-in-Ok
returns-in-Ok c =
    let a = c.args in
    let rs = rows 100 a.used a.cache.now in
    let e = found_puts a.«record».now a.used a.cache.now c.find.ensures c.in-Ok.is in
    let n : length (put_by key_of a.«record».now rs) ≡ a.used = ap length (sym e) ∙ simp length-set (rows-length 100 a.used a.cache.now) in record {
      cache_after = c.replace_row.ensures
          ∙ ap (bytes_of (length a.cache.now)) (e ∙ held_room (own_keys a.own.now) a.used a.cache.now a.«record».now c.requires.form
          (omega arith));
      result_value = c.unmoved.ensures
          ∙ told-held (own_keys a.own.now) (length a.cache.now) rs a.«record».now
          (found-held (key_of a.«record».now) a.used a.cache.now c.find.ensures c.in-Ok.is
          c.requires.form.held.rising);
    }
