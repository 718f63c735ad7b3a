-- `cache::learning::remove` meets its contract: the place found goes, or nothing where the key is not held. Assumes nothing.
use mathlib.Core.Path.{ap, ◌∙◌}
use mathlib.Core.Bool.{true, false}
use lib.ListN.{length}
use Rattle.key.specs.Number.{key_at}
use Rattle.own.specs.Own.{own_keys}
use Rattle.table.specs.Rows.{rows, bytes_of, Laid}
use Rattle.table.proofs.RowLaws.{laid-bytes}
use Rattle.cache.specs.Change.{changes}
use Rattle.cache.proofs.FormLaws.{form_laid}
use Rattle.cache.proofs.FindLaws.{found-place, found-held, found-removes}
use Rattle.cache.proofs.LearnLaws.{told-removed, told-kept}
use Rattle.cache.proofs.learning.remove.Goals.{Start}
use Rattle.cache.proofs.learning.remove.Goals as goal

laid : (s : Start) → Laid 100 s.args.used s.args.cache.now
laid s = form_laid (own_keys s.args.own.now) s.args.used s.args.cache.now s.requires.form

pub find-requires : goal.find-requires
find-requires c =
    let s = (goal.at.find-requires c).Start in record { used_in_bounds = (laid s).room; in_bounds = s.requires.in_bounds; rising = s.requires.form.held.rising }

pub returns-in_default : goal.returns-in_default
returns-in_default c =
    let s = (goal.at.returns-in_default c).Start in
    let a = s.args in
    let k = key_at 0 a.key.now in record {
      cache_after = laid-bytes 100 a.used a.cache.now (laid s)
          ∙ ap (bytes_of (length a.cache.now))
          (found-removes k a.used a.cache.now c.find.ensures c.in_default.is s.requires.form.held.rising);
      result_value = c.unmoved.ensures
          ∙ told-kept k (rows 100 a.used a.cache.now)
          (found-held k a.used a.cache.now c.find.ensures c.in_default.is s.requires.form.held.rising);
    }

pub remove_row-requires : goal.remove_row-requires
remove_row-requires c =
    let s = (goal.at.remove_row-requires c).Start in
    let a = s.args in
    (found-place (key_at 0 a.key.now) a.used a.cache.now c.find.ensures c.in-Ok.is, laid s)

pub returns : goal.returns
returns c =
    let a = c.args in
    let k = key_at 0 a.key.now in record {
      cache_after = c.remove_row.ensures
          ∙ ap (bytes_of (length a.cache.now))
          (found-removes k a.used a.cache.now c.find.ensures c.in-Ok.is c.requires.form.held.rising);
      result_value = ap (changes false true) c.key_at.ensures
          ∙ told-removed k (rows 100 a.used a.cache.now)
          (found-held k a.used a.cache.now c.find.ensures c.in-Ok.is c.requires.form.held.rising);
    }
