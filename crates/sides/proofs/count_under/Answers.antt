-- `sides::count_under` meets its contract: the search tells it, whether the key is held or not. Assumes nothing.
use mathlib.Core.List.{map}
use Rattle.record.specs.Record.{key_of}
use Rattle.table.specs.Rows.{rows}
use Rattle.search.proofs.SeekLaws.{sought-under}
use Rattle.sides.proofs.count_under.Goals as goal

pub returns-in-Ok : goal.returns-in-Ok
returns-in-Ok c = let a = c.args in sought-under (key_of a.own.now) (map key_of (rows 100 a.used a.cache.now)) c.find_key.ensures c.in-Ok.is

pub returns-in-Ok-2 : goal.returns-in-Ok-2
returns-in-Ok-2 c = let a = c.args in sought-under (key_of a.own.now) (map key_of (rows 100 a.used a.cache.now)) c.find_key.ensures c.in-Ok.is
