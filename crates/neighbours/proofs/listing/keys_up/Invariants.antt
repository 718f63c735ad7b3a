-- `neighbours::listing::keys_up` meets its contract: after i turns i keys are written. Assumes nothing.
use mathlib.Core.Path.{◌≡◌}
use lib.ListN.{length, take}
use Rattle.octet.specs.Part.{splice}
use Rattle.table.specs.Rows.{rows}
use Rattle.kept.specs.Turned.{turned}
use Rattle.cache.specs.Form.{keys_of}
use Rattle.neighbours.specs.Listing.{key_bytes}
use Rattle.neighbours.proofs.listing.keys_up.Given as goal

abbrev pub invariant-loop-i : goal.invariant-loop-i
invariant-loop-i l =
    (length l.out ≡ length l.initial.out) × (l.out ≡ splice l.at (key_bytes (take l.i (take l.n (turned l.from (keys_of (rows 100 l.used l.cache)))))) l.initial.out)
