-- `neighbours::listing::keys_down` meets its contract: after i turns i keys are written. Assumes nothing.
use mathlib.Core.Path.{◌≡◌}
use mathlib.Core.List.{reverse}
use lib.ListN.{length, take}
use Rattle.octet.specs.Part.{splice}
use Rattle.table.specs.Rows.{rows}
use Rattle.kept.specs.Turned.{turned}
use Rattle.cache.specs.Form.{keys_of}
use Rattle.neighbours.specs.Listing.{key_bytes}
use Rattle.neighbours.proofs.listing.keys_down.Given as goal

abbrev pub invariant-loop-i : goal.invariant-loop-i
invariant-loop-i l =
    (length l.out ≡ length l.initial.out) × (l.out ≡ splice 0 (key_bytes (take l.i (take l.n (reverse (turned l.from (keys_of (rows 100 l.used l.cache))))))) l.initial.out)
