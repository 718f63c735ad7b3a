-- Helps the code. Any two results that a contract allows are equal, where it says of the result, with all that is left in memory, that it is what a definition
-- gives: so do those of the exported calls (tests/audit/promises looks at the contract of every public function). The theorem stands in proofs/. Assumes nothing.
use Rattle.std.specs.Prelude.{◌≡◌}

abbrev pub OneResult : Type 1
OneResult = (R : Type 0) (d r s : R) → r ≡ d → s ≡ d → r ≡ s
