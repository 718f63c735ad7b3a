-- `trace::fault::is_kind` meets its contract. Assumes nothing.
use mathlib.Core.Path.{refl}
use native.Mathlib.Omega.{arith}
use borrow.Author.Tests.{lt-ltb}
use Rattle.trace.proofs.fault.is_kind.Goals as goal

pub returns-then-kind-eq0 : goal.returns-then-kind-eq0
returns-then-kind-eq0 c = simp c.if-kind-eq0.true refl

pub returns : goal.returns
returns c = simp (lt-ltb 0 c.args.kind (omega arith)) refl
