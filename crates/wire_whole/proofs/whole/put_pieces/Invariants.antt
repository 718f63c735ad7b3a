-- `wire_whole::whole::put_pieces` meets its contract: what is left to put, put, gives what is to be put. Assumes nothing.
use Prim.Native.Nat.{ℕ}
use mathlib.Core.List.{List}
use mathlib.Core.Path.{◌≡◌}
use lib.ListN.{drop}
use Rattle.wire_write.specs.Pieces.{Lent, lent_of, AllIn, givens_of, kinds_of_rows, end_rows}
use Rattle.wire_write.specs.declared.Row.{Row}
use Rattle.wire_write.specs.declared.Piece.{Piece}
use Rattle.wire_write.proofs.WriteLaws.{put_all}
use Rattle.wire_whole.proofs.whole.put_pieces.Given as goal

pub record Left (out₀ : List ℕ) (l : Lent) (rows : List Row) (ps : List Piece) (out : List ℕ) (i at : ℕ) : Type 0 where
  pub puts : put_all out at (kinds_of_rows (drop i rows)) (givens_of l (drop i ps)) ≡ put_all out₀ 12 (kinds_of_rows rows) (givens_of l ps)
  pub ends : end_rows at (drop i rows) (drop i ps) ≡ end_rows 12 rows ps
  pub inside : AllIn l (drop i ps)

abbrev pub invariant-loop-i : goal.invariant-loop-i
invariant-loop-i l = Left l.initial.out (lent_of l.spelled l.first l.second) l.rows l.ps l.out l.i l.at
