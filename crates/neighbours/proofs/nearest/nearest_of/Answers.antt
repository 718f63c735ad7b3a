-- `neighbours::nearest::nearest_of` meets its contract: the three comparisons are the definition's. Assumes nothing.
use mathlib.Core.Path.{◌≡◌, refl, sym, ap₂, ◌∙◌}
use Prim.Native.Nat.{ℕ, ◌*◌}
use Rattle.key.specs.Number.{number, key_at}
use Rattle.key.specs.Around.{closer}
use Rattle.neighbours.specs.Where.{nearest_of}
use Rattle.neighbours.proofs.nearest.nearest_of.Goals.{After-how_far-far_down, After-is_closer, After-is_closer-2, After-is_closer-then-is_closer, Start}
use Rattle.neighbours.proofs.nearest.nearest_of.Goals as goal

abbrev start : After-how_far-far_down → Start
start c = (goal.at.After-how_far-far_down c).Start

-- what each comparison says, of the keys where they lie
module _ (c : After-is_closer) where
  abbrev far : After-how_far-far_down
  far = (goal.at.After-is_closer c).After-how_far-far_down

  abbrev t : ℕ
  t = number (start far).args.target

  abbrev ours : ℕ
  ours = key_at (100 * (start far).args.i) (start far).args.own.now

  abbrev over : ℕ
  over = key_at (100 * (start far).args.up) (start far).args.cache.now

  abbrev under : ℕ
  under = key_at (100 * (start far).args.down) (start far).args.cache.now

  read-over : number far.key_at-over.result ≡ over
  read-over = far.key_at-over.ensures

  read_under : number far.key_at-under.result ≡ under
  read_under = far.key_at-under.ensures

  read-ours : number far.key_at-ours.result ≡ ours
  read-ours = far.key_at-ours.ensures

  first : closer t over under ≡ c.is_closer.result
  first = sym (c.is_closer.ensures ∙ ap₂ (closer t) read-over read_under)

up-or-own : (c : After-is_closer-then-is_closer)
    → (let m = (goal.at.After-is_closer-then-is_closer c).After-is_closer in closer (t m) (over m) (ours m) ≡ c.is_closer-then-is_closer.result)
up-or-own c =
    let m = (goal.at.After-is_closer-then-is_closer c).After-is_closer in sym (c.is_closer-then-is_closer.ensures ∙ ap₂ (closer (t m)) (read-over m) (read-ours m))

down-or-own : (c : After-is_closer-2)
    → (let m = (goal.at.After-is_closer-2 c).After-is_closer in closer (t m) (under m) (ours m) ≡ c.is_closer-2.result)
down-or-own c =
    let m = (goal.at.After-is_closer-2 c).After-is_closer in sym (c.is_closer-2.ensures ∙ ap₂ (closer (t m)) (read_under m) (read-ours m))

pub returns-then-is_closer-2 : goal.returns-then-is_closer-2
unfolding nearest_of
returns-then-is_closer-2 c = rw (first (goal.at.returns-then-is_closer-2 c).After-is_closer ∙ c.if-is_closer.true, up-or-own (goal.at.returns-then-is_closer-2 c).After-is_closer-then-is_closer ∙ c.if-is_closer-2.true) refl

pub returns-then-is_closer : goal.returns-then-is_closer
unfolding nearest_of
returns-then-is_closer c = rw (first (goal.at.returns-then-is_closer c).After-is_closer ∙ c.if-is_closer.true, up-or-own (goal.at.returns-then-is_closer c).After-is_closer-then-is_closer ∙ c.if-is_closer-2.false) refl

pub returns-then-is_closer-3 : goal.returns-then-is_closer-3
unfolding nearest_of
returns-then-is_closer-3 c = rw (first (goal.at.returns-then-is_closer-3 c).After-is_closer ∙ c.if-is_closer.false, down-or-own (goal.at.returns-then-is_closer-3 c).After-is_closer-2 ∙ c.if-is_closer-3.true) refl

pub returns : goal.returns
unfolding nearest_of
returns c = rw (first (goal.at.returns c).After-is_closer ∙ c.if-is_closer.false, down-or-own (goal.at.returns c).After-is_closer-2 ∙ c.if-is_closer-3.false) refl
