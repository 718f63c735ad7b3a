-- `going::who_goes` meets its contract: it goes where the walk from the point opposite ends. Assumes nothing.
use mathlib.Core.Path.{◌≡◌, sym, ap, ap₂, ◌∙◌, subst}
use mathlib.Core.List.{List, map}
use Prim.Native.Nat.{ℕ, ◌+◌, ◌-◌, ◌/◌, ◌≤◌, ◌<◌}
use native.Mathlib.Omega.{arith}
use lib.ListN.{length, length-map}
use Rattle.octet.specs.Number.{Bytes}
use Rattle.key.specs.Around.{ring}
use Rattle.key.proofs.KeyLaws.{key-lt}
use Rattle.record.specs.Record.{key_of}
use Rattle.table.specs.Rows.{rows, insert_at}
use Rattle.table.proofs.RowLaws.{rows-length}
use Rattle.kept.specs.Keys.{◌∈◌}
use Rattle.kept.specs.Plain.{count_below}
use Rattle.kept.specs.Turned.{wrapped}
use Rattle.search.proofs.SeekLaws.{keys_many}
use Rattle.sides.proofs.SideLaws.{keys_small}
use Rattle.listed.specs.declared.Runs.{Runs}
use Rattle.own.specs.Own.{own_keys}
use Rattle.listed.specs.Runs.{runs_of, Fits}
use Rattle.listed.proofs.ListedLaws.{runs_insert, runs_fit, first_is, own_in}
use Rattle.going.specs.Going.{farther_of, Goes}
use Rattle.going.proofs.GoingLaws.{Known, first_of, end_of, up_of, down_of, under_of, over_of, insert_length, every_insert, insert_every}
use Rattle.going.proofs.GoingLaws.{up-most, up-less, none_over, none_under, farther-goes}
use Rattle.going.proofs.who_goes.Goals.{After-listed_before-down, After-runs_of-runs, After-wrap-x, Start}
use Rattle.going.proofs.who_goes.Goals as goal

abbrev owns : Start → List ℕ
owns s = own_keys s.args.own.now

abbrev more : Start → List ℕ
more s = let a = s.args in map key_of (insert_at a.at a.«record».now (rows 100 a.used a.cache.now))

many : (s : Start) → s.args.used + 1 ≡ length (more s)
many s =
    let a = s.args in
    let l = length-map (insert_at a.at a.«record».now (rows 100 a.used a.cache.now)) key_of in
    omega (arith, l, insert_length a.at a.«record».now (rows 100 a.used a.cache.now), rows-length 100 a.used a.cache.now)

some : (s : Start) → 0 < length s.args.own.now / 100
some s = omega (arith, s.requires.own_len)

abbrev start : After-runs_of-runs → Start
start c = (goal.at.After-runs_of-runs c).Start

known : (c : After-runs_of-runs) → Known (owns (start c)) (more (start c))
known c =
    let s = start c in
    let a = s.args in
    let n = keys_many (length a.own.now / 100) a.own.now in
    let own_bytes : Bytes a.own.now = λ i. omega (arith, c.type_inv.own i) in
    let bytes : Bytes a.cache.now = λ i. omega (arith, c.type_inv.cache i) in
    let new-bytes : Bytes a.«record».now = λ i. omega (arith, c.type_inv.record i) in
    record {
      some = omega (arith, some s);
      few = omega (arith, s.requires.own_len);
      ours = own_in a.own.now 0 (some s);
      keyed = keys_small (length a.own.now / 100) a.own.now own_bytes (omega (arith, s.requires.own_len));
      rises = s.requires.rising_2;
      small = every_insert (λ (k : ℕ). k < ring) a.at a.«record».now (rows 100 a.used a.cache.now)
          (key-lt 0 a.«record».now new-bytes s.requires.used_in_bounds.4) (keys_small a.used a.cache.now bytes s.requires.used_in_bounds.0);
      others = s.requires.every;
      enough = omega (arith, s.requires.own_len, s.requires.used_in_bounds, many s);
    }

runs : (c : After-runs_of-runs) → c.runs_of-runs.result ≡ runs_of (owns (start c)) (more (start c))
runs c =
    let a = (start c).args in
    c.runs_of-runs.ensures ∙ runs_insert (owns (start c)) a.at a.«record».now (rows 100 a.used a.cache.now)

fit : (c : After-runs_of-runs) → Fits ((start c).args.used + 1) c.runs_of-runs.result
fit c =
    let s = start c in
    subst (Fits (s.args.used + 1)) (sym (runs c))
    (subst (λ (n : ℕ). Fits n (runs_of (owns s) (more s))) (sym (many s)) (runs_fit (owns s) (more s)))

-- how many are below the first of our keys
below-is : (c : After-runs_of-runs) → c.runs_of-runs.result.a.below ≡ count_below (first_of (owns (start c))) (more (start c))
below-is c = ap (λ (r : Runs). r.a.below) (runs c)

abbrev at-runs : After-listed_before-down → After-runs_of-runs
at-runs c = (goal.at.After-listed_before-down c).After-runs_of-runs

-- how many are passed over
ups : (c : After-listed_before-down) → (let s = start (at-runs c) in
    c.listed_from-up.result ≡ up_of (length (more s)) (runs_of (owns s) (more s)))
ups c =
    let r = at-runs c in
    let e : c.listed_from-up.result ≡ up_of ((start r).args.used + 1) r.runs_of-runs.result = c.listed_from-up.ensures in
    e ∙ ap₂ up_of (many (start r)) (runs r)

downs : (c : After-listed_before-down) → (let s = start (at-runs c) in
    c.listed_before-down.result ≡ down_of (length (more s)) (runs_of (owns s) (more s)))
downs c =
    let r = at-runs c in
    let e : c.listed_before-down.result ≡ down_of ((start r).args.used + 1) r.runs_of-runs.result = c.listed_before-down.ensures in
    e ∙ ap₂ down_of (many (start r)) (runs r)

-- what is told of the first of our keys is told of the own record's
of-own : (s : Start) (i : ℕ) → Goes (first_of (owns s)) (owns s) (more s) i → Goes (key_of s.args.own.now) (owns s) (more s) i
of-own s i g = subst (λ (k : ℕ). Goes k (owns s) (more s) i) (first_is s.args.own.now (some s)) g

pub runs_of-runs-requires : goal.runs_of-runs-requires
runs_of-runs-requires c =
    let s = (goal.at.runs_of-runs-requires c).Start in
    let a = s.args in
    let p = s.requires in record { own_len = (p.own_len.0, p.own_len.1, p.used_in_bounds.4, p.used_in_bounds.0, p.used_in_bounds.1); rising = p.rising; every = insert_every (λ (k : ℕ). ¬ (k ∈ owns s)) a.at a.«record».now (rows 100 a.used a.cache.now) p.every }

pub overflow_sub-above : goal.overflow_sub-above
overflow_sub-above c = omega (arith, fit (goal.at.overflow_sub-above c).After-runs_of-runs)

pub overflow_add-end : goal.overflow_add-end
overflow_add-end c = let f = fit (goal.at.overflow_add-end c).After-runs_of-runs in omega (arith, (start (goal.at.overflow_add-end c).After-runs_of-runs).requires.used_in_bounds)

pub listed_from-up-requires : goal.listed_from-up-requires
listed_from-up-requires c =
    let f = fit (goal.at.listed_from-up-requires c).After-runs_of-runs in
    let u = (start (goal.at.listed_from-up-requires c).After-runs_of-runs).requires.used_in_bounds.1 in
    (omega arith, omega arith, fit (goal.at.listed_from-up-requires c).After-runs_of-runs)

pub listed_before-down-requires : goal.listed_before-down-requires
listed_before-down-requires c =
    let f = fit (goal.at.listed_before-down-requires c).After-runs_of-runs in
    let u = (start (goal.at.listed_before-down-requires c).After-runs_of-runs).requires.used_in_bounds.1 in
    (omega arith, omega arith, omega arith, fit (goal.at.listed_before-down-requires c).After-runs_of-runs)

up-few : (c : After-listed_before-down) → c.listed_from-up.result ≤ c.runs_of-runs.result.a.below
up-few c = let r = at-runs c in omega (arith, ups c, below-is r, up-most (owns (start r)) (more (start r)) (known r))

up-fewer : (c : After-listed_before-down) → (let r = at-runs c in
    ((start r).args.used + 1) - r.runs_of-runs.result.a.below ≤ c.listed_before-down.result
    → c.listed_from-up.result < r.runs_of-runs.result.a.below)
up-fewer c h =
    let r = at-runs c in
    let s = start r in
    omega (arith, ups c, below-is r, up-less (owns s) (more s) (known r) (omega (arith, h, many s, below-is r, downs c)))

pub overflow_add-end-then-above-down : goal.overflow_add-end-then-above-down
overflow_add-end-then-above-down c =
    let l = (goal.at.overflow_add-end-then-above-down c).After-listed_before-down in
    let f = fit (at-runs l) in
    omega (arith, up-few l, (start (at-runs l)).requires.used_in_bounds.1)

pub wrap-requires : goal.wrap-requires
wrap-requires c =
    let l = (goal.at.wrap-requires c).After-listed_before-down in
    let f = fit (at-runs l) in
    omega (arith, up-fewer l c.if-above-down.true)

pub returns-then-above-down : goal.returns-then-above-down
returns-then-above-down c =
    let i1 = c in
    let l = (goal.at.returns-then-above-down c).After-listed_before-down in
    let r = at-runs l in
    let s = start r in
    let total : ℕ = s.args.used + 1 in
    let e = c.wrap.ensures.0 ∙ ap (λ (u : ℕ). wrapped total (end_of total r.runs_of-runs.result + u)) l.listed_from-up.ensures
    ∙ ap₂ under_of (many s) (runs r) in
    subst (Goes (key_of s.args.own.now) (owns s) (more s)) (sym e)
    (of-own s (under_of (length (more s)) (runs_of (owns s) (more s)))
    (none_over (owns s) (more s) (known r) (omega (arith, i1.if-above-down.true, many s, below-is r, downs l))))

pub wrap-x-requires : goal.wrap-x-requires
wrap-x-requires c =
    let l = (goal.at.wrap-x-requires c).After-listed_before-down in
    let f = fit (at-runs l) in
    omega (arith, c.if-above-down.false)

-- the place on the way back
over-is : (c : After-wrap-x) → (let s = start (at-runs (goal.at.After-wrap-x c).After-listed_before-down) in
    c.wrap-x.result ≡ over_of (length (more s)) (runs_of (owns s) (more s)))
over-is c =
    let l = (goal.at.After-wrap-x c).After-listed_before-down in
    let r = at-runs l in
    let s = start r in
    c.wrap-x.ensures.0
    ∙ ap (λ (d : ℕ). wrapped (s.args.used + 1) (end_of (s.args.used + 1) r.runs_of-runs.result - (d + 1))) l.listed_before-down.ensures
    ∙ ap₂ over_of (many s) (runs r)

pub returns-then-below-up : goal.returns-then-below-up
returns-then-below-up c =
    let w = (goal.at.returns-then-below-up c).After-wrap-x in
    let i1 = c in
    let l = (goal.at.returns-then-below-up c).After-listed_before-down in
    let r = at-runs l in
    let s = start r in
    subst (Goes (key_of s.args.own.now) (owns s) (more s)) (sym (over-is w))
    (of-own s (over_of (length (more s)) (runs_of (owns s) (more s)))
    (none_under (owns s) (more s) (known r) (omega (arith, i1.if-above-down.false, many s, below-is r, downs l))
    (omega (arith, c.if-below-up.true, below-is r, ups l))))

pub overflow_add-end-2 : goal.overflow_add-end-2
overflow_add-end-2 c =
    let l = (goal.at.overflow_add-end-2 c).After-listed_before-down in
    let f = fit (at-runs l) in
    omega (arith, up-few l, (start (at-runs l)).requires.used_in_bounds.1)

pub wrap-y-requires : goal.wrap-y-requires
wrap-y-requires c =
    let l = (goal.at.wrap-y-requires c).After-listed_before-down in
    let f = fit (at-runs l) in
    omega (arith, c.if-below-up.false)

pub returns : goal.returns
returns c =
    let w3 = c in
    let i2 = c in
    let w = (goal.at.returns c).After-wrap-x in
    let i1 = c in
    let l = (goal.at.returns c).After-listed_before-down in
    let r = at-runs l in
    let s = start r in
    let total : ℕ = s.args.used + 1 in
    let x : ℕ = over_of (length (more s)) (runs_of (owns s) (more s)) in
    let y : ℕ = under_of (length (more s)) (runs_of (owns s) (more s)) in
    let under = w3.wrap-y.ensures.0 ∙ ap (λ (u : ℕ). wrapped total (end_of total r.runs_of-runs.result + u)) l.listed_from-up.ensures
    ∙ ap₂ under_of (many s) (runs r) in
    let e = c.farther_of.ensures ∙ ap₂ (farther_of (key_of s.args.own.now) (more s)) (over-is w) under
    ∙ ap (λ (k : ℕ). farther_of k (more s) x y)
    (sym (first_is s.args.own.now (some s))) in
    subst (Goes (key_of s.args.own.now) (owns s) (more s)) (sym e)
    (of-own s (farther_of (first_of (owns s)) (more s) x y)
    (farther-goes (owns s) (more s) (known r) (omega (arith, i1.if-above-down.false, many s, below-is r, downs l))
    (omega (arith, i2.if-below-up.false, below-is r, ups l))))
