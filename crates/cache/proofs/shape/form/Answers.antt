-- `cache::shape::form` meets its contract: each test of the size refuses; then so many places are counted, the rest is zero or not, and one of our own keys among
-- theirs or not. Assumes nothing.
use mathlib.Core.Path.{◌≡◌, sym, ap, ◌∙◌}
use mathlib.Core.Bool.{Bool, cond}
use Prim.Native.Nat.{◌*◌, ◌/◌, ◌≤◌}
use lib.ListN.{length}
use Rattle.own.specs.Own.{own_keys}
use Rattle.own.proofs.FormLaws.{keys_many}
use Rattle.table.proofs.RowLaws.{rows-length}
use Rattle.std.specs.Prelude.{Some, None}
use Rattle.cache.proofs.ShapeLaws.{not-whole, too_small, too_large, too_few}
use Rattle.cache.proofs.OrderedLaws.{used-most, used-rising, own-bad, free-by, rest-bad}
use native.Mathlib.Omega.{arith}
use Rattle.cache.proofs.shape.form.Goals.{After-count, After-count_held-used, Start}
use Rattle.cache.proofs.shape.form.Goals as goal

-- the places counted, in a cache that may have so many bytes
abbrev start : After-count_held-used → Start
start c = (goal.at.After-count_held-used c).Start

-- how many own keys there are
keys : (n : After-count) → length (own_keys n.args.own.now) ≡ n.count.result
keys n =
    let own = n.args.own.now in
    keys_many own ∙ sym (rows-length 100 (length own / 100) own) ∙ sym n.count.ensures

enough : (c : After-count_held-used) → 1000 * length (own_keys (start c).args.own.now) ≤ length (start c).args.cache.now
enough c = omega (arith, keys (goal.at.After-count_held-used c).After-count, c.if-size-count.false)

few : (c : After-count_held-used) → c.count_held-used.result ≤ length (start c).args.cache.now / 100
few c =
    used-most (own_keys (start c).args.own.now) (start c).args.cache.now c.if-size-ne0.false (omega arith) (omega arith)
    (enough c) c.count_held-used.result c.count_held-used.ensures

pub returns-then-size-ne0 : goal.returns-then-size-ne0
returns-then-size-ne0 c =
    let c3 = c in
    let a = c3.args in sym (not-whole (own_keys a.own.now) a.cache.now c.if-size-ne0.true)

pub returns-then-size-lt1000 : goal.returns-then-size-lt1000
returns-then-size-lt1000 c =
    let c4 = c in
    let a = c4.args in sym (too_small (own_keys a.own.now) a.cache.now c.if-size-ne0.false c.if-size-lt1000.true)

pub returns-then-size-gt25600 : goal.returns-then-size-gt25600
returns-then-size-gt25600 c =
    let c5 = c in
    let a = c5.args in sym (too_large (own_keys a.own.now) a.cache.now c.if-size-ne0.false (omega arith) c.if-size-gt25600.true)

pub returns-then-size-count : goal.returns-then-size-count
returns-then-size-count c =
    let n = (goal.at.returns-then-size-count c).After-count in
    let at-if = c in
    let a = at-if.args in
    sym (too_few (own_keys a.own.now) a.cache.now at-if.if-size-ne0.false (omega arith) (omega arith) (omega (arith, keys n, c.if-size-count.true)))

pub overflow_mul-end : goal.overflow_mul-end
overflow_mul-end c = omega (arith, few (goal.at.overflow_mul-end c).After-count_held-used)

pub rest_clear-requires : goal.rest_clear-requires
rest_clear-requires c = omega (arith, few (goal.at.rest_clear-requires c).After-count_held-used)

pub returns-then-not-rest_clear : goal.returns-then-not-rest_clear
returns-then-not-rest_clear c =
    let g = (goal.at.returns-then-not-rest_clear c).After-count_held-used in
    let a = (start g).args in
    sym (rest-bad (own_keys a.own.now) a.cache.now g.if-size-ne0.false (omega arith) (omega arith) (enough g)
    g.count_held-used.result g.count_held-used.ensures (sym c.rest_clear.ensures ∙ c.if-not-rest_clear.true))

pub holds_own-requires : goal.holds_own-requires
holds_own-requires c =
    let g = (goal.at.holds_own-requires c).After-count_held-used in
    let a = (start g).args in record {
      used_in_bounds = omega (arith, few g);
      rising = used-rising (own_keys a.own.now) a.cache.now g.if-size-ne0.false (omega arith) (omega arith) (enough g)
          g.count_held-used.result g.count_held-used.ensures;
    }

pub returns-then-holds_own : goal.returns-then-holds_own
returns-then-holds_own c =
    let g = (goal.at.returns-then-holds_own c).After-count_held-used in
    let a = (start g).args in
    sym (own-bad (own_keys a.own.now) a.cache.now g.if-size-ne0.false (omega arith) (omega arith) (enough g)
    g.count_held-used.result g.count_held-used.ensures (sym c.holds_own.ensures ∙ c.if-holds_own.true))

pub returns : goal.returns
returns c =
    let tested = c in
    let g = (goal.at.returns c).After-count_held-used in
    let a = (start g).args in
    sym (free-by (own_keys a.own.now) a.cache.now g.if-size-ne0.false (omega arith) (omega arith) (enough g)
    g.count_held-used.result g.count_held-used.ensures (sym c.holds_own.ensures ∙ c.if-holds_own.false)
    ∙ ap (λ (b : Bool). cond b (Some g.count_held-used.result) None) (sym tested.rest_clear.ensures ∙ tested.if-not-rest_clear.false))
