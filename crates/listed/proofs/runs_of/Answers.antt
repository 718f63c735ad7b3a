-- `listed::runs_of` meets its contract: the first run, and one for each place of the others. Assumes nothing.
use mathlib.Core.Path.{◌≡◌, sym, ap, ◌∙◌, subst}
use mathlib.Core.List.{List, ◌∷◌, map}
use Prim.Native.Nat.{ℕ, ◌/◌, ◌<◌}
use native.Mathlib.Omega.{arith}
use lib.ListN.{length, get_or, length-take}
use Rattle.record.specs.Record.{key_of}
use Rattle.table.specs.Rows.{rows}
use Rattle.kept.specs.Keys.{Every}
use Rattle.search.proofs.SeekLaws.{keys_many}
use Rattle.own.specs.Own.{own_keys}
use Rattle.listed.specs.Runs.{run_of, run_at}
use Rattle.listed.proofs.ListedLaws.{own_key, own_in, others_one}
use Rattle.listed.proofs.runs_of.Goals.{After-run_of-a, Start}
use Rattle.listed.proofs.runs_of.Goals as goal

abbrev held : Start → List ℕ
held s = map key_of (rows 100 s.args.used s.args.cache.now)

abbrev more : Start → List ℕ
more s = key_of s.args.«record».now ∷ held s

abbrev start : After-run_of-a → Start
start c = (goal.at.After-run_of-a c).Start

some : (s : Start) → 0 < length s.args.own.now / 100
some s = omega (arith, s.requires.own_len)

first_run : (c : After-run_of-a) → (let s = start c in c.run_of-a.result ≡ run_at (own_keys s.args.own.now) (more s) 0)
first_run c =
    let s = start c in
    c.run_of-a.ensures ∙ ap (λ (n : ℕ). run_of n (more s)) (own_key s.args.own.now 0 (some s))

pub run_of-a-requires : goal.run_of-a-requires
run_of-a-requires c =
    let s = (goal.at.run_of-a-requires c).Start in
    let o = s.args.own.now in
    let p = s.requires in record {
      in_bounds = (omega (arith, p.own_len, length-take 100 o), p.own_len.2, p.own_len.3, p.own_len.4);
      rising = p.rising;
      every = subst (λ (n : ℕ). Every (λ (k : ℕ). ¬ (k ≡ n)) (held s)) (sym (own_key o 0 (some s)))
          (others_one (get_or (own_keys o) 0 (get_or (own_keys o) 0 0)) (own_keys o) (held s) (own_in o 0 (some s)) p.every);
    }

pub run_at-b-requires : goal.run_at-b-requires
run_at-b-requires c = let p = (start (goal.at.run_at-b-requires c).After-run_of-a).requires in record { own_len = (p.own_len.0, omega arith, p.own_len.2, p.own_len.3, p.own_len.4); rising = p.rising; every = p.every; a_value = first_run (goal.at.run_at-b-requires c).After-run_of-a }

pub run_at-c-requires : goal.run_at-c-requires
run_at-c-requires c =
    let r = (goal.at.run_at-c-requires c).After-run_of-a in
    let p = (start r).requires in record { own_len = (p.own_len.0, omega arith, p.own_len.2, p.own_len.3, p.own_len.4); rising = p.rising; every = p.every; a_value = first_run r }

pub run_at-d-requires : goal.run_at-d-requires
run_at-d-requires c =
    let r = (goal.at.run_at-d-requires c).After-run_of-a in
    let p = (start r).requires in record { own_len = (p.own_len.0, omega arith, p.own_len.2, p.own_len.3, p.own_len.4); rising = p.rising; every = p.every; a_value = first_run r }

pub returns : goal.returns
returns c =
    let r = (goal.at.returns c).After-run_of-a in
    let s = start r in
    let n = sym (keys_many (length s.args.own.now / 100) s.args.own.now) in
    λ i. record {
      count = n i;
      a = first_run r i;
      b = c.run_at-b.ensures i;
      c = c.run_at-c.ensures i;
      d = c.run_at-d.ensures i;
    }
