-- `listed::run_at` meets its contract: the record of place i, or none. Assumes nothing.
use mathlib.Core.Path.{◌≡◌, sym, ap, ◌∙◌, subst}
use mathlib.Core.List.{List, ◌∷◌, map}
use Prim.Native.Nat.{ℕ, ◌+◌, ◌-◌, ◌*◌, ◌/◌, ◌≤◌, ◌<◌}
use native.Mathlib.Omega.{arith}
use lib.ListN.{length, take, drop, get_or, length-take, length-drop}
use Rattle.record.specs.Record.{key_of}
use Rattle.table.specs.Rows.{rows}
use Rattle.kept.specs.Keys.{Every}
use Rattle.own.specs.Own.{own_keys}
use Rattle.listed.specs.Runs.{run_of}
use Rattle.listed.proofs.ListedLaws.{own_key, no_key, own_in, others_one}
use Rattle.listed.proofs.run_at.Goals.{Start}
use Rattle.listed.proofs.run_at.Goals as goal

abbrev held : Start → List ℕ
held s = map key_of (rows 100 s.args.used s.args.cache.now)

abbrev more : Start → List ℕ
more s = key_of s.args.«record».now ∷ held s

-- the record that is lent
abbrev lent : Start → List ℕ
lent s = take ((100 * s.args.i + 100) - 100 * s.args.i) (drop (100 * s.args.i) s.args.own.now)

pub slice_bounds-run_of-end : goal.slice_bounds-run_of-end
slice_bounds-run_of-end c = omega (arith, c.requires.own_len.0, c.if-start-own.true)

pub run_of-requires : goal.run_of-requires
run_of-requires c =
    let i1 = c in
    let s = (goal.at.run_of-requires c).Start in
    let o = s.args.own.now in
    let i = s.args.i in
    let p = s.requires in
    let h : i < length o / 100 = omega (arith, p.own_len.0, i1.if-start-own.true) in
    let long : 32 ≤ length (lent s) =
    omega (arith, p.own_len.0, i1.if-start-own.true, length-take ((100 * i + 100) - 100 * i) (drop (100 * i) o), length-drop (100 * i) o) in record {
      in_bounds = (long, p.own_len.2, p.own_len.3, p.own_len.4);
      rising = p.rising;
      every = subst (λ (n : ℕ). Every (λ (k : ℕ). ¬ (k ≡ n)) (held s)) (sym (own_key o i h))
          (others_one (get_or (own_keys o) i (get_or (own_keys o) 0 0)) (own_keys o) (held s) (own_in o i h) p.every);
    }

pub returns-then-start-own : goal.returns-then-start-own
returns-then-start-own c =
    let i1 = c in
    let s = (goal.at.returns-then-start-own c).Start in
    let o = s.args.own.now in
    c.run_of.ensures ∙ ap (λ (n : ℕ). run_of n (more s)) (own_key o s.args.i (omega (arith, s.requires.own_len.0, i1.if-start-own.true)))

pub returns : goal.returns
returns c =
    let s = (goal.at.returns c).Start in
    let o = s.args.own.now in
    s.requires.a_value ∙ ap (λ (n : ℕ). run_of n (more s)) (no_key o s.args.i (omega (arith, s.requires.own_len.0, c.if-start-own.false)))
