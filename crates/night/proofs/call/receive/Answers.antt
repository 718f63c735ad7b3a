-- `night::call::receive` meets its contract. Assumes nothing.
use mathlib.Core.Path.{sym, ap, ◌∙◌}
use Rattle.octet.specs.Part.{splice}
use Prim.Native.Nat.{ℕ, ◌-◌}
use native.Mathlib.Omega.{arith}
use lib.ListN.{length, drop, length-drop, length-replicate}
use lib.Seq.{take_all, length-take-le}
use Rattle.night.proofs.CallLaws.{taken_out, own-copied, major-taken, minor-taken, receive-called}
use borrow.Author.Rules.{rules}
use Rattle.night.proofs.call.receive.Goals as goal

pub slice_bounds-copy_to-end-5 : goal.slice_bounds-copy_to-end-5
slice_bounds-copy_to-end-5 c =
    sym (length-take-le 6400 c.args.state.now (omega (arith, c.requires.state_len)))

pub copy_to-requires-2 : goal.copy_to-requires-2
copy_to-requires-2 c =
    omega (arith, length-take-le 6400 c.args.state.now (omega (arith, c.requires.state_len)))

pub copy_to-requires-5 : goal.copy_to-requires-5
copy_to-requires-5 c =
    omega (arith, c.gauge_receive-answer.auto.cache, c.copy_to-2.auto.dst, length-replicate {A = ℕ} 6400 0, c.requires.state_len)

pub copy_to-requires-6 : goal.copy_to-requires-6
copy_to-requires-6 c =
    omega (arith, c.gauge_receive-answer.auto.firsts, c.copy_to-3.auto.dst, length-replicate {A = ℕ} 512 0, c.copy_to-5.auto.dst, c.requires.state_len)

pub copy_to-requires-7 : goal.copy_to-requires-7
copy_to-requires-7 c =
    omega (
      arith,
      c.gauge_receive-answer.auto.waiting,
      c.copy_to-4.auto.dst,
      length-replicate {A = ℕ} 2240 0,
      c.copy_to-6.auto.dst,
      c.copy_to-5.auto.dst,
      c.requires.state_len,
    )

pub returns : goal.returns
returns c =
    let s = c.args.state.now in
    let body = c.args.body.now in
    let fit = c.requires.state_len in
    receive-called s fit _ _ _ c.requires.output_value _ _ _ _
    (c.copy_to.ensures ∙ own-copied s fit)
    (c.copy_to-4.ensures ∙ taken_out 6912 2240 s (omega (arith, fit))) c.gauge_receive-answer.auto.waiting
    body _ _ _ (major-taken s fit) (minor-taken s fit) c.read_u32_le-id.ensures _ _ _ _ _ _ c.wide-verdict.ensures
    (take_all (length body - 53) (drop 53 body) (omega (arith, length-drop 53 body)))
    (c.copy_to-2.ensures ∙ taken_out 0 6400 s (omega (arith, fit))) c.gauge_receive-answer.auto.cache
    (c.copy_to-3.ensures ∙ taken_out 6400 512 s (omega (arith, fit))) c.gauge_receive-answer.auto.firsts
    (c.copy_to-7.ensures ∙ ap (splice 6912 _) (c.copy_to-6.ensures ∙ ap (splice 6400 _) c.copy_to-5.ensures))
    c.gauge_receive-answer.ensures
