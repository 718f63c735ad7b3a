-- What the call answers, as places, is what is believed of it: what is told, and each place within what is lent. Assumes nothing.
use mathlib.Core.Path.{◌≡◌, refl}
use mathlib.Core.Bool.{Bool, true, false, not, cond}
use mathlib.Core.List.{List, []}
use Prim.Native.Nat.{ℕ}
use Rattle.std.specs.Prelude.{Result, Err}
use Rattle.refusal.specs.Table.{or_refuse}
use Rattle.own.specs.Own.{own_form, own_keys, own_records}
use Rattle.wire_read.specs.Answers.{read_in}
use Rattle.wire_read.specs.declared.Incoming.{Incoming}
use Rattle.wire_read.specs.declared.Incoming.TheVariants as M
use Rattle.cache.specs.Form.{cache_form, held_in, held_of}
use Rattle.cache.specs.Calls.{memory_wrong, held_by}
use Rattle.cache.proofs.FormLaws.{true_form}
use Rattle.named.specs.declared.Choice.{Choice}
use Rattle.named.specs.Call.{Told, refused, named_past, answer_to, name_call}
use Rattle.named.specs.Spots.{told_by, Within}
use Rattle.named.specs.Places.{chosen_by, name_at}
use Rattle.named.proofs.SpotLaws.{choice-told, choice-placed}

module _ (own cache d : List ℕ) where
  abbrev Right : Result Choice ℕ → Told → Type 0
  Right n x = (told_by own cache n ≡ x) × Within own cache n

  abbrev answered : Incoming → Result Choice ℕ
  answered a = chosen_by own cache (held_in (own_keys own) cache) d a

  abbrev told : Incoming → Told
  told a = answer_to refused (named_past (own_records own) (held_by own cache)) d a

  by-message : own_form own ≡ true → cache_form (own_keys own) cache ≡ true → (a : Incoming) → Right (answered a) (told a)
  unfolding answer_to held_of
  by-message o f (M.Refused n) = (refl, tt)
  by-message o f (M.Solicit x) = (refl, tt)
  by-message o f (M.Advertise x) = (refl, tt)
  by-message o f (M.Request x) = (refl, tt)
  by-message o f (M.Flood x) = (refl, tt)
  by-message o f (M.Inquire x) = (refl, tt)
  by-message o f (M.Authority x) = (refl, tt)
  by-message o f (M.Ack x) = (refl, tt)
  by-message o f (M.Lookup x) =
      let form = true_form (own_keys own) cache f in
      let used = held_in (own_keys own) cache in
      (choice-told own cache used _ _ o form, choice-placed own cache used _ _ o form)

  by-memory : (o f : Bool) → own_form own ≡ o → cache_form (own_keys own) cache ≡ f → (a : Incoming)
      → Right (cond (not o) (Err 1) (cond (not f) (Err 1) (answered a))) (cond (not o) (refused 1) (cond (not f) (refused 1) (told a)))
  by-memory false f p q a = (refl, tt)
  by-memory true false p q a = (refl, tt)
  by-memory true true p q a = by-message p q a

  pub name-right : (major : ℕ) → Right (name_at own cache major d) (name_call own cache major d)
  unfolding name_at name_call or_refuse
  name-right major = by-memory (own_form own) (cache_form (own_keys own) cache) refl refl (read_in d major)
