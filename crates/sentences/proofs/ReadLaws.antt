-- A datagram is read, or refused for its bytes, when the clauses say so: the rows of reading, 2 to 7. Assumes nothing.
use mathlib.Core.Path.{◌≡◌, refl, sym, ap, subst, ◌∙◌}
use mathlib.Core.Logic.{inl, inr}
use mathlib.Core.Bool.{true, false, not, ◌&&◌}
use mathlib.Core.List.{List, [], ◌∷◌}
use mathlib.Core.Option.{Option, some, none}
use Prim.Native.Nat.{ℕ, ◌≤◌, ◌<◌}
use native.Mathlib.Omega.{arith}
use lib.Dec.{eqb, leb}
use lib.ListN.{length, get_or}
use borrow.Author.Tests.{le-leb, leb-true, not-true}
use Rattle.octet.specs.Number.{Bytes}
use Rattle.octet.specs.Part.{part, same}
use Rattle.octet.proofs.TestLaws.{both_true, same_refl}
use Rattle.refusal.specs.Table.{Refusal, first_of, place_in, InOrder, by_number}
use Rattle.refusal.proofs.TableLaws.{AllFail, all_fail, both, sooner}
use Rattle.refusal.proofs.CallLaws.{number_is, all_pass}
use Rattle.kept.proofs.ListLaws.{Test, pass, fail, test}
use Rattle.wire_fields.specs.Kinds.{kinds_of, present}
use Rattle.wire_fields.specs.Message.{opening, type_of}
use Rattle.wire_fields.specs.Refusals as fields
use Rattle.wire_fields.specs.Refusals.{in_part, fields_in}
use Rattle.wire_read.specs.Answers as R
use Rattle.wire_read.specs.Meaning.{number_of}
use Rattle.wire_read.specs.declared.Incoming as T
use Rattle.wire_read.specs.declared.Incoming.TheVariants as M
use Rattle.gauge_plan.specs.Lent.{Memory, Receive}
use Rattle.gauge_laws.specs.Table.{message_rows}
use Rattle.gauge_laws.proofs.TableLaws.{IsMessage, shown-message}
use Rattle.sentences.specs.Heard.{Heard}
use Rattle.sentences.specs.Numbers as Num
use Rattle.sentences.proofs.MoveLaws.{holds_not}
use Rattle.sentences.proofs.HeardLaws.{heard_by, answer-hears, hears-answer}
use Rattle.sentences.proofs.WordLaws.{not_iff, message-zero}
use Rattle.sentences.proofs.PartLaws.{part-to, part-from}
use Rattle.sentences.proofs.FirstLaws.{Row}
use Rattle.sentences.proofs.SaidLaws.{Clause, First}

module _ (m : Memory) (l : Receive) where
  abbrev d : List ℕ
  d = l.datagram

  abbrev a : T.Incoming
  a = R.read_in l.datagram l.major

  abbrev rs : List Refusal
  rs = fields.refusals l.datagram l.major

  order : InOrder by_number 1 rs
  order = (
    omega arith,
    omega arith,
    (
      omega arith,
      omega arith,
      (
        omega arith,
        omega arith,
        (
          omega arith,
          omega arith,
          (omega arith, omega arith, (omega arith, omega arith, tt)),
        ),
      ),
    ),
  )

  -- the number of reading is that of its rows
  read_number : number_of a ≡ first_of rs
  unfolding fields.found_in R.incoming_of
  read_number =
      number_is (λ (f : fields.Found). number_of (R.incoming_of d f)) fields.refused (λ m. refl)
      (fields.found (type_of d) (fields.spans_of (fields_in d)))
      (message-zero (R.incoming_of d (fields.found (type_of d) (fields.spans_of (fields_in d))))
      (shown-message d (type_of d) (fields.spans_of (fields_in d)))) rs

  fails-first : (ts : List Refusal) → AllFail ts → first_of ts ≡ 0
  unfolding first_of
  fails-first [] f = refl
  fails-first (r ∷ ts) f = rw f.0 (fails-first ts f.1)

  pub zero-fails : number_of a ≡ 0 → AllFail rs
  zero-fails z = all_fail by_number rs 1 order (sym read_number ∙ z)

  fails-zero : AllFail rs → number_of a ≡ 0
  fails-zero f = read_number ∙ fails-first rs f

  pub fails-message : AllFail rs → IsMessage a
  unfolding fields.found_in
  fails-message f =
      subst (λ (y : fields.Found). IsMessage (R.incoming_of d y))
      (sym (all_pass fields.refused rs (fields.found (type_of d) (fields.spans_of (fields_in d))) f))
      (shown-message d (type_of d) (fields.spans_of (fields_in d)))

  pub rows-message : (n : ℕ) (y : T.Incoming) → Row n (message_rows m l y) → IsMessage y
  rows-message n (M.Refused m) w = w
  rows-message n (M.Solicit x) w = tt
  rows-message n (M.Advertise x) w = tt
  rows-message n (M.Request x) w = tt
  rows-message n (M.Flood x) w = tt
  rows-message n (M.Inquire x) w = tt
  rows-message n (M.Authority x) w = tt
  rows-message n (M.Ack x) w = tt
  rows-message n (M.Lookup x) w = tt

  -- the tests of reading, in words
  abbrev Long : Type 0
  Long = (12 ≤ length l.datagram) × (length l.datagram ≤ 1232)

  long-is : Long → leb 12 (length d) && leb (length d) 1232 ≡ true
  long-is w = rw (le-leb 12 (length d) w.0, le-leb (length d) 1232 w.1) refl

  pub is-long : leb 12 (length d) && leb (length d) 1232 ≡ true → Long
  is-long e = let w = both_true (leb 12 (length d)) (leb (length d) 1232) e in (leb-true 12 (length d) w.0, leb-true (length d) 1232 w.1)

  opened-is : part 0 5 d ≡ opening → same (part 0 5 d) opening ≡ true
  opened-is e = ap (λ (y : List ℕ). same y opening) e ∙ same_refl opening

  unknown : {B : Type 0} (o : Option B) → not (present o) ≡ true → o ≡ none
  unknown none e = refl
  unknown (some v) e = both e refl

  module _ (bytes : Bytes l.datagram) (n : ℕ) (low : First m l n) where
    -- nothing before 6 applies and the fields are there: a message is read
    all_read : n ≡ 6 → in_part (type_of d) d ≡ false → present (fields_in d) ≡ true → AllFail rs
    all_read h p t = (
      holds_not (not (leb 12 (length d) && leb (length d) 1232))
          (λ e. low 2 (sooner 2 6 (unfold place_in in refl) h) (Num.wrong-length refl (λ w. both (long-is w) (not-true _ e)))),
      (
        holds_not (not (same (part 0 5 d) opening)) (λ e. low 3 (sooner 3 6 (unfold place_in in refl) h) (Num.not_opened refl (λ w. both (opened-is w) (not-true _ e)))),
        (
          holds_not (not (eqb (get_or d 5 0) l.major)) (λ e. low 4 (sooner 4 6 (unfold place_in in refl) h) (Num.not-major refl ((not_iff (get_or d 5 0) l.major).0 e))),
          (
            holds_not (not (present (kinds_of (type_of d)))) (λ e. low 5 (sooner 5 6 (unfold place_in in refl) h) (Num.not_known refl (unknown (kinds_of (type_of d)) e))),
            (
              rw (p, t) refl,
              (p, tt),
            ),
          ),
        ),
      ),
    )

    -- the rows of reading and the clauses 2 to 7
    pub read-row : n ≡ 6 → in_part (type_of d) d ≡ false → ¬ ((x : Heard) × Num.Says l x) → Row n rs
    read-row e p h = go (test (present (fields_in d)))
      where
        go : Test (present (fields_in d)) → Row n rs
        go (pass t) = absurd (h (heard_by d a, answer-hears d bytes l.major (fails-zero (all_read e p t))))
        go (fail t) = inr (inr (inr (inr (inl (e, rw (p, t) refl)))))

    pub row_read : Row n rs → Clause m l n
    row_read (inl w) = Num.wrong-length w.0 (λ v. both (long-is v) (not-true _ w.1))
    row_read (inr (inl w)) = Num.not_opened w.0 (λ v. both (opened-is v) (not-true _ w.1))
    row_read (inr (inr (inl w))) = Num.not-major w.0 ((not_iff (get_or d 5 0) l.major).0 w.1)
    row_read (inr (inr (inr (inl w)))) = Num.not_known w.0 (unknown (kinds_of (type_of d)) w.1)
    row_read (inr (inr (inr (inr (inl w))))) =
        let v = both_true (not (in_part (type_of d) d)) (not (present (fields_in d))) w.1 in
        Num.not-read w.0 (λ y. both (part-from d y) (not-true _ v.0))
        (λ x. both w.1 (zero-fails (hears-answer d bytes l.major x.0 x.1).0).1.1.1.1.0)
    row_read (inr (inr (inr (inr (inr (inl w)))))) = Num.in-part w.0 (part-to d w.1)
    row_read (inr (inr (inr (inr (inr (inr w)))))) = absurd w
