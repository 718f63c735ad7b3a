-- The theorems of specs/Statements.antt, under the same names. Assumes nothing.
use mathlib.Core.Path.{◌≡◌, refl, sym, ◌∙◌, ap, subst}
use mathlib.Core.Logic.{inl}
use mathlib.Core.List.{List, [], ◌∷◌}
use Prim.Native.Nat.{ℕ, suc}
use Rattle.record.specs.Record.{key_of}
use Rattle.kept.specs.Keys.{◌∈◌}
use Rattle.changed.specs.Changes.{Change, gone, new, other, key_in, changes, apply}
use Rattle.changed.specs.Statements.{Differs, InOrder, ChangesLists, ListsOne, AppliesBack, EmptySame}
use Rattle.changed.proofs.StepLaws.{Above, by_order}
use Rattle.changed.proofs.OrderLaws.{Rises, rises_gone, rises_new, rises-same, rises_other, rise-ext}
use Rattle.changed.proofs.MembersLaws.{key_in_lem, Exactly, exactly-gone, exactly-new, exactly-same, exactly-other}
use Rattle.changed.proofs.ApplyLaws.{apply-gone, apply-new, apply-same, apply-other}

-- ---- all three, by what stands first

record Right (a b : List (List ℕ)) (l : List Change) : Type 0 where
  pub rises : Rises a b l
  pub exactly : Exactly a b l
  pub applies : apply l a ≡ b

none_in : (c : Change) → Differs [] [] c → c ∈ []
none_in (gone k) d = d.0
none_in (new r) d = d.0
none_in (other r) d = d.0

right_none : Right [] [] []
unfolding apply
right_none = record { rises = λ low ra rb. tt; exactly = λ c. (λ m. absurd m, none_in c); applies = refl }

right_gone : (p : List ℕ) (a b : List (List ℕ)) (l : List Change) → Above (key_of p) a → Above (key_of p) b → Right a b l → Right (p ∷ a) b (gone (key_of p) ∷ l)
right_gone p a b l ra rb r =
    record {
      rises = rises_gone p a b l ra rb r.rises;
      exactly = exactly-gone p a b ra rb l r.exactly;
      applies = apply-gone l a b p ra r.applies;
    }

right_new : (q : List ℕ) (a b : List (List ℕ)) (l : List Change) → Above (key_of q) a → Above (key_of q) b → Right a b l → Right a (q ∷ b) (new q ∷ l)
right_new q a b l ra rb r =
    record {
      rises = rises_new q a b l ra rb r.rises;
      exactly = exactly-new q a b ra rb l r.exactly;
      applies = apply-new l a b q (r.rises (suc (key_of q)) ra rb) r.applies ra;
    }

right_same : (p : List ℕ) (a b : List (List ℕ)) (l : List Change) → Above (key_of p) a → Above (key_of p) b → Right a b l → Right (p ∷ a) (p ∷ b) l
right_same p a b l ra rb r =
    record {
      rises = rises-same p a b l ra rb r.rises;
      exactly = exactly-same p a b ra rb l r.exactly;
      applies = apply-same l a b p (r.rises (suc (key_of p)) ra rb) r.applies;
    }

right_other : (p q : List ℕ) (a b : List (List ℕ)) (l : List Change) → key_of p ≡ key_of q → ¬ (p ≡ q) → Above (key_of q) a → Above (key_of q) b → Right a b l
    → Right (p ∷ a) (q ∷ b) (other q ∷ l)
right_other p q a b l e differ ra rb r =
    record {
      rises = rises_other p q a b l ra rb r.rises;
      exactly = exactly-other p q a b e ra rb l differ r.exactly;
      applies = apply-other l a b q (r.rises (suc (key_of q)) ra rb) r.applies p e;
    }

right : (a b : List (List ℕ)) → InOrder a → InOrder b → Right a b (changes a b)
right a b ra rb = by_order Right right_none right_gone right_new right_same right_other a b 0 ra rb

-- ---- the theorems

pub changes_lists : ChangesLists
changes_lists a b ra rb = record { ordered = (right a b ra rb).rises 0 ra rb; exactly = (right a b ra rb).exactly }

pub applies_back : AppliesBack
applies_back a b ra rb = (right a b ra rb).applies

pub lists_one : ListsOne
lists_one a b ra rb l lists =
    let ours = changes_lists a b ra rb in
    rise-ext key_in 0 0 l (changes a b) lists.ordered ours.ordered
    (λ c m. (ours.exactly c).1 ((lists.exactly c).0 m)) (λ c m. (lists.exactly c).1 ((ours.exactly c).0 m))

no_member : (l : List Change) → ((c : Change) → ¬ (c ∈ l)) → l ≡ []
no_member [] out = refl
no_member (c ∷ l) out = absurd (out c (inl refl))

not_itself : (a : List (List ℕ)) (c : Change) → ¬ (Differs a a c)
not_itself a (gone k) d = d.1 d.0
not_itself a (new r) d = d.1 (key_in_lem r a d.0)
not_itself a (other r) d = d.2 d.0

pub empty-same : EmptySame
unfolding apply
empty-same a b ra rb = (same, empty)
  where
    same : changes a b ≡ [] → a ≡ b
    same e = sym (ap (λ (l : List Change). apply l a) e) ∙ applies_back a b ra rb

    empty : a ≡ b → changes a b ≡ []
    empty e = no_member (changes a b) (λ c m. not_itself b c (subst (λ (x : List (List ℕ)). Differs x b c) e (((right a b ra rb).exactly c).0 m)))
