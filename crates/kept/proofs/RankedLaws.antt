-- The keys of one side, nearest first: `ranked`, for a test p (is the key on the side) and a measure f (how near). What it asks of them is
-- `apart`: two keys of the side that are equally near are the same. `ok` says which numbers may be keys.
-- Assumes nothing.
use mathlib.Core.Path.{◌≡◌, refl, sym, ◌∙◌, ap}
use mathlib.Core.Logic.{◌⊎◌, inl, inr}
use mathlib.Core.Bool.{Bool, true, false}
use mathlib.Core.List.{List, [], ◌∷◌}
use Prim.Native.Nat.{ℕ, suc, zero-le}
use native.Mathlib.Omega.{arith}
use lib.ListN.{length, take}
use Rattle.kept.specs.Keys.{◌∈◌, Every, Rising, plain, put, without, among, in_order}
use Rattle.kept.proofs.PutLaws.{Tri, less, same, more, tri, put-nil, put-less, put-more, put_same, put-twice, put-comm, take_put, take_beyond}
use Rattle.kept.proofs.ListLaws.{Test, pass, fail, test, every_at, every_of, among-pass, among-fail, mem-among, mem-put, put_keeps, put_there, length-put-new, rising-at, rising-put}
use Rattle.kept.proofs.WithoutLaws.{put-without, every_without}

abbrev pub ranked : (ℕ → Bool) → (ℕ → ℕ) → List ℕ → List ℕ
ranked p f l = in_order f (among p l)

module _ (f : ℕ → ℕ) where
  pub mem-inOrder : (k : ℕ) (l : List ℕ) → k ∈ in_order f l → k ∈ l
  unfolding in_order
  mem-inOrder k [] m = m
  mem-inOrder k (j ∷ l) m = go (mem-put f k j (in_order f l) m) (mem-inOrder k l)
    where
      go : (k ≡ j) ⊎ (k ∈ in_order f l) → (k ∈ in_order f l → k ∈ l) → k ∈ (j ∷ l)
      go (inl e) ih = inl e
      go (inr n) ih = inr (ih n)

module _ (p : ℕ → Bool) (f : ℕ → ℕ) where
  ranked-on : (k : ℕ) (l : List ℕ) → p k ≡ true → ranked p f (k ∷ l) ≡ put f k (ranked p f l)
  unfolding in_order
  ranked-on k l e = rw (among-pass p k l e)

  ranked-off : (k : ℕ) (l : List ℕ) → p k ≡ false → ranked p f (k ∷ l) ≡ ranked p f l
  ranked-off k l e = rw (among-fail p k l e)

  -- a key of another side changes nothing
  pub ranked-put-off : (k : ℕ) (l : List ℕ) → p k ≡ false → ranked p f (put plain k l) ≡ ranked p f l
  ranked-put-off k [] e = rw put-nil (ranked-off k [] e)
  ranked-put-off k (j ∷ l) e = go (tri k j) (test (p j)) (ranked-put-off k l e)
    where
      go : Tri k j → Test (p j) → ranked p f (put plain k l) ≡ ranked p f l → ranked p f (put plain k (j ∷ l)) ≡ ranked p f (j ∷ l)
      go (less h) t ih = rw (put-less plain k j l h) (ranked-off k (j ∷ l) e)
      go (same d) t ih = rw (put_same plain k j l d)
      go (more h) (pass t) ih = rw (put-more plain k j l h) (simp (ranked-on, ih))
      go (more h) (fail t) ih = rw (put-more plain k j l h) (simp (ranked-off, ih))

module _ (ok : ℕ → Type 0) (p : ℕ → Bool) (f : ℕ → ℕ) (apart : (a b : ℕ) → ok a → ok b → p a ≡ true → p b ≡ true → f a ≡ f b → a ≡ b) where
  -- a key of the side comes in by its nearness
  pub ranked-put : (k : ℕ) (l : List ℕ) → ok k → Every ok l → p k ≡ true → ranked p f (put plain k l) ≡ put f k (ranked p f l)
  ranked-put k [] o a e = rw put-nil (ranked-on p f k [] e)
  ranked-put k (j ∷ l) o a e = go (tri k j) (test (p j)) (ranked-put k l o a.1 e)
    where
      go : Tri k j → Test (p j) → ranked p f (put plain k l) ≡ put f k (ranked p f l) → ranked p f (put plain k (j ∷ l)) ≡ put f k (ranked p f (j ∷ l))
      go (less h) t ih = rw (put-less plain k j l h) (ranked-on p f k (j ∷ l) e)
      go (same d) t ih = rw (put_same plain k j l d, ranked-on p f j l (rw d at e), d) (sym (put-twice f j (ranked p f l)))
      go (more h) (pass t) ih =
          rw (put-more plain k j l h) (simp (ranked-on p f, ih) (put-comm f j k (ranked p f l) (λ g. apart j k a.0 o t e g)))
      go (more h) (fail t) ih = rw (put-more plain k j l h) (simp (ranked-off p f, ih))

  -- members ------------------------------------------------------------------------------------------------------------------

  pub mem-ranked : (k : ℕ) (l : List ℕ) → k ∈ ranked p f l → (k ∈ l) × (p k ≡ true)
  mem-ranked k l m = mem-among p k l (mem-inOrder f k (among p l) m)

  pub ranked-rises : (l : List ℕ) → Rising f 0 (ranked p f l)
  unfolding in_order
  ranked-rises l = go (among p l)
    where
      go : (l : List ℕ) → Rising f 0 (in_order f l)
      go [] = tt
      go (j ∷ l) = rising-put f 0 j (in_order f l) zero-le (go l)

  pub ranked-mem : (k : ℕ) (l : List ℕ) → Every ok l → k ∈ l → p k ≡ true → k ∈ ranked p f l
  ranked-mem k [] a m t = absurd m
  ranked-mem k (j ∷ l) a (inl d) t =
      let u : p j ≡ true = rw d at t in
      rw (ranked-on p f j l u, d)
      (put_there f j (ranked p f l) (every_of _ (ranked p f l)
      (λ i m. let n = mem-ranked i l m in apart j i a.0 (every_at ok i l a.1 n.0) u n.1)))
  ranked-mem k (j ∷ l) a (inr m) t = go (test (p j)) (ranked-mem k l a.1 m t)
    where
      go : Test (p j) → k ∈ ranked p f l → k ∈ ranked p f (j ∷ l)
      go (pass e) n = rw (ranked-on p f j l e) (put_keeps f k j (ranked p f l) n)
      go (fail e) n = rw (ranked-off p f j l e) n

  -- none is lost
  pub length-ranked : (b : ℕ) (l : List ℕ) → Rising plain b l → Every ok l → length (ranked p f l) ≡ length (among p l)
  unfolding in_order among
  length-ranked b [] r a = refl
  length-ranked b (j ∷ l) r a = go (test (p j)) (length-ranked (suc j) l r.1 a.1)
    where
      go : Test (p j) → length (ranked p f l) ≡ length (among p l) → length (ranked p f (j ∷ l)) ≡ length (among p (j ∷ l))
      go (pass e) ih =
          rw (ranked-on p f j l e, among-pass p j l e)
          (length-put-new f j (ranked p f l) (every_of _ (ranked p f l)
          (λ i m g. let n = mem-ranked i l m in
          absurd (omega (arith, rising-at plain (suc j) i l r.1 n.0, apart j i a.0 (every_at ok i l a.1 n.0) e n.1 g))))
          ∙ ap suc ih)
      go (fail e) ih = rw (ranked-off p f j l e, among-fail p j l e) ih

  -- the first n --------------------------------------------------------------------------------------------------------------

  module _ (n : ℕ) where
    -- after a key of the side is learned they go by what they were before, and so are the same from two lists that had the same
    pub first-put : (k : ℕ) (l m : List ℕ) → ok k → Every ok l → Every ok m → take n (ranked p f l) ≡ take n (ranked p f m)
        → take n (ranked p f (put plain k l)) ≡ take n (ranked p f (put plain k m))
    first-put k l m o a b e = go (test (p k))
      where
        go : Test (p k) → take n (ranked p f (put plain k l)) ≡ take n (ranked p f (put plain k m))
        go (pass t) =
            rw (ranked-put k l o a t, ranked-put k m o b t)
            (take_put f n k (ranked p f l) ∙ (ap (λ (x : List ℕ). take n (put f k x)) e ∙ sym (take_put f n k (ranked p f m))))
        go (fail t) = rw (ranked-put-off p f k l t, ranked-put-off p f k m t) e

    -- taking out a key that is not among them changes none of them
    pub first-without : (b d : ℕ) (l : List ℕ) → Rising plain b l → Every ok l → d ∈ l → ¬ (d ∈ take n (ranked p f l))
        → take n (ranked p f (without d l)) ≡ take n (ranked p f l)
    first-without b d l r a m out = go (test (p d))
      where
        back : put plain d (without d l) ≡ l
        back = put-without b d l r m

        go : Test (p d) → take n (ranked p f (without d l)) ≡ take n (ranked p f l)
        go (pass t) =
            let e : ranked p f l ≡ put f d (ranked p f (without d l)) =
            ap (λ (x : List ℕ). ranked p f x) (sym back) ∙ ranked-put d (without d l) (every_at ok d l a m) (every_without ok d l a) t
            in
            rw e (sym (take_beyond f n d (ranked p f (without d l)) (rw e at out)))
        go (fail t) = ap (take n) (sym (ranked-put-off p f d (without d l) t) ∙ ap (λ (x : List ℕ). ranked p f x) back)
