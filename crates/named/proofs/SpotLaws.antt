-- Laws of places. In this order: a place and the record there; the closer of two places; what is told by the two places; the places that the walks
-- find. Assumes nothing.
use mathlib.Core.Path.{◌≡◌, refl, sym, ap, ap₂, ◌∙◌}
use mathlib.Core.Bool.{Bool, true, false, not, cond, ◌||◌}
use mathlib.Core.List.{List, [], ◌∷◌}
use mathlib.Core.Option.{some, none}
use mathlib.Core.Option as O
use Prim.Native.Nat.{ℕ, ◌+◌, ◌*◌, ◌/◌, ◌≤◌, ◌<◌}
use native.Mathlib.Omega.{arith}
use lib.Dec.{eqb}
use lib.ListN.{length}
use borrow.Author.Tests.{eq-eqb, ne_eqb, eqb-false}
use Rattle.std.specs.Prelude.{Option, Some, None}
use Rattle.octet.specs.Part.{part}
use Rattle.key.specs.Number.{key_at}
use Rattle.key.specs.Around.{closer}
use Rattle.record.specs.Record.{key_of}
use Rattle.own.specs.Own.{own_form, own_keys, own_records}
use Rattle.own.proofs.FormLaws.{own_formed}
use Rattle.table.specs.Rows.{rows}
use Rattle.cache.specs.Form.{Form}
use Rattle.cache.proofs.FormLaws.{key_of-row, form_laid}
use Rattle.neighbours.specs.Closest.{candidates, off_path, closest_of}
use Rattle.neighbours.specs.declared.nearest.Spot.{Spot}
use Rattle.neighbours.specs.declared.nearest.Spot.TheVariants.{Own, Held}
use Rattle.named.specs.declared.Choice.{Choice}
use Rattle.reason.specs.Because.{Because, only, target, tied, nearest, named_key}
use Rattle.reason.specs.Reason.{passing, closest_in, next_of, because_by, given_by, because_of, reason_by, reason_of}
use Rattle.reason.specs.declared.Reason.{Reason}
use Rattle.reason.specs.declared.Reason.TheVariants.{Only, Target, Tied, Nearest}
use Rattle.next_row.specs.Walk.{kept, wanted, row_at, closer_of, place_among}
use Rattle.named.specs.Call.{Told, named, named_of, named_past}
use Rattle.named.specs.Spots.{record_at, spotted, is_nowhere, Inside, Shows, Placed, choice_told}
use Rattle.named.specs.Places.{closer_spot, spot_for, choice_by, choice_for}
use Rattle.reason.proofs.ReasonLaws.{given_because}
use Rattle.next_row.proofs.WalkLaws.{pass_all, place_found, walks-closest}
use Rattle.named.proofs.OwnedLaws.{candidates_are}

-- ---- a place and the record there

there : O.Option (List ℕ) → List ℕ
there none = []
there (some r) = r

is_found : O.Option (List ℕ) → ℕ
is_found none = 0
is_found (some r) = 1

module _ (own cache : List ℕ) where
  spot-record : (x : Option Spot) → record_at own cache x ≡ there (spotted own cache x)
  unfolding there
  spot-record None = refl
  spot-record (Some x) = refl

  some-where : (x : Option Spot) → is_nowhere x ≡ false → spotted own cache x ≡ some (record_at own cache x)
  some-where None e = let z : ◌≡◌ {A = ℕ} 0 1 = cc in absurd (omega arith)
  some-where (Some x) e = refl

  no-where : (x : Option Spot) → is_nowhere x ≡ true → spotted own cache x ≡ none
  no-where None e = refl
  no-where (Some x) e = let z : ◌≡◌ {A = ℕ} 0 1 = cc in absurd (omega arith)

  -- something was found: it stands somewhere
  found-where : (x : Option Spot) {r : List ℕ} → spotted own cache x ≡ some r → is_nowhere x ≡ false
  unfolding is_found
  found-where None e = let z : ◌≡◌ {A = ℕ} 0 1 = ap is_found e in absurd (omega arith)
  found-where (Some x) e = refl

-- ---- the closer of two places

module _ (t : ℕ) (own : List ℕ) (m i : ℕ) (cache : List ℕ) (n j : ℕ) where
  abbrev Is : Option Spot → Type 0
  Is x = x ≡ closer_spot t own m i cache n j

  pub spot-none : i ≡ m → j ≡ n → Is None
  unfolding closer_spot
  spot-none p q = rw (eq-eqb i m p, eq-eqb j n q) refl

  pub spot-held : i ≡ m → (j ≡ n → ⊥) → Is (Some (Held j))
  unfolding closer_spot
  spot-held p q = rw (eq-eqb i m p, ne_eqb j n q) refl

  pub spot-own : (i ≡ m → ⊥) → j ≡ n → Is (Some (Own i))
  unfolding closer_spot
  spot-own p q = rw (ne_eqb i m p, eq-eqb j n q) refl

  module _ (p : i ≡ m → ⊥) (q : j ≡ n → ⊥) where
    pub spot-closer : closer t (key_at (100 * j) cache) (key_at (100 * i) own) ≡ true → Is (Some (Held j))
    unfolding closer_spot
    spot-closer e = rw (ne_eqb i m p, ne_eqb j n q, e) refl

    pub spot-nearer : closer t (key_at (100 * j) cache) (key_at (100 * i) own) ≡ false → Is (Some (Own i))
    unfolding closer_spot
    spot-nearer e = rw (ne_eqb i m p, ne_eqb j n q, e) refl

  -- the record there is the closer of the two rows
  spot-joins : spotted own cache (closer_spot t own m i cache n j) ≡ closer_of t (row_at m own i) (row_at n cache j)
  unfolding closer_spot
  spot-joins = go (eqb i m) (eqb j n)
    where
      of_two : (c : Bool) → spotted own cache (cond c (Some (Held j)) (Some (Own i))) ≡ some (cond c (part (100 * j) 100 cache) (part (100 * i) 100 own))
      of_two true = refl
      of_two false = refl

      go : (a b : Bool)
          → spotted own cache (cond a (cond b None (Some (Held j)))
          (cond b (Some (Own i)) (cond (closer t (key_at (100 * j) cache) (key_at (100 * i) own)) (Some (Held j)) (Some (Own i)))))
          ≡ closer_of t (cond a none (some (part (100 * i) 100 own))) (cond b none (some (part (100 * j) 100 cache)))
      go true true = refl
      go true false = refl
      go false true = refl
      go false false =
          of_two (closer t (key_at (100 * j) cache) (key_at (100 * i) own))
          ∙ ap (λ (c : Bool). some (cond c (part (100 * j) 100 cache) (part (100 * i) 100 own)))
          (sym (ap₂ (closer t) (key_of-row (100 * j) cache) (key_of-row (100 * i) own)))

  spot-inside : 100 * m ≤ length own → 100 * n ≤ length cache → i ≤ m → j ≤ n → Inside own cache (closer_spot t own m i cache n j)
  unfolding closer_spot
  spot-inside ho hc hi hj = go (eqb i m) (eqb j n) (closer t (key_at (100 * j) cache) (key_at (100 * i) own)) refl refl
    where
      in_own : eqb i m ≡ false → 100 * i + 100 ≤ length own
      in_own p = omega (arith, eqb-false i m p)

      in-cache : eqb j n ≡ false → 100 * j + 100 ≤ length cache
      in-cache p = omega (arith, eqb-false j n p)

      go : (a b c : Bool) → eqb i m ≡ a → eqb j n ≡ b
          → Inside own cache (cond a (cond b None (Some (Held j))) (cond b (Some (Own i)) (cond c (Some (Held j)) (Some (Own i)))))
      go true true c p q = tt
      go true false c p q = in-cache q
      go false true c p q = in_own p
      go false false true p q = in-cache q
      go false false false p q = in_own p

-- ---- what is told by the two places

some_closest : (t : ℕ) (cands : List (List ℕ)) → 0 < length cands → closest_in t cands ≡ some (closest_of t cands)
unfolding closest_of
some_closest t [] p = absurd (omega arith)
some_closest t (r ∷ rs) p = refl

module _ (own cache : List ℕ) (t j : ℕ) (cands : List (List ℕ)) (p : 0 < length cands) (c : Option Spot)
    (ec : spotted own cache c ≡ closest_in t (passing (kept false j) cands)) where
  chosen_is : record_at own cache c ≡ closest_of t cands
  unfolding there
  chosen_is = spot-record own cache c ∙ ap there (ec ∙ ap (closest_in t) (pass_all (kept false j) cands (λ r. refl)) ∙ some_closest t cands p)

  chosen-where : is_nowhere c ≡ false
  chosen-where = found-where own cache c (ec ∙ ap (closest_in t) (pass_all (kept false j) cands (λ r. refl)) ∙ some_closest t cands p)

  module _ (o : Option Spot) (k : ℕ) (ek : k ≡ key_of (record_at own cache c)) (eo : spotted own cache o ≡ closest_in t (passing (kept true k) cands)) where
    next-is : spotted own cache o ≡ next_of t cands
    next-is = eo ∙ ap (λ (n : ℕ). closest_in t (passing (kept true n) cands)) (ek ∙ ap key_of chosen_is)

    tells : (b : Because) → b ≡ reason_by t (named_key t cands) (spotted own cache o) → named (record_at own cache c) b ≡ named_of t cands
    unfolding reason_of
    tells b e = ap₂ named chosen_is (e ∙ ap (reason_by t (named_key t cands)) next-is)

    -- by whether there is another
    alone : (b : Bool) → is_nowhere o ≡ b
        → cond b only (because_by t (named_key t cands) (key_of (record_at own cache o))) ≡ reason_by t (named_key t cands) (spotted own cache o)
    alone true e = sym (ap (reason_by t (named_key t cands)) (no-where own cache o e))
    alone false e = sym (ap (reason_by t (named_key t cands)) (some-where own cache o e))

    choice-tells : (b : Because) → b ≡ cond (is_nowhere o) only (because_by t k (key_of (record_at own cache o)))
        → named (record_at own cache c) b ≡ named_of t cands
    choice-tells b is =
        tells b (is ∙ ap (λ (n : ℕ). cond (is_nowhere o) only (because_by t n (key_of (record_at own cache o)))) (ek ∙ ap key_of chosen_is)
        ∙ alone (is_nowhere o) refl)

-- where a key goes with the reason there is another candidate
given : Because → ℕ
given only = 0
given target = 1
given (tied k) = 2
given (nearest k) = 3

shows_other : (r : Reason) (o : Option Spot) (b : Bool) (n t k : ℕ) → is_nowhere o ≡ b → because_of r n ≡ cond b only (because_by t k n) → Shows r o
unfolding given
shows_other Only o b n t k p e = tt
shows_other Target o b n t k p e = tt
shows_other Tied o false n t k p e = p
shows_other Tied o true n t k p e = absurd (let z : ◌≡◌ {A = ℕ} 2 0 = ap given e in omega arith)
shows_other Nearest o false n t k p e = p
shows_other Nearest o true n t k p e = absurd (let z : ◌≡◌ {A = ℕ} 3 0 = ap given e in omega arith)

-- ---- the places that the walks find

module _ (own cache : List ℕ) (used : ℕ) (path : List ℕ) (t : ℕ) where
  abbrev findsFor : Bool → ℕ → Option Spot
  findsFor leave k = spot_for own cache used path t leave k

  abbrev choice_of : Option Spot → Reason → Option Spot → Choice
  choice_of x r y = record { chosen = x; reason = r; other = y }

  -- made of what the two searches answer and of their keys
  pub choice-is : {x y : Option Spot} {k next : ℕ} {b : Bool} {r : Reason} → x ≡ findsFor false t → k ≡ key_of (record_at own cache x) → y ≡ findsFor true k
      → next ≡ key_of (record_at own cache y) → b ≡ is_nowhere y → r ≡ given_by b t k next
      → choice_of x r y ≡ choice_for own cache used path t
  choice-is {x} {y} {k} {next} {b} {r} ex ek ey en eb er =
      ap (λ (z : Reason). choice_of x z y) (er ∙ ap (λ (c : Bool). given_by c t k next) eb ∙ ap₂ (given_by (is_nowhere y) t) ek en)
      ∙ ap (choice_by own cache t x) (ey ∙ ap (findsFor true) ek)
      ∙ ap (λ (z : Option Spot). choice_by own cache t z (findsFor true (key_of (record_at own cache z)))) ex

  module _ (formed : own_form own ≡ true) (form : Form (own_keys own) cache (rows 100 used cache)) where
    abbrev ours : ℕ
    ours = length own / 100

    abbrev cands : List (List ℕ)
    cands = candidates (own_records own) (off_path path (rows 100 used cache))

    some-cand : 0 < length cands
    some-cand = (candidates_are own formed (rows 100 used cache) path form.held).0

    finds-closest : (leave : Bool) (k : ℕ) → spotted own cache (findsFor leave k) ≡ closest_in t (passing (kept leave k) cands)
    finds-closest leave k =
        spot-joins t own ours (place_among t (wanted [] leave k) ours own) cache used (place_among t (wanted path leave k) used cache)
        ∙ ap₂ (closer_of t) (place_found t (wanted [] leave k) ours own).1 (place_found t (wanted path leave k) used cache).1
        ∙ walks-closest leave k t (own_records own) (rows 100 used cache) path

    pub finds-inside : (leave : Bool) (k : ℕ) → Inside own cache (findsFor leave k)
    finds-inside leave k =
        spot-inside t own ours (place_among t (wanted [] leave k) ours own) cache used (place_among t (wanted path leave k) used cache)
        (omega (arith, (own_formed own formed).many)) (form_laid (own_keys own) used cache form).room
        (place_found t (wanted [] leave k) ours own).0 (place_found t (wanted path leave k) used cache).0

    abbrev c : Choice
    c = choice_for own cache used path t

    because : because_of c.reason (key_of (record_at own cache c.other))
        ≡ cond (is_nowhere c.other) only (because_by t (key_of (record_at own cache c.chosen)) (key_of (record_at own cache c.other)))
    because = given_because (is_nowhere c.other) t (key_of (record_at own cache c.chosen)) (key_of (record_at own cache c.other))

    pub choice-told : choice_told own cache c ≡ named_past (own_records own) (rows 100 used cache) path t
    choice-told =
        choice-tells own cache t t cands some-cand c.chosen (finds-closest false t) c.other (key_of (record_at own cache c.chosen)) refl
        (finds-closest true (key_of (record_at own cache c.chosen))) (because_of c.reason (key_of (record_at own cache c.other))) because

    pub choice-placed : Placed own cache c
    choice-placed = record {
      chosen = finds-inside false t;
      somewhere = chosen-where own cache t t cands some-cand c.chosen (finds-closest false t);
      other = finds-inside true (key_of (record_at own cache c.chosen));
      shows = shows_other c.reason c.other (is_nowhere c.other) (key_of (record_at own cache c.other)) t
          (key_of (record_at own cache c.chosen)) refl because;
    }
