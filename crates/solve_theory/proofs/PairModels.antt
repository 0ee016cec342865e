-- Models and conflicts of a pair of theories, from those of the two.
use Rattle.std.proofs.Common.{◌≡◌, ◌≢◌, ℕ, zero, suc, ◌<◌, Bool, List, [], ◌∷◌, length, get_or, map, Option, Some, None, IsTrue, sym, ap, ◌∙◌, subst, refl, arith}
use Rattle.std.proofs.Math.Logic.{⊎_elim}
use Rattle.std.specs.List.{All, AllPairs, slice_get, slice_index, cons_option}
use Rattle.std.proofs.lemmas.Bool.{and_from, and_parts, cases_order}
use Rattle.std.proofs.lemmas.Option.{none-some}
use Rattle.std.proofs.lemmas.List.{length-map, get_or-map}
use Rattle.std.proofs.lemmas.List.Elements.{All-map, All-head, All-tail, All-cons, All-nil, All-weaker}
use Rattle.solve_theory.specs.declared.pair.Side.{Side}
use Rattle.solve_theory.specs.declared.pair.PairLit.{PairLit}
use Rattle.solve_theory.specs.declared.pair.PairLit.TheVariants.{Left, Right}
use Rattle.solve_theory.specs.Models.{HasModel, IsCore, literals_at}
use Rattle.solve_theory.specs.Pair.{in_order, are_models, meets_own}
use Rattle.solve_theory.specs.PairSides.{Fit, lefts, rights}
use Rattle.solve_theory.specs.PairLaw.{empty_has_pair}
use Rattle.solve_theory.proofs.Sides.{length-in_order, all_in_order, all_lefts, all_rights, length-lefts, length-rights, lefts_in, rights_in, lefts_rise, rights_rise, left_at, right_at}

-- numbers that rise differ, and so do their places
places_once : (places ps : List ℕ) → AllPairs (λ j k. j < k) places → AllPairs (λ j k. j ≢ k) ps → All (λ p. p < length places) ps → AllPairs (λ j k. j ≢ k) (map (slice_index places) ps)
places_once places ps rise once within i j d l m e =
    let n = length-map ps (slice_index places) in
    let j_in : j < length ps = omega arith in
    let i_in : i < length ps = omega arith in
    let x = get_or ps i 0 in
    let y = get_or ps j 0 in
    let same : get_or places x 0 ≡ get_or places y 0 = sym (get_or-map (slice_index places) ps i 0 d i_in) ∙ e ∙ get_or-map (slice_index places) ps j 0 d j_in in
    ⊎_elim
    (λ equal. once i j 0 l j_in equal)
    (λ other. ⊎_elim
    (λ lt. absurd (omega (arith, rise x y 0 lt (within j 0 j_in))))
    (λ gt. absurd (omega (arith, rise y x 0 gt (within i 0 i_in))))
    other)
    (cases_order x y)

All-unmap : {X Y : Type 0} (f : X → Y) (P : Y → Type 0) (xs : List X) → All P (map f xs) → All (λ x. P (f x)) xs
All-unmap f P [] h = All-nil (λ x. P (f x))
All-unmap f P (x ∷ xs) h = All-cons (λ y. P (f y)) x xs (All-head P (f x) (map f xs) h) (All-unmap f P xs (All-tail P (f x) (map f xs) h))

some_none_at : {X : Type 0} (xs : List X) (k : ℕ) → slice_get xs k ≡ None → k < length xs → ⊥
some_none_at [] k e l = omega arith
some_none_at (x ∷ xs) zero e l = none-some x (sym e)
some_none_at (x ∷ xs) (suc k) e l = some_none_at xs k e (omega arith)

literals_at_left : {L R : Type 0} (ss : List Side) (ls : List L) (rs : List R) (k : ℕ) (ps : List ℕ) (o : Option L) → slice_get ls k ≡ o → Fit ss ls rs → k < length ls
    → literals_at (in_order ss ls rs) (map (slice_index (lefts ss)) ps) ≡ map Left (literals_at ls ps)
    → literals_at (in_order ss ls rs) (map (slice_index (lefts ss)) (k ∷ ps)) ≡ map Left (literals_at ls (k ∷ ps))
literals_at_left ss ls rs k ps None e fit l rest = absurd (some_none_at ls k e l)
literals_at_left {L} {R} ss ls rs k ps (Some x) e fit l rest =
    let here = left_at ss ls rs k x fit e in
    ap (λ (o : Option (PairLit L R)). cons_option o (literals_at (in_order ss ls rs) (map (slice_index (lefts ss)) ps))) here
    ∙ ap (λ (t : List (PairLit L R)). Left x ∷ t) rest
    ∙ sym (ap (λ (o : Option L). map Left (cons_option o (literals_at ls ps))) e)

literals_at_right : {L R : Type 0} (ss : List Side) (ls : List L) (rs : List R) (k : ℕ) (ps : List ℕ) (o : Option R) → slice_get rs k ≡ o → Fit ss ls rs → k < length rs
    → literals_at (in_order ss ls rs) (map (slice_index (rights ss)) ps) ≡ map Right (literals_at rs ps)
    → literals_at (in_order ss ls rs) (map (slice_index (rights ss)) (k ∷ ps)) ≡ map Right (literals_at rs (k ∷ ps))
literals_at_right ss ls rs k ps None e fit l rest = absurd (some_none_at rs k e l)
literals_at_right {L} {R} ss ls rs k ps (Some x) e fit l rest =
    let here = right_at ss ls rs k x fit e in
    ap (λ (o : Option (PairLit L R)). cons_option o (literals_at (in_order ss ls rs) (map (slice_index (rights ss)) ps))) here
    ∙ ap (λ (t : List (PairLit L R)). Right x ∷ t) rest
    ∙ sym (ap (λ (o : Option R). map Right (cons_option o (literals_at rs ps))) e)

module _ {M L N R : Type 0} (f : M → Bool) (p : M → L → Bool) (g : N → Bool) (q : N → R → Bool) where
  -- a model of the literals of each theory makes one of all of them
  pub pair_model : (ss : List Side) (ls : List L) (rs : List R) → HasModel f p ls → HasModel g q rs → HasModel (are_models f g) (meets_own p q) (in_order ss ls rs)
  pair_model ss ls rs h k = record {
    model = (h.model, k.model);
    fits = record {
      is_model = and_from (f h.model) (g k.model) h.fits.is_model k.fits.is_model;
      meets_each = all_in_order (λ l. IsTrue (meets_own p q (h.model, k.model) l)) ss ls rs h.fits.meets_each k.fits.meets_each;
    };
  }

  pub left_model : (ss : List Side) (ls : List L) (rs : List R) → Fit ss ls rs → HasModel (are_models f g) (meets_own p q) (in_order ss ls rs) → HasModel f p ls
  left_model ss ls rs fit h = record {
    model = h.model.0;
    fits = record {
      is_model = (and_parts (f h.model.0) (g h.model.1) h.fits.is_model).0;
      meets_each = all_lefts (λ l. IsTrue (meets_own p q h.model l)) ss ls rs fit h.fits.meets_each;
    };
  }

  pub right_model : (ss : List Side) (ls : List L) (rs : List R) → Fit ss ls rs → HasModel (are_models f g) (meets_own p q) (in_order ss ls rs) → HasModel g q rs
  right_model ss ls rs fit h = record {
    model = h.model.1;
    fits = record {
      is_model = (and_parts (f h.model.0) (g h.model.1) h.fits.is_model).1;
      meets_each = all_rights (λ l. IsTrue (meets_own p q h.model l)) ss ls rs fit h.fits.meets_each;
    };
  }

  -- the literals at the places of left literals are these
  literals_at_lefts : (ss : List Side) (ls : List L) (rs : List R) (ps : List ℕ) → Fit ss ls rs → All (λ k. k < length ls) ps → literals_at (in_order ss ls rs) (map (slice_index (lefts ss)) ps) ≡ map Left (literals_at ls ps)
  literals_at_lefts ss ls rs [] fit h = refl
  literals_at_lefts ss ls rs (k ∷ ps) fit h =
      literals_at_left ss ls rs k ps (slice_get ls k) refl fit (All-head (λ i. i < length ls) k ps h) (literals_at_lefts ss ls rs ps fit (All-tail (λ i. i < length ls) k ps h))

  -- a conflict of the left literals is one of all, at their places
  pub core_left : (ss : List Side) (ls : List L) (rs : List R) (ps : List ℕ) → Fit ss ls rs → IsCore f p ls ps → IsCore (are_models f g) (meets_own p q) (in_order ss ls rs) (map (slice_index (lefts ss)) ps)
  core_left ss ls rs ps fit core =
      let n = length-lefts ss ls rs fit in
      let all_in : All (λ k. k < length (lefts ss)) ps = All-weaker (λ k. k < length ls) (λ k. k < length (lefts ss)) (λ k l. omega arith) ps core.within in
      record {
        within =
            All-map (λ k. k < length (in_order ss ls rs)) (slice_index (lefts ss)) ps
            (All-weaker (λ k. k < length (lefts ss)) (λ k. get_or (lefts ss) k 0 < length (in_order ss ls rs)) (λ k l. omega (arith, lefts_in ss k 0 l, length-in_order ss ls rs fit)) ps all_in);
        once = places_once (lefts ss) ps (lefts_rise ss) core.once all_in;
        has_none = λ h. core.has_none (record {
          model = h.model.0;
          fits = record {
            is_model = (and_parts (f h.model.0) (g h.model.1) h.fits.is_model).0;
            meets_each =
                All-unmap Left (λ l. IsTrue (meets_own p q h.model l)) (literals_at ls ps)
                (subst (λ ls'. All (λ l. IsTrue (meets_own p q h.model l)) ls') (literals_at_lefts ss ls rs ps fit core.within) h.fits.meets_each);
          };
        });
      }

  -- the literals at the places of right literals are these
  literals_at_rights : (ss : List Side) (ls : List L) (rs : List R) (ps : List ℕ) → Fit ss ls rs → All (λ k. k < length rs) ps → literals_at (in_order ss ls rs) (map (slice_index (rights ss)) ps) ≡ map Right (literals_at rs ps)
  literals_at_rights ss ls rs [] fit h = refl
  literals_at_rights ss ls rs (k ∷ ps) fit h =
      literals_at_right ss ls rs k ps (slice_get rs k) refl fit (All-head (λ i. i < length rs) k ps h) (literals_at_rights ss ls rs ps fit (All-tail (λ i. i < length rs) k ps h))

  -- a conflict of the right literals is one of all, at their places
  pub core_right : (ss : List Side) (ls : List L) (rs : List R) (ps : List ℕ) → Fit ss ls rs → IsCore g q rs ps → IsCore (are_models f g) (meets_own p q) (in_order ss ls rs) (map (slice_index (rights ss)) ps)
  core_right ss ls rs ps fit core =
      let n = length-rights ss ls rs fit in
      let all_in : All (λ k. k < length (rights ss)) ps = All-weaker (λ k. k < length rs) (λ k. k < length (rights ss)) (λ k l. omega arith) ps core.within in
      record {
        within =
            All-map (λ k. k < length (in_order ss ls rs)) (slice_index (rights ss)) ps
            (All-weaker (λ k. k < length (rights ss)) (λ k. get_or (rights ss) k 0 < length (in_order ss ls rs)) (λ k l. omega (arith, rights_in ss k 0 l, length-in_order ss ls rs fit)) ps all_in);
        once = places_once (rights ss) ps (rights_rise ss) core.once all_in;
        has_none = λ h. core.has_none (record {
          model = h.model.1;
          fits = record {
            is_model = (and_parts (f h.model.0) (g h.model.1) h.fits.is_model).1;
            meets_each =
                All-unmap Right (λ l. IsTrue (meets_own p q h.model l)) (literals_at rs ps)
                (subst (λ ls'. All (λ l. IsTrue (meets_own p q h.model l)) ls') (literals_at_rights ss ls rs ps fit core.within) h.fits.meets_each);
          };
        });
      }

-- nothing asserted in a pair has a model where nothing asserted in each theory has one
pub HasModel-no_sides : {M L N R : Type 0} (f : M → Bool) (p : M → L → Bool) (ls : List L) (g : N → Bool) (q : N → R → Bool) (rs : List R) (ss : List Side) → ss ≡ [] → HasModel f p [] → HasModel g q [] → HasModel (are_models f g) (meets_own p q) (in_order ss ls rs)
HasModel-no_sides f p ls g q rs ss none h k = rw none (empty_has_pair h k)
