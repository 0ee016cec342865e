-- What an assertion and an undo leave of what a `Pair` keeps.
use Rattle.std.proofs.Common.{◌≡◌, ℕ, ◌-◌, ◌<◌, ◌≤◌, Bool, List, [], ◌∷◌, ◌++◌, length, get_or, take, Some, sym, ap, ◌∙◌, subst, refl, arith}
use Rattle.std.specs.List.{slice_get}
use Rattle.std.proofs.lemmas.Option.{slice_get_within, get_or_from_slice_get}
use Rattle.std.proofs.lemmas.List.{length_push, get_or_push, take_at}
use Rattle.solve_theory.specs.declared.pair.Side.{Side}
use Rattle.solve_theory.specs.declared.pair.Side.TheVariants as side
use Rattle.solve_theory.specs.declared.pair.PairLit.TheVariants.{Left, Right}
use Rattle.solve_theory.specs.Models.{HasModel}
use Rattle.solve_theory.specs.PairSides.{Fit, lefts, rights, HadModels, IsSoundPair}
use Rattle.solve_theory.specs.Pair.{in_order}
use Rattle.solve_theory.proofs.Models.{HasModel-take, HasModel-along}
use Rattle.solve_theory.proofs.Sides.{Fit-push_left, Fit-push_right, last_left, last_right, lefts-push_left, lefts-push_right, rights-push_left, rights-push_right, in_order-push_left, in_order-push_right}

-- the side at the end
last_side : (ss : List Side) (s d : Side) → get_or (ss ++ s ∷ []) (length (ss ++ s ∷ []) - 1) d ≡ s
last_side ss s d = ap (λ k. get_or (ss ++ s ∷ []) k d) (omega (arith, length_push ss s)) ∙ get_or_push ss s d (length ss) refl

front_of : {X : Type 0} (xs : List X) (x : X) → take (length (xs ++ x ∷ []) - 1) (xs ++ x ∷ []) ≡ xs
front_of xs x = take_at xs (x ∷ []) (length (xs ++ x ∷ []) - 1) (omega (arith, length_push xs x))

not_none : {P : Type 0} → P → ¬ ¬ P
not_none x = λ f. f x

module _ {M L N R : Type 0} (f : M → Bool) (p : M → L → Bool) (ls : List L) (cap : ℕ) (g : N → Bool) (q : N → R → Bool) (rs : List R) (other_cap : ℕ) (sides : List Side) (lp rp : List ℕ) (limit room lr rr core : ℕ) (sound : IsSoundPair f p ls cap g q rs other_cap sides lp rp limit room lr rr core) where
  -- one more literal of the left theory, while both had models
  pub push_left : (new_f : M → Bool) (new_ls : List L) (new_cap : ℕ) (l : L) (new_lp : List ℕ) (new_room new_lr : ℕ) → HasModel f p ls → HasModel g q rs → length sides < limit
      → new_f ≡ f → new_ls ≡ ls ++ l ∷ [] → new_cap ≡ cap → new_lp ≡ lp ++ length sides ∷ [] → room ≤ new_room → lr ≤ new_lr
      → IsSoundPair new_f p new_ls new_cap g q rs other_cap (sides ++ side.Left ∷ []) new_lp rp limit new_room new_lr rr core
  push_left new_f new_ls new_cap l new_lp new_room new_lr has_left has_right free f_e ls_e cap_e lp_e room_le lr_le = record {
    small = sound.small;
    fits = omega (arith, length_push sides side.Left);
    sides_room = omega (arith, sound.sides_room);
    lefts_room = omega (arith, sound.lefts_room);
    rights_room = sound.rights_room;
    core_fits = sound.core_fits;
    left_limit = cap_e ∙ sound.left_limit;
    right_limit = sound.right_limit;
    fit = subst (λ xs. Fit (sides ++ side.Left ∷ []) xs rs) (sym ls_e) (Fit-push_left sides ls rs l sound.fit);
    lefts_are = lp_e ∙ ap (λ ks. ks ++ length sides ∷ []) sound.lefts_are ∙ sym (lefts-push_left sides);
    rights_are = sound.rights_are ∙ sym (rights-push_left sides);
    left_last = λ pos e. (
      not_none (HasModel-along f new_f p ls (take (length new_ls - 1) new_ls) f_e (ap (λ xs. take (length xs - 1) xs) ls_e ∙ front_of ls l) has_left),
      not_none has_right,
    );
    right_last = λ pos e. absurd (let same = sym (last_side sides side.Left side.Left) ∙ e in cc);
  }

-- the last literal of the left theory taken back
module _ {M L N R : Type 0} (f : M → Bool) (p : M → L → Bool) (ls : List L) (cap : ℕ) (g : N → Bool) (q : N → R → Bool) (rs : List R) (other_cap : ℕ) (sides : List Side) (lp rp : List ℕ) (limit room lr rr core : ℕ) (sound : IsSoundPair f p ls cap g q rs other_cap (sides ++ side.Left ∷ []) lp rp limit room lr rr core) where
  pub left_there : 0 < length ls
  left_there = let last = last_left sides ls rs sound.fit in omega (arith, ap length last.2, length_push last.0 last.1)

  left_front : take (length ls - 1) ls ≡ (last_left sides ls rs sound.fit).0
  left_front = let last = last_left sides ls rs sound.fit in ap (λ xs. take (length xs - 1) xs) last.2 ∙ front_of last.0 last.1

  left_fit : Fit sides (take (length ls - 1) ls) rs
  left_fit = subst (λ xs. Fit sides xs rs) (sym left_front) (last_left sides ls rs sound.fit).3

  had : HadModels f p ls g q rs
  had = sound.left_last (omega (arith, length_push sides side.Left)) (last_side sides side.Left side.Right)

  pub pop_left : (new_f : M → Bool) (new_ls : List L) (new_cap : ℕ) (new_lp : List ℕ) (new_room new_lr : ℕ) → new_f ≡ f → new_ls ≡ take (length ls - 1) ls → new_cap ≡ cap → new_lp ≡ take (length lp - 1) lp → room ≤ new_room → lr ≤ new_lr
      → IsSoundPair new_f p new_ls new_cap g q rs other_cap sides new_lp rp limit new_room new_lr rr core
  pop_left new_f new_ls new_cap new_lp new_room new_lr f_e ls_e cap_e lp_e room_le lr_le =
      let had_left : ¬ ¬ HasModel new_f p new_ls = λ n. had.0 (λ h. n (HasModel-along f new_f p (take (length ls - 1) ls) new_ls f_e ls_e h)) in
      record {
        small = sound.small;
        fits = omega (arith, sound.fits, length_push sides side.Left);
        sides_room = omega (arith, sound.sides_room);
        lefts_room = omega (arith, sound.lefts_room);
        rights_room = sound.rights_room;
        core_fits = sound.core_fits;
        left_limit = cap_e ∙ sound.left_limit;
        right_limit = sound.right_limit;
        fit = subst (λ xs. Fit sides xs rs) (sym ls_e) left_fit;
        lefts_are =
            lp_e ∙ ap (λ ks. take (length ks - 1) ks) (sound.lefts_are ∙ lefts-push_left sides) ∙ front_of (lefts sides) (length sides);
        rights_are = sound.rights_are ∙ rights-push_left sides;
        left_last = λ pos e. (λ n. had_left (λ h. n (HasModel-take new_f p (length new_ls - 1) new_ls h)), had.1);
        right_last = λ pos e. (λ n. had.1 (λ h. n (HasModel-take g q (length rs - 1) rs h)), had_left);
      }

  pub popped_left : in_order sides (take (length ls - 1) ls) rs ≡ take (length (in_order (sides ++ side.Left ∷ []) ls rs) - 1) (in_order (sides ++ side.Left ∷ []) ls rs)
  popped_left =
      let last = last_left sides ls rs sound.fit in
      let all = in_order-push_left sides last.0 rs last.1 last.3 in
      ap (λ xs. in_order sides xs rs) left_front
      ∙ sym (ap (λ xs. take (length (in_order (sides ++ side.Left ∷ []) xs rs) - 1) (in_order (sides ++ side.Left ∷ []) xs rs)) last.2
      ∙ ap (λ t. take (length t - 1) t) all ∙ front_of (in_order sides last.0 rs) (Left last.1))

module _ {M L N R : Type 0} (f : M → Bool) (p : M → L → Bool) (ls : List L) (cap : ℕ) (g : N → Bool) (q : N → R → Bool) (rs : List R) (other_cap : ℕ) (sides : List Side) (lp rp : List ℕ) (limit room lr rr core : ℕ) (sound : IsSoundPair f p ls cap g q rs other_cap sides lp rp limit room lr rr core) where
  -- one more literal of the right theory, while both had models
  pub push_right : (new_g : N → Bool) (new_rs : List R) (new_cap : ℕ) (r : R) (new_rp : List ℕ) (new_room new_rr : ℕ) → HasModel f p ls → HasModel g q rs → length sides < limit
      → new_g ≡ g → new_rs ≡ rs ++ r ∷ [] → new_cap ≡ other_cap → new_rp ≡ rp ++ length sides ∷ [] → room ≤ new_room → rr ≤ new_rr
      → IsSoundPair f p ls cap new_g q new_rs new_cap (sides ++ side.Right ∷ []) lp new_rp limit new_room lr new_rr core
  push_right new_g new_rs new_cap r new_rp new_room new_rr has_left has_right free g_e rs_e cap_e rp_e room_le rr_le = record {
    small = sound.small;
    fits = omega (arith, length_push sides side.Right);
    sides_room = omega (arith, sound.sides_room);
    lefts_room = sound.lefts_room;
    rights_room = omega (arith, sound.rights_room);
    core_fits = sound.core_fits;
    left_limit = sound.left_limit;
    right_limit = cap_e ∙ sound.right_limit;
    fit = subst (λ xs. Fit (sides ++ side.Right ∷ []) ls xs) (sym rs_e) (Fit-push_right sides ls rs r sound.fit);
    lefts_are = sound.lefts_are ∙ sym (lefts-push_right sides);
    rights_are = rp_e ∙ ap (λ ks. ks ++ length sides ∷ []) sound.rights_are ∙ sym (rights-push_right sides);
    left_last = λ pos e. absurd (let same = sym (last_side sides side.Right side.Right) ∙ e in cc);
    right_last = λ pos e. (
      not_none (HasModel-along g new_g q rs (take (length new_rs - 1) new_rs) g_e (ap (λ xs. take (length xs - 1) xs) rs_e ∙ front_of rs r) has_right),
      not_none has_left,
    );
  }

-- the last literal of the right theory taken back
module _ {M L N R : Type 0} (f : M → Bool) (p : M → L → Bool) (ls : List L) (cap : ℕ) (g : N → Bool) (q : N → R → Bool) (rs : List R) (other_cap : ℕ) (sides : List Side) (lp rp : List ℕ) (limit room lr rr core : ℕ) (sound : IsSoundPair f p ls cap g q rs other_cap (sides ++ side.Right ∷ []) lp rp limit room lr rr core) where
  pub right_there : 0 < length rs
  right_there = let last = last_right sides ls rs sound.fit in omega (arith, ap length last.2, length_push last.0 last.1)

  right_front : take (length rs - 1) rs ≡ (last_right sides ls rs sound.fit).0
  right_front = let last = last_right sides ls rs sound.fit in ap (λ xs. take (length xs - 1) xs) last.2 ∙ front_of last.0 last.1

  right_fit : Fit sides ls (take (length rs - 1) rs)
  right_fit = subst (λ xs. Fit sides ls xs) (sym right_front) (last_right sides ls rs sound.fit).3

  had_right_last : HadModels g q rs f p ls
  had_right_last = sound.right_last (omega (arith, length_push sides side.Right)) (last_side sides side.Right side.Left)

  pub pop_right : (new_g : N → Bool) (new_rs : List R) (new_cap : ℕ) (new_rp : List ℕ) (new_room new_rr : ℕ) → new_g ≡ g → new_rs ≡ take (length rs - 1) rs → new_cap ≡ other_cap → new_rp ≡ take (length rp - 1) rp → room ≤ new_room → rr ≤ new_rr
      → IsSoundPair f p ls cap new_g q new_rs new_cap sides lp new_rp limit new_room lr new_rr core
  pop_right new_g new_rs new_cap new_rp new_room new_rr g_e rs_e cap_e rp_e room_le rr_le =
      let had_right : ¬ ¬ HasModel new_g q new_rs = λ n. had_right_last.0 (λ h. n (HasModel-along g new_g q (take (length rs - 1) rs) new_rs g_e rs_e h)) in
      record {
        small = sound.small;
        fits = omega (arith, sound.fits, length_push sides side.Right);
        sides_room = omega (arith, sound.sides_room);
        lefts_room = sound.lefts_room;
        rights_room = omega (arith, sound.rights_room);
        core_fits = sound.core_fits;
        left_limit = sound.left_limit;
        right_limit = cap_e ∙ sound.right_limit;
        fit = subst (λ xs. Fit sides ls xs) (sym rs_e) right_fit;
        lefts_are = sound.lefts_are ∙ lefts-push_right sides;
        rights_are =
            rp_e ∙ ap (λ ks. take (length ks - 1) ks) (sound.rights_are ∙ rights-push_right sides) ∙ front_of (rights sides) (length sides);
        left_last = λ pos e. (λ n. had_right_last.1 (λ h. n (HasModel-take f p (length ls - 1) ls h)), had_right);
        right_last = λ pos e. (λ n. had_right (λ h. n (HasModel-take new_g q (length new_rs - 1) new_rs h)), had_right_last.1);
      }

  pub popped_right : in_order sides ls (take (length rs - 1) rs) ≡ take (length (in_order (sides ++ side.Right ∷ []) ls rs) - 1) (in_order (sides ++ side.Right ∷ []) ls rs)
  popped_right =
      let last = last_right sides ls rs sound.fit in
      let all = in_order-push_right sides ls last.0 last.1 last.3 in
      ap (λ xs. in_order sides ls xs) right_front
      ∙ sym (ap (λ xs. take (length (in_order (sides ++ side.Right ∷ []) ls xs) - 1) (in_order (sides ++ side.Right ∷ []) ls xs)) last.2
      ∙ ap (λ t. take (length t - 1) t) all ∙ front_of (in_order sides ls last.0) (Right last.1))

-- the last of the sides, from what a look at it gave
pub last_is : (ss : List Side) (s d : Side) → slice_get ss (length ss - 1) ≡ Some s → (0 < length ss) × (get_or ss (length ss - 1) d ≡ s)
last_is ss s d e = (omega (arith, slice_get_within ss (length ss - 1) s e), get_or_from_slice_get ss (length ss - 1) s d e)
