-- The literals of two theories in one list.
use Rattle.std.proofs.Common.{◌≡◌, ℕ, zero, suc, ◌+◌, ◌<◌, ◌≤◌, List, [], ◌∷◌, ◌++◌, length, get_or, map, Some, ap, ◌∙◌, refl, arith}
use Rattle.std.specs.List.{All, AllPairs, slice_get}
use Rattle.std.proofs.lemmas.List.{length-map, map_push, get_or-map}
use Rattle.std.proofs.lemmas.Option.{none-some, same_Some, slice_get_within}
use Rattle.std.proofs.lemmas.List.Elements.{All-nil, All-cons, All-head, All-tail, All-map, All-weaker}
use Rattle.solve_theory.specs.declared.pair.Side.{Side}
use Rattle.solve_theory.specs.declared.pair.Side.TheVariants as side
use Rattle.solve_theory.specs.declared.pair.PairLit.{PairLit}
use Rattle.solve_theory.specs.declared.pair.PairLit.TheVariants.{Left, Right}
use Rattle.solve_theory.specs.Pair.{in_order}
use Rattle.solve_theory.specs.PairSides.{Fit, lefts, rights}

-- one more literal of the left theory, and of the right one
pub Fit-push_left : {L R : Type 0} (ss : List Side) (ls : List L) (rs : List R) (l : L) → Fit ss ls rs → Fit (ss ++ side.Left ∷ []) (ls ++ l ∷ []) rs
Fit-push_left [] [] [] l h = tt
Fit-push_left [] [] (r ∷ rs) l h = absurd h
Fit-push_left [] (x ∷ ls) rs l h = absurd h
Fit-push_left (side.Left ∷ ss) [] rs l h = absurd h
Fit-push_left (side.Left ∷ ss) (x ∷ ls) rs l h = Fit-push_left ss ls rs l h
Fit-push_left (side.Right ∷ ss) ls [] l h = absurd h
Fit-push_left (side.Right ∷ ss) ls (r ∷ rs) l h = Fit-push_left ss ls rs l h

pub Fit-push_right : {L R : Type 0} (ss : List Side) (ls : List L) (rs : List R) (r : R) → Fit ss ls rs → Fit (ss ++ side.Right ∷ []) ls (rs ++ r ∷ [])
Fit-push_right [] [] [] r h = tt
Fit-push_right [] [] (x ∷ rs) r h = absurd h
Fit-push_right [] (l ∷ ls) rs r h = absurd h
Fit-push_right (side.Left ∷ ss) [] rs r h = absurd h
Fit-push_right (side.Left ∷ ss) (l ∷ ls) rs r h = Fit-push_right ss ls rs r h
Fit-push_right (side.Right ∷ ss) ls [] r h = absurd h
Fit-push_right (side.Right ∷ ss) ls (x ∷ rs) r h = Fit-push_right ss ls rs r h

pub in_order-push_left : {L R : Type 0} (ss : List Side) (ls : List L) (rs : List R) (l : L) → Fit ss ls rs → in_order (ss ++ side.Left ∷ []) (ls ++ l ∷ []) rs ≡ in_order ss ls rs ++ Left l ∷ []
in_order-push_left [] [] [] l h = refl
in_order-push_left [] [] (r ∷ rs) l h = absurd h
in_order-push_left [] (x ∷ ls) rs l h = absurd h
in_order-push_left (side.Left ∷ ss) [] rs l h = absurd h
in_order-push_left {L} {R} (side.Left ∷ ss) (x ∷ ls) rs l h = ap (λ (t : List (PairLit L R)). Left x ∷ t) (in_order-push_left ss ls rs l h)
in_order-push_left (side.Right ∷ ss) ls [] l h = absurd h
in_order-push_left {L} {R} (side.Right ∷ ss) ls (r ∷ rs) l h = ap (λ (t : List (PairLit L R)). Right r ∷ t) (in_order-push_left ss ls rs l h)

pub in_order-push_right : {L R : Type 0} (ss : List Side) (ls : List L) (rs : List R) (r : R) → Fit ss ls rs → in_order (ss ++ side.Right ∷ []) ls (rs ++ r ∷ []) ≡ in_order ss ls rs ++ Right r ∷ []
in_order-push_right [] [] [] r h = refl
in_order-push_right [] [] (x ∷ rs) r h = absurd h
in_order-push_right [] (l ∷ ls) rs r h = absurd h
in_order-push_right (side.Left ∷ ss) [] rs r h = absurd h
in_order-push_right {L} {R} (side.Left ∷ ss) (l ∷ ls) rs r h = ap (λ (t : List (PairLit L R)). Left l ∷ t) (in_order-push_right ss ls rs r h)
in_order-push_right (side.Right ∷ ss) ls [] r h = absurd h
in_order-push_right {L} {R} (side.Right ∷ ss) ls (x ∷ rs) r h = ap (λ (t : List (PairLit L R)). Right x ∷ t) (in_order-push_right ss ls rs r h)

-- the last literal of a theory
pub last_left : {L R : Type 0} (ss : List Side) (ls : List L) (rs : List R) → Fit (ss ++ side.Left ∷ []) ls rs → (front : List L) × (l : L) × (ls ≡ front ++ l ∷ []) × Fit ss front rs
last_left [] [] rs h = absurd h
last_left [] (l ∷ []) [] h = ([], l, refl, tt)
last_left [] (l ∷ []) (r ∷ rs) h = absurd h
last_left [] (l ∷ (x ∷ ls)) rs h = absurd h
last_left (side.Left ∷ ss) [] rs h = absurd h
last_left (side.Left ∷ ss) (x ∷ ls) rs h = let rest = last_left ss ls rs h in (x ∷ rest.0, rest.1, ap (λ t. x ∷ t) rest.2, rest.3)
last_left (side.Right ∷ ss) ls [] h = absurd h
last_left (side.Right ∷ ss) ls (r ∷ rs) h = last_left ss ls rs h

pub last_right : {L R : Type 0} (ss : List Side) (ls : List L) (rs : List R) → Fit (ss ++ side.Right ∷ []) ls rs → (front : List R) × (r : R) × (rs ≡ front ++ r ∷ []) × Fit ss ls front
last_right [] ls [] h = absurd h
last_right [] [] (r ∷ []) h = ([], r, refl, tt)
last_right [] (l ∷ ls) (r ∷ []) h = absurd h
last_right [] [] (r ∷ (x ∷ rs)) h = absurd h
last_right [] (l ∷ ls) (r ∷ (x ∷ rs)) h = absurd h
last_right (side.Left ∷ ss) [] rs h = absurd h
last_right (side.Left ∷ ss) (l ∷ ls) rs h = last_right ss ls rs h
last_right (side.Right ∷ ss) ls [] h = absurd h
last_right (side.Right ∷ ss) ls (x ∷ rs) h = let rest = last_right ss ls rs h in (x ∷ rest.0, rest.1, ap (λ t. x ∷ t) rest.2, rest.3)

pub length-in_order : {L R : Type 0} (ss : List Side) (ls : List L) (rs : List R) → Fit ss ls rs → length (in_order ss ls rs) ≡ length ss
length-in_order [] [] [] h = refl
length-in_order [] [] (r ∷ rs) h = absurd h
length-in_order [] (x ∷ ls) rs h = absurd h
length-in_order (side.Left ∷ ss) [] rs h = absurd h
length-in_order (side.Left ∷ ss) (x ∷ ls) rs h = ap suc (length-in_order ss ls rs h)
length-in_order (side.Right ∷ ss) ls [] h = absurd h
length-in_order (side.Right ∷ ss) ls (r ∷ rs) h = ap suc (length-in_order ss ls rs h)

pub length-in_order-le : {L R : Type 0} (ss : List Side) (ls : List L) (rs : List R) → length (in_order ss ls rs) ≤ length ss
length-in_order-le [] ls rs = omega arith
length-in_order-le (side.Left ∷ ss) [] rs = omega arith
length-in_order-le (side.Left ∷ ss) (l ∷ ls) rs = omega (arith, length-in_order-le ss ls rs)
length-in_order-le (side.Right ∷ ss) ls [] = omega arith
length-in_order-le (side.Right ∷ ss) ls (r ∷ rs) = omega (arith, length-in_order-le ss ls rs)

pub length-both : {L R : Type 0} (ss : List Side) (ls : List L) (rs : List R) → Fit ss ls rs → length ls + length rs ≡ length ss
length-both [] [] [] h = refl
length-both [] [] (r ∷ rs) h = absurd h
length-both [] (x ∷ ls) rs h = absurd h
length-both (side.Left ∷ ss) [] rs h = absurd h
length-both (side.Left ∷ ss) (x ∷ ls) rs h = omega (arith, length-both ss ls rs h)
length-both (side.Right ∷ ss) ls [] h = absurd h
length-both (side.Right ∷ ss) ls (r ∷ rs) h = omega (arith, length-both ss ls rs h)

-- what holds of all literals, and of those of each theory
pub all_in_order : {L R : Type 0} (P : PairLit L R → Type 0) (ss : List Side) (ls : List L) (rs : List R) → All (λ l. P (Left l)) ls → All (λ r. P (Right r)) rs → All P (in_order ss ls rs)
all_in_order P [] ls rs h k = All-nil P
all_in_order P (side.Left ∷ ss) [] rs h k = All-nil P
all_in_order P (side.Left ∷ ss) (l ∷ ls) rs h k = All-cons P (Left l) (in_order ss ls rs) (All-head (λ x. P (Left x)) l ls h) (all_in_order P ss ls rs (All-tail (λ x. P (Left x)) l ls h) k)
all_in_order P (side.Right ∷ ss) ls [] h k = All-nil P
all_in_order P (side.Right ∷ ss) ls (r ∷ rs) h k = All-cons P (Right r) (in_order ss ls rs) (All-head (λ x. P (Right x)) r rs k) (all_in_order P ss ls rs h (All-tail (λ x. P (Right x)) r rs k))

pub all_lefts : {L R : Type 0} (P : PairLit L R → Type 0) (ss : List Side) (ls : List L) (rs : List R) → Fit ss ls rs → All P (in_order ss ls rs) → All (λ l. P (Left l)) ls
all_lefts P [] [] [] h k = All-nil (λ l. P (Left l))
all_lefts P [] [] (r ∷ rs) h k = absurd h
all_lefts P [] (x ∷ ls) rs h k = absurd h
all_lefts P (side.Left ∷ ss) [] rs h k = absurd h
all_lefts P (side.Left ∷ ss) (l ∷ ls) rs h k = All-cons (λ x. P (Left x)) l ls (All-head P (Left l) (in_order ss ls rs) k) (all_lefts P ss ls rs h (All-tail P (Left l) (in_order ss ls rs) k))
all_lefts P (side.Right ∷ ss) ls [] h k = absurd h
all_lefts P (side.Right ∷ ss) ls (r ∷ rs) h k = all_lefts P ss ls rs h (All-tail P (Right r) (in_order ss ls rs) k)

pub all_rights : {L R : Type 0} (P : PairLit L R → Type 0) (ss : List Side) (ls : List L) (rs : List R) → Fit ss ls rs → All P (in_order ss ls rs) → All (λ r. P (Right r)) rs
all_rights P [] [] [] h k = All-nil (λ r. P (Right r))
all_rights P [] [] (r ∷ rs) h k = absurd h
all_rights P [] (x ∷ ls) rs h k = absurd h
all_rights P (side.Left ∷ ss) [] rs h k = absurd h
all_rights P (side.Left ∷ ss) (l ∷ ls) rs h k = all_rights P ss ls rs h (All-tail P (Left l) (in_order ss ls rs) k)
all_rights P (side.Right ∷ ss) ls [] h k = absurd h
all_rights P (side.Right ∷ ss) ls (r ∷ rs) h k = All-cons (λ x. P (Right x)) r rs (All-head P (Right r) (in_order ss ls rs) k) (all_rights P ss ls rs h (All-tail P (Right r) (in_order ss ls rs) k))

sucs_in : (ss : List Side) (ks : List ℕ) → All (λ k. k < length ss) ks → All (λ k. k < suc (length ss)) (map suc ks)
sucs_in ss ks h = All-map (λ k. k < suc (length ss)) suc ks (All-weaker (λ k. k < length ss) (λ k. suc k < suc (length ss)) (λ k l. omega arith) ks h)

get_suc : (ks : List ℕ) (i d : ℕ) → i < length ks → get_or (map suc ks) i d ≡ suc (get_or ks i 0)
get_suc ks i d l = get_or-map suc ks i 0 d l

sucs_rise : (ks : List ℕ) → AllPairs (λ j k. j < k) ks → AllPairs (λ j k. j < k) (map suc ks)
sucs_rise ks h i j d l m =
    let n = length-map ks suc in
    let j_in : j < length ks = omega arith in
    let i_in : i < length ks = omega arith in
    omega (arith, get_suc ks i d i_in, get_suc ks j d j_in, h i j 0 l j_in)

zero_rises : (ks : List ℕ) → AllPairs (λ j k. j < k) ks → AllPairs (λ j k. j < k) (0 ∷ map suc ks)
zero_rises ks h i zero d l m = absurd (omega arith)
zero_rises ks h zero (suc j) d l m = omega (arith, get_suc ks j d (omega (arith, length-map ks suc)))
zero_rises ks h (suc i) (suc j) d l m = sucs_rise ks h i j d (omega arith) (omega arith)

-- the positions of the lefts: as many as there are left literals, all below the length, rising
pub length-lefts : {L R : Type 0} (ss : List Side) (ls : List L) (rs : List R) → Fit ss ls rs → length (lefts ss) ≡ length ls
length-lefts [] [] [] h = refl
length-lefts [] [] (r ∷ rs) h = absurd h
length-lefts [] (x ∷ ls) rs h = absurd h
length-lefts (side.Left ∷ ss) [] rs h = absurd h
length-lefts (side.Left ∷ ss) (x ∷ ls) rs h = omega (arith, length-map (lefts ss) suc, length-lefts ss ls rs h)
length-lefts (side.Right ∷ ss) ls [] h = absurd h
length-lefts (side.Right ∷ ss) ls (r ∷ rs) h = omega (arith, length-map (lefts ss) suc, length-lefts ss ls rs h)

pub lefts_in : (ss : List Side) → All (λ k. k < length ss) (lefts ss)
lefts_in [] = All-nil (λ k. k < 0)
lefts_in (side.Left ∷ ss) = All-cons (λ k. k < suc (length ss)) 0 (map suc (lefts ss)) (omega arith) (sucs_in ss (lefts ss) (lefts_in ss))
lefts_in (side.Right ∷ ss) = sucs_in ss (lefts ss) (lefts_in ss)

pub lefts_rise : (ss : List Side) → AllPairs (λ j k. j < k) (lefts ss)
lefts_rise [] = λ i j d l m. absurd (omega arith)
lefts_rise (side.Left ∷ ss) = zero_rises (lefts ss) (lefts_rise ss)
lefts_rise (side.Right ∷ ss) = sucs_rise (lefts ss) (lefts_rise ss)

pub lefts-push_left : (ss : List Side) → lefts (ss ++ side.Left ∷ []) ≡ lefts ss ++ length ss ∷ []
lefts-push_left [] = refl
lefts-push_left (side.Left ∷ ss) = ap (λ t. 0 ∷ map suc t) (lefts-push_left ss) ∙ ap (λ t. 0 ∷ t) (map_push suc (lefts ss) (length ss))
lefts-push_left (side.Right ∷ ss) = ap (map suc) (lefts-push_left ss) ∙ map_push suc (lefts ss) (length ss)

pub lefts-push_right : (ss : List Side) → lefts (ss ++ side.Right ∷ []) ≡ lefts ss
lefts-push_right [] = refl
lefts-push_right (side.Left ∷ ss) = ap (λ t. 0 ∷ map suc t) (lefts-push_right ss)
lefts-push_right (side.Right ∷ ss) = ap (map suc) (lefts-push_right ss)

-- the positions of the rights: as many as there are right literals, all below the length, rising
pub length-rights : {L R : Type 0} (ss : List Side) (ls : List L) (rs : List R) → Fit ss ls rs → length (rights ss) ≡ length rs
length-rights [] [] [] h = refl
length-rights [] [] (r ∷ rs) h = absurd h
length-rights [] (x ∷ ls) rs h = absurd h
length-rights (side.Left ∷ ss) [] rs h = absurd h
length-rights (side.Left ∷ ss) (x ∷ ls) rs h = omega (arith, length-map (rights ss) suc, length-rights ss ls rs h)
length-rights (side.Right ∷ ss) ls [] h = absurd h
length-rights (side.Right ∷ ss) ls (r ∷ rs) h = omega (arith, length-map (rights ss) suc, length-rights ss ls rs h)

pub rights_in : (ss : List Side) → All (λ k. k < length ss) (rights ss)
rights_in [] = All-nil (λ k. k < 0)
rights_in (side.Right ∷ ss) = All-cons (λ k. k < suc (length ss)) 0 (map suc (rights ss)) (omega arith) (sucs_in ss (rights ss) (rights_in ss))
rights_in (side.Left ∷ ss) = sucs_in ss (rights ss) (rights_in ss)

pub rights_rise : (ss : List Side) → AllPairs (λ j k. j < k) (rights ss)
rights_rise [] = λ i j d l m. absurd (omega arith)
rights_rise (side.Right ∷ ss) = zero_rises (rights ss) (rights_rise ss)
rights_rise (side.Left ∷ ss) = sucs_rise (rights ss) (rights_rise ss)

pub rights-push_right : (ss : List Side) → rights (ss ++ side.Right ∷ []) ≡ rights ss ++ length ss ∷ []
rights-push_right [] = refl
rights-push_right (side.Right ∷ ss) = ap (λ t. 0 ∷ map suc t) (rights-push_right ss) ∙ ap (λ t. 0 ∷ t) (map_push suc (rights ss) (length ss))
rights-push_right (side.Left ∷ ss) = ap (map suc) (rights-push_right ss) ∙ map_push suc (rights ss) (length ss)

pub rights-push_left : (ss : List Side) → rights (ss ++ side.Left ∷ []) ≡ rights ss
rights-push_left [] = refl
rights-push_left (side.Right ∷ ss) = ap (λ t. 0 ∷ map suc t) (rights-push_left ss)
rights-push_left (side.Left ∷ ss) = ap (map suc) (rights-push_left ss)

-- the literal at the position of a left one
pub left_at : {L R : Type 0} (ss : List Side) (ls : List L) (rs : List R) (q : ℕ) (l : L) → Fit ss ls rs → slice_get ls q ≡ Some l → slice_get (in_order ss ls rs) (get_or (lefts ss) q 0) ≡ Some (Left l)
left_at [] [] [] q l h e = absurd (none-some l e)
left_at [] [] (r ∷ rs) q l h e = absurd h
left_at [] (x ∷ ls) rs q l h e = absurd h
left_at (side.Left ∷ ss) [] rs q l h e = absurd h
left_at (side.Left ∷ ss) (x ∷ ls) rs zero l h e = ap (λ (y : _). Some (Left y)) (same_Some x l e)
left_at (side.Left ∷ ss) (x ∷ ls) rs (suc q) l h e =
    ap (λ k. slice_get (Left x ∷ in_order ss ls rs) k) (get_suc (lefts ss) q 0 (omega (arith, slice_get_within ls q l e, length-lefts ss ls rs h))) ∙ left_at ss ls rs q l h e
left_at (side.Right ∷ ss) ls [] q l h e = absurd h
left_at (side.Right ∷ ss) ls (r ∷ rs) q l h e =
    ap (λ k. slice_get (Right r ∷ in_order ss ls rs) k) (get_suc (lefts ss) q 0 (omega (arith, slice_get_within ls q l e, length-lefts ss ls rs h))) ∙ left_at ss ls rs q l h e

pub right_at : {L R : Type 0} (ss : List Side) (ls : List L) (rs : List R) (q : ℕ) (r : R) → Fit ss ls rs → slice_get rs q ≡ Some r → slice_get (in_order ss ls rs) (get_or (rights ss) q 0) ≡ Some (Right r)
right_at [] [] [] q r h e = absurd (none-some r e)
right_at [] [] (x ∷ rs) q r h e = absurd h
right_at [] (l ∷ ls) rs q r h e = absurd h
right_at (side.Left ∷ ss) [] rs q r h e = absurd h
right_at (side.Left ∷ ss) (l ∷ ls) rs q r h e =
    ap (λ k. slice_get (Left l ∷ in_order ss ls rs) k) (get_suc (rights ss) q 0 (omega (arith, slice_get_within rs q r e, length-rights ss ls rs h))) ∙ right_at ss ls rs q r h e
right_at (side.Right ∷ ss) ls [] q r h e = absurd h
right_at (side.Right ∷ ss) ls (x ∷ rs) zero r h e = ap (λ (y : _). Some (Right y)) (same_Some x r e)
right_at (side.Right ∷ ss) ls (x ∷ rs) (suc q) r h e =
    ap (λ k. slice_get (Right x ∷ in_order ss ls rs) k) (get_suc (rights ss) q 0 (omega (arith, slice_get_within rs q r e, length-rights ss ls rs h))) ∙ right_at ss ls rs q r h e
