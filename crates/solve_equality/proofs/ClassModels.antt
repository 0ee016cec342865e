-- When the classes are a model, and why a column cannot be one.
use Rattle.std.proofs.Common.{◌≡◌, ℕ, ◌<◌, Bool, true, not, ◌&&◌, ◌||◌, eqb, ltb, List, length, get_or, Option, Some, None, sym, ap, ◌∙◌, subst, refl, arith}
use Rattle.std.proofs.Math.Logic.{⊎_elim}
use Rattle.std.specs.List.{list_all}
use Rattle.std.proofs.lemmas.Bool.{cases_eq, eqb-true, eq-eqb, lt-ltb, and_parts, and_from, or_left, or_right, or_cases, not-true, not_from_false, false_from_ne_true, both_ways}
use Rattle.std.proofs.lemmas.List.{get_or_default}
use Rattle.std.proofs.lemmas.List.Sums.{AllPass-from_list_all, list_all-from_AllPass}
use Rattle.std.proofs.lemmas.List.Folds.{list_any_at, Any-from_list_any}
use Rattle.solve_equality.specs.declared.literal.EqualityLit.{EqualityLit}
use Rattle.solve_equality.specs.declared.literal.EqualityLit.TheVariants.{Same, Differ}
use Rattle.solve_equality.specs.declared.entry.Entry.{Entry}
use Rattle.solve_equality.specs.declared.entry.Entry.TheVariants.{Joined, Known, Apart, Failed}
use Rattle.solve_equality.specs.Partition.{Parts, is_fixed}
use Rattle.solve_equality.specs.Search.{Agree}
use Rattle.solve_equality.specs.Equality.{are_together, meets_literal, keeps_apart, is_classes}
use Rattle.solve_equality.specs.EntryEnds.{literal_of, link_of, same_ends}
use Rattle.solve_equality.specs.Entries.{AreWithin, IsSettled, IsSeparated, SaysDifferent, IsForbidden, entry_at}
use Rattle.solve_equality.proofs.Classes.{ArePut}

pub together_from : (cs : List ℕ) (a b : ℕ) → a < length cs → b < length cs → get_or cs a 0 ≡ get_or cs b 0 → are_together cs a b ≡ true
together_from cs a b a_in b_in e =
    and_from (ltb a (length cs) && ltb b (length cs)) (eqb (get_or cs a 0) (get_or cs b 0))
    (and_from (ltb a (length cs)) (ltb b (length cs)) (lt-ltb a (length cs) a_in) (lt-ltb b (length cs) b_in))
    (eq-eqb (get_or cs a 0) (get_or cs b 0) e)

-- of terms that the column has, it is whether they have one number
pub together_by : (cs : List ℕ) (a b : ℕ) → a < length cs → b < length cs → are_together cs a b ≡ eqb (get_or cs a 0) (get_or cs b 0)
together_by cs a b a_in b_in = rw (lt-ltb a (length cs) a_in, lt-ltb b (length cs) b_in) refl

pub same_from_together : (cs : List ℕ) (a b : ℕ) → are_together cs a b ≡ true → get_or cs a 0 ≡ get_or cs b 0
same_from_together cs a b e =
    eqb-true (get_or cs a 0) (get_or cs b 0) (and_parts (ltb a (length cs) && ltb b (length cs)) (eqb (get_or cs a 0) (get_or cs b 0)) e).1

pub is_fixed_at : (fixed : List ℕ) (i d : ℕ) → i < length fixed → is_fixed fixed (get_or fixed i d) ≡ true
is_fixed_at fixed i d l = list_any_at (λ f. eqb f (get_or fixed i d)) fixed i d l (eq-eqb (get_or fixed i d) (get_or fixed i d) refl)

pub place_of_fixed : (fixed : List ℕ) (t : ℕ) → is_fixed fixed t ≡ true → (i : ℕ) × (i < length fixed) × (get_or fixed i 0 ≡ t)
place_of_fixed fixed t e =
    let found = Any-from_list_any (λ f. eqb f t) fixed e in
    (found.0, found.2, get_or_default fixed found.0 0 found.1 found.2 ∙ found.3 ∙ eqb-true found.1 t found.4)

keeps_apart_from : (fixed cs : List ℕ) → ((a b : ℕ) → is_fixed fixed a ≡ true → is_fixed fixed b ≡ true → are_together cs a b ≡ true → a ≡ b) → keeps_apart fixed cs ≡ true
keeps_apart_from fixed cs h =
    list_all-from_AllPass (λ a. list_all (λ b. eqb a b || not (are_together cs a b)) fixed) fixed
    (λ i d l. list_all-from_AllPass (λ b. eqb (get_or fixed i d) b || not (are_together cs (get_or fixed i d) b)) fixed
    (λ j e m.
    let a = get_or fixed i d in
    let b = get_or fixed j e in
    ⊎_elim
    (λ same. or_left (eqb a b) (not (are_together cs a b)) (eq-eqb a b same))
    (λ other. or_right (eqb a b) (not (are_together cs a b)) (not_from_false (are_together cs a b)
    (false_from_ne_true (are_together cs a b) (λ t. other (h a b (is_fixed_at fixed i d l) (is_fixed_at fixed j e m) t)))))
    (cases_eq a b)))

keeps_apart_gives : (fixed cs : List ℕ) (a b : ℕ) → keeps_apart fixed cs ≡ true → is_fixed fixed a ≡ true → is_fixed fixed b ≡ true → are_together cs a b ≡ true → a ≡ b
keeps_apart_gives fixed cs a b h a_fixed b_fixed together =
    let i = place_of_fixed fixed a a_fixed in
    let j = place_of_fixed fixed b b_fixed in
    let row : list_all (λ y. eqb a y || not (are_together cs a y)) fixed ≡ true =
    subst (λ x. list_all (λ y. eqb x y || not (are_together cs x y)) fixed ≡ true) i.2
    (AllPass-from_list_all (λ x. list_all (λ y. eqb x y || not (are_together cs x y)) fixed) fixed h i.0 0 i.1) in
    let cell : (eqb a b || not (are_together cs a b)) ≡ true =
    subst (λ y. (eqb a y || not (are_together cs a y)) ≡ true) j.2 (AllPass-from_list_all (λ y. eqb a y || not (are_together cs a y)) fixed row j.0 0 j.1) in
    ⊎_elim
    (λ same. eqb-true a b same)
    (λ apart. absurd (both_ways (are_together cs a b) (not-true (are_together cs a b) apart) together))
    (or_cases (eqb a b) (not (are_together cs a b)) cell)

-- a column with one number for each term, and different ones for fixed terms
pub is_classes_from : (terms : ℕ) (fixed cs : List ℕ) → length cs ≡ terms → ((a b : ℕ) → is_fixed fixed a ≡ true → is_fixed fixed b ≡ true → get_or cs a 0 ≡ get_or cs b 0 → a ≡ b) → is_classes terms fixed cs ≡ true
is_classes_from terms fixed cs n h =
    and_from (eqb (length cs) terms) (keeps_apart fixed cs) (eq-eqb (length cs) terms n)
    (keeps_apart_from fixed cs (λ a b p q t. h a b p q (same_from_together cs a b t)))

pub length-is_classes : (terms : ℕ) (fixed cs : List ℕ) → is_classes terms fixed cs ≡ true → length cs ≡ terms
length-is_classes terms fixed cs h = eqb-true (length cs) terms (and_parts (eqb (length cs) terms) (keeps_apart fixed cs) h).0

-- the classes meet the literal of each settled entry
pub meets_settled : (s : Parts) (terms : ℕ) (e : Entry) → length s.classes ≡ terms → IsSettled e → AreWithin terms (literal_of e) → ArePut s e → IsSeparated s e → meets_literal s.classes (literal_of e) ≡ true
meets_settled s terms (Joined j) n settled within put separated = together_from s.classes j.left j.right (omega (arith, within.0)) (omega (arith, within.1)) put
meets_settled s terms (Known l r) n settled within put separated = together_from s.classes l r (omega (arith, within.0)) (omega (arith, within.1)) put
meets_settled s terms (Apart l r) n settled within put separated =
    not_from_false (are_together s.classes l r) (false_from_ne_true (are_together s.classes l r) (λ t. separated (same_from_together s.classes l r t)))
meets_settled s terms (Failed x) n settled within put separated = absurd settled

-- the terms to which a column gives the number of this one
abbrev pub same_as : List ℕ → ℕ → ℕ → Bool
same_as m left t = eqb (get_or m t 0) (get_or m left 0)

agree_literal : (m : List ℕ) (left : ℕ) (lit : EqualityLit) → meets_literal m lit ≡ true → Agree (same_as m left) (same_ends lit)
agree_literal m left (Same a b) h = ap (λ n. eqb n (get_or m left 0)) (same_from_together m a b h)
agree_literal m left (Differ a b) h = tt

-- where a column meets the literal of a link, both ends have one number
pub agree_met : (m : List ℕ) (left : ℕ) (e : Entry) → meets_literal m (literal_of e) ≡ true → Agree (same_as m left) (link_of e)
agree_met m left (Joined j) h = ap (λ n. eqb n (get_or m left 0)) (same_from_together m j.left j.right h)
agree_met m left (Known l r) h = tt
agree_met m left (Apart l r) h = tt
agree_met m left (Failed x) h = agree_literal m left x h

-- no column puts together what it meets a difference of
apart_if_met : (m : List ℕ) (left right : ℕ) (lit : EqualityLit) → SaysDifferent lit left right → left < length m → right < length m → get_or m left 0 ≡ get_or m right 0 → meets_literal m lit ≡ true → ⊥
apart_if_met m left right (Same a b) says l_in r_in same met = says
apart_if_met m left right (Differ a b) says l_in r_in same met =
    let apart = not-true (are_together m a b) met in
    ⊎_elim
    (λ e. both_ways (are_together m a b) apart (rw (e.0, e.1) (together_from m left right l_in r_in same)))
    (λ e. both_ways (are_together m a b) apart (rw (e.0, e.1) (together_from m right left r_in l_in (sym same))))
    says

-- no model that meets the forbidding literal puts the two terms together
pub forbidden_together : (terms : ℕ) (fixed : List ℕ) (entries : List Entry) (left right : ℕ) (by : Option ℕ) (m : List ℕ) → is_classes terms fixed m ≡ true → left < terms → right < terms
    → IsForbidden fixed entries left right by → get_or m left 0 ≡ get_or m right 0 → ((k : ℕ) → by ≡ Some k → meets_literal m (literal_of (entry_at entries k)) ≡ true) → ⊥
forbidden_together terms fixed entries left right None m is_m l_in r_in forbids same met =
    let n = length-is_classes terms fixed m is_m in
    forbids.2
    (keeps_apart_gives fixed m left right (and_parts (eqb (length m) terms) (keeps_apart fixed m) is_m).1 forbids.0 forbids.1
    (together_from m left right (omega arith) (omega arith) same))
forbidden_together terms fixed entries left right (Some k) m is_m l_in r_in forbids same met =
    let n = length-is_classes terms fixed m is_m in
    apart_if_met m left right (literal_of (entry_at entries k)) forbids.1 (omega arith) (omega arith) same (met k refl)
