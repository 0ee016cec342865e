-- What relabelling changes.
use Rattle.std.proofs.Common.{◌≡◌, ℕ, ◌+◌, ◌<◌, ◌||◌, eqb, cond, List, [], ◌∷◌, ◌++◌, length, get_or, set, take, map, Option, Some, None, sym, ap, ◌∙◌, arith}
use Rattle.std.proofs.Math.Logic.{⊎_elim}
use Rattle.std.specs.List.{range_with_len}
use Rattle.std.proofs.lemmas.Bool.{cases_eq, eq-eqb, ne_eqb, or_right}
use Rattle.std.proofs.Math.Bool.{or-false}
use Rattle.std.proofs.lemmas.List.{map-id, length-map, length-set, get_or-map, get_or-set_same, get_or-set_other, same_lists, get_or_default}
use Rattle.std.proofs.lemmas.List.Folds.{list_any_more}
use Rattle.std.proofs.lemmas.List.FromFn.{map-range_with_len_more, length-map-range_with_len, get_or-map-range_with_len}
use Rattle.solve_equality.specs.declared.visits.Visit.{Visit}
use Rattle.solve_equality.specs.Visits.{has_visited}
use Rattle.solve_equality.specs.Partition.{is_fixed, first_anchors, relabel, AreMembers, IsRelabelled}

pub range_more : (n : ℕ) → range_with_len 0 (n + 1) ≡ range_with_len 0 n ++ n ∷ []
range_more n =
    sym (map-id (range_with_len 0 (n + 1))) ∙ map-range_with_len_more (λ (k : ℕ). k) 0 n n (omega arith) ∙ ap (λ l. l ++ n ∷ []) (map-id (range_with_len 0 n))

-- lists of anchors are the first ones where they are so at each class
pub first_anchors_from_at : (anchors : List (Option ℕ)) (fixed : List ℕ) → ((t : ℕ) → t < length anchors → get_or anchors t None ≡ cond (is_fixed fixed t) (Some t) None) → anchors ≡ first_anchors (length anchors) fixed
first_anchors_from_at anchors fixed h =
    let at : ℕ → Option ℕ = λ t. cond (is_fixed fixed t) (Some t) None in
    same_lists anchors (first_anchors (length anchors) fixed) (sym (length-map-range_with_len at 0 (length anchors)))
    (λ k d l.
    get_or_default anchors k d None l ∙ h k l
    ∙ sym (get_or-map-range_with_len at 0 (length anchors) k k d l (omega arith)))

-- one more visited term relabelled
pub IsRelabelled-more : (old new : List ℕ) (visits : List Visit) (i c : ℕ) (d : Visit) → i < length visits → (get_or visits i d).term < length old → IsRelabelled old (take i visits) c new → IsRelabelled old (take (i + 1) visits) c (set new (get_or visits i d).term c)
IsRelabelled-more old new visits i c d l here h =
    let v = get_or visits i d in
    let seen : (t : ℕ) → has_visited (take (i + 1) visits) t ≡ (has_visited (take i visits) t || eqb v.term t) = λ t. list_any_more (λ (w : Visit). eqb w.term t) visits i d l in
    record {
      terms = length-set new v.term c ∙ h.terms;
      at_term = λ t t_in.
          ⊎_elim
          (λ e.
          ap (λ k. get_or (set new v.term c) k 0) e ∙ get_or-set_same new v.term c 0 (omega (arith, h.terms))
          ∙ sym (ap (λ b. cond b c (get_or old t 0)) (seen t ∙ or_right (has_visited (take i visits) t) (eqb v.term t) (eq-eqb v.term t (sym e)))))
          (λ e.
          get_or-set_other new v.term t c 0 e ∙ h.at_term t t_in
          ∙ sym (ap (λ b. cond b c (get_or old t 0)) (seen t ∙ ap (λ b. has_visited (take i visits) t || b) (ne_eqb v.term t (λ f. e (sym f))) ∙ or-false (has_visited (take i visits) t))))
          (cases_eq t v.term);
    }

-- with the members of a class relabelled, the whole class is
pub relabelled_members : (old new : List ℕ) (visits : List Visit) (from into : ℕ) → AreMembers old visits from → IsRelabelled old visits into new → new ≡ map (relabel from into) old
relabelled_members old new visits from into members h =
    same_lists new (map (relabel from into) old) (h.terms ∙ sym (length-map old (relabel from into)))
    (λ k d l.
    let k_in : k < length old = omega (arith, h.terms) in
    get_or_default new k d 0 l ∙ h.at_term k k_in ∙ ap (λ b. cond b into (get_or old k 0)) (members k k_in)
    ∙ sym (get_or-map (relabel from into) old k 0 d k_in))
