-- What a `Path` keeps, as literals come and go.
use Rattle.std.proofs.Common.{◌≡◌, ◌<◌, ◌≤◌, Bool, List, [], ◌∷◌, ◌++◌, length, get_or, set, Option, None, Some, refl, sym, ◌∙◌, subst, arith}
use Rattle.std.specs.List.{All}
use Rattle.std.proofs.Math.Logic.{⊎_elim}
use Rattle.std.proofs.lemmas.Bool.{cases_eq}
use Rattle.std.proofs.lemmas.List.{length-set, length-append, get_or-set_same, get_or-set_other, get_or_append_left, get_or_push}
use Rattle.std.proofs.lemmas.List.Elements.{All-push}
use Rattle.solve_theory.proofs.Distinct.{length-le_from_pairs_by}
use Rattle.certify_clauses.specs.declared.literal.Literal.{Literal}
use Rattle.certify_clauses.specs.Paths.{value_on}
use Rattle.certify_clauses.specs.PathView.{IsPath}
use Rattle.certify_clauses.proofs.ValuesOn.{value_on-push_same, value_on-push_other, once-push, once-front, fresh-last}

pub path_push : (ls : List Literal) (l : Literal) (values : List (Option Bool)) → IsPath ls values → l.var < length values → value_on ls l.var ≡ None → IsPath (ls ++ l ∷ []) (set values l.var (Some l.plus))
path_push ls l values h there fresh =
    let same = length-set values l.var (Some l.plus) in
    record {
      below = subst (λ n. All (λ k. k.var < n) (ls ++ l ∷ [])) (sym same) (All-push (λ k. k.var < length values) ls l h.below there);
      once = once-push ls l h.once fresh;
      values_are = λ v within.
          ⊎_elim
          (λ e. subst (λ w. get_or (set values l.var (Some l.plus)) w None ≡ value_on (ls ++ l ∷ []) w) e
          (get_or-set_same values l.var (Some l.plus) None there ∙ sym (value_on-push_same ls l fresh)))
          (λ apart. get_or-set_other values l.var v (Some l.plus) None (λ e. apart (sym e)) ∙ h.values_are v (omega arith) ∙ sym (value_on-push_other ls l v apart))
          (cases_eq l.var v);
    }

-- the last literal is on a variable that the others are not on
pub last_there : (ls : List Literal) (l : Literal) (values : List (Option Bool)) → IsPath (ls ++ l ∷ []) values → (l.var < length values) × (value_on ls l.var ≡ None)
last_there ls l values h =
    let at_last : (get_or (ls ++ l ∷ []) (length ls) l).var < length values = h.below (length ls) l (omega (arith, length-append ls (l ∷ []))) in (
      subst (λ (k : Literal). k.var < length values) (get_or_push ls l l (length ls) refl) at_last,
      fresh-last ls l h.once,
    )

pub path_pop : (ls : List Literal) (l : Literal) (values : List (Option Bool)) → IsPath (ls ++ l ∷ []) values → IsPath ls (set values l.var None)
path_pop ls l values h =
    let same = length-set values l.var None in
    let last = last_there ls l values h in
    record {
      below = subst (λ n. All (λ k. k.var < n) ls) (sym same)
          (λ k d within. subst (λ (j : Literal). j.var < length values) (get_or_append_left ls (l ∷ []) d k within) (h.below k d (omega (arith, length-append ls (l ∷ [])))));
      once = once-front ls l h.once;
      values_are = λ v within.
          ⊎_elim
          (λ e. subst (λ w. get_or (set values l.var None) w None ≡ value_on ls w) e (get_or-set_same values l.var None None last.0 ∙ sym last.1))
          (λ apart. get_or-set_other values l.var v None None (λ e. apart (sym e)) ∙ h.values_are v (omega arith) ∙ value_on-push_other ls l v apart)
          (cases_eq l.var v);
    }

-- a path is no longer than there are variables
pub path_few : (ls : List Literal) (values : List (Option Bool)) → IsPath ls values → length ls ≤ length values
path_few ls values h = length-le_from_pairs_by (λ (l : Literal). l.var) ls (length values) h.once h.below
