-- Lists of ground terms, by their numbers.
use Rattle.std.proofs.Common.{◌≡◌, ℕ, ◌+◌, ◌<◌, true, false, refl, sym, ◌∙◌, List, [], ◌∷◌, ◌++◌, Some, length, get_or, drop, ap, subst, append_assoc, add-one}
use Rattle.std.specs.Prelude.{slice_get}
use Rattle.std.specs.Option.{option_map}
use Rattle.std.proofs.Math.Seq.{drop-cons}
use Rattle.form_terms.specs.GroundTerms.{GroundTerm, list_of}
use Rattle.ground_terms.specs.declared.node.TermNode.{TermNode}
use Rattle.ground_terms.specs.declared.node.TermNode.TheVariants.{Constant, Skolem, Field, Empty, Cons}
use Rattle.ground_terms.specs.Nodes.{IsAdded, IsList, IsPlaced, is_one, list_part, term_of, list_of as list_at, tree_of, tree_from, trees_of}
use Rattle.ground_terms.specs.Standing.{AreOnes, AreTermsAt, terms_at}
use Rattle.ground_terms.proofs.Standing.{extends_both, one_kept, one_at, term_kept, terms_append}
use Rattle.ground_instances.specs.Lists.{IsDown, IsListOf}

append_none : (ts : List GroundTerm) → ts ≡ ts ++ []
append_none [] = refl
append_none (t ∷ ts) = ap (λ us. t ∷ us) (append_none ts)

pub down_begun : (nodes : List TermNode) (list : ℕ) → IsList nodes list → IsDown nodes (list_of (list_at nodes list)) list []
down_begun nodes list h = record { fits = h; done = []; stand = record { ones = tt; are = refl }; rest = refl }

-- one term further down
pub down_on : (nodes : List TermNode) (whole : List GroundTerm) (at t ts : ℕ) (found : List ℕ) → IsDown nodes whole at found → IsPlaced nodes (Cons t ts) → tree_of nodes at ≡ tree_from (trees_of nodes) (Cons t ts)
    → IsDown nodes whole ts (found ++ t ∷ [])
down_on nodes whole at t ts found h placed e =
    let here : list_of (list_at nodes at) ≡ term_of nodes t ∷ list_of (list_at nodes ts) = ap (λ tree. list_of (list_part tree)) e in
    record {
      fits = placed.1;
      done = h.done ++ term_of nodes t ∷ [];
      stand = terms_append nodes found (t ∷ []) h.done (term_of nodes t ∷ []) h.stand (record { ones = (placed.0, tt); are = refl });
      rest = append_assoc h.done (term_of nodes t ∷ []) (list_of (list_at nodes ts)) ∙ (ap (λ us. h.done ++ us) (sym here) ∙ h.rest);
    }

-- the end of the list
pub down_done : (nodes : List TermNode) (whole : List GroundTerm) (at : ℕ) (found : List ℕ) (n : TermNode) → IsDown nodes whole at found → slice_get nodes at ≡ Some n → tree_of nodes at ≡ tree_from (trees_of nodes) n
    → ((t ts : ℕ) → n ≡ Cons t ts → ⊥) → AreTermsAt nodes found whole
down_done nodes whole at found n h there e other = by n there e other
  where
    no_term : (n : TermNode) → slice_get nodes at ≡ Some n → is_one n ≡ true → ⊥
    no_term n there one = let kind : option_map is_one (Some n) ≡ Some false = ap (λ o. option_map is_one o) (sym there) ∙ h.fits in cc

    by : (n : TermNode) → slice_get nodes at ≡ Some n → tree_of nodes at ≡ tree_from (trees_of nodes) n → ((t ts : ℕ) → n ≡ Cons t ts → ⊥) → AreTermsAt nodes found whole
    by (Constant sort) there e other = absurd (no_term (Constant sort) there refl)
    by (Skolem number sort ts) there e other = absurd (no_term (Skolem number sort ts) there refl)
    by (Field f t) there e other = absurd (no_term (Field f t) there refl)
    by Empty there e other =
        let P : List GroundTerm → Type 0 = λ ts. AreTermsAt nodes found ts in
        let none : list_of (list_at nodes at) ≡ [] = ap (λ tree. list_of (list_part tree)) e in
        subst P (append_none h.done ∙ (ap (λ us. h.done ++ us) (sym none) ∙ h.rest)) h.stand
    by (Cons t ts) there e other = absurd (other t ts refl)

-- lists that are made
pub made_empty : (old new : List TermNode) (id : ℕ) → IsAdded old Empty new id → IsListOf [] old new id
made_empty old new id h = record { kept = h.kept; fits = h.kind; are = ap (λ tree. list_of (list_part tree)) h.means }

pub made_more : (ids : List ℕ) (left less : ℕ) (a b d : List TermNode) (list id : ℕ) → AreOnes a ids → less + 1 ≡ left → less < length ids → IsListOf (terms_at a (drop left ids)) a b list → IsAdded b (Cons (get_or ids less 0) list) d id
    → IsListOf (terms_at a (drop less ids)) a d id
made_more ids left less a b d list id ones e lt x y =
    let t : ℕ = get_or ids less 0 in
    let P : List GroundTerm → Type 0 = λ ts. list_of (list_at d id) ≡ ts in
    let more : terms_at a (drop less ids) ≡ term_of a t ∷ terms_at a (drop left ids) =
    ap (λ ks. terms_at a ks) (drop-cons ids less 0 lt) ∙ ap (λ n. term_of a t ∷ terms_at a (drop n ids)) (sym (add-one less) ∙ e) in
    let here : list_of (list_at d id) ≡ term_of b t ∷ list_of (list_at b list) = ap (λ tree. list_of (list_part tree)) y.means in
    record {
      kept = extends_both a b d x.kept y.kept;
      fits = y.kind;
      are = subst P (sym more) (here ∙ (ap (λ u. u ∷ list_of (list_at b list)) (term_kept a b t x.kept (one_at a ids less 0 ones lt)) ∙ ap (λ us. term_of a t ∷ us) x.are));
    }

-- the next term is still there
pub next_placed : (ids : List ℕ) (less : ℕ) (a b : List TermNode) (ts : List GroundTerm) (list : ℕ) → AreOnes a ids → less < length ids → IsListOf ts a b list → IsPlaced b (Cons (get_or ids less 0) list)
next_placed ids less a b ts list ones lt x = (one_kept a b (get_or ids less 0) x.kept (one_at a ids less 0 ones lt), x.fits)
