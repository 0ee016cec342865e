-- Values of terms and inputs of atoms.
use Rattle.std.proofs.Common.{◌≡◌, ℕ, zero, suc, ◌<◌, ◌≤◌, true, false, refl, sym, ◌∙◌, List, [], ◌∷◌, ◌++◌, Some, None, length, get_or, ap, subst, arith}
use Rattle.std.specs.Prelude.{slice_get}
use Rattle.std.specs.Option.{option_map}
use Rattle.form_formula.specs.declared.node.Node.{Node}
use Rattle.form_formula.specs.declared.node.Node.TheVariants.{Bound, Num, Str, App, Yes, No, Eq, Less, Has, Flag, Present, Not, And, Or, Exists, Forall}
use Rattle.form_formula.specs.Nodes.{IsTerm, is_term, term_part, term_of, tree_of, tree_from, trees_of}
use Rattle.form_formula.specs.Trees.{Term, bound, num, str, app}
use Rattle.form_terms.specs.GroundTerms.{GroundTerm, constant}
use Rattle.ground_terms.specs.declared.node.TermNode.{TermNode}
use Rattle.ground_terms.specs.declared.node.TermNode.TheVariants.{Constant, Field}
use Rattle.ground_terms.specs.Nodes.{IsAdded, IsOne, term_part as ground_part, term_of as ground_term_of}
use Rattle.ground_terms.specs.Standing.{AreOnes, terms_at}
use Rattle.ground_terms.proofs.Standing.{extends_none, extends_both}
use Rattle.ground_instances.specs.declared.input.Value.{Value}
use Rattle.ground_instances.specs.declared.input.Value.TheVariants as value
use Rattle.ground_instances.specs.GroundAtoms.{GroundValue, named, applied_to, ground_value}
use Rattle.ground_instances.specs.Inputs.{HasValue, HasValues, IsValue, literal_of, value_at}
use Rattle.ground_instances.specs.Values.{IsReached, apply_all}
use Rattle.ground_instances.proofs.BoardLaws.{value_kept, fits_kept}

-- a term among those of some numbers
pub at_some : (nodes : List TermNode) (ids : List ℕ) (k t : ℕ) (d : GroundTerm) → AreOnes nodes ids → slice_get ids k ≡ Some t → IsOne nodes t × (get_or (terms_at nodes ids) k d ≡ ground_term_of nodes t)
at_some nodes [] k t d ones e = cc
at_some nodes (x ∷ ids) zero t d ones e =
    let same : x ≡ t = cc in
    let P : ℕ → Type 0 = λ t. IsOne nodes t in (subst P same ones.0, ap (λ t. ground_term_of nodes t) same)
at_some nodes (x ∷ ids) (suc k) t d ones e = at_some nodes ids k t d ones.1 e

pub at_none : (nodes : List TermNode) (ids : List ℕ) (k : ℕ) (d : GroundTerm) → slice_get ids k ≡ None → get_or (terms_at nodes ids) k d ≡ d
at_none nodes [] k d e = refl
at_none nodes (x ∷ ids) zero d e = cc
at_none nodes (x ∷ ids) (suc k) d e = at_none nodes ids k d e

pub variable_there : (nodes : List Node) (terms : List TermNode) (env : List ℕ) (sort depth t : ℕ) → AreOnes terms env → slice_get env depth ≡ Some t → HasValue nodes terms terms (ground_value (terms_at terms env) (bound sort depth)) (value.Term t)
variable_there nodes terms env sort depth t ones e =
    let found = at_some terms env depth t (constant sort) ones e in
    record { kept = extends_none terms; fits = found.0; are = ap named (sym found.1) }

pub at_index : (nodes : List TermNode) (ids : List ℕ) (k : ℕ) (d : GroundTerm) → AreOnes nodes ids → k < length ids → IsOne nodes (get_or ids k 0) × (get_or (terms_at nodes ids) k d ≡ ground_term_of nodes (get_or ids k 0))
at_index nodes [] k d ones lt = absurd (omega arith)
at_index nodes (x ∷ ids) zero d ones lt = (ones.0, refl)
at_index nodes (x ∷ ids) (suc k) d ones lt = at_index nodes ids k d ones.1 (omega arith)

pub term_beyond : (nodes : List TermNode) (ids : List ℕ) (k : ℕ) (d : GroundTerm) → length ids ≤ k → get_or (terms_at nodes ids) k d ≡ d
term_beyond nodes [] k d le = refl
term_beyond nodes (x ∷ ids) zero d le = absurd (omega arith)
term_beyond nodes (x ∷ ids) (suc k) d le = term_beyond nodes ids k d (omega arith)

pub variable_at : (nodes : List Node) (terms : List TermNode) (env : List ℕ) (sort depth t : ℕ) → AreOnes terms env → depth < length env → t ≡ get_or env depth 0
    → HasValue nodes terms terms (ground_value (terms_at terms env) (bound sort depth)) (value.Term t)
variable_at nodes terms env sort depth t ones lt e =
    let P : ℕ → Type 0 = λ t. HasValue nodes terms terms (ground_value (terms_at terms env) (bound sort depth)) (value.Term t) in
    let found = at_index terms env depth (constant sort) ones lt in
    subst P (sym e) (record { kept = extends_none terms; fits = found.0; are = ap named (sym found.1) })

pub variable_absent : (nodes : List Node) (old new : List TermNode) (env : List ℕ) (sort depth id : ℕ) → slice_get env depth ≡ None → IsAdded old (Constant sort) new id
    → HasValue nodes old new (ground_value (terms_at old env) (bound sort depth)) (value.Term id)
variable_absent nodes old new env sort depth id e added =
    record { kept = added.kept; fits = added.kind; are = ap (λ tree. named (ground_part tree)) added.means ∙ ap named (sym (at_none old env depth (constant sort) e)) }

literal_applied : (f : ℕ) (t : Term) → applied_to f (literal_of t) ≡ literal_of t
literal_applied f (bound sort depth) = refl
literal_applied f (num n) = refl
literal_applied f (str t) = refl
literal_applied f (app h t) = refl

pub applied_term : (nodes : List Node) (old new : List TermNode) (f t id : ℕ) → IsAdded old (Field f t) new id → HasValue nodes old new (applied_to f (value_at nodes old (value.Term t))) (value.Term id)
applied_term nodes old new f t id added = record { kept = added.kept; fits = added.kind; are = ap (λ tree. named (ground_part tree)) added.means }

pub applied_literal : (nodes : List Node) (terms : List TermNode) (f id : ℕ) → HasValue nodes terms terms (applied_to f (value_at nodes terms (value.Literal id))) (value.Literal id)
applied_literal nodes terms f id = record { kept = extends_none terms; fits = tt; are = sym (literal_applied f (term_of nodes id)) }

pub apply_all-last : (fs : List ℕ) (f : ℕ) (v : GroundValue) → apply_all (fs ++ f ∷ []) v ≡ apply_all fs (applied_to f v)
apply_all-last [] f v = refl
apply_all-last (h ∷ fs) f v = ap (applied_to h) (apply_all-last fs f v)

pub apply_all-literal : (fs : List ℕ) (t : Term) → apply_all fs (literal_of t) ≡ literal_of t
apply_all-literal [] t = refl
apply_all-literal (f ∷ fs) t = ap (applied_to f) (apply_all-literal fs t) ∙ literal_applied f t

-- one function after another
pub value_after : (nodes : List Node) (a b d : List TermNode) (w u : GroundValue) (v v' : Value) → HasValue nodes a b w v → HasValue nodes b d u v' → HasValue nodes a d u v'
value_after nodes a b d w u v v' p q = record { kept = extends_both a b d p.kept q.kept; fits = q.fits; are = q.are }

pub value_same : (nodes : List Node) (a b : List TermNode) (w u : GroundValue) (v : Value) → w ≡ u → HasValue nodes a b w v → HasValue nodes a b u v
value_same nodes a b w u v e h = record { kept = h.kept; fits = h.fits; are = h.are ∙ e }

pub reached_begun : (nodes : List Node) (terms : List TermNode) (functions : List ℕ) (v : Value) → IsValue terms v → IsReached nodes terms terms (apply_all functions (value_at nodes terms v)) functions v
reached_begun nodes terms functions v fits = record { is = value_at nodes terms v; has = record { kept = extends_none terms; fits = fits; are = refl }; left = refl }

pub reached_on : (nodes : List Node) (a b d : List TermNode) (whole : GroundValue) (fs gs : List ℕ) (f : ℕ) (v v' : Value) → fs ≡ gs ++ f ∷ [] → IsReached nodes a b whole fs v → HasValue nodes b d (applied_to f (value_at nodes b v)) v' → IsReached nodes a d whole gs v'
reached_on nodes a b d whole fs gs f v v' e r h = record {
  is = applied_to f r.is;
  has = value_after nodes a b d r.is (applied_to f r.is) v v' r.has (value_same nodes b d (applied_to f (value_at nodes b v)) (applied_to f r.is) v' (ap (applied_to f) r.has.are) h);
  left = sym (apply_all-last gs f r.is) ∙ (ap (λ fs. apply_all fs r.is) (sym e) ∙ r.left);
}

pub reached_done : (nodes : List Node) (a b : List TermNode) (whole : GroundValue) (fs : List ℕ) (v : Value) → fs ≡ [] → IsReached nodes a b whole fs v → HasValue nodes a b whole v
reached_done nodes a b whole fs v e r = value_same nodes a b r.is whole v (ap (λ fs. apply_all fs r.is) (sym e) ∙ r.left) r.has

-- down a term
pub down_app : (nodes : List Node) (env : List GroundTerm) (at f t : ℕ) (fs : List ℕ) (whole : GroundValue) → tree_of nodes at ≡ tree_from (trees_of nodes) (App f t) → whole ≡ apply_all fs (ground_value env (term_of nodes at))
    → whole ≡ apply_all (fs ++ f ∷ []) (ground_value env (term_of nodes t))
down_app nodes env at f t fs whole e h =
    h ∙ (ap (λ tree. apply_all fs (ground_value env (term_part tree))) e ∙ sym (apply_all-last fs f (ground_value env (term_of nodes t))))

pub at_variable : (nodes : List Node) (env : List GroundTerm) (at sort depth : ℕ) (fs : List ℕ) (whole : GroundValue) → tree_of nodes at ≡ tree_from (trees_of nodes) (Bound sort depth) → whole ≡ apply_all fs (ground_value env (term_of nodes at))
    → whole ≡ apply_all fs (ground_value env (bound sort depth))
at_variable nodes env at sort depth fs whole e h = h ∙ ap (λ tree. apply_all fs (ground_value env (term_part tree))) e

pub variable_applied : (nodes : List Node) (start down mid new : List TermNode) (env : List ℕ) (id at sort depth : ℕ) (fs : List ℕ) (v v' : Value) → down ≡ start → tree_of nodes at ≡ tree_from (trees_of nodes) (Bound sort depth)
    → ground_value (terms_at start env) (term_of nodes id) ≡ apply_all fs (ground_value (terms_at start env) (term_of nodes at)) → HasValue nodes down mid (ground_value (terms_at down env) (bound sort depth)) v
    → HasValue nodes mid new (apply_all fs (value_at nodes mid v)) v' → HasValue nodes start new (ground_value (terms_at start env) (term_of nodes id)) v'
variable_applied nodes start down mid new env id at sort depth fs v v' e tree h p q =
    let P : List TermNode → Type 0 = λ ts. HasValue nodes ts mid (ground_value (terms_at ts env) (bound sort depth)) v in
    let p' : HasValue nodes start mid (ground_value (terms_at start env) (bound sort depth)) v = subst P e p in
    let whole : GroundValue = ground_value (terms_at start env) (term_of nodes id) in
    value_same nodes start new (apply_all fs (value_at nodes mid v)) whole v' (ap (apply_all fs) p'.are ∙ sym (at_variable nodes (terms_at start env) at sort depth fs whole tree h))
    (value_after nodes start mid new (ground_value (terms_at start env) (bound sort depth)) (apply_all fs (value_at nodes mid v)) v v' p' q)

pub at_literal : (nodes : List Node) (terms : List TermNode) (env : List GroundTerm) (at : ℕ) (n : Node) (fs : List ℕ) (whole : GroundValue) → IsTerm nodes at → slice_get nodes at ≡ Some n → tree_of nodes at ≡ tree_from (trees_of nodes) n
    → ((f t : ℕ) → n ≡ App f t → ⊥) → ((sort depth : ℕ) → n ≡ Bound sort depth → ⊥) → whole ≡ apply_all fs (ground_value env (term_of nodes at)) → HasValue nodes terms terms whole (value.Literal at)
at_literal nodes terms env at n fs whole kind there e no_app no_bound h =
    record { kept = extends_none terms; fits = tt; are = sym (apply_all-literal fs (term_of nodes at)) ∙ (ap (apply_all fs) (by n there e no_app no_bound) ∙ sym h) }
  where
    other : (n : Node) → slice_get nodes at ≡ Some n → is_term n ≡ false → ⊥
    other n there one = let k : option_map is_term (Some n) ≡ Some true = ap (λ o. option_map is_term o) (sym there) ∙ kind in cc

    by : (n : Node) → slice_get nodes at ≡ Some n → tree_of nodes at ≡ tree_from (trees_of nodes) n → ((f t : ℕ) → n ≡ App f t → ⊥) → ((sort depth : ℕ) → n ≡ Bound sort depth → ⊥)
        → literal_of (term_of nodes at) ≡ ground_value env (term_of nodes at)
    by (Bound sort depth) there e no_app no_bound = absurd (no_bound sort depth refl)
    by (Num n) there e no_app no_bound = ap (λ tree. literal_of (term_part tree)) e ∙ sym (ap (λ tree. ground_value env (term_part tree)) e)
    by (Str t) there e no_app no_bound = ap (λ tree. literal_of (term_part tree)) e ∙ sym (ap (λ tree. ground_value env (term_part tree)) e)
    by (App f t) there e no_app no_bound = absurd (no_app f t refl)
    by Yes there e no_app no_bound = absurd (other Yes there refl)
    by No there e no_app no_bound = absurd (other No there refl)
    by (Eq s t) there e no_app no_bound = absurd (other (Eq s t) there refl)
    by (Less s t) there e no_app no_bound = absurd (other (Less s t) there refl)
    by (Has r s t) there e no_app no_bound = absurd (other (Has r s t) there refl)
    by (Flag f t) there e no_app no_bound = absurd (other (Flag f t) there refl)
    by (Present f t) there e no_app no_bound = absurd (other (Present f t) there refl)
    by (Not a) there e no_app no_bound = absurd (other (Not a) there refl)
    by (And a b) there e no_app no_bound = absurd (other (And a b) there refl)
    by (Or a b) there e no_app no_bound = absurd (other (Or a b) there refl)
    by (Exists sort a) there e no_app no_bound = absurd (other (Exists sort a) there refl)
    by (Forall sort a) there e no_app no_bound = absurd (other (Forall sort a) there refl)

-- two values
pub both_values : (nodes : List Node) (a b d : List TermNode) (w u : GroundValue) (v v' : Value) → HasValue nodes a b w v → HasValue nodes b d u v' → HasValues nodes a d w u v v'
both_values nodes a b d w u v v' p q = record {
  kept = extends_both a b d p.kept q.kept;
  fits = fits_kept b d v q.kept p.fits;
  are = value_kept nodes b d v q.kept p.fits ∙ p.are;
  fits' = q.fits;
  are' = q.are;
}
