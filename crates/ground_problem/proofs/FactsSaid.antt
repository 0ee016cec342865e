-- What a table says of atoms at values, as facts of its assignment.
use Rattle.std.proofs.Common.{◌≡◌, ℕ, Bool, true, false, ◌&&◌, refl, sym, ◌∙◌, List, [], ◌∷◌, ◌++◌, Some, None, Option, cond, ap}
use Rattle.std.specs.Prelude.{option_and_then, int_lt, is_some}
use Rattle.std.specs.List.{list_all}
use Rattle.std.specs.Option.{option_map}
use Rattle.form_formula.specs.declared.structure.SVal.{SVal}
use Rattle.form_formula.specs.declared.node.Node.{Node}
use Rattle.form_formula.specs.Truth.{are_equal, both_pass, number_of, is_raised, is_true_value}
use Rattle.form_terms.specs.GroundTerms.{GroundTerm}
use Rattle.ground_terms.specs.declared.node.TermNode.{TermNode}
use Rattle.ground_terms.specs.Nodes.{term_of}
use Rattle.form_tables.specs.Table.{Table, is_there}
use Rattle.form_tables.specs.Facts.{Noun, Fact, there, same, below, raised, there_of, facts_of_pair, Assignment, table_for, noun_value, is_fact}
use Rattle.ground_instances.specs.GroundAtoms.{GroundValue, named, number, text, GroundAtom, equal_values, less_value, related, flagged, present_at}
use Rattle.ground_instances.specs.Inputs.{value_at, input_value}
use Rattle.ground_instances.specs.declared.input.Input.{Input}
use Rattle.ground_instances.specs.declared.input.Input.TheVariants.{There, Equal, Less, Has, Flag, Present}
use Rattle.ground_problem.specs.Says.{ground_term, function_at, value_in, says}
use Rattle.ground_problem.specs.InputFacts.{noun_of, atom_facts, input_facts, are_facts}

and_true : (b : Bool) → b ≡ (b && true)
and_true true = refl
and_true false = refl

all_append : {A : Type 0} (p : A → Bool) (xs ys : List A) → list_all p (xs ++ ys) ≡ (list_all p xs && list_all p ys)
all_append p [] ys = refl
all_append p (x ∷ xs) ys = ap (λ b. p x && b) (all_append p xs ys) ∙ join (p x) (list_all p xs) (list_all p ys)
  where
    join : (x y z : Bool) → (x && (y && z)) ≡ ((x && y) && z)
    join true y z = refl
    join false y z = refl

both_none : {A : Type 0} (test : A → A → Bool) (o : Option A) → both_pass test o None ≡ false
both_none test None = refl
both_none test (Some x) = refl

equal_if : (p q : Bool) (x y : SVal) → both_pass are_equal (cond p (Some x) None) (cond q (Some y) None) ≡ ((p && q) && (are_equal x y && true))
equal_if true true x y = and_true (are_equal x y)
equal_if true false x y = refl
equal_if false q x y = refl

less_if : (p q : Bool) (x y : SVal)
    → both_pass int_lt (option_and_then number_of (cond p (Some x) None)) (option_and_then number_of (cond q (Some y) None))
    ≡ ((p && q) && (both_pass int_lt (number_of x) (number_of y) && true))
less_if true true x y = and_true (both_pass int_lt (number_of x) (number_of y))
less_if true false x y = both_none int_lt (number_of x)
less_if false q x y = refl

flag_if : (p : Bool) (x : SVal) → is_true_value (cond p (Some x) None) ≡ (p && (is_raised x && true))
flag_if true x = and_true (is_raised x)
flag_if false x = refl

some_if : (p : Bool) (x : SVal) → is_some (cond p (Some x) None) ≡ (p && true)
some_if true x = refl
some_if false x = refl

module _ (a : Assignment) where
  abbrev T : Table
  T = table_for a

  abbrev all : List Fact → Bool
  all ps = list_all (is_fact a) ps

  value_is : (v : GroundValue) → value_in T v ≡ cond (all (there_of (noun_of v))) (Some (noun_value a (noun_of v))) None
  value_is (named t) = ap (λ b. cond b (Some (a.value t)) None) (and_true (a.there t))
  value_is (number n) = refl
  value_is (text t) = refl

  two_are : (fact : Noun → Noun → Fact) (x y : Noun)
      → all (there_of x ++ there_of y ++ fact x y ∷ []) ≡ ((all (there_of x) && all (there_of y)) && (is_fact a (fact x y) && true))
  two_are fact x y =
      all_append (is_fact a) (there_of x ++ there_of y) (fact x y ∷ [])
      ∙ ap (λ b. b && (is_fact a (fact x y) && true)) (all_append (is_fact a) (there_of x) (there_of y))

  pair_is : (r : ℕ) (p q : Option GroundTerm) → both_pass (a.has r) p q ≡ are_facts a (facts_of_pair r p q)
  pair_is r None q = refl
  pair_is r (Some t) None = refl
  pair_is r (Some t) (Some u) = and_true (a.has r t u)

  flag_is : (o : Option GroundTerm) → is_true_value (option_and_then T.value o) ≡ are_facts a (option_map (λ t. there t ∷ raised t ∷ []) o)
  flag_is None = refl
  flag_is (Some t) = flag_if (a.there t) (a.value t)

  present_is : (o : Option GroundTerm) → is_some (option_and_then T.value o) ≡ are_facts a (option_map (λ t. there t ∷ []) o)
  present_is None = refl
  present_is (Some t) = some_if (a.there t) (a.value t)

  pub atom_is : (atom : GroundAtom) → says T atom ≡ are_facts a (atom_facts atom)
  atom_is (equal_values v w) =
      ap (λ o. both_pass are_equal o (value_in T w)) (value_is v)
      ∙ (ap (both_pass are_equal (cond (all (there_of (noun_of v))) (Some (noun_value a (noun_of v))) None)) (value_is w)
      ∙ (equal_if (all (there_of (noun_of v))) (all (there_of (noun_of w))) (noun_value a (noun_of v)) (noun_value a (noun_of w))
      ∙ sym (two_are same (noun_of v) (noun_of w))))
  atom_is (less_value v w) =
      ap (λ o. both_pass int_lt (option_and_then number_of o) (option_and_then number_of (value_in T w))) (value_is v)
      ∙ (ap (λ o. both_pass int_lt (option_and_then number_of (cond (all (there_of (noun_of v))) (Some (noun_value a (noun_of v))) None)) (option_and_then number_of o)) (value_is w)
      ∙ (less_if (all (there_of (noun_of v))) (all (there_of (noun_of w))) (noun_value a (noun_of v)) (noun_value a (noun_of w))
      ∙ sym (two_are below (noun_of v) (noun_of w))))
  atom_is (related r v w) = pair_is r (ground_term v) (ground_term w)
  atom_is (flagged h v) = flag_is (function_at h v)
  atom_is (present_at h v) = present_is (function_at h v)

  there_is : (t : GroundTerm) → is_there T t ≡ are_facts a (Some (there t ∷ []))
  there_is t = some_if (a.there t) (a.value t)

  pub input_is : (nodes : List Node) (terms : List TermNode) (i : Input) → input_value nodes terms (is_there T) (says T) i ≡ are_facts a (input_facts nodes terms i)
  input_is nodes terms (There id) = there_is (term_of terms id)
  input_is nodes terms (Equal v w) = atom_is (equal_values (value_at nodes terms v) (value_at nodes terms w))
  input_is nodes terms (Less v w) = atom_is (less_value (value_at nodes terms v) (value_at nodes terms w))
  input_is nodes terms (Has r v w) = atom_is (related r (value_at nodes terms v) (value_at nodes terms w))
  input_is nodes terms (Flag h v) = atom_is (flagged h (value_at nodes terms v))
  input_is nodes terms (Present h v) = atom_is (present_at h (value_at nodes terms v))
