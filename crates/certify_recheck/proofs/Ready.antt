-- What a procedure was told of a path.
use Rattle.std.proofs.Common.{◌≡◌, ℕ, ◌+◌, ◌-◌, ◌<◌, ◌≤◌, Bool, List, [], ◌∷◌, ◌++◌, length, take, get_or, refl, sym, ◌∙◌, ap, subst, arith}
use Rattle.std.specs.Option.{option_to_list}
use Rattle.std.proofs.lemmas.List.{length-append, take-append-le, take_all, take_at}
use Rattle.solve_equality.specs.EmptyClasses.{empty_has_classes}
use Rattle.solve_equality.specs.Equality.{Equalities, is_classes, meets_literal, takes_literal}
use Rattle.solve_order.specs.Difference.{Constraints, is_assignment, is_literal, meets}
use Rattle.solve_order.specs.Zero.{zero_is_model}
use Rattle.solve_theory.specs.Models.{HasModel}
use Rattle.solve_theory.specs.Pair.{PairState, are_models, in_order, meets_own, takes_own}
use Rattle.solve_theory.specs.PairLaw.{empty_has_pair}
use Rattle.solve_theory.proofs.Models.{HasModel-front}
use Rattle.certify_clauses.specs.declared.literal.Literal.{Literal}
use Rattle.certify_clauses.specs.Problem.{Columns, Problem, Said, all_said, said_by}
use Rattle.certify_recheck.specs.Walking.{IsFront, IsReady}
use Rattle.certify_recheck.proofs.Saying.{said_more, said_push}

pub ready : (c : Problem) (capacity terms numbers : ℕ) (fixed : List ℕ) (left : Equalities) (right : Constraints) (pair : PairState Equalities Constraints) → capacity ≡ c.vars → terms ≡ c.terms → numbers ≡ c.numbers → fixed ≡ c.fixed
    → left ≡ record { literals = []; capacity = capacity; terms = terms; fixed = fixed } → right ≡ record { variables = numbers; capacity = capacity; literals = [] } → pair ≡ record { left = left; right = right; sides = []; capacity = capacity }
    → IsReady c [] 0 (in_order pair.sides pair.left.literals pair.right.literals) pair.capacity (takes_own (takes_literal pair.left.terms) (is_literal pair.right.variables))
    (are_models (is_classes pair.left.terms pair.left.fixed) (is_assignment pair.right.variables)) (meets_own meets_literal meets)
ready c capacity terms numbers fixed left right pair vars_are terms_are numbers_are fixed_is left_is right_is pair_is =
    rw (pair_is, left_is, right_is, vars_are, terms_are, numbers_are, fixed_is) (record {
      within = omega arith;
      asserted = refl;
      has_model = empty_has_pair (empty_has_classes c.terms c.fixed) (zero_is_model c.numbers);
      room = omega arith;
      takes_are = refl;
      models_are = refl;
      meets_are = refl;
    })

module _ (c : Problem) (path : List Literal) (told : ℕ) (literals : List Said) (capacity : ℕ) (takes : Said → Bool) (models : Columns → Bool) (meets : Columns → Said → Bool) (h : IsReady c path told literals capacity takes models meets) where
  -- along a longer path
  pub ready_front : (new : List Literal) → IsFront path new → IsReady c new told literals capacity takes models meets
  ready_front new f =
      let within : told ≤ length path = h.within in
      let longer : length path ≤ length new = f.longer in
      record {
        within = omega arith;
        asserted = h.asserted ∙ ap (all_said c) (sym (f.front told h.within));
        has_model = h.has_model;
        room = h.room;
        takes_are = h.takes_are;
        models_are = h.models_are;
        meets_are = h.meets_are;
      }

  -- one literal more is told
  pub ready_more : (d : Literal) (new : List Said) (capacity' : ℕ) (takes' : Said → Bool) (models' : Columns → Bool) → told < length path → new ≡ literals ++ option_to_list (said_by c (get_or path told d)) → HasModel models meets new
      → capacity' ≡ capacity → takes' ≡ takes → models' ≡ models → IsReady c path (told + 1) new capacity' takes' models' meets
  ready_more d new capacity' takes' models' within list has same_capacity same_takes same_models = record {
    within = omega arith;
    asserted = list ∙ ap (λ xs. xs ++ option_to_list (said_by c (get_or path told d))) h.asserted ∙ sym (said_more c path told d within);
    has_model = subst (λ m. HasModel m meets new) (sym same_models) has;
    room = subst (λ n. c.vars ≤ n) (sym same_capacity) h.room;
    takes_are = same_takes ∙ h.takes_are;
    models_are = same_models ∙ h.models_are;
    meets_are = h.meets_are;
  }

  -- the same, asserted and taken back
  pub ready_same : (new : List Said) (capacity' : ℕ) (takes' : Said → Bool) (models' : Columns → Bool) → new ≡ literals → capacity' ≡ capacity → takes' ≡ takes → models' ≡ models → IsReady c path told new capacity' takes' models' meets
  ready_same new capacity' takes' models' list same_capacity same_takes same_models =
      rw (list, same_capacity, same_takes, same_models) h

-- the last literal of a path is taken back: it was not told, or what it says is taken back too
module _ (c : Problem) (path : List Literal) (l : Literal) (told : ℕ) (literals : List Said) (capacity : ℕ) (takes : Said → Bool) (models : Columns → Bool) (meets : Columns → Said → Bool) (h : IsReady c (path ++ l ∷ []) told literals capacity takes models meets) where
  pub ready_untold : told ≤ length path → IsReady c path told literals capacity takes models meets
  ready_untold within = record {
    within = within;
    asserted = h.asserted ∙ ap (all_said c) (take-append-le told path (l ∷ []) within);
    has_model = h.has_model;
    room = h.room;
    takes_are = h.takes_are;
    models_are = h.models_are;
    meets_are = h.meets_are;
  }

  -- all was told
  whole_told : length path < told → literals ≡ all_said c path ++ option_to_list (said_by c l)
  whole_told past =
      h.asserted ∙ ap (all_said c) (take_all told (path ++ l ∷ []) (omega (arith, length-append path (l ∷ [])))) ∙ said_push c path l

  pub told_size : length path < told → length (option_to_list (said_by c l)) ≤ length literals
  told_size past = omega (arith, ap length (whole_told past), length-append (all_said c path) (option_to_list (said_by c l)))

  pub ready_back : (new : List Said) (capacity' : ℕ) (takes' : Said → Bool) (models' : Columns → Bool) → length path < told → new ≡ take (length literals - length (option_to_list (said_by c l))) literals → capacity' ≡ capacity → takes' ≡ takes → models' ≡ models
      → IsReady c path (told - 1) new capacity' takes' models' meets
  ready_back new capacity' takes' models' past list same_capacity same_takes same_models =
      let said = option_to_list (said_by c l) in
      let whole = whole_told past in
      let few : told ≤ length path + 1 = omega (arith, h.within, length-append path (l ∷ [])) in
      let size : length literals - length said ≡ length (all_said c path) = omega (arith, ap length whole, length-append (all_said c path) said) in
      let left : new ≡ all_said c path = list ∙ ap (λ n. take n literals) size ∙ ap (take (length (all_said c path))) whole ∙ take_at (all_said c path) said (length (all_said c path)) refl in
      record {
        within = omega arith;
        asserted = left ∙ ap (all_said c) (sym (take_all (told - 1) path (omega arith)));
        has_model =
            subst (λ m. HasModel m meets new) (sym same_models) (subst (λ xs. HasModel models meets xs) (sym left) (HasModel-front models meets (all_said c path) said (subst (λ xs. HasModel models meets xs) whole h.has_model)));
        room = subst (λ n. c.vars ≤ n) (sym same_capacity) h.room;
        takes_are = same_takes ∙ h.takes_are;
        models_are = same_models ∙ h.models_are;
        meets_are = h.meets_are;
      }

-- paths that begin with others
pub front_same : (path new : List Literal) → new ≡ path → IsFront path new
front_same path new e = rw e (record { longer = omega arith; front = λ k within. refl })

pub front_push : (path new : List Literal) (l : Literal) → new ≡ path ++ l ∷ [] → IsFront path new
front_push path new l e = rw e (record { longer = omega (arith, length-append path (l ∷ [])); front = λ k within. take-append-le k path (l ∷ []) within })
