-- What the literals of a path say, one after another.
use Rattle.std.proofs.Common.{◌≡◌, ℕ, suc, ◌+◌, ◌<◌, ◌≤◌, Bool, List, [], ◌∷◌, ◌++◌, length, take, drop, get_or, Option, None, Some, refl, sym, ◌∙◌, ap, subst, arith}
use Rattle.std.specs.List.{cons_option}
use Rattle.std.specs.Option.{option_to_list}
use Rattle.std.proofs.lemmas.List.{length-take, take_more, take-append-drop}
use Rattle.std.proofs.lemmas.List.Elements.{filter_map-append}
use Rattle.solve_theory.specs.Models.{HasModel}
use Rattle.solve_theory.proofs.Models.{HasModel-front}
use Rattle.certify_clauses.specs.declared.literal.Literal.{Literal}
use Rattle.certify_clauses.specs.Problem.{Problem, Said, all_said, said_by}

one_said : (o : Option Said) → cons_option o [] ≡ option_to_list o
one_said None = refl
one_said (Some s) = refl

module _ (c : Problem) where
  pub said_more : (path : List Literal) (i : ℕ) (d : Literal) → i < length path → all_said c (take (i + 1) path) ≡ all_said c (take i path) ++ option_to_list (said_by c (get_or path i d))
  said_more path i d within =
      ap (all_said c) (take_more path i d within)
      ∙ filter_map-append (said_by c) (take i path) (get_or path i d ∷ [])
      ∙ ap (λ s. all_said c (take i path) ++ s) (one_said (said_by c (get_or path i d)))

  pub said_push : (path : List Literal) (l : Literal) → all_said c (path ++ l ∷ []) ≡ all_said c path ++ option_to_list (said_by c l)
  said_push path l = filter_map-append (said_by c) path (l ∷ []) ∙ ap (λ s. all_said c path ++ s) (one_said (said_by c l))

  length-cons_option : (o : Option Said) (rest : List Said) (n : ℕ) → length rest ≤ n → length (cons_option o rest) ≤ suc n
  length-cons_option None rest n h = omega arith
  length-cons_option (Some s) rest n h = omega arith

  pub length-all_said : (path : List Literal) → length (all_said c path) ≤ length path
  length-all_said [] = omega arith
  length-all_said (l ∷ ls) = length-cons_option (said_by c l) (all_said c ls) (length ls) (length-all_said ls)

  -- a front of the path has a model where the path has one
  pub front_has : {M : Type 0} (models : M → Bool) (meets : M → Said → Bool) (path : List Literal) (i : ℕ) → HasModel models meets (all_said c path) → HasModel models meets (all_said c (take i path))
  front_has models meets path i h =
      let whole = sym (ap (all_said c) (take-append-drop i path)) ∙ filter_map-append (said_by c) (take i path) (drop i path) in
      HasModel-front models meets (all_said c (take i path)) (all_said c (drop i path)) (subst (λ xs. HasModel models meets xs) whole h)

  pub room_left : (path : List Literal) (i n : ℕ) → i < length path → length path ≤ n → length (all_said c (take i path)) < n
  room_left path i n within few = omega (arith, length-all_said (take i path), length-take i path)
