-- What was made of a formula's instances are its clauses.
use Rattle.std.proofs.Common.{◌≡◌, ℕ, suc, ◌+◌, ◌≤◌, Bool, arith, refl, sym, ◌∙◌, List, [], ◌∷◌, ◌++◌, Option, Some, ap, subst, length, map, slice_get, Contains}
use Rattle.std.specs.List.{range_with_len}
use Rattle.std.specs.Option.{option_flatten}
use Rattle.std.proofs.lemmas.Option.{slice_get-get_or}
use Rattle.text_ast.specs.Words.{IsText}
use Rattle.form_formula.specs.Trees.{Formula}
use Rattle.form_formula.specs.declared.node.Node.{Node}
use Rattle.form_formula.specs.declared.structure.Signature.{Signature}
use Rattle.form_terms.specs.GroundTerms.{GroundTerm}
use Rattle.form_tables.specs.Clauses.{base_clauses, congruence_clauses}
use Rattle.form_tables.specs.Facts.{Clause}
use Rattle.ground_gates.specs.declared.gate.Literal.{Literal as GateLiteral}
use Rattle.ground_problem.specs.Facts.{clause_at, clauses_at, fact_at}
use Rattle.ground_problem.specs.GroundClauses.{AreGroundClauses}
use Rattle.ground_problem.specs.Spoken.{IsSpoken}
use Rattle.ground_problem.specs.Words.{vocabulary_at}
use Rattle.ground_problem.specs.declared.facts.FactLiteral.{FactLiteral}
use Rattle.ground_problem.specs.declared.ground.GroundClauses.{GroundClauses}
use Rattle.ground_problem.specs.declared.spoken.Spoken.{Spoken}
use Rattle.ground_problem.specs.declared.words.Words.{Words}
use Rattle.ground_terms.specs.declared.node.TermNode.{TermNode}
use Rattle.certify_clauses.specs.declared.listed.ListedClauses.{ListedClauses}
use Rattle.certify_clauses.specs.declared.literal.Literal.{Literal}
use Rattle.certify_atoms.specs.Atoms.{AreAtomsOf, Both}
use Rattle.certify_atoms.specs.Texts.{AllAreTexts, StandOnce}
use Rattle.certify_atoms.proofs.SideLaws.{atoms_at}
use Rattle.certify_problem.specs.Listing.{IsPadded}
use Rattle.certify_problem.specs.Making.{AreMadeOf, IsMadeOf}
use Rattle.certify_problem.specs.Problems.{IsProblemOf, literal_of}
use Rattle.certify_clauses.specs.InMemory.{problem_in}
use Rattle.certify_problem.proofs.Lists.{flat_own, slice_map}

-- all texts of a list are texts
texts_are : (texts : List (List ℕ)) → AllAreTexts texts → (w : List ℕ) → Contains texts w → IsText w
texts_are texts h w (k, lt, same) = h k w (slice_get-get_or texts k w lt ∙ ap (λ t. Some t) same)

map-append : {X Y : Type 0} (f : X → Y) (xs ys : List X) → map f (xs ++ ys) ≡ map f xs ++ map f ys
map-append f [] ys = refl
map-append f (x ∷ xs) ys = ap (λ zs. f x ∷ zs) (map-append f xs ys)

pub made_problem : (g : Signature) (nodes : List Node) (f : Formula) (terms : List GroundTerm) (closed : Bool) (s : Spoken) (texts : List (List ℕ)) (tables : List (List FactLiteral))
    (c : ListedClauses) → IsSpoken g nodes f terms closed s → AllAreTexts texts → StandOnce texts
    → clauses_at nodes s.made.terms tables ≡ base_clauses g (vocabulary_at s.made.terms s.words) ++ congruence_clauses g (vocabulary_at s.made.terms s.words)
    → AreMadeOf g nodes s texts tables c → IsProblemOf g f terms (problem_in c)
made_problem g nodes f terms closed s texts tables c is texts_there once table h =
    let own = h.made in
    let all : List (List GateLiteral) = map (λ c. c.items) h.ground.clauses.items ++ map (λ c. c.items) h.ground.gates.items in
    let v = vocabulary_at s.made.terms s.words in
    let cs : clauses_at nodes s.made.terms (tables ++ h.orders) ≡ (base_clauses g v ++ congruence_clauses g v) ++ clauses_at nodes s.made.terms h.orders =
    map-append (clause_at nodes s.made.terms) tables h.orders ∙ ap (λ (xs : List Clause). xs ++ clauses_at nodes s.made.terms h.orders) table in
    let facts = map (fact_at nodes s.made.terms) h.ground.facts.items in
    record {
      nodes = nodes;
      spoken = s;
      closed = closed;
      is_spoken = is;
      texts = texts;
      are_texts = texts_are texts texts_there;
      once = once;
      orders = h.orders;
      are_orders = h.are_orders;
      facts = h.ground.facts.items;
      clauses = all;
      ground = subst (λ (n : ℕ). AreGroundClauses facts s.made nodes ((base_clauses g v ++ congruence_clauses g v) ++ clauses_at nodes s.made.terms h.orders) n all) (sym own.long)
          (subst (λ (xs : List Clause). AreGroundClauses facts s.made nodes xs h.ground.end all) cs h.is_ground);
      clauses_are = λ n. sym (slice_map (λ c. c.items) c.clauses.items n) ∙ (ap (λ (cs : List (List Literal)). slice_get cs n) own.clauses ∙ slice_map (map literal_of) all n);
      atoms_are = λ k both e.
          atoms_at g nodes s.made.terms s.words texts h.ground.facts.items own.atoms k both own.are_atoms
          (flat_own own.atoms own.gap k both (subst (λ (ls : List (Option Both)). option_flatten (slice_get ls k) ≡ Some both) own.whole e));
      terms_are = own.terms_are;
      fixed_are = own.fixed_are;
      numbers_are = own.numbers_are;
    }

-- what is in memory, by what it was made of
pub made_of : {V W : Type 0} (g : Signature) (nodes : List Node) (terms : List TermNode) (w : Words) (texts : List (List ℕ)) (ground : GroundClauses) (c : ListedClauses)
    (clause_of : V → List Literal) (gates_of : W → List GateLiteral) (cs : List V) (left right : List W) (own padded : List (Option Both))
    → map (λ c. c.items) c.clauses.items ≡ map clause_of cs → map clause_of cs ≡ map (map literal_of) (map gates_of left ++ map gates_of right)
    → map gates_of left ≡ map (λ c. c.items) ground.clauses.items → map gates_of right ≡ map (λ c. c.items) ground.gates.items
    → AreAtomsOf g nodes terms w texts ground.facts.items own → IsPadded ground.end own padded → c.atoms.items ≡ padded
    → c.terms ≡ length terms + length texts → c.fixed.items ≡ range_with_len (length terms) (length texts) → c.numbers ≡ length terms + 1
    → IsMadeOf g nodes terms w texts ground c
made_of g nodes terms w texts ground c clause_of gates_of cs left right own padded p q l r are pad atoms t x n =
    record {
      clauses = p ∙ (q ∙ (ap (λ (ls : List (List GateLiteral)). map (map literal_of) (ls ++ map gates_of right)) l ∙ ap (λ (rs : List (List GateLiteral)). map (map literal_of) (map (λ c. c.items) ground.clauses.items ++ rs)) r));
      atoms = own;
      are_atoms = are;
      gap = pad.gap;
      whole = atoms ∙ pad.whole;
      long = ap length atoms ∙ pad.long;
      terms_are = t;
      fixed_are = x;
      numbers_are = n;
    }

-- facts are the first variables
pub facts_few : {X Y : Type 0} (f : X → Y) (xs : List X) (n : ℕ) → length (map f xs) ≤ n → length xs ≤ n
facts_few {X} {Y} f xs n h = omega (arith, h, long xs)
  where
    long : (xs : List X) → length (map f xs) ≡ length xs
    long [] = refl
    long (x ∷ xs) = ap suc (long xs)
