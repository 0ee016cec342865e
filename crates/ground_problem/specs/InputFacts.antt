-- The facts that inputs stand for.
use Rattle.std.specs.Prelude.{Bool, false, List, [], ◌∷◌, Option, None, Some}
use Rattle.std.specs.List.{list_all}
use Rattle.std.specs.Option.{option_map}
use Rattle.form_formula.specs.declared.node.Node.{Node}
use Rattle.ground_terms.specs.declared.node.TermNode.{TermNode}
use Rattle.ground_terms.specs.Nodes.{term_of}
use Rattle.form_tables.specs.Facts.{Noun, term, number as number_noun, text as text_noun, Fact, there, same, below, raised, facts_of_two, facts_of_pair, Assignment, is_fact}
use Rattle.ground_instances.specs.GroundAtoms.{GroundValue, named, number, text, GroundAtom, equal_values, less_value, related, flagged, present_at}
use Rattle.ground_instances.specs.Inputs.{value_at}
use Rattle.ground_instances.specs.declared.input.Input.{Input}
use Rattle.ground_instances.specs.declared.input.Input.TheVariants.{There, Equal, Less, Has, Flag, Present}
use Rattle.ground_problem.specs.Says.{ground_term, function_at}

abbrev pub noun_of : GroundValue → Noun
noun_of (named t) = term t
noun_of (number n) = number_noun n
noun_of (text t) = text_noun t

-- the facts that together say that an atom at values holds; none say so where one of the values should be a ground term and is not
abbrev pub atom_facts : GroundAtom → Option (List Fact)
atom_facts (equal_values v w) = facts_of_two same (Some (noun_of v)) (Some (noun_of w))
atom_facts (less_value v w) = facts_of_two below (Some (noun_of v)) (Some (noun_of w))
atom_facts (related r v w) = facts_of_pair r (ground_term v) (ground_term w)
atom_facts (flagged h v) = option_map (λ t. there t ∷ raised t ∷ []) (function_at h v)
atom_facts (present_at h v) = option_map (λ t. there t ∷ []) (function_at h v)

-- and those that an input stands for, where numbers stand for the terms of two arenas
abbrev pub input_facts : List Node → List TermNode → Input → Option (List Fact)
input_facts nodes terms (There id) = Some (there (term_of terms id) ∷ [])
input_facts nodes terms (Equal v w) = atom_facts (equal_values (value_at nodes terms v) (value_at nodes terms w))
input_facts nodes terms (Less v w) = atom_facts (less_value (value_at nodes terms v) (value_at nodes terms w))
input_facts nodes terms (Has r v w) = atom_facts (related r (value_at nodes terms v) (value_at nodes terms w))
input_facts nodes terms (Flag h v) = atom_facts (flagged h (value_at nodes terms v))
input_facts nodes terms (Present h v) = atom_facts (present_at h (value_at nodes terms v))

-- whether there are facts, and an assignment has all of them
abbrev pub are_facts : Assignment → Option (List Fact) → Bool
are_facts a None = false
are_facts a (Some facts) = list_all (is_fact a) facts
