-- The edges of the sort graph, by the parts of the formula.
use Rattle.std.proofs.Common.{◌≡◌, ℕ, zero, suc, ◌+◌, ◌⊎◌, inl, inr, Bool, true, false, refl, sym, ◌∙◌, List, [], ◌∷◌, ◌++◌, Some, None, Option, cond, ap, subst, slice_get, Contains, map}
use Rattle.std.specs.Prelude.{slice_index_or, option_and_then, is_none}
use Rattle.std.proofs.lemmas.List.Elements.{Contains-append_cases, Contains-append_left, Contains-append_right}
use Rattle.form_formula.specs.declared.structure.Range.{Range}
use Rattle.form_formula.specs.declared.structure.Range.TheVariants as kinds
use Rattle.form_formula.specs.declared.structure.FunSig.{FunSig}
use Rattle.form_formula.specs.declared.structure.Signature.{Signature}
use Rattle.form_formula.specs.Trees.{Term, Formula, bound, num, str, app, yes, no, equal, less, has, flag, present, negation, both, either, exists, forall}
use Rattle.form_strata.specs.SortGraph as graph
use Rattle.form_terms.specs.GroundTerms.{GroundTerm, record_sort, source_of, target_of}
use Rattle.form_terms.specs.Parts.{Variable, Part, existential, universal, atom_term, parts, parts_of, quantifiers, name_of, is_dependent, applied_in, if_element}
use Rattle.form_terms.specs.Universe.{variables_of, functions_of, functions_in}
use Rattle.form_terms.proofs.Lists.{Contains-head, Contains-cons_cases, Contains-none, Contains-flat_map}
use Rattle.form_terms.proofs.Listed.{to_map}
use Rattle.form_terms.proofs.Typed.{in_element}
use Rattle.form_terms.proofs.Witnesses.{variable_part}

-- an applied function leads from its source to the sort of its values, and an `exists` from the sort of each `forall` above it to its own
abbrev pub IsEdge : Signature → Formula → ℕ → ℕ → Type 0
IsEdge g f from to =
    ((h : ℕ) × Contains (functions_of g f) h × (source_of g h ≡ Some from) × (target_of g h ≡ Some to))
    ⊎ ((v : Variable) × Contains (variables_of g f) v × Contains v.above from × (v.sort ≡ to))

abbrev unnamed : List (Option GroundTerm) → List Bool
unnamed names = map is_none names

unnamed_at : (names : List (Option GroundTerm)) (depth : ℕ) → slice_index_or (unnamed names) depth true ≡ is_none (slice_index_or names depth None)
unnamed_at [] depth = refl
unnamed_at (n ∷ names) zero = refl
unnamed_at (n ∷ names) (suc depth) = unnamed_at names depth

unnamed_more : (names : List (Option GroundTerm)) (name : Option GroundTerm) → unnamed (names ++ name ∷ []) ≡ unnamed names ++ is_none name ∷ []
unnamed_more [] name = refl
unnamed_more (n ∷ names) name = ap (λ bs. is_none n ∷ bs) (unnamed_more names name)

same_dependence : (names : List (Option GroundTerm)) (t : Term) → graph.is_dependent (unnamed names) t ≡ is_dependent names t
same_dependence names (bound sort depth) = unnamed_at names depth
same_dependence names (num n) = refl
same_dependence names (str t) = refl
same_dependence names (app k t) = same_dependence names t

has_name : (number sort : ℕ) (above : List ℕ) → is_none (name_of number sort above) ≡ graph.has_items above
has_name number sort [] = refl
has_name number sort (s ∷ above) = refl

module _ (g : Signature) (from to : ℕ) where
  range_edge : (range : Range) → record_sort range ≡ Some to → Contains (graph.range_edge from range) (from, to)
  range_edge (kinds.Rec sort) e =
      let same : sort ≡ to = cc in
      let P : ℕ → Type 0 = λ n. Contains {X = ℕ × ℕ} ((from, n) ∷ []) (from, to) in
      subst P (sym same) (Contains-head (from, to) [])
  range_edge kinds.Flag e = cc
  range_edge kinds.Num e = cc
  range_edge kinds.Str e = cc

  function_edge : (o : Option FunSig) → option_and_then (λ sig. Some sig.from) o ≡ Some from → option_and_then (λ sig. record_sort sig.to) o ≡ Some to
      → Contains (graph.function_edge o) (from, to)
  function_edge None p q = cc
  function_edge (Some sig) p q =
      let same : sig.from ≡ from = cc in
      let P : ℕ → Type 0 = λ n. Contains (graph.range_edge n sig.to) (from, to) in
      subst P (sym same) (range_edge sig.to q)

  term_edge : (names : List (Option GroundTerm)) (t : Term) (h : ℕ) → Contains (applied_in g names t) h → source_of g h ≡ Some from → target_of g h ≡ Some to
      → Contains (graph.term_edges (unnamed names) g t) (from, to)
  term_edge names (bound sort depth) h c p q = Contains-none h c
  term_edge names (num n) h c p q = Contains-none h c
  term_edge names (str t) h c p q = Contains-none h c
  term_edge names (app k t) h c p q =
      let own : List (ℕ × ℕ) = cond (graph.is_dependent (unnamed names) t) (graph.function_edge (slice_get g.funs k)) [] in
      elim (Contains-append_cases (if_element g k (cond (is_dependent names t) (k ∷ []) [])) (applied_in g names t) h c) [
        | inl here ↦
            let there = (in_element g k (cond (is_dependent names t) (k ∷ []) []) h here).2 in
            Contains-append_left own (graph.term_edges (unnamed names) g t) (from, to) (choose (is_dependent names t) (same_dependence names t) there)
        | inr later ↦ Contains-append_right own (graph.term_edges (unnamed names) g t) (from, to) (term_edge names t h later p q)
      ]
    where
      choose : (b : Bool) → graph.is_dependent (unnamed names) t ≡ b → Contains (cond b (k ∷ []) []) h
          → Contains (cond (graph.is_dependent (unnamed names) t) (graph.function_edge (slice_get g.funs k)) []) (from, to)
      choose true e c =
          elim (Contains-cons_cases k [] h c) [
            | inl same ↦
                let P : Bool → Type 0 = λ b. Contains (cond b (graph.function_edge (slice_get g.funs k)) []) (from, to) in
                subst P (sym e) (function_edge (slice_get g.funs k) (ap (source_of g) same ∙ p) (ap (target_of g) same ∙ q))
            | inr none ↦ Contains-none h none
          ]
      choose false e c = Contains-none h c

  -- a part makes the edge
  abbrev Makes : Part → Type 0
  Makes (existential v) = Contains v.above from × (v.sort ≡ to)
  Makes (universal sort) = ⊥
  Makes (atom_term names t) = (h : ℕ) × Contains (applied_in g names t) h × (source_of g h ≡ Some from) × (target_of g h ≡ Some to)

  one_part : (names : List (Option GroundTerm)) (t : Term) (p : Part) → Contains (atom_term names t ∷ []) p → Makes p → Contains (graph.term_edges (unnamed names) g t) (from, to)
  one_part names t p c makes =
      elim (Contains-cons_cases (atom_term names t) [] p c) [
        | inl e ↦ let own : Makes (atom_term names t) = subst Makes (sym e) makes in term_edge names t own.0 own.1 own.2 own.3
        | inr none ↦ Contains-none p none
      ]

  two_parts : (names : List (Option GroundTerm)) (t u : Term) (p : Part) → Contains (atom_term names t ∷ atom_term names u ∷ []) p → Makes p
      → Contains (graph.term_edges (unnamed names) g t ++ graph.term_edges (unnamed names) g u) (from, to)
  two_parts names t u p c makes =
      elim (Contains-cons_cases (atom_term names t) (atom_term names u ∷ []) p c) [
        | inl e ↦
            let own : Makes (atom_term names t) = subst Makes (sym e) makes in
            Contains-append_left (graph.term_edges (unnamed names) g t) (graph.term_edges (unnamed names) g u) (from, to) (term_edge names t own.0 own.1 own.2 own.3)
        | inr later ↦
            Contains-append_right (graph.term_edges (unnamed names) g t) (graph.term_edges (unnamed names) g u) (from, to) (one_part names u p later makes)
      ]

  part_edge : (a : Formula) (number : ℕ) (names : List (Option GroundTerm)) (above : List ℕ) (p : Part) → Contains (parts number names above a) p → Makes p
      → Contains (graph.edges g (unnamed names) above a) (from, to)
  part_edge yes number names above p c makes = Contains-none p c
  part_edge no number names above p c makes = Contains-none p c
  part_edge (equal t u) number names above p c makes = two_parts names t u p c makes
  part_edge (less t u) number names above p c makes = two_parts names t u p c makes
  part_edge (has r t u) number names above p c makes = two_parts names t u p c makes
  part_edge (flag k t) number names above p c makes = one_part names t p c makes
  part_edge (present k t) number names above p c makes = one_part names t p c makes
  part_edge (negation a) number names above p c makes = part_edge a number names above p c makes
  part_edge (both a b) number names above p c makes =
      let left : List (ℕ × ℕ) = graph.edges g (unnamed names) above a in
      let right : List (ℕ × ℕ) = graph.edges g (unnamed names) above b in
      elim (Contains-append_cases (parts number names above a) (parts (number + quantifiers a) names above b) p c) [
        | inl here ↦ Contains-append_left left right (from, to) (part_edge a number names above p here makes)
        | inr there ↦ Contains-append_right left right (from, to) (part_edge b (number + quantifiers a) names above p there makes)
      ]
  part_edge (either a b) number names above p c makes =
      let left : List (ℕ × ℕ) = graph.edges g (unnamed names) above a in
      let right : List (ℕ × ℕ) = graph.edges g (unnamed names) above b in
      elim (Contains-append_cases (parts number names above a) (parts (number + quantifiers a) names above b) p c) [
        | inl here ↦ Contains-append_left left right (from, to) (part_edge a number names above p here makes)
        | inr there ↦ Contains-append_right left right (from, to) (part_edge b (number + quantifiers a) names above p there makes)
      ]
  part_edge (exists sort a) number names above p c makes =
      let v : Variable = record { number = number; sort = sort; above = above } in
      let own : List (ℕ × ℕ) = map (λ from. (from, sort)) above in
      let rest : List (ℕ × ℕ) = graph.edges g (unnamed names ++ graph.has_items above ∷ []) above a in
      elim (Contains-cons_cases (existential v) (parts (number + 1) (names ++ name_of number sort above ∷ []) above a) p c) [
        | inl e ↦
            let here : Makes (existential v) = subst Makes (sym e) makes in
            let P : ℕ → Type 0 = λ n. Contains own (from, n) in
            Contains-append_left own rest (from, to) (subst P here.1 (to_map (λ from. (from, sort)) above from here.0))
        | inr later ↦
            let P : List Bool → Type 0 = λ bs. Contains (graph.edges g bs above a) (from, to) in
            let same : unnamed (names ++ name_of number sort above ∷ []) ≡ unnamed names ++ graph.has_items above ∷ [] =
            unnamed_more names (name_of number sort above) ∙ ap (λ b. unnamed names ++ b ∷ []) (has_name number sort above) in
            Contains-append_right own rest (from, to) (subst P same (part_edge a (number + 1) (names ++ name_of number sort above ∷ []) above p later makes))
      ]
  part_edge (forall sort a) number names above p c makes =
      elim (Contains-cons_cases (universal sort) (parts (number + 1) (names ++ None ∷ []) (above ++ sort ∷ []) a) p c) [
        | inl e ↦ absurd (subst Makes (sym e) makes)
        | inr later ↦
            let P : List Bool → Type 0 = λ bs. Contains (graph.edges g bs (above ++ sort ∷ []) a) (from, to) in
            subst P (unnamed_more names None) (part_edge a (number + 1) (names ++ None ∷ []) (above ++ sort ∷ []) p later makes)
      ]

pub graph_edge : (g : Signature) (f : Formula) (from to : ℕ) → IsEdge g f from to → Contains (graph.edges_of g f) (from, to)
graph_edge g f from to (inl (h, used, source, target)) =
    let found = Contains-flat_map (functions_in g) (parts_of f) h used in
    part_edge g from to f 0 [] [] found.0 found.1 (own found.0 found.2)
  where
    own : (p : Part) → Contains (functions_in g p) h → Makes g from to p
    own (existential v) c = Contains-none h c
    own (universal sort) c = Contains-none h c
    own (atom_term names t) c = (h, c, source, target)
graph_edge g f from to (inr (v, own, above, e)) = part_edge g from to f 0 [] [] (existential v) (variable_part g f v own) (above, e)
