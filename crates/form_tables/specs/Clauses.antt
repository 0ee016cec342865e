-- Consistency as clauses.
use Rattle.std.specs.Prelude.{◌≡◌, ℕ, ◌&&◌, List, [], ◌∷◌, ◌++◌, Option, None, Some, cond, map, Contains, slice_get, ◌==◌}
use Rattle.std.specs.List.{flat_map}
use Rattle.form_formula.specs.declared.structure.Range.{Range}
use Rattle.form_formula.specs.declared.structure.Range.TheVariants as range
use Rattle.form_formula.specs.declared.structure.FunSig.{FunSig}
use Rattle.form_formula.specs.declared.structure.Signature.{Signature}
use Rattle.form_terms.specs.GroundTerms.{GroundTerm, GroundTerms, constant, skolem, field, no_terms, term_and, list_of, sort_of}
use Rattle.form_tables.specs.Vocabulary.{Vocabulary, Pair, told}
use Rattle.form_tables.specs.Consistent.{range_of, IsOfRange}
use Rattle.form_tables.specs.Facts.{Fact, Assignment, Clause, term, there, same, raised, related, empty, so, not_so, implied}

-- what each told term has is of its range
abbrev pub IsTyped : Signature → Vocabulary → Assignment → Type 0
IsTyped g v a = (t : GroundTerm) (range : Range) → Contains (told v) t → range_of g t ≡ Some range → IsOfRange range (a.value t)

-- two terms are there and the same; and those of two lists, one by one
abbrev pub one_and_same : GroundTerm → GroundTerm → List Fact
one_and_same t u = there t ∷ there u ∷ same (term t) (term u) ∷ []

abbrev pub all_same : GroundTerms → GroundTerms → List Fact
all_same no_terms us = []
all_same (term_and t ts) no_terms = []
all_same (term_and t ts) (term_and u us) = one_and_same t u ++ all_same ts us

module _ (g : Signature) where
  -- a total function is there where its argument is
  abbrev pub total_clauses : Option FunSig → ℕ → GroundTerm → List Clause
  total_clauses None h t = []
  total_clauses (Some sig) h t = cond sig.partial [] (implied (there t ∷ []) (so (there (field h t))) ∷ [])

  -- the constant of a sort is there, or the sort is empty; a variable and a function are there only where their arguments are
  abbrev pub term_clauses : GroundTerm → List Clause
  term_clauses (constant sort) = (so (there (constant sort)) ∷ so (empty sort) ∷ []) ∷ []
  term_clauses (skolem number sort ts) = map (λ t. implied (there (skolem number sort ts) ∷ []) (so (there t))) (list_of ts)
  term_clauses (field h t) = implied (there (field h t) ∷ []) (so (there t)) ∷ total_clauses (slice_get g.funs h) h t

  -- what is there makes its sort not empty
  abbrev pub sort_clauses_of : Option ℕ → GroundTerm → List Clause
  sort_clauses_of None t = []
  sort_clauses_of (Some sort) t = implied (there t ∷ []) (not_so (empty sort)) ∷ []

  abbrev pub sort_clauses : GroundTerm → List Clause
  sort_clauses t = sort_clauses_of (sort_of g t) t

  -- and so does an element of a total function's source with its target
  abbrev pub target_clauses : ℕ → Range → List Clause
  target_clauses from (range.Rec sort) = implied (empty sort ∷ []) (so (empty from)) ∷ []
  target_clauses from range.Flag = []
  target_clauses from range.Num = []
  target_clauses from range.Str = []

  abbrev pub function_clauses : FunSig → List Clause
  function_clauses sig = cond sig.partial [] (target_clauses sig.from sig.to)

  -- a set relation holds only of terms that are there
  abbrev pub pair_clauses : Pair → List Clause
  pair_clauses p = implied (related p ∷ []) (so (there p.holder)) ∷ implied (related p ∷ []) (so (there p.member)) ∷ []

  -- a function at terms that are the same is there at both or at neither
  abbrev pub alike_clauses : GroundTerm → GroundTerm → List Clause
  alike_clauses (constant sort) u = []
  alike_clauses (skolem number sort ts) u = []
  alike_clauses (field h t) (constant sort) = []
  alike_clauses (field h t) (skolem number sort ts) = []
  alike_clauses (field h t) (field k u) = cond (h == k) (implied (there (field h t) ∷ one_and_same t u) (so (there (field k u))) ∷ []) []

  -- and where both name elements, these are the same; likewise a variable
  abbrev pub element_clauses : GroundTerm → GroundTerm → List Clause
  element_clauses (constant sort) u = []
  element_clauses (skolem number sort ts) (constant sort') = []
  element_clauses (skolem number sort ts) (skolem number' sort' us) =
      cond ((number == number') && (sort == sort'))
      (implied (there (skolem number sort ts) ∷ all_same ts us) (so (there (skolem number' sort' us)))
      ∷ implied (there (skolem number sort ts) ∷ all_same ts us) (so (same (term (skolem number sort ts)) (term (skolem number' sort' us))))
      ∷ []) []
  element_clauses (skolem number sort ts) (field h t) = []
  element_clauses (field h t) (constant sort) = []
  element_clauses (field h t) (skolem number sort ts) = []
  element_clauses (field h t) (field k u) =
      cond (h == k) (implied (there (field h t) ∷ one_and_same t u) (so (same (term (field h t)) (term (field k u)))) ∷ []) []

  -- and so are numbers, texts and truth values
  abbrev pub value_clauses_of : Option Range → GroundTerm → GroundTerm → List Fact → List Clause
  value_clauses_of None t u ps = []
  value_clauses_of (Some (range.Rec sort)) t u ps = []
  value_clauses_of (Some range.Flag) t u ps = implied (raised t ∷ there t ∷ ps) (so (raised u)) ∷ []
  value_clauses_of (Some range.Num) t u ps = implied (there t ∷ ps) (so (same (term t) (term u))) ∷ []
  value_clauses_of (Some range.Str) t u ps = implied (there t ∷ ps) (so (same (term t) (term u))) ∷ []

  abbrev pub value_clauses : GroundTerm → GroundTerm → List Clause
  value_clauses (constant sort) u = []
  value_clauses (skolem number sort ts) u = []
  value_clauses (field h t) (constant sort) = []
  value_clauses (field h t) (skolem number sort ts) = []
  value_clauses (field h t) (field k u) = cond (h == k) (value_clauses_of (range_of g (field h t)) (field h t) (field k u) (one_and_same t u)) []

  -- and set relations
  abbrev pub relation_clauses : Pair → Pair → List Clause
  relation_clauses p q =
      cond (p.relation == q.relation) (implied (related p ∷ (one_and_same p.holder q.holder ++ one_and_same p.member q.member)) (so (related q)) ∷ []) []

  -- the clauses of each two elements of a list
  abbrev pub for_pairs : {A : Type 0} → (A → A → List Clause) → List A → List Clause
  for_pairs clauses xs = flat_map (λ x. flat_map (clauses x) xs) xs

  module _ (v : Vocabulary) where
    abbrev pub base_clauses : List Clause
    base_clauses = flat_map term_clauses (told v) ++ (flat_map sort_clauses (told v) ++ (flat_map pair_clauses v.pairs ++ flat_map function_clauses g.funs))

    abbrev pub congruence_clauses : List Clause
    congruence_clauses = for_pairs alike_clauses (told v) ++ (for_pairs element_clauses v.named ++ (for_pairs value_clauses v.others ++ for_pairs relation_clauses v.pairs))
