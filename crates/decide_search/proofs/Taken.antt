-- Clauses and literals that speak of what there is.
use Rattle.std.proofs.Common.{◌≡◌, true, ℕ, zero, suc, ◌+◌, ◌<◌, ◌≤◌, inl, inr, refl, ap, subst, List, [], ◌∷◌, ◌++◌, None, length, map, arith, Contains, length-append, All}
use Rattle.std.specs.Prelude.{replicate}
use Rattle.form_formula.specs.declared.node.Node.{Node}
use Rattle.form_formula.specs.declared.structure.Signature.{Signature}
use Rattle.form_terms.proofs.Kept.{All-Contains, All-from}
use Rattle.std.proofs.lemmas.List.Elements.{Contains-append_left, Contains-append_right}
use Rattle.form_terms.proofs.Listed.{in_map, to_map}
use Rattle.form_terms.proofs.Lists.{Contains-none, Contains-cons_cases}
use Rattle.form_tables.specs.Facts.{Clause, Fact}
use Rattle.ground_gates.specs.declared.gate.Literal.{Literal}
use Rattle.ground_instances.specs.declared.instantiation.Instances.{Instances}
use Rattle.ground_instances.specs.declared.input.Value.{Value}
use Rattle.ground_terms.specs.declared.node.TermNode.{TermNode}
use Rattle.ground_terms.specs.Nodes.{IsOne}
use Rattle.ground_problem.specs.GroundClauses.{AreGroundClauses, IsClauseFor}
use Rattle.ground_problem.specs.declared.facts.FactNode.{FactNode}
use Rattle.ground_problem.specs.declared.facts.FactNode.TheVariants.{Same, Below}
use Rattle.ground_problem.specs.declared.words.Words.{Words}
use Rattle.solve_solver.specs.Clauses.{IsWithin}
use Rattle.solve_solver.specs.declared.literal.PLit.{PLit}
use Rattle.decide_models.proofs.Agreement.{node_at}
use Rattle.decide_models.proofs.Steps.{slice_within}
use Rattle.decide_search.specs.Encoding.{AreAtomsFor, AreAtomsOf, AreLinked, IsHalved, IsSide, link_clauses, negative, positive}
use Rattle.decide_search.specs.Mixed.{Atom}
use Rattle.decide_search.specs.Problem.{AreBelow, plit_of}
use Rattle.decide_search.specs.Sides.{AreTakenBy, IsSideWithin, IsTakenBy}
use Rattle.decide_search.specs.declared.sides.Side.{Side}
use Rattle.decide_search.specs.declared.sides.Side.TheVariants as side
use Rattle.decide_search.proofs.Encoded.{cases-append}

-- the number of a term is one that there is
one_within : (terms : List TermNode) (id : ℕ) → IsOne terms id → id < length terms
one_within terms id one = let (node, at, own) = node_at terms id true one in slice_within terms id node at

module _ (g : Signature) (nodes : List Node) (terms : List TermNode) (w : Words) (texts : List (List ℕ)) where
  pub side_within : (v : Value) (s : Side) → IsSide g nodes terms w texts v s → IsSideWithin (length terms) (length texts) s
  side_within v (side.Element sort c) h = omega (arith, one_within terms c h.one)
  side_within v (side.Text c) (inl h) = omega (arith, one_within terms c h.told_there.one)
  side_within v (side.Text c) (inr h) = omega (arith, slice_within texts h.place h.bytes h.listed, h.behind)
  side_within v (side.Number x o) (inl h) = omega (arith, one_within terms h.id h.told_there.one, h.behind)
  side_within v (side.Number x o) (inr h) = omega (arith, h.zero_at)

  long : (ps : List FactNode) (ls : List Atom) → AreAtomsOf g nodes terms w texts ps ls → length ps ≡ length ls
  long [] [] h = refl
  long [] (o ∷ ls) h = absurd h
  long (p ∷ ps) [] h = absurd h
  long (p ∷ ps) (o ∷ ls) h = ap suc (long ps ls h.1)

  replicated : {X : Type 0} (x : X) (n : ℕ) → length (replicate n x) ≡ n
  replicated x zero = refl
  replicated x (suc n) = ap suc (replicated x n)

  -- there is an atom or none for each variable
  pub atoms_long : (vars : ℕ) (facts halves : List FactNode) (atoms : List Atom) → AreAtomsFor g nodes terms w texts vars facts halves atoms → length atoms ≡ vars + length halves
  atoms_long vars facts halves atoms h =
      let gap : List Atom = replicate h.gap None in
      omega (arith, ap length h.whole, length-append (h.own ++ gap) h.others, length-append h.own gap, replicated {X = Atom} None h.gap, h.to_gap, long facts h.own h.own_are, long halves h.others h.others_are)

  -- the clauses that link halves speak of their variables and of facts
  pub links_within : (vars : ℕ) (facts halves : List FactNode) (links : List (List PLit)) → length facts ≤ vars → AreLinked g nodes terms w texts vars facts halves links
      → All (IsWithin (vars + length halves)) links
  links_within vars facts halves links le h = All-from (IsWithin (vars + length halves)) links (λ c there. let (x, e, halved, listed) = h.linked c there in one c x e halved listed)
    where
      one : (c : List PLit) (x e : ℕ) → IsHalved g nodes terms w texts vars facts halves x e → Contains (link_clauses x e) c → IsWithin (vars + length halves) c
      one c x e halved listed =
          let n = vars + length halves in
          let low : x < n = omega (arith, le, slice_within facts x (Same halved.v halved.u) halved.same_there) in
          let next : e + 1 < n = omega (arith, halved.halves_at, slice_within halves (halved.half + 1) (Below halved.u halved.v) halved.above_there) in
          let mid : e < n = omega (arith, next) in
          let P : PLit → Type 0 = λ l. l.var < n in
          elim (Contains-cons_cases (positive x ∷ positive e ∷ positive (e + 1) ∷ []) ((negative x ∷ negative e ∷ []) ∷ (negative x ∷ negative (e + 1) ∷ []) ∷ []) c listed) [
            | inl same ↦ subst (IsWithin n) same (three (positive x) (positive e) (positive (e + 1)) P low mid next)
            | inr rest ↦ elim (Contains-cons_cases (negative x ∷ negative e ∷ []) ((negative x ∷ negative (e + 1) ∷ []) ∷ []) c rest) [
              | inl same ↦ subst (IsWithin n) same (two (negative x) (negative e) P low mid)
              | inr last ↦ elim (Contains-cons_cases (negative x ∷ negative (e + 1) ∷ []) [] c last) [
                | inl same ↦ subst (IsWithin n) same (two (negative x) (negative (e + 1)) P low next)
                | inr none ↦ Contains-none c none
              ]
            ]
          ]
        where
          two : (a b : PLit) (P : PLit → Type 0) → P a → P b → All P (a ∷ b ∷ [])
          two a b P p q = All-from P (a ∷ b ∷ []) (λ l there.
              elim (Contains-cons_cases a (b ∷ []) l there) [
                | inl same ↦ subst P same p
                | inr rest ↦ elim (Contains-cons_cases b [] l rest) [ inl same ↦ subst P same q | inr none ↦ Contains-none l none ]
              ])

          three : (a b c : PLit) (P : PLit → Type 0) → P a → P b → P c → All P (a ∷ b ∷ c ∷ [])
          three a b c P p q r = All-from P (a ∷ b ∷ c ∷ []) (λ l there.
              elim (Contains-cons_cases a (b ∷ c ∷ []) l there) [
                | inl same ↦ subst P same p
                | inr rest ↦ elim (Contains-cons_cases b (c ∷ []) l rest) [
                  | inl same ↦ subst P same q
                  | inr last ↦ elim (Contains-cons_cases c [] l last) [ inl same ↦ subst P same r | inr none ↦ Contains-none l none ]
                ]
              ])

-- below a bound, and so below a greater
pub within_more : (m n : ℕ) (c : List PLit) → m ≤ n → IsWithin m c → IsWithin n c
within_more m n c le h = All-from (λ (l : PLit). l.var < n) c (λ l there. omega (arith, le, All-Contains (λ (l : PLit). l.var < m) c l h there))

plits_within : (vars n : ℕ) (c : List Literal) → vars ≤ n → AreBelow vars c → IsWithin n (map plit_of c)
plits_within vars n c le h = All-from (λ (l : PLit). l.var < n) (map plit_of c) (λ l there.
    let (k, listed, same) = in_map plit_of c l there in
    let lt : (plit_of k).var < n = omega (arith, le, All-Contains (λ (l : Literal). l.var < vars) c k h listed) in
    let P : PLit → Type 0 = λ l. l.var < n in subst P same lt)

mapped_within : {V : Type 0} (items : V → List Literal) (vars n : ℕ) (vs : List V) → vars ≤ n → All (λ v. AreBelow vars (items v)) vs → (c : List PLit)
    → Contains (map (map plit_of) (map items vs)) c → IsWithin n c
mapped_within items vars n vs le h c there =
    let (k, listed, same) = in_map (map plit_of) (map items vs) c there in
    let (v, here, own) = in_map items vs k listed in
    let Q : List Literal → Type 0 = λ k. AreBelow vars k in
    subst (IsWithin n) same (plits_within vars n k le (subst Q own (All-Contains (λ v. AreBelow vars (items v)) vs v h here)))

-- the clauses for the solver speak of its variables
pub all_within : {V : Type 0} (items : V → List Literal) (vars n : ℕ) (left right : List V) (links all : List (List PLit)) → vars ≤ n
    → all ≡ (map (map plit_of) (map items left) ++ map (map plit_of) (map items right)) ++ links → All (λ v. AreBelow vars (items v)) left → All (λ v. AreBelow vars (items v)) right
    → All (IsWithin n) links → All (IsWithin n) all
all_within items vars n left right links all le e p q r =
    let own = map (map plit_of) (map items left) in
    let others = map (map plit_of) (map items right) in
    All-from (IsWithin n) all (λ c there.
    elim (cases-append (own ++ others) links c (subst (λ (cs : List (List PLit)). Contains cs c) e there)) [
      | inl mine ↦ elim (cases-append own others c mine) [ inl k ↦ mapped_within items vars n left le p c k | inr k ↦ mapped_within items vars n right le q c k ]
      | inr k ↦ All-Contains (IsWithin n) links c r k
    ])

-- the clauses on facts speak of these, which are the first variables
clause_below : (facts : List Fact) (ls : List Literal) (ps : Clause) → IsClauseFor facts ls ps → (l : Literal) → Contains ls l → l.var < length facts
clause_below facts [] ps h l there = Contains-none l there
clause_below facts (k ∷ ls) [] h l there = absurd h
clause_below facts (k ∷ ls) (p ∷ ps) h l there =
    let P : Literal → Type 0 = λ l. l.var < length facts in
    elim (Contains-cons_cases k ls l there) [ inl same ↦ subst P same (slice_within facts k.var p.fact h.0) | inr later ↦ clause_below facts ls ps h.2 l later ]

mapped_long : {X Y : Type 0} (f : X → Y) (xs : List X) → length (map f xs) ≡ length xs
mapped_long f [] = refl
mapped_long f (x ∷ xs) = ap suc (mapped_long f xs)

pub ground_below : {V : Type 0} (items : V → List Literal) (f : FactNode → Fact) (facts : List FactNode) (made : Instances) (nodes : List Node) (cs : List Clause) (end : ℕ) (left right : List V)
    → AreGroundClauses (map f facts) made nodes cs end (map items left ++ map items right)
    → (length facts ≤ end) × All (λ v. AreBelow end (items v)) left × All (λ v. AreBelow end (items v)) right
ground_below {V} items f facts made nodes cs end left right h =
    let room : length (map f facts) ≤ end = h.encoding.rise in
    let one : (c : List Literal) → Contains (map items left ++ map items right) c → AreBelow end c = λ c there. All-from (λ (l : Literal). l.var < end) c (λ l here.
    elim (h.only c there) [
      | inl gate ↦ h.encoding.below c l gate here
      | inr (p, listed, is) ↦ omega (arith, room, clause_below (map f facts) c p is l here)
    ]) in (
      omega (arith, room, mapped_long f facts),
      All-from (λ v. AreBelow end (items v)) left (λ v there. one (items v) (Contains-append_left (map items left) (map items right) (items v) (to_map items left v there))),
      All-from (λ v. AreBelow end (items v)) right (λ v there. one (items v) (Contains-append_right (map items left) (map items right) (items v) (to_map items right v there))),
    )

-- one more item, of which it holds as of the others
pub all_push : {X : Type 0} (P : X → Type 0) (xs new : List X) (x : X) → new ≡ xs ++ x ∷ [] → All P xs → P x → All P new
all_push P xs new x e h own = All-from P new (λ y there.
    elim (cases-append xs (x ∷ []) y (subst (λ ys. Contains ys y) e there)) [
      | inl before ↦ All-Contains P xs y h before
      | inr last ↦ elim (Contains-cons_cases x [] y last) [ inl same ↦ subst P same own | inr none ↦ Contains-none y none ]
    ])

pub none_taken : (terms texts : ℕ) (atoms : List Atom) → atoms ≡ [] → AreTakenBy terms texts atoms
none_taken terms texts atoms e = All-from (IsTakenBy terms texts) atoms (λ a there. Contains-none a (subst (λ ls. Contains ls a) e there))

plain_each : (terms texts : ℕ) (n : ℕ) (a : Atom) → Contains (replicate n None) a → IsTakenBy terms texts a
plain_each terms texts zero a there = Contains-none a there
plain_each terms texts (suc n) a there =
    elim (Contains-cons_cases None (replicate n None) a there) [ inl same ↦ subst (IsTakenBy terms texts) same tt | inr later ↦ plain_each terms texts n a later ]

pub plain_taken : (terms texts n : ℕ) (atoms new : List Atom) → new ≡ atoms ++ replicate n None → AreTakenBy terms texts atoms → AreTakenBy terms texts new
plain_taken terms texts n atoms new e h = All-from (IsTakenBy terms texts) new (λ a there.
    elim (cases-append atoms (replicate n None) a (subst (λ ls. Contains ls a) e there)) [
      | inl before ↦ All-Contains (IsTakenBy terms texts) atoms a h before
      | inr later ↦ plain_each terms texts n a later
    ])
