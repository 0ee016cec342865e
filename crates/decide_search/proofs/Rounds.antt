-- Rounds end, since each lists a clause of congruence that was not listed.
use Rattle.std.proofs.Common.{◌≡◌, ◌∙◌, ℕ, ◌+◌, ◌<◌, ◌≤◌, Bool, true, false, not, cond, ◌&&◌, ◌||◌, inl, inr, refl, sym, ap, subst, arith, List, [], ◌∷◌, ◌++◌, Contains}
use Rattle.std.specs.Prelude.{nat_eq, ◌==◌}
use Rattle.std.specs.Bool.{Decides}
use Rattle.std.specs.List.{list_any}
use Rattle.std.specs.Ordering.{int_eq}
use Rattle.std.specs.Cmp.Lexicographic.{pointwise, pointwise_decides}
use Rattle.std.proofs.lemmas.Bool.{and_parts, eqb-true}
use Rattle.std.proofs.lemmas.Bool.Decides.{Decides-eqb, Decides-int_eq}
use Rattle.std.proofs.lemmas.List.Elements.{Contains-append_left, Contains-append_right}
use Rattle.form_formula.specs.declared.node.Node.{Node}
use Rattle.form_formula.specs.declared.structure.Signature.{Signature}
use Rattle.form_terms.specs.Listing.{is_same_term}
use Rattle.form_terms.proofs.Kept.{nat_same}
use Rattle.form_terms.proofs.Listed.{same_term, same_itself}
use Rattle.form_terms.proofs.Lists.{Contains-head, Contains-tail, Contains-cons_cases, Contains-none, either_true}
use Rattle.ground_terms.specs.declared.node.TermNode.{TermNode}
use Rattle.form_tables.specs.Clauses.{congruence_clauses}
use Rattle.form_tables.specs.Facts.{Clause, Fact, Literal, Noun, term, number, text, there, same, below, raised, related, empty}
use Rattle.form_tables.specs.Vocabulary.{Pair}
use Rattle.ground_problem.specs.Words.{vocabulary_at}
use Rattle.ground_problem.specs.declared.words.Words.{Words}
use Rattle.ground_problem.specs.Facts.{clause_at, clauses_at}
use Rattle.ground_problem.specs.declared.facts.FactLiteral.{FactLiteral}
use Rattle.decide_search.specs.Tabled.{AreNewCongruences}
use Rattle.decide_search.proofs.Encoded.{map-append}

-- whether two clauses are one
is_same_noun : Noun → Noun → Bool
is_same_noun (term t) (term u) = is_same_term t u
is_same_noun (number m) (number n) = int_eq m n
is_same_noun (text s) (text t) = pointwise nat_eq s t
is_same_noun _ _ = false

is_same_pair : Pair → Pair → Bool
is_same_pair p q = (p.relation == q.relation) && (is_same_term p.holder q.holder && is_same_term p.member q.member)

is_same_fact : Fact → Fact → Bool
is_same_fact (there t) (there u) = is_same_term t u
is_same_fact (same x y) (same v w) = is_same_noun x v && is_same_noun y w
is_same_fact (below x y) (below v w) = is_same_noun x v && is_same_noun y w
is_same_fact (raised t) (raised u) = is_same_term t u
is_same_fact (related p) (related q) = is_same_pair p q
is_same_fact (empty sort) (empty other) = sort == other
is_same_fact _ _ = false

is_same_sign : Bool → Bool → Bool
is_same_sign true other = other
is_same_sign false other = not other

is_same_literal : Literal → Literal → Bool
is_same_literal l m = is_same_fact l.fact m.fact && is_same_sign l.sign m.sign

noun_same : (x y : Noun) → is_same_noun x y ≡ true → x ≡ y
unfolding is_same_noun
noun_same (term t) (term u) e = ap term (same_term t u e)
noun_same (number m) (number n) e = ap number ((Decides-int_eq m n).0 e)
noun_same (text s) (text t) e = ap text ((pointwise_decides Decides-eqb s t).0 e)
noun_same _ _ e = cc

noun_itself : (x : Noun) → is_same_noun x x ≡ true
unfolding is_same_noun
noun_itself (term t) = same_itself t
noun_itself (number n) = (Decides-int_eq n n).1 refl
noun_itself (text t) = (pointwise_decides Decides-eqb t t).1 refl

two_same : (f : Noun → Noun → Fact) (x y v w : Noun) → (is_same_noun x v && is_same_noun y w) ≡ true → f x y ≡ f v w
two_same f x y v w e =
    let p = and_parts (is_same_noun x v) (is_same_noun y w) e in
    let left = noun_same x v p.0 in let right = noun_same y w p.1 in cc

pair_same : (p q : Pair) → is_same_pair p q ≡ true → p ≡ q
unfolding is_same_pair
pair_same p q e =
    let h = and_parts (p.relation == q.relation) (is_same_term p.holder q.holder && is_same_term p.member q.member) e in
    let k = and_parts (is_same_term p.holder q.holder) (is_same_term p.member q.member) h.1 in
    let relation = eqb-true p.relation q.relation h.0 in
    let holder = same_term p.holder q.holder k.0 in
    let member = same_term p.member q.member k.1 in λ i. record { relation = relation i; holder = holder i; member = member i }

pair_itself : (p : Pair) → is_same_pair p p ≡ true
unfolding is_same_pair
pair_itself p = let relation = nat_same p.relation in let holder = same_itself p.holder in let member = same_itself p.member in cc

fact_same : (p q : Fact) → is_same_fact p q ≡ true → p ≡ q
unfolding is_same_fact
fact_same (there t) (there u) e = ap there (same_term t u e)
fact_same (same x y) (same v w) e = two_same (λ x y. same x y) x y v w e
fact_same (below x y) (below v w) e = two_same (λ x y. below x y) x y v w e
fact_same (raised t) (raised u) e = ap raised (same_term t u e)
fact_same (related p) (related q) e = ap related (pair_same p q e)
fact_same (empty sort) (empty other) e = ap empty (eqb-true sort other e)
fact_same _ _ e = cc

fact_itself : (p : Fact) → is_same_fact p p ≡ true
unfolding is_same_fact
fact_itself (there t) = same_itself t
fact_itself (same x y) = let left = noun_itself x in let right = noun_itself y in cc
fact_itself (below x y) = let left = noun_itself x in let right = noun_itself y in cc
fact_itself (raised t) = same_itself t
fact_itself (related p) = pair_itself p
fact_itself (empty sort) = nat_same sort

sign_same : (b d : Bool) → is_same_sign b d ≡ true → b ≡ d
unfolding is_same_sign
sign_same true true e = refl
sign_same true false e = cc
sign_same false true e = cc
sign_same false false e = refl

sign_itself : (b : Bool) → is_same_sign b b ≡ true
unfolding is_same_sign
sign_itself true = refl
sign_itself false = refl

literal_decides : (l m : Literal) → Decides (is_same_literal l m) (l ≡ m)
unfolding is_same_literal
literal_decides l m = (
  λ e.
      let p = and_parts (is_same_fact l.fact m.fact) (is_same_sign l.sign m.sign) e in
      let fact = fact_same l.fact m.fact p.0 in let sign = sign_same l.sign m.sign p.1 in λ i. record { fact = fact i; sign = sign i },
  λ e.
      let P : Literal → Type 0 = λ m. (is_same_fact l.fact m.fact && is_same_sign l.sign m.sign) ≡ true in
      let fact = fact_itself l.fact in let sign = sign_itself l.sign in let own : P l = cc in subst P e own,
)

abbrev is_same_clause : Clause → Clause → Bool
is_same_clause c d = pointwise is_same_literal c d

clause_decides : (c d : Clause) → Decides (is_same_clause c d) (c ≡ d)
clause_decides c d = pointwise_decides literal_decides c d

-- whether a clause is listed
is_listed : List Clause → Clause → Bool
is_listed listed c = list_any (is_same_clause c) listed

listed_there : (listed : List Clause) (c : Clause) → is_listed listed c ≡ true → Contains listed c
unfolding is_listed
listed_there [] c e = cc
listed_there (d ∷ listed) c e =
    elim (either_true (is_same_clause c d) (list_any (is_same_clause c) listed) e) [
      | inl here ↦ let P : Clause → Type 0 = λ c. Contains (d ∷ listed) c in subst P (sym ((clause_decides c d).0 here)) (Contains-head d listed)
      | inr later ↦ Contains-tail d listed c (listed_there listed c later)
    ]

there_listed : (listed : List Clause) (c : Clause) → Contains listed c → is_listed listed c ≡ true
unfolding is_listed
there_listed [] c h = Contains-none c h
there_listed (d ∷ listed) c h =
    elim (Contains-cons_cases d listed c h) [
      | inl e ↦ let here = (clause_decides c d).1 (sym e) in cc
      | inr later ↦ let rest = there_listed listed c later in by (is_same_clause c d) (list_any (is_same_clause c) listed) rest
    ]
  where
    by : (b d : Bool) → d ≡ true → (b || d) ≡ true
    by true d e = refl
    by false d e = e

-- how many of some clauses are not listed
pub lacking : List Clause → List Clause → ℕ
lacking listed [] = 0
lacking listed (c ∷ cs) = cond (is_listed listed c) 0 1 + lacking listed cs

step : (b d : Bool) → (b ≡ true → d ≡ true) → cond d 0 1 ≤ cond b 0 1
step true d h = let one : Bool → ℕ = λ b. cond b 0 1 in omega (arith, ap one (h refl))
step false true h = omega arith
step false false h = omega arith

module _ (old new : List Clause) (kept : (c : Clause) → Contains old c → Contains new c) where
  step_at : (c : Clause) → cond (is_listed new c) 0 1 ≤ cond (is_listed old c) 0 1
  step_at c = step (is_listed old c) (is_listed new c) (λ e. there_listed new c (kept c (listed_there old c e)))

  no_more : (cs : List Clause) → lacking new cs ≤ lacking old cs
  unfolding lacking
  no_more [] = omega arith
  no_more (c ∷ cs) = let here = step_at c in let later = no_more cs in omega arith

  fewer : (cs : List Clause) (c : Clause) → Contains cs c → (Contains old c → ⊥) → Contains new c → lacking new cs < lacking old cs
  unfolding lacking
  fewer [] c h apart added = Contains-none c h
  fewer (d ∷ cs) c h apart added =
      elim (Contains-cons_cases d cs c h) [
        | inl e ↦
            let P : Clause → Type 0 = λ c. Contains old c → ⊥ in
            let Q : Clause → Type 0 = λ c. Contains new c in
            let one : Bool → ℕ = λ b. cond b 0 1 in
            let before : one (is_listed old d) ≡ 1 = ap one (false_by (is_listed old d) (λ t. subst P (sym e) apart (listed_there old d t))) in
            let after : one (is_listed new d) ≡ 0 = ap one (there_listed new d (subst Q (sym e) added)) in
            let rest = no_more cs in omega (arith, before, after)
        | inr later ↦ let here = step_at d in let rest = fewer cs c later apart added in omega arith
      ]
    where
      false_by : (b : Bool) → (b ≡ true → ⊥) → b ≡ false
      false_by true never = absurd (never refl)
      false_by false never = refl

-- with new clauses fewer of congruence are not listed
pub fewer_lacking : (g : Signature) (nodes : List Node) (terms : List TermNode) (w : Words) (old more new : List (List FactLiteral)) → new ≡ old ++ more
    → AreNewCongruences g nodes terms w (clauses_at nodes terms old) more
    → lacking (clauses_at nodes terms new) (congruence_clauses g (vocabulary_at terms w)) < lacking (clauses_at nodes terms old) (congruence_clauses g (vocabulary_at terms w))
fewer_lacking g nodes terms w old [] new e h = absurd (h.some refl)
fewer_lacking g nodes terms w old (x ∷ more) new e h =
    let all = congruence_clauses g (vocabulary_at terms w) in
    let c = clause_at nodes terms x in
    let before = clauses_at nodes terms old in
    let added = clauses_at nodes terms (x ∷ more) in
    let here : Contains added c = Contains-head c (clauses_at nodes terms more) in
    let split : clauses_at nodes terms new ≡ before ++ added = ap (clauses_at nodes terms) e ∙ map-append (clause_at nodes terms) old (x ∷ more) in
    let P : List Clause → Type 0 = λ cs. lacking cs all < lacking before all in
    subst P (sym split)
    (fewer before (before ++ added) (λ d own. Contains-append_left before added d own) all c (h.congruences c here) (λ own. h.new c here own) (Contains-append_right before added c here))
