-- Clauses that are met.
use Rattle.std.proofs.Common.{◌≡◌, Bool, true, false, not, ◌||◌, refl, List, [], ◌∷◌, ◌++◌, cond, subst, inl, inr, Contains}
use Rattle.std.specs.List.{list_all, flat_map}
use Rattle.std.proofs.lemmas.Bool.{and_parts}
use Rattle.form_terms.proofs.Lists.{Contains-head, Contains-tail, Contains-cons_cases, Contains-none}
use Rattle.form_tables.specs.Facts.{Assignment, Fact, Literal, Clause, implied, is_fact, is_literal, is_met}

module _ (a : Assignment) where
  abbrev pub AreMet : List Clause → Type 0
  AreMet [] = Unit {0}
  AreMet (c ∷ cs) = (is_met a c ≡ true) × AreMet cs

  abbrev pub AreFacts : List Fact → Type 0
  AreFacts [] = Unit {0}
  AreFacts (p ∷ ps) = (is_fact a p ≡ true) × AreFacts ps

  pub met_each : (cs : List Clause) → list_all (is_met a) cs ≡ true → AreMet cs
  met_each [] e = tt
  met_each (c ∷ cs) e = let (h, t) = and_parts (is_met a c) (list_all (is_met a) cs) e in (h, met_each cs t)

  pub each_met : (cs : List Clause) → AreMet cs → list_all (is_met a) cs ≡ true
  each_met [] h = refl
  each_met (c ∷ cs) h = let here = h.0 in let rest = each_met cs h.1 in cc

  pub met_append : (xs ys : List Clause) → AreMet xs → AreMet ys → AreMet (xs ++ ys)
  met_append [] ys p q = q
  met_append (x ∷ xs) ys p q = (p.0, met_append xs ys p.1 q)

  pub append_met : (xs ys : List Clause) → AreMet (xs ++ ys) → AreMet xs × AreMet ys
  append_met [] ys h = (tt, h)
  append_met (x ∷ xs) ys h = let (p, q) = append_met xs ys h.1 in ((h.0, p), q)

  pub met_flat : {A : Type 0} (clauses : A → List Clause) (xs : List A) → ((x : A) → Contains xs x → AreMet (clauses x)) → AreMet (flat_map clauses xs)
  met_flat clauses [] h = tt
  met_flat clauses (x ∷ xs) h = met_append (clauses x) (flat_map clauses xs) (h x (Contains-head x xs)) (met_flat clauses xs (λ y c. h y (Contains-tail x xs y c)))

  pub flat_met : {A : Type 0} (clauses : A → List Clause) (xs : List A) → AreMet (flat_map clauses xs) → (x : A) → Contains xs x → AreMet (clauses x)
  flat_met clauses [] h x c = Contains-none x c
  flat_met {A} clauses (y ∷ xs) h x c =
      let (here, rest) = append_met (clauses y) (flat_map clauses xs) h in
      elim (Contains-cons_cases y xs x c) [
        | inl e ↦ let P : A → Type 0 = λ x. AreMet (clauses x) in subst P e here
        | inr later ↦ flat_met clauses xs rest x later
      ]

  -- clauses under a test
  pub met_if : (b : Bool) (cs : List Clause) → (b ≡ true → AreMet cs) → AreMet (cond b cs [])
  met_if true cs h = h refl
  met_if false cs h = tt

  pub met_unless : (b : Bool) (cs : List Clause) → (b ≡ false → AreMet cs) → AreMet (cond b [] cs)
  met_unless true cs h = tt
  met_unless false cs h = h refl

  -- a clause of facts and what they imply
  pub implied_met : (ps : List Fact) (l : Literal) → (AreFacts ps → is_literal a l ≡ true) → is_met a (implied ps l) ≡ true
  implied_met [] l h = let here = h tt in cc
  implied_met (p ∷ ps) l h = choose (λ e. implied_met ps l (λ rest. h (e, rest))) (is_fact a p) refl
    where
      choose : (is_fact a p ≡ true → is_met a (implied ps l) ≡ true) → (b : Bool) → is_fact a p ≡ b → (not (is_fact a p) || is_met a (implied ps l)) ≡ true
      choose rest true e = let later = rest e in cc
      choose rest false e = cc

  pub met_implied : (ps : List Fact) (l : Literal) → is_met a (implied ps l) ≡ true → AreFacts ps → is_literal a l ≡ true
  met_implied [] l e h = only (is_literal a l) e
    where
      only : (b : Bool) → (b || false) ≡ true → b ≡ true
      only true e = refl
      only false e = e
  met_implied (p ∷ ps) l e h = let first = h.0 in met_implied ps l (rest (is_fact a p) (is_met a (implied ps l)) first e) h.1
    where
      rest : (b c : Bool) → b ≡ true → (not b || c) ≡ true → c ≡ true
      rest true c p e = e
      rest false c p e = cc

  pub facts_append : (ps qs : List Fact) → AreFacts ps → AreFacts qs → AreFacts (ps ++ qs)
  facts_append [] qs h k = k
  facts_append (p ∷ ps) qs h k = (h.0, facts_append ps qs h.1 k)

  pub append_facts : (ps qs : List Fact) → AreFacts (ps ++ qs) → AreFacts ps × AreFacts qs
  append_facts [] qs h = (tt, h)
  append_facts (p ∷ ps) qs h = let (x, y) = append_facts ps qs h.1 in ((h.0, x), y)
