-- Variables of clauses that are below a number.
use Rattle.std.proofs.Common.{◌≡◌, ℕ, ◌+◌, ◌<◌, ◌≤◌, inl, inr, refl, sym, ◌∙◌, List, [], ◌∷◌, ◌++◌, Some, None, Option, length, length-append, map, ap, subst, arith, slice_get, slice_index_or, All, Contains}
use Rattle.std.proofs.lemmas.List.Elements.{All-contains, Contains-append_cases}
use Rattle.std.proofs.lemmas.Option.{slice_get_within}
use Rattle.form_terms.proofs.Listed.{in_map}
use Rattle.form_terms.proofs.Lists.{Contains-cons_cases, Contains-none}
use Rattle.ground_gates.specs.declared.gate.Literal.{Literal}
use Rattle.ground_gates.specs.declared.names.Owner.{Owner}
use Rattle.ground_gates.specs.Clauses.{AreFactsBelow, HasVarsBelow, HaveVarsBelow, IsVarBelow}
use Rattle.ground_gates.specs.Literals.{is_false, is_none, is_true}
use Rattle.ground_gates.specs.Names.{Grows, IsNamed, NamesView, end_of}
use Rattle.ground_gates.specs.declared.board.Board.{Board}
use Rattle.ground_gates.specs.declared.gate.Gate.{Gate as AnyGate}
use Rattle.ground_gates.specs.Said.{AreInputsPlaced, IsPlacedFor}

pub vars_one : (n : ℕ) (l : Literal) → l.var < n → HasVarsBelow n (l ∷ [])
vars_one n l lt other c =
    elim (Contains-cons_cases l [] other c) [
      | inl same ↦ let P : Literal → Type 0 = λ l. l.var < n in subst P same lt
      | inr none ↦ Contains-none other none
    ]

pub vars_both : (n : ℕ) (xs ys : List Literal) → HasVarsBelow n xs → HasVarsBelow n ys → HasVarsBelow n (xs ++ ys)
vars_both n xs ys p q l c = elim (Contains-append_cases xs ys l c) [ inl x ↦ p l x | inr y ↦ q l y ]

pub vars_later : (n m : ℕ) (xs : List Literal) → n ≤ m → HasVarsBelow n xs → HasVarsBelow m xs
vars_later n m xs le h l c = omega (arith, le, h l c)

pub vars_none : (n : ℕ) (whole : Option ℕ) → IsVarBelow n whole → HasVarsBelow n (is_none whole)
vars_none n None h l c = Contains-none l c
vars_none n (Some x) h l c = vars_one n (is_false x) h l c

pub vars_false : (n : ℕ) (xs : List ℕ) → All (λ x. x < n) xs → HasVarsBelow n (map is_false xs)
vars_false n xs all l c =
    let (x, x-in, is) = in_map is_false xs l c in
    let P : Literal → Type 0 = λ l. l.var < n in
    subst P is (All-contains (λ x. x < n) xs x all x-in)

pub clauses_one : (n : ℕ) (clause : List Literal) → HasVarsBelow n clause → HaveVarsBelow n (clause ∷ [])
clauses_one n clause h other c =
    elim (Contains-cons_cases clause [] other c) [
      | inl same ↦ let P : List Literal → Type 0 = λ ls. HasVarsBelow n ls in subst P same h
      | inr none ↦ Contains-none other none
    ]

pub clauses_both : (n : ℕ) (xs ys : List (List Literal)) → HaveVarsBelow n xs → HaveVarsBelow n ys → HaveVarsBelow n (xs ++ ys)
clauses_both n xs ys p q clause c = elim (Contains-append_cases xs ys clause c) [ inl x ↦ p clause x | inr y ↦ q clause y ]

pub clauses_later : (n m : ℕ) (xs : List (List Literal)) → n ≤ m → HaveVarsBelow n xs → HaveVarsBelow m xs
clauses_later n m xs le h clause c = vars_later n m clause le (h clause c)

-- a clause for each of some variables
pub clauses_each : (n : ℕ) (front : List Literal) (xs : List ℕ) → HasVarsBelow n front → All (λ x. x < n) xs → HaveVarsBelow n (map (λ x. front ++ is_true x ∷ []) xs)
clauses_each n front xs h all clause c =
    let (x, x-in, is) = in_map (λ x. front ++ is_true x ∷ []) xs clause c in
    let P : List Literal → Type 0 = λ ls. HasVarsBelow n ls in
    subst P is (vars_both n front (is_true x ∷ []) h (vars_one n (is_true x) (All-contains (λ x. x < n) xs x all x-in)))

pub facts_later : (n m : ℕ) (xs : List ℕ) → n ≤ m → All (λ x. x < n) xs → All (λ x. x < m) xs
facts_later n m xs le all k d lt = omega (arith, le, all k d lt)

pub var_later : (n m : ℕ) (whole : Option ℕ) → n ≤ m → IsVarBelow n whole → IsVarBelow m whole
var_later n m None le h = tt
var_later n m (Some x) le h = omega (arith, le, h)

-- the end behind the variables
pub end_rises : (j : ℕ) (old new : NamesView) → Grows j old new → end_of old ≤ end_of new
end_rises j old new h = omega (arith, h.base, ap length h.whole, length-append old.owners h.more)

pub named_below : (names : NamesView) (o : Owner) (x : ℕ) → IsNamed names o x → x < end_of names
named_below names o x (n, is, at) = omega (arith, is, slice_get_within names.owners n o at)

-- clauses are put at the end, while variables were added
pub clauses_more : (old more whole : List (List Literal)) (n m : ℕ) → whole ≡ old ++ more → n ≤ m → HaveVarsBelow m more → HaveVarsBelow n old → HaveVarsBelow m whole
clauses_more old more whole n m e le h before =
    let P : List (List Literal) → Type 0 = λ cs. HaveVarsBelow m cs in
    subst P (sym e) (clauses_both m old more (clauses_later n m old le before) h)

-- the clauses are the same, while variables were added
pub clauses_same : (n m : ℕ) (old new : List (List Literal)) → new ≡ old → n ≤ m → HaveVarsBelow n old → HaveVarsBelow m new
clauses_same n m old new e le h = let P : List (List Literal) → Type 0 = λ cs. HaveVarsBelow m cs in subst P (sym e) (clauses_later n m old le h)

-- places and variables of inputs, while variables were added
pub inputs_later : (inputs : List (List ℕ)) (j : ℕ) (old new : Board) → Grows j old.names new.names → AreInputsPlaced inputs old → AreInputsPlaced inputs new
inputs_later inputs j old new grows h =
    let P : ℕ → Type 0 = λ base. AreFactsBelow base inputs in
    record { places = grows.input_places ∙ h.places; facts = subst P (sym grows.base) h.facts }

pub placed_later : (gates : List AnyGate) (inputs : List (List ℕ)) (j below : ℕ) (old new : Board) → Grows j old.names new.names → IsPlacedFor gates inputs below old → IsPlacedFor gates inputs below new
placed_later gates inputs j below old new grows h = record { few = h.few; places = grows.places ∙ h.places; inputs_placed = inputs_later inputs j old new grows h.inputs_placed }

-- the variables of an input are below the end
pub facts_at : (inputs : List (List ℕ)) (board : Board) (k : ℕ) → AreInputsPlaced inputs board → All (λ x. x < end_of board.names) (slice_index_or inputs k [])
facts_at inputs board k h = facts_later board.names.base (end_of board.names) (slice_index_or inputs k []) (omega arith) (h.facts k)
