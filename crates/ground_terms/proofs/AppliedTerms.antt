-- Functions and Skolem variables at terms, by their numbers.
use Rattle.std.proofs.Common.{◌≡◌, ℕ, ◌+◌, ◌<◌, refl, sym, ◌∙◌, List, [], ◌∷◌, ◌++◌, length, get_or, take, drop, ap, subst, append_assoc, append-nil, map, add-one}
use Rattle.std.specs.List.{flat_map}
use Rattle.std.proofs.Math.Seq.{drop-cons}
use Rattle.form_formula.specs.declared.structure.Signature.{Signature}
use Rattle.form_terms.specs.GroundTerms.{GroundTerm, GroundTerms, skolem, term_and}
use Rattle.form_terms.specs.Listing.{with_each}
use Rattle.ground_terms.specs.declared.node.TermNode.{TermNode}
use Rattle.ground_terms.specs.Nodes.{term_of}
use Rattle.ground_terms.specs.declared.part.Part.{Part}
use Rattle.ground_terms.specs.Applying.{of_sort_in, fields_of, choices, skolems_above, code_skolems}
use Rattle.ground_terms.specs.Standing.{terms_at, lists_at, AreOnes, AreLists, AreListed, AreListsListed}
use Rattle.ground_terms.proofs.Standing.{extends_none, extends_both, one_at, term_kept, terms_kept, list_terms_kept, map_next, flat_next, listed_more, listed_after, lists_more, part_listed}

pub flat-append : {A B : Type 0} (h : A → List B) (xs ys : List A) → flat_map h (xs ++ ys) ≡ flat_map h xs ++ flat_map h ys
flat-append h [] ys = refl
flat-append h (x ∷ xs) ys = ap (λ zs. h x ++ zs) (flat-append h xs ys) ∙ sym (append_assoc (h x) (flat_map h xs) (flat_map h ys))

-- one more term before each of the lists
pub each_listed : (firsts rests : List ℕ) (i : ℕ) (a b d : List TermNode) (p q r : List ℕ) → AreOnes a firsts → AreLists a rests → i < length firsts
    → AreListsListed (with_each (terms_at a (take i firsts)) (lists_at a rests)) a b p q
    → AreListsListed (map (term_and (term_of b (get_or firsts i 0))) (lists_at b rests)) b d q r
    → AreListsListed (with_each (terms_at a (take (i + 1) firsts)) (lists_at a rests)) a d p r
each_listed firsts rests i a b d p q r ones all lt x y =
    let first : ℕ = get_or firsts i 0 in
    let h : GroundTerm → List GroundTerms = λ t. map (term_and t) (lists_at a rests) in
    let P : GroundTerm → Type 0 = λ t. AreListsListed (map (term_and t) (lists_at b rests)) b d q r in
    let Q : List GroundTerms → Type 0 = λ ls. AreListsListed (map (term_and (term_of a first)) ls) b d q r in
    let more : with_each (terms_at a (take (i + 1) firsts)) (lists_at a rests) ≡ with_each (terms_at a (take i firsts)) (lists_at a rests) ++ h (term_of a first) =
    ap (λ ts. flat_map h ts) (map_next (term_of a) firsts i 0 lt)
    ∙ (flat-append h (terms_at a (take i firsts)) (term_of a first ∷ []) ∙ ap (λ ls. flat_map h (terms_at a (take i firsts)) ++ ls) (append-nil (h (term_of a first)))) in
    lists_more (with_each (terms_at a (take i firsts)) (lists_at a rests)) (h (term_of a first)) (with_each (terms_at a (take (i + 1) firsts)) (lists_at a rests)) a b d p q r x
    (subst Q (list_terms_kept a b rests x.kept all) (subst P (term_kept a b first x.kept (one_at a firsts i 0 ones lt)) y)) more

-- choices for one more sort
pub choice_listed : (g : Signature) (current : List ℕ) (sorts : List ℕ) (left less : ℕ) (a b d : List TermNode) (lists next : List ℕ) → AreOnes a current → less + 1 ≡ left → less < length sorts
    → AreListsListed (choices g (terms_at a current) (drop left sorts)) a b [] lists
    → AreListsListed (with_each (of_sort_in g (terms_at b current) (get_or sorts less 0)) (lists_at b lists)) b d [] next
    → AreListsListed (choices g (terms_at a current) (drop less sorts)) a d [] next
choice_listed g current sorts left less a b d lists next ones e lt x y =
    let sort : ℕ = get_or sorts less 0 in
    let ts : List GroundTerm = terms_at a current in
    let P : List GroundTerm → Type 0 = λ ts. AreListsListed (with_each (of_sort_in g ts sort) (lists_at b lists)) b d [] next in
    let Q : List GroundTerms → Type 0 = λ ls. AreListsListed (with_each (of_sort_in g ts sort) ls) b d [] next in
    let R : List GroundTerms → Type 0 = λ ls. AreListsListed ls b d [] next in
    let are : lists_at b lists ≡ choices g ts (drop left sorts) = ap (λ ids. lists_at b ids) x.whole ∙ x.stand.are in
    let more : choices g ts (drop less sorts) ≡ with_each (of_sort_in g ts sort) (choices g ts (drop left sorts)) =
    ap (λ ss. choices g ts ss) (drop-cons sorts less 0 lt) ∙ ap (λ n. with_each (of_sort_in g ts sort) (choices g ts (drop n sorts))) (sym (add-one less) ∙ e) in
    let now : AreListsListed (choices g ts (drop less sorts)) b d [] next = subst R (sym more) (subst Q are (subst P (terms_kept a b current x.kept ones) y)) in
    record { kept = extends_both a b d x.kept now.kept; ids = now.ids; stand = now.stand; whole = now.whole }

-- a Skolem variable at all choices
pub skolems_listed : (g : Signature) (ts : List GroundTerm) (number sort : ℕ) (above : List ℕ) (a b d : List TermNode) (arguments p q : List ℕ) → (above ≡ [] → ⊥)
    → AreListsListed (choices g ts above) a b [] arguments → AreListed (map (skolem number sort) (lists_at b arguments)) b d p q → AreListed (skolems_above g ts number sort above) a d p q
skolems_listed g ts number sort [] a b d arguments p q some x y = absurd (some refl)
skolems_listed g ts number sort (s ∷ above) a b d arguments p q some x y =
    let P : List GroundTerms → Type 0 = λ ls. AreListed (map (skolem number sort) ls) b d p q in
    let are : lists_at b arguments ≡ choices g ts (s ∷ above) = ap (λ ids. lists_at b ids) x.whole ∙ x.stand.are in
    listed_after (skolems_above g ts number sort (s ∷ above)) a b d p q x.kept (subst P are y)

-- one more function at all terms
pub function_listed : (g : Signature) (current functions : List ℕ) (i : ℕ) (a b d : List TermNode) (p q r : List ℕ) → AreOnes a current → i < length functions
    → AreListed (flat_map (fields_of g (terms_at a current)) (take i functions)) a b p q → AreListed (fields_of g (terms_at b current) (get_or functions i 0)) b d q r
    → AreListed (flat_map (fields_of g (terms_at a current)) (take (i + 1) functions)) a d p r
function_listed g current functions i a b d p q r ones lt x y =
    let P : List GroundTerm → Type 0 = λ ts. AreListed (fields_of g ts (get_or functions i 0)) b d q r in
    listed_more (flat_map (fields_of g (terms_at a current)) (take i functions)) (fields_of g (terms_at a current) (get_or functions i 0))
    (flat_map (fields_of g (terms_at a current)) (take (i + 1) functions)) a b d p q r x (subst P (terms_kept a b current x.kept ones) y)
    (flat_next (fields_of g (terms_at a current)) functions i 0 lt)

-- one more part
pub skolem_part_listed : (g : Signature) (current : List ℕ) (parts : List Part) (i : ℕ) (part : Part) (a b d : List TermNode) (p q r : List ℕ) → AreOnes a current → i < length parts → part ≡ get_or parts i part
    → AreListed (flat_map (code_skolems g (terms_at a current)) (take i parts)) a b p q → AreListed (code_skolems g (terms_at b current) part) b d q r
    → AreListed (flat_map (code_skolems g (terms_at a current)) (take (i + 1) parts)) a d p r
skolem_part_listed g current parts i part a b d p q r ones lt e x y =
    let P : List GroundTerm → Type 0 = λ ts. AreListed (code_skolems g ts part) b d q r in
    part_listed (code_skolems g (terms_at a current)) parts i part a b d p q r lt e x (subst P (terms_kept a b current x.kept ones) y)

-- a whole round
pub round_listed : (g : Signature) (plain current functions : List ℕ) (parts : List Part) (a b d : List TermNode) (start mid next : List ℕ) → AreOnes a plain → AreOnes a current → start ≡ plain
    → AreListed (flat_map (fields_of g (terms_at a current)) functions) a b start mid → AreListed (flat_map (code_skolems g (terms_at b current)) parts) b d mid next
    → AreListed (terms_at a plain ++ (flat_map (fields_of g (terms_at a current)) functions ++ flat_map (code_skolems g (terms_at a current)) parts)) a d [] next
round_listed g plain current functions parts a b d start mid next own ones e x y =
    let P : List GroundTerm → Type 0 = λ ts. AreListed (flat_map (code_skolems g ts) parts) b d mid next in
    let S : List ℕ → Type 0 = λ start. AreListed (terms_at a plain) a a [] start in
    let F : List GroundTerm = flat_map (fields_of g (terms_at a current)) functions in
    let K : List GroundTerm = flat_map (code_skolems g (terms_at a current)) parts in
    let later : AreListed (F ++ K) a d start next = listed_more F K (F ++ K) a b d start mid next x (subst P (terms_kept a b current x.kept ones) y) refl in
    listed_more (terms_at a plain) (F ++ K) (terms_at a plain ++ (F ++ K)) a a d [] start next
    (subst S (sym e) (record { kept = extends_none a; ids = plain; stand = record { ones = own; are = refl }; whole = refl })) later refl
