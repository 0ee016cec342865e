-- Normal forms from those of the parts.
use Rattle.std.proofs.Common.{◌≡◌, ℕ, ◌+◌, suc, ◌<◌, ◌≤◌, ◌⊎◌, zero, length-append, Bool, true, false, not, refl, sym, ◌∙◌, List, [], ◌∷◌, ◌++◌, Some, length, take, drop, get_or, append_assoc, ap, subst, arith, rules}
use Rattle.std.specs.Prelude.{slice_get}
use Rattle.std.specs.Option.{option_map}
use Rattle.std.proofs.lemmas.List.{take-append-drop}
use Rattle.std.proofs.lemmas.Option.{same_Some, slice_get-get_or}
use Rattle.form_formula.specs.declared.node.Node.{Node}
use Rattle.form_formula.specs.declared.node.Node.TheVariants.{Bound, Num, Str, App, Yes, No, Eq, Less, Has, Flag, Present, Not, And, Or, Exists, Forall}
use Rattle.form_formula.specs.declared.marks.Wanted.{Wanted}
use Rattle.form_formula.specs.declared.normal_form.Forms.{Forms}
use Rattle.form_formula.specs.Trees.{Formula, negation, exists, forall}
use Rattle.form_formula.specs.Nodes.{formula_part, is_term, kind_at, trees_of, tree_of, tree_from, formula_of, IsFormula, IsPlaced, ArePlaced, IsBelow}
use Rattle.form_formula.specs.Added.{Extends}
use Rattle.form_formula.specs.NormalForm.{signed_form, IsNormal}
use Rattle.form_formula.specs.Truth.{truth, IsEquallyTrue}
use Rattle.form_formula.proofs.NormalForms.{truth-signed_form, IsNormal-signed_form}
use Rattle.std.proofs.Math.Logic.{⊎_elim}
use Rattle.std.proofs.lemmas.List.{get_or_append_left}
use Rattle.form_formula.specs.Marks.{wanted_at, opposite, Covers, PassesOn, ArePassedOn}
use Rattle.form_formula.specs.Forms.{form_of, forms_at, is_wanted, HasForm, HasParts, AreFormsOf, AreForms, Step, old, new, step_of, IsTaken, CanTake}
use Rattle.form_formula.specs.Nodes.{StandsFor}
use Rattle.form_formula.proofs.Placement.{kind_front, kind_within, slice_get_front}
use Rattle.std.proofs.Math.Seq.{take-append_seam, get_or-append_seam}
use Rattle.form_formula.proofs.TreeLemmas.{tree_of-front, tree_of-at}

-- a longer list is the list and more
pub extends_more : (xs ys : List Node) → Extends xs ys → ys ≡ xs ++ drop (length xs) ys
extends_more xs ys e = sym (take-append-drop (length xs) ys) ∙ ap (λ zs. zs ++ drop (length xs) ys) e

pub extends_kind : (xs ys : List Node) (id : ℕ) (b : Bool) → Extends xs ys → kind_at xs id ≡ Some b → kind_at ys id ≡ Some b
extends_kind xs ys id b e h = ap (λ zs. kind_at zs id) (extends_more xs ys e) ∙ kind_front xs (drop (length xs) ys) id b h

pub extends_tree : (xs ys : List Node) (id : ℕ) → Extends xs ys → id < length xs → tree_of ys id ≡ tree_of xs id
extends_tree xs ys id e h = ap (λ zs. tree_of zs id) (extends_more xs ys e) ∙ tree_of-front xs (drop (length xs) ys) id h

pub extends_formula : (xs ys : List Node) (id : ℕ) → Extends xs ys → id < length xs → formula_of ys id ≡ formula_of xs id
extends_formula xs ys id e h = ap formula_part (extends_tree xs ys id e h)

pub stands_more : (xs ys : List Node) (id : ℕ) (f : Formula) → Extends xs ys → StandsFor xs id f → StandsFor ys id f
stands_more xs ys id f e h = (extends_kind xs ys id false e h.0, extends_formula xs ys id e (kind_within xs id false h.0) ∙ h.1)

form_more : (xs ys : List Node) (forms : List Forms) (sign : Bool) (id : ℕ) → Extends xs ys → IsFormula xs id → HasForm xs forms sign id → HasForm ys forms sign id
form_more xs ys forms sign id e within h =
    let later = stands_more xs ys (form_of sign (forms_at forms id)) (signed_form sign (formula_of xs id)) e h in
    (later.0, later.1 ∙ ap (λ f. signed_form sign f) (sym (extends_formula xs ys id e (kind_within xs id false within))))

pub parts_more : (xs ys : List Node) (forms : List Forms) (sign : Bool) (n : Node) → Extends xs ys → IsPlaced xs n → HasParts xs forms sign n → HasParts ys forms sign n
parts_more xs ys forms sign (Bound sort depth) e p h = tt
parts_more xs ys forms sign (Num n) e p h = tt
parts_more xs ys forms sign (Str t) e p h = tt
parts_more xs ys forms sign (App f t) e p h = tt
parts_more xs ys forms sign Yes e p h = tt
parts_more xs ys forms sign No e p h = tt
parts_more xs ys forms sign (Eq s t) e p h = tt
parts_more xs ys forms sign (Less s t) e p h = tt
parts_more xs ys forms sign (Has f s t) e p h = tt
parts_more xs ys forms sign (Flag f t) e p h = tt
parts_more xs ys forms sign (Present f t) e p h = tt
parts_more xs ys forms sign (Not a) e p h = form_more xs ys forms (not sign) a e p h
parts_more xs ys forms sign (And a b) e p h = (form_more xs ys forms sign a e p.0 h.0, form_more xs ys forms sign b e p.1 h.1)
parts_more xs ys forms sign (Or a b) e p h = (form_more xs ys forms sign a e p.0 h.0, form_more xs ys forms sign b e p.1 h.1)
parts_more xs ys forms sign (Exists sort a) e p h = form_more xs ys forms sign a e p h
parts_more xs ys forms sign (Forall sort a) e p h = form_more xs ys forms sign a e p h

-- a node is made of numbers that are there
formula_there : (nodes : List Node) (id : ℕ) (n : Node) → slice_get nodes id ≡ Some n → is_term n ≡ false → IsFormula nodes id
formula_there nodes id n e k = ap (λ o. option_map is_term o) e ∙ ap Some k

pub can_take : (nodes : List Node) (forms : List Forms) (id : ℕ) (sign : Bool) (n : Node) → slice_get nodes id ≡ Some n → HasParts nodes forms sign n → CanTake (step_of forms id sign n) nodes
can_take nodes forms id sign (Bound sort depth) e h = tt
can_take nodes forms id sign (Num n) e h = tt
can_take nodes forms id sign (Str t) e h = tt
can_take nodes forms id sign (App f t) e h = tt
can_take nodes forms id true Yes e h = tt
can_take nodes forms id false Yes e h = tt
can_take nodes forms id true No e h = tt
can_take nodes forms id false No e h = tt
can_take nodes forms id true (Eq s t) e h = tt
can_take nodes forms id false (Eq s t) e h = formula_there nodes id (Eq s t) e refl
can_take nodes forms id true (Less s t) e h = tt
can_take nodes forms id false (Less s t) e h = formula_there nodes id (Less s t) e refl
can_take nodes forms id true (Has f s t) e h = tt
can_take nodes forms id false (Has f s t) e h = formula_there nodes id (Has f s t) e refl
can_take nodes forms id true (Flag f t) e h = tt
can_take nodes forms id false (Flag f t) e h = formula_there nodes id (Flag f t) e refl
can_take nodes forms id true (Present f t) e h = tt
can_take nodes forms id false (Present f t) e h = formula_there nodes id (Present f t) e refl
can_take nodes forms id sign (Not a) e h = tt
can_take nodes forms id true (And a b) e h = (h.0.0, h.1.0)
can_take nodes forms id false (And a b) e h = (h.0.0, h.1.0)
can_take nodes forms id true (Or a b) e h = (h.0.0, h.1.0)
can_take nodes forms id false (Or a b) e h = (h.0.0, h.1.0)
can_take nodes forms id true (Exists sort a) e h = h.0
can_take nodes forms id false (Exists sort a) e h = h.0
can_take nodes forms id true (Forall sort a) e h = h.0
can_take nodes forms id false (Forall sort a) e h = h.0

pub taken_kept : (step : Step) (before after : List Node) (r : ℕ) → IsTaken step before after r → Extends before after × (length after ≤ length before + 1)
taken_kept (old id) before after r h = (ap (λ xs. take (length before) xs) h.0 ∙ take_all before, omega (arith, ap length h.0)) where
  take_all : (xs : List Node) → take (length xs) xs ≡ xs
  take_all [] = refl
  take_all (x ∷ xs) = ap (λ ys. x ∷ ys) (take_all xs)
taken_kept (new node) before after r h = (h.kept, h.one_more)

-- the formula that a taken step gives
abbrev formula_made : Step → List Node → Formula
formula_made (old id) nodes = formula_of nodes id
formula_made (new node) nodes = formula_part (tree_from (trees_of nodes) node)

-- its kind
abbrev KindMade : Step → List Node → Type 0
KindMade (old id) nodes = IsFormula nodes id
KindMade (new node) nodes = is_term node ≡ false

taken_stands : (step : Step) (before after : List Node) (r : ℕ) → KindMade step before → IsTaken step before after r → StandsFor after r (formula_made step before)
taken_stands (old id) before after r kind h =
    let P : List Node → Type 0 = λ xs. StandsFor xs r (formula_of before id) in
    let Q : ℕ → Type 0 = λ k. StandsFor before k (formula_of before id) in
    subst P (sym h.0) (subst Q (sym h.1) (kind, refl))
taken_stands (new node) before after r kind h = (formula_there after r node h.there kind, ap formula_part h.means)

-- the step makes a formula
kind_made : (nodes : List Node) (forms : List Forms) (id : ℕ) (sign : Bool) (n : Node) → slice_get nodes id ≡ Some n → IsFormula nodes id → HasParts nodes forms sign n → KindMade (step_of forms id sign n) nodes
kind_made nodes forms id sign (Bound sort depth) e k h = k
kind_made nodes forms id sign (Num n) e k h = k
kind_made nodes forms id sign (Str t) e k h = k
kind_made nodes forms id sign (App f t) e k h = k
kind_made nodes forms id true Yes e k h = k
kind_made nodes forms id false Yes e k h = refl
kind_made nodes forms id true No e k h = k
kind_made nodes forms id false No e k h = refl
kind_made nodes forms id true (Eq s t) e k h = k
kind_made nodes forms id false (Eq s t) e k h = refl
kind_made nodes forms id true (Less s t) e k h = k
kind_made nodes forms id false (Less s t) e k h = refl
kind_made nodes forms id true (Has f s t) e k h = k
kind_made nodes forms id false (Has f s t) e k h = refl
kind_made nodes forms id true (Flag f t) e k h = k
kind_made nodes forms id false (Flag f t) e k h = refl
kind_made nodes forms id true (Present f t) e k h = k
kind_made nodes forms id false (Present f t) e k h = refl
kind_made nodes forms id sign (Not a) e k h = h.0
kind_made nodes forms id true (And a b) e k h = refl
kind_made nodes forms id false (And a b) e k h = refl
kind_made nodes forms id true (Or a b) e k h = refl
kind_made nodes forms id false (Or a b) e k h = refl
kind_made nodes forms id true (Exists sort a) e k h = refl
kind_made nodes forms id false (Exists sort a) e k h = refl
kind_made nodes forms id true (Forall sort a) e k h = refl
kind_made nodes forms id false (Forall sort a) e k h = refl

not_a_term : (nodes : List Node) (id : ℕ) (n : Node) → slice_get nodes id ≡ Some n → IsFormula nodes id → is_term n ≡ false
not_a_term nodes id n e k = same_Some (is_term n) false (sym (ap (λ o. option_map is_term o) e) ∙ k)

-- the formula that the step makes is the normal form
form_made : (nodes : List Node) (forms : List Forms) (id : ℕ) (sign : Bool) (n : Node) → ArePlaced nodes → slice_get nodes id ≡ Some n → is_term n ≡ false
    → HasParts nodes forms sign n → formula_made (step_of forms id sign n) nodes ≡ signed_form sign (formula_part (tree_from (trees_of nodes) n))
form_made nodes forms id sign (Bound sort depth) all e k h = cc
form_made nodes forms id sign (Num n) all e k h = cc
form_made nodes forms id sign (Str t) all e k h = cc
form_made nodes forms id sign (App f t) all e k h = cc
form_made nodes forms id true Yes all e k h = ap formula_part (tree_of-at nodes id Yes all e)
form_made nodes forms id false Yes all e k h = refl
form_made nodes forms id true No all e k h = ap formula_part (tree_of-at nodes id No all e)
form_made nodes forms id false No all e k h = refl
form_made nodes forms id true (Eq s t) all e k h = ap formula_part (tree_of-at nodes id (Eq s t) all e)
form_made nodes forms id false (Eq s t) all e k h = ap (λ f. negation f) (ap formula_part (tree_of-at nodes id (Eq s t) all e))
form_made nodes forms id true (Less s t) all e k h = ap formula_part (tree_of-at nodes id (Less s t) all e)
form_made nodes forms id false (Less s t) all e k h = ap (λ f. negation f) (ap formula_part (tree_of-at nodes id (Less s t) all e))
form_made nodes forms id true (Has f s t) all e k h = ap formula_part (tree_of-at nodes id (Has f s t) all e)
form_made nodes forms id false (Has f s t) all e k h = ap (λ f. negation f) (ap formula_part (tree_of-at nodes id (Has f s t) all e))
form_made nodes forms id true (Flag f t) all e k h = ap formula_part (tree_of-at nodes id (Flag f t) all e)
form_made nodes forms id false (Flag f t) all e k h = ap (λ f. negation f) (ap formula_part (tree_of-at nodes id (Flag f t) all e))
form_made nodes forms id true (Present f t) all e k h = ap formula_part (tree_of-at nodes id (Present f t) all e)
form_made nodes forms id false (Present f t) all e k h = ap (λ f. negation f) (ap formula_part (tree_of-at nodes id (Present f t) all e))
form_made nodes forms id true (Not a) all e k h = h.1
form_made nodes forms id false (Not a) all e k h = h.1
form_made nodes forms id true (And a b) all e k h = let p = h.0.1 in let q = h.1.1 in cc
form_made nodes forms id false (And a b) all e k h = let p = h.0.1 in let q = h.1.1 in cc
form_made nodes forms id true (Or a b) all e k h = let p = h.0.1 in let q = h.1.1 in cc
form_made nodes forms id false (Or a b) all e k h = let p = h.0.1 in let q = h.1.1 in cc
form_made nodes forms id true (Exists sort a) all e k h = ap (λ f. exists sort f) h.1
form_made nodes forms id false (Exists sort a) all e k h = ap (λ f. forall sort f) h.1
form_made nodes forms id true (Forall sort a) all e k h = ap (λ f. forall sort f) h.1
form_made nodes forms id false (Forall sort a) all e k h = ap (λ f. exists sort f) h.1

-- a step that was taken gives the normal form
pub step_means : (nodes after : List Node) (forms : List Forms) (id : ℕ) (sign : Bool) (n : Node) (r : ℕ) → ArePlaced nodes → slice_get nodes id ≡ Some n → IsFormula nodes id
    → HasParts nodes forms sign n → IsTaken (step_of forms id sign n) nodes after r → StandsFor after r (signed_form sign (formula_of nodes id))
step_means nodes after forms id sign n r all e k h t =
    let stands = taken_stands (step_of forms id sign n) nodes after r (kind_made nodes forms id sign n e k h) t in
    (stands.0, stands.1 ∙ (form_made nodes forms id sign n all e (not_a_term nodes id n e k) h ∙ ap (λ f. signed_form sign f) (sym (ap formula_part (tree_of-at nodes id n all e)))))

-- what a step that can be taken gives, where it is wanted
pub step_result : (nodes after : List Node) (forms : List Forms) (id : ℕ) (sign : Bool) (n : Node) (r : ℕ) → ArePlaced nodes → slice_get nodes id ≡ Some n
    → HasParts nodes forms sign n → IsTaken (step_of forms id sign n) nodes after r → IsFormula nodes id → StandsFor after r (signed_form sign (formula_of nodes id))
step_result nodes after forms id sign n r all e h t k = step_means nodes after forms id sign n r all e k h t

pub extends_get : (xs ys : List Node) (id : ℕ) (n : Node) → Extends xs ys → slice_get xs id ≡ Some n → slice_get ys id ≡ Some n
extends_get xs ys id n e h = ap (λ zs. slice_get zs id) (extends_more xs ys e) ∙ slice_get_front xs (drop (length xs) ys) id n h

pub extends_trans : (xs ys zs : List Node) → Extends xs ys → Extends ys zs → Extends xs zs
extends_trans xs ys zs h k =
    let later : List Node = drop (length xs) ys in
    let last : List Node = drop (length ys) zs in
    let whole : zs ≡ xs ++ (later ++ last) = extends_more ys zs k ∙ (ap (λ ws. ws ++ last) (extends_more xs ys h) ∙ append_assoc xs later last) in
    ap (λ ws. take (length xs) ws) whole ∙ take-append_seam xs (later ++ last)

-- the forms of a formula, made one after the other
pub forms_of_two : (before middle after : List Node) (id : ℕ) (wanted : Wanted) (forms : Forms) → Extends before middle → Extends middle after
    → (wanted.positive ≡ true → IsFormula before id → StandsFor middle forms.positive (signed_form true (formula_of before id)))
    → (wanted.negative ≡ true → IsFormula middle id → StandsFor after forms.negative (signed_form false (formula_of middle id)))
    → IsFormula before id → AreFormsOf after wanted id forms
forms_of_two before middle after id wanted forms h k p q there true e =
    let stands = stands_more middle after forms.positive (signed_form true (formula_of before id)) k (p e there) in
    let same : formula_of after id ≡ formula_of before id = extends_formula before after id (extends_trans before middle after h k) (kind_within before id false there) in
    (stands.0, stands.1 ∙ ap (λ f. signed_form true f) (sym same))
forms_of_two before middle after id wanted forms h k p q there false e =
    let later : IsFormula middle id = extends_kind before middle id false h there in
    let stands = q e later in
    let same : formula_of after id ≡ formula_of middle id = extends_formula middle after id k (kind_within middle id false later) in
    (stands.0, stands.1 ∙ ap (λ f. signed_form false f) (sym same))

covered : (sign : Bool) (w asked : Wanted) → Covers w asked → is_wanted sign asked ≡ true → is_wanted sign w ≡ true
covered true w asked h e = h.0 e
covered false w asked h e = h.1 e

turned : (sign : Bool) (w : Wanted) → is_wanted sign w ≡ true → is_wanted (not sign) (opposite w) ≡ true
turned true w e = e
turned false w e = e

-- where what is wanted is passed on to earlier nodes, the parts of a node have their forms
pub parts_there : (nodes : List Node) (marks : List Wanted) (forms : List Forms) (n : Node) (w : Wanted) (sign : Bool) → AreForms nodes marks forms → PassesOn marks n w
    → IsPlaced nodes n → IsBelow (length forms) n → is_wanted sign w ≡ true → HasParts nodes forms sign n
parts_there nodes marks forms (Bound sort depth) w sign all h p b e = tt
parts_there nodes marks forms (Num n) w sign all h p b e = tt
parts_there nodes marks forms (Str t) w sign all h p b e = tt
parts_there nodes marks forms (App f t) w sign all h p b e = tt
parts_there nodes marks forms Yes w sign all h p b e = tt
parts_there nodes marks forms No w sign all h p b e = tt
parts_there nodes marks forms (Eq s t) w sign all h p b e = tt
parts_there nodes marks forms (Less s t) w sign all h p b e = tt
parts_there nodes marks forms (Has f s t) w sign all h p b e = tt
parts_there nodes marks forms (Flag f t) w sign all h p b e = tt
parts_there nodes marks forms (Present f t) w sign all h p b e = tt
parts_there nodes marks forms (Not a) w sign all h p b e = all a b p (not sign) (covered (not sign) (wanted_at marks a) (opposite w) h (turned sign w e))
parts_there nodes marks forms (And a c) w sign all h p b e =
    (all a b.0 p.0 sign (covered sign (wanted_at marks a) w h.0 e), all c b.1 p.1 sign (covered sign (wanted_at marks c) w h.1 e))
parts_there nodes marks forms (Or a c) w sign all h p b e =
    (all a b.0 p.0 sign (covered sign (wanted_at marks a) w h.0 e), all c b.1 p.1 sign (covered sign (wanted_at marks c) w h.1 e))
parts_there nodes marks forms (Exists sort a) w sign all h p b e = all a b p sign (covered sign (wanted_at marks a) w h e)
parts_there nodes marks forms (Forall sort a) w sign all h p b e = all a b p sign (covered sign (wanted_at marks a) w h e)

-- forms stay where nodes are added
forms_of_more : (xs ys : List Node) (wanted : Wanted) (id : ℕ) (forms : Forms) → Extends xs ys → id < length xs → AreFormsOf xs wanted id forms → AreFormsOf ys wanted id forms
forms_of_more xs ys wanted id forms e within h sign w =
    let later = stands_more xs ys (form_of sign forms) (signed_form sign (formula_of xs id)) e (h sign w) in
    (later.0, later.1 ∙ ap (λ f. signed_form sign f) (sym (extends_formula xs ys id e within)))

-- a number of old nodes that is a formula's was one
was_formula : (xs ys : List Node) (id : ℕ) → Extends xs ys → id < length xs → IsFormula ys id → IsFormula xs id
was_formula xs ys id e within h = kind_before xs (drop (length xs) ys) id within (ap (λ zs. kind_at zs id) (sym (extends_more xs ys e)) ∙ h) where
  kind_before : (xs zs : List Node) (id : ℕ) → id < length xs → kind_at (xs ++ zs) id ≡ Some false → kind_at xs id ≡ Some false
  kind_before [] zs id lt k = absurd (omega arith)
  kind_before (x ∷ xs) zs zero lt k = k
  kind_before (x ∷ xs) zs (suc id) lt k = kind_before xs zs id (omega arith) k

pub forms_push : (xs ys : List Node) (marks : List Wanted) (forms : List Forms) (next : Forms) → Extends xs ys → length forms < length xs → AreForms xs marks forms
    → (IsFormula xs (length forms) → AreFormsOf ys (wanted_at marks (length forms)) (length forms) next) → AreForms ys marks (forms ++ next ∷ [])
forms_push xs ys marks forms next e within all last id lt k =
    ⊎_elim
    (λ (early : id < length forms).
    let P : Forms → Type 0 = λ f. AreFormsOf ys (wanted_at marks id) id f in
    let d : Forms = record { positive = 0; negative = 0 } in
    let inside : id < length xs = omega arith in
    subst P (sym (get_or_append_left forms (next ∷ []) d id early)) (forms_of_more xs ys (wanted_at marks id) id (forms_at forms id) e inside
    (all id early (was_formula xs ys id e inside k))))
    (λ (late : id ≡ length forms).
    let d : Forms = record { positive = 0; negative = 0 } in
    let P : ℕ → Type 0 = λ i. AreFormsOf ys (wanted_at marks i) i (forms_at (forms ++ next ∷ []) i) in
    let Q : Forms → Type 0 = λ f. AreFormsOf ys (wanted_at marks (length forms)) (length forms) f in
    let K : ℕ → Type 0 = λ i. IsFormula xs i in
    let inside : id < length xs = omega arith in
    subst P (sym late) (subst Q (sym (get_or-append_seam forms next [] d)) (last (subst K late (was_formula xs ys id e inside k)))))
    (where_is id (length forms) (omega (arith, length-append forms (next ∷ []))))
  where
    where_is : (i n : ℕ) → i < n + 1 → (i < n) ⊎ (i ≡ n)
    where_is i n h = search (rules, arith)

-- the normal form of the last of the nodes
pub last_form : (before after : List Node) (marks : List Wanted) (forms : List Forms) (id : ℕ) → Extends before after → AreForms after marks forms → id < length forms
    → (wanted_at marks id).positive ≡ true → IsFormula before id → StandsFor after (forms_at forms id).positive (signed_form true (formula_of before id))
last_form before after marks forms id e all within wanted k =
    let form = all id within (extends_kind before after id false e k) true wanted in
    (form.0, form.1 ∙ ap (λ f. signed_form true f) (extends_formula before after id e (kind_within before id false k)))

-- a formula that stands for a normal form is normal, and true on the same structures
pub form_is_normal : (nodes : List Node) (id : ℕ) (f : Formula) → StandsFor nodes id (signed_form true f) → IsNormal (formula_of nodes id)
form_is_normal nodes id f h = let P : Formula → Type 0 = λ g. IsNormal g in subst P (sym h.1) (IsNormal-signed_form true f)

pub form_is_true : (nodes : List Node) (id : ℕ) (f : Formula) → StandsFor nodes id (signed_form true f) → IsEquallyTrue (formula_of nodes id) f
form_is_true nodes id f h s env = ap (λ g. truth s env g) h.1 ∙ truth-signed_form s true env f

-- what is passed on among old nodes is so among more
pub passed_on_more : (xs ys : List Node) (marks : List Wanted) → Extends xs ys → length marks ≤ length xs → ArePassedOn xs marks 0 → ArePassedOn ys marks 0
passed_on_more xs ys marks e within all k n from lt there =
    let old : Node = get_or xs k Yes in
    let first : slice_get xs k ≡ Some old = slice_get-get_or xs k Yes (omega arith) in
    let same : old ≡ n = same_Some old n (sym (extends_get xs ys k old e first) ∙ there) in
    let P : Node → Type 0 = λ m. PassesOn marks m (wanted_at marks k) in
    subst P same (all k old from lt first)

-- more nodes are no fewer
pub longer : (xs ys : List Node) → Extends xs ys → length xs ≤ length ys
longer xs ys e = omega (arith, ap length (extends_more xs ys e), length-append xs (drop (length xs) ys))
