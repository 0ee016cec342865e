-- Numbers of normal forms.
use Rattle.std.specs.Prelude.{◌≡◌, ℕ, ◌<◌, Bool, true, false, not, List, length, slice_index_or}
use Rattle.form_formula.specs.declared.node.Node.{Node}
use Rattle.form_formula.specs.declared.node.Node.TheVariants.{Bound, Num, Str, App, Yes, No, Eq, Less, Has, Flag, Present, Not, And, Or, Exists, Forall}
use Rattle.form_formula.specs.declared.marks.Wanted.{Wanted}
use Rattle.form_formula.specs.declared.normal_form.Forms.{Forms}
use Rattle.form_formula.specs.Nodes.{IsFormula, IsPlaced, formula_of, StandsFor}
use Rattle.form_formula.specs.Added.{IsAdded}
use Rattle.form_formula.specs.NormalForm.{signed_form}
use Rattle.form_formula.specs.Marks.{wanted_at}

-- the numbers of a formula's normal forms
abbrev pub forms_at : List Forms → ℕ → Forms
forms_at forms id = slice_index_or forms id (record { positive = 0; negative = 0 })

-- the number of the normal form of the formula (true), of its negation (false)
abbrev pub form_of : Bool → Forms → ℕ
form_of true forms = forms.positive
form_of false forms = forms.negative

-- whether that one is wanted
abbrev pub is_wanted : Bool → Wanted → Bool
is_wanted true wanted = wanted.positive
is_wanted false wanted = wanted.negative

-- the normal form of the formula, of its negation, has this number
abbrev pub HasForm : List Node → List Forms → Bool → ℕ → Type 0
HasForm nodes forms sign id = StandsFor nodes (form_of sign (forms_at forms id)) (signed_form sign (formula_of nodes id))

-- what the normal form of the node, of its negation, is made of has its number
abbrev pub HasParts : List Node → List Forms → Bool → Node → Type 0
HasParts nodes forms sign (Bound sort depth) = Unit {0}
HasParts nodes forms sign (Num n) = Unit {0}
HasParts nodes forms sign (Str t) = Unit {0}
HasParts nodes forms sign (App f t) = Unit {0}
HasParts nodes forms sign Yes = Unit {0}
HasParts nodes forms sign No = Unit {0}
HasParts nodes forms sign (Eq s t) = Unit {0}
HasParts nodes forms sign (Less s t) = Unit {0}
HasParts nodes forms sign (Has f s t) = Unit {0}
HasParts nodes forms sign (Flag f t) = Unit {0}
HasParts nodes forms sign (Present f t) = Unit {0}
HasParts nodes forms sign (Not a) = HasForm nodes forms (not sign) a
HasParts nodes forms sign (And a b) = HasForm nodes forms sign a × HasForm nodes forms sign b
HasParts nodes forms sign (Or a b) = HasForm nodes forms sign a × HasForm nodes forms sign b
HasParts nodes forms sign (Exists sort a) = HasForm nodes forms sign a
HasParts nodes forms sign (Forall sort a) = HasForm nodes forms sign a

-- of a formula, these are the numbers of the normal forms that are wanted
abbrev pub AreFormsOf : List Node → Wanted → ℕ → Forms → Type 0
AreFormsOf nodes wanted id forms = (sign : Bool) → is_wanted sign wanted ≡ true → StandsFor nodes (form_of sign forms) (signed_form sign (formula_of nodes id))

-- and these, of all formulas so far
abbrev pub AreForms : List Node → List Wanted → List Forms → Type 0
AreForms nodes marks forms = (id : ℕ) → id < length forms → IsFormula nodes id → AreFormsOf nodes (wanted_at marks id) id (forms_at forms id)

-- a normal form is one that is there, or one more node
pub data Step : Type 0 where
  old : ℕ → Step
  new : Node → Step

-- the step that gives the normal form of the node of a number (true), of its negation (false), from those of its parts
abbrev pub step_of : List Forms → ℕ → Bool → Node → Step
step_of forms id sign (Bound sort depth) = old id
step_of forms id sign (Num n) = old id
step_of forms id sign (Str t) = old id
step_of forms id sign (App f t) = old id
step_of forms id true Yes = old id
step_of forms id false Yes = new No
step_of forms id true No = old id
step_of forms id false No = new Yes
step_of forms id true (Eq s t) = old id
step_of forms id false (Eq s t) = new (Not id)
step_of forms id true (Less s t) = old id
step_of forms id false (Less s t) = new (Not id)
step_of forms id true (Has f s t) = old id
step_of forms id false (Has f s t) = new (Not id)
step_of forms id true (Flag f t) = old id
step_of forms id false (Flag f t) = new (Not id)
step_of forms id true (Present f t) = old id
step_of forms id false (Present f t) = new (Not id)
step_of forms id sign (Not a) = old (form_of (not sign) (forms_at forms a))
step_of forms id true (And a b) = new (And (form_of true (forms_at forms a)) (form_of true (forms_at forms b)))
step_of forms id false (And a b) = new (Or (form_of false (forms_at forms a)) (form_of false (forms_at forms b)))
step_of forms id true (Or a b) = new (Or (form_of true (forms_at forms a)) (form_of true (forms_at forms b)))
step_of forms id false (Or a b) = new (And (form_of false (forms_at forms a)) (form_of false (forms_at forms b)))
step_of forms id true (Exists sort a) = new (Exists sort (form_of true (forms_at forms a)))
step_of forms id false (Exists sort a) = new (Forall sort (form_of false (forms_at forms a)))
step_of forms id true (Forall sort a) = new (Forall sort (form_of true (forms_at forms a)))
step_of forms id false (Forall sort a) = new (Exists sort (form_of false (forms_at forms a)))

-- the step was taken, and gave the number
abbrev pub IsTaken : Step → List Node → List Node → ℕ → Type 0
IsTaken (old id) before after result = (after ≡ before) × (result ≡ id)
IsTaken (new node) before after result = IsAdded before node after result

-- the parts of a node that is made are there
abbrev pub CanTake : Step → List Node → Type 0
CanTake (old id) nodes = Unit {0}
CanTake (new node) nodes = IsPlaced nodes node
