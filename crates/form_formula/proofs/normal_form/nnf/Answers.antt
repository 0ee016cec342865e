use Rattle.std.proofs.Common.{◌≡◌, ◌<◌, true, arith, length, List, subst, sym, ap, ◌∙◌, ◌+◌, refl}
use Rattle.std.proofs.lemmas.Option.{slice_get_read, get_or_from_slice_get}
use Rattle.form_formula.specs.declared.marks.Wanted.{Wanted}
use Rattle.form_formula.specs.declared.normal_form.Forms.{Forms}
use Rattle.form_formula.specs.Marks.{wanted_at}
use Rattle.form_formula.specs.NormalForm.{signed_form}
use Rattle.form_formula.specs.Nodes.{formula_of}
use Rattle.form_formula.specs.Forms.{forms_at}
use Rattle.form_formula.specs.Nodes.{StandsFor}
use Rattle.form_formula.proofs.FormLemmas.{last_form, form_is_normal, form_is_true}
use Rattle.form_formula.proofs.normal_form.nnf.Goals as goal

form : (c : goal.After-drop-marks-2) → StandsFor c.forms_for.new.arena c.index.result.now.positive (signed_form true (formula_of c.args.arena.now c.args.id))
form c =
    let marks : List Wanted = c.as_slice.result.now in
    let forms : List Forms = c.in_ok-forms.forms.items in
    let size : length forms ≡ c.args.id + 1 = c.in_ok-forms.ensures.length ∙ (ap length c.as_slice.ensures.value ∙ c.in_ok-marks.ensures.length) in
    let within : c.args.id < length forms = omega arith in
    let it : forms_at forms c.args.id ≡ c.index.result.now =
    get_or_from_slice_get forms c.args.id c.index.result.now (record { positive = 0; negative = 0 })
    (slice_get_read forms (length forms) c.args.id c.index.result.now refl within c.index.ensures) in
    let P : Forms → Type 0 = λ f. StandsFor c.forms_for.new.arena f.positive (signed_form true (formula_of c.args.arena.now c.args.id)) in
    let W : List Wanted → Type 0 = λ marks. (wanted_at marks c.args.id).positive ≡ true in
    subst P it
    (last_form c.args.arena.now c.forms_for.new.arena marks forms c.args.id c.forms_for.ensures.kept c.in_ok-forms.ensures.forms within
    (subst W (sym c.as_slice.ensures.value) c.in_ok-marks.ensures.wanted) c.requires.formula)

pub returns-clause-form : goal.returns-clause-form
returns-clause-form c = form c

pub returns-clause-normal : goal.returns-clause-normal
returns-clause-normal c = form_is_normal c.forms_for.new.arena c.index.result.now.positive (formula_of c.args.arena.now c.args.id) (form c)

pub returns-clause-same_truth : goal.returns-clause-same_truth
returns-clause-same_truth c = form_is_true c.forms_for.new.arena c.index.result.now.positive (formula_of c.args.arena.now c.args.id) (form c)
