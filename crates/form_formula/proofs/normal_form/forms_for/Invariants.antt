use Rattle.std.proofs.Common.{◌≡◌, ◌+◌, ◌*◌, ◌≤◌, length, get_or}
use Rattle.form_formula.specs.declared.node.Node.TheVariants.{Yes}
use Rattle.form_formula.specs.Added.{Extends}
use Rattle.form_formula.specs.Forms.{AreForms}
use Rattle.form_formula.proofs.normal_form.forms_for.Given as goal

abbrev pub ghost-convert : goal.ghost-convert
ghost-convert a = get_or a.arena.now a.id Yes

abbrev pub invariant-loop-wanted : goal.invariant-loop-wanted
invariant-loop-wanted l =
    Extends l.initial.arena l.arena × (length l.arena ≤ length l.initial.arena + 2 * l.wanted-index) × (length l.forms.items ≡ l.wanted-index)
    × AreForms l.arena l.marks l.forms.items
