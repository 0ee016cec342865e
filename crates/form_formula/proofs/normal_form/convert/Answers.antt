use Rattle.std.proofs.Common.{arith, false}
use Rattle.form_formula.proofs.FormLemmas.{extends_get, parts_more, forms_of_two}
use Rattle.form_formula.proofs.normal_form.convert.Goals as goal

pub negative_if-requires : goal.negative_if-requires
negative_if-requires g c = (
  extends_get c.args.arena.now c.positive_if.new.arena c.args.id g.node c.positive_if.ensures.kept c.requires.0,
  (
    c.len.ensures.placed,
    (
      c.requires.1.1.1.0,
      (
        (λ e. parts_more c.args.arena.now c.positive_if.new.arena c.args.forms.now false g.node c.positive_if.ensures.kept c.requires.1.1.0 (c.requires.1.1.1.1.0 false e)),
        omega (arith, c.positive_if.ensures.one_more),
      ),
    ),
  ),
)

pub returns-clause-forms : goal.returns-clause-forms
returns-clause-forms g c =
    forms_of_two c.args.arena.now c.positive_if.new.arena c.negative_if.new.arena c.args.id c.args.wanted _ c.positive_if.ensures.kept
    c.negative_if.ensures.kept c.in_ok-positive.ensures.form c.in_ok-negative.ensures.form
