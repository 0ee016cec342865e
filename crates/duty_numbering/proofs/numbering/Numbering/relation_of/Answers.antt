use Rattle.std.proofs.Common.{◌≡◌, ◌∙◌, ap}
use Rattle.duty_meaning.specs.Structures.{before}
use Rattle.duty_numbering.specs.Numbers.{Numbers, is_spot}
use Rattle.duty_numbering.proofs.SpotLaws.{relation-number}
use Rattle.duty_numbering.proofs.numbering.Numbering.relation_of.Goals as goal

pub returns-clause-of_schema : goal.returns-clause-of_schema
returns-clause-of_schema c s e =
    c.place_of.ensures ∙ (ap (λ (n : Numbers). before (is_spot c.args.m c.args.f) n.relations) c.self.view_is ∙ relation-number c.args.self.now c.args.m c.args.f s e)
