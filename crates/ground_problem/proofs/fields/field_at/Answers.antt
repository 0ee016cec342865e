use Rattle.std.proofs.Common.{subst, sym}
use Rattle.ground_instances.specs.declared.input.Value.{Value}
use Rattle.ground_instances.specs.Inputs.{IsValue}
use Rattle.ground_terms.specs.Nodes.{Extends}
use Rattle.ground_problem.specs.Inputs.{IsFieldAt}
use Rattle.ground_problem.proofs.FieldLaws.{field_added}
use Rattle.ground_problem.proofs.fields.field_at.Goals as goal

pub returns-in_ok-id-in-Term : goal.returns-in_ok-id-in-Term
returns-in_ok-id-in-Term c =
    let old = c.args.terms.now in
    let new = c.add.new.self in
    let P : Value → Type 0 = λ v. IsValue old v in
    let Q : Value → Type 0 = λ v. Extends old new × IsFieldAt new c.args.h v c.in_ok-id-in-Term.id in
    subst Q (sym c.in-Term.is) (field_added old new c.args.h c.in-Term.t c.in_ok-id-in-Term.id c.in_ok-id-in-Term.ensures.made (subst P c.in-Term.is c.requires))
