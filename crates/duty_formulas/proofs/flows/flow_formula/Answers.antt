use Rattle.type_schema.specs.SchemaViews.{script_of}
use Rattle.duty_meaning.specs.Duties.{flow_formula_of}
use Rattle.duty_formulas.proofs.Joining.{stands_made, too_large}
use Rattle.duty_formulas.proofs.flows.flow_formula.Goals as goal

pub returns-clause-formula : goal.returns-clause-formula
returns-clause-formula c =
    stands_made _ _ _ _ _ _ c.in_ok-w.ensures.mode c.flow-made.ensures c.put_back.ensures.made c.put_back.ensures.arena

pub returns-clause-too_large : goal.returns-clause-too_large
returns-clause-too_large c =
    too_large _ _ (flow_formula_of (script_of c.args.of.now.script.now) c.args.duty c.args.spot) _ _ c.in_ok-w.ensures.left c.flow-made.ensures c.put_back.ensures.full
