-- Obligations whose formulas a structure satisfies fail on its database.
use Rattle.std.proofs.Common.{refl, ◌∙◌, []}
use Rattle.type_schema.specs.Script.{Script, IsScript}
use Rattle.data_meaning.specs.Gain.{IsStart}
use Rattle.form_formula.specs.declared.structure.Signature.{Signature}
use Rattle.form_formula.specs.declared.structure.Structure.{Structure}
use Rattle.duty_meaning.specs.Duties.{gain_formula_of, flow_formula_of}
use Rattle.duty_meaning.proofs.Gains.{true_gains}
use Rattle.duty_meaning.proofs.Flows.{true_flows}
use Rattle.check_witness.specs.Built.{built}
use Rattle.check_witness.specs.Back.{IsBuildable, HasIds}
use Rattle.check_witness.specs.Failing.{FailsOnBuilt, SatisfiedObligationsFail}
use Rattle.check_witness.proofs.Databases.{start}
use Rattle.check_witness.proofs.Scripts.{buildable}
use Rattle.check_witness.proofs.Structures.{tell-the-truth}

module _ (t : Script) (is : IsScript t) (g : Signature) (st : Structure) (fits : IsBuildable t.start g st) (has : HasIds st) where
  on-start : IsStart t (built t.start st)
  on-start = (start t.start g st fits has).2 t refl

  failing : FailsOnBuilt t st
  failing = record {
    gains = λ duty of e.
        (true_gains t is duty of (built t.start st) on-start).0 (tell-the-truth t.start g st fits [] (gain_formula_of t duty) ∙ e);
    flows = λ duty spot m f init at of e.
        (true_flows t is duty spot m f init at of (built t.start st) on-start).0 (tell-the-truth t.start g st fits [] (flow_formula_of t duty spot) ∙ e);
  }

pub satisfied : SatisfiedObligationsFail
satisfied t is g signature st structure has = failing t is g st (buildable t is g signature st structure) has
