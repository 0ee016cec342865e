use Rattle.std.proofs.Common.{◌≡◌, Bool, false, subst}
use Rattle.std.specs.Prelude.{Option, IfOk}
use Rattle.std.specs.Option.{option_map_or}
use Rattle.type_schema.specs.Trees.{Policy}
use Rattle.data_meaning.specs.Meaning.{allows}
use Rattle.impact_shrink.proofs.rights.may_read.Goals as goal

pub returns : goal.returns
returns c =
    subst (λ (o : Option Policy). IfOk c.allows_by.result (λ (b : Bool). b ≡ option_map_or (λ (p : Policy). allows c.args.after.now p c.args.cell.id c.args.w.now.who) o false))
    c.policy_in_force-policy.ensures c.allows_by.ensures
