use Rattle.std.proofs.Common.{ap, ◌∙◌, map}
use Rattle.data_meaning.specs.declared.principals.Principal.TheVariants.{Rec}
use Rattle.data_meaning.specs.Meaning.{is_among, set_of, value_of}
use Rattle.type_schema.specs.Views as view
use Rattle.data_members.specs.Has.{has}
use Rattle.data_members.specs.Sets.{is_one_of}
use Rattle.data_members.specs.Variables.{env_data}
use Rattle.data_members.proofs.Gathers.{among-ids, told-by}
use Rattle.data_members.proofs.gathering.held_ids.Goals as goal

pub returns : goal.returns
returns c =
    let m = c.args.m in
    told-by c.records.result has (λ q. is_one_of (map (λ y. Rec m y) c.ids.result.now) q)
    (λ q. is_among m (set_of (value_of c.args.database.now (env_data c.args.env.now) (view.expr_of c.args.e.now))) q)
    (λ q. among-ids m c.ids.result.now q ∙ ap (λ ids. is_among m ids q) (c.ids.ensures ∙ ap set_of (c.get.ensures ∙ c.in_ok-held.ensures)))
    c.records.ensures
