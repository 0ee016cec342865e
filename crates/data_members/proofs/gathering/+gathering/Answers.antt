use Rattle.std.proofs.Common.{◌≡◌, ℕ, ◌++◌, ◌∷◌, [], ap, sym, ◌∙◌, map}
use Rattle.std.specs.Prelude.{filter}
use Rattle.std.specs.List.{list_any}
use Rattle.type_schema.specs.Views as view
use Rattle.data_meaning.specs.Values.{Value, Id}
use Rattle.data_meaning.specs.Database.{ids_of}
use Rattle.data_meaning.specs.declared.principals.Principal.TheVariants.{Rec}
use Rattle.data_meaning.specs.Meaning.{is_record, member, value_of}
use Rattle.data_members.specs.Has.{has}
use Rattle.data_members.specs.Sets.{is_one_of}
use Rattle.data_members.specs.Variables.{env_data}
use Rattle.data_members.proofs.Gathers.{found-gathered, images-gathered, told-by}
use Rattle.data_members.proofs.Levels.{Find_is, FlatS_is, MapS_is}
use Rattle.data_members.proofs.Loops.{any-filtered}
use Rattle.data_members.proofs.gathering.+gathering.Goals as goal

pub gather-returns-in_ok-ids-in-Find : goal.gather-returns-in_ok-ids-in-Find
gather-returns-in_ok-ids-in-Find t c =
    let d = c.args.database.now in
    let env = env_data c.args.env.now in
    let m = c.in-Find.m in
    let filters = view.filters_of (map view.filter_of c.in-Find.field-1) in
    let set = ap view.set_of c.in-Find.is ∙ Find_is m c.in-Find.field-1 in
    told-by c.records.result has (λ q. is_one_of (map (λ y. Rec m y) c.as_slice-in-Find.result.now) q) (member d env (view.set_of c.args.set.now))
    (λ q. ap (λ ids. is_one_of (map (λ y. Rec m y) ids) q) (c.as_slice-in-Find.ensures.value ∙ c.in_ok-ids-in-Find.ensures)
    ∙ ap (λ u. is_one_of (map (λ y. Rec m y) (filter (λ y. member d env u (Rec m y)) (ids_of d m))) q) set
    ∙ found-gathered d env m filters q ∙ sym (ap (λ u. member d env u q) set))
    c.records.ensures

pub gather-returns-in_ok-ys-in-MapS : goal.gather-returns-in_ok-ys-in-MapS
gather-returns-in_ok-ys-in-MapS t c =
    let d = c.args.database.now in
    let env = env_data c.args.env.now in
    let m = c.in-MapS.m in
    let n = c.in-MapS.n in
    let source = view.set_of c.in-MapS.source in
    let value : ℕ → Value = λ y. value_of d (env ++ Id y ∷ []) (view.expr_of c.in-MapS.e) in
    let set = ap view.set_of c.in-MapS.is ∙ MapS_is c.in-MapS.source n c.in-MapS.field-2 m c.in-MapS.e in
    let sources : c.as_slice-in-MapS.result.now ≡ filter (λ y. member d env source (Rec n y)) (ids_of d n)
    = c.as_slice-in-MapS.ensures.value ∙ c.in_ok-sources-in-MapS.ensures ∙ ap (λ u. filter (λ y. member d env (view.set_of u) (Rec n y)) (ids_of d n)) c.get-in-MapS.ensures in
    told-by c.records-in-MapS.result has (λ q. is_one_of (map (λ y. Rec m y) c.as_slice-in-MapS-2.result.now) q) (member d env (view.set_of c.args.set.now))
    (λ q. ap (λ ids. is_one_of (map (λ y. Rec m y) ids) q) (c.as_slice-in-MapS-2.ensures.value ∙ rw c.get-in-MapS-2.ensures at c.in_ok-ys-in-MapS.ensures)
    ∙ images-gathered d env m value c.as_slice-in-MapS.result.now q
    ∙ ap (list_any (λ y. is_record m (value y) q)) sources
    ∙ any-filtered (λ y. member d env source (Rec n y)) (λ y. is_record m (value y) q) (ids_of d n)
    ∙ sym (ap (λ u. member d env u q) set))
    c.records-in-MapS.ensures

pub gather-returns-in_ok-sources-in-FlatS : goal.gather-returns-in_ok-sources-in-FlatS
gather-returns-in_ok-sources-in-FlatS t c =
    let d = c.args.database.now in
    let env = env_data c.args.env.now in
    let n = c.in-FlatS.n in
    let source = view.set_of c.in-FlatS.source in
    let set = ap view.set_of c.in-FlatS.is ∙ FlatS_is c.in-FlatS.source n c.in-FlatS.field-2 c.in-FlatS.body in
    let sources : c.as_slice-in-FlatS.result.now ≡ filter (λ y. member d env source (Rec n y)) (ids_of d n)
    = c.as_slice-in-FlatS.ensures.value ∙ c.in_ok-sources-in-FlatS.ensures ∙ ap (λ u. filter (λ y. member d env (view.set_of u) (Rec n y)) (ids_of d n)) c.get-in-FlatS.ensures in
    told-by c.gather_at_each.result has (λ q. list_any (λ y. member d (env ++ Id y ∷ []) (view.set_of c.get-in-FlatS-2.result.now) q) c.as_slice-in-FlatS.result.now) (member d env (view.set_of c.args.set.now))
    (λ q. ap (λ u. list_any (λ y. member d (env ++ Id y ∷ []) (view.set_of u) q) c.as_slice-in-FlatS.result.now) c.get-in-FlatS-2.ensures
    ∙ ap (list_any (λ y. member d (env ++ Id y ∷ []) (view.set_of c.in-FlatS.body) q)) sources
    ∙ any-filtered (λ y. member d env source (Rec n y)) (λ y. member d (env ++ Id y ∷ []) (view.set_of c.in-FlatS.body) q) (ids_of d n)
    ∙ sym (ap (λ u. member d env u q) set))
    c.gather_at_each.ensures
