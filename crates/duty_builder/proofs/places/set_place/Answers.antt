use Rattle.std.proofs.Common.{ap, sym, ◌∙◌, map}
use Rattle.type_schema.specs.declared.trees.TExpr.{TExpr}
use Rattle.type_schema.specs.declared.trees.TSet.{TSet}
use Rattle.type_schema.specs.Trees.{find, mapped, flat_mapped, match_set}
use Rattle.type_schema.specs.Views.{expr_of, set_of, filter_of, filters_of}
use Rattle.duty_builder.proofs.Forms.{Find_set, MapS_set, FlatS_set, MatchS_set}
use Rattle.duty_builder.proofs.Standing.{ok_as, in_set_form}
use Rattle.duty_builder.proofs.places.set_place.Goals as goal

pub returns-in-Find : goal.returns-in-Find
returns-in-Find c =
    ok_as c.filters_place.result _ _ (λ place h. in_set_form place c.args.set.now _ c.args.number
    (ap (λ xs. find c.in-Find.field-0 (filters_of (map filter_of xs))) c.as_slice-in-Find.ensures
    ∙ sym (ap set_of c.in-Find.is ∙ Find_set c.in-Find.field-0 c.in-Find.filters)) (h c.in-Find.field-0)) c.filters_place.ensures

pub returns-in-MapS : goal.returns-in-MapS
returns-in-MapS c =
    ok_as c.mapped_place.result _ _ (λ place h. in_set_form place c.args.set.now _ c.args.number
    (ap (λ (a : TSet). mapped (set_of a) c.in-MapS.n c.in-MapS.field-2 c.in-MapS.field-3 (expr_of c.get-in-MapS-2.result.now)) c.get-in-MapS.ensures
    ∙ (ap (λ (e : TExpr). mapped (set_of c.in-MapS.of) c.in-MapS.n c.in-MapS.field-2 c.in-MapS.field-3 (expr_of e)) c.get-in-MapS-2.ensures
    ∙ sym (ap set_of c.in-MapS.is ∙ MapS_set c.in-MapS.of c.in-MapS.n c.in-MapS.field-2 c.in-MapS.field-3 c.in-MapS.e))) (h c.in-MapS.field-2 c.in-MapS.field-3)) c.mapped_place.ensures

pub returns-in-FlatS : goal.returns-in-FlatS
returns-in-FlatS c =
    ok_as c.flat_place.result _ _ (λ place h. in_set_form place c.args.set.now _ c.args.number
    (ap (λ (a : TSet). flat_mapped (set_of a) c.in-FlatS.n c.in-FlatS.field-2 (set_of c.get-in-FlatS-2.result.now)) c.get-in-FlatS.ensures
    ∙ (ap (λ (a : TSet). flat_mapped (set_of c.in-FlatS.of) c.in-FlatS.n c.in-FlatS.field-2 (set_of a)) c.get-in-FlatS-2.ensures
    ∙ sym (ap set_of c.in-FlatS.is ∙ FlatS_set c.in-FlatS.of c.in-FlatS.n c.in-FlatS.field-2 c.in-FlatS.body))) (h c.in-FlatS.field-2)) c.flat_place.ensures

pub returns-in-MatchS : goal.returns-in-MatchS
returns-in-MatchS c =
    ok_as c.match_set_place.result _ _ (λ place h. in_set_form place c.args.set.now _ c.args.number
    (ap (λ (e : TExpr). match_set (expr_of e) (set_of c.get-in-MatchS-2.result.now) c.in-MatchS.field-2 (set_of c.get-in-MatchS-3.result.now)) c.get-in-MatchS.ensures
    ∙ (ap (λ (a : TSet). match_set (expr_of c.in-MatchS.of) (set_of a) c.in-MatchS.field-2 (set_of c.get-in-MatchS-3.result.now)) c.get-in-MatchS-2.ensures
    ∙ (ap (λ (a : TSet). match_set (expr_of c.in-MatchS.of) (set_of c.in-MatchS.a) c.in-MatchS.field-2 (set_of a)) c.get-in-MatchS-3.ensures
    ∙ sym (ap set_of c.in-MatchS.is ∙ MatchS_set c.in-MatchS.of c.in-MatchS.a c.in-MatchS.field-2 c.in-MatchS.c)))) (h c.in-MatchS.field-2)) c.match_set_place.ensures
