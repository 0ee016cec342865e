use Rattle.std.proofs.Common.{◌≡◌, ◌==◌, ◌&&◌, suc, map, sym, subst}
use Rattle.std.specs.Prelude.{filter, IfOk}
use Rattle.std.specs.List.{list_any, range_with_len}
use Rattle.type_schema.specs.SchemaViews.{schema_of}
use Rattle.data_meaning.specs.Values.{Ids}
use Rattle.data_records.specs.Views.{value_data}
use Rattle.form_formula.specs.Truth.{size_of}
use Rattle.duty_meaning.specs.Structures.{sort_of}
use Rattle.check_witness.specs.Built.{built_value}
use Rattle.check_witness.proofs.source.Source.value.Goals as goal

pub returns-in-Set : goal.returns-in-Set
returns-in-Set c =
    let s = schema_of c.args.self.now.schema.now in
    let st = c.args.self.now.structure.now in
    subst (λ ty. IfOk c.set_value.result (λ v. value_data v ≡ built_value s st c.args.m c.args.info.now.number ty c.args.x)) (sym c.in-Set.is)
    (subst
    (λ ps. IfOk c.set_value.result (λ v. value_data v ≡ Ids (map suc (filter (λ y. list_any (λ p. (p.0 == c.args.x) && (p.1 == y)) ps) (range_with_len 0 (size_of st (sort_of s c.in-Set.n)))))))
    c.pairs.ensures
    (subst
    (λ k. IfOk c.set_value.result (λ v. value_data v ≡ Ids (map suc (filter (λ y. list_any (λ p. (p.0 == c.args.x) && (p.1 == y)) c.pairs.result.now) (range_with_len 0 k)))))
    c.size_of.ensures c.set_value.ensures))
