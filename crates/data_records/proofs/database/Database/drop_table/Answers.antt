use Rattle.std.proofs.Common.{◌≡◌, ◌<◌, ◌^◌, List, rules, ap, sym, ◌∙◌, subst, arith, length, map}
use Rattle.std.specs.Prelude.{◌==◌, not}
use Rattle.std.specs.List.{sum_by}
use Rattle.std.proofs.lemmas.Fn.{filter_same}
use Rattle.data_meaning.specs.Database as plain
use Rattle.data_records.specs.declared.table.Table as code_table
use Rattle.data_records.specs.Kept.{IsKept}
use Rattle.data_records.specs.Moved.{without_table}
use Rattle.data_records.specs.Room.{weight_of, record_count, total_weight}
use Rattle.data_records.specs.Views.{table_data, value_data}
use Rattle.data_records.proofs.Moves.{filter-seen}
use Rattle.data_records.proofs.MovesKept.{count-less, kept-less, sum-there, weight-less}
use Rattle.data_records.proofs.Summed.{tables_count, tables_weigh}
use Rattle.data_records.proofs.database.Database.drop_table.Goals as goal

pub invariant_of-self : goal.invariant_of-self
invariant_of-self c =
    let m = c.args.m in
    let ts = c.self.inside.tables.items in
    let us = c.retain.new.self.items in
    let d = map table_data ts in
    let other = λ (t : code_table.Table). not (t.model == m) in
    let left : map table_data us ≡ without_table m d
    = ap (map table_data) (filter_same _ other _ (λ x b f' k. search rules) ts c.retain.new.self.items c.retain.ensures.filtered)
    ∙ filter-seen table_data (λ (t : plain.Table). not (t.model == m)) ts in
    let kept = c.self.invariant.0 in
    let number = λ (ws : List code_table.Table). sum_by (λ t. length t.records.items) ws in
    let weigh = λ (ws : List code_table.Table). sum_by (λ t. sum_by (λ r. sum_by (λ slot. weight_of (value_data slot.value)) r.slots) t.records.items) ws in
    let counts : number c.as_slice.result.now ≡ record_count (without_table m d)
    = ap number c.as_slice.ensures.value ∙ sym (tables_count us) ∙ ap record_count left in
    let weighs : weigh c.as_slice-2.result.now ≡ total_weight (without_table m d)
    = ap weigh c.as_slice-2.ensures.value ∙ sym (tables_weigh us) ∙ ap total_weight left in
    let few : number c.as_slice.result.now < 2 ^ 64 = omega (arith, counts, count-less m d, kept.counted) in
    let light : weigh c.as_slice-2.result.now < 2 ^ 64 = omega (arith, weighs, weight-less m d, kept.weighed) in (
      subst (IsKept c.unwrap_or-self-inside.result c.unwrap_or-self-inside-2.result) (sym left)
          (kept-less m c.self.inside.count c.self.inside.weight _ _ d kept
          (c.unwrap_or-self-inside.ensures ∙ sum-there c.count_in.result _ c.self.inside.count c.count_in.ensures few ∙ counts)
          (c.unwrap_or-self-inside-2.ensures ∙ sum-there c.weight_in.result _ c.self.inside.weight c.weight_in.ensures light ∙ weighs)),
      λ n i g. c.none.ensures n i g _,
    )

pub returns : goal.returns
returns c =
    let m = c.args.m in
    let ts = c.self.inside.tables.items in
    let other = λ (t : code_table.Table). not (t.model == m) in
    ap (map table_data) (filter_same _ other _ (λ x b f' k. search rules) ts c.retain.new.self.items c.retain.ensures.filtered)
    ∙ filter-seen table_data (λ (t : plain.Table). not (t.model == m)) ts
    ∙ ap (without_table m) c.self.view_is
