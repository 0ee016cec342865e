use Rattle.std.proofs.Common.{◌≡◌, ◌<◌, ◌^◌, List, ap, sym, ◌∙◌, subst, arith, length, map}
use Rattle.std.specs.List.{sum_by}
use Rattle.data_records.specs.declared.table.Table as code_table
use Rattle.data_records.specs.Kept.{IsKept}
use Rattle.data_records.specs.Moved.{without_field}
use Rattle.data_records.specs.Room.{weight_of, total_weight}
use Rattle.data_records.specs.Views.{table_data, value_data}
use Rattle.data_records.proofs.KeptAnew.{whole-again}
use Rattle.data_records.proofs.MovesKept.{kept-left, lighter, sum-there}
use Rattle.data_records.proofs.Summed.{tables_weigh}
use Rattle.data_records.proofs.database.Database.take_field.Goals as goal

pub invariant_of-self : goal.invariant_of-self
invariant_of-self c =
    let m = c.args.m in
    let f = c.args.f in
    let ts = c.self.inside.tables.items in
    let us = c.take_field.new.tables in
    let d = map table_data ts in
    let before : c.as_mut_slice.result.now ≡ ts = c.as_mut_slice.ensures.value in
    let long : length us ≡ c.self.inside.tables.len = omega (arith, c.take_field.auto.tables, ap length before, c.as_mut_slice.ensures.len) in
    let all : length ts ≡ c.self.inside.tables.len = omega (arith, ap length before, c.as_mut_slice.ensures.len) in
    let back = whole-again c.self.inside.tables.len us ts long all in
    let left : map table_data us ≡ without_field m f d = c.take_field.ensures ∙ ap (λ xs. without_field m f (map table_data xs)) before in
    let weigh = λ (ws : List code_table.Table). sum_by (λ t. sum_by (λ r. sum_by (λ slot. weight_of (value_data slot.value)) r.slots) t.records.items) ws in
    let weighs : weigh c.as_slice.result.now ≡ total_weight (without_field m f d)
    = ap weigh (c.as_slice.ensures.value ∙ back) ∙ sym (tables_weigh us) ∙ ap total_weight left in
    let kept = c.self.invariant.0 in
    let light : weigh c.as_slice.result.now < 2 ^ 64 = omega (arith, weighs, lighter m f d, kept.weighed) in (
      subst (IsKept c.self.inside.count c.unwrap_or-self-inside.result) (sym (ap (map table_data) back ∙ left))
          (kept-left m f c.self.inside.count c.self.inside.weight _ d kept
          (c.unwrap_or-self-inside.ensures ∙ sum-there c.weight_in.result _ c.self.inside.weight c.weight_in.ensures light ∙ weighs)),
      λ n i g. c.none.ensures n i g _,
    )
