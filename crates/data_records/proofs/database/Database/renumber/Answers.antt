use Rattle.std.proofs.Common.{◌≡◌, ap, sym, ◌∙◌, subst, arith, length, map}
use Rattle.type_schema.specs.SchemaViews.{model_info_of}
use Rattle.data_records.specs.Kept.{IsKept}
use Rattle.data_records.specs.Renumbered.{renumbered_table}
use Rattle.data_records.specs.Views.{table_data}
use Rattle.data_records.proofs.KeptAnew.{kept-anew, whole-again}
use Rattle.data_records.proofs.database.Database.renumber.Goals as goal

pub invariant_of-self : goal.invariant_of-self
invariant_of-self c =
    let ts = c.self.inside.tables.items in
    let us = c.renumber_tables.new.tables in
    let models = map model_info_of c.as_slice.result.now in
    let before : c.as_mut_slice.result.now ≡ ts = c.as_mut_slice.ensures.value in
    let anew : map table_data us ≡ map (renumbered_table models) (map table_data ts)
    = c.renumber_tables.ensures ∙ ap (λ xs. map (renumbered_table models) (map table_data xs)) before in
    let long : length us ≡ c.self.inside.tables.len = omega (arith, c.renumber_tables.auto.tables, ap length before, c.as_mut_slice.ensures.len) in
    let all : length ts ≡ c.self.inside.tables.len = omega (arith, ap length before, c.as_mut_slice.ensures.len) in
    let back = whole-again c.self.inside.tables.len us ts long all in (
      subst (IsKept c.self.inside.count c.self.inside.weight) (sym (ap (map table_data) back ∙ anew))
          (kept-anew models c.self.inside.count c.self.inside.weight (map table_data ts) c.self.invariant.0),
      λ n i g. c.none.ensures n i g _,
    )
