use Rattle.std.proofs.Common.{rules, ◌≡◌, [], ◌∷◌, refl}
use Rattle.std.specs.Prelude.{Err}
use Rattle.type_schema.specs.SchemaViews.{script_of}
use Rattle.type_typing.specs.Names.{plain_of}
use Rattle.app_flow.proofs.OutsideLemmas.{read-as, read-more}
use Rattle.app_files.specs.Answer.{both_files}
use Rattle.app_files.specs.Words.{names_of}
use Rattle.app_files.specs.declared.stop.Stop.TheVariants.{ReadFault}
use Rattle.app_files.proofs.InTurn.{stopped-too}
use Rattle.app_impact.proofs.Laws.{all_files, script_cut, spec_cut}
use Rattle.app_impact.proofs.effects.find_in_files.Goals as goal

pub returns-in_err-schema : goal.returns-in_err-schema
returns-in_err-schema g c =
    let same : c.from_residual.result ≡ Err c.in_err-schema.field-0.0 = search rules in
    let names = names_of c.args.names.spec.now c.args.names.script.now in (
      c.args.names.spec.now ∷ [],
      spec_cut (g.F.Shelf.told c.args.shelf.now) names _ c.in_err-schema.field-0.0 c.in_err-schema.ensures.asked same,
      read-as g.F.Shelf.told g.F.Shelf.calls g.F.Shelf.faults _ _ _ _ _ (λ e. stopped-too _ c.from_residual.result c.in_err-schema.field-0.0 ReadFault refl same e) c.in_err-schema.ensures.shelf,
    )

pub returns-in_err-script : goal.returns-in_err-script
returns-in_err-script g c =
    let same : c.from_residual-in_err-script.result ≡ Err c.in_err-script.field-0.0 = search rules in
    let names = names_of c.args.names.spec.now c.args.names.script.now in (
      both_files names,
      script_cut (g.F.Shelf.told c.args.shelf.now) names _ (plain_of c.in_ok-schema.schema) c.in_err-script.field-0.0 c.in_ok-schema.ensures.asked
          (rw c.in_ok-schema.ensures.shelf.kept at c.in_err-script.ensures.asked) same,
      read-as g.F.Shelf.told g.F.Shelf.calls g.F.Shelf.faults _ _ _ _ _ (λ e. stopped-too _ c.from_residual-in_err-script.result c.in_err-script.field-0.0 ReadFault refl same e)
          (read-more g.F.Shelf.told g.F.Shelf.calls g.F.Shelf.faults _ _ _ _ _ _ _ c.in_ok-schema.ensures.shelf c.in_err-script.ensures.shelf),
    )

pub returns : goal.returns
returns g c =
    let names = names_of c.args.names.spec.now c.args.names.script.now in (
      both_files names,
      all_files (g.F.Shelf.told c.args.shelf.now) names _ (plain_of c.in_ok-schema.schema) (script_of c.in_ok-script.script) c.in_ok-schema.ensures.asked
          (rw c.in_ok-schema.ensures.shelf.kept at c.in_ok-script.ensures.asked) c.found.ensures.found,
      read-as g.F.Shelf.told g.F.Shelf.calls g.F.Shelf.faults _ _ _ _ _ (λ e. absurd (c.found.ensures.no_fault e))
          (read-more g.F.Shelf.told g.F.Shelf.calls g.F.Shelf.faults _ _ _ _ _ _ _ c.in_ok-schema.ensures.shelf c.in_ok-script.ensures.shelf),
    )
