use Rattle.std.proofs.Common.{◌≡◌, ◌∙◌, [], ◌∷◌}
use Rattle.store_keeper.specs.declared.keeper.KeepCall.TheVariants.{Replace}
use Rattle.store_keeper.specs.Stored.{stored_of}
use Rattle.app_store.specs.Answer.{text_of}
use Rattle.app_store.proofs.Finishing.{kept-so, said-so}
use Rattle.app_store.proofs.Ran.{kept-none}
use Rattle.app_store.proofs.program.finish.Goals as goal

pub returns-in-Some-clause-finished : goal.returns-in-Some-clause-finished
returns-in-Some-clause-finished g c =
    let text : c.as_slice-report.result.now ≡ text_of c.args.answer.now = c.as_slice-report.ensures.value ∙ c.in-Ok.ensures in (
      Replace ∷ [],
      kept-so c.args.answer.now _ _ (stored_of c.in-Some.after.now) _ _ _ _ c.in-Some.ensures text c.keep_and_put.ensures.kept,
      c.keep_and_put.ensures.store,
    )

pub returns-clause-finished : goal.returns-clause-finished
returns-clause-finished g c =
    let text : c.as_slice-report.result.now ≡ text_of c.args.answer.now = c.as_slice-report.ensures.value ∙ c.in-Ok.ensures in (
      [],
      said-so c.args.answer.now _ _ c.status.result _ _ _ c.in-None.ensures text c.status.ensures.found c.put_report.ensures.put,
      kept-none g.K.Keeper.calls g.K.Keeper.faults _ _ c.put_report.ensures.not_kept,
    )
