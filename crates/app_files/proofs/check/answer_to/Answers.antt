use Rattle.std.proofs.Common.{rules, ◌≡◌, [], ◌∙◌, sym, subst, refl}
use Rattle.std.specs.Prelude.{Err, Result}
use Rattle.app_flow.proofs.OutsideLemmas.{read-as, read-none}
use Rattle.app_files.specs.declared.answer.Answer.{Answer}
use Rattle.app_files.specs.declared.stop.Stop.{Stop}
use Rattle.app_files.specs.Answer.{Runs, Checking, Generating, NoCommand}
use Rattle.app_files.specs.Words.{names_of}
use Rattle.app_files.specs.declared.stop.Stop.TheVariants.{ReadFault}
use Rattle.app_files.proofs.InTurn.{stopped-too}
use Rattle.app_files.proofs.check.answer_to.Goals as goal

pub returns-in_err-check_files-clause-answered : goal.returns-in_err-check_files-clause-answered
returns-in_err-check_files-clause-answered g c =
    let same : c.from_residual.result ≡ Err c.in_err-check_files.field-0.0 = search rules in
    let (calls, checks, read) = c.in_err-check_files.ensures in (
      calls,
      subst (λ (r : Result Answer Stop). Runs (g.F.Shelf.told c.args.shelf.now) c.args.words.now calls r) (sym same)
          (Checking (names_of c.in-Some.names.spec.now c.in-Some.names.script.now) c.in-Some.ensures checks),
      read-as g.F.Shelf.told g.F.Shelf.calls g.F.Shelf.faults _ _ _ _ _ (λ e. stopped-too _ c.from_residual.result c.in_err-check_files.field-0.0 ReadFault refl same e) read,
    )

pub returns-in-Some-clause-answered : goal.returns-in-Some-clause-answered
returns-in-Some-clause-answered g c =
    let (calls, checks, read) = c.in_ok-check_files.ensures in (
      calls,
      Checking (names_of c.in-Some.names.spec.now c.in-Some.names.script.now) c.in-Some.ensures (c.in_ok-check_files.field-0, refl, checks),
      read-as g.F.Shelf.told g.F.Shelf.calls g.F.Shelf.faults _ _ _ _ _ (λ e. absurd cc) read,
    )

pub returns-in_err-generated-in-Some-gen_of-clause-answered : goal.returns-in_err-generated-in-Some-gen_of-clause-answered
returns-in_err-generated-in-Some-gen_of-clause-answered g c =
    let same : c.from_residual-in_err-generated-in-Some-gen_of.result ≡ Err c.in_err-generated-in-Some-gen_of.field-0.0 = search rules in (
      [],
      subst (λ (r : Result Answer Stop). Runs (g.F.Shelf.told c.args.shelf.now) c.args.words.now [] r) (sym same)
          (Generating c.in-Some-gen_of.commands (sym c.gen_of.ensures ∙ c.in-Some-gen_of.is) refl c.in_err-generated-in-Some-gen_of.ensures.generates),
      read-none g.F.Shelf.told g.F.Shelf.calls g.F.Shelf.faults _ _ (λ e. c.in_err-generated-in-Some-gen_of.ensures.no_fault
          (stopped-too _ c.from_residual-in_err-generated-in-Some-gen_of.result c.in_err-generated-in-Some-gen_of.field-0.0 ReadFault refl same e)),
    )

pub returns-in_ok-generated-in-Some-gen_of-clause-answered : goal.returns-in_ok-generated-in-Some-gen_of-clause-answered
returns-in_ok-generated-in-Some-gen_of-clause-answered g c = (
  [],
  Generating c.in-Some-gen_of.commands (sym c.gen_of.ensures ∙ c.in-Some-gen_of.is) refl (c.in_ok-generated-in-Some-gen_of.field-0, refl, c.in_ok-generated-in-Some-gen_of.ensures.generates),
  read-none g.F.Shelf.told g.F.Shelf.calls g.F.Shelf.faults _ _ (λ e. cc),
)
