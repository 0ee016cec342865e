use Rattle.std.proofs.Common.{rules, ◌≡◌, sym, subst}
use Rattle.std.specs.Prelude.{Err, Some, Result}
use Rattle.app_files.specs.declared.answer.Checked.{Checked}
use Rattle.app_files.specs.declared.stop.Stop.{Stop}
use Rattle.app_files.specs.declared.stop.Stop.TheVariants.{OutOfMemory}
use Rattle.app_files.specs.Answer.{ChecksFiles}
use Rattle.app_files.specs.Generated as spec
use Rattle.app_files.specs.Stages.{InMemory}
use Rattle.app_files.specs.Words.{names_of}
use Rattle.app_files.proofs.NoMemory.{no-memory, same-files}
use Rattle.app_files.proofs.generated.checked_script.Goals as goal

pub returns-in_err-files_of-clause-checked : goal.returns-in_err-files_of-clause-checked
returns-in_err-files_of-clause-checked c =
    let none : c.from_residual.result ≡ Err OutOfMemory = search rules in
    subst (λ (r : Result Checked Stop). InMemory (ChecksFiles (Some (spec.generated c.args.commands)) (names_of spec.spec_name c.args.name.now)) r) (sym none) (no-memory (Some (spec.generated c.args.commands)) (names_of spec.spec_name c.args.name.now))

pub returns-in_err-specification-clause-checked : goal.returns-in_err-specification-clause-checked
returns-in_err-specification-clause-checked c =
    let none : c.from_residual-in_err-specification.result ≡ Err OutOfMemory = search rules in
    subst (λ (r : Result Checked Stop). InMemory (ChecksFiles (Some (spec.generated c.args.commands)) (names_of spec.spec_name c.args.name.now)) r) (sym none) (no-memory (Some (spec.generated c.args.commands)) (names_of spec.spec_name c.args.name.now))

pub returns-in_err-script-clause-checked : goal.returns-in_err-script-clause-checked
returns-in_err-script-clause-checked c =
    let none : c.from_residual-in_err-script.result ≡ Err OutOfMemory = search rules in
    subst (λ (r : Result Checked Stop). InMemory (ChecksFiles (Some (spec.generated c.args.commands)) (names_of spec.spec_name c.args.name.now)) r) (sym none) (no-memory (Some (spec.generated c.args.commands)) (names_of spec.spec_name c.args.name.now))

pub returns-clause-checked : goal.returns-clause-checked
returns-clause-checked c =
    same-files c.new-shelf.result.files (spec.generated_files c.args.commands) c.in_ok-specification.specification spec.spec_name c.in_ok-script.script c.args.name.now c.check_files.result
    (search rules) (search rules) (search rules) (let (calls, checks, read) = c.check_files.ensures in (calls, checks))
