use Rattle.std.proofs.Common.{◌++◌, append_assoc, codes}
use Rattle.text_print.specs.Commands.{added, close, on_model}
use Rattle.text_print.specs.Marks.{text_of_marks}
use Rattle.text_print.proofs.Parts.{grown3, text3}
use Rattle.text_print.proofs.Joined.{text-append}
use Rattle.text_print.proofs.printer.Printer.command.Goals as goal

pub returns-in_ok-put-in-CreateModel-2 : goal.returns-in_ok-put-in-CreateModel-2
returns-in_ok-put-in-CreateModel-2 c =
    simp (c.in-CreateModel.is, c.in_ok-put-in-CreateModel.ensures, c.in_ok-model-in-CreateModel.ensures, c.in_ok-put-in-CreateModel-2.ensures, text-append, append_assoc)

pub returns-in-DeleteModel : goal.returns-in-DeleteModel
returns-in-DeleteModel c = rw c.in-DeleteModel.is c.naming.ensures

pub returns-in-AddStatic : goal.returns-in-AddStatic
returns-in-AddStatic c = rw c.in-AddStatic.is c.naming-in-AddStatic.ensures

pub returns-in-RemoveStatic : goal.returns-in-RemoveStatic
returns-in-RemoveStatic c = rw c.in-RemoveStatic.is c.naming-in-RemoveStatic.ensures

pub returns-in-AddPrincipal : goal.returns-in-AddPrincipal
returns-in-AddPrincipal c = rw c.in-AddPrincipal.is c.naming-in-AddPrincipal.ensures

pub returns-in_ok-put-in-AddField : goal.returns-in_ok-put-in-AddField
returns-in_ok-put-in-AddField c =
    rw (c.in-AddField.is)
    (grown3 c.args.self.now c.on_model.new.self c.added.new.self c.put-in-AddField.new.self
    (text_of_marks (on_model c.in-AddField.model (codes "AddField"))) (text_of_marks (added c.in-AddField.field c.in-AddField.x c.in-AddField.init)) (codes ")")
    (text_of_marks (on_model c.in-AddField.model (codes "AddField") ++ (added c.in-AddField.field c.in-AddField.x c.in-AddField.init ++ close)))
    c.in_ok-on_model-in-AddField.ensures c.in_ok-added-in-AddField.ensures c.in_ok-put-in-AddField.ensures
    (text3 (on_model c.in-AddField.model (codes "AddField")) (added c.in-AddField.field c.in-AddField.x c.in-AddField.init) close))

pub returns-in_ok-put-in-UpdateFieldPolicy : goal.returns-in_ok-put-in-UpdateFieldPolicy
returns-in_ok-put-in-UpdateFieldPolicy c =
    simp (c.in-UpdateFieldPolicy.is, c.in_ok-on_model-in-UpdateFieldPolicy.ensures, c.in_ok-field_rights-in-UpdateFieldPolicy.ensures, c.in_ok-put-in-UpdateFieldPolicy.ensures, text-append, append_assoc)

pub returns-in_ok-put-in-WeakenFieldPolicy : goal.returns-in_ok-put-in-WeakenFieldPolicy
returns-in_ok-put-in-WeakenFieldPolicy c =
    simp (c.in-WeakenFieldPolicy.is, c.in_ok-on_model-in-WeakenFieldPolicy.ensures, c.in_ok-field_rights-in-WeakenFieldPolicy.ensures, c.in_ok-reason-in-WeakenFieldPolicy.ensures, c.in_ok-put-in-WeakenFieldPolicy.ensures, text-append, append_assoc)

pub returns-in_ok-put-in-UpdatePolicy : goal.returns-in_ok-put-in-UpdatePolicy
returns-in_ok-put-in-UpdatePolicy c =
    simp (c.in-UpdatePolicy.is, c.in_ok-on_model-in-UpdatePolicy.ensures, c.in_ok-rights-in-UpdatePolicy.ensures, c.in_ok-put-in-UpdatePolicy.ensures, text-append, append_assoc)

pub returns-in_ok-put-in-WeakenPolicy : goal.returns-in_ok-put-in-WeakenPolicy
returns-in_ok-put-in-WeakenPolicy c =
    simp (c.in-WeakenPolicy.is, c.in_ok-on_model-in-WeakenPolicy.ensures, c.in_ok-rights-in-WeakenPolicy.ensures, c.in_ok-reason-in-WeakenPolicy.ensures, c.in_ok-put-in-WeakenPolicy.ensures, text-append, append_assoc)
