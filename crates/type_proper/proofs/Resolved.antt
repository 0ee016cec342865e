-- What a command is over a proper schema fits it.
use Rattle.text_tree.specs.declared.commands.Command.TheVariants as w
use Rattle.type_commands.specs.Resolved.{resolved}
use Rattle.type_proper.specs.Fits.{ResolvedFit}
use Rattle.type_proper.proofs.NewField.{added_field-fits}
use Rattle.type_proper.proofs.NewModel.{created-fits}
use Rattle.type_proper.proofs.Resolves.{added_static-fits, new_principal-fits, removed_field-fits, removed_model-fits, removed_static-fits, updated_field-fits, updated_model-fits, weakened_field-fits, weakened_model-fits}

pub resolved_fit : ResolvedFit
unfolding resolved
resolved_fit s (w.CreateModel d at) command steady lit e = created-fits s steady d command lit e
resolved_fit s (w.DeleteModel model at) command steady lit e = removed_model-fits s model command e
resolved_fit s (w.AddStatic x at) command steady lit e = added_static-fits s x command e
resolved_fit s (w.RemoveStatic x at) command steady lit e = removed_static-fits s x command e
resolved_fit s (w.AddPrincipal model at) command steady lit e = new_principal-fits s model command e
resolved_fit s (w.AddField model f x init at) command steady lit e = added_field-fits s steady model f x init command lit e
resolved_fit s (w.RemoveField model x at) command steady lit e = removed_field-fits s model x command e
resolved_fit s (w.UpdateFieldPolicy model x read write at) command steady lit e = updated_field-fits s steady model x read write command lit e
resolved_fit s (w.WeakenFieldPolicy model x read write reason at) command steady lit e = weakened_field-fits s steady model x read write reason command lit e
resolved_fit s (w.UpdatePolicy model create delete at) command steady lit e = updated_model-fits s steady model create delete command lit e
resolved_fit s (w.WeakenPolicy model create delete reason at) command steady lit e = weakened_model-fits s steady model create delete reason command lit e
