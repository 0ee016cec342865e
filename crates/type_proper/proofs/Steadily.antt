-- A schema stays proper under each command that fits it.
use Rattle.type_schema.specs.Commands.{create_model, delete_model, add_static, remove_static, add_principal, add_field, remove_field, update_field, weaken_field, update_model, weaken_model}
use Rattle.type_proper.specs.Fits.{CommandsKeepSteady}
use Rattle.type_proper.proofs.After.{added_static-steady, created-steady, field_policies-steady, policies-steady, principal-steady}
use Rattle.type_proper.proofs.Gone.{deleted-steady, removed_field-steady, removed_static-steady}
use Rattle.type_proper.proofs.WithField.{added_field-steady}

pub commands_keep_steady : CommandsKeepSteady
commands_keep_steady s (create_model info) steady fits = created-steady s steady info fits.0 fits.1 fits.2 fits.3 fits.4 fits.5
commands_keep_steady s (delete_model m) steady fits = deleted-steady s steady m fits
commands_keep_steady s (add_static info) steady fits = added_static-steady s steady info fits.0 fits.1
commands_keep_steady s (remove_static n) steady fits = removed_static-steady s steady n fits
commands_keep_steady s (add_principal m) steady fits = principal-steady s steady m
commands_keep_steady s (add_field m f init) steady fits = added_field-steady s steady m f init fits.0 fits.1 fits.2 fits.3 fits.4
commands_keep_steady s (remove_field m f) steady fits = removed_field-steady s steady m f fits
commands_keep_steady s (update_field m f read write) steady fits = field_policies-steady s steady m f read write fits.0.0 fits.1.0 fits.0.1 fits.1.1
commands_keep_steady s (weaken_field m f read write reason) steady fits = field_policies-steady s steady m f read write fits.0.0 fits.1.0 fits.0.1 fits.1.1
commands_keep_steady s (update_model m create delete) steady fits = policies-steady s steady m create delete fits.0.0 fits.1.0 fits.0.1 fits.1.1
commands_keep_steady s (weaken_model m create delete reason) steady fits = policies-steady s steady m create delete fits.0.0 fits.1.0 fits.0.1 fits.1.1
