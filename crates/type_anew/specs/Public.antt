-- The words that speak of schemas and databases numbered anew, of the trees that schemas are written as, and of what typing gives of these trees.
pub use Rattle.type_anew.specs.RenumberedAnew.{renumbered_type, AreFieldsAnew, AreModelsAnew, AreStaticsAnew, IsAnew}
pub use Rattle.type_anew.specs.Policies.{new_static, renumbered_principal, renumbered_expr, renumbered_set, renumbered_policy}
pub use Rattle.type_anew.specs.RenumberedLaws.{IsMovedTo, DatabasesMove, PoliciesMeanTheSame}
pub use Rattle.type_anew.specs.Labels.{IsLabelled, SetIsLabelled, PolicyIsLabelled}
pub use Rattle.type_anew.specs.Told.{PolicyIsTold, IsTold}
pub use Rattle.type_anew.specs.RetypedKept.{SpecsAreTold, CommandsKeepTold, ScriptsAreTold}
pub use Rattle.type_anew.specs.RetypedAnew.{renumbered_target, HasPoliciesAnew, KeepsRights}
pub use Rattle.type_anew.specs.RetypedLaws.{CountsStay, SchemasComeAnew, PoliciesComeAnew, RightsStay}
pub use Rattle.type_anew.specs.Room.{IsWithinNumbers, IsWithinSizes}
pub use Rattle.type_anew.specs.RetypingKept.{SpecsHaveRoom, CommandsKeepRoom, ScriptsKeepRoom}
pub use Rattle.type_anew.specs.RetypingLaws.{TreesAreResolved, TreesAreTyped}
pub use Rattle.type_anew.specs.Names.{Names, names_in}
pub use Rattle.type_anew.specs.Trees.{written_expr, written_set, written_policy}
pub use Rattle.type_anew.specs.Specs.{written_type, written_spec}
pub use Rattle.type_anew.specs.RoundTrip.{CommandsComeBack, SpecsComeBack, WrittenIsStripped}
pub use Rattle.type_anew.specs.Changed.{spec_after}
