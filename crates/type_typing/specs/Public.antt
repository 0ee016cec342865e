-- The words that speak of typing.
pub use Rattle.type_typing.specs.Outcome.{Checked, Gives}
pub use Rattle.type_typing.specs.Names.{plain_of}
pub use Rattle.type_typing.specs.Exprs.{typed_expr, typed_set}
pub use Rattle.type_typing.specs.Worked.{WorkedTypes}
pub use Rattle.type_typing.specs.Policies.{typed_init, typed_policy, typed_type}
pub use Rattle.type_typing.specs.WellTyped.{HasLiterals, PolicyHasLiterals, InitHasLiterals, HasFields, HaveFields, TypedIsWellTyped}
