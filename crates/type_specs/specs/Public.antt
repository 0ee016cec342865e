-- The words that speak of typed specifications.
pub use Rattle.type_specs.specs.InTurn.{in_turn, all_hold, GivesSeen, Becomes}
pub use Rattle.type_specs.specs.NewNames.{one_more, is_taken, new_static, new_model, new_field, fields_differ}
pub use Rattle.type_specs.specs.Models.{policy_over, typed_field, with_models, created_model}
pub use Rattle.type_specs.specs.Sizes.{Sizes, most_size, is_small, models_are_small}
pub use Rattle.type_specs.specs.Specs.{next_static, resolved_spec, typed_spec}
pub use Rattle.type_specs.specs.Worked.{WorkedSpecs}
