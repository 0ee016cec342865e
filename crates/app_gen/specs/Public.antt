-- The texts of the generator.
pub use Rattle.app_gen.specs.Generated.{policy_with, spec_text, script_text, loosened_text}
