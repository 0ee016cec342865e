-- The limits of specifications and scripts.
use Rattle.std.specs.Prelude.{ℕ}
use Rattle.text_ast.specs.declared.limits.TheConstants.{MOST_COMMANDS, MOST_FIELDS, MOST_LEVELS, MOST_MODELS, MOST_STATICS, MOST_TOKENS}

-- how deep expressions and sets nest, and how many tokens the outermost have
abbrev pub most_levels : ℕ
most_levels = MOST_LEVELS

abbrev pub most_tokens : ℕ
most_tokens = MOST_TOKENS

abbrev pub most_statics : ℕ
most_statics = MOST_STATICS

abbrev pub most_models : ℕ
most_models = MOST_MODELS

-- of one model
abbrev pub most_fields : ℕ
most_fields = MOST_FIELDS

abbrev pub most_commands : ℕ
most_commands = MOST_COMMANDS
