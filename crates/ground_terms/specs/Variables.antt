-- The variables of a formula, in the code's form.
use Rattle.form_terms.specs.Parts as tree
use Rattle.ground_terms.specs.declared.part.Variable.{Variable}

-- the variable
abbrev pub variable_at : Variable → tree.Variable
variable_at w = record { number = w.number; sort = w.sort; above = w.above }
