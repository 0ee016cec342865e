-- Whether the node of a term that is no function at a term is a dependent variable.
use Rattle.std.specs.Prelude.{Bool, true, false, List, slice_index_or}
use Rattle.form_formula.specs.declared.node.Node.{Node}
use Rattle.form_formula.specs.declared.node.Node.TheVariants.{Bound, Num, Str, App, Yes, No, Eq, Less, Has, Flag, Present, Not, And, Or, Exists, Forall}

abbrev pub own_dependence : List Bool → Node → Bool
own_dependence dependent (Bound sort depth) = slice_index_or dependent depth true
own_dependence dependent (Num n) = false
own_dependence dependent (Str t) = false
own_dependence dependent (App f t) = false
own_dependence dependent Yes = false
own_dependence dependent No = false
own_dependence dependent (Eq s t) = false
own_dependence dependent (Less s t) = false
own_dependence dependent (Has f s t) = false
own_dependence dependent (Flag f t) = false
own_dependence dependent (Present f t) = false
own_dependence dependent (Not a) = false
own_dependence dependent (And a b) = false
own_dependence dependent (Or a b) = false
own_dependence dependent (Exists sort a) = false
own_dependence dependent (Forall sort a) = false
