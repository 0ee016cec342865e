-- Values that may lie in a structure.
use Rattle.std.specs.Prelude.{ℕ, List, [], ◌∷◌, Option, Some, None, option_and_then, slice_get}
use Rattle.std.specs.Option.{option_map}
use Rattle.form_formula.specs.declared.node.Node.{Node}
use Rattle.form_formula.specs.declared.node.Node.TheVariants as node
use Rattle.form_formula.specs.declared.structure.Structure.{Structure}
use Rattle.form_formula.specs.Truth.{entry, element_of}
use Rattle.form_formula.specs.declared.structure.SVal.{SVal}
use Rattle.form_formula.specs.declared.structure.SVal.TheVariants as sval
use Rattle.form_formula.specs.declared.value.Value.{Value}
use Rattle.form_formula.specs.declared.value.Value.TheVariants.{Rec, Flag, Num, Str}

-- the value itself
abbrev pub sval_of : Value → SVal
sval_of (Rec x) = sval.Rec x
sval_of (Flag b) = sval.Flag b
sval_of (Num n) = sval.Num n
sval_of (Str t) = sval.Str t.now

-- what a function has at a value
abbrev pub apply_to : Structure → ℕ → Option SVal → Option SVal
apply_to s f v = option_and_then (entry s f) (option_and_then element_of v)

-- and what several have, the outermost first
abbrev pub applied : Structure → List ℕ → Option SVal → Option SVal
applied s [] v = v
applied s (f ∷ fs) v = apply_to s f (applied s fs v)

-- the value of a node that has one by itself
abbrev pub own_value : List ℕ → Node → Option SVal
own_value env (node.Bound sort depth) = option_map (λ x. sval.Rec x) (slice_get env depth)
own_value env (node.Num n) = Some (sval.Num n)
own_value env (node.Str t) = Some (sval.Str t)
own_value env (node.App f t) = None
own_value env node.Yes = None
own_value env node.No = None
own_value env (node.Eq s t) = None
own_value env (node.Less s t) = None
own_value env (node.Has f s t) = None
own_value env (node.Flag f t) = None
own_value env (node.Present f t) = None
own_value env (node.Not a) = None
own_value env (node.And a b) = None
own_value env (node.Or a b) = None
own_value env (node.Exists sort a) = None
own_value env (node.Forall sort a) = None
