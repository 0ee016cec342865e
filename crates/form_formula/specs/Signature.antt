-- What makes a signature.
use Rattle.std.specs.Prelude.{ℕ, ◌^◌, Bool, true, ◌&&◌, List, length, nat_lt}
use Rattle.std.specs.List.{list_all}
use Rattle.form_formula.specs.declared.structure.Range.{Range}
use Rattle.form_formula.specs.declared.structure.Range.TheVariants.{Rec, Flag, Num, Str}
use Rattle.form_formula.specs.declared.structure.FunSig.{FunSig}
use Rattle.form_formula.specs.declared.structure.SetSig.{SetSig}

-- the sort that a function gives elements of, if it does, is there
abbrev pub has_range : ℕ → Range → Bool
has_range sorts (Rec sort) = nat_lt sort sorts
has_range sorts Flag = true
has_range sorts Num = true
has_range sorts Str = true

-- the sorts that functions and set relations name are there, and numbers of 32 bits serve for all
abbrev pub is_signature : ℕ → List FunSig → List SetSig → Bool
is_signature sorts funs sets =
    nat_lt (length funs) (2 ^ 32) && nat_lt (length sets) (2 ^ 32)
    && list_all (λ f. nat_lt f.from sorts && has_range sorts f.to) funs
    && list_all (λ r. nat_lt r.from sorts && nat_lt r.to sorts) sets
