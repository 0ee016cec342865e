-- When the value of an initialiser, at a record, is read from a field of another record by one of its uses of fields.
use Rattle.std.specs.Prelude.{ℕ, suc, ◌-◌, true, false, ◌∷◌, ◌++◌, [], length, nat_lt, if◌then◌else◌}
use Rattle.text_tree.specs.declared.exprs.CmpOp.{CmpOp}
use Rattle.text_tree.specs.declared.exprs.CmpOp.TheVariants.{Eq, Ne, Lt, Le, Gt, Ge}
use Rattle.type_schema.specs.Trees.{Expr, flag, num, str, var, nothing, just, get, equal, iff, less, within, negation, both, either, if_expr, match_expr, SetExpr, everyone, nobody, listed, union, minus, find, path, mapped, flat_mapped, if_set, match_set, Items, no_items, static_item, record_item, Filters, no_filters, filter_and, Init, plain, of_set}
use Rattle.type_schema.specs.Schema.{Schema}
use Rattle.type_schema.specs.Uses.{uses_of, set_uses_of}
use Rattle.form_formula.specs.Trees.{Term, Formula, yes, no}
use Rattle.form_formula.specs.Trees as formula
use Rattle.duty_meaning.specs.Structures.{sort_of}
use Rattle.duty_meaning.specs.Cases.{Cases, at_term, held, truth, among, none, some, choice, at_ends, at_terms, is_present, condition_of}
use Rattle.duty_meaning.specs.Formulas.{record_at, Scene, Written, cases_of, is_in, next_variable}

-- the use of this number, where so many stand in the first part and the rest in the second
abbrev pub in_parts : {A : Type 0} → ℕ → (ℕ → A) → (ℕ → A) → ℕ → A
in_parts count first second number = if nat_lt number count then first number else second (number - count)

-- what the two sides of `less` give, in the order of the text: with `>` and `<=` the sides are exchanged
abbrev pub sides : {A : Type 0} → CmpOp → ℕ → ℕ → (ℕ → A) → (ℕ → A) → ℕ → A
sides Eq left right first second number = in_parts left first second number
sides Ne left right first second number = in_parts left first second number
sides Lt left right first second number = in_parts left first second number
sides Le left right first second number = in_parts right second first number
sides Gt left right first second number = in_parts right second first number
sides Ge left right first second number = in_parts left first second number

module _ (s : Schema) where
  -- the formula in the branch for none, and in the branch for some value; otherwise, which typing rules out, the first is taken
  abbrev pub end_is_none : Formula → Cases → Formula
  end_is_none a (at_term t) = a
  end_is_none a (held m f t) = formula.both (is_present s m f t false 0) a
  end_is_none a (truth c) = a
  end_is_none a (among members) = a
  end_is_none a none = a
  end_is_none a (some v) = no
  end_is_none a (choice c x y) = a

  abbrev pub end_is_some : (Cases → Formula) → Cases → Formula
  end_is_some k (at_term t) = no
  end_is_some k (held m f t) = formula.both (is_present s m f t true 0) (k (held m f t))
  end_is_some k (truth c) = no
  end_is_some k (among members) = no
  end_is_some k none = no
  end_is_some k (some v) = k v
  end_is_some k (choice c x y) = no

-- The formula says that the use of this number, counted from 0, reads its field of the record y. A use of an access reads at the record
-- that it accesses, and the field of a filter is read at each record.
module _ (s : Schema) (written : Written) (y : Term) where
  abbrev mutual
    pub reach : Scene → Expr → ℕ → ℕ → Formula
    reach env (flag b) number above = no
    reach env (num n) number above = no
    reach env (str bytes) number above = no
    reach env (var depth name) number above = no
    reach env nothing number above = no
    reach env (just e) number above = reach env e number above
    reach env (get e m f) number above =
        in_parts (length (uses_of e)) (λ number. reach env e number above) (λ number. at_terms s above (λ t. formula.equal y t) (cases_of s written env e)) number
    reach env (equal a b op) number above = in_parts (length (uses_of a)) (λ number. reach env a number above) (λ number. reach env b number above) number
    reach env (iff a b op) number above = in_parts (length (uses_of a)) (λ number. reach env a number above) (λ number. reach env b number above) number
    reach env (less a b op) number above =
        sides op (length (uses_of a)) (length (uses_of b)) (λ number. reach env a number above) (λ number. reach env b number above) number
    reach env (within e m set) number above =
        in_parts (length (uses_of e)) (λ number. reach env e number above) (λ number. set_reach env set number above) number
    reach env (negation e) number above = reach env e number above
    reach env (both a b) number above = in_parts (length (uses_of a)) (λ number. reach env a number above) (λ number. reach env b number above) number
    reach env (either a b) number above = in_parts (length (uses_of a)) (λ number. reach env a number above) (λ number. reach env b number above) number
    reach env (if_expr c a b) number above =
        in_parts (length (uses_of c)) (λ number. reach env c number above)
        (in_parts (length (uses_of a))
        (λ number. formula.both (condition_of s (cases_of s written env c) true above) (reach env a number above))
        (λ number. formula.both (condition_of s (cases_of s written env c) false above) (reach env b number above))) number
    reach env (match_expr e a name c) number above =
        in_parts (length (uses_of e)) (λ number. reach env e number above)
        (in_parts (length (uses_of a))
        (λ number. at_ends above (end_is_none s (reach env a number above)) (cases_of s written env e))
        (λ number. at_ends above (end_is_some s (λ v. reach (env ++ v ∷ []) c number above)) (cases_of s written env e))) number

    pub set_reach : Scene → SetExpr → ℕ → ℕ → Formula
    set_reach env everyone number above = no
    set_reach env nobody number above = no
    set_reach env (listed items) number above = items_reach env items number above
    set_reach env (union a b) number above =
        in_parts (length (set_uses_of a)) (λ number. set_reach env a number above) (λ number. set_reach env b number above) number
    set_reach env (minus a b) number above =
        in_parts (length (set_uses_of a)) (λ number. set_reach env a number above) (λ number. set_reach env b number above) number
    set_reach env (find m filters) number above = filters_reach env m filters number above
    set_reach env (path m e) number above = reach env e number above
    set_reach env (mapped set n name m e) number above =
        in_parts (length (set_uses_of set)) (λ number. set_reach env set number above)
        (λ number. formula.exists (sort_of s n)
        (formula.both (is_in s written env set (record_at n (next_variable s written n above)) true (suc above))
        (reach (env ++ at_term (next_variable s written n above) ∷ []) e number (suc above)))) number
    set_reach env (flat_mapped set n name body) number above =
        in_parts (length (set_uses_of set)) (λ number. set_reach env set number above)
        (λ number. formula.exists (sort_of s n)
        (formula.both (is_in s written env set (record_at n (next_variable s written n above)) true (suc above))
        (set_reach (env ++ at_term (next_variable s written n above) ∷ []) body number (suc above)))) number
    set_reach env (if_set c a b) number above =
        in_parts (length (uses_of c)) (λ number. reach env c number above)
        (in_parts (length (set_uses_of a))
        (λ number. formula.both (condition_of s (cases_of s written env c) true above) (set_reach env a number above))
        (λ number. formula.both (condition_of s (cases_of s written env c) false above) (set_reach env b number above))) number
    set_reach env (match_set e a name c) number above =
        in_parts (length (uses_of e)) (λ number. reach env e number above)
        (in_parts (length (set_uses_of a))
        (λ number. at_ends above (end_is_none s (set_reach env a number above)) (cases_of s written env e))
        (λ number. at_ends above (end_is_some s (λ v. set_reach (env ++ v ∷ []) c number above)) (cases_of s written env e))) number

    pub items_reach : Scene → Items → ℕ → ℕ → Formula
    items_reach env no_items number above = no
    items_reach env (static_item n items) number above = items_reach env items number above
    items_reach env (record_item m e items) number above =
        in_parts (length (uses_of e)) (λ number. reach env e number above) (λ number. items_reach env items number above) number

    pub filters_reach : Scene → ℕ → Filters → ℕ → ℕ → Formula
    filters_reach env m no_filters number above = no
    filters_reach env m (filter_and f op e filters) number above =
        in_parts (length (uses_of e)) (λ number. reach env e number above)
        (in_parts 1 (λ number. yes) (λ number. filters_reach env m filters number above)) number

  -- at the record of the initialiser's model that the term is
  abbrev pub init_reach : Init → Term → ℕ → ℕ → Formula
  init_reach (plain e) t number above = reach (at_term t ∷ []) e number above
  init_reach (of_set m set) t number above = set_reach (at_term t ∷ []) set number above
