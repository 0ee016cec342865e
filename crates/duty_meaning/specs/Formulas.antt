-- Expressions and sets as formulas over the structure of a database.
use Rattle.std.specs.Prelude.{ℕ, suc, Bool, false, not, ◌&&◌, ◌==◌, List, [], ◌∷◌, ◌++◌, fold, Option, None, Some, slice_index_or, if◌then◌else◌}
use Rattle.std.specs.Option.{option_map_or}
use Rattle.text_tree.specs.declared.exprs.FilterOp.{FilterOp}
use Rattle.text_tree.specs.declared.exprs.FilterOp.TheVariants.{Cmp, Has}
use Rattle.type_schema.specs.Trees.{Expr, flag, num, str, var, nothing, just, get, equal, iff, less, within, negation, both, either, if_expr, match_expr, SetExpr, everyone, nobody, listed, union, minus, find, path, mapped, flat_mapped, if_set, match_set, Items, no_items, static_item, record_item, Filters, no_filters, filter_and, Policy, to_all, to_none, by_record, Init, plain, of_set}
use Rattle.type_schema.specs.Schema.{Added, Schema}
use Rattle.data_meaning.specs.Meaning.{same_truth}
use Rattle.form_formula.specs.Trees.{Term, Formula}
use Rattle.form_formula.specs.Trees as formula
use Rattle.duty_meaning.specs.Structures.{sort_of}
use Rattle.duty_meaning.specs.Cases.{Condition, constant, atom, and_if, or_if, exists_if, all_if, any_if, chosen, same_condition, Cases, at_term, held, truth, among, none, choice, continued, at_ends, of_term, at_terms, of_option, condition_of, has_term, same_term, less_term, some_of, compared}

-- Whom a set is asked about: a static principal, or the record of a model that a term is. Sizes ask about a term that is of each kind.
pub data Who : Type 0 where
  static : ℕ → Who
  record_at : (model : ℕ) → Term → Who
  of_each_kind : Term → Who

-- a condition on the term of whom is asked about, which fails where it is no record of the model
abbrev pub of_model : ℕ → Who → (Term → Condition) → Condition
of_model m (static n) k sign above = constant (not sign)
of_model m (record_at n t) k sign above = if n == m then k t sign above else constant (not sign)
of_model m (of_each_kind t) k sign above = k t sign above

abbrev pub is_static : ℕ → Who → Bool
is_static n (static k) = k == n
is_static n (record_at m t) = false
is_static n (of_each_kind t) = false

-- the values of the variables, the outermost first
abbrev pub Scene : Type 0
Scene = List Cases

-- for a field of a model that stands for what its initialiser gives: that, at each term; for each other field nothing
abbrev pub Written : Type 0
Written = ℕ → ℕ → Option (Term → Cases)

abbrev pub nothing_written : Written
nothing_written m f = None

module _ (s : Schema) (written : Written) where
  -- what the field of a record of the model holds
  abbrev pub field_cases : ℕ → ℕ → Term → Cases
  field_cases m f t = option_map_or (λ (at : Term → Cases). at t) (written m f) (held m f t)

  -- the test of a filter
  abbrev pub passes : FilterOp → Cases → Cases → Condition
  passes (Cmp op) field v = compared s op field v
  passes Has field v = λ sign above. at_terms s above (λ t. has_term s field t sign above) v

  -- the variable of the next quantifier
  abbrev pub next_variable : ℕ → ℕ → Term
  next_variable m above = formula.bound (sort_of s m) above

  abbrev mutual
    -- the value of an expression
    pub cases_of : Scene → Expr → Cases
    cases_of env (flag b) = truth (λ sign above. constant (same_truth sign b))
    cases_of env (num n) = at_term (formula.num n)
    cases_of env (str bytes) = at_term (formula.str bytes)
    cases_of env (var depth name) = slice_index_or env depth none
    cases_of env nothing = none
    cases_of env (just e) = some_of s (cases_of env e)
    cases_of env (get e m f) = continued (of_term s none (field_cases m f)) (cases_of env e)
    cases_of env (equal a b op) = truth (same_term s (cases_of env a) (cases_of env b))
    cases_of env (iff a b op) = truth (same_condition (condition_of s (cases_of env a)) (condition_of s (cases_of env b)))
    cases_of env (less a b op) = truth (less_term s (cases_of env a) (cases_of env b))
    cases_of env (within e m set) =
        truth (λ sign above. at_terms s above (λ t. is_in env set (record_at m t) sign above) (cases_of env e))
    cases_of env (negation e) = truth (λ sign above. condition_of s (cases_of env e) (not sign) above)
    cases_of env (both a b) =
        truth (λ sign above. and_if sign (condition_of s (cases_of env a) sign above) (condition_of s (cases_of env b) sign above))
    cases_of env (either a b) =
        truth (λ sign above. or_if sign (condition_of s (cases_of env a) sign above) (condition_of s (cases_of env b) sign above))
    cases_of env (if_expr c a b) = choice (condition_of s (cases_of env c)) (cases_of env a) (cases_of env b)
    cases_of env (match_expr e a name c) = continued (of_option s choice (cases_of env a) (λ v. cases_of (env ++ v ∷ []) c)) (cases_of env e)

    -- whether a principal, or a record, is in a set; an end of another kind is no
    pub is_in : Scene → SetExpr → Who → Condition
    is_in env everyone q sign above = constant sign
    is_in env nobody q sign above = constant (not sign)
    is_in env (listed items) q sign above = any_if sign (items_in env items q sign above)
    is_in env (union a b) q sign above = or_if sign (is_in env a q sign above) (is_in env b q sign above)
    is_in env (minus a b) q sign above = and_if sign (is_in env a q sign above) (is_in env b q (not sign) above)
    is_in env (find m filters) q sign above = of_model m q (λ t sign above. all_if sign (filters_at env m filters t sign above)) sign above
    is_in env (path m e) q sign above = of_model m q (has_term s (cases_of env e)) sign above
    is_in env (mapped set n name m e) q sign above =
        exists_if sign (sort_of s n) (and_if sign (is_in env set (record_at n (next_variable n above)) sign (suc above))
        (at_terms s (suc above) (λ t. of_model m q (λ u sign above. atom sign (formula.equal u t)) sign (suc above))
        (cases_of (env ++ at_term (next_variable n above) ∷ []) e)))
    is_in env (flat_mapped set n name body) q sign above =
        exists_if sign (sort_of s n) (and_if sign (is_in env set (record_at n (next_variable n above)) sign (suc above))
        (is_in (env ++ at_term (next_variable n above) ∷ []) body q sign (suc above)))
    is_in env (if_set c a b) q sign above = chosen above (condition_of s (cases_of env c)) (is_in env a q sign above) (is_in env b q sign above)
    is_in env (match_set e a name c) q sign above =
        at_ends above (of_option s (chosen above) (is_in env a q sign above) (λ v. is_in (env ++ v ∷ []) c q sign above)) (cases_of env e)

    pub items_in : Scene → Items → Who → Bool → ℕ → List Formula
    items_in env no_items q sign above = []
    items_in env (static_item n items) q sign above = constant (same_truth sign (is_static n q)) ∷ items_in env items q sign above
    items_in env (record_item m e items) q sign above =
        at_terms s above (λ t. of_model m q (λ u sign above. atom sign (formula.equal u t)) sign above) (cases_of env e)
        ∷ items_in env items q sign above

    -- what each filter asks of the record of the model that the term is
    pub filters_at : Scene → ℕ → Filters → Term → Bool → ℕ → List Formula
    filters_at env m no_filters t sign above = []
    filters_at env m (filter_and f op e filters) t sign above =
        passes op (field_cases m f t) (cases_of env e) sign above ∷ filters_at env m filters t sign above

  -- whether a policy allows a principal its right on the record of the model that the term is
  abbrev pub is_allowed : Policy → Term → Who → Condition
  is_allowed to_all r q sign above = constant sign
  is_allowed to_none r q sign above = constant (not sign)
  is_allowed (by_record name set) r q sign above = is_in (at_term r ∷ []) set q sign above

  -- what an initialiser gives at a term
  abbrev pub init_cases : Init → Term → Cases
  init_cases (plain e) t = cases_of (at_term t ∷ []) e
  init_cases (of_set m set) t = among (λ u. is_in (at_term t ∷ []) set (record_at m u))

-- ---- added fields, written out

-- one more added field, whose initialiser reads such as were added before it
abbrev pub with_added : Schema → Written → Added → Written
with_added s written a m f = if (a.model == m) && (a.field == f) then Some (init_cases s written a.init) else written m f

abbrev pub written_out : Schema → List Added → Written
written_out s added = fold (with_added s) nothing_written added
