-- What pieces spell of expressions and sets, the same pieces elsewhere spell too, offsets aside.
use Rattle.std.proofs.Common.{◌≡◌, ℕ, zero, suc, List, [], ◌∷◌, refl, sym, ◌∙◌, ap, true, false, pos}
use Rattle.std.specs.List.{fold}
use Rattle.text_ast.specs.Pieces.{Piece}
use Rattle.text_tree.specs.declared.exprs.CmpOp.{CmpOp}
use Rattle.text_tree.specs.declared.exprs.FilterOp.{FilterOp}
use Rattle.text_tree.specs.declared.exprs.FilterOp.TheVariants as filter
use Rattle.text_tree.specs.declared.exprs.Expr.{Expr}
use Rattle.text_tree.specs.declared.exprs.Expr.TheVariants as e
use Rattle.text_tree.specs.declared.exprs.SetExpr.{SetExpr}
use Rattle.text_tree.specs.declared.exprs.SetExpr.TheVariants as s
use Rattle.text_tree.specs.declared.exprs.Item.TheVariants as item
use Rattle.text_tree.specs.Forms.{Upper, Lower, Plain, Negated, Literal, part}
use Rattle.text_tree.specs.Levels.{SpellsPart}
use Rattle.text_tree.specs.LiteralValue.{literal_value}
use Rattle.text_tree.specs.Placed.{expr_at, placed_expr, placed_set}
use Rattle.text_tree.specs.ExprGrammar.{Expression, Set, G, rule, var_of, get, step, named, minus, listed, path_root, path, flag, number, literal, option, atom, unary, cmp_op, container, comparison, compared, conjunction, disjunction, condition, branches, if_expr, scrutinee, none_branch, some_branch, match_expr, expression, item_form, list, filter_op, filter_form, find, map_step, flat_step, steps, found, path_steps, path_chain, set_term, set_step, sum, if_set, match_set, set}
use Rattle.text_tree.specs.Stripped.{stripped_name}
use Rattle.text_print.proofs.Canonical.{Same}
use Rattle.text_print.proofs.Chains.{SameBytes, fields_as, steps_as}
use Rattle.text_print.proofs.Compounds.{and_as, cmp_as, member_as, or_as}
use Rattle.text_print.proofs.Elsewhere.{Both, Steady, behind_steady, between_steady, both_steady, each_steady, either_steady, ended_steady, mapped_steady, nothing_steady, part_steady, token_steady}
use Rattle.text_print.proofs.ExprForms.{not_as, num_as, some_as, str_as, var_as}
use Rattle.text_print.proofs.ExprRule as expr
use Rattle.text_print.proofs.Layers as layer
use Rattle.text_print.proofs.Ranks.{AsExpr}
use Rattle.text_print.proofs.SetForms.{AsFilter, AsItem, filter_as, list_as}
use Rattle.text_print.proofs.SetRanks.{AsSet, path_as}
use Rattle.text_print.proofs.SetRule as rules
use Rattle.text_print.proofs.Steps.{AsStep, find_as, flat_as, map_as}
use Rattle.text_print.proofs.Tokens.{Pieces}

-- the parts of the forms
pub record Parts (S : Pieces) : Type 0 where
  pub expr : Steady S (part Expression) AsExpr
  pub set : Steady S (part Set) AsSet

-- ---- expressions

placed_as : (a b : ℕ) (x y : Expr) → AsExpr x y → AsExpr (placed_expr a x) (placed_expr b y)
placed_as a b x y h = layer.stripped_placed_expr b y ∙ h ∙ sym (layer.stripped_placed_expr a x)

root_steady : {S : Pieces} → Parts S → Steady S path_root AsExpr
unfolding path_root
root_steady {S} p =
    either_steady (mapped_steady {R = SameBytes} (λ l m r. var_as m l r) (token_steady Lower))
    (mapped_steady {R = Both SameBytes (Both AsExpr SameBytes)} (λ v w r. placed_as v.0.at w.0.at v.1.0 w.1.0 r.1.0)
    (both_steady (token_steady _) (both_steady p.expr (token_steady _))))

path_steady : {S : Pieces} → Parts S → Steady S path AsExpr
unfolding path
path_steady {S} p =
    mapped_steady {R = Both AsExpr (Same SameBytes)} (λ v w r. fields_as v.1 w.1 v.0 w.0 r.0 r.1)
    (both_steady (root_steady p) (each_steady (behind_steady (token_steady Lower))))

flag_steady : {S : Pieces} → Steady S flag AsExpr
unfolding flag
flag_steady {S} =
    either_steady (mapped_steady {R = SameBytes} (λ l m r. layer.Flag_stripped true m.at ∙ sym (layer.Flag_stripped true l.at)) (token_steady _))
    (mapped_steady {R = SameBytes} (λ l m r. layer.Flag_stripped false m.at ∙ sym (layer.Flag_stripped false l.at)) (token_steady _))

number_steady : {S : Pieces} → Steady S number AsExpr
unfolding number
number_steady {S} =
    either_steady (mapped_steady {R = SameBytes} (λ l m r. num_as pos m l r m.at l.at) (token_steady Plain))
    (mapped_steady {R = Both SameBytes SameBytes} (λ v w r. num_as minus w.1 v.1 r.1 w.0.at v.0.at) (both_steady (token_steady _) (token_steady Negated)))

literal_steady : {S : Pieces} → Steady S literal AsExpr
unfolding literal
literal_steady {S} = mapped_steady {R = SameBytes} (λ l m r. str_as m l (ap literal_value r)) (token_steady Literal)

option_steady : {S : Pieces} → Parts S → Steady S option AsExpr
unfolding option
option_steady {S} p =
    either_steady (mapped_steady {R = SameBytes} (λ l m r. layer.NoneLit_stripped m.at ∙ sym (layer.NoneLit_stripped l.at)) (token_steady _))
    (mapped_steady {R = Both SameBytes AsExpr} (λ v w r. some_as w.1 v.1 w.0.at v.0.at r.1) (both_steady (token_steady _) (between_steady p.expr)))

atom_steady : {S : Pieces} → Parts S → Steady S atom AsExpr
unfolding atom
atom_steady {S} p =
    either_steady flag_steady (either_steady number_steady (either_steady literal_steady (either_steady (option_steady p) (path_steady p))))

unary_steady : {S : Pieces} → Parts S → Steady S unary AsExpr
unfolding unary
unary_steady {S} p =
    either_steady
    (mapped_steady {R = Both SameBytes AsExpr} (λ v w r. not_as w.1 v.1 w.0.at v.0.at r.1) (both_steady (token_steady _) (atom_steady p))) (atom_steady p)

-- the same sign
abbrev SameOp : CmpOp → CmpOp → Type 0
SameOp o p = p ≡ o

op_steady : {S : Pieces} → Steady S cmp_op SameOp
unfolding cmp_op
op_steady {S} =
    either_steady (mapped_steady {R = SameBytes} (λ l m r. refl) (token_steady _)) (either_steady (mapped_steady {R = SameBytes} (λ l m r. refl) (token_steady _))
    (either_steady (mapped_steady {R = SameBytes} (λ l m r. refl) (token_steady _)) (either_steady (mapped_steady {R = SameBytes} (λ l m r. refl) (token_steady _))
    (either_steady (mapped_steady {R = SameBytes} (λ l m r. refl) (token_steady _)) (mapped_steady {R = SameBytes} (λ l m r. refl) (token_steady _))))))

container_steady : {S : Pieces} → Parts S → Steady S container AsSet
unfolding container
container_steady {S} p =
    either_steady (mapped_steady {R = AsExpr} (λ x y r. path_as y x (expr_at y) (expr_at x) r) (path_steady p)) (between_steady p.set)

-- the same is made of the same
abbrev AsMake : (Expr → Expr) → (Expr → Expr) → Type 0
AsMake f g = (x y : Expr) → AsExpr x y → AsExpr (f x) (g y)

comparison_steady : {S : Pieces} → Parts S → Steady S comparison AsMake
unfolding comparison
comparison_steady {S} p =
    either_steady
    (mapped_steady {R = Both SameOp AsExpr} (λ v w r x y h. cmp_as w.0 v.0 y x w.1 v.1 (expr_at y) (expr_at x) r.0 h r.1)
    (both_steady op_steady (unary_steady p)))
    (either_steady
    (mapped_steady {R = AsSet} (λ t u r x y h. member_as y x u t (expr_at y) (expr_at x) h r) (behind_steady (container_steady p)))
    (nothing_steady (λ left. left) (λ x y h. h)))

compared_steady : {S : Pieces} → Parts S → Steady S compared AsExpr
unfolding compared
compared_steady {S} p = mapped_steady {R = Both AsExpr AsMake} (λ v w r. r.1 v.0 w.0 r.0) (both_steady (unary_steady p) (comparison_steady p))

-- a chain to the left is the same where its parts are
folds_as : (f : Expr → Expr → Expr) → ((x y v w : Expr) → AsExpr x y → AsExpr v w → AsExpr (f x v) (f y w)) → (vs ws : List Expr) (x y : Expr)
    → AsExpr x y → Same AsExpr vs ws → AsExpr (fold f x vs) (fold f y ws)
folds_as f ok [] [] x y h r = h
folds_as f ok [] (w ∷ ws) x y h r = absurd r
folds_as f ok (v ∷ vs) [] x y h r = absurd r
folds_as f ok (v ∷ vs) (w ∷ ws) x y h (r, more) = folds_as f ok vs ws (f x v) (f y w) (ok x y v w h r) more

conjunction_steady : {S : Pieces} → Parts S → Steady S conjunction AsExpr
unfolding conjunction
conjunction_steady {S} p =
    mapped_steady {R = Both AsExpr (Same AsExpr)}
    (λ v w r. folds_as (λ left right. e.And (expr_at left) left right) (λ x y a b h k. and_as y x b a (expr_at y) (expr_at x) h k) v.1 w.1 v.0 w.0 r.0 r.1)
    (both_steady (compared_steady p) (each_steady (behind_steady (compared_steady p))))

disjunction_steady : {S : Pieces} → Parts S → Steady S disjunction AsExpr
unfolding disjunction
disjunction_steady {S} p =
    mapped_steady {R = Both AsExpr (Same AsExpr)}
    (λ v w r. folds_as (λ left right. e.Or (expr_at left) left right) (λ x y a b h k. or_as y x b a (expr_at y) (expr_at x) h k) v.1 w.1 v.0 w.0 r.0 r.1)
    (both_steady (conjunction_steady p) (each_steady (behind_steady (conjunction_steady p))))

condition_steady : {S : Pieces} → Parts S → Steady S condition (Both SameBytes AsExpr)
unfolding condition
condition_steady {S} p = both_steady (token_steady _) p.expr

branches_steady : {S : Pieces} {A : Type 0} {f : G A} {R : A → A → Type 0} → Steady S f R → Steady S (branches f) (Both R R)
branches_steady {S} {A} {f} {R} m = both_steady (behind_steady m) (behind_steady m)

if_steady : {S : Pieces} → Parts S → Steady S if_expr AsExpr
unfolding if_expr
if_steady {S} p =
    mapped_steady {R = Both (Both SameBytes AsExpr) (Both AsExpr AsExpr)}
    (λ v w r. expr.if_as w.0.1 v.0.1 w.1.0 v.1.0 w.1.1 v.1.1 w.0.0.at v.0.0.at r.0.1 r.1.0 r.1.1) (both_steady (condition_steady p) (branches_steady p.expr))

scrutinee_steady : {S : Pieces} → Parts S → Steady S scrutinee (Both SameBytes AsExpr)
unfolding scrutinee
scrutinee_steady {S} p =
    mapped_steady {R = Both SameBytes (Both AsExpr SameBytes)} (λ v w r. (r.0, r.1.0)) (both_steady (token_steady _) (both_steady p.expr (token_steady _)))

none_steady : {S : Pieces} {A : Type 0} {f : G A} {R : A → A → Type 0} → Steady S f R → Steady S (none_branch f) R
none_steady {S} {A} {f} {R} m = behind_steady (behind_steady m)

some_steady : {S : Pieces} {A : Type 0} {f : G A} {R : A → A → Type 0} → Steady S f R → Steady S (some_branch f) (Both SameBytes R)
some_steady {S} {A} {f} {R} m = behind_steady (behind_steady (both_steady (token_steady Lower) (behind_steady m)))

match_steady : {S : Pieces} → Parts S → Steady S match_expr AsExpr
unfolding match_expr
match_steady {S} p =
    mapped_steady {R = Both (Both SameBytes AsExpr) (Both AsExpr (Both SameBytes AsExpr))}
    (λ v w r. expr.match_as w.0.1 v.0.1 w.1.0 v.1.0 w.1.1.1 v.1.1.1 w.1.1.0 v.1.1.0 w.0.0.at v.0.0.at r.0.1 r.1.0 r.1.1.0 r.1.1.1)
    (both_steady (scrutinee_steady p) (both_steady (none_steady p.expr) (some_steady p.expr)))

expression_steady : {S : Pieces} → Parts S → Steady S expression AsExpr
unfolding expression
expression_steady {S} p = either_steady (if_steady p) (either_steady (match_steady p) (disjunction_steady p))

-- ---- sets

pub listed_steady : {S : Pieces} {A : Type 0} {f : G A} {R : A → A → Type 0} → Steady S f R → Steady S (listed f) (Same R)
listed_steady {S} {A} {f} {R} m =
    either_steady (mapped_steady {R = Both R (Same R)} (λ v w r. r) (both_steady m (each_steady (behind_steady m)))) (nothing_steady [] tt)

item_steady : {S : Pieces} → Parts S → Steady S item_form AsItem
unfolding item_form
item_steady {S} p =
    either_steady (mapped_steady {R = SameBytes}
    (λ l m r. layer.Static_stripped (named m) ∙ ap (λ z. item.Static z) (expr_name m l r) ∙ sym (layer.Static_stripped (named l))) (token_steady Upper))
    (mapped_steady {R = AsExpr} (λ x y r. layer.One_stripped y ∙ ap (λ z. item.One z) r ∙ sym (layer.One_stripped x)) p.expr)
  where
    expr_name : (m l : Piece) → m.bytes ≡ l.bytes → stripped_name (named m) ≡ stripped_name (named l)
    expr_name m l r = ap (λ z. record { name = z; at = 0 }) r

list_steady : {S : Pieces} → Parts S → Steady S list AsSet
unfolding list
list_steady {S} p =
    mapped_steady {R = Both SameBytes (Both (Same AsItem) SameBytes)} (λ v w r. list_as v.1.0 w.1.0 w.0.at v.0.at r.1.0)
    (both_steady (token_steady _) (both_steady (listed_steady (item_steady p)) (token_steady _)))

abbrev SameFilterOp : FilterOp → FilterOp → Type 0
SameFilterOp o p = p ≡ o

filter_op_steady : {S : Pieces} → Steady S filter_op SameFilterOp
unfolding filter_op
filter_op_steady {S} =
    either_steady (mapped_steady {R = SameBytes} (λ l m r. refl) (token_steady _))
    (either_steady (mapped_steady {R = SameBytes} (λ l m r. refl) (token_steady _)) (mapped_steady {R = SameOp} (λ o q r. ap filter.Cmp r) op_steady))

filter_steady : {S : Pieces} → Parts S → Steady S filter_form AsFilter
unfolding filter_form
filter_steady {S} p =
    mapped_steady {R = Both SameBytes (Both SameFilterOp AsExpr)} (λ v w r. filter_as w.0 v.0 w.1.0 v.1.0 w.1.1 v.1.1 r.0 r.1.0 r.1.1)
    (both_steady (token_steady Lower) (both_steady filter_op_steady p.expr))

find_steady : {S : Pieces} → Parts S → Steady S find AsSet
unfolding find
find_steady {S} p =
    mapped_steady {R = Both SameBytes (Same AsFilter)} (λ v w r. find_as w.0 v.0 w.1 v.1 w.0.at v.0.at r.0 r.1)
    (both_steady (token_steady Upper) (behind_steady (behind_steady (between_steady (between_steady (listed_steady (filter_steady p)))))))

map_steady : {S : Pieces} → Parts S → Steady S map_step AsStep
unfolding map_step
map_steady {S} p =
    mapped_steady {R = Both SameBytes AsExpr} (λ v w r. map_as w.0 v.0 w.1 v.1 r.0 r.1)
    (behind_steady (between_steady (both_steady (token_steady Lower) (behind_steady p.expr))))

flat_steady : {S : Pieces} → Parts S → Steady S flat_step AsStep
unfolding flat_step
flat_steady {S} p =
    mapped_steady {R = Both SameBytes AsSet} (λ v w r. flat_as w.0 v.0 w.1 v.1 r.0 r.1)
    (behind_steady (between_steady (both_steady (token_steady Lower) (behind_steady p.set))))

steps_steady : {S : Pieces} → Parts S → Steady S steps AsStep
unfolding steps
steps_steady {S} p =
    mapped_steady {R = Both (Same AsStep) AsStep} (λ v w r x y h. r.1 (fold step x v.0) (fold step y w.0) (steps_as v.0 w.0 r.0 x y h))
    (ended_steady (map_steady p) (flat_steady p) (nothing_steady (λ of. of) (λ x y h. h)))

found_steady : {S : Pieces} → Parts S → Steady S found AsSet
unfolding found
found_steady {S} p = mapped_steady {R = Both AsSet AsStep} (λ v w r. r.1 v.0 w.0 r.0) (both_steady (find_steady p) (steps_steady p))

path_steps_steady : {S : Pieces} → Parts S → Steady S path_steps AsStep
unfolding path_steps
path_steps_steady {S} p =
    either_steady (mapped_steady {R = Both AsStep AsStep} (λ v w r x y h. r.1 (v.0 x) (w.0 y) (r.0 x y h)) (both_steady (map_steady p) (steps_steady p)))
    (flat_steady p)

path_chain_steady : {S : Pieces} → Parts S → Steady S path_chain AsSet
unfolding path_chain
path_chain_steady {S} p =
    mapped_steady {R = Both SameBytes (Both (Same SameBytes) AsStep)}
    (λ v w r. r.1.1 (s.Path v.0.at (fold get (var_of v.0) v.1.0)) (s.Path w.0.at (fold get (var_of w.0) w.1.0))
    (path_as (fold get (var_of w.0) w.1.0) (fold get (var_of v.0) v.1.0) w.0.at v.0.at
    (fields_as v.1.0 w.1.0 (var_of v.0) (var_of w.0) (var_as w.0 v.0 r.0) r.1.0)))
    (both_steady (token_steady Lower) (ended_steady (token_steady Lower) (path_steps_steady p) (nothing_steady (λ of. of) (λ x y h. h))))

placed_set_as : (a b : ℕ) (x y : SetExpr) → AsSet x y → AsSet (placed_set a x) (placed_set b y)
placed_set_as a b x y h = layer.stripped_placed_set b y ∙ h ∙ sym (layer.stripped_placed_set a x)

term_steady : {S : Pieces} → Parts S → Steady S set_term AsSet
unfolding set_term
term_steady {S} p =
    either_steady (mapped_steady {R = SameBytes} (λ l m r. layer.Everyone_stripped m.at m.at ∙ sym (layer.Everyone_stripped l.at l.at)) (token_steady _))
    (either_steady (mapped_steady {R = SameBytes} (λ l m r. layer.Nobody_stripped m.at ∙ sym (layer.Nobody_stripped l.at)) (token_steady _))
    (either_steady (list_steady p)
    (either_steady (mapped_steady {R = Both SameBytes (Both AsSet SameBytes)} (λ v w r. placed_set_as v.0.at w.0.at v.1.0 w.1.0 r.1.0)
    (both_steady (token_steady _) (both_steady p.set (token_steady _))))
    (either_steady (found_steady p) (path_chain_steady p)))))

step_steady : {S : Pieces} → Parts S → Steady S set_step AsStep
unfolding set_step
step_steady {S} p =
    either_steady (mapped_steady {R = AsSet} (λ t u r. rules.sum_as u t r) (behind_steady (term_steady p)))
    (mapped_steady {R = AsSet} (λ t u r. rules.less_as u t r) (behind_steady (term_steady p)))

sum_steady : {S : Pieces} → Parts S → Steady S sum AsSet
unfolding sum
sum_steady {S} p =
    mapped_steady {R = Both AsSet (Same AsStep)} (λ v w r. steps_as v.1 w.1 r.1 v.0 w.0 r.0) (both_steady (term_steady p) (each_steady (step_steady p)))

if_set_steady : {S : Pieces} → Parts S → Steady S if_set AsSet
unfolding if_set
if_set_steady {S} p =
    mapped_steady {R = Both (Both SameBytes AsExpr) (Both AsSet AsSet)}
    (λ v w r. rules.if_as w.0.1 v.0.1 w.1.0 v.1.0 w.1.1 v.1.1 w.0.0.at v.0.0.at r.0.1 r.1.0 r.1.1) (both_steady (condition_steady p) (branches_steady p.set))

match_set_steady : {S : Pieces} → Parts S → Steady S match_set AsSet
unfolding match_set
match_set_steady {S} p =
    mapped_steady {R = Both (Both SameBytes AsExpr) (Both AsSet (Both SameBytes AsSet))}
    (λ v w r. rules.match_as w.0.1 v.0.1 w.1.0 v.1.0 w.1.1.1 v.1.1.1 w.1.1.0 v.1.1.0 w.0.0.at v.0.0.at r.0.1 r.1.0 r.1.1.0 r.1.1.1)
    (both_steady (scrutinee_steady p) (both_steady (none_steady p.set) (some_steady p.set)))

set_steady : {S : Pieces} → Parts S → Steady S set AsSet
unfolding set
set_steady {S} p = either_steady (if_set_steady p) (either_steady (match_set_steady p) (sum_steady p))

-- ---- however deep they nest

pub parts : (n : ℕ) → Parts (SpellsPart rule n)
parts zero = record {
  expr = part_steady {p = Expression} {R = AsExpr} (record { go = λ x ls ks same d. absurd d });
  set = part_steady {p = Set} {R = AsSet} (record { go = λ x ls ks same d. absurd d });
}
parts (suc n) =
    let e = (expression_steady (parts n)).tight in
    let t = (set_steady (parts n)).tight in
    record {
      expr = part_steady {p = Expression} {R = AsExpr} (record { go = λ x ls ks same d. (let r = e.go x ls ks same d in record { value = r.value; is = r.is; spells = r.spells }) });
      set = part_steady {p = Set} {R = AsSet} (record { go = λ x ls ks same d. (let r = t.go x ls ks same d in record { value = r.value; is = r.is; spells = r.spells }) });
    }
