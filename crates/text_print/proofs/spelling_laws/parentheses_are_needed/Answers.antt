use Rattle.std.proofs.Common.{◌≡◌, ◌≤◌, ◌+◌, ◌++◌, ◌∷◌, List, length, subst, sym, ap, ◌∙◌, arith}
use Rattle.std.proofs.lemmas.List.{length-map}
use Rattle.text_ast.specs.Pieces.{Piece}
use Rattle.text_tree.specs.declared.exprs.Expr.{Expr}
use Rattle.text_tree.specs.declared.exprs.SetExpr.{SetExpr}
use Rattle.text_tree.specs.declared.commands.Script.{Script}
use Rattle.text_tree.specs.declared.models.Spec.{Spec}
use Rattle.text_tree.specs.declared.policies.Policy.{Policy}
use Rattle.text_tree.specs.ExprGrammar.{Expression, Set}
use Rattle.text_tree.specs.Forms.{Spells, part}
use Rattle.text_tree.specs.Grammar.{most_levels, policy_form, script_form, spec_form}
use Rattle.text_tree.specs.Stripped.{stripped_expr, stripped_model, stripped_policy, stripped_script, stripped_set, stripped_spec}
use Rattle.text_tree.specs.Texts.{IsSpelled}
use Rattle.text_print.specs.Commands.{spelled_script}
use Rattle.text_print.specs.Exprs.{spelled_expr, spelled_set}
use Rattle.text_print.specs.Marks.{lexemes_of_marks}
use Rattle.text_print.specs.Models.{spelled_policy, spelled_spec}
use Rattle.text_print.specs.Reprinted.{AreTokens}
use Rattle.text_print.proofs.Again.{good_of}
use Rattle.text_print.proofs.CommandForms.{AsScript, p_script}
use Rattle.text_print.proofs.Equal.{one_script, one_spec}
use Rattle.text_print.proofs.Fusion.{one_expr, one_set}
use Rattle.text_print.proofs.ModelForms.{AsSpec, p_spec}
use Rattle.text_print.proofs.LastCommas.{kinds, lasts}
use Rattle.text_print.proofs.ModelCommas.{kinds_of, lasts_of_spec, lexeme_kinds, pair_kept}
use Rattle.text_print.proofs.Needed.{at_most, one_policy, two_less}
use Rattle.text_print.proofs.PolicyForms.{AsPolicy, policy_c}
use Rattle.text_print.proofs.Ranks.{AsExpr}
use Rattle.text_print.proofs.SetRanks.{AsSet}
use Rattle.text_print.proofs.Whole.{at_level, calm, knows}
use Rattle.text_print.proofs.spelling_laws.parentheses_are_needed.Goals as goal

expr_short : (x y : Expr) (ls : List Piece) → AreTokens ls → IsSpelled (part Expression) y ls → stripped_expr y ≡ stripped_expr x
    → length (lexemes_of_marks (spelled_expr x).marks) ≤ length ls
expr_short x y ls good h same =
    subst (λ z. length (lexemes_of_marks z.marks) ≤ length ls) (one_expr y x same)
    (at_most (AsExpr y) (at_level most_levels Expression) (lexemes_of_marks (spelled_expr y).marks) (length ls) ((knows most_levels).expr y ls (good_of ls good) h).1)

set_short : (x y : SetExpr) (ls : List Piece) → AreTokens ls → IsSpelled (part Set) y ls → stripped_set y ≡ stripped_set x
    → length (lexemes_of_marks (spelled_set x).marks) ≤ length ls
set_short x y ls good h same =
    subst (λ z. length (lexemes_of_marks z.marks) ≤ length ls) (one_set y x same)
    (at_most (AsSet y) (at_level most_levels Set) (lexemes_of_marks (spelled_set y).marks) (length ls) ((knows most_levels).set y ls (good_of ls good) h).1)

policy_short : (x y : Policy) (ls : List Piece) → AreTokens ls → IsSpelled policy_form y ls → stripped_policy y ≡ stripped_policy x
    → length (lexemes_of_marks (spelled_policy x)) ≤ length ls
policy_short x y ls good h same =
    subst (λ z. length (lexemes_of_marks z) ≤ length ls) (one_policy y x same)
    (at_most (AsPolicy y) (Spells (at_level most_levels) policy_form) (lexemes_of_marks (spelled_policy y)) (length ls)
    (policy_c (at_level most_levels) (knows most_levels) y ls (good_of ls good) h))

script_short : (x y : Script) (ls : List Piece) → AreTokens ls → IsSpelled script_form y ls → stripped_script y ≡ stripped_script x
    → length (lexemes_of_marks (spelled_script x)) ≤ length ls
script_short x y ls good h same =
    subst (λ z. length (lexemes_of_marks z) ≤ length ls) (one_script y x same)
    (at_most (AsScript y) (Spells (at_level most_levels) script_form) (lexemes_of_marks (spelled_script y)) (length ls)
    (p_script (at_level most_levels) (knows most_levels) (calm most_levels) y ls (good_of ls good) h))

-- equal specifications have as many models
as_many : (x y : Spec) → stripped_spec y ≡ stripped_spec x → length y.models ≡ length x.models
as_many x y same = sym (length-map y.models stripped_model) ∙ ap (λ (s : Spec). length s.models) same ∙ length-map x.models stripped_model

-- the commas at the ends of models aside
spec_most : (x y : Spec) (ls : List Piece) → AreTokens ls → IsSpelled spec_form y ls → stripped_spec y ≡ stripped_spec x
    → length (lexemes_of_marks (spelled_spec x)) + lasts (kinds ls) ≤ length x.models + length ls
spec_most x y ls good h same =
    let w = p_spec (at_level most_levels) (knows most_levels) (calm most_levels) y ls (good_of ls good) h in
    let short : length (lexemes_of_marks (spelled_spec y)) ≤ w.most =
    at_most (AsSpec y) (Spells (at_level most_levels) spec_form) (lexemes_of_marks (spelled_spec y)) w.most w.canon in
    let moved : length (lexemes_of_marks (spelled_spec x)) ≤ w.most = subst (λ z. length (lexemes_of_marks z) ≤ w.most) (one_spec y x same) short in
    omega (arith, as_many x y same, moved, w.few)

pub returns-clause-expressions : goal.returns-clause-expressions
returns-clause-expressions c x y a b d v w ls is of good h same =
    let less = two_less a b d (lexemes_of_marks (spelled_expr x).marks) v w ls is of in
    let short = expr_short x y ls good h same in
    omega arith

pub returns-clause-sets : goal.returns-clause-sets
returns-clause-sets c x y a b d v w ls is of good h same =
    let less = two_less a b d (lexemes_of_marks (spelled_set x).marks) v w ls is of in
    let short = set_short x y ls good h same in
    omega arith

pub returns-clause-policies : goal.returns-clause-policies
returns-clause-policies c x y a b d v w ls is of good h same =
    let less = two_less a b d (lexemes_of_marks (spelled_policy x)) v w ls is of in
    let short = policy_short x y ls good h same in
    omega arith

pub returns-clause-short_expressions : goal.returns-clause-short_expressions
returns-clause-short_expressions c x y ls good h same = expr_short x y ls good h same

pub returns-clause-short_sets : goal.returns-clause-short_sets
returns-clause-short_sets c x y ls good h same = set_short x y ls good h same

pub returns-clause-short_policies : goal.returns-clause-short_policies
returns-clause-short_policies c x y ls good h same = policy_short x y ls good h same

pub returns-clause-short_scripts : goal.returns-clause-short_scripts
returns-clause-short_scripts c x y ls good h same = script_short x y ls good h same

pub returns-clause-short_specifications : goal.returns-clause-short_specifications
returns-clause-short_specifications c x y ls good h same = omega (arith, spec_most x y ls good h same)

pub returns-clause-scripts : goal.returns-clause-scripts
returns-clause-scripts c x y a b d v w ls is of good h same =
    let less = two_less a b d (lexemes_of_marks (spelled_script x)) v w ls is of in
    let short = script_short x y ls good h same in
    omega arith

pub returns-clause-specifications : goal.returns-clause-specifications
returns-clause-specifications c x y a b d v w ls begun done is of good h same =
    let less = two_less a b d (lexemes_of_marks (spelled_spec x)) v w ls is of in
    let short = spec_most x y ls good h same in
    let each : length x.models ≤ lasts (lexeme_kinds (lexemes_of_marks (spelled_spec x))) = lasts_of_spec x in
    let kept = pair_kept a b d v w begun done in
    let first : lasts (lexeme_kinds (lexemes_of_marks (spelled_spec x))) ≡ lasts (lexeme_kinds (a ++ v ∷ (b ++ w ∷ d))) = ap (λ z. lasts (lexeme_kinds z)) is in
    let last : lasts (kinds ls) ≡ lasts (lexeme_kinds (a ++ (b ++ d))) = ap lasts (kinds_of ls) ∙ ap (λ z. lasts (lexeme_kinds z)) of in
    omega (arith, less, short, each, kept, first, last)
