use Rattle.std.proofs.Common.{◌≡◌, [], true, false, refl}
use Rattle.text_ast.specs.Words.{is_type_word, is_command_word, is_reserved_lower}
use Rattle.text_tree.specs.Forms.{same_kind}
use Rattle.text_tree.specs.ExprGrammar as e
use Rattle.text_tree.specs.ExprGrammar.{Part, Expression, Set, rule, tree_of}
use Rattle.text_grammar.proofs.Lists.{no_front}
use Rattle.text_grammar.proofs.Shapes.{Shape}
use Rattle.text_grammar.proofs.FormShapes.{shape}
use Rattle.text_grammar.proofs.Tables.{fine}
use Rattle.text_grammar.proofs.laws.first_tokens_begin.Goals as goal

-- no part is spelled or begins
none : (p : Part) → Shape {A = tree_of p} (λ x ls. ⊥) (λ ls. ls ≡ []) [] [] false
none p = record {
  opens = refl;
  closed = λ a b h. no_front a b h;
  begun = λ x a h. absurd h;
  first = λ l ls h. cc;
  goes = λ x a l h be. absurd h;
  fills = λ x h. absurd h;
  able = λ l h. (let no : false ≡ true = h in cc);
  void = λ h. cc;
}

rule_fine : (p : Part) → fine (λ q. []) (λ q. []) (rule p) ≡ true
unfolding same_kind is_type_word is_command_word is_reserved_lower e.path_root e.path e.flag e.number e.literal e.option e.atom e.unary e.cmp_op e.container e.comparison e.compared e.conjunction e.disjunction e.condition e.if_expr e.scrutinee e.match_expr e.expression e.item_form e.list e.filter_op e.filter_form e.find e.map_step e.flat_step e.steps e.found e.path_steps e.path_chain e.set_term e.set_step e.sum e.if_set e.match_set e.set
rule_fine Expression = refl
rule_fine Set = refl

pub returns-clause-begin : goal.returns-clause-begin
returns-clause-begin c p l h =
    let s = shape (λ q. []) (λ q. []) (λ q x ks. ⊥) (λ q ks. ks ≡ []) none (rule p) (rule_fine p) in s.able l h

pub returns-clause-only : goal.returns-clause-only
returns-clause-only c p l ls h =
    let s = shape (λ q. []) (λ q. []) (λ q x ks. ⊥) (λ q ks. ks ≡ []) none (rule p) (rule_fine p) in s.first l ls h
