-- What is printed of expressions and sets spells them, at any number of levels.
use Rattle.std.proofs.Common.{◌≡◌, inl, inr, ℕ, zero, suc, arith, length, refl, subst}
use Rattle.text_tree.specs.declared.exprs.Expr.{Expr}
use Rattle.text_tree.specs.declared.exprs.SetExpr.{SetExpr}
use Rattle.text_tree.specs.Levels.{SpellsPart}
use Rattle.text_tree.specs.Forms.{same_kind}
use Rattle.text_tree.specs.ExprGrammar as e
use Rattle.text_tree.specs.ExprGrammar.{Part, Expression, Set, rule}
use Rattle.text_print.specs.Exprs.{spelled_expr, spelled_set}
use Rattle.text_print.proofs.Canonical.{moved}
use Rattle.text_print.proofs.LastCommas.{Calm, Keeps, facts, keeps, kinds, part_facts}
use Rattle.text_print.proofs.More.{level_more, spells_more}
use Rattle.text_print.proofs.Ranks.{Tight, down, form_at, tight_of}
use Rattle.text_print.proofs.SetRanks.{Firm, Knows, fields, firm_at, firm_of, set_form_at}
use Rattle.text_print.proofs.ExprRule.{expression_held}
use Rattle.text_print.proofs.SetRule.{set_rule_held}
use Rattle.text_print.proofs.Tokens.{Pieces}

-- the parts with so many levels
abbrev pub at_level : ℕ → Pieces
at_level n = SpellsPart rule n

tight_more : (n : ℕ) (x : Expr) (most : ℕ) → Tight (at_level n) x most → Tight (at_level (suc n)) x most
tight_more n x most t =
    moved (λ y. y) (λ y r. r) (λ y ls d. spells_more (at_level n) (at_level (suc n)) (level_more rule n) (form_at (spelled_expr x).rank) y ls d) t

firm_more : (n : ℕ) (x : SetExpr) (most : ℕ) → Firm (at_level n) x most → Firm (at_level (suc n)) x most
firm_more n x most (inl b) =
    inl (record {
      inner = b.inner;
      place = b.place;
      is = b.is;
      reads = moved (λ y. y) (λ y r. r) (λ y ls d. spells_more (at_level n) (at_level (suc n)) (level_more rule n) fields y ls d) b.reads;
    })
firm_more n x most (inr (low, t)) =
    inr (low, moved (λ y. y) (λ y r. r) (λ y ls d. spells_more (at_level n) (at_level (suc n)) (level_more rule n) (set_form_at (spelled_set x).rank) y ls d) t)

pub knows : (n : ℕ) → Knows (at_level n)
knows zero = record { expr = λ x ls good h. absurd h; set = λ x ls good h. absurd h }
knows (suc n) = record {
  expr = λ x ls good h. (
      let t : Tight (at_level n) x (length ls) = tight_of (at_level n) 0 x (length ls) (expression_held (at_level n) (knows n) x ls good h) in
      (tight_more n x (length ls) t, moved (λ y. y) (λ y r. r) (λ y ks d. down (at_level n) 0 (spelled_expr x).rank (omega arith) y ks d) t));
  set = λ x ls good h. (
      let t : Firm (at_level n) x (length ls) = firm_of (at_level n) 0 x (length ls) (set_rule_held (at_level n) (knows n) x ls good h) in
      (firm_more n x (length ls) t, moved (λ y. y) (λ y r. r) (λ y ks d. d) (firm_at (at_level n) 0 (omega arith) x (length ls) (omega arith) t)));
}

-- ---- commas before closing braces

rule_facts : (p : Part) → facts (rule p) ≡ part_facts
unfolding same_kind e.path_root e.path e.flag e.number e.literal e.option e.atom e.unary e.cmp_op e.container e.comparison e.compared e.conjunction e.disjunction e.condition e.if_expr e.scrutinee e.match_expr e.expression e.item_form e.list e.filter_op e.filter_form e.find e.map_step e.flat_step e.steps e.found e.path_steps e.path_chain e.set_term e.set_step e.sum e.if_set e.match_set e.set
rule_facts Expression = refl
rule_facts Set = refl

-- no part has one
pub calm : (n : ℕ) → Calm (at_level n)
calm zero p x ls h = absurd h
calm (suc n) p x ls h = subst (λ f. Keeps f (kinds ls)) (rule_facts p) (keeps (at_level n) (calm n) (rule p) x ls h)
