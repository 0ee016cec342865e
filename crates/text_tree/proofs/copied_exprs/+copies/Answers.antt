-- Each part of a copy is the part that it copies.
use Rattle.std.proofs.Common.{sym}
use Rattle.text_tree.proofs.copied_exprs.+copies.Goals as goal

pub copy_expr-returns-in-Flag : goal.copy_expr-returns-in-Flag
copy_expr-returns-in-Flag t c = sym c.in-Flag.is

pub copy_expr-returns-in-NoneLit : goal.copy_expr-returns-in-NoneLit
copy_expr-returns-in-NoneLit t c = sym c.in-NoneLit.is

pub copy_expr-returns-in_ok-text-in-Str : goal.copy_expr-returns-in_ok-text-in-Str
copy_expr-returns-in_ok-text-in-Str t c = simp (c.in-Str.is, c.in_ok-text-in-Str.ensures, c.get.ensures)

pub copy_expr-returns-in_ok-name-in-Var : goal.copy_expr-returns-in_ok-name-in-Var
copy_expr-returns-in_ok-name-in-Var t c = simp (c.in-Var.is, c.in_ok-name-in-Var.ensures)

pub copy_expr-returns-in_ok-inner-in-SomeLit : goal.copy_expr-returns-in_ok-inner-in-SomeLit
copy_expr-returns-in_ok-inner-in-SomeLit t c = simp (c.in-SomeLit.is, c.in_ok-inner-in-SomeLit.ensures, c.get-in-SomeLit.ensures)

pub copy_expr-returns-in_ok-of-in-Get : goal.copy_expr-returns-in_ok-of-in-Get
copy_expr-returns-in_ok-of-in-Get t c = simp (c.in-Get.is, c.in_ok-field-in-Get.ensures, c.in_ok-of-in-Get.ensures, c.get-in-Get.ensures, c.get-in-Get-2.ensures)

pub copy_expr-returns-in_ok-right-in-Cmp : goal.copy_expr-returns-in_ok-right-in-Cmp
copy_expr-returns-in_ok-right-in-Cmp t c = simp (c.in-Cmp.is, c.in_ok-left-in-Cmp.ensures, c.in_ok-right-in-Cmp.ensures, c.get-in-Cmp.ensures, c.get-in-Cmp-2.ensures)

pub copy_expr-returns-in_ok-set-in-Member : goal.copy_expr-returns-in_ok-set-in-Member
copy_expr-returns-in_ok-set-in-Member t c = simp (c.in-Member.is, c.in_ok-of-in-Member.ensures, c.in_ok-set-in-Member.ensures, c.get-in-Member.ensures, c.get-in-Member-2.ensures)

pub copy_expr-returns-in_ok-inner-in-Not : goal.copy_expr-returns-in_ok-inner-in-Not
copy_expr-returns-in_ok-inner-in-Not t c = simp (c.in-Not.is, c.in_ok-inner-in-Not.ensures, c.get-in-Not.ensures)

pub copy_expr-returns-in_ok-right-in-And : goal.copy_expr-returns-in_ok-right-in-And
copy_expr-returns-in_ok-right-in-And t c = simp (c.in-And.is, c.in_ok-left-in-And.ensures, c.in_ok-right-in-And.ensures, c.get-in-And.ensures, c.get-in-And-2.ensures)

pub copy_expr-returns-in_ok-right-in-Or : goal.copy_expr-returns-in_ok-right-in-Or
copy_expr-returns-in_ok-right-in-Or t c = simp (c.in-Or.is, c.in_ok-left-in-Or.ensures, c.in_ok-right-in-Or.ensures, c.get-in-Or.ensures, c.get-in-Or-2.ensures)

pub copy_expr-returns-in_ok-other-in-IfE : goal.copy_expr-returns-in_ok-other-in-IfE
copy_expr-returns-in_ok-other-in-IfE t c = simp (c.in-IfE.is, c.in_ok-test-in-IfE.ensures, c.in_ok-one-in-IfE.ensures, c.in_ok-other-in-IfE.ensures, c.get-in-IfE.ensures, c.get-in-IfE-2.ensures, c.get-in-IfE-3.ensures)

pub copy_expr-returns-in_ok-some-in-MatchE : goal.copy_expr-returns-in_ok-some-in-MatchE
copy_expr-returns-in_ok-some-in-MatchE t c = simp (c.in-MatchE.is, c.in_ok-name-in-MatchE.ensures, c.in_ok-of-in-MatchE.ensures, c.in_ok-none-in-MatchE.ensures, c.in_ok-each-in-MatchE.ensures, c.in_ok-some-in-MatchE.ensures, c.get-in-MatchE.ensures, c.get-in-MatchE-2.ensures, c.get-in-MatchE-3.ensures)

pub copy_set-returns-in-Everyone : goal.copy_set-returns-in-Everyone
copy_set-returns-in-Everyone t c = sym c.in-Everyone.is

pub copy_set-returns-in-Nobody : goal.copy_set-returns-in-Nobody
copy_set-returns-in-Nobody t c = sym c.in-Nobody.is

pub copy_set-returns-in_ok-items-in-List : goal.copy_set-returns-in_ok-items-in-List
copy_set-returns-in_ok-items-in-List t c = simp (c.in-List.is, c.in_ok-items-in-List.ensures, c.as_slice.ensures)

pub copy_set-returns-in_ok-right-in-Sum : goal.copy_set-returns-in_ok-right-in-Sum
copy_set-returns-in_ok-right-in-Sum t c = simp (c.in-Sum.is, c.in_ok-left-in-Sum.ensures, c.in_ok-right-in-Sum.ensures, c.get.ensures, c.get-in-Sum.ensures)

pub copy_set-returns-in_ok-right-in-Less : goal.copy_set-returns-in_ok-right-in-Less
copy_set-returns-in_ok-right-in-Less t c = simp (c.in-Less.is, c.in_ok-left-in-Less.ensures, c.in_ok-right-in-Less.ensures, c.get-in-Less.ensures, c.get-in-Less-2.ensures)

pub copy_set-returns-in_ok-filters-in-Find : goal.copy_set-returns-in_ok-filters-in-Find
copy_set-returns-in_ok-filters-in-Find t c = simp (c.in-Find.is, c.in_ok-model-in-Find.ensures, c.in_ok-filters-in-Find.ensures, c.get-in-Find.ensures, c.as_slice-in-Find.ensures)

pub copy_set-returns-in_ok-path-in-Path : goal.copy_set-returns-in_ok-path-in-Path
copy_set-returns-in_ok-path-in-Path t c = simp (c.in-Path.is, c.in_ok-path-in-Path.ensures)

pub copy_set-returns-in_ok-each-in-MapS : goal.copy_set-returns-in_ok-each-in-MapS
copy_set-returns-in_ok-each-in-MapS t c = simp (c.in-MapS.is, c.in_ok-name-in-MapS.ensures, c.in_ok-of-in-MapS.ensures, c.in_ok-each-in-MapS.ensures, c.get-in-MapS.ensures, c.get-in-MapS-2.ensures, c.get-in-MapS-3.ensures)

pub copy_set-returns-in_ok-each-in-FlatS : goal.copy_set-returns-in_ok-each-in-FlatS
copy_set-returns-in_ok-each-in-FlatS t c = simp (c.in-FlatS.is, c.in_ok-name-in-FlatS.ensures, c.in_ok-of-in-FlatS.ensures, c.in_ok-each-in-FlatS.ensures, c.get-in-FlatS.ensures, c.get-in-FlatS-2.ensures, c.get-in-FlatS-3.ensures)

pub copy_set-returns-in_ok-test-in-IfS : goal.copy_set-returns-in_ok-test-in-IfS
copy_set-returns-in_ok-test-in-IfS t c = simp (c.in-IfS.is, c.in_ok-one-in-IfS.ensures, c.in_ok-other-in-IfS.ensures, c.in_ok-test-in-IfS.ensures, c.get-in-IfS.ensures, c.get-in-IfS-2.ensures, c.get-in-IfS-3.ensures)

pub copy_set-returns-in_ok-of-in-MatchS : goal.copy_set-returns-in_ok-of-in-MatchS
copy_set-returns-in_ok-of-in-MatchS t c = simp (c.in-MatchS.is, c.in_ok-name-in-MatchS.ensures, c.in_ok-none-in-MatchS.ensures, c.in_ok-some-in-MatchS.ensures, c.in_ok-of-in-MatchS.ensures, c.get-in-MatchS.ensures, c.get-in-MatchS-2.ensures, c.get-in-MatchS-3.ensures, c.get-in-MatchS-4.ensures)
