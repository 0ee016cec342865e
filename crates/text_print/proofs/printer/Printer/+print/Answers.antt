-- What each function of the cycle writes.
use Rattle.std.proofs.Common.{◌∙◌, ◌++◌, append_assoc, arith, map, sym}
use Rattle.text_print.specs.Exprs.{commas, spelled_expr, spelled_filter, spelled_item, spelled_set}
use Rattle.text_print.specs.Marks.{text_of_marks}
use Rattle.text_print.proofs.Joined.{text-append, at_least_more, container_more}
use Rattle.text_print.proofs.Loops.{commas_begin, commas_step, commas_done}
use Rattle.text_print.proofs.Parts.{Filter_text, One_text, Path_text, container_tight, at_least_tight, SomeLit_text, Get_text, Cmp_text, Member_text, Not_text, And_text, Or_text, IfE_text, MatchE_text, List_text, Sum_text, Less_text, Find_text, MapS_text, FlatS_text, IfS_text, MatchS_text}
use Rattle.text_print.proofs.printer.Printer.+print.Goals as goal

pub expr-returns-in_ok-put-in-SomeLit-2 : goal.expr-returns-in_ok-put-in-SomeLit-2
expr-returns-in_ok-put-in-SomeLit-2 t c = simp (c.in-SomeLit.is, SomeLit_text, c.get-in-SomeLit.ensures, c.in_ok-put-in-SomeLit.ensures, c.in_ok-expr-in-SomeLit.ensures, c.in_ok-put-in-SomeLit-2.ensures, append_assoc)

pub expr-returns-in_ok-put-in-Get-2 : goal.expr-returns-in_ok-put-in-Get-2
expr-returns-in_ok-put-in-Get-2 t c = simp (c.in-Get.is, Get_text, c.get-in-Get.ensures, c.get-in-Get-2.ensures, c.bytes-in-Get.ensures.bytes, c.in_ok-expr_within-in-Get.ensures, c.in_ok-put-in-Get.ensures, c.in_ok-put-in-Get-2.ensures, append_assoc)

pub expr-returns-in_ok-expr_within-in-Cmp-2 : goal.expr-returns-in_ok-expr_within-in-Cmp-2
expr-returns-in_ok-expr_within-in-Cmp-2 t c = simp (c.in-Cmp.is, Cmp_text, c.get-in-Cmp.ensures, c.get-in-Cmp-2.ensures, c.cmp_sign.ensures, c.in_ok-expr_within-in-Cmp.ensures, c.in_ok-put-in-Cmp.ensures, c.in_ok-expr_within-in-Cmp-2.ensures, append_assoc)

pub expr-returns-in_ok-container-in-Member : goal.expr-returns-in_ok-container-in-Member
expr-returns-in_ok-container-in-Member t c = simp (c.in-Member.is, Member_text, c.get-in-Member.ensures, c.get-in-Member-2.ensures, c.in_ok-expr_within-in-Member.ensures, c.in_ok-put-in-Member.ensures, c.in_ok-container-in-Member.ensures, append_assoc)

pub expr-returns-in_ok-expr_within-in-Not : goal.expr-returns-in_ok-expr_within-in-Not
expr-returns-in_ok-expr_within-in-Not t c = simp (c.in-Not.is, Not_text, c.get-in-Not.ensures, c.in_ok-put-in-Not.ensures, c.in_ok-expr_within-in-Not.ensures, append_assoc)

pub expr-returns-in_ok-expr_within-in-And-2 : goal.expr-returns-in_ok-expr_within-in-And-2
expr-returns-in_ok-expr_within-in-And-2 t c = simp (c.in-And.is, And_text, c.get-in-And.ensures, c.get-in-And-2.ensures, c.in_ok-expr_within-in-And.ensures, c.in_ok-put-in-And.ensures, c.in_ok-expr_within-in-And-2.ensures, append_assoc)

pub expr-returns-in_ok-expr_within-in-Or-2 : goal.expr-returns-in_ok-expr_within-in-Or-2
expr-returns-in_ok-expr_within-in-Or-2 t c = simp (c.in-Or.is, Or_text, c.get-in-Or.ensures, c.get-in-Or-2.ensures, c.in_ok-expr_within-in-Or.ensures, c.in_ok-put-in-Or.ensures, c.in_ok-expr_within-in-Or-2.ensures, append_assoc)

pub expr-returns-in_ok-expr-in-IfE-3 : goal.expr-returns-in_ok-expr-in-IfE-3
expr-returns-in_ok-expr-in-IfE-3 t c = simp (c.in-IfE.is, IfE_text, c.get-in-IfE.ensures, c.get-in-IfE-2.ensures, c.get-in-IfE-3.ensures, c.in_ok-put-in-IfE.ensures, c.in_ok-put-in-IfE-2.ensures, c.in_ok-put-in-IfE-3.ensures, c.in_ok-expr-in-IfE.ensures, c.in_ok-expr-in-IfE-2.ensures, c.in_ok-expr-in-IfE-3.ensures, append_assoc)

pub expr-returns-in_ok-expr-in-MatchE-3 : goal.expr-returns-in_ok-expr-in-MatchE-3
expr-returns-in_ok-expr-in-MatchE-3 t c =
    rw (c.in-MatchE.is, MatchE_text, c.in_ok-expr-in-MatchE-3.ensures, c.in_ok-put-in-MatchE-5.ensures, c.in_ok-put-in-MatchE-4.ensures, c.in_ok-put-in-MatchE-3.ensures, c.in_ok-expr-in-MatchE-2.ensures, c.in_ok-put-in-MatchE-2.ensures, c.in_ok-expr-in-MatchE.ensures, c.in_ok-put-in-MatchE.ensures, c.get-in-MatchE-2.ensures, c.get-in-MatchE-3.ensures, c.bytes-in-MatchE.ensures.bytes, c.get-in-MatchE.ensures) (simp append_assoc)

pub set-returns-in_ok-put-in-List-2 : goal.set-returns-in_ok-put-in-List-2
set-returns-in_ok-put-in-List-2 t c = simp (c.in-List.is, List_text, c.as_slice.ensures, c.in_ok-put-in-List.ensures, c.in_ok-items-in-List.ensures, c.in_ok-put-in-List-2.ensures, append_assoc)

pub set-returns-in_ok-set_within-in-Sum-2 : goal.set-returns-in_ok-set_within-in-Sum-2
set-returns-in_ok-set_within-in-Sum-2 t c = simp (c.in-Sum.is, Sum_text, c.get.ensures, c.get-in-Sum.ensures, c.in_ok-set_within-in-Sum.ensures, c.in_ok-put-in-Sum.ensures, c.in_ok-set_within-in-Sum-2.ensures, append_assoc)

pub set-returns-in_ok-set_within-in-Less-2 : goal.set-returns-in_ok-set_within-in-Less-2
set-returns-in_ok-set_within-in-Less-2 t c = simp (c.in-Less.is, Less_text, c.get-in-Less.ensures, c.get-in-Less-2.ensures, c.in_ok-set_within-in-Less.ensures, c.in_ok-put-in-Less.ensures, c.in_ok-set_within-in-Less-2.ensures, append_assoc)

pub set-returns-in_ok-put-in-Find-3 : goal.set-returns-in_ok-put-in-Find-3
set-returns-in_ok-put-in-Find-3 t c = simp (c.in-Find.is, Find_text, c.get-in-Find.ensures, c.bytes.ensures.bytes, c.as_slice-in-Find.ensures, c.in_ok-put-in-Find.ensures, c.in_ok-put-in-Find-2.ensures, c.in_ok-filters-in-Find.ensures, c.in_ok-put-in-Find-3.ensures, append_assoc)

pub set-returns-in_ok-put-in-MapS-4 : goal.set-returns-in_ok-put-in-MapS-4
set-returns-in_ok-put-in-MapS-4 t c = simp (c.in-MapS.is, MapS_text, c.get-in-MapS.ensures, c.get-in-MapS-2.ensures, c.get-in-MapS-3.ensures, c.bytes-in-MapS.ensures.bytes, c.in_ok-set-in-MapS.ensures, c.in_ok-put-in-MapS.ensures, c.in_ok-put-in-MapS-2.ensures, c.in_ok-put-in-MapS-3.ensures, c.in_ok-put-in-MapS-4.ensures, c.in_ok-expr-in-MapS.ensures, append_assoc)

pub set-returns-in_ok-put-in-FlatS-4 : goal.set-returns-in_ok-put-in-FlatS-4
set-returns-in_ok-put-in-FlatS-4 t c = simp (c.in-FlatS.is, FlatS_text, c.get-in-FlatS.ensures, c.get-in-FlatS-2.ensures, c.get-in-FlatS-3.ensures, c.bytes-in-FlatS.ensures.bytes, c.in_ok-set-in-FlatS.ensures, c.in_ok-put-in-FlatS.ensures, c.in_ok-put-in-FlatS-2.ensures, c.in_ok-put-in-FlatS-3.ensures, c.in_ok-put-in-FlatS-4.ensures, c.in_ok-set-in-FlatS-2.ensures, append_assoc)

pub set-returns-in_ok-set-in-IfS-2 : goal.set-returns-in_ok-set-in-IfS-2
set-returns-in_ok-set-in-IfS-2 t c = simp (c.in-IfS.is, IfS_text, c.get-in-IfS.ensures, c.get-in-IfS-2.ensures, c.get-in-IfS-3.ensures, c.in_ok-put-in-IfS.ensures, c.in_ok-put-in-IfS-2.ensures, c.in_ok-put-in-IfS-3.ensures, c.in_ok-expr-in-IfS.ensures, c.in_ok-set-in-IfS.ensures, c.in_ok-set-in-IfS-2.ensures, append_assoc)

pub set-returns-in_ok-set-in-MatchS-2 : goal.set-returns-in_ok-set-in-MatchS-2
set-returns-in_ok-set-in-MatchS-2 t c =
    rw (c.in-MatchS.is, MatchS_text, c.in_ok-set-in-MatchS-2.ensures, c.in_ok-put-in-MatchS-5.ensures, c.in_ok-put-in-MatchS-4.ensures, c.in_ok-put-in-MatchS-3.ensures, c.in_ok-set-in-MatchS.ensures, c.in_ok-put-in-MatchS-2.ensures, c.in_ok-expr-in-MatchS.ensures, c.in_ok-put-in-MatchS.ensures, c.get-in-MatchS.ensures, c.get-in-MatchS-2.ensures, c.get-in-MatchS-4.ensures, c.bytes-in-MatchS.ensures.bytes, c.get-in-MatchS-3.ensures) (simp append_assoc)

pub expr_within-returns-then-expr_rank-least : goal.expr_within-returns-then-expr_rank-least
expr_within-returns-then-expr_rank-least t c =
    rw (at_least_tight c.args.least (spelled_expr c.args.e.now) (omega (arith, c.expr_rank.ensures))) c.expr.ensures

pub expr_within-returns : goal.expr_within-returns
expr_within-returns t c =
    rw (at_least_more c.args.least (spelled_expr c.args.e.now) (omega (arith, c.expr_rank.ensures)))
    (simp (c.in_ok-put.ensures, c.in_ok-expr.ensures, c.in_ok-put-2.ensures, text-append, append_assoc))

pub set_within-returns-then-set_rank-least : goal.set_within-returns-then-set_rank-least
set_within-returns-then-set_rank-least t c =
    rw (at_least_tight c.args.least (spelled_set c.args.set.now) (omega (arith, c.set_rank.ensures))) c.set.ensures

pub set_within-returns : goal.set_within-returns
set_within-returns t c =
    rw (at_least_more c.args.least (spelled_set c.args.set.now) (omega (arith, c.set_rank.ensures)))
    (simp (c.in_ok-put.ensures, c.in_ok-set.ensures, c.in_ok-put-2.ensures, text-append, append_assoc))

pub container-returns : goal.container-returns
container-returns t c =
    rw (container_more (spelled_set c.args.set.now) (λ is. c.if-set_rank-eq3.false (c.set_rank.ensures ∙ is)))
    (simp (c.in_ok-put.ensures, c.in_ok-set.ensures, c.in_ok-put-2.ensures, text-append, append_assoc))

pub container-returns-then-set_rank-eq3 : goal.container-returns-then-set_rank-eq3
container-returns-then-set_rank-eq3 t c =
    rw (container_tight (spelled_set c.args.set.now) (sym c.set_rank.ensures ∙ c.if-set_rank-eq3.true)) c.set.ensures

pub filter-returns : goal.filter-returns
filter-returns t c =
    rw (Filter_text c.args.filter.now)
    (simp (c.bytes.ensures.bytes, c.filter_sign.ensures, c.in_ok-put.ensures, c.in_ok-put-2.ensures, c.in_ok-expr.ensures, append_assoc))

pub items-loop-item-init : goal.items-loop-item-init
items-loop-item-init t c = commas_begin spelled_item c.args.items.now c.args.self.now

pub items-loop-item-preserved : goal.items-loop-item-preserved
items-loop-item-preserved t c =
    rw (c.in_ok-item.ensures, c.in_ok-put.ensures)
    (commas_step spelled_item c.args.items.now c.loop-item.item-index c.item-item.result c.loop-item.before.now c.loop-item.self
    (c.args.self.now ++ text_of_marks (commas (map spelled_item c.args.items.now))) (omega arith) c.item-item.is c.loop-item.invariant)

pub items-returns : goal.items-returns
items-returns t c =
    commas_done spelled_item c.args.items.now c.loop-item.item-index c.loop-item.before.now c.loop-item.self
    (c.args.self.now ++ text_of_marks (commas (map spelled_item c.args.items.now))) (omega arith) c.loop-item.invariant

pub set-returns-in-Path : goal.set-returns-in-Path
set-returns-in-Path t c = rw (c.in-Path.is, Path_text) c.expr_within.ensures

pub filters-loop-filter-init : goal.filters-loop-filter-init
filters-loop-filter-init t c = commas_begin spelled_filter c.args.filters.now c.args.self.now

pub filters-loop-filter-preserved : goal.filters-loop-filter-preserved
filters-loop-filter-preserved t c =
    rw (c.in_ok-filter.ensures, c.in_ok-put.ensures)
    (commas_step spelled_filter c.args.filters.now c.loop-filter.filter-index c.filter-item.result c.loop-filter.before.now c.loop-filter.self
    (c.args.self.now ++ text_of_marks (commas (map spelled_filter c.args.filters.now))) (omega arith) c.filter-item.is c.loop-filter.invariant)

pub filters-returns : goal.filters-returns
filters-returns t c =
    commas_done spelled_filter c.args.filters.now c.loop-filter.filter-index c.loop-filter.before.now c.loop-filter.self
    (c.args.self.now ++ text_of_marks (commas (map spelled_filter c.args.filters.now))) (omega arith) c.loop-filter.invariant

pub item-returns-in-One : goal.item-returns-in-One
item-returns-in-One t c = rw (c.in-One.is, One_text) c.expr.ensures
