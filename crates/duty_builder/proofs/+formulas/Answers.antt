use Rattle.std.proofs.Common.{◌≡◌, ◌∙◌, ap, sym, refl, subst, inl, inr, Bool, true, false, not, List, [], ◌∷◌, ◌++◌, arith}
use Rattle.std.specs.Prelude.{◌||◌, if◌then◌else◌, fold, Ok}
use Rattle.std.proofs.lemmas.Result.{err_from_is_err_and}
use Rattle.text_tree.specs.declared.exprs.CmpOp.{CmpOp}
use Rattle.text_tree.specs.declared.exprs.FilterOp.{FilterOp}
use Rattle.type_schema.specs.Views.{expr_of, set_of}
use Rattle.form_formula.specs.Trees as tree
use Rattle.duty_meaning.specs.Structures.{function_of}
use Rattle.duty_meaning.specs.Sizes.{size, row}
use Rattle.duty_meaning.specs.Reach.{end_is_none, end_is_some}
use Rattle.duty_meaning.specs.Cases.{atom, constant, and_if, any_if, all_if, exists_if, at_ends, at_terms, of_term, of_option, chosen, choice, condition_of, truth, some, none, has_term, end_has, end_holds, compared}
use Rattle.duty_meaning.specs.Formulas.{cases_of, is_in, field_cases, passes, nothing_written}
use Rattle.duty_writer.specs.Terms.{term_data}
use Rattle.duty_writer.proofs.Paying.{made_stop}
use Rattle.duty_writer.proofs.Joining.{later_stop, two_made, one_made, size-and_if, size-exists_if}
use Rattle.data_meaning.specs.Meaning.{same_truth}
use Rattle.duty_builder.proofs.Lists.{below_le, mapped_body, mapped_same, flat_body, flat_same, static_head, record_head, filter_head, none_more, more_made, first_made, none_of, first_rest, tail_of, part_kept, item_head, items_formulas, items_split, filter_test, filters_formulas, filters_split, any_le, all_le, made_split, rest_le, rest_one_le}
use Rattle.duty_builder.specs.declared.places.Place.{Place}
use Rattle.duty_builder.specs.declared.values.End.{End}
use Rattle.duty_builder.specs.declared.values.Goal.{Goal}
use Rattle.duty_builder.specs.declared.values.Source.{Source}
use Rattle.duty_builder.specs.declared.values.Steps.{Steps}
use Rattle.duty_builder.specs.Values.{schema_in, written_in, written_upto, scene_data, end_data, source_data, who_data, steps_data, goal_data, term_goal, asked_of, part_data, mapped_formula, flat_formula, rest_cost, end_formula}
use Rattle.duty_builder.specs.Places.{use_data, place_data, each_formula, taken_data}
use Rattle.duty_builder.proofs.Reaching.{each_body, each_same, exists_le}
use Rattle.form_formula.specs.Nodes.{formula_of}
use Rattle.type_schema.specs.declared.trees.TItem.{TItem}
use Rattle.type_schema.specs.declared.trees.TFilter.{TFilter}
use Rattle.duty_writer.specs.Made.{MakesFor}
use Rattle.duty_builder.proofs.Forms.{Flag_is, Eq_is, Iff_is, Less_is, Member_is, Not_is, And_is, Or_is, Everyone_set, Nobody_set}
use Rattle.duty_builder.proofs.Walks.{makes_same, ap2, walk_get, walk_match, walk_some, whole_form, ask_done, wrap_truth, wrap_other}
use Rattle.duty_builder.proofs.Asked.{left_le, both_le, part_later, part_made, end_ends, walk_if, eq_is, iff_is, less_is, within_is, not_is, and_is, or_is, sum_is, minus_is, path_is, path_other, if_is, match_is, mapped_is, flat_is, equal_truths, equal_terms}
use Rattle.duty_builder.proofs.Counting.{made_for, size-flag, size-has, size-present}
use Rattle.duty_builder.proofs.+formulas.Goals as goal

pub walking::ask-returns-in_err-fuel : goal.walking::ask-returns-in_err-fuel
walking::ask-returns-in_err-fuel t c =
    let p = err_from_is_err_and c.from_residual.result c.from_residual.ensures.1 in rw (p.1, p.2) tt

pub walking::ask_end-returns-in_err-fuel : goal.walking::ask_end-returns-in_err-fuel
walking::ask_end-returns-in_err-fuel t c =
    let p = err_from_is_err_and c.from_residual.result c.from_residual.ensures.1 in rw (p.1, p.2) tt

pub formulas::ask_where-returns-in_err-fuel : goal.formulas::ask_where-returns-in_err-fuel
formulas::ask_where-returns-in_err-fuel t c =
    let p = err_from_is_err_and c.from_residual.result c.from_residual.ensures.1 in rw (p.1, p.2) tt

pub ends::at_term-returns-in_err-fuel : goal.ends::at_term-returns-in_err-fuel
ends::at_term-returns-in_err-fuel t c =
    let p = err_from_is_err_and c.from_residual.result c.from_residual.ensures.1 in rw (p.1, p.2) tt

pub formulas::choose-returns-in_err-fuel : goal.formulas::choose-returns-in_err-fuel
formulas::choose-returns-in_err-fuel t c =
    let p = err_from_is_err_and c.from_residual.result c.from_residual.ensures.1 in rw (p.1, p.2) tt

pub formulas::choose_ask-returns-in_err-fuel : goal.formulas::choose_ask-returns-in_err-fuel
formulas::choose_ask-returns-in_err-fuel t c =
    let p = err_from_is_err_and c.from_residual.result c.from_residual.ensures.1 in rw (p.1, p.2) tt

pub ends::choose_set-returns-in_err-fuel : goal.ends::choose_set-returns-in_err-fuel
ends::choose_set-returns-in_err-fuel t c =
    let p = err_from_is_err_and c.from_residual.result c.from_residual.ensures.1 in rw (p.1, p.2) tt

pub conditions::compare-returns-in_err-fuel : goal.conditions::compare-returns-in_err-fuel
conditions::compare-returns-in_err-fuel t c =
    let p = err_from_is_err_and c.from_residual.result c.from_residual.ensures.1 in rw (p.1, p.2) tt

pub conditions::condition-returns-in_err-fuel : goal.conditions::condition-returns-in_err-fuel
conditions::condition-returns-in_err-fuel t c =
    let p = err_from_is_err_and c.from_residual.result c.from_residual.ensures.1 in rw (p.1, p.2) tt

pub ends::end_has-returns-in_err-fuel : goal.ends::end_has-returns-in_err-fuel
ends::end_has-returns-in_err-fuel t c =
    let p = err_from_is_err_and c.from_residual.result c.from_residual.ensures.1 in rw (p.1, p.2) tt

pub ends::end_holds-returns-in_err-fuel : goal.ends::end_holds-returns-in_err-fuel
ends::end_holds-returns-in_err-fuel t c =
    let p = err_from_is_err_and c.from_residual.result c.from_residual.ensures.1 in rw (p.1, p.2) tt

pub ends::end_term-returns-in_err-fuel : goal.ends::end_term-returns-in_err-fuel
ends::end_term-returns-in_err-fuel t c =
    let p = err_from_is_err_and c.from_residual.result c.from_residual.ensures.1 in rw (p.1, p.2) tt

pub conditions::equal-returns-in_err-fuel : goal.conditions::equal-returns-in_err-fuel
conditions::equal-returns-in_err-fuel t c =
    let p = err_from_is_err_and c.from_residual.result c.from_residual.ensures.1 in rw (p.1, p.2) tt

pub walking::field-returns-in_err-fuel : goal.walking::field-returns-in_err-fuel
walking::field-returns-in_err-fuel t c =
    let p = err_from_is_err_and c.from_residual.result c.from_residual.ensures.1 in rw (p.1, p.2) tt

pub ends::finish-returns-in_err-fuel : goal.ends::finish-returns-in_err-fuel
ends::finish-returns-in_err-fuel t c =
    let p = err_from_is_err_and c.from_residual.result c.from_residual.ensures.1 in rw (p.1, p.2) tt

pub members::flat-returns-in_err-fuel : goal.members::flat-returns-in_err-fuel
members::flat-returns-in_err-fuel t c =
    let p = err_from_is_err_and c.from_residual.result c.from_residual.ensures.1 in rw (p.1, p.2) tt

pub walking::get-returns-in_err-fuel : goal.walking::get-returns-in_err-fuel
walking::get-returns-in_err-fuel t c =
    let p = err_from_is_err_and c.from_residual.result c.from_residual.ensures.1 in rw (p.1, p.2) tt

pub conditions::holds-returns-in_err-fuel : goal.conditions::holds-returns-in_err-fuel
conditions::holds-returns-in_err-fuel t c =
    let p = err_from_is_err_and c.from_residual.result c.from_residual.ensures.1 in rw (p.1, p.2) tt

pub formulas::join-returns-in_err-fuel : goal.formulas::join-returns-in_err-fuel
formulas::join-returns-in_err-fuel t c =
    let p = err_from_is_err_and c.from_residual.result c.from_residual.ensures.1 in rw (p.1, p.2) tt

pub conditions::less-returns-in_err-fuel : goal.conditions::less-returns-in_err-fuel
conditions::less-returns-in_err-fuel t c =
    let p = err_from_is_err_and c.from_residual.result c.from_residual.ensures.1 in rw (p.1, p.2) tt

pub members::listed-returns-in_err-fuel : goal.members::listed-returns-in_err-fuel
members::listed-returns-in_err-fuel t c =
    let p = err_from_is_err_and c.from_residual.result c.from_residual.ensures.1 in rw (p.1, p.2) tt

pub members::mapped-returns-in_err-fuel : goal.members::mapped-returns-in_err-fuel
members::mapped-returns-in_err-fuel t c =
    let p = err_from_is_err_and c.from_residual.result c.from_residual.ensures.1 in rw (p.1, p.2) tt

pub filters::meets-returns-in_err-fuel : goal.filters::meets-returns-in_err-fuel
filters::meets-returns-in_err-fuel t c =
    let p = err_from_is_err_and c.from_residual.result c.from_residual.ensures.1 in rw (p.1, p.2) tt

pub members::member-returns-in_err-fuel : goal.members::member-returns-in_err-fuel
members::member-returns-in_err-fuel t c =
    let p = err_from_is_err_and c.from_residual.result c.from_residual.ensures.1 in rw (p.1, p.2) tt

pub filters::pass-returns-in_err-fuel : goal.filters::pass-returns-in_err-fuel
filters::pass-returns-in_err-fuel t c =
    let p = err_from_is_err_and c.from_residual.result c.from_residual.ensures.1 in rw (p.1, p.2) tt

pub conditions::same-returns-in_err-fuel : goal.conditions::same-returns-in_err-fuel
conditions::same-returns-in_err-fuel t c =
    let p = err_from_is_err_and c.from_residual.result c.from_residual.ensures.1 in rw (p.1, p.2) tt

pub walking::take_apart-returns-in_err-fuel : goal.walking::take_apart-returns-in_err-fuel
walking::take_apart-returns-in_err-fuel t c =
    let p = err_from_is_err_and c.from_residual.result c.from_residual.ensures.1 in rw (p.1, p.2) tt

pub walking::walk-returns-in_err-fuel : goal.walking::walk-returns-in_err-fuel
walking::walk-returns-in_err-fuel t c =
    let p = err_from_is_err_and c.from_residual.result c.from_residual.ensures.1 in rw (p.1, p.2) tt

pub walking::wrap-returns-in_err-fuel : goal.walking::wrap-returns-in_err-fuel
walking::wrap-returns-in_err-fuel t c =
    let p = err_from_is_err_and c.from_residual.result c.from_residual.ensures.1 in rw (p.1, p.2) tt

pub formulas::write-returns-in_err-fuel : goal.formulas::write-returns-in_err-fuel
formulas::write-returns-in_err-fuel t c =
    let p = err_from_is_err_and c.from_residual.result c.from_residual.ensures.1 in rw (p.1, p.2) tt

pub members::more_items-returns-in_err-fuel : goal.members::more_items-returns-in_err-fuel
members::more_items-returns-in_err-fuel t c =
    let p = err_from_is_err_and c.from_residual.result c.from_residual.ensures.1 in rw (p.1, p.2) tt

pub filters::meets_more-returns-in_err-fuel : goal.filters::meets_more-returns-in_err-fuel
filters::meets_more-returns-in_err-fuel t c =
    let p = err_from_is_err_and c.from_residual.result c.from_residual.ensures.1 in rw (p.1, p.2) tt

pub formulas::write-returns-in-Holds : goal.formulas::write-returns-in-Holds
formulas::write-returns-in-Holds t c =
    let st = c.args.start.now in
    makes_same _ _ _ _ _
    (ap (part_data st c.args.above) (sym c.in-Holds.is))
    c.holds.ensures

pub formulas::write-returns-in-Member : goal.formulas::write-returns-in-Member
formulas::write-returns-in-Member t c =
    let st = c.args.start.now in
    makes_same _ _ _ _ _
    (ap (part_data st c.args.above) (sym c.in-Member.is))
    c.member.ensures

pub formulas::write-returns-in-Present : goal.formulas::write-returns-in-Present
formulas::write-returns-in-Present t c =
    let st = c.args.start.now in
    makes_same _ _ _ _ _
    (ap (part_data st c.args.above) (sym c.in-Present.is))
    (made_for (λ n. atom c.in-Present.sign (tree.present n (term_data c.in-Present.t.now))) _ _ _ _ _
    (size-present c.in-Present.sign _ _ (term_data c.in-Present.t.now)) c.function_for.ensures c.present.ensures)

pub formulas::join-returns-in_err-a : goal.formulas::join-returns-in_err-a
formulas::join-returns-in_err-a t c =
    let st = c.args.start.now in
    let p = err_from_is_err_and c.from_residual-in_err-a.result c.from_residual-in_err-a.ensures.1 in
    made_stop (size (part_data st c.args.above c.args.p.now)) _ _ _ _ _ _ _ p.1 p.2 (left_le c.args.sign (part_data st c.args.above c.args.p.now) (part_data st c.args.above c.args.q.now)) c.in_err-a.ensures

pub formulas::join-returns-in_err-b : goal.formulas::join-returns-in_err-b
formulas::join-returns-in_err-b t c =
    let st = c.args.start.now in
    let p = err_from_is_err_and c.from_residual-in_err-b.result c.from_residual-in_err-b.ensures.1 in
    later_stop _ _ _ (size (part_data st c.args.above c.args.p.now)) (size (part_data st c.args.above c.args.q.now)) _ _ (part_data st c.args.above c.args.p.now) _ _ _ _ c.in_ok-a.ensures p.1 p.2 (both_le c.args.sign (part_data st c.args.above c.args.p.now) (part_data st c.args.above c.args.q.now)) c.in_err-b.ensures

pub formulas::join-and_if-requires-clause-left : goal.formulas::join-and_if-requires-clause-left
formulas::join-and_if-requires-clause-left t c =
    let st = c.args.start.now in
    part_later _ _ _ (size (part_data st c.args.above c.args.p.now)) (size (part_data st c.args.above c.args.q.now)) (part_data st c.args.above c.args.p.now) (part_data st c.args.above c.args.q.now) _ _ c.in_ok-a.ensures c.in_ok-b.ensures

pub formulas::join-and_if-requires-clause-right : goal.formulas::join-and_if-requires-clause-right
formulas::join-and_if-requires-clause-right t c =
    let st = c.args.start.now in
    part_made _ _ (size (part_data st c.args.above c.args.q.now)) (part_data st c.args.above c.args.q.now) _ c.in_ok-b.ensures

pub formulas::join-returns : goal.formulas::join-returns
formulas::join-returns t c =
    let st = c.args.start.now in
    two_made _ _ _ _ (part_data st c.args.above c.args.p.now) (part_data st c.args.above c.args.q.now) (and_if c.args.sign) _ _ _ (size-and_if c.args.sign (part_data st c.args.above c.args.p.now) (part_data st c.args.above c.args.q.now)) c.in_ok-a.ensures c.in_ok-b.ensures c.and_if.ensures

pub formulas::ask_where-returns-in_err-a : goal.formulas::ask_where-returns-in_err-a
formulas::ask_where-returns-in_err-a t c =
    let st = c.args.start.now in
    let p = err_from_is_err_and c.from_residual-in_err-a.result c.from_residual-in_err-a.ensures.1 in
    made_stop (size (part_data st c.args.above c.args.part.now)) _ _ _ _ _ _ _ p.1 p.2 (left_le c.args.sign (part_data st c.args.above c.args.part.now) (asked_of st c.args.above c.args.steps.now c.args.goal.now (source_data st c.args.source.now))) c.in_err-a.ensures

pub formulas::ask_where-returns-in_err-b : goal.formulas::ask_where-returns-in_err-b
formulas::ask_where-returns-in_err-b t c =
    let st = c.args.start.now in
    let p = err_from_is_err_and c.from_residual-in_err-b.result c.from_residual-in_err-b.ensures.1 in
    later_stop _ _ _ (size (part_data st c.args.above c.args.part.now)) (size (asked_of st c.args.above c.args.steps.now c.args.goal.now (source_data st c.args.source.now))) _ _ (part_data st c.args.above c.args.part.now) _ _ _ _ c.in_ok-a.ensures p.1 p.2 (both_le c.args.sign (part_data st c.args.above c.args.part.now) (asked_of st c.args.above c.args.steps.now c.args.goal.now (source_data st c.args.source.now))) c.in_err-b.ensures

pub formulas::ask_where-and_if-requires-clause-left : goal.formulas::ask_where-and_if-requires-clause-left
formulas::ask_where-and_if-requires-clause-left t c =
    let st = c.args.start.now in
    part_later _ _ _ (size (part_data st c.args.above c.args.part.now)) (size (asked_of st c.args.above c.args.steps.now c.args.goal.now (source_data st c.args.source.now))) (part_data st c.args.above c.args.part.now) (asked_of st c.args.above c.args.steps.now c.args.goal.now (source_data st c.args.source.now)) _ _ c.in_ok-a.ensures c.in_ok-b.ensures

pub formulas::ask_where-and_if-requires-clause-right : goal.formulas::ask_where-and_if-requires-clause-right
formulas::ask_where-and_if-requires-clause-right t c =
    let st = c.args.start.now in
    part_made _ _ (size (asked_of st c.args.above c.args.steps.now c.args.goal.now (source_data st c.args.source.now))) (asked_of st c.args.above c.args.steps.now c.args.goal.now (source_data st c.args.source.now)) _ c.in_ok-b.ensures

pub formulas::ask_where-returns : goal.formulas::ask_where-returns
formulas::ask_where-returns t c =
    let st = c.args.start.now in
    two_made _ _ _ _ (part_data st c.args.above c.args.part.now) (asked_of st c.args.above c.args.steps.now c.args.goal.now (source_data st c.args.source.now)) (and_if c.args.sign) _ _ _ (size-and_if c.args.sign (part_data st c.args.above c.args.part.now) (asked_of st c.args.above c.args.steps.now c.args.goal.now (source_data st c.args.source.now))) c.in_ok-a.ensures c.in_ok-b.ensures c.and_if.ensures

pub formulas::choose-returns-in_err-a : goal.formulas::choose-returns-in_err-a
formulas::choose-returns-in_err-a t c =
    let st = c.args.start.now in
    let p = err_from_is_err_and c.from_residual-in_err-a.result c.from_residual-in_err-a.ensures.1 in
    made_stop (size (tree.both (part_data st c.args.above c.args.yes.now) (part_data st c.args.above c.args.then.now))) _ _ _ _ _ _ _ p.1 p.2 (left_le false (tree.both (part_data st c.args.above c.args.yes.now) (part_data st c.args.above c.args.then.now)) (tree.both (part_data st c.args.above c.args.no.now) (part_data st c.args.above c.args.other.now))) c.in_err-a.ensures

pub formulas::choose-returns-in_err-b : goal.formulas::choose-returns-in_err-b
formulas::choose-returns-in_err-b t c =
    let st = c.args.start.now in
    let p = err_from_is_err_and c.from_residual-in_err-b.result c.from_residual-in_err-b.ensures.1 in
    later_stop _ _ _ (size (tree.both (part_data st c.args.above c.args.yes.now) (part_data st c.args.above c.args.then.now))) (size (tree.both (part_data st c.args.above c.args.no.now) (part_data st c.args.above c.args.other.now))) _ _ (tree.both (part_data st c.args.above c.args.yes.now) (part_data st c.args.above c.args.then.now)) _ _ _ _ c.in_ok-a.ensures p.1 p.2 (both_le false (tree.both (part_data st c.args.above c.args.yes.now) (part_data st c.args.above c.args.then.now)) (tree.both (part_data st c.args.above c.args.no.now) (part_data st c.args.above c.args.other.now))) c.in_err-b.ensures

pub formulas::choose-either-requires-clause-left : goal.formulas::choose-either-requires-clause-left
formulas::choose-either-requires-clause-left t c =
    let st = c.args.start.now in
    part_later _ _ _ (size (tree.both (part_data st c.args.above c.args.yes.now) (part_data st c.args.above c.args.then.now))) (size (tree.both (part_data st c.args.above c.args.no.now) (part_data st c.args.above c.args.other.now))) (tree.both (part_data st c.args.above c.args.yes.now) (part_data st c.args.above c.args.then.now)) (tree.both (part_data st c.args.above c.args.no.now) (part_data st c.args.above c.args.other.now)) _ _ c.in_ok-a.ensures c.in_ok-b.ensures

pub formulas::choose-either-requires-clause-right : goal.formulas::choose-either-requires-clause-right
formulas::choose-either-requires-clause-right t c =
    let st = c.args.start.now in
    part_made _ _ (size (tree.both (part_data st c.args.above c.args.no.now) (part_data st c.args.above c.args.other.now))) (tree.both (part_data st c.args.above c.args.no.now) (part_data st c.args.above c.args.other.now)) _ c.in_ok-b.ensures

pub formulas::choose-returns : goal.formulas::choose-returns
formulas::choose-returns t c =
    let st = c.args.start.now in
    two_made _ _ _ _ (tree.both (part_data st c.args.above c.args.yes.now) (part_data st c.args.above c.args.then.now)) (tree.both (part_data st c.args.above c.args.no.now) (part_data st c.args.above c.args.other.now)) (tree.either) _ _ _ (size-and_if false (tree.both (part_data st c.args.above c.args.yes.now) (part_data st c.args.above c.args.then.now)) (tree.both (part_data st c.args.above c.args.no.now) (part_data st c.args.above c.args.other.now))) c.in_ok-a.ensures c.in_ok-b.ensures c.either.ensures

pub formulas::choose_ask-returns-in_err-x : goal.formulas::choose_ask-returns-in_err-x
formulas::choose_ask-returns-in_err-x t c =
    let st = c.args.start.now in
    let p = err_from_is_err_and c.from_residual-in_err-x.result c.from_residual-in_err-x.ensures.1 in
    made_stop (size (tree.both (part_data st c.args.above c.args.yes.now) (asked_of st c.args.above c.args.steps.now c.args.goal.now (source_data st c.args.a.now)))) _ _ _ _ _ _ _ p.1 p.2 (left_le false (tree.both (part_data st c.args.above c.args.yes.now) (asked_of st c.args.above c.args.steps.now c.args.goal.now (source_data st c.args.a.now))) (tree.both (part_data st c.args.above c.args.no.now) (asked_of st c.args.above c.args.steps.now c.args.goal.now (source_data st c.args.b.now)))) c.in_err-x.ensures

pub formulas::choose_ask-returns-in_err-y : goal.formulas::choose_ask-returns-in_err-y
formulas::choose_ask-returns-in_err-y t c =
    let st = c.args.start.now in
    let p = err_from_is_err_and c.from_residual-in_err-y.result c.from_residual-in_err-y.ensures.1 in
    later_stop _ _ _ (size (tree.both (part_data st c.args.above c.args.yes.now) (asked_of st c.args.above c.args.steps.now c.args.goal.now (source_data st c.args.a.now)))) (size (tree.both (part_data st c.args.above c.args.no.now) (asked_of st c.args.above c.args.steps.now c.args.goal.now (source_data st c.args.b.now)))) _ _ (tree.both (part_data st c.args.above c.args.yes.now) (asked_of st c.args.above c.args.steps.now c.args.goal.now (source_data st c.args.a.now))) _ _ _ _ c.in_ok-x.ensures p.1 p.2 (both_le false (tree.both (part_data st c.args.above c.args.yes.now) (asked_of st c.args.above c.args.steps.now c.args.goal.now (source_data st c.args.a.now))) (tree.both (part_data st c.args.above c.args.no.now) (asked_of st c.args.above c.args.steps.now c.args.goal.now (source_data st c.args.b.now)))) c.in_err-y.ensures

pub formulas::choose_ask-either-requires-clause-left : goal.formulas::choose_ask-either-requires-clause-left
formulas::choose_ask-either-requires-clause-left t c =
    let st = c.args.start.now in
    part_later _ _ _ (size (tree.both (part_data st c.args.above c.args.yes.now) (asked_of st c.args.above c.args.steps.now c.args.goal.now (source_data st c.args.a.now)))) (size (tree.both (part_data st c.args.above c.args.no.now) (asked_of st c.args.above c.args.steps.now c.args.goal.now (source_data st c.args.b.now)))) (tree.both (part_data st c.args.above c.args.yes.now) (asked_of st c.args.above c.args.steps.now c.args.goal.now (source_data st c.args.a.now))) (tree.both (part_data st c.args.above c.args.no.now) (asked_of st c.args.above c.args.steps.now c.args.goal.now (source_data st c.args.b.now))) _ _ c.in_ok-x.ensures c.in_ok-y.ensures

pub formulas::choose_ask-either-requires-clause-right : goal.formulas::choose_ask-either-requires-clause-right
formulas::choose_ask-either-requires-clause-right t c =
    let st = c.args.start.now in
    part_made _ _ (size (tree.both (part_data st c.args.above c.args.no.now) (asked_of st c.args.above c.args.steps.now c.args.goal.now (source_data st c.args.b.now)))) (tree.both (part_data st c.args.above c.args.no.now) (asked_of st c.args.above c.args.steps.now c.args.goal.now (source_data st c.args.b.now))) _ c.in_ok-y.ensures

pub formulas::choose_ask-returns : goal.formulas::choose_ask-returns
formulas::choose_ask-returns t c =
    let st = c.args.start.now in
    two_made _ _ _ _ (tree.both (part_data st c.args.above c.args.yes.now) (asked_of st c.args.above c.args.steps.now c.args.goal.now (source_data st c.args.a.now))) (tree.both (part_data st c.args.above c.args.no.now) (asked_of st c.args.above c.args.steps.now c.args.goal.now (source_data st c.args.b.now))) (tree.either) _ _ _ (size-and_if false (tree.both (part_data st c.args.above c.args.yes.now) (asked_of st c.args.above c.args.steps.now c.args.goal.now (source_data st c.args.a.now))) (tree.both (part_data st c.args.above c.args.no.now) (asked_of st c.args.above c.args.steps.now c.args.goal.now (source_data st c.args.b.now)))) c.in_ok-x.ensures c.in_ok-y.ensures c.either.ensures

pub walking::ask-returns-in-Expr : goal.walking::ask-returns-in-Expr
walking::ask-returns-in-Expr t c =
    let st = c.args.start.now in
    makes_same _ _ _ _ _
    (ap (λ (v : Source). asked_of st c.args.above c.args.steps.now c.args.goal.now (source_data st v)) (sym c.in-Expr.is))
    c.walk.ensures

pub walking::ask-returns-in-Field : goal.walking::ask-returns-in-Field
walking::ask-returns-in-Field t c =
    let st = c.args.start.now in
    makes_same _ _ _ _ _
    (ap (λ (v : Source). asked_of st c.args.above c.args.steps.now c.args.goal.now (source_data st v)) (sym c.in-Field.is))
    c.field.ensures

pub walking::walk-returns-in-SomeLit : goal.walking::walk-returns-in-SomeLit
walking::walk-returns-in-SomeLit t c =
    let st = c.args.start.now in
    let s = schema_in st in
    let w = written_in st c.args.scene.now in
    let env = scene_data st c.args.scene.now in
    makes_same _ _ _ _ _
    (ap (asked_of st c.args.above c.args.steps.now c.args.goal.now) (walk_some s w env c.args.e.now c.get.result.now c.in-SomeLit.a c.in-SomeLit.is c.get.ensures))
    c.wrap.ensures

pub walking::walk-returns-in-Get : goal.walking::walk-returns-in-Get
walking::walk-returns-in-Get t c =
    let st = c.args.start.now in
    let s = schema_in st in
    let w = written_in st c.args.scene.now in
    let env = scene_data st c.args.scene.now in
    makes_same _ _ _ _ _
    (ap (at_ends c.args.above (goal_data st c.args.goal.now c.args.above)) (walk_get s w env (written_upto st c.upto_of.result) (steps_data st c.args.steps.now) c.args.e.now c.get-in-Get.result.now c.in-Get.a c.in-Get.m c.in-Get.f c.in-Get.is c.get-in-Get.ensures (ap (written_upto st) (sym c.upto_of.ensures))))
    c.walk.ensures

pub walking::walk-returns-in-IfE : goal.walking::walk-returns-in-IfE
walking::walk-returns-in-IfE t c =
    let st = c.args.start.now in
    let s = schema_in st in
    let w = written_in st c.args.scene.now in
    let env = scene_data st c.args.scene.now in
    makes_same _ _ _ _ _
    (walk_if s w env c.args.above (goal_data st c.args.goal.now c.args.above) (steps_data st c.args.steps.now) c.args.e.now c.get-in-IfE.result.now c.in-IfE.c c.get-in-IfE-2.result.now c.in-IfE.a c.get-in-IfE-3.result.now c.in-IfE.b c.in-IfE.is c.get-in-IfE.ensures c.get-in-IfE-2.ensures c.get-in-IfE-3.ensures)
    c.choose_ask.ensures

pub walking::walk-returns-in-MatchE : goal.walking::walk-returns-in-MatchE
walking::walk-returns-in-MatchE t c =
    let st = c.args.start.now in
    let s = schema_in st in
    let w = written_in st c.args.scene.now in
    let env = scene_data st c.args.scene.now in
    makes_same _ _ _ _ _
    (ap (at_ends c.args.above (goal_data st c.args.goal.now c.args.above)) (walk_match s w env (steps_data st c.args.steps.now) c.args.e.now c.get-in-MatchE-3.result.now c.in-MatchE.of c.get-in-MatchE.result.now c.in-MatchE.a c.get-in-MatchE-2.result.now c.in-MatchE.c c.in-MatchE.field-2 c.in-MatchE.is c.get-in-MatchE-3.ensures c.get-in-MatchE.ensures c.get-in-MatchE-2.ensures))
    c.walk-in-MatchE.ensures

pub walking::walk-returns-in-Flag : goal.walking::walk-returns-in-Flag
walking::walk-returns-in-Flag t c =
    let st = c.args.start.now in
    let s = schema_in st in
    let w = written_in st c.args.scene.now in
    let env = scene_data st c.args.scene.now in
    let e = c.args.e.now in
    let whole : truth (condition_of s (cases_of s w env (expr_of e))) ≡ cases_of s w env (expr_of e) =
    elim c.in-Flag.is [
      | inl p ↦ whole_form s w env e _ (ap expr_of p.1 ∙ Flag_is p.0) refl
      | inr q ↦
          elim q [
            | inl p ↦ whole_form s w env e _ (ap expr_of p.3 ∙ Eq_is p.0 p.1 p.2) refl
            | inr q ↦
                elim q [
                  | inl p ↦ whole_form s w env e _ (ap expr_of p.3 ∙ Iff_is p.0 p.1 p.2) refl
                  | inr q ↦
                      elim q [
                        | inl p ↦ whole_form s w env e _ (ap expr_of p.3 ∙ Less_is p.0 p.1 p.2) refl
                        | inr q ↦
                            elim q [
                              | inl p ↦ whole_form s w env e _ (ap expr_of p.3 ∙ Member_is p.0 p.1 p.2) refl
                              | inr q ↦
                                  elim q [
                                    | inl p ↦ whole_form s w env e _ (ap expr_of p.1 ∙ Not_is p.0) refl
                                    | inr q ↦
                                        elim q [ inl p ↦ whole_form s w env e _ (ap expr_of p.2 ∙ And_is p.0 p.1) refl | inr p ↦ whole_form s w env e _ (ap expr_of p.2 ∙ Or_is p.0 p.1) refl ]
                                  ]
                            ]
                      ]
                ]
          ]
    ] in
    makes_same _ _ _ _ _
    (ap (asked_of st c.args.above c.args.steps.now c.args.goal.now) whole)
    c.ask_end-in-Flag.ensures

pub walking::wrap-returns-in_err-is_truth : goal.walking::wrap-returns-in_err-is_truth
walking::wrap-returns-in_err-is_truth t c =
    let p = err_from_is_err_and c.from_residual-in_err-is_truth.result c.from_residual-in_err-is_truth.ensures.1 in rw (p.1, p.2) tt

pub walking::wrap-returns-then-is_truth : goal.walking::wrap-returns-then-is_truth
walking::wrap-returns-then-is_truth t c =
    let st = c.args.start.now in
    let s = schema_in st in
    let w = written_in st c.args.scene.now in
    let env = scene_data st c.args.scene.now in
    makes_same _ _ _ _ _
    (ap (asked_of st c.args.above c.args.steps.now c.args.goal.now) (sym (wrap_truth s (cases_of s w env (expr_of c.args.e.now)) c.in_ok-is_truth.is_truth c.in_ok-is_truth.ensures c.if-is_truth.true)))
    c.ask_end.ensures

pub walking::wrap-returns : goal.walking::wrap-returns
walking::wrap-returns t c =
    let st = c.args.start.now in
    let s = schema_in st in
    let w = written_in st c.args.scene.now in
    let env = scene_data st c.args.scene.now in
    makes_same _ _ _ _ _
    (ap (at_ends c.args.above (goal_data st c.args.goal.now c.args.above)) (sym (wrap_other s (cases_of s w env (expr_of c.args.e.now)) (steps_data st c.args.steps.now) c.in_ok-is_truth.is_truth c.in_ok-is_truth.ensures c.if-is_truth.false)))
    c.walk.ensures

pub walking::ask_end-returns-in-Done : goal.walking::ask_end-returns-in-Done
walking::ask_end-returns-in-Done t c =
    let st = c.args.start.now in
    makes_same _ _ _ _ _
    (sym (end_ends st c.args.above (goal_data st c.args.goal.now c.args.above) c.args.end.now) ∙ ap (λ (v : Steps). at_ends c.args.above (goal_data st c.args.goal.now c.args.above) (steps_data st v (end_data st c.args.end.now))) (sym c.in-Done.is))
    c.finish.ensures

pub walking::ask_end-returns-in-Get : goal.walking::ask_end-returns-in-Get
walking::ask_end-returns-in-Get t c =
    let st = c.args.start.now in
    makes_same _ _ _ _ _
    (ap (λ (v : Steps). at_ends c.args.above (goal_data st c.args.goal.now c.args.above) (steps_data st v (end_data st c.args.end.now))) (sym c.in-Get.is))
    c.get.ensures

pub walking::ask_end-returns-in-Match : goal.walking::ask_end-returns-in-Match
walking::ask_end-returns-in-Match t c =
    let st = c.args.start.now in
    makes_same _ _ _ _ _
    (ap (λ (v : Steps). at_ends c.args.above (goal_data st c.args.goal.now c.args.above) (steps_data st v (end_data st c.args.end.now))) (sym c.in-Match.is))
    c.take_apart.ensures

pub walking::ask_end-returns-in-Wrap : goal.walking::ask_end-returns-in-Wrap
walking::ask_end-returns-in-Wrap t c =
    let st = c.args.start.now in
    makes_same _ _ _ _ _
    (ap (λ (v : Steps). at_ends c.args.above (goal_data st c.args.goal.now c.args.above) (steps_data st v (end_data st c.args.end.now))) (sym c.in-Wrap.is))
    c.ask_end.ensures

pub walking::ask_end-returns-then-is_truth_end : goal.walking::ask_end-returns-then-is_truth_end
walking::ask_end-returns-then-is_truth_end t c =
    let st = c.args.start.now in
    let s = schema_in st in
    makes_same _ _ _ _ _
    (ap (λ b. at_ends c.args.above (goal_data st c.args.goal.now c.args.above) (steps_data st c.in-Just.next.now (if b then some (truth (condition_of s (cases_of s (written_in st c.in-Just.scene.now) (scene_data st c.in-Just.scene.now) (expr_of c.in-Just.e.now)))) else some (end_data st c.args.end.now)))) (sym c.if-is_truth_end.true ∙ c.is_truth_end.ensures) ∙ ap (λ (v : Steps). at_ends c.args.above (goal_data st c.args.goal.now c.args.above) (steps_data st v (end_data st c.args.end.now))) (sym c.in-Just.is))
    c.ask_end-then-is_truth_end.ensures

pub walking::ask_end-returns-else-is_truth_end : goal.walking::ask_end-returns-else-is_truth_end
walking::ask_end-returns-else-is_truth_end t c =
    let st = c.args.start.now in
    let s = schema_in st in
    makes_same _ _ _ _ _
    (ap (λ b. at_ends c.args.above (goal_data st c.args.goal.now c.args.above) (steps_data st c.in-Just.next.now (if b then some (truth (condition_of s (cases_of s (written_in st c.in-Just.scene.now) (scene_data st c.in-Just.scene.now) (expr_of c.in-Just.e.now)))) else some (end_data st c.args.end.now)))) (sym c.if-is_truth_end.false ∙ c.is_truth_end.ensures) ∙ ap (λ (v : Steps). at_ends c.args.above (goal_data st c.args.goal.now c.args.above) (steps_data st v (end_data st c.args.end.now))) (sym c.in-Just.is))
    c.ask_end-else-is_truth_end.ensures

pub walking::get-returns-in-Term : goal.walking::get-returns-in-Term
walking::get-returns-in-Term t c =
    let st = c.args.start.now in
    let s = schema_in st in
    makes_same _ _ _ _ _
    (ap (λ (x : End). asked_of st c.args.above c.args.steps.now c.args.goal.now (of_term s none (field_cases s (written_upto st c.args.upto) c.args.m c.args.f) (end_data st x))) (sym c.in-Term.is))
    c.field.ensures

pub walking::get-returns-in-Held : goal.walking::get-returns-in-Held
walking::get-returns-in-Held t c =
    let st = c.args.start.now in
    let s = schema_in st in
    makes_same _ _ _ _ _
    (ap (λ k. asked_of st c.args.above c.args.steps.now c.args.goal.now (field_cases s (written_upto st c.args.upto) c.args.m c.args.f (tree.app k (term_data c.in-Held.t.now)))) c.function_of.ensures ∙ ap (λ (x : End). asked_of st c.args.above c.args.steps.now c.args.goal.now (of_term s none (field_cases s (written_upto st c.args.upto) c.args.m c.args.f) (end_data st x))) (sym c.in-Held.is))
    c.field-in-Held.ensures

pub walking::take_apart-returns-in-Some : goal.walking::take_apart-returns-in-Some
walking::take_apart-returns-in-Some t c =
    let st = c.args.start.now in
    let s = schema_in st in
    let w = written_in st c.args.scene.now in
    let env = scene_data st c.args.scene.now in
    makes_same _ _ _ _ _
    (ap (λ (x : End). asked_of st c.args.above c.args.steps.now c.args.goal.now (of_option s choice (cases_of s w env (expr_of c.args.a.now)) (λ y. cases_of s w (env ++ y ∷ []) (expr_of c.args.some.now)) (end_data st x))) (sym c.in-Some.is))
    c.walk.ensures

pub walking::take_apart-returns-in-Held : goal.walking::take_apart-returns-in-Held
walking::take_apart-returns-in-Held t c =
    let st = c.args.start.now in
    let s = schema_in st in
    let w = written_in st c.args.scene.now in
    let env = scene_data st c.args.scene.now in
    makes_same _ _ _ _ _
    (ap (λ (x : End). tree.either (tree.both (atom false (tree.present (function_of s c.in-Held.m c.in-Held.f) (term_data c.in-Held.t.now))) (asked_of st c.args.above c.args.steps.now c.args.goal.now (cases_of s w env (expr_of c.args.a.now)))) (tree.both (atom true (tree.present (function_of s c.in-Held.m c.in-Held.f) (term_data c.in-Held.t.now))) (asked_of st c.args.above c.args.steps.now c.args.goal.now (cases_of s w (env ++ end_data st x ∷ []) (expr_of c.args.some.now))))) c.in-Held.is ∙ ap (λ (x : End). asked_of st c.args.above c.args.steps.now c.args.goal.now (of_option s choice (cases_of s w env (expr_of c.args.a.now)) (λ y. cases_of s w (env ++ y ∷ []) (expr_of c.args.some.now)) (end_data st x))) (sym c.in-Held.is))
    c.choose_ask.ensures

pub ends::finish-returns-in-Holds : goal.ends::finish-returns-in-Holds
ends::finish-returns-in-Holds t c =
    let st = c.args.start.now in
    makes_same _ _ _ _ _
    (ap (λ (g : Goal). goal_data st g c.args.above (end_data st c.args.end.now)) (sym c.in-Holds.is))
    c.end_holds.ensures

pub ends::finish-returns-in-Has : goal.ends::finish-returns-in-Has
ends::finish-returns-in-Has t c =
    let st = c.args.start.now in
    makes_same _ _ _ _ _
    (ap (λ (g : Goal). goal_data st g c.args.above (end_data st c.args.end.now)) (sym c.in-Has.is))
    c.end_has.ensures

pub ends::finish-returns-in-Chosen : goal.ends::finish-returns-in-Chosen
ends::finish-returns-in-Chosen t c =
    let st = c.args.start.now in
    makes_same _ _ _ _ _
    (ap (λ (g : Goal). goal_data st g c.args.above (end_data st c.args.end.now)) (sym c.in-Chosen.is))
    c.choose_set.ensures

pub ends::finish-returns-in-Equal : goal.ends::finish-returns-in-Equal
ends::finish-returns-in-Equal t c =
    let st = c.args.start.now in
    let s = schema_in st in
    let P : Goal → Type 0 = λ g. of_term s tree.no (term_goal st g c.args.above) (end_data st c.args.end.now) ≡ goal_data st g c.args.above (end_data st c.args.end.now) in
    makes_same _ _ _ _ _
    (let h : P c.args.goal.now = elim c.in-Equal.is [ inl p ↦ subst P (sym p.2) refl | inr q ↦ elim q [ inl p ↦ subst P (sym p.2) refl | inr q ↦ elim q [ inl p ↦ subst P (sym p.2) refl | inr q ↦ elim q [ inl p ↦ subst P (sym p.2) refl | inr q ↦ elim q [ inl p ↦ subst P (sym p.4) refl | inr q ↦ elim q [ inl p ↦ subst P (sym p.3) refl | inr p ↦ subst P (sym p.2) refl ] ] ] ] ] ] in h)
    c.end_term.ensures

pub ends::end_holds-returns-in-Held : goal.ends::end_holds-returns-in-Held
ends::end_holds-returns-in-Held t c =
    let st = c.args.start.now in
    let s = schema_in st in
    makes_same _ _ _ _ _
    (ap (λ (x : End). end_holds s c.args.sign c.args.above (end_data st x)) (sym c.in-Held.is))
    (made_for (λ k. atom c.args.sign (tree.flag k (term_data c.in-Held.t.now))) _ _ _ _ _
    (size-flag c.args.sign _ _ (term_data c.in-Held.t.now)) c.function_for.ensures c.flag.ensures)

pub ends::end_holds-returns-in-Truth : goal.ends::end_holds-returns-in-Truth
ends::end_holds-returns-in-Truth t c =
    let st = c.args.start.now in
    let s = schema_in st in
    makes_same _ _ _ _ _
    (ap (λ (x : End). end_holds s c.args.sign c.args.above (end_data st x)) (sym c.in-Truth.is))
    c.condition.ensures

pub ends::end_has-returns-in-Held : goal.ends::end_has-returns-in-Held
ends::end_has-returns-in-Held t c =
    let st = c.args.start.now in
    let s = schema_in st in
    makes_same _ _ _ _ _
    (ap (λ (x : End). end_has s (term_data c.args.u.now) c.args.sign c.args.above (end_data st x)) (sym c.in-Held.is))
    (made_for (λ k. atom c.args.sign (tree.has k (term_data c.in-Held.t.now) (term_data c.args.u.now))) _ _ _ _ _
    (size-has c.args.sign _ _ (term_data c.in-Held.t.now) (term_data c.args.u.now)) c.relation_for.ensures c.has.ensures)

pub ends::end_has-returns-in-Among : goal.ends::end_has-returns-in-Among
ends::end_has-returns-in-Among t c =
    let st = c.args.start.now in
    let s = schema_in st in
    makes_same _ _ _ _ _
    (ap (λ (x : End). end_has s (term_data c.args.u.now) c.args.sign c.args.above (end_data st x)) (sym c.in-Among.is))
    c.member.ensures

pub ends::end_term-returns-in-Term : goal.ends::end_term-returns-in-Term
ends::end_term-returns-in-Term t c =
    let st = c.args.start.now in
    let s = schema_in st in
    makes_same _ _ _ _ _
    (ap (λ (x : End). of_term s tree.no (term_goal st c.args.goal.now c.args.above) (end_data st x)) (sym c.in-Term.is))
    c.at_term.ensures

pub ends::end_term-returns-in-Held : goal.ends::end_term-returns-in-Held
ends::end_term-returns-in-Held t c =
    let st = c.args.start.now in
    let s = schema_in st in
    makes_same _ _ _ _ _
    (ap (λ k. term_goal st c.args.goal.now c.args.above (tree.app k (term_data c.in-Held.t.now))) c.function_of.ensures ∙ ap (λ (x : End). of_term s tree.no (term_goal st c.args.goal.now c.args.above) (end_data st x)) (sym c.in-Held.is))
    c.at_term-in-Held.ensures

pub ends::at_term-returns-in-Equal : goal.ends::at_term-returns-in-Equal
ends::at_term-returns-in-Equal t c =
    let st = c.args.start.now in
    makes_same _ _ _ _ _
    (ap (λ (g : Goal). term_goal st g c.args.above (term_data c.args.t.now)) (sym c.in-Equal.is))
    c.equal.ensures

pub ends::at_term-returns-in-Below : goal.ends::at_term-returns-in-Below
ends::at_term-returns-in-Below t c =
    let st = c.args.start.now in
    makes_same _ _ _ _ _
    (ap (λ (g : Goal). term_goal st g c.args.above (term_data c.args.t.now)) (sym c.in-Below.is))
    c.less.ensures

pub ends::at_term-returns-in-EqualTo : goal.ends::at_term-returns-in-EqualTo
ends::at_term-returns-in-EqualTo t c =
    let st = c.args.start.now in
    let s = schema_in st in
    makes_same _ _ _ _ _
    (ask_done c.args.above (of_term s tree.no (λ u. atom c.in-EqualTo.sign (tree.equal (term_data c.args.t.now) u))) (source_data st c.in-EqualTo.v.now) ∙ ap (λ (g : Goal). term_goal st g c.args.above (term_data c.args.t.now)) (sym c.in-EqualTo.is))
    c.ask.ensures

pub ends::at_term-returns-in-LessThan : goal.ends::at_term-returns-in-LessThan
ends::at_term-returns-in-LessThan t c =
    let st = c.args.start.now in
    let s = schema_in st in
    makes_same _ _ _ _ _
    (ask_done c.args.above (of_term s tree.no (λ u. atom c.in-LessThan.sign (tree.less (term_data c.args.t.now) u))) (source_data st c.in-LessThan.v.now) ∙ ap (λ (g : Goal). term_goal st g c.args.above (term_data c.args.t.now)) (sym c.in-LessThan.is))
    c.ask-in-LessThan.ensures

pub ends::at_term-returns-in-Within : goal.ends::at_term-returns-in-Within
ends::at_term-returns-in-Within t c =
    let st = c.args.start.now in
    makes_same _ _ _ _ _
    (ap (λ (g : Goal). term_goal st g c.args.above (term_data c.args.t.now)) (sym c.in-Within.is))
    c.member.ensures

pub ends::at_term-returns-in-Some : goal.ends::at_term-returns-in-Some
ends::at_term-returns-in-Some t c =
    let st = c.args.start.now in
    makes_same _ _ _ _ _
    (sym (c.in-Some.ensures (λ u sign above. atom sign (tree.equal u (term_data c.args.t.now))) c.in-Is.sign c.args.above) ∙ ap (λ (g : Goal). term_goal st g c.args.above (term_data c.args.t.now)) (sym c.in-Is.is))
    c.equal-in-Some.ensures

pub ends::at_term-returns-in-None : goal.ends::at_term-returns-in-None
ends::at_term-returns-in-None t c =
    let st = c.args.start.now in
    makes_same _ _ _ _ _
    (sym (c.in-None.ensures (λ u sign above. atom sign (tree.equal u (term_data c.args.t.now))) c.in-Is.sign c.args.above) ∙ ap (λ (g : Goal). term_goal st g c.args.above (term_data c.args.t.now)) (sym c.in-Is.is))
    c.constant.ensures

pub ends::at_term-returns-in-In : goal.ends::at_term-returns-in-In
ends::at_term-returns-in-In t c =
    let st = c.args.start.now in
    let s = schema_in st in
    makes_same _ _ _ _ _
    (ask_done c.args.above (end_has s (term_data c.args.t.now) c.in-In.sign c.args.above) (source_data st c.in-In.v.now) ∙ ap (λ (g : Goal). term_goal st g c.args.above (term_data c.args.t.now)) (sym c.in-In.is))
    c.ask-in-In.ensures

pub ends::choose_set-returns-in-Some : goal.ends::choose_set-returns-in-Some
ends::choose_set-returns-in-Some t c =
    let st = c.args.start.now in
    let s = schema_in st in
    let w = written_in st c.args.scene.now in
    let env = scene_data st c.args.scene.now in
    makes_same _ _ _ _ _
    (ap (λ (x : End). of_option s (chosen c.args.above) (is_in s w env (set_of c.args.a.now) (who_data c.args.who.now) c.args.sign c.args.above) (λ y. is_in s w (env ++ y ∷ []) (set_of c.args.some.now) (who_data c.args.who.now) c.args.sign c.args.above) (end_data st x)) (sym c.in-Some.is))
    c.member.ensures

pub ends::choose_set-returns-in-Held : goal.ends::choose_set-returns-in-Held
ends::choose_set-returns-in-Held t c =
    let st = c.args.start.now in
    let s = schema_in st in
    let w = written_in st c.args.scene.now in
    let env = scene_data st c.args.scene.now in
    makes_same _ _ _ _ _
    (ap (λ (x : End). tree.either (tree.both (atom false (tree.present (function_of s c.in-Held.m c.in-Held.f) (term_data c.in-Held.t.now))) (is_in s w env (set_of c.args.a.now) (who_data c.args.who.now) c.args.sign c.args.above)) (tree.both (atom true (tree.present (function_of s c.in-Held.m c.in-Held.f) (term_data c.in-Held.t.now))) (is_in s w (env ++ end_data st x ∷ []) (set_of c.args.some.now) (who_data c.args.who.now) c.args.sign c.args.above))) c.in-Held.is ∙ ap (λ (x : End). of_option s (chosen c.args.above) (is_in s w env (set_of c.args.a.now) (who_data c.args.who.now) c.args.sign c.args.above) (λ y. is_in s w (env ++ y ∷ []) (set_of c.args.some.now) (who_data c.args.who.now) c.args.sign c.args.above) (end_data st x)) (sym c.in-Held.is))
    c.choose.ensures

pub conditions::holds-returns-in-Expr : goal.conditions::holds-returns-in-Expr
conditions::holds-returns-in-Expr t c =
    let st = c.args.start.now in
    let s = schema_in st in
    makes_same _ _ _ _ _
    (ap (λ (v : Source). condition_of s (source_data st v) c.args.sign c.args.above) (sym c.in-Expr.is))
    c.condition.ensures

pub conditions::holds-returns-in-Field : goal.conditions::holds-returns-in-Field
conditions::holds-returns-in-Field t c =
    let st = c.args.start.now in
    let s = schema_in st in
    makes_same _ _ _ _ _
    (ask_done c.args.above (end_holds s c.args.sign c.args.above) (source_data st c.args.source.now))
    c.ask.ensures

pub conditions::condition-returns-in-Flag : goal.conditions::condition-returns-in-Flag
conditions::condition-returns-in-Flag t c =
    let st = c.args.start.now in
    let s = schema_in st in
    let w = written_in st c.args.scene.now in
    let env = scene_data st c.args.scene.now in
    makes_same _ _ _ _ _
    (ap constant c.same_truth.ensures ∙ ap (λ x. condition_of s (cases_of s w env x) c.args.sign c.args.above) (sym (ap expr_of c.in-Flag.is ∙ Flag_is c.in-Flag.b)))
    c.constant.ensures

pub conditions::condition-returns-in-Eq : goal.conditions::condition-returns-in-Eq
conditions::condition-returns-in-Eq t c =
    let st = c.args.start.now in
    let s = schema_in st in
    let w = written_in st c.args.scene.now in
    let env = scene_data st c.args.scene.now in
    makes_same _ _ _ _ _
    (eq_is s w env c.args.sign c.args.above c.args.e.now c.get.result.now c.in-Eq.a c.get-in-Eq.result.now c.in-Eq.b c.in-Eq.field-2 c.in-Eq.is c.get.ensures c.get-in-Eq.ensures)
    c.ask.ensures

pub conditions::condition-returns-in-Iff : goal.conditions::condition-returns-in-Iff
conditions::condition-returns-in-Iff t c =
    let st = c.args.start.now in
    let s = schema_in st in
    let w = written_in st c.args.scene.now in
    let env = scene_data st c.args.scene.now in
    makes_same _ _ _ _ _
    (iff_is s w env c.args.sign c.args.above c.args.e.now c.get-in-Iff.result.now c.in-Iff.a c.get-in-Iff-2.result.now c.in-Iff.b c.in-Iff.field-2 c.in-Iff.is c.get-in-Iff.ensures c.get-in-Iff-2.ensures)
    c.same.ensures

pub conditions::condition-returns-in-Less : goal.conditions::condition-returns-in-Less
conditions::condition-returns-in-Less t c =
    let st = c.args.start.now in
    let s = schema_in st in
    let w = written_in st c.args.scene.now in
    let env = scene_data st c.args.scene.now in
    makes_same _ _ _ _ _
    (less_is s w env c.args.sign c.args.above c.args.e.now c.get-in-Less.result.now c.in-Less.a c.get-in-Less-2.result.now c.in-Less.b c.in-Less.field-2 c.in-Less.is c.get-in-Less.ensures c.get-in-Less-2.ensures)
    c.ask-in-Less.ensures

pub conditions::condition-returns-in-Member : goal.conditions::condition-returns-in-Member
conditions::condition-returns-in-Member t c =
    let st = c.args.start.now in
    let s = schema_in st in
    let w = written_in st c.args.scene.now in
    let env = scene_data st c.args.scene.now in
    makes_same _ _ _ _ _
    (within_is s w env c.args.sign c.args.above c.args.e.now c.get-in-Member-2.result.now c.in-Member.of c.in-Member.m c.get-in-Member.result.now c.in-Member.set c.in-Member.is c.get-in-Member-2.ensures c.get-in-Member.ensures)
    c.walk.ensures

pub conditions::condition-returns-in-Not : goal.conditions::condition-returns-in-Not
conditions::condition-returns-in-Not t c =
    let st = c.args.start.now in
    let s = schema_in st in
    let w = written_in st c.args.scene.now in
    let env = scene_data st c.args.scene.now in
    makes_same _ _ _ _ _
    (c.unnegated-sign.ensures s w env c.args.above
    ∙ not_is s w env c.args.sign c.args.above c.args.e.now c.get-in-Not.result.now c.in-Not.a c.in-Not.is c.get-in-Not.ensures)
    c.condition.ensures

pub conditions::condition-returns-in-And : goal.conditions::condition-returns-in-And
conditions::condition-returns-in-And t c =
    let st = c.args.start.now in
    let s = schema_in st in
    let w = written_in st c.args.scene.now in
    let env = scene_data st c.args.scene.now in
    makes_same _ _ _ _ _
    (and_is s w env c.args.sign c.args.above c.args.e.now c.get-in-And.result.now c.in-And.a c.get-in-And-2.result.now c.in-And.b c.in-And.is c.get-in-And.ensures c.get-in-And-2.ensures)
    c.join.ensures

pub conditions::condition-returns-in-Or : goal.conditions::condition-returns-in-Or
conditions::condition-returns-in-Or t c =
    let st = c.args.start.now in
    let s = schema_in st in
    let w = written_in st c.args.scene.now in
    let env = scene_data st c.args.scene.now in
    makes_same _ _ _ _ _
    (or_is s w env c.args.sign c.args.above c.args.e.now c.get-in-Or.result.now c.in-Or.a c.get-in-Or-2.result.now c.in-Or.b c.in-Or.is c.get-in-Or.ensures c.get-in-Or-2.ensures)
    c.join-in-Or.ensures

pub conditions::condition-returns-in-Num : goal.conditions::condition-returns-in-Num
conditions::condition-returns-in-Num t c =
    let st = c.args.start.now in
    let s = schema_in st in
    let w = written_in st c.args.scene.now in
    let env = scene_data st c.args.scene.now in
    makes_same _ _ _ _ _
    (ask_done c.args.above (end_holds s c.args.sign c.args.above) (cases_of s w env (expr_of c.args.e.now)))
    c.walk-in-Num.ensures

pub conditions::same-returns : goal.conditions::same-returns
conditions::same-returns t c =
    c.choose.ensures

pub conditions::equal-returns-in_err-first : goal.conditions::equal-returns-in_err-first
conditions::equal-returns-in_err-first t c =
    let p = err_from_is_err_and c.from_residual-in_err-first.result c.from_residual-in_err-first.ensures.1 in rw (p.1, p.2) tt

pub conditions::equal-returns-in_err-second : goal.conditions::equal-returns-in_err-second
conditions::equal-returns-in_err-second t c =
    let p = err_from_is_err_and c.from_residual-in_err-second.result c.from_residual-in_err-second.ensures.1 in rw (p.1, p.2) tt

pub conditions::equal-returns-then-any : goal.conditions::equal-returns-then-any
conditions::equal-returns-then-any t c =
    let st = c.args.start.now in
    let s = schema_in st in
    makes_same _ _ _ _ _
    (equal_truths s (source_data st c.args.a.now) (source_data st c.args.b.now) c.args.sign c.args.above c.any.result (c.any.ensures ∙ ap2 ◌||◌ c.in_ok-first.ensures c.in_ok-second.ensures) c.if-any.true)
    c.same.ensures

pub conditions::equal-returns-else-any : goal.conditions::equal-returns-else-any
conditions::equal-returns-else-any t c =
    let st = c.args.start.now in
    let s = schema_in st in
    makes_same _ _ _ _ _
    (equal_terms s (source_data st c.args.a.now) (source_data st c.args.b.now) c.args.sign c.args.above c.any.result (c.any.ensures ∙ ap2 ◌||◌ c.in_ok-first.ensures c.in_ok-second.ensures) c.if-any.false)
    c.ask.ensures

pub conditions::less-returns : goal.conditions::less-returns
conditions::less-returns t c =
    let st = c.args.start.now in
    let s = schema_in st in
    makes_same _ _ _ _ _
    (ask_done c.args.above (of_term s tree.no (λ t. at_terms s c.args.above (λ u. atom c.args.sign (tree.less t u)) (source_data st c.args.b.now))) (source_data st c.args.a.now))
    c.ask.ensures

pub conditions::compare-returns-in-Eq : goal.conditions::compare-returns-in-Eq
conditions::compare-returns-in-Eq t c =
    let st = c.args.start.now in
    let s = schema_in st in
    makes_same _ _ _ _ _
    (ap (λ (o : CmpOp). compared s o (source_data st c.args.a.now) (source_data st c.args.b.now) c.args.sign c.args.above) (sym c.in-Eq.is))
    c.equal.ensures

pub conditions::compare-returns-in-Ne : goal.conditions::compare-returns-in-Ne
conditions::compare-returns-in-Ne t c =
    let st = c.args.start.now in
    let s = schema_in st in
    makes_same _ _ _ _ _
    (ap (λ (o : CmpOp). compared s o (source_data st c.args.a.now) (source_data st c.args.b.now) c.args.sign c.args.above) (sym c.in-Ne.is))
    c.equal-in-Ne.ensures

pub conditions::compare-returns-in-Lt : goal.conditions::compare-returns-in-Lt
conditions::compare-returns-in-Lt t c =
    let st = c.args.start.now in
    let s = schema_in st in
    makes_same _ _ _ _ _
    (ap (λ (o : CmpOp). compared s o (source_data st c.args.a.now) (source_data st c.args.b.now) c.args.sign c.args.above) (sym c.in-Lt.is))
    c.less.ensures

pub conditions::compare-returns-in-Le : goal.conditions::compare-returns-in-Le
conditions::compare-returns-in-Le t c =
    let st = c.args.start.now in
    let s = schema_in st in
    makes_same _ _ _ _ _
    (ap (λ (o : CmpOp). compared s o (source_data st c.args.a.now) (source_data st c.args.b.now) c.args.sign c.args.above) (sym c.in-Le.is))
    c.less-in-Le.ensures

pub conditions::compare-returns-in-Gt : goal.conditions::compare-returns-in-Gt
conditions::compare-returns-in-Gt t c =
    let st = c.args.start.now in
    let s = schema_in st in
    makes_same _ _ _ _ _
    (ap (λ (o : CmpOp). compared s o (source_data st c.args.a.now) (source_data st c.args.b.now) c.args.sign c.args.above) (sym c.in-Gt.is))
    c.less-in-Gt.ensures

pub conditions::compare-returns-in-Ge : goal.conditions::compare-returns-in-Ge
conditions::compare-returns-in-Ge t c =
    let st = c.args.start.now in
    let s = schema_in st in
    makes_same _ _ _ _ _
    (ap (λ (o : CmpOp). compared s o (source_data st c.args.a.now) (source_data st c.args.b.now) c.args.sign c.args.above) (sym c.in-Ge.is))
    c.less-in-Ge.ensures

pub filters::pass-returns-in-Cmp : goal.filters::pass-returns-in-Cmp
filters::pass-returns-in-Cmp t c =
    let st = c.args.start.now in
    let s = schema_in st in
    makes_same _ _ _ _ _
    (ap (λ (o : FilterOp). passes s nothing_written o (source_data st c.args.held.now) (source_data st c.args.v.now) c.args.sign c.args.above) (sym c.in-Cmp.is))
    c.compare.ensures

pub filters::pass-returns-in-Has : goal.filters::pass-returns-in-Has
filters::pass-returns-in-Has t c =
    let st = c.args.start.now in
    let s = schema_in st in
    makes_same _ _ _ _ _
    (ask_done c.args.above (of_term s tree.no (λ t. has_term s (source_data st c.args.held.now) t c.args.sign c.args.above)) (source_data st c.args.v.now) ∙ ap (λ (o : FilterOp). passes s nothing_written o (source_data st c.args.held.now) (source_data st c.args.v.now) c.args.sign c.args.above) (sym c.in-Has.is))
    c.ask.ensures

pub members::member-returns-in-Everyone : goal.members::member-returns-in-Everyone
members::member-returns-in-Everyone t c =
    let st = c.args.start.now in
    let s = schema_in st in
    let w = written_in st c.args.scene.now in
    let env = scene_data st c.args.scene.now in
    makes_same _ _ _ _ _
    (ap (λ x. is_in s w env x (who_data c.args.who.now) c.args.sign c.args.above) (sym (ap set_of c.in-Everyone.is ∙ Everyone_set)))
    c.constant.ensures

pub members::member-returns-in-Nobody : goal.members::member-returns-in-Nobody
members::member-returns-in-Nobody t c =
    let st = c.args.start.now in
    let s = schema_in st in
    let w = written_in st c.args.scene.now in
    let env = scene_data st c.args.scene.now in
    makes_same _ _ _ _ _
    (ap (λ x. is_in s w env x (who_data c.args.who.now) c.args.sign c.args.above) (sym (ap set_of c.in-Nobody.is ∙ Nobody_set)))
    c.constant-in-Nobody.ensures

pub members::member-returns-in-Sum : goal.members::member-returns-in-Sum
members::member-returns-in-Sum t c =
    let st = c.args.start.now in
    let s = schema_in st in
    let w = written_in st c.args.scene.now in
    let env = scene_data st c.args.scene.now in
    makes_same _ _ _ _ _
    (sum_is s w env c.args.sign c.args.above (who_data c.args.who.now) c.args.set.now c.get.result.now c.in-Sum.a c.get-in-Sum.result.now c.in-Sum.b c.in-Sum.is c.get.ensures c.get-in-Sum.ensures)
    c.join.ensures

pub members::member-returns-in-Less : goal.members::member-returns-in-Less
members::member-returns-in-Less t c =
    let st = c.args.start.now in
    let s = schema_in st in
    let w = written_in st c.args.scene.now in
    let env = scene_data st c.args.scene.now in
    makes_same _ _ _ _ _
    (minus_is s w env c.args.sign c.args.above (who_data c.args.who.now) c.args.set.now c.get-in-Less.result.now c.in-Less.a c.get-in-Less-2.result.now c.in-Less.b c.in-Less.is c.get-in-Less.ensures c.get-in-Less-2.ensures)
    c.join-in-Less.ensures

pub members::member-returns-in-Some-asked_about : goal.members::member-returns-in-Some-asked_about
members::member-returns-in-Some-asked_about t c =
    let st = c.args.start.now in
    let s = schema_in st in
    let w = written_in st c.args.scene.now in
    let env = scene_data st c.args.scene.now in
    makes_same _ _ _ _ _
    (path_is s w env c.args.sign c.args.above (who_data c.args.who.now) c.args.set.now c.in-Path.e c.in-Path.m (term_data c.in-Some-asked_about.t.now) c.in-Path.is c.in-Some-asked_about.ensures)
    c.walk.ensures

pub members::member-returns-in-None-asked_about : goal.members::member-returns-in-None-asked_about
members::member-returns-in-None-asked_about t c =
    let st = c.args.start.now in
    let s = schema_in st in
    let w = written_in st c.args.scene.now in
    let env = scene_data st c.args.scene.now in
    makes_same _ _ _ _ _
    (path_other s w env c.args.sign c.args.above (who_data c.args.who.now) c.args.set.now c.in-Path.e c.in-Path.m c.in-Path.is c.in-None-asked_about.ensures)
    c.constant-in-None-asked_about.ensures

pub members::member-returns-in-MapS : goal.members::member-returns-in-MapS
members::member-returns-in-MapS t c =
    let st = c.args.start.now in
    let s = schema_in st in
    let w = written_in st c.args.scene.now in
    let env = scene_data st c.args.scene.now in
    makes_same _ _ _ _ _
    (mapped_is s w env c.args.sign c.args.above (who_data c.args.who.now) c.args.set.now c.get-in-MapS.result.now c.in-MapS.source c.in-MapS.n c.in-MapS.field-2 c.in-MapS.m c.get-in-MapS-2.result.now c.in-MapS.e c.in-MapS.is c.get-in-MapS.ensures c.get-in-MapS-2.ensures)
    c.mapped.ensures

pub members::member-returns-in-FlatS : goal.members::member-returns-in-FlatS
members::member-returns-in-FlatS t c =
    let st = c.args.start.now in
    let s = schema_in st in
    let w = written_in st c.args.scene.now in
    let env = scene_data st c.args.scene.now in
    makes_same _ _ _ _ _
    (flat_is s w env c.args.sign c.args.above (who_data c.args.who.now) c.args.set.now c.get-in-FlatS.result.now c.in-FlatS.source c.get-in-FlatS-2.result.now c.in-FlatS.body c.in-FlatS.n c.in-FlatS.field-2 c.in-FlatS.is c.get-in-FlatS.ensures c.get-in-FlatS-2.ensures)
    c.flat.ensures

pub members::member-returns-in-IfS : goal.members::member-returns-in-IfS
members::member-returns-in-IfS t c =
    let st = c.args.start.now in
    let s = schema_in st in
    let w = written_in st c.args.scene.now in
    let env = scene_data st c.args.scene.now in
    makes_same _ _ _ _ _
    (if_is s w env c.args.sign c.args.above (who_data c.args.who.now) c.args.set.now c.get-in-IfS-2.result.now c.in-IfS.a c.get-in-IfS-3.result.now c.in-IfS.b c.get-in-IfS.result.now c.in-IfS.c c.in-IfS.is c.get-in-IfS-2.ensures c.get-in-IfS-3.ensures c.get-in-IfS.ensures)
    c.choose.ensures

pub members::member-returns-in-MatchS : goal.members::member-returns-in-MatchS
members::member-returns-in-MatchS t c =
    let st = c.args.start.now in
    let s = schema_in st in
    let w = written_in st c.args.scene.now in
    let env = scene_data st c.args.scene.now in
    makes_same _ _ _ _ _
    (match_is s w env c.args.sign c.args.above (who_data c.args.who.now) c.args.set.now c.get-in-MatchS.result.now c.in-MatchS.a c.get-in-MatchS-2.result.now c.in-MatchS.c c.get-in-MatchS-3.result.now c.in-MatchS.of c.in-MatchS.field-2 c.in-MatchS.is c.get-in-MatchS.ensures c.get-in-MatchS-2.ensures c.get-in-MatchS-3.ensures)
    c.walk-in-MatchS.ensures

pub members::mapped-returns-in_err-inner : goal.members::mapped-returns-in_err-inner
members::mapped-returns-in_err-inner t c =
    let p = err_from_is_err_and c.from_residual-in_err-inner.result c.from_residual-in_err-inner.ensures.1 in rw (p.1, p.2) tt

pub members::mapped-returns-in_err-body : goal.members::mapped-returns-in_err-body
members::mapped-returns-in_err-body t c =
    let st = c.args.start.now in
    let s = schema_in st in
    let w = written_in st c.args.scene.now in
    let env = scene_data st c.args.scene.now in
    let p = err_from_is_err_and c.from_residual-in_err-body.result c.from_residual-in_err-body.ensures.1 in
    made_stop (size (mapped_body s w env c.args.sign c.args.above (set_of c.args.source.now) c.args.n c.args.m (expr_of c.args.e.now) (who_data c.args.who.now) c.args.sort c.in_ok-inner.inner)) (size (mapped_formula s w env (set_of c.args.source.now) c.args.n c.args.m (expr_of c.args.e.now) (who_data c.args.who.now) c.args.sign c.args.above)) _ _ (mapped_formula s w env (set_of c.args.source.now) c.args.n c.args.m (expr_of c.args.e.now) (who_data c.args.who.now) c.args.sign c.args.above) _ _ _ p.1 p.2 (below_le c.args.sign c.args.sort (mapped_body s w env c.args.sign c.args.above (set_of c.args.source.now) c.args.n c.args.m (expr_of c.args.e.now) (who_data c.args.who.now) c.args.sort c.in_ok-inner.inner) (mapped_formula s w env (set_of c.args.source.now) c.args.n c.args.m (expr_of c.args.e.now) (who_data c.args.who.now) c.args.sign c.args.above) (mapped_same s w env c.args.sign c.args.above (set_of c.args.source.now) c.args.n c.args.m (expr_of c.args.e.now) (who_data c.args.who.now) c.args.sort c.in_ok-inner.inner c.requires c.in_ok-inner.ensures)) c.in_err-body.ensures

pub members::mapped-exists_if-requires : goal.members::mapped-exists_if-requires
members::mapped-exists_if-requires t c =
    let st = c.args.start.now in
    let s = schema_in st in
    let w = written_in st c.args.scene.now in
    let env = scene_data st c.args.scene.now in
    part_made _ _ (size (mapped_body s w env c.args.sign c.args.above (set_of c.args.source.now) c.args.n c.args.m (expr_of c.args.e.now) (who_data c.args.who.now) c.args.sort c.in_ok-inner.inner)) (mapped_body s w env c.args.sign c.args.above (set_of c.args.source.now) c.args.n c.args.m (expr_of c.args.e.now) (who_data c.args.who.now) c.args.sort c.in_ok-inner.inner) _ c.in_ok-body.ensures

pub members::mapped-returns : goal.members::mapped-returns
members::mapped-returns t c =
    let st = c.args.start.now in
    let s = schema_in st in
    let w = written_in st c.args.scene.now in
    let env = scene_data st c.args.scene.now in
    makes_same _ _ _ _ _ (mapped_same s w env c.args.sign c.args.above (set_of c.args.source.now) c.args.n c.args.m (expr_of c.args.e.now) (who_data c.args.who.now) c.args.sort c.in_ok-inner.inner c.requires c.in_ok-inner.ensures)
    (one_made _ _ _ (mapped_body s w env c.args.sign c.args.above (set_of c.args.source.now) c.args.n c.args.m (expr_of c.args.e.now) (who_data c.args.who.now) c.args.sort c.in_ok-inner.inner) (exists_if c.args.sign c.args.sort) _ _ (size-exists_if c.args.sign c.args.sort (mapped_body s w env c.args.sign c.args.above (set_of c.args.source.now) c.args.n c.args.m (expr_of c.args.e.now) (who_data c.args.who.now) c.args.sort c.in_ok-inner.inner)) c.in_ok-body.ensures c.exists_if.ensures)

pub members::flat-returns-in_err-inner : goal.members::flat-returns-in_err-inner
members::flat-returns-in_err-inner t c =
    let p = err_from_is_err_and c.from_residual-in_err-inner.result c.from_residual-in_err-inner.ensures.1 in rw (p.1, p.2) tt

pub members::flat-returns-in_err-body : goal.members::flat-returns-in_err-body
members::flat-returns-in_err-body t c =
    let st = c.args.start.now in
    let s = schema_in st in
    let w = written_in st c.args.scene.now in
    let env = scene_data st c.args.scene.now in
    let p = err_from_is_err_and c.from_residual-in_err-body.result c.from_residual-in_err-body.ensures.1 in
    made_stop (size (flat_body s w env c.args.sign c.args.above (set_of c.args.source.now) c.args.n (set_of c.args.body.now) (who_data c.args.who.now) c.args.sort c.in_ok-inner.inner)) (size (flat_formula s w env (set_of c.args.source.now) c.args.n (set_of c.args.body.now) (who_data c.args.who.now) c.args.sign c.args.above)) _ _ (flat_formula s w env (set_of c.args.source.now) c.args.n (set_of c.args.body.now) (who_data c.args.who.now) c.args.sign c.args.above) _ _ _ p.1 p.2 (below_le c.args.sign c.args.sort (flat_body s w env c.args.sign c.args.above (set_of c.args.source.now) c.args.n (set_of c.args.body.now) (who_data c.args.who.now) c.args.sort c.in_ok-inner.inner) (flat_formula s w env (set_of c.args.source.now) c.args.n (set_of c.args.body.now) (who_data c.args.who.now) c.args.sign c.args.above) (flat_same s w env c.args.sign c.args.above (set_of c.args.source.now) c.args.n (set_of c.args.body.now) (who_data c.args.who.now) c.args.sort c.in_ok-inner.inner c.requires c.in_ok-inner.ensures)) c.in_err-body.ensures

pub members::flat-exists_if-requires : goal.members::flat-exists_if-requires
members::flat-exists_if-requires t c =
    let st = c.args.start.now in
    let s = schema_in st in
    let w = written_in st c.args.scene.now in
    let env = scene_data st c.args.scene.now in
    part_made _ _ (size (flat_body s w env c.args.sign c.args.above (set_of c.args.source.now) c.args.n (set_of c.args.body.now) (who_data c.args.who.now) c.args.sort c.in_ok-inner.inner)) (flat_body s w env c.args.sign c.args.above (set_of c.args.source.now) c.args.n (set_of c.args.body.now) (who_data c.args.who.now) c.args.sort c.in_ok-inner.inner) _ c.in_ok-body.ensures

pub members::flat-returns : goal.members::flat-returns
members::flat-returns t c =
    let st = c.args.start.now in
    let s = schema_in st in
    let w = written_in st c.args.scene.now in
    let env = scene_data st c.args.scene.now in
    makes_same _ _ _ _ _ (flat_same s w env c.args.sign c.args.above (set_of c.args.source.now) c.args.n (set_of c.args.body.now) (who_data c.args.who.now) c.args.sort c.in_ok-inner.inner c.requires c.in_ok-inner.ensures)
    (one_made _ _ _ (flat_body s w env c.args.sign c.args.above (set_of c.args.source.now) c.args.n (set_of c.args.body.now) (who_data c.args.who.now) c.args.sort c.in_ok-inner.inner) (exists_if c.args.sign c.args.sort) _ _ (size-exists_if c.args.sign c.args.sort (flat_body s w env c.args.sign c.args.above (set_of c.args.source.now) c.args.n (set_of c.args.body.now) (who_data c.args.who.now) c.args.sort c.in_ok-inner.inner)) c.in_ok-body.ensures c.exists_if.ensures)

pub members::item-returns-in_err-fuel : goal.members::item-returns-in_err-fuel
members::item-returns-in_err-fuel t c =
    let p = err_from_is_err_and c.from_residual.result c.from_residual.ensures.1 in λ f h. rw (p.1, p.2) tt

pub filters::meets_one-returns-in_err-fuel : goal.filters::meets_one-returns-in_err-fuel
filters::meets_one-returns-in_err-fuel t c =
    let p = err_from_is_err_and c.from_residual.result c.from_residual.ensures.1 in λ f h. rw (p.1, p.2) tt

pub members::item-returns-in-Static : goal.members::item-returns-in-Static
members::item-returns-in-Static t c =
    let st = c.args.start.now in
    let s = schema_in st in
    let w = written_in st c.args.scene.now in
    let env = scene_data st c.args.scene.now in
    λ f h. makes_same _ _ _ _ _
    (ap constant (c.same_truth.ensures ∙ ap (same_truth c.args.sign) c.is_static-is.ensures) ∙ static_head s w env (who_data c.args.who.now) c.args.sign c.args.above c.args.item.now c.in-Static.n f c.in-Static.is h)
    c.constant.ensures

pub members::item-returns-in-One : goal.members::item-returns-in-One
members::item-returns-in-One t c =
    let st = c.args.start.now in
    let s = schema_in st in
    let w = written_in st c.args.scene.now in
    let env = scene_data st c.args.scene.now in
    λ f h. makes_same _ _ _ _ _
    (record_head s w env (who_data c.args.who.now) c.args.sign c.args.above c.args.item.now c.in-One.m c.in-One.e f c.in-One.is h)
    c.walk.ensures

pub members::listed-returns-in-empty : goal.members::listed-returns-in-empty
members::listed-returns-in-empty t c =
    let st = c.args.start.now in
    let s = schema_in st in
    let w = written_in st c.args.scene.now in
    let env = scene_data st c.args.scene.now in
    makes_same _ _ _ _ _ (ap (λ xs. any_if c.args.sign (items_formulas s w env (who_data c.args.who.now) c.args.sign c.args.above xs)) (sym (none_of c.args.items.now c.in-empty.len_below))) c.constant.ensures

pub members::listed-returns-in_err-id-in-len1-up : goal.members::listed-returns-in_err-id-in-len1-up
members::listed-returns-in_err-id-in-len1-up t c =
    let st = c.args.start.now in
    let s = schema_in st in
    let w = written_in st c.args.scene.now in
    let env = scene_data st c.args.scene.now in
    let xs = c.args.items.now in
    let x = c.first-item.result in
    let split : xs ≡ x ∷ tail_of xs = first_rest xs x c.in-len1-up.len_at_least c.first-item.is in
    let f = (item_head s w env (who_data c.args.who.now) c.args.sign c.args.above x).0 in
    let h = (item_head s w env (who_data c.args.who.now) c.args.sign c.args.above x).1 in
    let fs = items_formulas s w env (who_data c.args.who.now) c.args.sign c.args.above (tail_of xs) in
    let path : items_formulas s w env (who_data c.args.who.now) c.args.sign c.args.above xs ≡ f ∷ fs = items_split s w env (who_data c.args.who.now) c.args.sign c.args.above xs (tail_of xs) x split in
    let p = err_from_is_err_and c.from_residual-in_err-id-in-len1-up.result c.from_residual-in_err-id-in-len1-up.ensures.1 in
    made_stop (size f) (size (any_if c.args.sign (items_formulas s w env (who_data c.args.who.now) c.args.sign c.args.above xs))) _ _ (any_if c.args.sign (items_formulas s w env (who_data c.args.who.now) c.args.sign c.args.above xs)) _ _ _ p.1 p.2 (any_le c.args.sign _ fs f path) (c.in_err-id-in-len1-up.ensures f h)

pub members::listed-returns-in_ok-id-in-len1-up : goal.members::listed-returns-in_ok-id-in-len1-up
members::listed-returns-in_ok-id-in-len1-up t c =
    let st = c.args.start.now in
    let s = schema_in st in
    let w = written_in st c.args.scene.now in
    let env = scene_data st c.args.scene.now in
    let xs = c.args.items.now in
    let x = c.first-item.result in
    let split : xs ≡ x ∷ tail_of xs = first_rest xs x c.in-len1-up.len_at_least c.first-item.is in
    let f = (item_head s w env (who_data c.args.who.now) c.args.sign c.args.above x).0 in
    let h = (item_head s w env (who_data c.args.who.now) c.args.sign c.args.above x).1 in
    let fs = items_formulas s w env (who_data c.args.who.now) c.args.sign c.args.above (tail_of xs) in
    let path : items_formulas s w env (who_data c.args.who.now) c.args.sign c.args.above xs ≡ f ∷ fs = items_split s w env (who_data c.args.who.now) c.args.sign c.args.above xs (tail_of xs) x split in
    makes_same _ _ _ _ _ (ap (any_if c.args.sign) (sym path)) (first_made _ _ _ f fs (not c.args.sign) _ _ (c.in_ok-id-in-len1-up.ensures f h) c.more_items.ensures)

pub members::more_items-returns-in-empty : goal.members::more_items-returns-in-empty
members::more_items-returns-in-empty t c =
    let st = c.args.start.now in
    let s = schema_in st in
    let w = written_in st c.args.scene.now in
    let env = scene_data st c.args.scene.now in
    let P : List TItem → Type 0 = λ xs. MakesFor (rest_cost (items_formulas s w env (who_data c.args.who.now) c.args.sign c.args.above xs)) c.args.w.now (Ok c.args.id) c.args.w.now (fold (and_if (not c.args.sign)) (formula_of c.args.w.now.arena c.args.id) (items_formulas s w env (who_data c.args.who.now) c.args.sign c.args.above xs)) in
    subst P (sym (none_of c.args.items.now c.in-empty.len_below)) (none_more c.args.w.now c.args.id c.requires)

pub members::more_items-returns-in_err-a-in-len1-up : goal.members::more_items-returns-in_err-a-in-len1-up
members::more_items-returns-in_err-a-in-len1-up t c =
    let st = c.args.start.now in
    let s = schema_in st in
    let w = written_in st c.args.scene.now in
    let env = scene_data st c.args.scene.now in
    let xs = c.args.items.now in
    let x = c.first-item.result in
    let split : xs ≡ x ∷ tail_of xs = first_rest xs x c.in-len1-up.len_at_least c.first-item.is in
    let f = (item_head s w env (who_data c.args.who.now) c.args.sign c.args.above x).0 in
    let h = (item_head s w env (who_data c.args.who.now) c.args.sign c.args.above x).1 in
    let fs = items_formulas s w env (who_data c.args.who.now) c.args.sign c.args.above (tail_of xs) in
    let path : items_formulas s w env (who_data c.args.who.now) c.args.sign c.args.above xs ≡ f ∷ fs = items_split s w env (who_data c.args.who.now) c.args.sign c.args.above xs (tail_of xs) x split in
    let p = err_from_is_err_and c.from_residual-in_err-a-in-len1-up.result c.from_residual-in_err-a-in-len1-up.ensures.1 in
    made_split _ _ _ (and_if (not c.args.sign)) (formula_of c.args.w.now.arena c.args.id) _ fs f path
    (made_stop (size f) (rest_cost (f ∷ fs)) _ _ (fold (and_if (not c.args.sign)) (formula_of c.args.w.now.arena c.args.id) (f ∷ fs)) _ _ _ p.1 p.2 (rest_le f fs) (c.in_err-a-in-len1-up.ensures f h))

pub members::more_items-and_if-requires-clause-left : goal.members::more_items-and_if-requires-clause-left
members::more_items-and_if-requires-clause-left t c =
    let st = c.args.start.now in
    let s = schema_in st in
    let w = written_in st c.args.scene.now in
    let env = scene_data st c.args.scene.now in
    let xs = c.args.items.now in
    let x = c.first-item.result in
    let split : xs ≡ x ∷ tail_of xs = first_rest xs x c.in-len1-up.len_at_least c.first-item.is in
    let f = (item_head s w env (who_data c.args.who.now) c.args.sign c.args.above x).0 in
    let h = (item_head s w env (who_data c.args.who.now) c.args.sign c.args.above x).1 in
    let fs = items_formulas s w env (who_data c.args.who.now) c.args.sign c.args.above (tail_of xs) in
    let path : items_formulas s w env (who_data c.args.who.now) c.args.sign c.args.above xs ≡ f ∷ fs = items_split s w env (who_data c.args.who.now) c.args.sign c.args.above xs (tail_of xs) x split in
    part_kept _ _ (size f) f _ _ c.requires (c.in_ok-a-in-len1-up.ensures f h)

pub members::more_items-and_if-requires-clause-right : goal.members::more_items-and_if-requires-clause-right
members::more_items-and_if-requires-clause-right t c =
    let st = c.args.start.now in
    let s = schema_in st in
    let w = written_in st c.args.scene.now in
    let env = scene_data st c.args.scene.now in
    let xs = c.args.items.now in
    let x = c.first-item.result in
    let split : xs ≡ x ∷ tail_of xs = first_rest xs x c.in-len1-up.len_at_least c.first-item.is in
    let f = (item_head s w env (who_data c.args.who.now) c.args.sign c.args.above x).0 in
    let h = (item_head s w env (who_data c.args.who.now) c.args.sign c.args.above x).1 in
    let fs = items_formulas s w env (who_data c.args.who.now) c.args.sign c.args.above (tail_of xs) in
    let path : items_formulas s w env (who_data c.args.who.now) c.args.sign c.args.above xs ≡ f ∷ fs = items_split s w env (who_data c.args.who.now) c.args.sign c.args.above xs (tail_of xs) x split in
    part_made _ _ (size f) f _ (c.in_ok-a-in-len1-up.ensures f h)

pub members::more_items-returns-in_err-id-in-len1-up : goal.members::more_items-returns-in_err-id-in-len1-up
members::more_items-returns-in_err-id-in-len1-up t c =
    let st = c.args.start.now in
    let s = schema_in st in
    let w = written_in st c.args.scene.now in
    let env = scene_data st c.args.scene.now in
    let xs = c.args.items.now in
    let x = c.first-item.result in
    let split : xs ≡ x ∷ tail_of xs = first_rest xs x c.in-len1-up.len_at_least c.first-item.is in
    let f = (item_head s w env (who_data c.args.who.now) c.args.sign c.args.above x).0 in
    let h = (item_head s w env (who_data c.args.who.now) c.args.sign c.args.above x).1 in
    let fs = items_formulas s w env (who_data c.args.who.now) c.args.sign c.args.above (tail_of xs) in
    let path : items_formulas s w env (who_data c.args.who.now) c.args.sign c.args.above xs ≡ f ∷ fs = items_split s w env (who_data c.args.who.now) c.args.sign c.args.above xs (tail_of xs) x split in
    let p = err_from_is_err_and c.from_residual-in_err-id-in-len1-up.result c.from_residual-in_err-id-in-len1-up.ensures.1 in
    made_split _ _ _ (and_if (not c.args.sign)) (formula_of c.args.w.now.arena c.args.id) _ fs f path
    (later_stop _ _ _ (size f) 1 (rest_cost (f ∷ fs)) (fold (and_if (not c.args.sign)) (formula_of c.args.w.now.arena c.args.id) (f ∷ fs)) f _ _ _ _ (c.in_ok-a-in-len1-up.ensures f h) p.1 p.2 (rest_one_le f fs) c.in_err-id-in-len1-up.ensures)

pub members::more_items-more_items-requires : goal.members::more_items-more_items-requires
members::more_items-more_items-requires t c =
    (omega arith, part_made _ _ 1 _ _ c.in_ok-id-in-len1-up.ensures)

pub members::more_items-returns-in_ok-id-in-len1-up : goal.members::more_items-returns-in_ok-id-in-len1-up
members::more_items-returns-in_ok-id-in-len1-up t c =
    let st = c.args.start.now in
    let s = schema_in st in
    let w = written_in st c.args.scene.now in
    let env = scene_data st c.args.scene.now in
    let xs = c.args.items.now in
    let x = c.first-item.result in
    let split : xs ≡ x ∷ tail_of xs = first_rest xs x c.in-len1-up.len_at_least c.first-item.is in
    let f = (item_head s w env (who_data c.args.who.now) c.args.sign c.args.above x).0 in
    let h = (item_head s w env (who_data c.args.who.now) c.args.sign c.args.above x).1 in
    let fs = items_formulas s w env (who_data c.args.who.now) c.args.sign c.args.above (tail_of xs) in
    let path : items_formulas s w env (who_data c.args.who.now) c.args.sign c.args.above xs ≡ f ∷ fs = items_split s w env (who_data c.args.who.now) c.args.sign c.args.above xs (tail_of xs) x split in
    made_split _ _ _ (and_if (not c.args.sign)) (formula_of c.args.w.now.arena c.args.id) _ fs f path
    (more_made _ _ _ _ _ f fs (and_if (not c.args.sign)) _ _ _ _ c.requires (c.in_ok-a-in-len1-up.ensures f h) c.in_ok-id-in-len1-up.ensures c.more_items.ensures)

pub filters::meets-returns-in-empty : goal.filters::meets-returns-in-empty
filters::meets-returns-in-empty t c =
    let st = c.args.start.now in
    let s = schema_in st in
    let w = written_in st c.args.scene.now in
    let env = scene_data st c.args.scene.now in
    makes_same _ _ _ _ _ (ap (λ xs. all_if c.args.sign (filters_formulas s w env c.args.m (term_data c.args.t.now) c.args.sign c.args.above xs)) (sym (none_of c.args.filters.now c.in-empty.len_below))) c.constant.ensures

pub filters::meets-returns-in_err-id-in-len1-up : goal.filters::meets-returns-in_err-id-in-len1-up
filters::meets-returns-in_err-id-in-len1-up t c =
    let st = c.args.start.now in
    let s = schema_in st in
    let w = written_in st c.args.scene.now in
    let env = scene_data st c.args.scene.now in
    let xs = c.args.filters.now in
    let x = c.first-item.result in
    let split : xs ≡ x ∷ tail_of xs = first_rest xs x c.in-len1-up.len_at_least c.first-item.is in
    let f = (filter_test s w env c.args.m (term_data c.args.t.now) c.args.sign c.args.above x).0 in
    let h = (filter_test s w env c.args.m (term_data c.args.t.now) c.args.sign c.args.above x).1 in
    let fs = filters_formulas s w env c.args.m (term_data c.args.t.now) c.args.sign c.args.above (tail_of xs) in
    let path : filters_formulas s w env c.args.m (term_data c.args.t.now) c.args.sign c.args.above xs ≡ f ∷ fs = filters_split s w env c.args.m (term_data c.args.t.now) c.args.sign c.args.above xs (tail_of xs) x split in
    let p = err_from_is_err_and c.from_residual-in_err-id-in-len1-up.result c.from_residual-in_err-id-in-len1-up.ensures.1 in
    made_stop (size f) (size (all_if c.args.sign (filters_formulas s w env c.args.m (term_data c.args.t.now) c.args.sign c.args.above xs))) _ _ (all_if c.args.sign (filters_formulas s w env c.args.m (term_data c.args.t.now) c.args.sign c.args.above xs)) _ _ _ p.1 p.2 (all_le c.args.sign _ fs f path) (c.in_err-id-in-len1-up.ensures f h)

pub filters::meets-returns-in_ok-id-in-len1-up : goal.filters::meets-returns-in_ok-id-in-len1-up
filters::meets-returns-in_ok-id-in-len1-up t c =
    let st = c.args.start.now in
    let s = schema_in st in
    let w = written_in st c.args.scene.now in
    let env = scene_data st c.args.scene.now in
    let xs = c.args.filters.now in
    let x = c.first-item.result in
    let split : xs ≡ x ∷ tail_of xs = first_rest xs x c.in-len1-up.len_at_least c.first-item.is in
    let f = (filter_test s w env c.args.m (term_data c.args.t.now) c.args.sign c.args.above x).0 in
    let h = (filter_test s w env c.args.m (term_data c.args.t.now) c.args.sign c.args.above x).1 in
    let fs = filters_formulas s w env c.args.m (term_data c.args.t.now) c.args.sign c.args.above (tail_of xs) in
    let path : filters_formulas s w env c.args.m (term_data c.args.t.now) c.args.sign c.args.above xs ≡ f ∷ fs = filters_split s w env c.args.m (term_data c.args.t.now) c.args.sign c.args.above xs (tail_of xs) x split in
    makes_same _ _ _ _ _ (ap (all_if c.args.sign) (sym path)) (first_made _ _ _ f fs c.args.sign _ _ (c.in_ok-id-in-len1-up.ensures f h) c.meets_more.ensures)

pub filters::meets_more-returns-in-empty : goal.filters::meets_more-returns-in-empty
filters::meets_more-returns-in-empty t c =
    let st = c.args.start.now in
    let s = schema_in st in
    let w = written_in st c.args.scene.now in
    let env = scene_data st c.args.scene.now in
    let P : List TFilter → Type 0 = λ xs. MakesFor (rest_cost (filters_formulas s w env c.args.m (term_data c.args.t.now) c.args.sign c.args.above xs)) c.args.w.now (Ok c.args.id) c.args.w.now (fold (and_if c.args.sign) (formula_of c.args.w.now.arena c.args.id) (filters_formulas s w env c.args.m (term_data c.args.t.now) c.args.sign c.args.above xs)) in
    subst P (sym (none_of c.args.filters.now c.in-empty.len_below)) (none_more c.args.w.now c.args.id c.requires)

pub filters::meets_more-returns-in_err-a-in-len1-up : goal.filters::meets_more-returns-in_err-a-in-len1-up
filters::meets_more-returns-in_err-a-in-len1-up t c =
    let st = c.args.start.now in
    let s = schema_in st in
    let w = written_in st c.args.scene.now in
    let env = scene_data st c.args.scene.now in
    let xs = c.args.filters.now in
    let x = c.first-item.result in
    let split : xs ≡ x ∷ tail_of xs = first_rest xs x c.in-len1-up.len_at_least c.first-item.is in
    let f = (filter_test s w env c.args.m (term_data c.args.t.now) c.args.sign c.args.above x).0 in
    let h = (filter_test s w env c.args.m (term_data c.args.t.now) c.args.sign c.args.above x).1 in
    let fs = filters_formulas s w env c.args.m (term_data c.args.t.now) c.args.sign c.args.above (tail_of xs) in
    let path : filters_formulas s w env c.args.m (term_data c.args.t.now) c.args.sign c.args.above xs ≡ f ∷ fs = filters_split s w env c.args.m (term_data c.args.t.now) c.args.sign c.args.above xs (tail_of xs) x split in
    let p = err_from_is_err_and c.from_residual-in_err-a-in-len1-up.result c.from_residual-in_err-a-in-len1-up.ensures.1 in
    made_split _ _ _ (and_if c.args.sign) (formula_of c.args.w.now.arena c.args.id) _ fs f path
    (made_stop (size f) (rest_cost (f ∷ fs)) _ _ (fold (and_if c.args.sign) (formula_of c.args.w.now.arena c.args.id) (f ∷ fs)) _ _ _ p.1 p.2 (rest_le f fs) (c.in_err-a-in-len1-up.ensures f h))

pub filters::meets_more-and_if-requires-clause-left : goal.filters::meets_more-and_if-requires-clause-left
filters::meets_more-and_if-requires-clause-left t c =
    let st = c.args.start.now in
    let s = schema_in st in
    let w = written_in st c.args.scene.now in
    let env = scene_data st c.args.scene.now in
    let xs = c.args.filters.now in
    let x = c.first-item.result in
    let split : xs ≡ x ∷ tail_of xs = first_rest xs x c.in-len1-up.len_at_least c.first-item.is in
    let f = (filter_test s w env c.args.m (term_data c.args.t.now) c.args.sign c.args.above x).0 in
    let h = (filter_test s w env c.args.m (term_data c.args.t.now) c.args.sign c.args.above x).1 in
    let fs = filters_formulas s w env c.args.m (term_data c.args.t.now) c.args.sign c.args.above (tail_of xs) in
    let path : filters_formulas s w env c.args.m (term_data c.args.t.now) c.args.sign c.args.above xs ≡ f ∷ fs = filters_split s w env c.args.m (term_data c.args.t.now) c.args.sign c.args.above xs (tail_of xs) x split in
    part_kept _ _ (size f) f _ _ c.requires (c.in_ok-a-in-len1-up.ensures f h)

pub filters::meets_more-and_if-requires-clause-right : goal.filters::meets_more-and_if-requires-clause-right
filters::meets_more-and_if-requires-clause-right t c =
    let st = c.args.start.now in
    let s = schema_in st in
    let w = written_in st c.args.scene.now in
    let env = scene_data st c.args.scene.now in
    let xs = c.args.filters.now in
    let x = c.first-item.result in
    let split : xs ≡ x ∷ tail_of xs = first_rest xs x c.in-len1-up.len_at_least c.first-item.is in
    let f = (filter_test s w env c.args.m (term_data c.args.t.now) c.args.sign c.args.above x).0 in
    let h = (filter_test s w env c.args.m (term_data c.args.t.now) c.args.sign c.args.above x).1 in
    let fs = filters_formulas s w env c.args.m (term_data c.args.t.now) c.args.sign c.args.above (tail_of xs) in
    let path : filters_formulas s w env c.args.m (term_data c.args.t.now) c.args.sign c.args.above xs ≡ f ∷ fs = filters_split s w env c.args.m (term_data c.args.t.now) c.args.sign c.args.above xs (tail_of xs) x split in
    part_made _ _ (size f) f _ (c.in_ok-a-in-len1-up.ensures f h)

pub filters::meets_more-returns-in_err-id-in-len1-up : goal.filters::meets_more-returns-in_err-id-in-len1-up
filters::meets_more-returns-in_err-id-in-len1-up t c =
    let st = c.args.start.now in
    let s = schema_in st in
    let w = written_in st c.args.scene.now in
    let env = scene_data st c.args.scene.now in
    let xs = c.args.filters.now in
    let x = c.first-item.result in
    let split : xs ≡ x ∷ tail_of xs = first_rest xs x c.in-len1-up.len_at_least c.first-item.is in
    let f = (filter_test s w env c.args.m (term_data c.args.t.now) c.args.sign c.args.above x).0 in
    let h = (filter_test s w env c.args.m (term_data c.args.t.now) c.args.sign c.args.above x).1 in
    let fs = filters_formulas s w env c.args.m (term_data c.args.t.now) c.args.sign c.args.above (tail_of xs) in
    let path : filters_formulas s w env c.args.m (term_data c.args.t.now) c.args.sign c.args.above xs ≡ f ∷ fs = filters_split s w env c.args.m (term_data c.args.t.now) c.args.sign c.args.above xs (tail_of xs) x split in
    let p = err_from_is_err_and c.from_residual-in_err-id-in-len1-up.result c.from_residual-in_err-id-in-len1-up.ensures.1 in
    made_split _ _ _ (and_if c.args.sign) (formula_of c.args.w.now.arena c.args.id) _ fs f path
    (later_stop _ _ _ (size f) 1 (rest_cost (f ∷ fs)) (fold (and_if c.args.sign) (formula_of c.args.w.now.arena c.args.id) (f ∷ fs)) f _ _ _ _ (c.in_ok-a-in-len1-up.ensures f h) p.1 p.2 (rest_one_le f fs) c.in_err-id-in-len1-up.ensures)

pub filters::meets_more-meets_more-requires : goal.filters::meets_more-meets_more-requires
filters::meets_more-meets_more-requires t c =
    (omega arith, part_made _ _ 1 _ _ c.in_ok-id-in-len1-up.ensures)

pub filters::meets_more-returns-in_ok-id-in-len1-up : goal.filters::meets_more-returns-in_ok-id-in-len1-up
filters::meets_more-returns-in_ok-id-in-len1-up t c =
    let st = c.args.start.now in
    let s = schema_in st in
    let w = written_in st c.args.scene.now in
    let env = scene_data st c.args.scene.now in
    let xs = c.args.filters.now in
    let x = c.first-item.result in
    let split : xs ≡ x ∷ tail_of xs = first_rest xs x c.in-len1-up.len_at_least c.first-item.is in
    let f = (filter_test s w env c.args.m (term_data c.args.t.now) c.args.sign c.args.above x).0 in
    let h = (filter_test s w env c.args.m (term_data c.args.t.now) c.args.sign c.args.above x).1 in
    let fs = filters_formulas s w env c.args.m (term_data c.args.t.now) c.args.sign c.args.above (tail_of xs) in
    let path : filters_formulas s w env c.args.m (term_data c.args.t.now) c.args.sign c.args.above xs ≡ f ∷ fs = filters_split s w env c.args.m (term_data c.args.t.now) c.args.sign c.args.above xs (tail_of xs) x split in
    made_split _ _ _ (and_if c.args.sign) (formula_of c.args.w.now.arena c.args.id) _ fs f path
    (more_made _ _ _ _ _ f fs (and_if c.args.sign) _ _ _ _ c.requires (c.in_ok-a-in-len1-up.ensures f h) c.in_ok-id-in-len1-up.ensures c.meets_more.ensures)

pub filters::meets_one-returns : goal.filters::meets_one-returns
filters::meets_one-returns t c =
    let st = c.args.start.now in
    let s = schema_in st in
    let w = written_in st c.args.scene.now in
    let env = scene_data st c.args.scene.now in
    λ g h. makes_same _ _ _ _ _
    (ap (λ n. passes s w c.test_of-test.result.1 (field_cases s (written_upto st n) c.args.m c.test_of-test.result.0 (term_data c.args.t.now)) (cases_of s w env (expr_of c.test_of-test.result.2.now)) c.args.sign c.args.above) c.upto_of.ensures
    ∙ filter_head s w env c.args.m (term_data c.args.t.now) c.args.sign c.args.above c.args.filter.now c.test_of-test.result.0 c.test_of-test.result.1 c.test_of-test.result.2.now g c.test_of-test.ensures h)
    c.pass.ensures

pub members::listed-more_items-requires : goal.members::listed-more_items-requires
members::listed-more_items-requires t c =
    let st = c.args.start.now in
    let s = schema_in st in
    let w = written_in st c.args.scene.now in
    let env = scene_data st c.args.scene.now in
    let xs = c.args.items.now in
    let x = c.first-item.result in
    let split : xs ≡ x ∷ tail_of xs = first_rest xs x c.in-len1-up.len_at_least c.first-item.is in
    let f = (item_head s w env (who_data c.args.who.now) c.args.sign c.args.above x).0 in
    let h = (item_head s w env (who_data c.args.who.now) c.args.sign c.args.above x).1 in
    let fs = items_formulas s w env (who_data c.args.who.now) c.args.sign c.args.above (tail_of xs) in
    let path : items_formulas s w env (who_data c.args.who.now) c.args.sign c.args.above xs ≡ f ∷ fs = items_split s w env (who_data c.args.who.now) c.args.sign c.args.above xs (tail_of xs) x split in
    (omega arith, part_made _ _ (size f) f _ (c.in_ok-id-in-len1-up.ensures f h))

pub filters::meets-meets_more-requires : goal.filters::meets-meets_more-requires
filters::meets-meets_more-requires t c =
    let st = c.args.start.now in
    let s = schema_in st in
    let w = written_in st c.args.scene.now in
    let env = scene_data st c.args.scene.now in
    let xs = c.args.filters.now in
    let x = c.first-item.result in
    let split : xs ≡ x ∷ tail_of xs = first_rest xs x c.in-len1-up.len_at_least c.first-item.is in
    let f = (filter_test s w env c.args.m (term_data c.args.t.now) c.args.sign c.args.above x).0 in
    let h = (filter_test s w env c.args.m (term_data c.args.t.now) c.args.sign c.args.above x).1 in
    let fs = filters_formulas s w env c.args.m (term_data c.args.t.now) c.args.sign c.args.above (tail_of xs) in
    let path : filters_formulas s w env c.args.m (term_data c.args.t.now) c.args.sign c.args.above xs ≡ f ∷ fs = filters_split s w env c.args.m (term_data c.args.t.now) c.args.sign c.args.above xs (tail_of xs) x split in
    (omega arith, part_made _ _ (size f) f _ (c.in_ok-id-in-len1-up.ensures f h))

pub reaches::reach-returns-in_err-fuel : goal.reaches::reach-returns-in_err-fuel
reaches::reach-returns-in_err-fuel t c =
    let p = err_from_is_err_and c.from_residual.result c.from_residual.ensures.1 in rw (p.1, p.2) tt

pub reaches::at_place-returns-in_err-fuel : goal.reaches::at_place-returns-in_err-fuel
reaches::at_place-returns-in_err-fuel t c =
    let p = err_from_is_err_and c.from_residual.result c.from_residual.ensures.1 in rw (p.1, p.2) tt

pub reaches::each-returns-in_err-fuel : goal.reaches::each-returns-in_err-fuel
reaches::each-returns-in_err-fuel t c =
    let p = err_from_is_err_and c.from_residual.result c.from_residual.ensures.1 in rw (p.1, p.2) tt

pub reaches::end_if_none-returns-in_err-fuel : goal.reaches::end_if_none-returns-in_err-fuel
reaches::end_if_none-returns-in_err-fuel t c =
    let p = err_from_is_err_and c.from_residual.result c.from_residual.ensures.1 in rw (p.1, p.2) tt

pub reaches::end_if_some-returns-in_err-fuel : goal.reaches::end_if_some-returns-in_err-fuel
reaches::end_if_some-returns-in_err-fuel t c =
    let p = err_from_is_err_and c.from_residual.result c.from_residual.ensures.1 in rw (p.1, p.2) tt

pub reaches::end_cost-returns-in_err-fuel : goal.reaches::end_cost-returns-in_err-fuel
reaches::end_cost-returns-in_err-fuel t c =
    let p = err_from_is_err_and c.from_residual.result c.from_residual.ensures.1 in rw (p.1, p.2) tt

pub reaches::truth_cost-returns-in_err-fuel : goal.reaches::truth_cost-returns-in_err-fuel
reaches::truth_cost-returns-in_err-fuel t c =
    let p = err_from_is_err_and c.from_residual.result c.from_residual.ensures.1 in rw (p.1, p.2) tt

pub formulas::write-returns-in-Reach : goal.formulas::write-returns-in-Reach
formulas::write-returns-in-Reach t c =
    let st = c.args.start.now in
    makes_same _ _ _ _ _
    (ap (part_data st c.args.above) (sym c.in-Reach.is))
    c.reach.ensures

pub ends::finish-returns-in-Taken : goal.ends::finish-returns-in-Taken
ends::finish-returns-in-Taken t c =
    let st = c.args.start.now in
    makes_same _ _ _ _ _
    (ap (λ (g : Goal). goal_data st g c.args.above (end_data st c.args.end.now)) (sym c.in-Taken.is))
    c.taken.ensures

pub reaches::taken-returns-in_err-fuel : goal.reaches::taken-returns-in_err-fuel
reaches::taken-returns-in_err-fuel t c =
    let p = err_from_is_err_and c.from_residual.result c.from_residual.ensures.1 in rw (p.1, p.2) tt

pub reaches::taken-returns-then-sign : goal.reaches::taken-returns-then-sign
reaches::taken-returns-then-sign t c =
    let st = c.args.start.now in
    let s = schema_in st in
    let w = written_in st c.args.scene.now in
    let env = scene_data st c.args.scene.now in
    makes_same _ _ _ _ _
    (ap (λ (b : Bool). taken_data s w (term_data c.args.y.now) env b c.args.used.now c.args.above (end_data st c.args.end.now)) (sym c.if-sign.true))
    c.end_if_some.ensures

pub reaches::taken-returns-else-sign : goal.reaches::taken-returns-else-sign
reaches::taken-returns-else-sign t c =
    let st = c.args.start.now in
    let s = schema_in st in
    let w = written_in st c.args.scene.now in
    let env = scene_data st c.args.scene.now in
    makes_same _ _ _ _ _
    (ap (λ (b : Bool). taken_data s w (term_data c.args.y.now) env b c.args.used.now c.args.above (end_data st c.args.end.now)) (sym c.if-sign.false))
    c.end_if_none.ensures

pub ends::finish-returns-in-Cost : goal.ends::finish-returns-in-Cost
ends::finish-returns-in-Cost t c =
    let st = c.args.start.now in
    makes_same _ _ _ _ _
    (ap (λ (g : Goal). goal_data st g c.args.above (end_data st c.args.end.now)) (sym c.in-Cost.is))
    c.end_cost.ensures

pub reaches::reach-returns-in_err-place : goal.reaches::reach-returns-in_err-place
reaches::reach-returns-in_err-place t c =
    let p = err_from_is_err_and c.from_residual-in_err-place.result c.from_residual-in_err-place.ensures.1 in rw (p.1, p.2) tt

pub reaches::reach-returns : goal.reaches::reach-returns
reaches::reach-returns t c =
    let st = c.args.start.now in
    let s = schema_in st in
    let w = written_in st c.args.scene.now in
    let env = scene_data st c.args.scene.now in
    makes_same _ _ _ _ _ (c.in_ok-place.ensures s w (term_data c.args.y.now) env c.args.above) c.at_place.ensures

pub reaches::at_place-returns-in-Access : goal.reaches::at_place-returns-in-Access
reaches::at_place-returns-in-Access t c =
    let st = c.args.start.now in
    let s = schema_in st in
    let w = written_in st c.args.scene.now in
    let env = scene_data st c.args.scene.now in
    makes_same _ _ _ _ _
    (ask_done c.args.above (of_term s tree.no (λ t. tree.equal (term_data c.args.y.now) t)) (cases_of s w env (expr_of c.in-Access.e.now)) ∙ ap (λ (x : Place). place_data s w (term_data c.args.y.now) env x c.args.above) (sym c.in-Access.is))
    c.walk.ensures

pub reaches::at_place-returns-in-Within : goal.reaches::at_place-returns-in-Within
reaches::at_place-returns-in-Within t c =
    let st = c.args.start.now in
    let s = schema_in st in
    let w = written_in st c.args.scene.now in
    let env = scene_data st c.args.scene.now in
    makes_same _ _ _ _ _
    (ap (λ (x : Place). place_data s w (term_data c.args.y.now) env x c.args.above) (sym c.in-Within.is))
    c.reach.ensures

pub reaches::at_place-returns-in-Where : goal.reaches::at_place-returns-in-Where
reaches::at_place-returns-in-Where t c =
    let st = c.args.start.now in
    let s = schema_in st in
    let w = written_in st c.args.scene.now in
    let env = scene_data st c.args.scene.now in
    makes_same _ _ _ _ _
    (ap (λ (x : Place). place_data s w (term_data c.args.y.now) env x c.args.above) (sym c.in-Where.is))
    c.join.ensures

pub reaches::at_place-returns-in-Taken : goal.reaches::at_place-returns-in-Taken
reaches::at_place-returns-in-Taken t c =
    let st = c.args.start.now in
    let s = schema_in st in
    let w = written_in st c.args.scene.now in
    let env = scene_data st c.args.scene.now in
    makes_same _ _ _ _ _
    (ask_done c.args.above (taken_data s w (term_data c.args.y.now) env c.in-Taken.sign c.in-Taken.used c.args.above) (cases_of s w env (expr_of c.in-Taken.e.now)) ∙ ap (λ (x : Place). place_data s w (term_data c.args.y.now) env x c.args.above) (sym c.in-Taken.is))
    c.walk-in-Taken.ensures

pub reaches::at_place-returns-in-Each : goal.reaches::at_place-returns-in-Each
reaches::at_place-returns-in-Each t c =
    let st = c.args.start.now in
    let s = schema_in st in
    let w = written_in st c.args.scene.now in
    let env = scene_data st c.args.scene.now in
    makes_same _ _ _ _ _
    (ap (λ (x : Place). place_data s w (term_data c.args.y.now) env x c.args.above) (sym c.in-Each.is))
    c.each.ensures

pub reaches::each-returns-in_err-inner : goal.reaches::each-returns-in_err-inner
reaches::each-returns-in_err-inner t c =
    let p = err_from_is_err_and c.from_residual-in_err-inner.result c.from_residual-in_err-inner.ensures.1 in rw (p.1, p.2) tt

pub reaches::each-returns-in_err-body : goal.reaches::each-returns-in_err-body
reaches::each-returns-in_err-body t c =
    let st = c.args.start.now in
    let s = schema_in st in
    let w = written_in st c.args.scene.now in
    let env = scene_data st c.args.scene.now in
    let p = err_from_is_err_and c.from_residual-in_err-body.result c.from_residual-in_err-body.ensures.1 in
    made_stop (size (each_body s w (term_data c.args.y.now) env c.args.above (set_of c.args.set.now) c.args.n c.args.used.now c.args.sort c.in_ok-inner.inner)) (size (each_formula s w (term_data c.args.y.now) env (set_of c.args.set.now) c.args.n c.args.used.now c.args.above)) _ _ (each_formula s w (term_data c.args.y.now) env (set_of c.args.set.now) c.args.n c.args.used.now c.args.above) _ _ _ p.1 p.2
    (below_le true c.args.sort (each_body s w (term_data c.args.y.now) env c.args.above (set_of c.args.set.now) c.args.n c.args.used.now c.args.sort c.in_ok-inner.inner) (each_formula s w (term_data c.args.y.now) env (set_of c.args.set.now) c.args.n c.args.used.now c.args.above) (each_same s w (term_data c.args.y.now) env c.args.above (set_of c.args.set.now) c.args.n c.args.used.now c.args.sort c.in_ok-inner.inner c.requires c.in_ok-inner.ensures)) c.in_err-body.ensures

pub reaches::each-exists-requires : goal.reaches::each-exists-requires
reaches::each-exists-requires t c =
    let st = c.args.start.now in
    let s = schema_in st in
    let w = written_in st c.args.scene.now in
    let env = scene_data st c.args.scene.now in
    part_made _ _ (size (each_body s w (term_data c.args.y.now) env c.args.above (set_of c.args.set.now) c.args.n c.args.used.now c.args.sort c.in_ok-inner.inner)) (each_body s w (term_data c.args.y.now) env c.args.above (set_of c.args.set.now) c.args.n c.args.used.now c.args.sort c.in_ok-inner.inner) _ c.in_ok-body.ensures

pub reaches::each-returns : goal.reaches::each-returns
reaches::each-returns t c =
    let st = c.args.start.now in
    let s = schema_in st in
    let w = written_in st c.args.scene.now in
    let env = scene_data st c.args.scene.now in
    makes_same _ _ _ _ _ (each_same s w (term_data c.args.y.now) env c.args.above (set_of c.args.set.now) c.args.n c.args.used.now c.args.sort c.in_ok-inner.inner c.requires c.in_ok-inner.ensures)
    (one_made _ _ _ (each_body s w (term_data c.args.y.now) env c.args.above (set_of c.args.set.now) c.args.n c.args.used.now c.args.sort c.in_ok-inner.inner) (tree.exists c.args.sort) _ _ (size-exists_if true c.args.sort (each_body s w (term_data c.args.y.now) env c.args.above (set_of c.args.set.now) c.args.n c.args.used.now c.args.sort c.in_ok-inner.inner)) c.in_ok-body.ensures c.exists.ensures)

pub reaches::end_if_none-returns-in-Held : goal.reaches::end_if_none-returns-in-Held
reaches::end_if_none-returns-in-Held t c =
    let st = c.args.start.now in
    let s = schema_in st in
    makes_same _ _ _ _ _
    (ap (λ (x : End). end_is_none s (part_data st c.args.above c.args.part.now) (end_data st x)) (sym c.in-Held.is))
    c.join.ensures

pub reaches::end_if_some-returns-in-Some : goal.reaches::end_if_some-returns-in-Some
reaches::end_if_some-returns-in-Some t c =
    let st = c.args.start.now in
    let s = schema_in st in
    let w = written_in st c.args.scene.now in
    let env = scene_data st c.args.scene.now in
    makes_same _ _ _ _ _
    (ap (λ (x : End). end_is_some s (λ v. use_data s w (term_data c.args.y.now) (env ++ v ∷ []) c.args.used.now c.args.above) (end_data st x)) (sym c.in-Some.is))
    c.reach.ensures

pub reaches::end_if_some-returns-in-Held : goal.reaches::end_if_some-returns-in-Held
reaches::end_if_some-returns-in-Held t c =
    let st = c.args.start.now in
    let s = schema_in st in
    let w = written_in st c.args.scene.now in
    let env = scene_data st c.args.scene.now in
    makes_same _ _ _ _ _
    (ap (λ (x : End). tree.both (atom true (tree.present (function_of s c.in-Held.m c.in-Held.f) (term_data c.in-Held.t.now))) (use_data s w (term_data c.args.y.now) (env ++ end_data st x ∷ []) c.args.used.now c.args.above)) c.in-Held.is
    ∙ ap (λ (x : End). end_is_some s (λ v. use_data s w (term_data c.args.y.now) (env ++ v ∷ []) c.args.used.now c.args.above) (end_data st x)) (sym c.in-Held.is))
    c.join.ensures

pub reaches::end_cost-returns-in-Term : goal.reaches::end_cost-returns-in-Term
reaches::end_cost-returns-in-Term t c =
    let st = c.args.start.now in
    let s = schema_in st in
    makes_same _ _ _ _ _
    (ap (λ (x : End). end_formula s c.args.above (end_data st x)) (sym c.in-Term.is))
    c.equal.ensures

pub reaches::end_cost-returns-in-Held : goal.reaches::end_cost-returns-in-Held
reaches::end_cost-returns-in-Held t c =
    let st = c.args.start.now in
    let s = schema_in st in
    makes_same _ _ _ _ _
    (ap (λ k. tree.equal row (tree.app k (term_data c.in-Held.t.now))) c.function_of.ensures ∙ ap (λ (x : End). end_formula s c.args.above (end_data st x)) (sym c.in-Held.is))
    c.equal-in-Held.ensures

pub reaches::end_cost-returns-in-Truth : goal.reaches::end_cost-returns-in-Truth
reaches::end_cost-returns-in-Truth t c =
    let st = c.args.start.now in
    let s = schema_in st in
    makes_same _ _ _ _ _
    (ap (λ (x : End). end_formula s c.args.above (end_data st x)) (sym c.in-Truth.is))
    c.truth_cost.ensures

pub reaches::end_cost-returns-in-Some : goal.reaches::end_cost-returns-in-Some
reaches::end_cost-returns-in-Some t c =
    let st = c.args.start.now in
    let s = schema_in st in
    makes_same _ _ _ _ _
    (ap (λ (x : End). end_formula s c.args.above (end_data st x)) (sym c.in-Some.is))
    c.end_cost.ensures

pub reaches::truth_cost-returns-in_err-id : goal.reaches::truth_cost-returns-in_err-id
reaches::truth_cost-returns-in_err-id t c =
    let st = c.args.start.now in
    let s = schema_in st in
    let w = written_in st c.args.scene.now in
    let env = scene_data st c.args.scene.now in
    let p = err_from_is_err_and c.from_residual-in_err-id.result c.from_residual-in_err-id.ensures.1 in
    made_stop (size (condition_of s (cases_of s w env (expr_of c.args.e.now)) true c.args.above)) (size (tree.exists 0 (condition_of s (cases_of s w env (expr_of c.args.e.now)) true c.args.above))) _ _ (tree.exists 0 (condition_of s (cases_of s w env (expr_of c.args.e.now)) true c.args.above)) _ _ _ p.1 p.2 (exists_le 0 (condition_of s (cases_of s w env (expr_of c.args.e.now)) true c.args.above)) c.in_err-id.ensures

pub reaches::truth_cost-exists-requires : goal.reaches::truth_cost-exists-requires
reaches::truth_cost-exists-requires t c =
    let st = c.args.start.now in
    let s = schema_in st in
    let w = written_in st c.args.scene.now in
    let env = scene_data st c.args.scene.now in
    part_made _ _ (size (condition_of s (cases_of s w env (expr_of c.args.e.now)) true c.args.above)) (condition_of s (cases_of s w env (expr_of c.args.e.now)) true c.args.above) _ c.in_ok-id.ensures

pub reaches::truth_cost-returns : goal.reaches::truth_cost-returns
reaches::truth_cost-returns t c =
    let st = c.args.start.now in
    let s = schema_in st in
    let w = written_in st c.args.scene.now in
    let env = scene_data st c.args.scene.now in
    one_made _ _ _ (condition_of s (cases_of s w env (expr_of c.args.e.now)) true c.args.above) (tree.exists 0) _ _ (size-exists_if true 0 (condition_of s (cases_of s w env (expr_of c.args.e.now)) true c.args.above)) c.in_ok-id.ensures c.exists.ensures
