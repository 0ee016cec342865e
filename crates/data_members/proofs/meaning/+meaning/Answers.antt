use Rattle.std.proofs.Common.{arith, ◌≡◌, ◌∙◌, ◌+◌, ◌∷◌, ap, drop, map, sym}
use Rattle.std.proofs.lemmas.List.{drop_more}
use Rattle.type_schema.specs.Views.{filter_of, filters_of}
use Rattle.data_records.specs.Views.{value_data}
use Rattle.data_members.specs.declared.finding.Test.{Test}
use Rattle.data_members.specs.Variables.{env_data}
use Rattle.data_members.proofs.Finds.{searched, test-more}
use Rattle.data_members.proofs.Loops.{mapped-from, flat_mapped-from, within-done}
use Rattle.data_members.proofs.meaning.+meaning.Goals as goal

pub holds-returns-in-MapS : goal.holds-returns-in-MapS
holds-returns-in-MapS t c =
    mapped-from c.args.database.now (env_data c.args.env.now) c.args.who c.get-in-MapS.result.now c.in-MapS.source c.args.set.now c.in-MapS.n c.in-MapS.field-2
    c.in-MapS.m c.in-MapS.e c.as_slice-in-MapS.result.now c.maps_to.result c.get-in-MapS.ensures c.in-MapS.is
    (c.as_slice-in-MapS.ensures.value ∙ c.in_ok-sources-in-MapS.ensures) (rw c.get-in-MapS-2.ensures at c.maps_to.ensures)

pub holds-returns-in-FlatS : goal.holds-returns-in-FlatS
holds-returns-in-FlatS t c =
    flat_mapped-from c.args.database.now (env_data c.args.env.now) c.args.who c.get-in-FlatS.result.now c.in-FlatS.source c.get-in-FlatS-2.result.now c.in-FlatS.body
    c.args.set.now c.in-FlatS.n c.in-FlatS.field-2 c.as_slice-in-FlatS.result.now c.holds_at.result c.get-in-FlatS.ensures c.get-in-FlatS-2.ensures c.in-FlatS.is
    (c.as_slice-in-FlatS.ensures.value ∙ c.in_ok-sources-in-FlatS.ensures) c.holds_at.ensures

pub ids_within-returns : goal.ids_within-returns
ids_within-returns t c =
    searched (λ found. found.items) c.args.database.now (env_data c.args.env.now) c.args.m c.in-Find.n c.args.set.now c.in-Find.filters c.as_slice.result.now c.in_ok-tests.tests.items
    c.as_slice-2.result.now c.ids_found.result c.in-Find.is c.if-n-m.true c.as_slice.ensures c.as_slice-2.ensures.value c.in_ok-tests.ensures c.ids_found.ensures

pub ids_within-returns-2 : goal.ids_within-returns-2
ids_within-returns-2 t c =
    within-done c.args.database.now (env_data c.args.env.now) c.args.set.now c.args.m c.loop-record.found.items c.records-record-items.result.now c.loop-record.record-index
    c.loop-record.invariant (omega arith) c.records-record-items.ensures.all

pub tests_of-loop-filter-preserved : goal.tests_of-loop-filter-preserved
tests_of-loop-filter-preserved t c =
    let fs = c.args.filters.now in
    let i = c.loop-filter.filter-index in
    let filter = c.filter-item.result in
    let next : drop i fs ≡ filter ∷ drop (i + 1) fs = drop_more fs i filter c.loop-filter-test.true ∙ ap (λ f. f ∷ drop (i + 1) fs) (sym c.filter-item.is) in
    λ m id. rw c.in_ok-push.ensures.items
    (test-more c.args.database.now (env_data c.args.env.now) (filters_of (map filter_of fs)) c.loop-filter.tests.items (drop i fs) filter (drop (i + 1) fs) c.test_of.result
    c.loop-filter.invariant next (ap (λ (u : Test). u.field) c.test_of.ensures) (ap (λ (u : Test). u.op) c.test_of.ensures)
    (ap (λ (u : Test). value_data u.with) c.test_of.ensures ∙ c.in_ok-with.ensures) m id)
