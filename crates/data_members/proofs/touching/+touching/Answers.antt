use Rattle.std.proofs.Common.{◌≡◌, true, false, ◌++◌, ◌∷◌, [], ap, ◌∙◌, subst, map}
use Rattle.std.specs.Prelude.{OnOk}
use Rattle.type_schema.specs.Trees.{no_filters}
use Rattle.type_schema.specs.Views as view
use Rattle.data_meaning.specs.Values.{Id}
use Rattle.data_meaning.specs.Database.{ids_of}
use Rattle.data_meaning.specs.declared.principals.Principal.TheVariants.{Rec}
use Rattle.data_meaning.specs.Meaning.{truth_of, value_of, member}
use Rattle.data_meaning.specs.Touched.{touched, set_touched, filters_touched}
use Rattle.data_members.specs.Variables.{env_data, first_field, first_value}
use Rattle.data_members.proofs.Levels.{MatchE_is, MapS_is, FlatS_is, IfS_is, MatchS_is}
use Rattle.data_members.proofs.CellReads.{cell, filter-read, filter-touches, match-some, match-none, if-read, mapped-read}
use Rattle.data_members.proofs.touching.+touching.Goals as goal

pub touch-returns-in-Some : goal.touch-returns-in-Some
touch-returns-in-Some t c =
    let d = c.args.database.now in
    let env = env_data c.args.env.now in
    let of = c.in-MatchE.of in
    match-some c.touch-in-Some.result c.args.found.now.items c.touch-in-MatchE.new.found.items c.touch-in-Some.new.found.items
    (touched d env (view.expr_of of)) (touched d env (view.expr_of c.in-MatchE.a)) (touched d env (view.expr_of c.args.e.now))
    (λ inner. touched d inner (view.expr_of c.in-MatchE.c)) env (value_of d env (view.expr_of of)) (λ all. env_data all.items) c.in_ok-inner-in-MatchE.field-0 c.in-Some.inner
    (rw c.get-in-MatchE.ensures at c.in_ok-touch-in-MatchE.ensures) (rw c.get-in-MatchE-2.ensures at c.in_ok-inner-in-MatchE.ensures) c.in-Some.is
    (ap (λ e. touched d env (view.expr_of e)) c.in-MatchE.is ∙ ap (touched d env) (MatchE_is of c.in-MatchE.a c.in-MatchE.field-2 c.in-MatchE.c))
    (rw (c.get-in-Some.ensures, c.as_slice.ensures.value) at c.touch-in-Some.ensures)

pub touch-returns-in-None : goal.touch-returns-in-None
touch-returns-in-None t c =
    let d = c.args.database.now in
    let env = env_data c.args.env.now in
    let of = c.in-MatchE.of in
    match-none c.touch-in-None.result c.args.found.now.items c.touch-in-MatchE.new.found.items c.touch-in-None.new.found.items
    (touched d env (view.expr_of of)) (touched d env (view.expr_of c.in-MatchE.a)) (touched d env (view.expr_of c.args.e.now))
    (λ inner. touched d inner (view.expr_of c.in-MatchE.c)) env (value_of d env (view.expr_of of)) (λ all. env_data all.items) c.in_ok-inner-in-MatchE.field-0
    (rw c.get-in-MatchE.ensures at c.in_ok-touch-in-MatchE.ensures) (rw c.get-in-MatchE-2.ensures at c.in_ok-inner-in-MatchE.ensures) c.in-None.is
    (ap (λ e. touched d env (view.expr_of e)) c.in-MatchE.is ∙ ap (touched d env) (MatchE_is of c.in-MatchE.a c.in-MatchE.field-2 c.in-MatchE.c))
    (rw c.get-in-None.ensures at c.touch-in-None.ensures)

pub touch_set-returns-in_ok-sources-in-MapS : goal.touch_set-returns-in_ok-sources-in-MapS
touch_set-returns-in_ok-sources-in-MapS t c =
    let d = c.args.database.now in
    let env = env_data c.args.env.now in
    let source = c.in-MapS.source in
    mapped-read c.touch_at_each.result c.args.found.now.items c.touch_set-in-MapS.new.found.items c.touch_at_each.new.found.items
    (set_touched d env (view.set_of source)) (set_touched d env (view.set_of c.args.set.now))
    (λ y. member d env (view.set_of source) (Rec c.in-MapS.n y)) (λ y. touched d (env ++ Id y ∷ []) (view.expr_of c.in-MapS.e)) (ids_of d c.in-MapS.n) c.in_ok-sources-in-MapS.sources.items
    (rw c.get-in-MapS.ensures at c.in_ok-touch_set-in-MapS.ensures) (rw c.get-in-MapS-2.ensures at c.in_ok-sources-in-MapS.ensures)
    (ap (λ u. set_touched d env (view.set_of u)) c.in-MapS.is ∙ ap (set_touched d env) (MapS_is source c.in-MapS.n c.in-MapS.field-2 c.in-MapS.field-3 c.in-MapS.e))
    (rw (c.as_slice-in-MapS.ensures.value, c.get-in-MapS-3.ensures) at c.touch_at_each.ensures)

pub touch_set-returns-in_ok-sources-in-FlatS : goal.touch_set-returns-in_ok-sources-in-FlatS
touch_set-returns-in_ok-sources-in-FlatS t c =
    let d = c.args.database.now in
    let env = env_data c.args.env.now in
    let source = c.in-FlatS.source in
    mapped-read c.touch_set_at_each.result c.args.found.now.items c.touch_set-in-FlatS.new.found.items c.touch_set_at_each.new.found.items
    (set_touched d env (view.set_of source)) (set_touched d env (view.set_of c.args.set.now))
    (λ y. member d env (view.set_of source) (Rec c.in-FlatS.n y)) (λ y. set_touched d (env ++ Id y ∷ []) (view.set_of c.in-FlatS.body)) (ids_of d c.in-FlatS.n) c.in_ok-sources-in-FlatS.sources.items
    (rw c.get-in-FlatS.ensures at c.in_ok-touch_set-in-FlatS.ensures) (rw c.get-in-FlatS-2.ensures at c.in_ok-sources-in-FlatS.ensures)
    (ap (λ u. set_touched d env (view.set_of u)) c.in-FlatS.is ∙ ap (set_touched d env) (FlatS_is source c.in-FlatS.n c.in-FlatS.field-2 c.in-FlatS.body))
    (rw (c.as_slice-in-FlatS.ensures.value, c.get-in-FlatS-3.ensures) at c.touch_set_at_each.ensures)

pub touch_set-returns-then-branch : goal.touch_set-returns-then-branch
touch_set-returns-then-branch t c =
    let d = c.args.database.now in
    let env = env_data c.args.env.now in
    let yes = set_touched d env (view.set_of c.in-IfS.a) in
    let no = set_touched d env (view.set_of c.in-IfS.b) in
    let b = truth_of (value_of d env (view.expr_of c.in-IfS.c)) in
    let r = c.touch_set-then-branch.result in
    let new = c.touch_set-then-branch.new.found.items in
    let mid = c.touch-in-IfS.new.found.items in
    let is : truth_of (value_of d env (view.expr_of c.in-IfS.c)) ≡ true = cc (c.in_ok-truth_at-in-IfS.ensures, c.if-branch.true) in
    if-read r c.args.found.now.items mid new
    (touched d env (view.expr_of c.in-IfS.c)) (set_touched d env (view.set_of c.args.set.now)) yes no b
    (rw c.get-c.ensures at c.in_ok-touch-in-IfS.ensures)
    (ap (λ u. set_touched d env (view.set_of u)) c.in-IfS.is ∙ ap (set_touched d env) (IfS_is c.in-IfS.c c.in-IfS.a c.in-IfS.b))
    (rw is (rw c.get-then-branch.ensures at c.touch_set-then-branch.ensures))

pub touch_set-returns-else-branch : goal.touch_set-returns-else-branch
touch_set-returns-else-branch t c =
    let d = c.args.database.now in
    let env = env_data c.args.env.now in
    let yes = set_touched d env (view.set_of c.in-IfS.a) in
    let no = set_touched d env (view.set_of c.in-IfS.b) in
    let b = truth_of (value_of d env (view.expr_of c.in-IfS.c)) in
    let r = c.touch_set-else-branch.result in
    let new = c.touch_set-else-branch.new.found.items in
    let mid = c.touch-in-IfS.new.found.items in
    let is : truth_of (value_of d env (view.expr_of c.in-IfS.c)) ≡ false = cc (c.in_ok-truth_at-in-IfS.ensures, c.if-branch.false) in
    if-read r c.args.found.now.items mid new
    (touched d env (view.expr_of c.in-IfS.c)) (set_touched d env (view.set_of c.args.set.now)) yes no b
    (rw c.get-c.ensures at c.in_ok-touch-in-IfS.ensures)
    (ap (λ u. set_touched d env (view.set_of u)) c.in-IfS.is ∙ ap (set_touched d env) (IfS_is c.in-IfS.c c.in-IfS.a c.in-IfS.b))
    (rw is (rw c.get-else-branch.ensures at c.touch_set-else-branch.ensures))

pub touch_set-returns-in-Some : goal.touch_set-returns-in-Some
touch_set-returns-in-Some t c =
    let d = c.args.database.now in
    let env = env_data c.args.env.now in
    let of = c.in-MatchS.of in
    match-some c.touch_set-in-Some.result c.args.found.now.items c.touch-in-MatchS.new.found.items c.touch_set-in-Some.new.found.items
    (touched d env (view.expr_of of)) (set_touched d env (view.set_of c.in-MatchS.a)) (set_touched d env (view.set_of c.args.set.now))
    (λ inner. set_touched d inner (view.set_of c.in-MatchS.c)) env (value_of d env (view.expr_of of)) (λ all. env_data all.items) c.in_ok-inner-in-MatchS.field-0 c.in-Some.inner
    (rw c.get-of.ensures at c.in_ok-touch-in-MatchS.ensures) (rw c.get-of.ensures at c.in_ok-inner-in-MatchS.ensures) c.in-Some.is
    (ap (λ u. set_touched d env (view.set_of u)) c.in-MatchS.is ∙ ap (set_touched d env) (MatchS_is of c.in-MatchS.a c.in-MatchS.field-2 c.in-MatchS.c))
    (rw (c.get-in-Some.ensures, c.as_slice-in-Some.ensures.value) at c.touch_set-in-Some.ensures)

pub touch_set-returns-in-None : goal.touch_set-returns-in-None
touch_set-returns-in-None t c =
    let d = c.args.database.now in
    let env = env_data c.args.env.now in
    let of = c.in-MatchS.of in
    match-none c.touch_set-in-None.result c.args.found.now.items c.touch-in-MatchS.new.found.items c.touch_set-in-None.new.found.items
    (touched d env (view.expr_of of)) (set_touched d env (view.set_of c.in-MatchS.a)) (set_touched d env (view.set_of c.args.set.now))
    (λ inner. set_touched d inner (view.set_of c.in-MatchS.c)) env (value_of d env (view.expr_of of)) (λ all. env_data all.items) c.in_ok-inner-in-MatchS.field-0
    (rw c.get-of.ensures at c.in_ok-touch-in-MatchS.ensures) (rw c.get-of.ensures at c.in_ok-inner-in-MatchS.ensures) c.in-None.is
    (ap (λ u. set_touched d env (view.set_of u)) c.in-MatchS.is ∙ ap (set_touched d env) (MatchS_is of c.in-MatchS.a c.in-MatchS.field-2 c.in-MatchS.c))
    (rw c.get-in-None.ensures at c.touch_set-in-None.ensures)

pub touch_filter-returns : goal.touch_filter-returns
touch_filter-returns t c =
    let d = c.args.database.now in
    let env = env_data c.args.env.now in
    let m = c.args.m in
    let one = view.filter_of c.args.filter.now no_filters in
    filter-read c.touch_field.result c.args.found.now.items c.touch_value.new.found.items c.touch_field.new.found.items
    (touched d env (first_value one)) (map (cell m (first_field one)) (ids_of d m)) (filters_touched d env m) (λ rest. filters_touched d env m (view.filter_of c.args.filter.now rest))
    c.in_ok-touch_value.ensures (λ rest. filter-touches d env m c.args.filter.now rest)
    (subst (λ f. OnOk c.touch_field.result (c.touch_field.new.found.items ≡ c.touch_value.new.found.items ++ map (cell m f) (ids_of d m))) c.field_of.ensures c.touch_field.ensures)
