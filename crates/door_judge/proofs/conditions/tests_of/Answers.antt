use Rattle.std.proofs.Common.{rules, ◌≡◌, List, [], ◌∷◌, ◌∙◌, Bor, Global, Vec, ap, map, refl, subst, sym, ⊎_elim}
use Rattle.std.specs.Prelude.{Result, Ok, Err}
use Rattle.std.specs.Iterator.Adapters.{zip_first, zip_second}
use Rattle.std.specs.Slice.Iter.{iter_rest}
use Rattle.std.proofs.lemmas.List.{map-append}
use Rattle.std.proofs.lemmas.Slice.Zip.{Zip-more, either_empty_from_Zip}
use Rattle.door_meaning.specs.Conditions as spec
use Rattle.door_meaning.specs.Conditions.{Test}
use Rattle.door_requests.specs.declared.requests.Condition.{Condition}
use Rattle.door_judge.specs.Coming.{Comes}
use Rattle.door_judge.specs.Tests.{test_data, test_named}
use Rattle.door_judge.specs.declared.conditions.Test as code
use Rattle.door_judge.specs.declared.halt.Halt.{Halt}
use Rattle.door_judge.proofs.Stages.{behind, behind_all, comes_stop, tests_next, tests_stop}
use Rattle.door_judge.proofs.conditions.tests_of.Goals as goal
use Rattle.type_schema.specs.Schema.{FieldInfo}
use Rattle.type_schema.specs.SchemaViews.{field_info_of}
use Rattle.type_schema.specs.declared.schemas.FieldInfo as code_field

abbrev infos : List (Bor code_field.FieldInfo) → List FieldInfo
infos fields = map (λ (f : Bor code_field.FieldInfo). field_info_of f.now) fields

abbrev seen : Vec code.Test Global → List Test
seen tests = map test_data tests.items

-- the tests that are left, where these are the next field and condition
next_left : (done : List Test) (fields : List (Bor code_field.FieldInfo)) (cs : List Condition) (f : Bor code_field.FieldInfo) (c : Condition) (rest : List (Bor code_field.FieldInfo))
    (more : List Condition) → fields ≡ f ∷ rest → cs ≡ c ∷ more
    → behind done (spec.tests_of (infos fields) cs) ≡ behind done (spec.tests_of (field_info_of f.now ∷ infos rest) (c ∷ more))
next_left done fields cs f c rest more is are =
    ap (λ xs. behind done (spec.tests_of (infos xs) cs)) is ∙ ap (λ xs. behind done (spec.tests_of (infos (f ∷ rest)) xs)) are

pub returns-in_err-test : goal.returns-in_err-test
returns-in_err-test c =
    let same : c.from_residual.result ≡ Err c.in_err-test.field-0.0 = search rules in
    let z = Zip-more c.loop-field.field-iterator c.next.new.self c.next.result (c.in-Some.field, c.in-Some.c) c.in-Some.is c.next.ensures.steps in
    let done = map test_data c.loop-field.tests.items in
    let f = c.in-Some.field in
    let rest = iter_rest (zip_first c.next.new.self) in
    let more = iter_rest (zip_second c.next.new.self) in
    let stop = comes_stop (test_named (field_info_of f.now.now) c.in-Some.c.now) test_data (spec.tests_of (infos c.args.fields.now) c.args.conditions.now) seen c.in_err-test.field-0.0
    (λ reply is. c.loop-field.invariant
    ∙ next_left done (iter_rest (zip_first c.loop-field.field-iterator)) (iter_rest (zip_second c.loop-field.field-iterator)) f.now c.in-Some.c.now rest more z.0 z.1
    ∙ tests_stop done (field_info_of f.now.now) (infos rest) c.in-Some.c.now more reply is)
    c.in_err-test.ensures in
    subst (λ (r : Result (Vec code.Test Global) Halt). Comes (spec.tests_of (infos c.args.fields.now) c.args.conditions.now) seen r) (sym same) stop

pub loop-field-preserved : goal.loop-field-preserved
loop-field-preserved c =
    let z = Zip-more c.loop-field.field-iterator c.next.new.self c.next.result (c.in-Some.field, c.in-Some.c) c.in-Some.is c.next.ensures.steps in
    let tests = c.loop-field.tests.items in
    let done = map test_data tests in
    let f = c.in-Some.field in
    let t = c.in_ok-test.test in
    let rest = iter_rest (zip_first c.next.new.self) in
    let more = iter_rest (zip_second c.next.new.self) in
    c.loop-field.invariant
    ∙ next_left done (iter_rest (zip_first c.loop-field.field-iterator)) (iter_rest (zip_second c.loop-field.field-iterator)) f.now c.in-Some.c.now rest more z.0 z.1
    ∙ tests_next done (field_info_of f.now.now) (infos rest) c.in-Some.c.now more (test_data t) c.in_ok-test.ensures
    ∙ ap (λ ts. behind ts (spec.tests_of (infos rest) more)) (sym (map-append test_data tests (t ∷ [])) ∙ ap (map test_data) (sym c.in_ok-push.ensures.items))

-- there are no more tests where there are no more fields, or no more conditions
none_left : (fields : List FieldInfo) (cs : List Condition) → cs ≡ [] → spec.tests_of fields cs ≡ Ok []
none_left [] cs none = refl
none_left (f ∷ fields) cs none = ap (spec.tests_of (f ∷ fields)) none

pub returns : goal.returns
returns c =
    let fields = iter_rest (zip_first c.loop-field.field-iterator) in
    let cs = iter_rest (zip_second c.loop-field.field-iterator) in
    let none : spec.tests_of (infos fields) cs ≡ Ok []
    = ⊎_elim (λ (e : fields ≡ []). ap (λ xs. spec.tests_of (infos xs) cs) e) (λ (e : cs ≡ []). none_left (infos fields) cs e)
    (either_empty_from_Zip c.loop-field.field-iterator c.next.new.self c.next.result c.in-None.is c.next.ensures.steps) in
    c.loop-field.invariant ∙ ap (behind (map test_data c.loop-field.tests.items)) none ∙ behind_all (map test_data c.loop-field.tests.items)
