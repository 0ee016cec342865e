use Rattle.std.proofs.Common.{◌<◌, arith, get_or, length}
use Rattle.std.proofs.lemmas.List.Elements.{Contains-get_or}
use Rattle.std.proofs.lemmas.Option.{slice_get-get_or}
use Rattle.ground_instances.specs.declared.input.Input.TheVariants.{There}
use Rattle.ground_problem.specs.Ground.{AreVariablesOf}
use Rattle.ground_problem.proofs.CheckLaws.{field_in, fields_length}
use Rattle.ground_problem.proofs.GroundLaws.{variables_kept}
use Rattle.ground_problem.proofs.NumberLaws.{kept_both, zips_next}
use Rattle.ground_problem.proofs.ground.all_variables.Goals as goal

pub bounds-fields-k : goal.bounds-fields-k
bounds-fields-k c = omega (arith, c.loop-k-test.true, fields_length c.args.source.terms.now c.args.inputs.now c.args.fields.now c.requires.fields)

pub variables_of-requires-clause-field : goal.variables_of-requires-clause-field
variables_of-requires-clause-field c =
    let terms = c.args.source.terms.now in
    let inputs = c.args.inputs.now in
    let fields = c.args.fields.now in
    let k = c.loop-k.k in
    let within : k < length fields = omega (arith, c.loop-k-test.true, fields_length terms inputs fields c.requires.fields) in
    field_in terms inputs fields k (get_or fields k 0) (There 0) c.requires.fields c.loop-k-test.true (slice_get-get_or fields k 0 within)

pub variables_of-requires-clause-terms : goal.variables_of-requires-clause-terms
variables_of-requires-clause-terms c =
    c.requires.terms (get_or c.args.inputs.now c.loop-k.k (There 0)) (Contains-get_or c.args.inputs.now c.loop-k.k (There 0) c.loop-k-test.true)

pub loop-k-preserved : goal.loop-k-preserved
loop-k-preserved c =
    let nodes = c.args.source.arena.now in
    let terms = c.args.source.terms.now in
    let old = c.loop-k.numbering in
    let new = c.variables_of.new.numbering in
    let now = c.in_ok-variables in (
      kept_both c.args.numbering.now old new c.loop-k.invariant.0 now.ensures.kept,
      zips_next (λ xs i. AreVariablesOf nodes terms old.facts.keys xs.items i) (λ xs i. AreVariablesOf nodes terms new.facts.keys xs.items i)
          (λ xs i h. variables_kept nodes terms old new now.ensures.kept xs.items i h) c.loop-k.all.items c.push.new.self.items c.args.inputs.now c.loop-k.k (There 0) now.variables
          c.loop-k-test.true c.loop-k.invariant.1 now.ensures.are c.in_ok-push.ensures.items,
    )
