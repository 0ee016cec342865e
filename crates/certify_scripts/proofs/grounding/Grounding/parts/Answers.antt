use Rattle.type_schema.specs.SchemaViews.{script_of}
use Rattle.certify_scripts.proofs.PartLaws.{bad_at, cyclic_at, large_at, more_at}
use Rattle.certify_scripts.proofs.grounding.Grounding.parts.Goals as goal

pub returns-in-Bad : goal.returns-in-Bad
returns-in-Bad g c =
    let s = c.args.self.now in
    bad_at (script_of s.script.now) s.signature.now c.args.text.now c.args.duties.now _ c.loop-place.place c.in_ok-number.number c.loop-place.spot c.in_ok-to.field-0 c.requires.listed
    c.loop-place-test.true c.in_ok-number.ensures c.loop-place.invariant c.in_ok-to.ensures c.in-Bad.line c.in-Bad.is

pub returns-in-Cyclic : goal.returns-in-Cyclic
returns-in-Cyclic g c =
    let s = c.args.self.now in
    cyclic_at (script_of s.script.now) s.signature.now c.args.text.now c.args.duties.now _ c.loop-place.place c.in_ok-number.number c.loop-place.spot c.in_ok-to.field-0 c.requires.listed
    c.loop-place-test.true c.in_ok-number.ensures c.loop-place.invariant c.in_ok-to.ensures c.in-Cyclic.duty c.in-Cyclic.cycle c.in-Cyclic.is

pub returns-in-TooLarge : goal.returns-in-TooLarge
returns-in-TooLarge g c =
    let s = c.args.self.now in
    large_at (script_of s.script.now) s.signature.now c.args.text.now c.args.duties.now _ c.loop-place.place c.in_ok-number.number c.loop-place.spot c.in_ok-to.field-0 c.requires.listed
    c.loop-place-test.true c.in_ok-number.ensures c.loop-place.invariant c.in_ok-to.ensures c.in-TooLarge.duty c.in-TooLarge.terms c.in-TooLarge.nodes c.in-TooLarge.is

pub loop-place-preserved : goal.loop-place-preserved
loop-place-preserved g c =
    let s = c.args.self.now in
    more_at (script_of s.script.now) s.signature.now c.args.text.now c.args.duties.now _ c.loop-place.place c.in_ok-number.number c.loop-place.spot c.in_ok-to.field-0 c.requires.listed
    c.loop-place-test.true c.in_ok-number.ensures c.loop-place.invariant c.in_ok-to.ensures c.in-Passed.to c.in-Passed.is
