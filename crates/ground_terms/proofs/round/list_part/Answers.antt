use Rattle.std.proofs.Common.{◌≡◌, [], arith, List, ℕ, subst, sym, map}
use Rattle.form_terms.specs.GroundTerms.{skolem}
use Rattle.ground_terms.specs.declared.part.Part.{Part}
use Rattle.ground_terms.specs.Applying.{choices, code_skolems}
use Rattle.ground_terms.specs.Standing.{terms_at, lists_at, AreListed, AreListsListed}
use Rattle.ground_terms.proofs.AppliedTerms.{skolems_listed}
use Rattle.ground_terms.proofs.round.list_part.Goals as goal

pub returns-in_ok-list_skolems-in-Existential : goal.returns-in_ok-list_skolems-in-Existential
returns-in_ok-list_skolems-in-Existential c =
    let g = c.args.signature.now in
    let v = c.in-Existential.v in
    let ts = terms_at c.args.terms.now c.args.current.now in
    let arguments : List ℕ = c.in_ok-arguments-in-Existential.arguments.items in
    let P : Part → Type 0 = λ part. AreListed (code_skolems g ts part) c.args.terms.now c.list_skolems.new.terms c.args.listed.now.items c.list_skolems.new.listed.items in
    let A : List ℕ → Type 0 = λ above. AreListsListed (choices g ts above) c.args.terms.now c.choices.new.terms [] arguments in
    let L : List ℕ → Type 0 = λ ids. AreListed (map (skolem v.number v.sort) (lists_at c.choices.new.terms ids)) c.choices.new.terms c.list_skolems.new.terms c.args.listed.now.items c.list_skolems.new.listed.items in
    let some : v.above ≡ [] → ⊥ = λ e. grind (arith, c.is_empty.ensures, e) in
    subst P (sym c.in-Existential.is)
    (skolems_listed g ts v.number v.sort v.above _ _ _ arguments _ _ some
    (subst A c.as_slice.ensures c.in_ok-arguments-in-Existential.ensures)
    (subst L c.as_slice-in-Existential.ensures.value c.in_ok-list_skolems-in-Existential.ensures))
