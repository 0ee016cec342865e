use Rattle.std.proofs.Common.{List, Option, None, ℕ, [], subst, sym, arith, replicate, length, ap, ◌∙◌, ◌≡◌}
use Rattle.ground_gates.specs.declared.names.Owner.{Owner}
use Rattle.ground_gates.specs.Names.{NamesView, AreNames}
use Rattle.ground_gates.proofs.NamesLaws.{none_named, length_blank}
use Rattle.ground_gates.proofs.names.Names.new.Goals as goal

pub invariant_of-result : goal.invariant_of-result
invariant_of-result c =
    let none = none_named c.args.base c.args.gates c.args.inputs (omega arith) in
    let P : List Owner → Type 0 = λ owners. AreNames c.args.base owners c.in_ok-blank.field-0.items c.in_ok-blank-2.field-0.items in
    let Q : List (Option ℕ) → Type 0 = λ gates. AreNames c.args.base [] gates c.in_ok-blank-2.field-0.items in
    let R : List (Option ℕ) → Type 0 = λ inputs. AreNames c.args.base [] (replicate c.args.gates None) inputs in
    subst P (sym c.new.ensures.items) (subst Q (sym c.in_ok-blank.ensures) (subst R (sym c.in_ok-blank-2.ensures) none))

pub returns : goal.returns
returns c =
    let view : List Owner → ℕ → ℕ → NamesView = λ owners p q. record { base = c.args.base; owners = owners; places = p; input_places = q } in
    let places : length c.in_ok-blank.field-0.items ≡ c.args.gates = ap length c.in_ok-blank.ensures ∙ length_blank c.args.gates in
    let input_places : length c.in_ok-blank-2.field-0.items ≡ c.args.inputs = ap length c.in_ok-blank-2.ensures ∙ length_blank c.args.inputs in
    ap (λ owners. view owners (length c.in_ok-blank.field-0.items) (length c.in_ok-blank-2.field-0.items)) c.new.ensures.items
    ∙ (ap (λ p. view [] p (length c.in_ok-blank-2.field-0.items)) places ∙ ap (view [] c.args.gates) input_places)
