-- The formulas of the obligations of a typed script are small.
use Rattle.std.proofs.Common.{◌≤◌, ◌<◌, sym, subst, arith}
use Rattle.std.specs.List.{AllByRecursion}
use Rattle.type_schema.specs.Schema.{Schema}
use Rattle.type_specs.specs.Sizes.{most_size}
use Rattle.duty_meaning.specs.Sizes as counted
use Rattle.type_scripts.specs.Small.{ModelIsBounded, IsBounded}
use Rattle.type_scripts.specs.Typed.{TypedFormulasAreSmall}
use Rattle.type_scripts.proofs.Obligations.{formulas_are_small}
use Rattle.type_scripts.proofs.TypedSpec.{spec-small}
use Rattle.type_scripts.proofs.TypedScript.{script-small}

pub typed_formulas_are_small : TypedFormulasAreSmall
typed_formulas_are_small spec s script t typed-spec typed-script is duty listed =
    let given = script-small s script t typed-script in
    let small : IsBounded most_size t = record {
      first = subst (λ (u : Schema). AllByRecursion (ModelIsBounded most_size u) u.models) (sym given.first) (spec-small spec s typed-spec);
      commands = given.commands;
    } in
    let some : 1 ≤ most_size = omega arith in
    let few : most_size < counted.largest_size = omega arith in
    formulas_are_small t most_size is some few small duty listed
