use Rattle.std.proofs.Common.{◌≡◌, length, arith}
use Rattle.type_schema.specs.Views.{policy_of}
use Rattle.duty_meaning.specs.Sizes.{policy_size_over}
use Rattle.duty_builder.specs.Values.{schema_in}
use Rattle.duty_builder.proofs.Once.{counted_once}
use Rattle.duty_builder.proofs.policies.policy_size.Goals as goal

pub returns-then-is_empty : goal.returns-then-is_empty
returns-then-is_empty c =
    let st = c.args.start.now in
    let none : length st.added.now ≡ 0 = grind (arith, c.is_empty.ensures, c.if-is_empty.true) in
    counted_once (λ w. policy_size_over (schema_in st) w (policy_of c.args.policy.now)) (schema_in st) st.added.now _ _ none c.requires
    c.in_ok-written.ensures
