use Rattle.std.proofs.Common.{◌≡◌, length, arith}
use Rattle.type_schema.specs.Views.{init_of}
use Rattle.duty_meaning.specs.Sizes.{init_size_over}
use Rattle.duty_builder.specs.Values.{schema_in}
use Rattle.duty_builder.proofs.Once.{counted_once}
use Rattle.duty_builder.proofs.inits.init_size.Goals as goal

pub returns-then-is_empty : goal.returns-then-is_empty
returns-then-is_empty c =
    let st = c.args.start.now in
    let none : length st.added.now ≡ 0 = grind (arith, c.is_empty.ensures, c.if-is_empty.true) in
    counted_once (λ w. init_size_over (schema_in st) w c.args.ty (init_of c.args.init.now)) (schema_in st) st.added.now _ _ none c.requires
    c.in_ok-written.ensures
