use Rattle.std.proofs.Common.{rules, ◌≡◌, refl, sym, ap}
use Rattle.std.specs.Prelude.{Some}
use Rattle.text_ast.specs.Words.{IsText}
use Rattle.data_back.proofs.TextTests.{is-text, not-text}
use Rattle.data_back.proofs.values.read_text.Goals as goal

pub returns-in-Some : goal.returns-in-Some
returns-in-Some c =
    let is : IsText c.in_ok-bytes.bytes.items = search rules in
    let same : c.in-Some.text ≡ c.in_ok-bytes.bytes.items = search rules in
    rw (c.in_ok-bytes.ensures, is-text c.in_ok-bytes.bytes.items is) (ap (λ z. Some (z, c.text.new.self)) (sym same))

pub returns-in-None : goal.returns-in-None
returns-in-None c =
    let other : IsText c.in_ok-bytes.bytes.items → ⊥ = search rules in
    rw (c.in_ok-bytes.ensures, not-text c.in_ok-bytes.bytes.items other) refl
