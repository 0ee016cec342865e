use Rattle.std.proofs.Common.{[], arith, drop}
use Rattle.std.proofs.lemmas.Bool.{eq-eqb, eqb-true}
use Rattle.std.proofs.lemmas.List.{take_rest}
use Rattle.certify_recheck.proofs.TextLines.{lines_none, read_first}
use Rattle.certify_recheck.proofs.reading.read_at.Goals as goal

pub returns-in-None : goal.returns-in-None
returns-in-None c =
    let nowhere = rw take_rest at c.in-None.ensures in
    lines_none [] (drop c.args.at c.args.text.now) (λ k within e. nowhere k (omega arith) within (eq-eqb _ 10 e))

pub returns-in-Some : goal.returns-in-Some
returns-in-Some c =
    let found = rw take_rest at c.in-Some.ensures in
    read_first c.args.text.now c.args.at c.in-Some.len c.read_line.result found.0.high (λ k below e. found.0.before k (omega arith) below (eq-eqb _ 10 e)) (eqb-true _ 10 found.1)
    (rw take_rest at c.read_line.ensures)
