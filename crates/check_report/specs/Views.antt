-- The plain data that a witness of the code stands for.
use Rattle.check_report.specs.declared.witness.Witness as code_witness
use Rattle.check_witness.specs.Witness.{Witness}

abbrev pub witness_data : code_witness.Witness → Witness
witness_data w =
    record { command = w.command; target = w.target; right = w.right; base = w.base; row = w.row; who = w.who; cell = w.cell }
