use Rattle.app_main.proofs.process.run_to_exit.Goals as goal

pub returns : goal.returns
returns g c = (c.run.result, c.from.ensures, c.run.ensures)
