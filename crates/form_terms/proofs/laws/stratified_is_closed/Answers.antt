use Rattle.form_terms.proofs.Stratified.{list_closed}
use Rattle.form_terms.proofs.laws.stratified_is_closed.Goals as goal

pub returns : goal.returns
returns c = λ g f terms over stratified h. list_closed g f over stratified terms h
