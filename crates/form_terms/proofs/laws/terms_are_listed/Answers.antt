use Rattle.form_terms.proofs.CountLaws.{lists_within, lists_herbrand}
use Rattle.form_terms.proofs.Stratified.{passes_listed}
use Rattle.form_terms.specs.Universe.{IsHerbrandTerm, IsShallowTerm}
use Rattle.form_terms.proofs.laws.terms_are_listed.Goals as goal

pub returns-clause-within : goal.returns-clause-within
returns-clause-within c = λ g f n over. lists_within g f over n

pub returns-clause-stratified : goal.returns-clause-stratified
returns-clause-stratified c = λ g f over stratified. lists_herbrand g f over stratified

pub returns-clause-herbrand : goal.returns-clause-herbrand
returns-clause-herbrand c = λ g f s terms h. passes_listed g f (IsHerbrandTerm g f) s terms h

pub returns-clause-shallow : goal.returns-clause-shallow
returns-clause-shallow c = λ g f s terms h. passes_listed g f (IsShallowTerm g f) s terms h
