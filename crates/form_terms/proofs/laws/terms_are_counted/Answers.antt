use Rattle.form_terms.proofs.CountLaws.{within_counted, sort_counted, herbrand_counted, herbrand_sort_counted, counts_settled}
use Rattle.form_terms.proofs.laws.terms_are_counted.Goals as goal

pub returns-clause-within : goal.returns-clause-within
returns-clause-within c = λ g f n terms over h. within_counted g f over n terms h

pub returns-clause-within_sort : goal.returns-clause-within_sort
returns-clause-within_sort c = λ g f n sort terms over h. sort_counted g f over n sort terms h

pub returns-clause-stratified : goal.returns-clause-stratified
returns-clause-stratified c = λ g f terms over stratified h. herbrand_counted g f over stratified terms h

pub returns-clause-stratified_sort : goal.returns-clause-stratified_sort
returns-clause-stratified_sort c = λ g f sort terms over stratified h. herbrand_sort_counted g f over stratified sort terms h

pub returns-clause-settled : goal.returns-clause-settled
returns-clause-settled c = λ g f sort over stratified. counts_settled g f over stratified sort
