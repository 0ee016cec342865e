use Rattle.form_terms.proofs.Stratified.{cut_satisfies}
use Rattle.form_terms.specs.Cut.{cut}
use Rattle.form_terms.specs.Listing.{herbrand_terms}
use Rattle.form_terms.proofs.laws.stratified_is_complete.Goals as goal

pub returns : goal.returns
returns c = λ g f over normal stratified h. (cut g h.0 h.2.0 (herbrand_terms g f), cut_satisfies g f over stratified normal h.0 h.2.0 h.1 h.2.1)
