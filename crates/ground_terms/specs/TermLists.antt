-- Lists of ground terms.
use Rattle.std.specs.Prelude.{List}
use Rattle.form_terms.specs.GroundTerms.{GroundTerm}
use Rattle.ground_terms.specs.declared.term_list.Terms.{Terms}
use Rattle.ground_terms.specs.Standing.{terms_at}

-- the terms
abbrev pub terms_in : Terms → List GroundTerm
terms_in terms = terms_at terms.arena terms.ids.items
