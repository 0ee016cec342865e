use Rattle.std.proofs.Common.{◌∙◌, List, ℕ, subst, sym, ap}
use Rattle.std.specs.Prelude.{◌==◌}
use Rattle.std.specs.List.{flat_map}
use Rattle.form_formula.specs.Nodes.{formula_of}
use Rattle.form_terms.specs.Listing.{unique}
use Rattle.form_terms.specs.Parts.{parts_of}
use Rattle.ground_terms.specs.declared.node.TermNode.{TermNode}
use Rattle.ground_terms.specs.declared.part.Part.{Part}
use Rattle.ground_terms.specs.Codes.{code_functions}
use Rattle.ground_terms.specs.Parts.{AreThinned, HaveTerms}
use Rattle.ground_terms.specs.Standing.{AreOnes}
use Rattle.ground_terms.proofs.SameTerms.{listed_terms, first_is, plain_is, same_functions}
use Rattle.ground_terms.proofs.Thinned.{terms_of_thinned}
use Rattle.ground_terms.proofs.terms.basis_of.Goals as goal

pub needed_sorts-requires : goal.needed_sorts-requires
needed_sorts-requires c =
    let nodes = c.args.arena.now in
    let P : List Part → Type 0 = λ cs. HaveTerms nodes cs in
    subst P (sym c.as_slice.ensures.value) (terms_of_thinned c.args.signature.now nodes (parts_of (formula_of nodes c.args.id)) c.in_ok-parts.parts.items c.in_ok-parts.ensures)

pub applied_functions-requires : goal.applied_functions-requires
applied_functions-requires c =
    let nodes = c.args.arena.now in
    let P : List Part → Type 0 = λ cs. HaveTerms nodes cs in
    subst P (sym c.as_slice-2.ensures.value) (terms_of_thinned c.args.signature.now nodes (parts_of (formula_of nodes c.args.id)) c.in_ok-parts.parts.items c.in_ok-parts.ensures)

pub first_terms-requires : goal.first_terms-requires
first_terms-requires c =
    let nodes = c.args.arena.now in
    let P : List Part → Type 0 = λ cs. HaveTerms nodes cs in
    subst P (sym c.as_slice-4.ensures.value) (terms_of_thinned c.args.signature.now nodes (parts_of (formula_of nodes c.args.id)) c.in_ok-parts.parts.items c.in_ok-parts.ensures)

pub plain_terms-requires : goal.plain_terms-requires
plain_terms-requires c =
    let terms : List TermNode = c.first_terms.new.terms in
    let P : List ℕ → Type 0 = λ ids. AreOnes terms ids in
    subst P (sym c.as_slice-6.ensures.value) (listed_terms _ _ terms c.in_ok-first.first.items c.in_ok-first.ensures).ones

pub returns : goal.returns
returns c =
    let g = c.args.signature.now in
    let nodes = c.args.arena.now in
    let f = formula_of nodes c.args.id in
    let cs : List Part = c.in_ok-parts.parts.items in
    let P : List Part → Type 0 = λ cs. AreThinned nodes (parts_of f) cs in
    let needed = c.in_ok-needed.ensures f (subst P (sym c.as_slice.ensures.value) c.in_ok-parts.ensures) in
    let applied =
    c.in_ok-functions.ensures ∙ (ap (λ cs. unique (λ h k. h == k) (flat_map (code_functions g nodes) cs)) c.as_slice-2.ensures.value ∙ same_functions g f nodes cs c.in_ok-parts.ensures) in
    let first = first_is g f nodes cs _ c.in_ok-needed.needed.items _ _ _ c.in_ok-first.first.items c.as_slice-4.ensures.value c.as_slice-3.ensures.value c.in_ok-parts.ensures needed c.in_ok-first.ensures in
    record {
      nodes = nodes;
      parts = c.in_ok-parts.ensures;
      applied = applied;
      first = first;
      plain = plain_is g f c.in_ok-functions.functions.items _ c.in_ok-first.first.items _ c.in_ok-plain.plain.items _ c.as_slice-5.ensures.value c.as_slice-6.ensures.value applied first c.in_ok-plain.ensures;
    }
