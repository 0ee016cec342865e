use Rattle.std.proofs.Common.{◌≡◌, ◌∙◌, ◌++◌, List, ℕ, subst, sym, ap, rules, length}
use Rattle.std.specs.Prelude.{◌==◌}
use Rattle.form_terms.specs.Listing.{unique}
use Rattle.ground_terms.specs.Keeping.{AreBelow}
use Rattle.ground_terms.proofs.Fewer.{ones_below, found_ones, firsts_listed}
use Rattle.ground_terms.proofs.first.first_terms.Goals as goal

pub unique-requires : goal.unique-requires
unique-requires c =
    let terms = c.list_terms.new.terms in
    let P : ℕ → Type 0 = λ n. AreBelow n c.as_slice.result.now in
    let Q : List ℕ → Type 0 = λ xs. AreBelow (length terms) xs in
    subst P (sym c.len.ensures.len)
    (subst Q (sym c.as_slice.ensures.value) (ones_below terms _ (found_ones _ _ _ _ _ _ _ _ c.new-found.ensures.items c.in_ok-list_names.ensures c.in_ok-list_terms.ensures)))

pub returns : goal.returns
returns c =
    let w : c.extend_from_slice.new.self.items ≡ c.list_constants.new.listed.items ++ c.in_ok-rest.rest.items = search rules in
    firsts_listed _ _ _ _ _ c.list_terms.new.terms _ _ _ c.list_terms.new.listed.items c.in_ok-rest.rest.items _ _ _ c.len.ensures.placed c.len.ensures.once c.new-found.ensures.items
    c.in_ok-list_names.ensures c.in_ok-list_terms.ensures (c.in_ok-rest.ensures ∙ ap (λ xs. unique (λ x y. x == y) xs) c.as_slice.ensures.value)
    c.new-first.ensures.items c.in_ok-list_constants.ensures w
