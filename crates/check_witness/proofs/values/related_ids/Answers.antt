use Rattle.std.proofs.Common.{◌≡◌, ◌∙◌, ap, suc, map, ◌==◌, ◌&&◌, subst}
use Rattle.std.specs.Prelude.{filter, IfOk}
use Rattle.std.specs.List.{list_any, range_with_len}
use Rattle.check_witness.proofs.Related.{related-any, filter-same}
use Rattle.check_witness.proofs.values.related_ids.Goals as goal

pub returns : goal.returns
returns c =
    subst (λ ids. IfOk c.ids_among.result (λ it. it ≡ ids))
    (ap (λ os. map suc (filter (λ y. list_any (λ o. o == y) os) (range_with_len 0 c.args.size))) (c.as_slice.ensures.value ∙ c.in_ok-others.ensures)
    ∙ ap (map suc)
    (filter-same (λ y. list_any (λ o. o == y) (map (λ p. p.1) (filter (λ p. p.0 == c.args.x) c.args.pairs.now))) (λ y. list_any (λ p. (p.0 == c.args.x) && (p.1 == y)) c.args.pairs.now)
    (λ y. related-any c.args.x y c.args.pairs.now) (range_with_len 0 c.args.size)))
    c.ids_among.ensures
