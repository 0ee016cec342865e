use Rattle.std.proofs.Common.{◌≡◌, ◌<◌, length, get_or, set, subst, sym, ap, ◌∙◌, arith}
use Rattle.std.proofs.lemmas.List.{get_or_read}
use Rattle.std.proofs.lemmas.List.Edits.{length-swap}
use Rattle.std.specs.List.{swap}
use Rattle.link_arena.specs.Links.{AreInverse}
use Rattle.link_arena.proofs.LinksLemmas.{IsInjective-from_inverse, AreInverse-exchanged}
use Rattle.link_arena.proofs.links.Links.exchange.Goals as goal

-- the invariant again, of the fields as they are at the end
kept : (c : goal.After-self-2-1) → AreInverse c.swap.new.self.items (set (set c.self.inside.prev.items c.index-after_a.result.now c.args.a) c.index-after_b.result.now c.args.b)
kept c =
    let next = c.self.inside.next.items in
    let a_in : c.args.a < length next = subst (λ l. c.args.a < length l) (sym c.self.view_is) c.requires.a_in in
    let b_in : c.args.b < length next = subst (λ l. c.args.b < length l) (sym c.self.view_is) c.requires.b_in in
    let same : c.swap.new.self.items ≡ swap next c.args.a c.args.b = c.swap.ensures.items in
    let size : length c.swap.new.self.items ≡ length next = ap length same ∙ length-swap next c.args.a c.args.b in
    let after_a = get_or_read c.swap.new.self.items c.args.a c.index-after_a.result.now (omega arith) c.index-after_a.ensures 0 in
    let after_b = get_or_read c.swap.new.self.items c.args.b c.index-after_b.result.now (omega arith) c.index-after_b.ensures 0 in
    subst (λ l. AreInverse l (set (set c.self.inside.prev.items c.index-after_a.result.now c.args.a) c.index-after_b.result.now c.args.b)) (sym same)
    (AreInverse-exchanged next c.self.inside.prev.items c.args.a c.args.b c.self.invariant.0 a_in b_in _ _
    (after_a ∙ ap (λ l. get_or l c.args.a 0) same) (after_b ∙ ap (λ l. get_or l c.args.b 0) same))

pub invariant_of-self : goal.invariant_of-self
invariant_of-self c =
    let size : length c.swap.new.self.items ≡ length c.self.inside.next.items =
    ap length c.swap.ensures.items ∙ length-swap c.self.inside.next.items c.args.a c.args.b in
    (kept c, omega (arith, c.self.invariant.1))

pub returns-clause-injective : goal.returns-clause-injective
returns-clause-injective c = IsInjective-from_inverse _ _ (kept c)
