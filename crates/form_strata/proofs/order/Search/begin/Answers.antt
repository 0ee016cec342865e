use Rattle.std.proofs.Common.{true, false, ◌≡◌, ℕ, List, Vec, Global, ap, map, subst, length}
use Rattle.form_strata.specs.declared.order.Mark.{Mark}
use Rattle.form_strata.specs.declared.order.Mark.TheVariants.{Done}
use Rattle.form_strata.specs.Search.{mark_at}
use Rattle.form_strata.proofs.OrderLemmas.{begun_new, left_entered}
use Rattle.form_strata.proofs.order.Search.begin.Goals as goal

pub returns : goal.returns
returns c graph s empty =
    let D : List Mark → Type 0 = λ ms. mark_at ms c.args.start ≡ Done → ⊥ in
    let fresh : mark_at c.args.self.now.marks.items c.args.start ≡ Done → ⊥ =
    subst D c.as_slice.ensures.value (λ e. let h : false ≡ true = c.if-is_done.ensures.1 e in cc) in
    let begun =
    begun_new graph (length c.args.self.now.marks.items) c.args.self.now.marks.items c.enter.new.self.marks.items c.args.self.now.path.items c.enter.new.self.path.items
    c.args.self.now.order.items c.enter.new.self.order.items c.args.start c.requires fresh s.state empty c.in_ok-enter.ensures.marks c.in_ok-enter.ensures.path
    c.enter.ensures.order in
    let left =
    left_entered graph c.args.self.now.marks.items c.enter.new.self.marks.items (map (λ l. l.items) c.args.self.now.left.items)
    (map (λ l. l.items) c.enter.new.self.left.items) c.args.start fresh (ap (λ (ls : List (Vec ℕ Global)). map (λ l. l.items) ls) c.enter.ensures.left)
    c.in_ok-enter.ensures.marks s.left in
    (record { state = begun.0; left = left }, begun.1)
