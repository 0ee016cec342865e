use Rattle.std.proofs.Common.{◌≡◌, ◌∙◌, ℕ, List, Option, None, get_or, set, sym, ap}
use Rattle.std.specs.Option.{option_or}
use Rattle.std.proofs.lemmas.List.{get_or_read, with_items_is}
use Rattle.solve_equality.specs.Partition.{Parts}
use Rattle.solve_equality.proofs.PartitionLemmas.{relabelled_members}
use Rattle.solve_equality.proofs.partition.Partition.join.Goals as goal

same_parts : (a b : List ℕ) (x y : List (Option ℕ)) → a ≡ b → x ≡ y → ◌≡◌ {A = Parts} (record { classes = a; anchors = x }) (record { classes = b; anchors = y })
same_parts a b x y p q = λ i. record { classes = p i; anchors = q i }

pub returns : goal.returns
returns c =
    let inside = c.self.inside in
    let classes = inside.classes.items in
    let anchors = inside.anchors.items in
    let new = c.relabel.new.classes in
    let from_in = rw (← c.self.view_is) at c.requires.from_in in
    let into_in = rw (← c.self.view_is) at c.requires.into_in in
    let relabelled = rw c.as_mut_slice.ensures.value at c.relabel.ensures in
    let whole = relabelled_members classes new c.args.members.now.visits c.args.from c.args.into (rw (← c.self.view_is) at c.requires.members) relabelled in
    let written = with_items_is inside.classes new (relabelled.terms ∙ sym inside.classes.ok.0) in
    let at_into = get_or_read anchors c.args.into c.index.result.now into_in c.index.ensures None in
    let at_from = get_or_read anchors c.args.from c.index-2.result.now from_in c.index-2.ensures None in
    rw (← c.self.view_is)
    (same_parts _ _ _ _ (written ∙ whole)
    (ap (λ (o : Option ℕ). set anchors c.args.into o) (c.or.ensures ∙ ap (λ (o : Option ℕ). option_or o c.index-2.result.now) at_into ∙ ap (λ (o : Option ℕ). option_or (get_or anchors c.args.into None) o) at_from)))
