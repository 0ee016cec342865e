use Rattle.std.proofs.Common.{◌≡◌, ◌<◌, length, set, true, false, sym, ◌∙◌, rules, refl}
use Rattle.std.proofs.lemmas.List.{get_or_read}
use Rattle.ground_terms.proofs.Keepers.{kept_seen, kept_new}
use Rattle.ground_terms.proofs.unique.Keeper.keep.Goals as goal

pub returns-then-index-clause-kept : goal.returns-then-index-clause-kept
returns-then-index-clause-kept c =
    let lt : c.args.item < length c.args.self.now.seen.items = search rules in
    kept_seen c.args.item c.args.self.now lt (sym (get_or_read c.args.self.now.seen.items _ _ lt c.index.ensures false) ∙ c.if-index.true)

pub returns-clause-kept : goal.returns-clause-kept
returns-clause-kept c =
    let lt : c.args.item < length c.args.self.now.seen.items = search rules in
    let size : length (set c.args.self.now.seen.items c.args.item true) ≡ length c.args.self.now.seen.items = search rules in
    kept_new c.args.item c.args.self.now _ lt (sym (get_or_read c.args.self.now.seen.items _ _ lt c.index.ensures false) ∙ c.if-index.false) refl size c.in_ok-push.ensures.items
