use Rattle.std.proofs.Common.{◌<◌, ◌-◌, arith, subst, sym, get_or, ℕ}
use Rattle.ground_terms.proofs.Keepers.{below_at}
use Rattle.ground_terms.proofs.unique.unique.Goals as goal

pub keep-requires : goal.keep-requires
keep-requires c =
    let P : ℕ → Type 0 = λ n. get_or c.args.items.now (c.left.left - 1) 0 < n in
    subst P (sym c.left.invariant.1) (below_at c.args.bound c.args.items.now (c.left.left - 1) 0 c.requires (omega arith))
