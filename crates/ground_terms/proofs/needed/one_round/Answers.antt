use Rattle.std.proofs.Common.{◌≡◌, List, Bool, subst, sym, ap, arith, rules, length, drop}
use Rattle.ground_terms.specs.Needed.{AreSpread}
use Rattle.ground_terms.proofs.NeededRounds.{written_back}
use Rattle.ground_terms.proofs.needed.one_round.Goals as goal

pub returns : goal.returns
returns c =
    let new : List Bool = c.spread.new.marks in
    let old : c.as_mut_slice.result.now ≡ c.args.marks.now = search rules in
    let size : length new ≡ c.in_ok-next.next.len = omega (arith, c.spread.ensures.size, ap length c.as_mut_slice.ensures.value, c.in_ok-next.next.ok) in
    let P : List Bool → Type 0 = λ next. AreSpread c.args.funs.now c.args.marks.now c.args.marks.now next in
    let Q : List Bool → Type 0 = λ old. AreSpread c.args.funs.now c.args.marks.now old new in
    subst P (sym (written_back c.in_ok-next.next.len new (drop (length new) c.in_ok-next.next.items) size)) (subst Q old c.spread.ensures)
