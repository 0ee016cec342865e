use Rattle.std.proofs.Common.{ap, sym, ◌∙◌, ◌||◌, not}
use Rattle.data_members.specs.Has.{has}
use Rattle.data_members.specs.Sets.{is_one_of}
use Rattle.data_members.proofs.Gathers.{all-but-both, all-but-less, all-but-other}
use Rattle.data_members.proofs.gathering.Gathered.sum.Goals as goal

pub returns-in_ok-left-in-Only-AllBut : goal.returns-in_ok-left-in-Only-AllBut
returns-in_ok-left-in-Only-AllBut c =
    let here = c.in-Only-AllBut in
    let left = rw c.as_slice.ensures.value at c.in_ok-left-in-Only-AllBut.ensures in
    λ q. all-but-less here.ps.items here.qs.items c.in_ok-left-in-Only-AllBut.left.items left q
    ∙ ap (λ u. has u q || not (is_one_of here.qs.items q)) (sym here.is-0) ∙ ap (λ u. has c.args.self q || has u q) (sym here.is-1)

pub returns-in_ok-left-in-AllBut-Only : goal.returns-in_ok-left-in-AllBut-Only
returns-in_ok-left-in-AllBut-Only c =
    let here = c.in-AllBut-Only in
    let left = rw c.as_slice-in-AllBut-Only.ensures.value at c.in_ok-left-in-AllBut-Only.ensures in
    λ q. all-but-other here.ps.items here.qs.items c.in_ok-left-in-AllBut-Only.left.items left q
    ∙ ap (λ u. has u q || is_one_of here.qs.items q) (sym here.is-0) ∙ ap (λ u. has c.args.self q || has u q) (sym here.is-1)

pub returns-in_ok-both-in-AllBut-AllBut : goal.returns-in_ok-both-in-AllBut-AllBut
returns-in_ok-both-in-AllBut-AllBut c =
    let here = c.in-AllBut-AllBut in
    let left = rw c.as_slice-in-AllBut-AllBut.ensures.value at c.in_ok-both-in-AllBut-AllBut.ensures in
    λ q. all-but-both here.ps.items here.qs.items c.in_ok-both-in-AllBut-AllBut.both.items left q
    ∙ ap (λ u. has u q || not (is_one_of here.qs.items q)) (sym here.is-0) ∙ ap (λ u. has c.args.self q || has u q) (sym here.is-1)
