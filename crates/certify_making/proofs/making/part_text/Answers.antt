use Rattle.std.proofs.Common.{◌≡◌, ◌∙◌, ◌++◌, ◌∷◌, [], List, ap, subst, sym}
use Rattle.certify_clauses.specs.PathView.{PathView}
use Rattle.certify_clauses.specs.declared.literal.Literal.{Literal}
use Rattle.certify_recheck.specs.Due.{due_at}
use Rattle.certify_recheck.specs.declared.line.Line.TheVariants.{Duty}
use Rattle.certify_making.specs.Following.{IsBegun}
use Rattle.certify_clauses.specs.InMemory.{problem_in}
use Rattle.certify_making.specs.Texts.{bytes_of}
use Rattle.certify_making.proofs.Following.{begun, ended, ready_at}
use Rattle.certify_making.proofs.making.part_text.Goals as goal

pub push_tree-requires-clause-ready : goal.push_tree-requires-clause-ready
push_tree-requires-clause-ready c =
    let none : c.in_ok-path.path.literals ≡ [] = ap (λ (p : PathView). p.literals) c.in_ok-path.ensures in
    ready_at _ _ _ _ _ _ _ _ none c.in_ok-told.ensures

pub push_tree-requires-clause-begun : goal.push_tree-requires-clause-begun
push_tree-requires-clause-begun c =
    let p = problem_in c.args.c.now in
    let text = c.push_line.new.text.items in
    let none : c.in_ok-path.path.literals ≡ [] = ap (λ (p : PathView). p.literals) c.in_ok-path.ensures in
    let is = c.in_ok-push_line.ensures ∙ ap (λ bytes. bytes ++ (bytes_of (Duty c.args.duty) ++ 10 ∷ [])) c.new-text.ensures.items in
    subst (λ (ls : List Literal). IsBegun p c.args.duty text (due_at p ls)) (sym none) (begun p c.args.duty text c.requires.small is)

pub returns-then-branch : goal.returns-then-branch
returns-then-branch c = ended (problem_in c.args.c.now) c.args.duty c.push_tree.new.text.items (c.in_ok-push_tree.ensures.made c.if-branch.true)
