-- Formulas made of formulas that were made one after the other, and what is too large.
use Rattle.std.proofs.Common.{◌≡◌, ℕ, ◌<◌, true, List, sym, ◌∙◌, ap, subst, arith}
use Rattle.std.specs.Prelude.{Result, Ok, Err, IfOk}
use Rattle.form_formula.specs.Trees.{Formula, both, exists}
use Rattle.form_formula.specs.declared.node.Node.{Node}
use Rattle.form_formula.specs.Nodes.{formula_of, StandsFor}
use Rattle.duty_meaning.specs.Sizes.{size}
use Rattle.duty_writer.specs.declared.make_err.MakeErr.{MakeErr}
use Rattle.duty_writer.specs.declared.make_err.MakeErr.TheVariants.{Full}
use Rattle.duty_writer.specs.declared.writer.Mode.TheVariants.{Build}
use Rattle.duty_writer.specs.declared.writer.Writer.{Writer}
use Rattle.duty_writer.specs.Made.{IsMade, IsCause, MakesFor, Makes, IsPart}
use Rattle.duty_writer.proofs.Paying.{made_stop}
use Rattle.duty_writer.proofs.Joining.{part_stands, stands_later, two_made, one_made, later_stop, size-and_if, size-exists_if}
use Rattle.duty_formulas.specs.Limits.{largest_formula}

-- the same formula by another name
pub makes_as : (old new : Writer) (f g : Formula) (r : Result ℕ MakeErr) → f ≡ g → Makes old r new f → Makes old r new g
makes_as old new f g r same h = let P : Formula → Type 0 = λ x. Makes old r new x in subst P same h

pub made_as : (old new : Writer) (f g : Formula) (id : ℕ) → f ≡ g → IsMade (size f) old new f id → IsMade (size g) old new g id
made_as old new f g id same h = let P : Formula → Type 0 = λ x. IsMade (size x) old new x id in subst P same h

-- a part, and one that was made before another
pub part_made : (old new : Writer) (f : Formula) (id : ℕ) → IsMade (size f) old new f id → IsPart new id
part_made old new f id h = part_stands new id f h.stands

pub part_kept : (old one two : Writer) (f g : Formula) (a b : ℕ) → IsMade (size f) old one f a → IsMade (size g) one two g b → IsPart two a
part_kept old one two f g a b first second = part_stands two a f (stands_later one two a f second.mode second.kept first.stands)

-- two formulas, and that both are true
pub both_made : (old one two new : Writer) (f g : Formula) (a b : ℕ) (r : Result ℕ MakeErr) → IsMade (size f) old one f a → IsMade (size g) one two g b
    → MakesFor 1 two r new (both (formula_of two.arena a) (formula_of two.arena b)) → Makes old r new (both f g)
both_made old one two new f g a b r first second last = two_made old one two new f g both a b r (size-and_if true f g) first second last

-- a formula, and that it is true for some element
pub exists_made : (old one new : Writer) (sort : ℕ) (f g : Formula) (a : ℕ) (r : Result ℕ MakeErr) → exists sort f ≡ g → IsMade (size f) old one f a
    → MakesFor 1 one r new (exists sort (formula_of one.arena a)) → Makes old r new g
exists_made old one new sort f g a r same first last =
    makes_as old new (exists sort f) g r same (one_made old one new f (exists sort) a r (size-exists_if true sort f) first last)

-- where a part is too large, the whole is
pub first_stop : (old new : Writer) (f g : Formula) (r : Result ℕ MakeErr) (d e : MakeErr) → r ≡ Err d → d ≡ e → IsCause (size f) old e → Makes old r new (both f g)
first_stop old new f g r d e is same h = made_stop (size f) (size (both f g)) old new (both f g) r d e is same (omega arith) h

pub second_stop : (old one new : Writer) (f g : Formula) (a : ℕ) (r : Result ℕ MakeErr) (d e : MakeErr) → IsMade (size f) old one f a
    → r ≡ Err d → d ≡ e → IsCause (size g) one e → Makes old r new (both f g)
second_stop old one new f g a r d e first is same h = later_stop old one new (size f) (size g) (size (both f g)) (both f g) f a r d e first is same (omega arith) h

pub exists_stop : (old new : Writer) (sort : ℕ) (f g : Formula) (r : Result ℕ MakeErr) (d e : MakeErr) → exists sort f ≡ g
    → r ≡ Err d → d ≡ e → IsCause (size f) old e → Makes old r new g
exists_stop old new sort f g r d e whole is same h = made_stop (size f) (size g) old new g r d e is same (omega (arith, ap size whole)) h

-- what was made in an arena that is put back
pub stands_made : {E : Type 0} (old new : Writer) (f : Formula) (nodes : List Node) (made : Result ℕ MakeErr) (r : Result ℕ E) → old.mode ≡ Build
    → Makes old made new f → IfOk r (λ id. made ≡ Ok id) → IfOk r (λ id. nodes ≡ new.arena) → IfOk r (λ id. StandsFor nodes id f)
stands_made old new f nodes made (Err e) build h same put = tt
stands_made old new f nodes made (Ok id) build h same put =
    let P : Result ℕ MakeErr → Type 0 = λ x. Makes old x new f in
    let w : IsMade (size f) old new f id = subst P same h in
    let Q : List Node → Type 0 = λ l. StandsFor l id f in
    subst Q (sym put) (w.stands (w.mode ∙ build))

-- it was too large for what was left
pub too_large : (old new : Writer) (f : Formula) (made r : Result ℕ MakeErr) → old.left ≡ largest_formula → Makes old made new f
    → (r ≡ Err Full → made ≡ Err Full) → r ≡ Err Full → largest_formula < size f
too_large old new f made r left h full is =
    let P : Result ℕ MakeErr → Type 0 = λ x. Makes old x new f in
    let above : old.left < size f = subst P (full is) h in
    let Q : ℕ → Type 0 = λ n. n < size f in
    subst Q left above
