-- Formulas made of formulas that were made one after the other.
use Rattle.std.proofs.Common.{◌≡◌, ℕ, ◌+◌, ◌<◌, ◌≤◌, Bool, true, false, refl, sym, ◌∙◌, List, ap, subst, arith}
use Rattle.std.specs.Prelude.{Result, Ok, Err}
use Rattle.form_formula.specs.declared.node.Node.{Node}
use Rattle.form_formula.specs.Trees.{Formula}
use Rattle.form_formula.specs.Nodes.{StandsFor, IsFormula, formula_of, formula_part}
use Rattle.duty_meaning.specs.Sizes.{size}
use Rattle.duty_meaning.specs.Cases.{and_if, exists_if}
use Rattle.duty_writer.specs.declared.make_err.MakeErr.{MakeErr}
use Rattle.duty_writer.specs.declared.make_err.MakeErr.TheVariants.{Full, OutOfMemory}
use Rattle.duty_writer.specs.declared.writer.Mode.TheVariants.{Build}
use Rattle.duty_writer.specs.declared.writer.Writer.{Writer}
use Rattle.duty_writer.specs.Made.{Keeps, IsCause, Stands, IsMade, MakesFor, Makes, IsPart, IsPaid, IsSet}
use Rattle.duty_writer.proofs.Putting.{keeps_both, ap2}
use Rattle.duty_writer.proofs.Paying.{cause_more, made_stop}

-- a formula that was set where its cost was paid
pub set_made : (cost : ℕ) (old mid new : Writer) (f : List Node → Formula) (id : ℕ) → IsPaid cost old mid → IsSet mid.arena new.arena (f mid.arena) id
    → new.left ≡ mid.left → new.mode ≡ mid.mode → IsMade cost old new (f old.arena) id
set_made cost old mid new f id paid set left mode =
    let P : List Node → Type 0 = λ nodes. IsSet nodes new.arena (f nodes) id in
    let now = subst P paid.arena set in
    record { left = paid.left ∙ ap (λ n. n + cost) (sym left); stands = λ build. now.stands; mode = mode ∙ paid.mode; kept = now.kept }

pub part_stands : (w : Writer) (id : ℕ) (f : Formula) → Stands w id f → IsPart w id
part_stands w id f h = λ build. (h build).0

-- what stood for a formula still does
pub stands_later : (old new : Writer) (id : ℕ) (f : Formula) → new.mode ≡ old.mode → Keeps old.arena new.arena → Stands old id f → Stands new id f
stands_later old new id f mode kept h =
    λ build. let was = h (sym mode ∙ build) in let now = kept id false was.0 in (now.0, ap formula_part now.1 ∙ was.1)

-- a formula that is the same where formulas are written
pub made_as : (cost cost' : ℕ) (old new : Writer) (f g : Formula) (r : Result ℕ MakeErr) → (old.mode ≡ Build → f ≡ g) → cost ≡ cost' → MakesFor cost old r new f → MakesFor cost' old r new g
made_as cost cost' old new f g (Ok id) same costs h =
    record { left = h.left ∙ ap (λ n. new.left + n) costs; stands = λ build. let s = h.stands build in (s.0, s.1 ∙ same (sym h.mode ∙ build)); mode = h.mode; kept = h.kept }
made_as cost cost' old new f g (Err e) same costs h = let P : ℕ → Type 0 = λ n. IsCause n old e in subst P costs h

-- a step after another one that made part of what is paid
pub made_later : (cost more : ℕ) (old mid new : Writer) (f g : Formula) (a : ℕ) (r : Result ℕ MakeErr) → IsMade cost old mid g a → MakesFor more mid r new f → MakesFor (cost + more) old r new f
made_later cost more old mid new f g a (Ok id) first h =
    record { left = omega (arith, first.left, h.left); stands = h.stands; mode = h.mode ∙ first.mode; kept = keeps_both _ _ _ first.kept h.kept }
made_later cost more old mid new f g a (Err e) first h = later_cause cost more old mid e first.left h
  where
    later_cause : (cost more : ℕ) (old mid : Writer) (e : MakeErr) → old.left ≡ mid.left + cost → IsCause more mid e → IsCause (cost + more) old e
    later_cause cost more old mid Full left h = omega arith
    later_cause cost more old mid OutOfMemory left h = tt

-- two formulas, and a node over them
pub two_made : (old one two new : Writer) (f g : Formula) (join : Formula → Formula → Formula) (a b : ℕ) (r : Result ℕ MakeErr)
    → size (join f g) ≡ size f + (size g + 1) → IsMade (size f) old one f a → IsMade (size g) one two g b
    → MakesFor 1 two r new (join (formula_of two.arena a) (formula_of two.arena b)) → Makes old r new (join f g)
two_made old one two new f g join a b r sizes first second last =
    let same : two.mode ≡ Build → join (formula_of two.arena a) (formula_of two.arena b) ≡ join f g =
    λ build. ap2 join ((stands_later one two a f second.mode second.kept first.stands build).1) ((second.stands build).1) in
    made_as _ _ _ _ _ _ r (λ build. refl) (sym sizes)
    (made_later (size f) (size g + 1) old one new (join f g) f a r first
    (made_later (size g) 1 one two new (join f g) g b r second
    (made_as 1 1 two new (join (formula_of two.arena a) (formula_of two.arena b)) (join f g) r same refl last)))

pub one_made : (old one new : Writer) (f : Formula) (over : Formula → Formula) (a : ℕ) (r : Result ℕ MakeErr)
    → size (over f) ≡ size f + 1 → IsMade (size f) old one f a
    → MakesFor 1 one r new (over (formula_of one.arena a)) → Makes old r new (over f)
one_made old one new f over a r sizes first last =
    let same : one.mode ≡ Build → over (formula_of one.arena a) ≡ over f = λ build. ap over ((first.stands build).1) in
    made_as _ _ _ _ _ _ r (λ build. refl) (sym sizes)
    (made_later (size f) 1 old one new (over f) f a r first
    (made_as 1 1 one new (over (formula_of one.arena a)) (over f) r same refl last))

pub size-and_if : (sign : Bool) (f g : Formula) → size (and_if sign f g) ≡ size f + (size g + 1)
size-and_if true f g = omega arith
size-and_if false f g = omega arith

pub size-exists_if : (sign : Bool) (sort : ℕ) (f : Formula) → size (exists_if sign sort f) ≡ size f + 1
size-exists_if true sort f = omega arith
size-exists_if false sort f = omega arith

-- a part that is too large after another one was made
pub later_stop : (old mid new : Writer) (n k whole : ℕ) (f g : Formula) (a : ℕ) (r : Result ℕ MakeErr) (d e : MakeErr) → IsMade n old mid g a
    → r ≡ Err d → d ≡ e → n + k ≤ whole → IsCause k mid e → MakesFor whole old r new f
later_stop old mid new n k whole f g a r d e first is same le h = made_stop (n + k) whole old new f r d e is same le (later n k old mid e first.left h)
  where
    later : (n k : ℕ) (old mid : Writer) (e : MakeErr) → old.left ≡ mid.left + n → IsCause k mid e → IsCause (n + k) old e
    later n k old mid Full left h = omega arith
    later n k old mid OutOfMemory left h = tt
