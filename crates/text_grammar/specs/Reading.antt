-- Readers: what stands at the front of a list of pieces, as functions.
use Rattle.std.specs.Prelude.{ℕ, zero, suc, ◌-◌, Bool, false, nat_le, if◌then◌else◌, List, [], ◌∷◌, length, drop}
use Rattle.text_ast.specs.Pieces.{Piece}
use Rattle.text_tree.specs.Levels.{Rules}
use Rattle.text_tree.specs.Forms.{Form, Want, admits, may, first, Times, AnyNumber, AtMost, Cause, NotGrammar, TooDeep, TooManyTokens, nothing, token, both, either, each, ended, mapped, part, within}

-- a value and the pieces after it; or a cause and the pieces from the one on where it stands
pub data Answer (A : Type 0) : Type 0 where
  Got : A → List Piece → Answer A
  Stuck : Cause → List Piece → Answer A

abbrev pub Reader : Type 0 → Type 0
Reader A = List Piece → Answer A

abbrev pub after : {A B : Type 0} → (A → Reader B) → Answer A → Answer B
after next (Got x rest) = next x rest
after next (Stuck c rest) = Stuck c rest

abbrev pub made : {A B : Type 0} → (A → B) → Answer A → Answer B
made make (Got x rest) = Got (make x) rest
made make (Stuck c rest) = Stuck c rest

abbrev pub starts : List Want → List Piece → Bool
starts wants [] = false
starts wants (l ∷ ls) = may wants l

abbrev pub one : Want → Reader Piece
one w [] = Stuck NotGrammar []
one w (l ∷ ls) = if admits w l then Got l ls else Stuck NotGrammar (l ∷ ls)

abbrev pub turns : Times → List Piece → ℕ
turns AnyNumber ls = length ls
turns (AtMost most cause) ls = most

abbrev pub excess : Times → Cause
excess AnyNumber = NotGrammar
excess (AtMost most cause) = cause

unfoldable pub read_each : {A : Type 0} → Cause → ℕ → List Want → Reader A → Reader (List A)
read_each c zero wants r ls = if starts wants ls then Stuck c ls else Got [] ls
read_each c (suc n) wants r ls =
    if starts wants ls then after (λ x rest. made (λ xs. x ∷ xs) (read_each c n wants r rest)) (r ls) else Got [] ls

-- after the token
abbrev pub read_end : {A B : Type 0} → Cause → ℕ → Want → List Want → Reader A → Reader B → Reader B → Reader (List A × B)
read_end c zero w wants r last other ls =
    if starts (w ∷ []) ls then after (λ _ rest. if starts wants rest then Stuck c rest else made (λ y. ([], y)) (last rest)) (one w ls)
    else made (λ y. ([], y)) (other ls)
read_end c (suc n) w wants r last other ls =
    if starts (w ∷ []) ls then after (λ _ rest. if starts wants rest
    then after (λ x more. made (λ v. (x ∷ v.0, v.1)) (read_end c n w wants r last other more)) (r rest)
    else made (λ y. ([], y)) (last rest)) (one w ls)
    else made (λ y. ([], y)) (other ls)

abbrev pub at_most : {A : Type 0} → ℕ → List Piece → Answer A → Answer A
at_most most ls (Got x rest) = if nat_le (length ls - length rest) most then Got x rest else Stuck TooManyTokens (drop most ls)
at_most most ls (Stuck c rest) = if nat_le (length ls - length rest) most then Stuck c rest else Stuck TooManyTokens (drop most ls)

unfoldable pub read : {P : Type 0} {T : P → Type 0} → (P → List Want) → ((p : P) → Reader (T p)) → {A : Type 0} → Form P T A → Reader A
read F R (nothing x) ls = Got x ls
read F R (token w) ls = one w ls
read F R (both f g) ls = after (λ x rest. made (λ y. (x, y)) (read F R g rest)) (read F R f ls)
read F R (either f g) ls = if starts (first F f) ls then read F R f ls else read F R g ls
read F R (each times f) ls = read_each (excess times) (turns times ls) (first F f) (read F R f) ls
read F R (ended times w f g h) ls = read_end (excess times) (turns times ls) w (first F f) (read F R f) (read F R g) (read F R h) ls
read F R (mapped make f) ls = made make (read F R f ls)
read F R (part p) ls = R p ls
read F R (within most f) ls = at_most most ls (read F R f ls)

-- a part, with so many levels left
unfoldable pub read_part : {P : Type 0} {T : P → Type 0} → Rules P T → (P → List Want) → ℕ → (p : P) → Reader (T p)
read_part G F zero p ls = if starts (F p) ls then Stuck TooDeep ls else Stuck NotGrammar ls
read_part G F (suc n) p ls = read F (read_part G F n) (G p) ls
