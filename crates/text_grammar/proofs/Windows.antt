-- A reader looks one piece ahead and no further, so that it may be given the first pieces of a list alone.
use Rattle.std.proofs.Common.{◌≡◌, ℕ, List, [], ◌∷◌, ◌++◌, ◌+◌, ◌-◌, ◌≤◌, ◌<◌, suc, zero, length, drop, take, arith, length-append, length-drop, refl, ap, sym, ◌∙◌, subst, append_assoc, append-nil, add-suc, Bool, true, false}
use Rattle.std.specs.Prelude.{if◌then◌else◌, nat_le}
use Rattle.std.proofs.lemmas.Bool.{leb-true, leb-false}
use Rattle.std.proofs.lemmas.List.{drop-append-le, length-take-le, take-append-drop, take_all, drop_all}
use Rattle.text_ast.specs.Pieces.{Piece}
use Rattle.text_tree.specs.Forms.{Cause, NotGrammar, TooManyTokens, Want, admits, may}
use Rattle.text_grammar.specs.Reading.{starts, one, Answer, Got, Stuck, Reader, after, made, at_most, read_each, read_end}
use Rattle.text_grammar.proofs.Lists.{no_back}

-- the pieces that an answer leaves
abbrev pub left : {A : Type 0} → Answer A → List Piece
left (Got x rest) = rest
left (Stuck c rest) = rest

-- The rest is the end of the list.
pub record IsEnd (ls rest : List Piece) : Type 0 where
  pub front : List Piece
  pub glued : ls ≡ front ++ rest

pub shorter : (ls rest : List Piece) → IsEnd ls rest → length rest ≤ length ls
shorter ls rest e = omega (arith, ap length e.glued, length-append e.front rest)

all : (ls : List Piece) → IsEnd ls ls
all ls = record { front = []; glued = refl }

further : (ls mid rest : List Piece) → IsEnd ls mid → IsEnd mid rest → IsEnd ls rest
further ls mid rest a b = record { front = a.front ++ b.front; glued = a.glued ∙ ap (λ z. a.front ++ z) b.glued ∙ sym (append_assoc a.front b.front rest) }

-- an answer before more pieces
abbrev pub before : {A : Type 0} → List Piece → Answer A → Answer A
before tail (Got x rest) = Got x (rest ++ tail)
before tail (Stuck c rest) = Stuck c (rest ++ tail)

-- An answer that leaves a piece is given before more pieces too; another may go on in them.
abbrev SameAt : {A : Type 0} → List Piece → List Piece → Answer A → Answer A → Type 0
SameAt tail [] a b = length (left b) ≤ length tail
SameAt tail (l ∷ rest) a b = b ≡ before tail a

abbrev pub Same : {A : Type 0} → List Piece → Answer A → Answer A → Type 0
Same tail a b = SameAt tail (left a) a b

same_of : {A : Type 0} (tail : List Piece) (a b : Answer A) → b ≡ before tail a → Same tail a b
same_of tail (Got x []) b e = rw e (omega arith)
same_of tail (Got x (l ∷ rest)) b e = e
same_of tail (Stuck c []) b e = rw e (omega arith)
same_of tail (Stuck c (l ∷ rest)) b e = e

same_end : {A : Type 0} (tail : List Piece) (a b : Answer A) → left a ≡ [] → length (left b) ≤ length tail → Same tail a b
same_end {A} tail a b e h = subst (λ z. SameAt tail z a b) (sym e) h

nothing_left : (rest : List Piece) → IsEnd [] rest → rest ≡ []
nothing_left rest e = no_back e.front rest (sym e.glued)

-- What the reader leaves is the end of the list, and it looks one piece ahead.
pub record Looks {A : Type 0} (rd : Reader A) : Type 0 where
  pub ends : (ls : List Piece) → IsEnd ls (left (rd ls))
  pub same : (ls tail : List Piece) → Same tail (rd ls) (rd (ls ++ tail))

-- ---- the parts of readers

pub got_looks : {A : Type 0} (x : A) → Looks {A = A} (λ ls. Got x ls)
got_looks x = record { ends = all; same = λ ls tail. same_of tail (Got x ls) (Got x (ls ++ tail)) refl }

pub stuck_looks : {A : Type 0} (c : Cause) → Looks {A = A} (λ ls. Stuck c ls)
stuck_looks {A} c = record { ends = all; same = λ ls tail. same_of {A = A} tail (Stuck c ls) (Stuck c (ls ++ tail)) refl }

after_end : {A B : Type 0} (next : A → Reader B) → ((x : A) → Looks (next x)) → (a : Answer A) → IsEnd (left a) (left (after next a))
after_end next looks (Got x rest) = (looks x).ends rest
after_end next looks (Stuck c rest) = all rest

after_same : {A B : Type 0} (next : A → Reader B) → ((x : A) → Looks (next x)) → (tail : List Piece) (a b : Answer A) → Same tail a b → Same tail (after next a) (after next b)
after_same next looks tail (Got x []) b s =
    same_end tail (next x []) (after next b) (nothing_left _ ((looks x).ends [])) (omega (arith, s, shorter _ _ (after_end next looks b)))
after_same next looks tail (Got x (l ∷ rest)) b s = subst (λ z. Same tail (next x (l ∷ rest)) (after next z)) (sym s) ((looks x).same (l ∷ rest) tail)
after_same next looks tail (Stuck c []) b s = omega (arith, s, shorter _ _ (after_end next looks b))
after_same next looks tail (Stuck c (l ∷ rest)) b s = ap (after next) s

pub after_looks : {A B : Type 0} (rd : Reader A) (next : A → Reader B) → Looks rd → ((x : A) → Looks (next x)) → Looks (λ ls. after next (rd ls))
after_looks rd next r looks = record {
  ends = λ ls. further ls (left (rd ls)) (left (after next (rd ls))) (r.ends ls) (after_end next looks (rd ls));
  same = λ ls tail. after_same next looks tail (rd ls) (rd (ls ++ tail)) (r.same ls tail);
}

made_left : {A B : Type 0} (make : A → B) (a : Answer A) → left (made make a) ≡ left a
made_left make (Got x rest) = refl
made_left make (Stuck c rest) = refl

made_same : {A B : Type 0} (make : A → B) (tail : List Piece) (a b : Answer A) → Same tail a b → Same tail (made make a) (made make b)
made_same make tail (Got x []) b s = rw (made_left make b) s
made_same make tail (Got x (l ∷ rest)) b s = ap (made make) s
made_same make tail (Stuck c []) b s = rw (made_left make b) s
made_same make tail (Stuck c (l ∷ rest)) b s = ap (made make) s

pub made_looks : {A B : Type 0} (make : A → B) (rd : Reader A) → Looks rd → Looks (λ ls. made make (rd ls))
made_looks make rd r = record {
  ends = λ ls. subst (IsEnd ls) (sym (made_left make (rd ls))) (r.ends ls);
  same = λ ls tail. made_same make tail (rd ls) (rd (ls ++ tail)) (r.same ls tail);
}

cond_end : {A : Type 0} (b : Bool) (ls : List Piece) (x y : Answer A) → IsEnd ls (left x) → IsEnd ls (left y) → IsEnd ls (left (if b then x else y))
cond_end true ls x y p q = p
cond_end false ls x y p q = q

cond_same : {A : Type 0} (b : Bool) (tail : List Piece) (x y v w : Answer A) → Same tail x v → Same tail y w → Same tail (if b then x else y) (if b then v else w)
cond_same true tail x y v w p q = p
cond_same false tail x y v w p q = q

choice_same : {A : Type 0} (wants : List Want) (r s : Reader A) → Looks r → Looks s → (ls tail : List Piece)
    → Same tail (if starts wants ls then r ls else s ls) (if starts wants (ls ++ tail) then r (ls ++ tail) else s (ls ++ tail))
choice_same wants r s p q [] tail =
    same_end tail (s []) (if starts wants tail then r tail else s tail) (nothing_left _ (q.ends [])) (shorter _ _ (cond_end (starts wants tail) tail _ _ (p.ends tail) (q.ends tail)))
choice_same wants r s p q (l ∷ ls) tail = cond_same (may wants l) tail _ _ _ _ (p.same (l ∷ ls) tail) (q.same (l ∷ ls) tail)

pub choice_looks : {A : Type 0} (wants : List Want) (r s : Reader A) → Looks r → Looks s → Looks (λ ls. if starts wants ls then r ls else s ls)
choice_looks wants r s p q = record {
  ends = λ ls. cond_end (starts wants ls) ls (r ls) (s ls) (p.ends ls) (q.ends ls);
  same = choice_same wants r s p q;
}

one_end : (w : Want) (ls : List Piece) → IsEnd ls (left (one w ls))
one_end w [] = all []
one_end w (l ∷ ls) = cond_end (admits w l) (l ∷ ls) (Got l ls) (Stuck NotGrammar (l ∷ ls)) (record { front = l ∷ []; glued = refl }) (all (l ∷ ls))

one_same : (w : Want) (ls tail : List Piece) → Same tail (one w ls) (one w (ls ++ tail))
one_same w [] tail = shorter _ _ (one_end w tail)
one_same w (l ∷ ls) tail =
    cond_same (admits w l) tail (Got l ls) (Stuck NotGrammar (l ∷ ls)) (Got l (ls ++ tail)) (Stuck NotGrammar (l ∷ (ls ++ tail)))
    (same_of tail (Got l ls) (Got l (ls ++ tail)) refl) (same_of tail (Stuck NotGrammar (l ∷ ls)) (Stuck NotGrammar (l ∷ (ls ++ tail))) refl)

pub one_looks : (w : Want) → Looks (one w)
one_looks w = record { ends = one_end w; same = one_same w }

-- ---- a budget of tokens

abbrev over : {A : Type 0} → ℕ → List Piece → Answer A
over most ls = Stuck TooManyTokens (drop most ls)

at_most_is : {A : Type 0} (most : ℕ) (ls : List Piece) (a : Answer A) → at_most most ls a ≡ (if nat_le (length ls - length (left a)) most then a else over most ls)
at_most_is most ls (Got x rest) = refl
at_most_is most ls (Stuck c rest) = refl

drop_end : (most : ℕ) (ls : List Piece) → IsEnd ls (drop most ls)
drop_end most ls = record { front = take most ls; glued = sym (take-append-drop most ls) }

at_most_end : {A : Type 0} (most : ℕ) (ls : List Piece) (a : Answer A) → IsEnd ls (left a) → IsEnd ls (left (at_most most ls a))
at_most_end most ls a e =
    subst (λ z. IsEnd ls (left z)) (sym (at_most_is most ls a)) (cond_end (nat_le (length ls - length (left a)) most) ls a (over most ls) e (drop_end most ls))

over_same : (A : Type 0) (most : ℕ) (ls tail : List Piece) → most ≤ length ls → Same {A = A} tail (over most ls) (over most (ls ++ tail))
over_same A most ls tail le = same_of {A = A} tail (over most ls) (over most (ls ++ tail)) (ap (λ z. Stuck TooManyTokens z) (drop-append-le most ls tail le))

-- the pieces are all taken, and more of those behind may be
all_same : {A : Type 0} (most : ℕ) (ls tail : List Piece) (a b : Answer A) → left a ≡ [] → length (left b) ≤ length tail
    → Same tail (if nat_le (length ls - length (left a)) most then a else over most ls) (if nat_le (length (ls ++ tail) - length (left b)) most then b else over most (ls ++ tail))
all_same {A} most ls tail a b nil le =
    let none : length (left a) ≡ 0 = ap length nil in
    let size = length-append ls tail in
    elim (nat_le (length ls - length (left a)) most) as (λ (t : Bool). nat_le (length ls - length (left a)) most ≡ t
    → Same tail (if t then a else over most ls) (if nat_le (length (ls ++ tail) - length (left b)) most then b else over most (ls ++ tail))) [
      | true ↦ λ e.
          let few = leb-true (length ls - length (left a)) most e in
          same_end tail a _ nil
          (elim (nat_le (length (ls ++ tail) - length (left b)) most) as (λ (t : Bool). length (left (if t then b else over most (ls ++ tail))) ≤ length tail) [
            | true ↦ le
            | false ↦ omega (arith, length-drop most (ls ++ tail), size, few, none)
          ])
      | false ↦ λ e.
          let many = leb-false (length ls - length (left a)) most e in
          elim (nat_le (length (ls ++ tail) - length (left b)) most) as (λ (t : Bool). nat_le (length (ls ++ tail) - length (left b)) most ≡ t
          → Same tail (over most ls) (if t then b else over most (ls ++ tail))) [
            | true ↦ λ f. absurd (omega (arith, leb-true (length (ls ++ tail) - length (left b)) most f, many, size, le, none))
            | false ↦ λ f. over_same A most ls tail (omega (arith, many, none))
          ] refl
    ] refl

-- a piece is left
some_same : {A : Type 0} (most : ℕ) (ls tail : List Piece) (a : Answer A) → length (left (before tail a)) ≡ length (left a) + length tail
    → Same tail (if nat_le (length ls - length (left a)) most then a else over most ls) (if nat_le (length (ls ++ tail) - length (left (before tail a))) most then before tail a else over most (ls ++ tail))
some_same {A} most ls tail a more =
    let taken : length (ls ++ tail) - length (left (before tail a)) ≡ length ls - length (left a) = omega (arith, length-append ls tail, more) in
    rw taken (elim (nat_le (length ls - length (left a)) most) as (λ (t : Bool). nat_le (length ls - length (left a)) most ≡ t
    → Same tail (if t then a else over most ls) (if t then before tail a else over most (ls ++ tail))) [
      | true ↦ λ e. same_of tail a (before tail a) refl
      | false ↦ λ e. over_same A most ls tail (omega (arith, leb-false (length ls - length (left a)) most e))
    ] refl)

before_left : {A : Type 0} (tail : List Piece) (a : Answer A) → length (left (before tail a)) ≡ length (left a) + length tail
before_left tail (Got x rest) = length-append rest tail
before_left tail (Stuck c rest) = length-append rest tail

budget_same : {A : Type 0} (most : ℕ) (ls tail : List Piece) (a b : Answer A) → Same tail a b
    → Same tail (if nat_le (length ls - length (left a)) most then a else over most ls) (if nat_le (length (ls ++ tail) - length (left b)) most then b else over most (ls ++ tail))
budget_same {A} most ls tail a b s =
    elim (left a) as (λ (z : List Piece). left a ≡ z → SameAt tail z a b
    → Same tail (if nat_le (length ls - length (left a)) most then a else over most ls) (if nat_le (length (ls ++ tail) - length (left b)) most then b else over most (ls ++ tail))) [
      | [] ↦ λ nil le. all_same most ls tail a b nil le
      | l ∷ rest ↦ λ some is. subst (λ z. Same tail (if nat_le (length ls - length (left a)) most then a else over most ls)
          (if nat_le (length (ls ++ tail) - length (left z)) most then z else over most (ls ++ tail))) (sym is) (some_same most ls tail a (before_left tail a))
    ] refl s

at_most_same : {A : Type 0} (most : ℕ) (ls tail : List Piece) (a b : Answer A) → Same tail a b → Same tail (at_most most ls a) (at_most most (ls ++ tail) b)
at_most_same most ls tail a b s = rw (at_most_is most ls a, at_most_is most (ls ++ tail) b) (budget_same most ls tail a b s)

pub at_most_looks : {A : Type 0} (most : ℕ) (rd : Reader A) → Looks rd → Looks (λ ls. at_most most ls (rd ls))
at_most_looks most rd r = record {
  ends = λ ls. at_most_end most ls (rd ls) (r.ends ls);
  same = λ ls tail. at_most_same most ls tail (rd ls) (rd (ls ++ tail)) (r.same ls tail);
}

-- ---- again and again

-- It takes a piece where it reads.
abbrev pub Moves : {A : Type 0} → Reader A → Type 0
Moves {A} rd = (ls : List Piece) (x : A) (rest : List Piece) → rd ls ≡ Got x rest → length rest < length ls

after_only : {A B : Type 0} (f g : A → Reader B) (a : Answer A) → ((x : A) (rest : List Piece) → a ≡ Got x rest → f x rest ≡ g x rest) → after f a ≡ after g a
after_only f g (Got x rest) h = h x rest refl
after_only f g (Stuck c rest) h = refl

pub each_looks : {A : Type 0} (c : Cause) (n : ℕ) (wants : List Want) (rd : Reader A) → Looks rd → Looks (read_each c n wants rd)
unfolding read_each
each_looks c zero wants rd r = choice_looks wants (λ ls. Stuck c ls) (λ ls. Got [] ls) (stuck_looks c) (got_looks [])
each_looks c (suc n) wants rd r =
    choice_looks wants (λ ls. after (λ x rest. made (λ xs. x ∷ xs) (read_each c n wants rd rest)) (rd ls)) (λ ls. Got [] ls)
    (after_looks rd (λ x rest. made (λ xs. x ∷ xs) (read_each c n wants rd rest)) r (λ x. made_looks (λ xs. x ∷ xs) (read_each c n wants rd) (each_looks c n wants rd r))) (got_looks [])

each_next : {A : Type 0} (c : Cause) (n : ℕ) (wants : List Want) (rd : Reader A) → Moves rd → (ls : List Piece) → length ls ≤ n → read_each c (suc n) wants rd ls ≡ read_each c n wants rd ls
unfolding read_each
each_next c zero wants rd m [] le = refl
each_next c zero wants rd m (l ∷ ls) le = absurd (omega (arith, le))
each_next c (suc n) wants rd m ls le =
    ap (λ (z : Answer (List _)). if starts wants ls then z else Got [] ls) (after_only _ _ (rd ls) (λ x rest was.
    ap (made (λ xs. x ∷ xs)) (each_next c n wants rd m rest (omega (arith, m ls x rest was, le)))))

each_fuel : {A : Type 0} (c : Cause) (n k : ℕ) (wants : List Want) (rd : Reader A) → Moves rd → (ls : List Piece) → length ls ≤ n → read_each c (n + k) wants rd ls ≡ read_each c n wants rd ls
each_fuel c n zero wants rd m ls le = ap (λ z. read_each c z wants rd ls) (omega arith)
each_fuel c n (suc k) wants rd m ls le =
    ap (λ z. read_each c z wants rd ls) (add-suc n k) ∙ each_next c (n + k) wants rd m ls (omega (arith, le)) ∙ each_fuel c n k wants rd m ls le

pub any_looks : {A : Type 0} (c : Cause) (wants : List Want) (rd : Reader A) → Moves rd → Looks rd → Looks (λ ls. read_each c (length ls) wants rd ls)
any_looks c wants rd m r = record {
  ends = λ ls. (each_looks c (length ls) wants rd r).ends ls;
  same = λ ls tail.
      let fuel = each_fuel c (length ls) (length tail) wants rd m ls (omega arith) in
      let size = length-append ls tail in
      subst (λ z. Same tail z (read_each c (length (ls ++ tail)) wants rd (ls ++ tail))) (ap (λ z. read_each c z wants rd ls) size ∙ fuel) ((each_looks c (length (ls ++ tail)) wants rd r).same ls tail);
}

-- ---- items behind a token, with an end

pub end_looks : {A B : Type 0} (c : Cause) (n : ℕ) (w : Want) (wants : List Want) (rd : Reader A) (last other : Reader B) → Looks rd → Looks last → Looks other
    → Looks (read_end c n w wants rd last other)
end_looks {A} {B} c zero w wants rd last other r l o =
    let closing : Reader (List A × B) = λ rest. made (λ y. ([], y)) (last rest) in
    let stop : Reader (List A × B) = λ rest. Stuck c rest in
    choice_looks (w ∷ []) (λ ls. after (λ _ rest. if starts wants rest then stop rest else closing rest) (one w ls)) (λ ls. made (λ y. ([], y)) (other ls))
    (after_looks (one w) (λ _ rest. if starts wants rest then stop rest else closing rest) (one_looks w) (λ _. choice_looks wants stop closing (stuck_looks c) (made_looks (λ y. ([], y)) last l)))
    (made_looks (λ y. ([], y)) other o)
end_looks {A} {B} c (suc n) w wants rd last other r l o =
    let closing : Reader (List A × B) = λ rest. made (λ y. ([], y)) (last rest) in
    let more : A → Reader (List A × B) = λ x rest. made (λ v. (x ∷ v.0, v.1)) (read_end c n w wants rd last other rest) in
    let item : Reader (List A × B) = λ rest. after more (rd rest) in
    choice_looks (w ∷ []) (λ ls. after (λ _ rest. if starts wants rest then item rest else closing rest) (one w ls)) (λ ls. made (λ y. ([], y)) (other ls))
    (after_looks (one w) (λ _ rest. if starts wants rest then item rest else closing rest) (one_looks w) (λ _. choice_looks wants item closing
    (after_looks rd more r (λ x. made_looks (λ v. (x ∷ v.0, v.1)) (read_end c n w wants rd last other) (end_looks c n w wants rd last other r l o)))
    (made_looks (λ y. ([], y)) last l)))
    (made_looks (λ y. ([], y)) other o)

one_moves : (w : Want) (ls : List Piece) (x : Piece) (rest : List Piece) → one w ls ≡ Got x rest → length rest < length ls
one_moves w [] x rest e = cc
one_moves w (l ∷ ls) x rest e =
    elim (admits w l) as (λ (b : Bool). (if b then Got l ls else Stuck NotGrammar (l ∷ ls)) ≡ Got x rest → length rest < length (l ∷ ls)) [
      | true ↦ λ e. let same : ls ≡ rest = cc in omega (arith, ap length same)
      | false ↦ λ e. cc
    ] e

got_end : {A : Type 0} (ls : List Piece) (a : Answer A) (x : A) (rest : List Piece) → IsEnd ls (left a) → a ≡ Got x rest → IsEnd ls rest
got_end ls a x rest e was = subst (λ z. IsEnd ls (left z)) was e

end_next : {A B : Type 0} (c : Cause) (n : ℕ) (w : Want) (wants : List Want) (rd : Reader A) (last other : Reader B) → Looks rd → (ls : List Piece) → length ls ≤ n
    → read_end c (suc n) w wants rd last other ls ≡ read_end c n w wants rd last other ls
end_next c zero w wants rd last other r [] le = refl
end_next c zero w wants rd last other r (l ∷ ls) le = absurd (omega (arith, le))
end_next {A} {B} c (suc n) w wants rd last other r ls le =
    ap (λ (z : Answer (List A × B)). if starts (w ∷ []) ls then z else made (λ y. ([], y)) (other ls)) (after_only _ _ (one w ls) (λ x rest was.
    ap (λ (z : Answer (List A × B)). if starts wants rest then z else made (λ y. ([], y)) (last rest)) (after_only _ _ (rd rest) (λ y more read.
    let fewer = one_moves w ls x rest was in
    let end = shorter rest more (got_end rest (rd rest) y more (r.ends rest) read) in
    ap (made (λ v. (y ∷ v.0, v.1))) (end_next c n w wants rd last other r more (omega (arith, fewer, end, le)))))))

end_fuel : {A B : Type 0} (c : Cause) (n k : ℕ) (w : Want) (wants : List Want) (rd : Reader A) (last other : Reader B) → Looks rd → (ls : List Piece) → length ls ≤ n
    → read_end c (n + k) w wants rd last other ls ≡ read_end c n w wants rd last other ls
end_fuel c n zero w wants rd last other r ls le = ap (λ z. read_end c z w wants rd last other ls) (omega arith)
end_fuel c n (suc k) w wants rd last other r ls le =
    ap (λ z. read_end c z w wants rd last other ls) (add-suc n k) ∙ end_next c (n + k) w wants rd last other r ls (omega (arith, le)) ∙ end_fuel c n k w wants rd last other r ls le

pub any_end_looks : {A B : Type 0} (c : Cause) (w : Want) (wants : List Want) (rd : Reader A) (last other : Reader B) → Looks rd → Looks last → Looks other
    → Looks (λ ls. read_end c (length ls) w wants rd last other ls)
any_end_looks c w wants rd last other r l o = record {
  ends = λ ls. (end_looks c (length ls) w wants rd last other r l o).ends ls;
  same = λ ls tail.
      let fuel = end_fuel c (length ls) (length tail) w wants rd last other r ls (omega arith) in
      let size = length-append ls tail in
      subst (λ z. Same tail z (read_end c (length (ls ++ tail)) w wants rd last other (ls ++ tail))) (ap (λ z. read_end c z w wants rd last other ls) size ∙ fuel)
      ((end_looks c (length (ls ++ tail)) w wants rd last other r l o).same ls tail);
}

-- ---- the first pieces of a list

before_nothing : {A : Type 0} (a : Answer A) → before [] a ≡ a
before_nothing (Got x rest) = ap (λ z. Got x z) (append-nil rest)
before_nothing (Stuck c rest) = ap (λ z. Stuck c z) (append-nil rest)

some_left : {A : Type 0} (most : ℕ) (ls : List Piece) (a : Answer A) → suc most ≤ length ls → left (at_most most ls a) ≡ [] → ⊥
some_left {A} most ls a le none =
    elim (nat_le (length ls - length (left a)) most) as (λ (t : Bool). nat_le (length ls - length (left a)) most ≡ t → left (if t then a else over most ls) ≡ [] → ⊥) [
      | true ↦ λ e nil. omega (arith, leb-true (length ls - length (left a)) most e, ap length nil, le)
      | false ↦ λ e nil. omega (arith, length-drop most ls, ap length nil, le)
    ] refl (subst (λ z. left z ≡ []) (at_most_is most ls a) none)

window_same : {A : Type 0} (most : ℕ) (ls tail : List Piece) (a b : Answer A) → suc most ≤ length ls → Same tail (at_most most ls a) b → b ≡ before tail (at_most most ls a)
window_same {A} most ls tail a b le s =
    elim (left (at_most most ls a)) as (λ (z : List Piece). left (at_most most ls a) ≡ z → SameAt tail z (at_most most ls a) b → b ≡ before tail (at_most most ls a))
    [ [] ↦ λ nil h. absurd (some_left most ls a le nil) | l ∷ rest ↦ λ some h. h ] refl s

-- what is read of at most so many pieces, read in a window of one more
pub window : {A : Type 0} (most : ℕ) (rd : Reader A) → Looks rd → (ls : List Piece)
    → at_most most ls (rd ls) ≡ before (drop (suc most) ls) (at_most most (take (suc most) ls) (rd (take (suc most) ls)))
window {A} most rd r ls =
    let whole = take-append-drop (suc most) ls in
    elim (nat_le (length ls) (suc most)) as (λ (t : Bool). nat_le (length ls) (suc most) ≡ t
    → at_most most ls (rd ls) ≡ before (drop (suc most) ls) (at_most most (take (suc most) ls) (rd (take (suc most) ls)))) [
      | true ↦ λ e.
          let few : length ls ≤ suc most = leb-true (length ls) (suc most) e in
          let all_of : take (suc most) ls ≡ ls = take_all (suc most) ls few in
          let none : drop (suc most) ls ≡ [] = drop_all (suc most) ls few in
          rw (all_of, none) (sym (before_nothing (at_most most ls (rd ls))))
      | false ↦ λ e.
          let many = leb-false (length ls) (suc most) e in
          let size = length-take-le (suc most) ls (omega (arith, many)) in
          window_same most (take (suc most) ls) (drop (suc most) ls) (rd (take (suc most) ls)) (at_most most ls (rd ls)) (omega (arith, size))
          (subst (λ z. Same (drop (suc most) ls) (at_most most (take (suc most) ls) (rd (take (suc most) ls))) (at_most most z (rd z))) whole
          ((at_most_looks most rd r).same (take (suc most) ls) (drop (suc most) ls)))
    ] refl
