-- What a loop makes of the elements that it reads one after another.
use Rattle.std.proofs.Common.{◌≡◌, ℕ, zero, suc, ◌+◌, ◌-◌, ◌<◌, ◌≤◌, List, [], ◌∷◌, ◌++◌, append_assoc, append-nil, length, refl, sym, ◌∙◌, ap, arith, Bool, true, false, Result, Err}
use Rattle.std.specs.Prelude.{if◌then◌else◌}
use Rattle.std.specs.List.{fold}
use Rattle.text_ast.specs.Pieces.{Piece}
use Rattle.text_tree.specs.Forms.{Want, Cause, NotGrammar}
use Rattle.text_grammar.specs.Reading.{Answer, Got, Stuck, Reader, after, made, starts, read_each}
use Rattle.text_syntax.specs.declared.stop.Stop.{Stop}
use Rattle.text_syntax.specs.Reads.{Reads}

pub made_made : {A B C : Type 0} (f : B → C) (g : A → B) (a : Answer A) → made f (made g a) ≡ made (λ x. f (g x)) a
made_made f g (Got x rest) = refl
made_made f g (Stuck c rest) = refl

-- what is read so far is x, and so many more may be read
unfoldable pub folded : {T A : Type 0} → (T → A → T) → List Want → Reader A → ℕ → T → List Piece → Answer T
folded op wants r n x ls = made (fold op x) (read_each NotGrammar n wants r ls)

pub folded_begin : {T A : Type 0} (op : T → A → T) (wants : List Want) (r : Reader A) (x : T) (ls : List Piece)
    → made (fold op x) (read_each NotGrammar (length ls) wants r ls) ≡ folded op wants r (length ls - 0) x ls
unfolding folded
folded_begin op wants r x ls =
    let turns : length ls ≡ length ls - 0 = omega arith in
    ap (λ n. made (fold op x) (read_each NotGrammar n wants r ls)) turns

folded_none : {T A : Type 0} (op : T → A → T) (wants : List Want) (r : Reader A) (n : ℕ) (x : T) (ls : List Piece)
    → starts wants ls ≡ false → folded op wants r n x ls ≡ Got x ls
unfolding read_each folded
folded_none op wants r zero x ls e = rw e refl
folded_none op wants r (suc n) x ls e = rw e refl

folded_full : {T A : Type 0} (op : T → A → T) (wants : List Want) (r : Reader A) (x : T) (ls : List Piece)
    → folded op wants r zero x ls ≡ if starts wants ls then Stuck NotGrammar ls else Got x ls
unfolding read_each folded
folded_full {T} op wants r x ls = go (starts wants ls)
  where
    go : (b : Bool) → made (fold op x) (if b then Stuck NotGrammar ls else Got [] ls) ≡ if b then Stuck NotGrammar ls else Got x ls
    go true = refl
    go false = refl

folded_more : {T A : Type 0} (op : T → A → T) (wants : List Want) (r : Reader A) (n : ℕ) (x y : T) (ls rest : List Piece)
    → starts wants ls ≡ true → made (op x) (r ls) ≡ Got y rest → folded op wants r (suc n) x ls ≡ folded op wants r n y rest
unfolding read_each folded
folded_more {T} {A} op wants r n x y ls rest e was = rw e (go (r ls) was)
  where
    go : (a : Answer A) → made (op x) a ≡ Got y rest
        → made (fold op x) (after (λ z more. made (λ zs. z ∷ zs) (read_each NotGrammar n wants r more)) a) ≡ made (fold op y) (read_each NotGrammar n wants r rest)
    go (Got z more) h =
        let one : op x z ≡ y = cc in
        let left : more ≡ rest = cc in
        made_made (fold op x) (λ zs. z ∷ zs) (read_each NotGrammar n wants r more) ∙ rw (one, left) refl
    go (Stuck c more) h = absurd (cc)

folded_stuck : {T A : Type 0} (op : T → A → T) (wants : List Want) (r : Reader A) (n : ℕ) (x : T) (c : Cause) (ls rest : List Piece)
    → starts wants ls ≡ true → made (op x) (r ls) ≡ Stuck c rest → folded op wants r (suc n) x ls ≡ Stuck c rest
unfolding read_each folded
folded_stuck {T} {A} op wants r n x c ls rest e was = rw e (go (r ls) was)
  where
    go : (a : Answer A) → made (op x) a ≡ Stuck c rest
        → made (fold op x) (after (λ z more. made (λ zs. z ∷ zs) (read_each NotGrammar n wants r more)) a) ≡ Stuck c rest
    go (Got z more) h = absurd (cc)
    go (Stuck d more) h = let same : d ≡ c = cc in let left : more ≡ rest = cc in rw (same, left) refl

-- ---- a loop over at most so many turns, of which `at` are done

pub turn_none : {T A : Type 0} {answer : Answer T} (op : T → A → T) (wants : List Want) (r : Reader A) (n : ℕ) (x : T) (ls : List Piece)
    → answer ≡ folded op wants r n x ls → starts wants ls ≡ false → answer ≡ Got x ls
turn_none op wants r n x ls so e = so ∙ folded_none op wants r n x ls e

one_turn : {T A : Type 0} {answer : Answer T} (op : T → A → T) (wants : List Want) (r : Reader A) (n at : ℕ) (x : T) (ls : List Piece)
    → at < n → answer ≡ folded op wants r (n - at) x ls → answer ≡ folded op wants r (suc (n - (at + 1))) x ls
one_turn op wants r n at x ls below so =
    let turn : n - at ≡ suc (n - (at + 1)) = omega arith in so ∙ ap (λ k. folded op wants r k x ls) turn

pub turn_more : {T A : Type 0} {answer : Answer T} (op : T → A → T) (wants : List Want) (r : Reader A) (n at : ℕ) (x y : T) (ls rest : List Piece)
    → at < n → answer ≡ folded op wants r (n - at) x ls → starts wants ls ≡ true → made (op x) (r ls) ≡ Got y rest
    → answer ≡ folded op wants r (n - (at + 1)) y rest
turn_more op wants r n at x y ls rest below so e was =
    one_turn op wants r n at x ls below so ∙ folded_more op wants r (n - (at + 1)) x y ls rest e was

pub turn_stuck : {T A : Type 0} {answer : Answer T} (op : T → A → T) (wants : List Want) (r : Reader A) (n at : ℕ) (x : T) (ls rest : List Piece) (stop : Stop)
    → at < n → answer ≡ folded op wants r (n - at) x ls → starts wants ls ≡ true → Reads (made (op x) (r ls)) (Err stop) rest
    → Reads answer (Err stop) rest
turn_stuck op wants r n at x ls rest stop below so e was c h =
    one_turn op wants r n at x ls below so ∙ folded_stuck op wants r (n - (at + 1)) x c ls rest e (was c h)

pub turns_over : {T A : Type 0} {answer : Answer T} (op : T → A → T) (wants : List Want) (r : Reader A) (n at : ℕ) (x : T) (ls rest : List Piece) (result : Result T Stop)
    → n ≤ at → answer ≡ folded op wants r (n - at) x ls → Reads (if starts wants ls then Stuck NotGrammar ls else Got x ls) result rest
    → Reads answer result rest
turns_over op wants r n at x ls rest result done so was =
    let none : n - at ≡ 0 = omega arith in
    rw (so ∙ ap (λ k. folded op wants r k x ls) none ∙ folded_full op wants r x ls) was

-- ---- lists

pushes : {A : Type 0} (xs ys : List A) → fold (λ zs z. zs ++ z ∷ []) xs ys ≡ xs ++ ys
pushes xs [] = sym (append-nil xs)
pushes xs (y ∷ ys) = pushes (xs ++ y ∷ []) ys ∙ append_assoc xs (y ∷ []) ys

pub cons_folded : {A : Type 0} (x : A) (a : Answer (List A))
    → made (λ (v : A × List A). v.0 ∷ v.1) (made (λ ys. (x, ys)) a) ≡ made (fold (λ zs z. zs ++ z ∷ []) (x ∷ [])) a
cons_folded x (Got ys rest) = ap (λ zs. Got zs rest) (sym (pushes (x ∷ []) ys))
cons_folded x (Stuck c rest) = refl
