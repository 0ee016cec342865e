-- What a loop makes of the elements that it reads behind tokens, and of what ends them.
use Rattle.std.proofs.Common.{◌≡◌, ℕ, zero, suc, ◌+◌, ◌-◌, ◌<◌, ◌≤◌, List, [], ◌∷◌, length, refl, ◌∙◌, ap, arith, Bool, true, false, Result, Err}
use Rattle.std.specs.Prelude.{if◌then◌else◌}
use Rattle.std.specs.List.{fold}
use Rattle.text_ast.specs.Pieces.{Piece}
use Rattle.text_tree.specs.Forms.{Want, Cause, NotGrammar}
use Rattle.text_grammar.specs.Reading.{Answer, Got, Stuck, Reader, after, made, one, starts, read_end}
use Rattle.text_syntax.specs.declared.stop.Stop.{Stop}
use Rattle.text_syntax.specs.Reads.{Reads}
use Rattle.text_syntax.proofs.Folds.{made_made}

-- elements behind a token, what is made of them with an end, the tokens that begin an element, and the readers
pub record Chain (T A B U : Type 0) : Type 0 where
  pub op : T → A → T
  pub finish : T → B → U
  pub behind : Want
  pub wants : List Want
  pub element : Reader A
  pub last : Reader B
  pub other : Reader B

abbrev pub end_of : {T A B U : Type 0} → Chain T A B U → T → List A × B → U
end_of k x v = k.finish (fold k.op x v.0) v.1

-- what is read so far is x, and so many more may be read
unfoldable pub chained : {T A B U : Type 0} → Chain T A B U → ℕ → T → List Piece → Answer U
chained k n x ls = made (end_of k x) (read_end NotGrammar n k.behind k.wants k.element k.last k.other ls)

-- when no more may be read
abbrev pub finished : {T A B U : Type 0} → Chain T A B U → T → List Piece → Answer U
finished k x ls =
    if starts (k.behind ∷ []) ls then after (λ _ rest. if starts k.wants rest then Stuck NotGrammar rest else made (k.finish x) (k.last rest)) (one k.behind ls)
    else made (k.finish x) (k.other ls)

pub chained_begin : {T A B U : Type 0} (k : Chain T A B U) (x : T) (ls : List Piece)
    → made (end_of k x) (read_end NotGrammar (length ls) k.behind k.wants k.element k.last k.other ls) ≡ chained k (length ls - 0) x ls
unfolding chained
chained_begin k x ls =
    let turns : length ls ≡ length ls - 0 = omega arith in
    ap (λ n. made (end_of k x) (read_end NotGrammar n k.behind k.wants k.element k.last k.other ls)) turns

chained_other : {T A B U : Type 0} (k : Chain T A B U) (n : ℕ) (x : T) (ls : List Piece)
    → starts (k.behind ∷ []) ls ≡ false → chained k n x ls ≡ made (k.finish x) (k.other ls)
unfolding chained
chained_other k zero x ls e = rw e (made_made (end_of k x) (λ y. ([], y)) (k.other ls))
chained_other k (suc n) x ls e = rw e (made_made (end_of k x) (λ y. ([], y)) (k.other ls))

chained_last : {T A B U : Type 0} (k : Chain T A B U) (n : ℕ) (x : T) (l : Piece) (ls rest : List Piece)
    → starts (k.behind ∷ []) ls ≡ true → one k.behind ls ≡ Got l rest → starts k.wants rest ≡ false
    → chained k n x ls ≡ made (k.finish x) (k.last rest)
unfolding chained
chained_last k zero x l ls rest e one_is none = rw (e, one_is, none) (made_made (end_of k x) (λ y. ([], y)) (k.last rest))
chained_last k (suc n) x l ls rest e one_is none = rw (e, one_is, none) (made_made (end_of k x) (λ y. ([], y)) (k.last rest))

chained_more : {T A B U : Type 0} (k : Chain T A B U) (n : ℕ) (x y : T) (l : Piece) (ls rest more : List Piece)
    → starts (k.behind ∷ []) ls ≡ true → one k.behind ls ≡ Got l rest → starts k.wants rest ≡ true
    → made (k.op x) (k.element rest) ≡ Got y more → chained k (suc n) x ls ≡ chained k n y more
unfolding chained
chained_more {T} {A} {B} {U} k n x y l ls rest more e one_is some was = rw (e, one_is, some) (go (k.element rest) was)
  where
    go : (a : Answer A) → made (k.op x) a ≡ Got y more
        → made (end_of k x) (after (λ z left. made (λ v. (z ∷ v.0, v.1)) (read_end NotGrammar n k.behind k.wants k.element k.last k.other left)) a)
        ≡ made (end_of k y) (read_end NotGrammar n k.behind k.wants k.element k.last k.other more)
    go (Got z left) h =
        let is : k.op x z ≡ y = cc in
        let same : left ≡ more = cc in
        made_made (end_of k x) (λ (v : List A × B). (z ∷ v.0, v.1)) (read_end NotGrammar n k.behind k.wants k.element k.last k.other left)
        ∙ ap (λ (w : T). made (end_of k w) (read_end NotGrammar n k.behind k.wants k.element k.last k.other left)) is
        ∙ ap (λ (w : List Piece). made (end_of k y) (read_end NotGrammar n k.behind k.wants k.element k.last k.other w)) same
    go (Stuck c left) h = absurd (cc)

chained_stuck : {T A B U : Type 0} (k : Chain T A B U) (n : ℕ) (x : T) (c : Cause) (l : Piece) (ls rest more : List Piece)
    → starts (k.behind ∷ []) ls ≡ true → one k.behind ls ≡ Got l rest → starts k.wants rest ≡ true
    → made (k.op x) (k.element rest) ≡ Stuck c more → chained k (suc n) x ls ≡ Stuck c more
unfolding chained
chained_stuck {T} {A} {B} {U} k n x c l ls rest more e one_is some was = rw (e, one_is, some) (go (k.element rest) was)
  where
    go : (a : Answer A) → made (k.op x) a ≡ Stuck c more
        → made (end_of k x) (after (λ z left. made (λ v. (z ∷ v.0, v.1)) (read_end NotGrammar n k.behind k.wants k.element k.last k.other left)) a) ≡ Stuck c more
    go (Got z left) h = absurd (cc)
    go (Stuck d left) h = let same : d ≡ c = cc in let rests : left ≡ more = cc in rw (same, rests) refl

chained_full : {T A B U : Type 0} (k : Chain T A B U) (x : T) (ls : List Piece) → chained k zero x ls ≡ finished k x ls
unfolding chained
chained_full {T} {A} {B} {U} k x ls = by_sign (starts (k.behind ∷ []) ls)
  where
    by_wants : (rest : List Piece) (b : Bool)
        → made (end_of k x) (if b then Stuck NotGrammar rest else made (λ y. ([], y)) (k.last rest)) ≡ if b then Stuck NotGrammar rest else made (k.finish x) (k.last rest)
    by_wants rest true = refl
    by_wants rest false = made_made (end_of k x) (λ y. ([], y)) (k.last rest)

    by_one : (a : Answer Piece)
        → made (end_of k x) (after (λ _ rest. if starts k.wants rest then Stuck NotGrammar rest else made (λ y. ([], y)) (k.last rest)) a)
        ≡ after (λ _ rest. if starts k.wants rest then Stuck NotGrammar rest else made (k.finish x) (k.last rest)) a
    by_one (Got l rest) = by_wants rest (starts k.wants rest)
    by_one (Stuck c rest) = refl

    by_sign : (b : Bool)
        → made (end_of k x) (if b then after (λ _ rest. if starts k.wants rest then Stuck NotGrammar rest else made (λ y. ([], y)) (k.last rest)) (one k.behind ls) else made (λ y. ([], y)) (k.other ls))
        ≡ if b then after (λ _ rest. if starts k.wants rest then Stuck NotGrammar rest else made (k.finish x) (k.last rest)) (one k.behind ls) else made (k.finish x) (k.other ls)
    by_sign true = by_one (one k.behind ls)
    by_sign false = made_made (end_of k x) (λ y. ([], y)) (k.other ls)

-- ---- a loop over at most so many turns, of which `at` are done

pub chain_other : {T A B U : Type 0} {answer : Answer U} (k : Chain T A B U) (n : ℕ) (x : T) (ls : List Piece)
    → answer ≡ chained k n x ls → starts (k.behind ∷ []) ls ≡ false → answer ≡ made (k.finish x) (k.other ls)
chain_other k n x ls so e = so ∙ chained_other k n x ls e

-- the sign is taken
pub record IsTaken (w : Want) (ls rest : List Piece) : Type 0 where
  pub piece : Piece
  pub begins : starts (w ∷ []) ls ≡ true
  pub one_is : one w ls ≡ Got piece rest

pub chain_last : {T A B U : Type 0} {answer : Answer U} (k : Chain T A B U) (n : ℕ) (x : T) (ls rest : List Piece)
    → answer ≡ chained k n x ls → IsTaken k.behind ls rest → starts k.wants rest ≡ false → answer ≡ made (k.finish x) (k.last rest)
chain_last k n x ls rest so taken none = so ∙ chained_last k n x taken.piece ls rest taken.begins taken.one_is none

one_turn : {T A B U : Type 0} {answer : Answer U} (k : Chain T A B U) (n at : ℕ) (x : T) (ls : List Piece)
    → at < n → answer ≡ chained k (n - at) x ls → answer ≡ chained k (suc (n - (at + 1))) x ls
one_turn k n at x ls below so = let turn : n - at ≡ suc (n - (at + 1)) = omega arith in so ∙ ap (λ m. chained k m x ls) turn

pub chain_more : {T A B U : Type 0} {answer : Answer U} (k : Chain T A B U) (n at : ℕ) (x y : T) (ls rest more : List Piece)
    → at < n → answer ≡ chained k (n - at) x ls → IsTaken k.behind ls rest → starts k.wants rest ≡ true
    → made (k.op x) (k.element rest) ≡ Got y more → answer ≡ chained k (n - (at + 1)) y more
chain_more k n at x y ls rest more below so taken some was =
    one_turn k n at x ls below so ∙ chained_more k (n - (at + 1)) x y taken.piece ls rest more taken.begins taken.one_is some was

pub chain_stuck : {T A B U : Type 0} {answer : Answer U} (k : Chain T A B U) (n at : ℕ) (x : T) (ls rest more : List Piece) (stop : Stop)
    → at < n → answer ≡ chained k (n - at) x ls → IsTaken k.behind ls rest → starts k.wants rest ≡ true
    → Reads (made (k.op x) (k.element rest)) (Err stop) more → Reads answer (Err stop) more
chain_stuck k n at x ls rest more stop below so taken some was c h =
    one_turn k n at x ls below so ∙ chained_stuck k (n - (at + 1)) x c taken.piece ls rest more taken.begins taken.one_is some (was c h)

pub chain_over : {T A B U : Type 0} {answer : Answer U} (k : Chain T A B U) (n at : ℕ) (x : T) (ls rest : List Piece) (result : Result U Stop)
    → n ≤ at → answer ≡ chained k (n - at) x ls → Reads (finished k x ls) result rest → Reads answer result rest
chain_over k n at x ls rest result done so was =
    let none : n - at ≡ 0 = omega arith in
    rw (so ∙ ap (λ m. chained k m x ls) none ∙ chained_full k x ls) was
