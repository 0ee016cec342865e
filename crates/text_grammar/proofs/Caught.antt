-- Where a limit is broken, the reader of a form stops there, or before.
use Rattle.std.proofs.Common.{◌≡◌, ◌⊎◌, inl, inr, List, [], ◌∷◌, ◌++◌, refl, ap, sym, ◌∙◌, subst, append_assoc, append-nil, Bool, true, false}
use Rattle.std.specs.Prelude.{if◌then◌else◌}
use Rattle.text_ast.specs.Pieces.{Piece}
use Rattle.text_tree.specs.Forms.{Want, Cause, ◌then◌}
use Rattle.text_grammar.specs.Reading.{starts, Answer, Got, Stuck, Reader, after, made}
use Rattle.text_grammar.proofs.Lists.{compare, Quiet, no_back, Apart, apart_false}
use Rattle.text_grammar.proofs.Shapes.{Shape, BeginsBoth, quiet}
use Rattle.text_grammar.proofs.Agrees.{Agrees, BreaksBoth}
use Rattle.text_grammar.specs.Causes.{GoesFirst}

-- The answer is a cause that goes before this one.
pub record Caught {A : Type 0} (ans : Answer A) (c : Cause) (rest : List Piece) : Type 0 where
  pub cause : Cause
  pub stop : List Piece
  pub is : ans ≡ Stuck cause stop
  pub first : GoesFirst cause stop c rest

-- What breaks a limit begins the form, and the reader is stopped there.
pub record Catches {A : Type 0} (Be : List Piece → Type 0) (Br : Cause → List Piece → Type 0) (rd : Reader A) : Type 0 where
  pub begins : (c : Cause) (ls : List Piece) → Br c ls → Be ls
  pub full : (c : Cause) (ls : List Piece) → Br c ls → ls ≡ [] → ⊥
  pub caught : (c : Cause) (a : List Piece) (l : Piece) (more : List Piece) → Br c (a ++ l ∷ []) → Caught (rd (a ++ l ∷ more)) c (l ∷ more)

pub caught_is : {A : Type 0} {ans other : Answer A} {c : Cause} {rest : List Piece} → ans ≡ other → Caught other c rest → Caught ans c rest
caught_is e k = record { cause = k.cause; stop = k.stop; is = e ∙ k.is; first = k.first }

pub caught_here : {A : Type 0} {ans : Answer A} {c : Cause} {rest : List Piece} → ans ≡ Stuck c rest → Caught ans c rest
caught_here {A} {ans} {c} {rest} e = record { cause = c; stop = rest; is = e; first = inr (refl, inr refl) }

pub caught_after : {A B : Type 0} (next : A → Reader B) {ans : Answer A} {c : Cause} {rest : List Piece} → Caught ans c rest → Caught (after next ans) c rest
caught_after next k = record { cause = k.cause; stop = k.stop; is = ap (after next) k.is; first = k.first }

pub caught_made : {A B : Type 0} (make : A → B) {ans : Answer A} {c : Cause} {rest : List Piece} → Caught ans c rest → Caught (made make ans) c rest
caught_made make k = record { cause = k.cause; stop = k.stop; is = ap (made make) k.is; first = k.first }

-- ---- the last piece of a list

-- The last piece of the list is the last of its back.
pub record Last (a : List Piece) (l : Piece) (p q : List Piece) : Type 0 where
  pub front : List Piece
  pub back : q ≡ front ++ l ∷ []
  pub whole : a ≡ p ++ front

last_in : (a p q m : List Piece) (l : Piece) → p ≡ a ++ m → l ∷ [] ≡ m ++ q → (q ≡ [] → ⊥) → Last a l p q
last_in a p q [] l e f full = record { front = []; back = sym f; whole = (let nil : a ++ [] ≡ a = append-nil a in sym (e ∙ nil) ∙ sym (append-nil p)) }
last_in a p q (x ∷ m) l e f full = absurd (full (no_back m q (let tails : [] ≡ m ++ q = cc in sym tails)))

pub last_of : (a : List Piece) (l : Piece) (p q : List Piece) → a ++ l ∷ [] ≡ p ++ q → (q ≡ [] → ⊥) → Last a l p q
last_of a l p q e full =
    elim (compare a (l ∷ []) p q e) [
      | inl g ↦ last_in a p q g.more l g.longer g.rest full
      | inr g ↦ record { front = g.more; back = g.rest; whole = g.longer }
    ]

-- the same list with more behind the last piece
pub last_more : {a : List Piece} {l : Piece} {p q : List Piece} (k : Last a l p q) (more : List Piece) → a ++ l ∷ more ≡ p ++ (k.front ++ l ∷ more)
last_more {a} {l} {p} {q} k more = ap (λ z. z ++ l ∷ more) k.whole ∙ append_assoc p k.front (l ∷ more)

pub quiet_more : (wants : List Want) (a : List Piece) (l : Piece) (more : List Piece) → Quiet wants (a ++ l ∷ []) → Quiet wants (a ++ l ∷ more)
quiet_more wants [] l more q = q
quiet_more wants (x ∷ a) l more q = q

pub starts_more : (wants : List Want) (a : List Piece) (l : Piece) (more : List Piece) (b : Bool) → starts wants (a ++ l ∷ []) ≡ b → starts wants (a ++ l ∷ more) ≡ b
starts_more wants [] l more b e = e
starts_more wants (x ∷ a) l more b e = e

pub begun_starts : {A : Type 0} {Sp : A → List Piece → Type 0} {Be : List Piece → Type 0} {firsts mores : List Want} {emp : Bool} → Shape Sp Be firsts mores emp
    → (ls : List Piece) → Be ls → (ls ≡ [] → ⊥) → starts firsts ls ≡ true
begun_starts s [] be full = absurd (full refl)
begun_starts s (l ∷ ls) be full = s.first l ls be

pub apart_starts : (us vs : List Want) → Apart us vs → (ls : List Piece) → starts vs ls ≡ true → starts us ls ≡ false
apart_starts us vs apart [] e = refl
apart_starts us vs apart (l ∷ ls) e = apart_false us vs apart l e

-- ---- two forms, and a choice

pub both_catches : {A B : Type 0} {Sf Ff : A → List Piece → Type 0} {Bf : List Piece → Type 0} {Rf : Cause → List Piece → Type 0} {mf : List Want}
    {Fg : B → List Piece → Type 0} {Bg : List Piece → Type 0} {Rg : Cause → List Piece → Type 0} {fg mg : List Want} {eg : Bool}
    → Shape Fg Bg fg mg eg → Apart mf fg → {rf : Reader A} {rg : Reader B}
    → Agrees Sf Ff Bf Rf rf mf → Catches Bf Rf rf → Catches Bg Rg rg
    → Catches {A = A × B} (BeginsBoth Ff Bf Bg) (BreaksBoth Sf Rf Rg) (λ ls. after (λ x rest. made (λ y. (x, y)) (rg rest)) (rf ls))
both_catches {A} {B} {Sf} {Ff} {Bf} {Rf} {mf} {Fg} {Bg} {Rg} {fg} {mg} {eg} g apart {rf} {rg} af cf cg = record {
  begins = λ c ls h. elim h [
    | inl b ↦ inl (cf.begins c ls b)
    | inr b ↦ let (x, (p, q, e, sp, r)) = b in inr (x, (p, q, e, af.free x p sp, cg.begins c q r))
  ];
  full = λ c ls h nil. elim h [
    | inl b ↦ cf.full c ls b nil
    | inr b ↦ let (x, (p, q, e, sp, r)) = b in cg.full c q r (no_back p q (sym e ∙ nil))
  ];
  caught = λ c a l more h. elim h [
    | inl b ↦ caught_after (λ x rest. made (λ y. (x, y)) (rg rest)) (cf.caught c a l more b)
    | inr b ↦
        let (x, (p, q, e, sp, r)) = b in
        let k = last_of a l p q e (cg.full c q r) in
        let back : List Piece = k.front ++ l ∷ more in
        let still : Quiet mf back = quiet_more mf k.front l more (subst (Quiet mf) k.back (quiet g mf apart q (cg.begins c q r))) in
        let reads : rf (a ++ l ∷ more) ≡ Got x back = ap rf (last_more k more) ∙ af.complete x p back sp still in
        let one : after (λ x rest. made (λ y. (x, y)) (rg rest)) (rf (a ++ l ∷ more)) ≡ made (λ y. (x, y)) (rg back) = ap (after (λ x rest. made (λ y. (x, y)) (rg rest))) reads in
        caught_is one (caught_made (λ y. (x, y)) (cg.caught c k.front l more (subst (Rg c) k.back r)))
  ];
}

pub either_catches : {A : Type 0} {Ff : A → List Piece → Type 0} {Bf : List Piece → Type 0} {Rf : Cause → List Piece → Type 0} {ff mf : List Want} {ef : Bool}
    {Fg : A → List Piece → Type 0} {Bg : List Piece → Type 0} {Rg : Cause → List Piece → Type 0} {fg mg : List Want} {eg : Bool}
    → Shape Ff Bf ff mf ef → Shape Fg Bg fg mg eg → Apart ff fg → {rf rg : Reader A} → Catches Bf Rf rf → Catches Bg Rg rg
    → Catches (λ ls. Bf ls ⊎ Bg ls) (λ c ls. Rf c ls ⊎ Rg c ls) (λ ls. if starts ff ls then rf ls else rg ls)
either_catches {A} {Ff} {Bf} {Rf} {ff} {mf} {ef} {Fg} {Bg} {Rg} {fg} f g apart {rf} {rg} cf cg = record {
  begins = λ c ls h. elim h [ inl b ↦ inl (cf.begins c ls b) | inr b ↦ inr (cg.begins c ls b) ];
  full = λ c ls h nil. elim h [ inl b ↦ cf.full c ls b nil | inr b ↦ cg.full c ls b nil ];
  caught = λ c a l more h.
      let whole : List Piece = a ++ l ∷ more in
      elim h [
        | inl b ↦
            let test : starts ff whole ≡ true = starts_more ff a l more true (begun_starts f (a ++ l ∷ []) (cf.begins c (a ++ l ∷ []) b) (cf.full c (a ++ l ∷ []) b)) in
            caught_is (ap (λ (t : Bool). if t then rf whole else rg whole) test) (cf.caught c a l more b)
        | inr b ↦
            let seen : starts fg (a ++ l ∷ []) ≡ true = begun_starts g (a ++ l ∷ []) (cg.begins c (a ++ l ∷ []) b) (cg.full c (a ++ l ∷ []) b) in
            let test : starts ff whole ≡ false = starts_more ff a l more false (apart_starts ff fg apart (a ++ l ∷ []) seen) in
            caught_is (ap (λ (t : Bool). if t then rf whole else rg whole) test) (cg.caught c a l more b)
      ];
}

-- ---- nothing, one token, and what is made of a form

pub no_catches : {A : Type 0} (Be : List Piece → Type 0) (rd : Reader A) → Catches Be (λ c ls. ⊥) rd
no_catches Be rd = record { begins = λ c ls h. absurd h; full = λ c ls h nil. h; caught = λ c a l more h. absurd h }

pub mapped_catches : {A B : Type 0} (make : A → B) {Be : List Piece → Type 0} {Br : Cause → List Piece → Type 0} {rd : Reader A} → Catches Be Br rd
    → Catches Be Br (λ ls. made make (rd ls))
mapped_catches make k = record { begins = k.begins; full = k.full; caught = λ c a l more h. caught_made make (k.caught c a l more h) }
