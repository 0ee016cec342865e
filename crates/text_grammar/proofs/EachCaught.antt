-- Where a form that stands again and again breaks a limit, its reader stops there, or before.
use Rattle.std.proofs.Common.{◌≡◌, inl, inr, ℕ, List, [], ◌∷◌, ◌++◌, ◌≤◌, ◌+◌, ◌-◌, suc, zero, length, arith, length-append, refl, ap, sym, ◌∙◌, subst, append_assoc, Bool, true, false}
use Rattle.std.specs.Prelude.{if◌then◌else◌}
use Rattle.text_ast.specs.Pieces.{Piece}
use Rattle.text_tree.specs.Forms.{Want, Cause, SpellsEach, ◌then◌, Times, AnyNumber, AtMost, AreWithin, IsFull}
use Rattle.text_grammar.specs.Reading.{starts, Answer, Got, Stuck, Reader, after, made, read_each, excess, turns}
use Rattle.text_grammar.proofs.Lists.{Quiet, no_back, Apart, headed, true_false}
use Rattle.text_grammar.proofs.Shapes.{Shape, BeginsEach, quiet, each_shape}
use Rattle.text_grammar.proofs.Agrees.{Agrees}
use Rattle.text_grammar.proofs.EachAgrees.{BrEach}
use Rattle.text_grammar.proofs.Caught.{Caught, Catches, caught_is, caught_here, caught_after, caught_made, last_of, last_more, quiet_more, starts_more, begun_starts}

pub free_each : {A : Type 0} (Sf Ff : A → List Piece → Type 0) → ((x : A) (a : List Piece) → Sf x a → Ff x a) → (xs : List A) (a : List Piece) → SpellsEach Sf xs a → SpellsEach Ff xs a
free_each Sf Ff free [] a h = h
free_each Sf Ff free (x ∷ xs) a (p, q, e, sp, sq) = (p, q, e, free x p sp, free_each Sf Ff free xs q sq)

-- there are no more items than pieces
each_size : {A : Type 0} (Ff : A → List Piece → Type 0) {Bf : List Piece → Type 0} {ff mf : List Want} {ef : Bool}
    → Shape Ff Bf ff mf ef → ef ≡ false → (xs : List A) (a : List Piece) → SpellsEach Ff xs a → length xs ≤ length a
each_size Ff f full [] a h = omega arith
each_size Ff f full (x ∷ xs) a (p, q, e, sp, sq) =
    let below = each_size Ff f full xs q sq in
    elim (headed p) [
      | inl nil ↦ absurd (true_false (f.fills x (subst (Ff x) nil sp)) full)
      | inr hd ↦ let one : length p ≡ suc (length hd.tail) = ap length hd.is in omega (arith, one, ap length e, length-append p q, below)
    ]

pub full_piece : (ls : List Piece) → length ls ≡ 1 → ls ≡ [] → ⊥
full_piece ls e nil = let none : length ls ≡ 0 = ap length nil in omega (arith, e, none)

-- a form and what is read behind it
pub step_on : {A : Type 0} (e : Cause) (n : ℕ) (ff : List Want) (rf : Reader A) (ls : List Piece) → starts ff ls ≡ true
    → read_each e (suc n) ff rf ls ≡ after (λ x rest. made (λ xs. x ∷ xs) (read_each e n ff rf rest)) (rf ls)
unfolding read_each
step_on {A} e n ff rf ls t =
    ap (λ (b : Bool). if b then after {A = A} {B = List A} (λ x rest. made (λ xs. x ∷ xs) (read_each e n ff rf rest)) (rf ls) else Got [] ls) t

-- no more items
pub step_off : {A : Type 0} (e : Cause) (n : ℕ) (ff : List Want) (rf : Reader A) (ls : List Piece) → starts ff ls ≡ false → read_each e n ff rf ls ≡ Got [] ls
unfolding read_each
step_off {A} e zero ff rf ls t = let at : Bool → Answer (List A) = λ b. if b then Stuck e ls else Got [] ls in ap at t
step_off {A} e (suc n) ff rf ls t =
    ap (λ (b : Bool). if b then after {A = A} {B = List A} (λ x rest. made (λ xs. x ∷ xs) (read_each e n ff rf rest)) (rf ls) else Got [] ls) t

pub step_over : {A : Type 0} (e : Cause) (ff : List Want) (rf : Reader A) (ls : List Piece) → starts ff ls ≡ true → read_each e 0 ff rf ls ≡ Stuck e ls
unfolding read_each
step_over {A} e ff rf ls t = let at : Bool → Answer (List A) = λ b. if b then Stuck e ls else Got [] ls in ap at t

-- The items are read, and the reader is caught behind them.
items_caught : {A : Type 0} (e : Cause) (n k : ℕ) (Sf Ff : A → List Piece → Type 0) {Bf : List Piece → Type 0} {ff mf : List Want} {ef : Bool}
    → Shape Ff Bf ff mf ef → ef ≡ false → Apart mf ff → ((x : A) (a : List Piece) → Sf x a → Ff x a) → (rf : Reader A)
    → ((x : A) (a rest : List Piece) → Sf x a → Quiet mf rest → rf (a ++ rest) ≡ Got x rest)
    → (xs : List A) (a p q : List Piece) (l : Piece) (more : List Piece) (c : Cause) → n ≡ length xs + k → a ++ l ∷ [] ≡ p ++ q → SpellsEach Sf xs p → Bf q → (q ≡ [] → ⊥)
    → ((b : List Piece) → q ≡ b ++ l ∷ [] → Caught (read_each e k ff rf (b ++ l ∷ more)) c (l ∷ more)) → Caught (read_each e n ff rf (a ++ l ∷ more)) c (l ∷ more)
items_caught {A} e n k Sf Ff {Bf} {ff} {mf} f empty apart free rf cf [] a p q l more c size is sp bq full next =
    let whole : q ≡ a ++ l ∷ [] = ap (λ z. z ++ q) (sym sp) ∙ sym is in
    let same : n ≡ k = omega (arith, size) in
    subst (λ z. Caught (read_each e z ff rf (a ++ l ∷ more)) c (l ∷ more)) (sym same) (next a whole)
items_caught e zero k Sf Ff f empty apart free rf cf (x ∷ xs) a p q l more c size is sp bq full next = absurd (omega (arith, size))
items_caught {A} e (suc n) k Sf Ff {Bf} {ff} {mf} {ef} f empty apart free rf cf (x ∷ xs) a p q l more c size is (p1, p2, e1, sx, sxs) bq full next =
    let begins : BeginsEach Ff Bf (p2 ++ q) = (xs, (p2, q, refl, free_each Sf Ff free xs p2 sxs, bq)) in
    let all : a ++ l ∷ [] ≡ p1 ++ (p2 ++ q) = is ∙ ap (λ z. z ++ q) e1 ∙ append_assoc p1 p2 q in
    let k1 = last_of a l p1 (p2 ++ q) all (λ nil. full (no_back p2 q nil)) in
    let back : List Piece = k1.front ++ l ∷ more in
    let still : Quiet mf back = quiet_more mf k1.front l more (subst (Quiet mf) k1.back (quiet (each_shape f empty apart) mf apart (p2 ++ q) begins)) in
    let reads : rf (a ++ l ∷ more) ≡ Got x back = ap rf (last_more k1 more) ∙ cf x p1 back sx still in
    let begun : Bf p1 = f.begun x p1 (free x p1 sx) in
    let first : starts ff (a ++ l ∷ more) ≡ true = elim (headed p1) [
      | inl nil ↦ absurd (true_false (f.fills x (subst (Ff x) nil (free x p1 sx))) empty)
      | inr hd ↦ ap (starts ff) (last_more k1 more ∙ ap (λ z. z ++ back) hd.is) ∙ f.first hd.head hd.tail (subst Bf hd.is begun)
    ] in
    let fewer : n ≡ length xs + k = omega (arith, size) in
    let rest = items_caught e n k Sf Ff f empty apart free rf cf xs k1.front p2 q l more c fewer (sym k1.back) sxs bq full next in
    let on : A → Reader (List A) = λ x rest. made (λ xs. x ∷ xs) (read_each e n ff rf rest) in
    caught_is (step_on e n ff rf (a ++ l ∷ more) first ∙ ap (after on) reads) (caught_made (λ xs. x ∷ xs) rest)

inside_caught : {A : Type 0} (e : Cause) (k : ℕ) {Ff : A → List Piece → Type 0} {Bf : List Piece → Type 0} {Rf : Cause → List Piece → Type 0} {ff mf : List Want} {ef : Bool}
    → Shape Ff Bf ff mf ef → {rf : Reader A} → Catches Bf Rf rf → (b : List Piece) (l : Piece) (more : List Piece) (c : Cause) → Rf c (b ++ l ∷ [])
    → Caught (read_each e (suc k) ff rf (b ++ l ∷ more)) c (l ∷ more)
inside_caught {A} e k {Ff} {Bf} {Rf} {ff} f {rf} cf b l more c h =
    let first : starts ff (b ++ l ∷ more) ≡ true = starts_more ff b l more true (begun_starts f (b ++ l ∷ []) (cf.begins c (b ++ l ∷ []) h) (cf.full c (b ++ l ∷ []) h)) in
    caught_is (step_on e k ff rf (b ++ l ∷ more) first) (caught_after (λ x rest. made (λ xs. x ∷ xs) (read_each e k ff rf rest)) (cf.caught c b l more h))

over_caught : {A : Type 0} (e : Cause) {Ff : A → List Piece → Type 0} {Bf : List Piece → Type 0} {ff mf : List Want} {ef : Bool}
    → Shape Ff Bf ff mf ef → (rf : Reader A) → (b : List Piece) (l : Piece) (more : List Piece) → Bf (b ++ l ∷ []) → length (b ++ l ∷ []) ≡ 1
    → Caught (read_each e 0 ff rf (b ++ l ∷ more)) e (l ∷ more)
over_caught e {Ff} {Bf} {ff} f rf [] l more be size = caught_here (step_over e ff rf (l ∷ more) (f.first l [] be))
over_caught e f rf (x ∷ b) l more be size = absurd (omega (arith, size, length-append b (l ∷ [])))

-- ---- how many turns there are

pub record More (n k : ℕ) : Type 0 where
  pub extra : ℕ
  pub is : n ≡ k + suc extra

pub more_than : (n k : ℕ) → suc k ≤ n → More n k
more_than n k le = record { extra = n - suc k; is = omega (arith, le) }

pub turns_left : (times : Times) (count : ℕ) (ls : List Piece) → suc count ≤ length ls → AreWithin times (suc count) → suc count ≤ turns times ls
turns_left AnyNumber count ls le w = le
turns_left (AtMost most cause) count ls le w = w

pub turns_full : (times : Times) (count : ℕ) (c : Cause) (ls : List Piece) → IsFull times count c → (turns times ls ≡ count) × (excess times ≡ c)
turns_full AnyNumber count c ls h = absurd h
turns_full (AtMost most cause) count c ls h = (sym h.0, sym h.1)

pub each_catches : {A : Type 0} (times : Times) {Sf Ff : A → List Piece → Type 0} {Bf : List Piece → Type 0} {Rf : Cause → List Piece → Type 0} {ff mf : List Want} {ef : Bool}
    → Shape Ff Bf ff mf ef → ef ≡ false → Apart mf ff → {rf : Reader A} → Agrees Sf Ff Bf Rf rf mf → Catches Bf Rf rf
    → Catches {A = List A} (BeginsEach Ff Bf) (BrEach times Sf Bf Rf) (λ ls. read_each (excess times) (turns times ls) ff rf ls)
each_catches {A} times {Sf} {Ff} {Bf} {Rf} {ff} {mf} {ef} f empty apart {rf} af cf = record {
  begins = λ c ls h.
      let (xs, h1) = h in
      elim h1 [
        | inl b ↦ let ((p, q, e, sp, r), w) = b in (xs, (p, q, e, free_each Sf Ff af.free xs p sp, cf.begins c q r))
        | inr b ↦ let ((p, q, e, sp, r), w) = b in (xs, (p, q, e, free_each Sf Ff af.free xs p sp, r.1))
      ];
  full = λ c ls h nil.
      let (xs, h1) = h in
      elim h1 [
        | inl b ↦ let ((p, q, e, sp, r), w) = b in cf.full c q r (no_back p q (sym e ∙ nil))
        | inr b ↦ let ((p, q, e, sp, r), w) = b in full_piece q r.0 (no_back p q (sym e ∙ nil))
      ];
  caught = λ c a l more h.
      let whole : List Piece = a ++ l ∷ more in
      let (xs, h1) = h in
      elim h1 [
        | inl b ↦
            let ((p, q, e, sp, r), w) = b in
            let few : length xs ≤ length p = each_size Ff f empty xs p (free_each Sf Ff af.free xs p sp) in
            let k = last_of a l p q e (cf.full c q r) in
            let room : suc (length xs) ≤ length whole =
            omega (arith, few, ap length (last_more k more), length-append p (k.front ++ l ∷ more), length-append k.front (l ∷ more)) in
            let left = more_than (turns times whole) (length xs) (turns_left times (length xs) whole room w) in
            items_caught (excess times) (turns times whole) (suc left.extra) Sf Ff f empty apart af.free rf af.complete xs a p q l more c left.is e sp (cf.begins c q r) (cf.full c q r)
            (λ back is. inside_caught (excess times) left.extra f cf back l more c (subst (Rf c) is r))
        | inr b ↦
            let ((p, q, e, sp, r), w) = b in
            let all = turns_full times (length xs) c whole w in
            items_caught (excess times) (turns times whole) 0 Sf Ff f empty apart af.free rf af.complete xs a p q l more c (omega (arith, all.0)) e sp r.1 (full_piece q r.0)
            (λ back is. subst (λ z. Caught (read_each (excess times) 0 ff rf (back ++ l ∷ more)) z (l ∷ more)) all.1
            (over_caught (excess times) f rf back l more (subst Bf is r.1) (ap length (sym is) ∙ r.0)))
      ];
}
