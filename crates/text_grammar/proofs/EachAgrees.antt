-- The reader of a form that stands again and again agrees with it.
use Rattle.std.proofs.Common.{◌≡◌, ◌⊎◌, inl, inr, ℕ, List, [], ◌∷◌, ◌++◌, ◌≤◌, suc, zero, length, arith, length-append, refl, ap, sym, ◌∙◌, subst, append_assoc, Bool, true, false}
use Rattle.std.specs.Prelude.{if◌then◌else◌}
use Rattle.text_ast.specs.Pieces.{Piece}
use Rattle.text_tree.specs.Forms.{Want, SpellsEach, ◌then◌, Times, AnyNumber, AtMost, AreWithin, IsFull, Cause, NotGrammar, TooDeep, TooManyTokens, TooManyStatics, TooManyModels, TooManyFields, TooManyCommands, may}
use Rattle.text_grammar.specs.Reading.{starts, Answer, Got, Stuck, Reader, after, made, read_each, excess, turns}
use Rattle.text_grammar.proofs.Lists.{Quiet, true_false, Apart, apart_false, headed}
use Rattle.text_grammar.proofs.Shapes.{Shape, SpellsBoth, BeginsBoth, BeginsEach, each_shape}
use Rattle.text_grammar.proofs.Agrees.{Blocked, IsRead, IsBroken, Sound, Agrees, relay, BreaksBoth, both_sound, quiet_left, quiet_right, quiet_starts}

-- a cause that only a limit gives
abbrev pub IsLimit : Cause → Type 0
IsLimit NotGrammar = ⊥
IsLimit TooDeep = Unit {0}
IsLimit TooManyTokens = Unit {0}
IsLimit TooManyStatics = Unit {0}
IsLimit TooManyModels = Unit {0}
IsLimit TooManyFields = Unit {0}
IsLimit TooManyCommands = Unit {0}

pub broken_sound : {A : Type 0} (Sp Fr : A → List Piece → Type 0) (Be : List Piece → Type 0) (Br : Cause → List Piece → Type 0) (ls : List Piece) (c : Cause) (rest : List Piece)
    → IsLimit c → IsBroken Be (Br c) ls rest → Sound Sp Fr Be Br ls (Stuck c rest)
broken_sound Sp Fr Be Br ls NotGrammar rest l b = absurd l
broken_sound Sp Fr Be Br ls TooDeep rest l b = b
broken_sound Sp Fr Be Br ls TooManyTokens rest l b = b
broken_sound Sp Fr Be Br ls TooManyStatics rest l b = b
broken_sound Sp Fr Be Br ls TooManyModels rest l b = b
broken_sound Sp Fr Be Br ls TooManyFields rest l b = b
broken_sound Sp Fr Be Br ls TooManyCommands rest l b = b

-- the limit of the times has a cause that is one
abbrev pub HasLimit : Times → Type 0
HasLimit AnyNumber = Unit {0}
HasLimit (AtMost most cause) = IsLimit cause

-- so many times are left
abbrev pub left : Times → ℕ → Times
left AnyNumber n = AnyNumber
left (AtMost most cause) n = AtMost n cause

-- as many turns as there may be items
abbrev pub Fuel : Times → ℕ → List Piece → Type 0
Fuel AnyNumber n ls = length ls ≤ n
Fuel (AtMost most cause) n ls = Unit {0}

pub within_zero : (times : Times) (n : ℕ) → AreWithin (left times n) 0
within_zero AnyNumber n = tt
within_zero (AtMost most cause) n = omega arith

pub within_one : (times : Times) (n : ℕ) → AreWithin (left times (suc n)) 1
within_one AnyNumber n = tt
within_one (AtMost most cause) n = omega arith

pub within_more : (times : Times) (n k : ℕ) → AreWithin (left times n) k → AreWithin (left times (suc n)) (suc k)
within_more AnyNumber n k h = tt
within_more (AtMost most cause) n k h = omega arith

pub full_more : (times : Times) (n k : ℕ) (c : Cause) → IsFull (left times n) k c → IsFull (left times (suc n)) (suc k) c
full_more AnyNumber n k c h = h
full_more (AtMost most cause) n k c h = (ap suc h.0, h.1)

abbrev pub SpEach : {A : Type 0} → Times → (A → List Piece → Type 0) → List A → List Piece → Type 0
SpEach times Sf xs ls = SpellsEach Sf xs ls × AreWithin times (length xs)

abbrev pub FrEach : {A : Type 0} → (A → List Piece → Type 0) → List A → List Piece → Type 0
FrEach Ff xs ls = SpellsEach Ff xs ls × Unit {0}

abbrev pub BrEach : {A : Type 0} → Times → (A → List Piece → Type 0) → (List Piece → Type 0) → (Cause → List Piece → Type 0) → Cause → List Piece → Type 0
BrEach {A} times Sf Bf Rf c ls =
    (xs : List A)
    × (((SpellsEach Sf xs then Rf c) ls × AreWithin times (suc (length xs)))
    ⊎ ((SpellsEach Sf xs then (λ last. (length last ≡ 1) × Bf last)) ls × IsFull times (length xs) c))

unroll : {A : Type 0} (Ff : A → List Piece → Type 0) (Bf : List Piece → Type 0) (ls : List Piece) → BeginsEach Ff Bf ls → BeginsBoth Ff Bf (BeginsEach Ff Bf) ls
unroll Ff Bf ls ([], (p, q, e, sp, bq)) = inl (subst Bf (sym (e ∙ ap (λ z. z ++ q) sp)) bq)
unroll Ff Bf ls (x ∷ xs, (p, q, e, (c, d, e1, sc, sd), bq)) =
    inr (x, (c, d ++ q, e ∙ ap (λ z. z ++ q) e1 ∙ append_assoc c d q, sc, (xs, (d, q, refl, sd, bq))))

roll : {A : Type 0} (Ff : A → List Piece → Type 0) (Bf : List Piece → Type 0) (ls : List Piece) → BeginsBoth Ff Bf (BeginsEach Ff Bf) ls → BeginsEach Ff Bf ls
roll Ff Bf ls (inl b) = ([], ([], ls, refl, refl, b))
roll Ff Bf ls (inr (x, (c, d, e, sc, (xs, (p, q, e2, sp, bq))))) =
    (x ∷ xs, (c ++ p, q, e ∙ ap (λ z. c ++ z) e2 ∙ sym (append_assoc c p q), (c, p, refl, sc, sp), bq))

roll_blocked : {A : Type 0} (Ff : A → List Piece → Type 0) (Bf : List Piece → Type 0) (a rest : List Piece)
    → Blocked (BeginsBoth Ff Bf (BeginsEach Ff Bf)) a rest → Blocked (BeginsEach Ff Bf) a rest
roll_blocked Ff Bf a [] b = tt
roll_blocked Ff Bf a (l ∷ rest) b = λ h. b (unroll Ff Bf (a ++ l ∷ []) h)

none_each : {A : Type 0} (Ff : A → List Piece → Type 0) (Bf : List Piece → Type 0) (l : Piece) (ls rest front : List Piece) → Bf (l ∷ []) → l ∷ ls ≡ front ++ rest
    → Blocked (BeginsBoth Ff Bf (BeginsEach Ff Bf)) front rest → ((y : A × List A) → SpellsBoth Ff (FrEach Ff) y front → ⊥) → (xs : List A) → FrEach Ff xs front → ⊥
none_each Ff Bf l ls rest front able e b none [] h =
    let whole : l ∷ ls ≡ rest = e ∙ ap (λ z. z ++ rest) h.0 in
    let shut : BeginsBoth Ff Bf (BeginsEach Ff Bf) (front ++ l ∷ []) → ⊥ = subst (Blocked (BeginsBoth Ff Bf (BeginsEach Ff Bf)) front) (sym whole) b in
    shut (inl (subst (λ z. Bf (z ++ l ∷ [])) (sym h.0) able))
none_each Ff Bf l ls rest front able e b none (x ∷ xs) ((p, q, e1, sp, sq), u) = none (x, xs) (p, q, e1, sp, (sq, tt))

breaks_more : {A : Type 0} (times : Times) (n : ℕ) (Sf : A → List Piece → Type 0) (Bf : List Piece → Type 0) (Rf : Cause → List Piece → Type 0) (c : Cause) (ls : List Piece)
    → BreaksBoth Sf Rf (BrEach (left times n) Sf Bf Rf) c ls → BrEach (left times (suc n)) Sf Bf Rf c ls
breaks_more times n Sf Bf Rf c ls (inl r) = ([], inl (([], ls, refl, refl, r), within_one times n))
breaks_more times n Sf Bf Rf c ls (inr (x, (p, q, e, sp, (xs, inl ((p2, q2, e2, sp2, r), w))))) =
    (x ∷ xs, inl ((p ++ p2, q2, e ∙ ap (λ z. p ++ z) e2 ∙ sym (append_assoc p p2 q2), (p, p2, refl, sp, sp2), r), within_more times n (suc (length xs)) w))
breaks_more times n Sf Bf Rf c ls (inr (x, (p, q, e, sp, (xs, inr ((p2, q2, e2, sp2, r), w))))) =
    (x ∷ xs, inr ((p ++ p2, q2, e ∙ ap (λ z. p ++ z) e2 ∙ sym (append_assoc p p2 q2), (p, p2, refl, sp, sp2), r), full_more times n (length xs) c w))

each_made : {A : Type 0} (times : Times) (n : ℕ) (Sf Ff : A → List Piece → Type 0) (Bf : List Piece → Type 0) (Rf : Cause → List Piece → Type 0) (l : Piece) (ls : List Piece)
    → Bf (l ∷ []) → (ans : Answer (A × List A))
    → Sound (SpellsBoth Sf (SpEach (left times n) Sf)) (SpellsBoth Ff (FrEach Ff)) (BeginsBoth Ff Bf (BeginsEach Ff Bf)) (BreaksBoth Sf Rf (BrEach (left times n) Sf Bf Rf)) (l ∷ ls) ans
    → Sound (SpEach (left times (suc n)) Sf) (FrEach Ff) (BeginsEach Ff Bf) (BrEach (left times (suc n)) Sf Bf Rf) (l ∷ ls) (made (λ v. v.0 ∷ v.1) ans)
each_made times n Sf Ff Bf Rf l ls able (Got v rest) s =
    let (p, q, e, sp, sq) = s.spelled in
    record {
      front = s.front;
      glued = s.glued;
      spelled = ((p, q, e, sp, sq.0), within_more times n (length v.1) sq.1);
      blocked = roll_blocked Ff Bf s.front rest s.blocked;
    }
each_made times n Sf Ff Bf Rf l ls able (Stuck c rest) s =
    relay (SpellsBoth Sf (SpEach (left times n) Sf)) (SpellsBoth Ff (FrEach Ff)) (BeginsBoth Ff Bf (BeginsEach Ff Bf)) (BreaksBoth Sf Rf (BrEach (left times n) Sf Bf Rf)) (l ∷ ls)
    (SpEach (left times (suc n)) Sf) (FrEach Ff) (BeginsEach Ff Bf) (BrEach (left times (suc n)) Sf Bf Rf) (l ∷ ls) c rest
    (λ s. record {
      front = s.front;
      glued = s.glued;
      begun = roll Ff Bf s.front s.begun;
      none = none_each Ff Bf l ls rest s.front able s.glued s.blocked s.none;
      blocked = roll_blocked Ff Bf s.front rest s.blocked;
    })
    (λ s. record {
      front = s.front;
      last = s.last;
      more = s.more;
      glued = s.glued;
      stands = s.stands;
      begun = roll Ff Bf s.front s.begun;
      breaks = breaks_more times n Sf Bf Rf c (s.front ++ s.last ∷ []) s.breaks;
    }) s

cons_made : {A : Type 0} (ans : Answer A) (rg : Reader (List A))
    → made (λ (v : A × List A). v.0 ∷ v.1) (after (λ x rest. made (λ xs. (x, xs)) (rg rest)) ans) ≡ after (λ x rest. made (λ xs. x ∷ xs) (rg rest)) ans
cons_made (Stuck c rest) rg = refl
cons_made {A} (Got x rest) rg =
    elim (rg rest) as (λ (z : Answer (List A)). made (λ (v : A × List A). v.0 ∷ v.1) (made (λ xs. (x, xs)) z) ≡ made (λ xs. x ∷ xs) z) [ Got xs end ↦ refl | Stuck c end ↦ refl ]

abbrev Each : {A : Type 0} → Times → ℕ → (Sf Ff : A → List Piece → Type 0) → (Bf : List Piece → Type 0) → (Rf : Cause → List Piece → Type 0) → List Piece → Answer (List A) → Type 0
Each times n Sf Ff Bf Rf = Sound (SpEach (left times n) Sf) (FrEach Ff) (BeginsEach Ff Bf) (BrEach (left times n) Sf Bf Rf)

stop_blocked : {A : Type 0} {Ff : A → List Piece → Type 0} {Bf : List Piece → Type 0} {ff mf : List Want} {ef : Bool}
    → Shape Ff Bf ff mf ef → ef ≡ false → Apart mf ff → (ls : List Piece) → starts ff ls ≡ false → Blocked (BeginsEach Ff Bf) [] ls
stop_blocked f full apart [] e = tt
stop_blocked f full apart (l ∷ ls) e = λ be. true_false ((each_shape f full apart).first l [] be) e

full_sound : {A : Type 0} (times : Times) (Sf Ff : A → List Piece → Type 0) {Bf : List Piece → Type 0} (Rf : Cause → List Piece → Type 0) {ff mf : List Want} {ef : Bool}
    → Shape Ff Bf ff mf ef → HasLimit times → (l : Piece) (ls : List Piece) → Fuel times 0 (l ∷ ls) → may ff l ≡ true
    → Each times 0 Sf Ff Bf Rf (l ∷ ls) (Stuck (excess times) (l ∷ ls))
full_sound AnyNumber Sf Ff Rf f limit l ls fuel e = absurd (omega (arith, fuel))
full_sound (AtMost most cause) Sf Ff {Bf} Rf f limit l ls fuel e =
    broken_sound (SpEach (AtMost 0 cause) Sf) (FrEach Ff) (BeginsEach Ff Bf) (BrEach (AtMost 0 cause) Sf Bf Rf) (l ∷ ls) cause (l ∷ ls) limit (record {
      front = [];
      last = l;
      more = ls;
      glued = refl;
      stands = refl;
      begun = ([], ([], [], refl, refl, f.opens));
      breaks = ([], inr (([], l ∷ [], refl, refl, (refl, f.able l e)), (refl, refl)));
    })

fuel_less : {A : Type 0} (times : Times) (n : ℕ) {Sf Ff : A → List Piece → Type 0} {Bf : List Piece → Type 0} {ff mf : List Want} {ef : Bool}
    → Shape Ff Bf ff mf ef → ef ≡ false → ((x : A) (a : List Piece) → Sf x a → Ff x a) → (ls : List Piece) (x : A) (rest : List Piece) → Fuel times (suc n) ls
    → IsRead Sf Bf ls rest x → Fuel times n rest
fuel_less AnyNumber n {Sf} {Ff} f full free ls x rest fuel r =
    elim (headed r.front) [
      | inl nil ↦ absurd (true_false (f.fills x (subst (Ff x) nil (free x r.front r.spelled))) full)
      | inr hd ↦
          let all : ls ≡ hd.head ∷ (hd.tail ++ rest) = r.glued ∙ ap (λ z. z ++ rest) hd.is in
          let size : length ls ≡ suc (length (hd.tail ++ rest)) = ap length all in
          omega (arith, size, length-append hd.tail rest, fuel)
    ]
fuel_less (AtMost most cause) n f full free ls x rest fuel r = tt

each_sound : {A : Type 0} (times : Times) (n : ℕ) (Sf Ff : A → List Piece → Type 0) {Bf : List Piece → Type 0} (Rf : Cause → List Piece → Type 0) {ff mf : List Want} {ef : Bool}
    → Shape Ff Bf ff mf ef → ef ≡ false → Apart mf ff → HasLimit times → ((x : A) (a : List Piece) → Sf x a → Ff x a) → (rf : Reader A)
    → ((ls : List Piece) → Sound Sf Ff Bf Rf ls (rf ls)) → (ls : List Piece) → Fuel times n ls → Each times n Sf Ff Bf Rf ls (read_each (excess times) n ff rf ls)
unfolding read_each
each_sound times zero Sf Ff {Bf} Rf {ff} f full apart limit free rf sf [] fuel =
    record { front = []; glued = refl; spelled = (refl, within_zero times 0); blocked = tt }
each_sound times zero Sf Ff {Bf} Rf {ff} f full apart limit free rf sf (l ∷ ls) fuel =
    elim (may ff l) as (λ (b : Bool). may ff l ≡ b → Each times 0 Sf Ff Bf Rf (l ∷ ls) (if b then Stuck (excess times) (l ∷ ls) else Got [] (l ∷ ls))) [
      | true ↦ λ e. full_sound times Sf Ff Rf f limit l ls fuel e
      | false ↦ λ e. record { front = []; glued = refl; spelled = (refl, within_zero times 0); blocked = stop_blocked f full apart (l ∷ ls) e }
    ] refl
each_sound times (suc n) Sf Ff {Bf} Rf {ff} f full apart limit free rf sf [] fuel =
    record { front = []; glued = refl; spelled = (refl, within_zero times (suc n)); blocked = tt }
each_sound times (suc n) Sf Ff {Bf} Rf {ff} f full apart limit free rf sf (l ∷ ls) fuel =
    let rg = read_each (excess times) n ff rf in
    elim (may ff l) as (λ (b : Bool). may ff l ≡ b → Each times (suc n) Sf Ff Bf Rf (l ∷ ls)
    (if b then after (λ x rest. made (λ xs. x ∷ xs) (read_each (excess times) n ff rf rest)) (rf (l ∷ ls)) else Got [] (l ∷ ls))) [
      | true ↦ λ e.
          let pair = both_sound Rf (SpEach (left times n) Sf) (BrEach (left times n) Sf Bf Rf) f (each_shape f full apart) apart free rg (l ∷ ls)
          (λ x rest r. each_sound times n Sf Ff Rf f full apart limit free rf sf rest (fuel_less times n f full free (l ∷ ls) x rest fuel r)) (rf (l ∷ ls)) (sf (l ∷ ls)) in
          subst (Each times (suc n) Sf Ff Bf Rf (l ∷ ls)) (cons_made (rf (l ∷ ls)) rg) (each_made times n Sf Ff Bf Rf l ls (f.able l e) _ pair)
      | false ↦ λ e. record { front = []; glued = refl; spelled = (refl, within_zero times (suc n)); blocked = stop_blocked f full apart (l ∷ ls) e }
    ] refl

free_each : {A : Type 0} (Sf Ff : A → List Piece → Type 0) → ((x : A) (a : List Piece) → Sf x a → Ff x a) → (xs : List A) (a : List Piece) → SpellsEach Sf xs a → SpellsEach Ff xs a
free_each Sf Ff free [] a h = h
free_each Sf Ff free (x ∷ xs) a (p, q, e, sp, sq) = (p, q, e, free x p sp, free_each Sf Ff free xs q sq)

-- what follows an item is quiet for it
rest_still : {A : Type 0} (Sf Ff : A → List Piece → Type 0) {Bf : List Piece → Type 0} {ff mf : List Want} {ef : Bool}
    → Shape Ff Bf ff mf ef → ef ≡ false → Apart mf ff → ((x : A) (a : List Piece) → Sf x a → Ff x a)
    → (xs : List A) (q rest : List Piece) → SpellsEach Sf xs q → Quiet (ff ++ mf) rest → Quiet mf (q ++ rest)
rest_still Sf Ff {Bf} {ff} {mf} f full apart free xs q rest sq still =
    let e = each_shape f full apart in
    elim (headed q) [
      | inl nil ↦ subst (λ z. Quiet mf (z ++ rest)) (sym nil) (quiet_right ff mf rest still)
      | inr hd ↦
          let begun : BeginsEach Ff Bf q = e.begun xs q (free_each Sf Ff free xs q sq, tt) in
          subst (λ z. Quiet mf (z ++ rest)) (sym hd.is) (apart_false mf ff apart hd.head (e.first hd.head hd.tail (subst (BeginsEach Ff Bf) hd.is begun)))
    ]

-- there are no more items than pieces
no_more : {A : Type 0} (Ff : A → List Piece → Type 0) {Bf : List Piece → Type 0} {ff mf : List Want} {ef : Bool}
    → Shape Ff Bf ff mf ef → ef ≡ false → (xs : List A) (a : List Piece) → SpellsEach Ff xs a → length xs ≤ length a
no_more Ff f full [] a h = omega arith
no_more Ff f full (x ∷ xs) a (p, q, e, sp, sq) =
    let below = no_more Ff f full xs q sq in
    elim (headed p) [
      | inl nil ↦ absurd (true_false (f.fills x (subst (Ff x) nil sp)) full)
      | inr hd ↦ let one : length p ≡ suc (length hd.tail) = ap length hd.is in omega (arith, one, ap length e, length-append p q, below)
    ]

each_complete : {A : Type 0} (c : Cause) (n : ℕ) (Sf Ff : A → List Piece → Type 0) {Bf : List Piece → Type 0} {ff mf : List Want} {ef : Bool}
    → Shape Ff Bf ff mf ef → ef ≡ false → Apart mf ff → ((x : A) (a : List Piece) → Sf x a → Ff x a) → (rf : Reader A)
    → ((x : A) (a rest : List Piece) → Sf x a → Quiet mf rest → rf (a ++ rest) ≡ Got x rest)
    → (xs : List A) (a rest : List Piece) → SpellsEach Sf xs a → length xs ≤ n → Quiet (ff ++ mf) rest → read_each c n ff rf (a ++ rest) ≡ Got xs rest
unfolding read_each
each_complete {A} c zero Sf Ff {Bf} {ff} {mf} f full apart free rf cf [] a rest sp le still =
    let test : starts ff (a ++ rest) ≡ false = ap (λ z. starts ff (z ++ rest)) sp ∙ quiet_starts ff rest (quiet_left ff mf rest still) in
    ap (λ (b : Bool). if b then Stuck c (a ++ rest) else Got [] (a ++ rest)) test ∙ (let at : List Piece → Answer (List A) = λ z. Got [] (z ++ rest) in ap at sp)
each_complete {A} c (suc n) Sf Ff {Bf} {ff} {mf} f full apart free rf cf [] a rest sp le still =
    let test : starts ff (a ++ rest) ≡ false = ap (λ z. starts ff (z ++ rest)) sp ∙ quiet_starts ff rest (quiet_left ff mf rest still) in
    ap (λ (b : Bool). if b then after (λ x rest. made (λ xs. x ∷ xs) (read_each c n ff rf rest)) (rf (a ++ rest)) else Got [] (a ++ rest)) test
    ∙ (let at : List Piece → Answer (List A) = λ z. Got [] (z ++ rest) in ap at sp)
each_complete c zero Sf Ff f full apart free rf cf (x ∷ xs) a rest sp le still = absurd (omega (arith, le))
each_complete {A} c (suc n) Sf Ff {Bf} {ff} {mf} f full apart free rf cf (x ∷ xs) a rest (p, q, e, sp, sq) le still =
    let whole : a ++ rest ≡ p ++ (q ++ rest) = ap (λ z. z ++ rest) e ∙ append_assoc p q rest in
    let begun : Bf p = f.begun x p (free x p sp) in
    let test : starts ff (a ++ rest) ≡ true = elim (headed p) [
      | inl nil ↦ absurd (true_false (f.fills x (subst (Ff x) nil (free x p sp))) full)
      | inr hd ↦ ap (starts ff) (whole ∙ ap (λ z. z ++ (q ++ rest)) hd.is) ∙ f.first hd.head hd.tail (subst Bf hd.is begun)
    ] in
    let still_f : Quiet mf (q ++ rest) = rest_still Sf Ff f full apart free xs q rest sq still in
    let one : rf (a ++ rest) ≡ Got x (q ++ rest) = ap rf whole ∙ cf x p (q ++ rest) sp still_f in
    let fewer : length xs ≤ n = omega (arith, le) in
    let two : read_each c n ff rf (q ++ rest) ≡ Got xs rest = each_complete c n Sf Ff f full apart free rf cf xs q rest sq fewer still in
    ap (λ (b : Bool). if b then after (λ x rest. made (λ xs. x ∷ xs) (read_each c n ff rf rest)) (rf (a ++ rest)) else Got [] (a ++ rest)) test
    ∙ ap (after (λ x rest. made (λ xs. x ∷ xs) (read_each c n ff rf rest))) one ∙ ap (made (λ xs. x ∷ xs)) two

enough : {A : Type 0} (times : Times) (Sf Ff : A → List Piece → Type 0) {Bf : List Piece → Type 0} {ff mf : List Want} {ef : Bool}
    → Shape Ff Bf ff mf ef → ef ≡ false → ((x : A) (a : List Piece) → Sf x a → Ff x a) → (xs : List A) (a rest : List Piece) → SpellsEach Sf xs a
    → AreWithin times (length xs) → length xs ≤ turns times (a ++ rest)
enough AnyNumber Sf Ff f full free xs a rest sp w =
    let below = no_more Ff f full xs a (free_each Sf Ff free xs a sp) in
    omega (arith, below, length-append a rest)
enough (AtMost most cause) Sf Ff f full free xs a rest sp w = w

fuel_enough : (times : Times) (ls : List Piece) → Fuel times (turns times ls) ls
fuel_enough AnyNumber ls = omega arith
fuel_enough (AtMost most cause) ls = tt

left_all : (times : Times) (ls : List Piece) → left times (turns times ls) ≡ times
left_all AnyNumber ls = refl
left_all (AtMost most cause) ls = refl

pub each_agrees : {A : Type 0} (times : Times) {Sf Ff : A → List Piece → Type 0} {Bf : List Piece → Type 0} {Rf : Cause → List Piece → Type 0} {ff mf : List Want} {ef : Bool}
    → Shape Ff Bf ff mf ef → ef ≡ false → Apart mf ff → HasLimit times → {rf : Reader A} → Agrees Sf Ff Bf Rf rf mf
    → Agrees (SpEach times Sf) (FrEach Ff) (BeginsEach Ff Bf) (BrEach times Sf Bf Rf) (λ ls. read_each (excess times) (turns times ls) ff rf ls) (ff ++ mf)
each_agrees times {Sf} {Ff} {Bf} {Rf} {ff} {mf} f full apart limit {rf} af = record {
  free = λ xs a h. (free_each Sf Ff af.free xs a h.0, tt);
  complete = λ xs a rest h still.
      each_complete (excess times) (turns times (a ++ rest)) Sf Ff f full apart af.free rf af.complete xs a rest h.0 (enough times Sf Ff f full af.free xs a rest h.0 h.1) still;
  sound = λ ls.
      subst (λ t. Sound (SpEach t Sf) (FrEach Ff) (BeginsEach Ff Bf) (BrEach t Sf Bf Rf) ls (read_each (excess times) (turns times ls) ff rf ls)) (left_all times ls)
      (each_sound times (turns times ls) Sf Ff Rf f full apart limit af.free rf af.sound ls (fuel_enough times ls));
}
