-- Where a form that ends items behind a token breaks a limit, its reader stops there, or before.
use Rattle.std.proofs.Common.{◌≡◌, inl, inr, ℕ, List, [], ◌∷◌, ◌++◌, ◌≤◌, ◌+◌, ◌-◌, suc, zero, length, arith, length-append, refl, ap, sym, ◌∙◌, subst, append_assoc, Bool, true, false, ◌||◌}
use Rattle.std.specs.Prelude.{if◌then◌else◌}
use Rattle.text_ast.specs.Pieces.{Piece}
use Rattle.text_tree.specs.Forms.{Want, admits, Cause, NotGrammar, ◌then◌, Times, AnyNumber, AtMost, AreWithin}
use Rattle.text_grammar.specs.Reading.{starts, one, Answer, Got, Stuck, Reader, after, made, read_end, excess, turns}
use Rattle.text_grammar.proofs.Lists.{Quiet, no_back, headed, true_false}
use Rattle.text_grammar.proofs.Shapes.{quiet}
use Rattle.text_grammar.proofs.Ended.{Behind, Items, BeginsEnd, BeginsEnded, Ends, taken, wh_apart, ended_shape}
use Rattle.text_grammar.proofs.Agrees.{Agrees}
use Rattle.text_grammar.proofs.EndedAgrees.{BrEnd, BrEnded}
use Rattle.text_grammar.proofs.Caught.{Caught, Catches, caught_is, caught_here, caught_after, caught_made, last_of, last_more, quiet_more, starts_more, begun_starts, apart_starts}
use Rattle.text_grammar.proofs.EachCaught.{full_piece, more_than, turns_left, turns_full}

-- ---- the steps of the reader

-- what is read where the token comes first
abbrev Turn : {A B : Type 0} → List Want → (List Piece → Answer (List A × B)) → Reader B → List Piece → Answer (List A × B)
Turn ff item rg k = if starts ff k then item k else made (λ y. ([], y)) (rg k)

-- the token, or the other form
abbrev Choice : {A B : Type 0} → Want → List Want → (List Piece → Answer (List A × B)) → Reader B → Reader B → List Piece → Answer (List A × B)
Choice w ff item rg rh ls = if starts (w ∷ []) ls then after (λ _ rest. Turn ff item rg rest) (one w ls) else made (λ y. ([], y)) (rh ls)

choice_token : {A B : Type 0} (w : Want) (ff : List Want) (item : List Piece → Answer (List A × B)) (rg rh : Reader B) (l : Piece) (k : List Piece) → admits w l ≡ true
    → Choice w ff item rg rh (l ∷ k) ≡ Turn ff item rg k
choice_token {A} {B} w ff item rg rh l k e =
    ap (λ (b : Bool). if (b || false) then after {A = Piece} {B = List A × B} (λ _ rest. Turn ff item rg rest) (if b then Got l k else Stuck NotGrammar (l ∷ k)) else made {B = List A × B} (λ y. ([], y)) (rh (l ∷ k))) e

choice_other : {A B : Type 0} (w : Want) (ff : List Want) (item : List Piece → Answer (List A × B)) (rg rh : Reader B) (ls : List Piece) → starts (w ∷ []) ls ≡ false
    → Choice w ff item rg rh ls ≡ made (λ y. ([], y)) (rh ls)
choice_other {A} {B} w ff item rg rh ls e =
    ap (λ (b : Bool). if b then after {A = Piece} {B = List A × B} (λ _ rest. Turn ff item rg rest) (one w ls) else made {B = List A × B} (λ y. ([], y)) (rh ls)) e

turn_item : {A B : Type 0} (ff : List Want) (item : List Piece → Answer (List A × B)) (rg : Reader B) (k : List Piece) → starts ff k ≡ true → Turn ff item rg k ≡ item k
turn_item {A} {B} ff item rg k e = ap (λ (b : Bool). if b then item k else made {B = List A × B} (λ y. ([], y)) (rg k)) e

turn_last : {A B : Type 0} (ff : List Want) (item : List Piece → Answer (List A × B)) (rg : Reader B) (k : List Piece) → starts ff k ≡ false → Turn ff item rg k ≡ made (λ y. ([], y)) (rg k)
turn_last {A} {B} ff item rg k e = ap (λ (b : Bool). if b then item k else made {B = List A × B} (λ y. ([], y)) (rg k)) e

abbrev pub onward : {A B : Type 0} → Cause → ℕ → Want → List Want → Reader A → Reader B → Reader B → A → Reader (List A × B)
onward e n w ff rf rg rh x rest = made (λ v. (x ∷ v.0, v.1)) (read_end e n w ff rf rg rh rest)

pub end_step : {A B : Type 0} (e : Cause) (n : ℕ) (w : Want) (ff : List Want) (rf : Reader A) (rg rh : Reader B) (h : Piece) (k : List Piece) → admits w h ≡ true → starts ff k ≡ true
    → read_end e (suc n) w ff rf rg rh (h ∷ k) ≡ after (onward e n w ff rf rg rh) (rf k)
end_step {A} {B} e n w ff rf rg rh h k token first =
    let item : List Piece → Answer (List A × B) = λ k. after (onward e n w ff rf rg rh) (rf k) in
    choice_token w ff item rg rh h k token ∙ turn_item ff item rg k first

pub end_over : {A B : Type 0} (e : Cause) (w : Want) (ff : List Want) (rf : Reader A) (rg rh : Reader B) (h : Piece) (k : List Piece) → admits w h ≡ true → starts ff k ≡ true
    → read_end e 0 w ff rf rg rh (h ∷ k) ≡ Stuck e k
end_over {A} {B} e w ff rf rg rh h k token first =
    let item : List Piece → Answer (List A × B) = λ k. Stuck e k in
    choice_token w ff item rg rh h k token ∙ turn_item ff item rg k first

pub end_last : {A B : Type 0} (e : Cause) (n : ℕ) (w : Want) (ff : List Want) (rf : Reader A) (rg rh : Reader B) (h : Piece) (k : List Piece) → admits w h ≡ true → starts ff k ≡ false
    → read_end e n w ff rf rg rh (h ∷ k) ≡ made (λ y. ([], y)) (rg k)
end_last {A} {B} e zero w ff rf rg rh h k token first =
    let item : List Piece → Answer (List A × B) = λ k. Stuck e k in
    choice_token w ff item rg rh h k token ∙ turn_last ff item rg k first
end_last {A} {B} e (suc n) w ff rf rg rh h k token first =
    let item : List Piece → Answer (List A × B) = λ k. after (onward e n w ff rf rg rh) (rf k) in
    choice_token w ff item rg rh h k token ∙ turn_last ff item rg k first

pub end_other : {A B : Type 0} (e : Cause) (n : ℕ) (w : Want) (ff : List Want) (rf : Reader A) (rg rh : Reader B) (ls : List Piece) → starts (w ∷ []) ls ≡ false
    → read_end e n w ff rf rg rh ls ≡ made (λ y. ([], y)) (rh ls)
end_other {A} {B} e zero w ff rf rg rh ls first =
    let item : List Piece → Answer (List A × B) = λ k. Stuck e k in choice_other w ff item rg rh ls first
end_other {A} {B} e (suc n) w ff rf rg rh ls first =
    let item : List Piece → Answer (List A × B) = λ k. after (onward e n w ff rf rg rh) (rf k) in choice_other w ff item rg rh ls first

-- ---- the items

free_items : {A : Type 0} (w : Want) (Sf Ff : A → List Piece → Type 0) → ((x : A) (a : List Piece) → Sf x a → Ff x a) → (xs : List A) (a : List Piece) → Items w Sf xs a → Items w Ff xs a
free_items w Sf Ff free [] a h = h
free_items w Sf Ff free (x ∷ xs) a (p, q, e, (t, k, e2, tok, sp), sq) = (p, q, e, (t, k, e2, tok, free x k sp), free_items w Sf Ff free xs q sq)

items_size : {A : Type 0} (w : Want) (Sf : A → List Piece → Type 0) (xs : List A) (p : List Piece) → Items w Sf xs p → length xs ≤ length p
items_size w Sf [] p h = omega arith
items_size w Sf (x ∷ xs) p (c, d, e, sc, sd) =
    let below = items_size w Sf xs d sd in
    let k = taken w (Sf x) c sc in
    let size : length c ≡ suc (length k.tail) = ap length k.is in
    omega (arith, below, size, ap length e, length-append c d)

-- The items are read, and the reader is caught behind them.
items_caught : {A B : Type 0} {w : Want} {Ff : A → List Piece → Type 0} {Bf : List Piece → Type 0} {ff mf : List Want} {ef : Bool}
    {Fg : B → List Piece → Type 0} {Bg : List Piece → Type 0} {fg mg : List Want} {eg : Bool}
    {Fh : B → List Piece → Type 0} {Bh : List Piece → Type 0} {fh mh : List Want} {eh : Bool}
    → Ends w Ff Bf ff mf ef Fg Bg fg mg eg Fh Bh fh mh eh
    → (e : Cause) (n k : ℕ) (Sf : A → List Piece → Type 0) → ((x : A) (a : List Piece) → Sf x a → Ff x a) → (rf : Reader A) (rg rh : Reader B)
    → ((x : A) (a rest : List Piece) → Sf x a → Quiet mf rest → rf (a ++ rest) ≡ Got x rest)
    → (xs : List A) (a p q : List Piece) (l : Piece) (more : List Piece) (c : Cause) → n ≡ length xs + k → a ++ l ∷ [] ≡ p ++ q → Items w Sf xs p → BeginsEnd w Bf Bg Bh q → (q ≡ [] → ⊥)
    → ((b : List Piece) → q ≡ b ++ l ∷ [] → Caught (read_end e k w ff rf rg rh (b ++ l ∷ more)) c (l ∷ more)) → Caught (read_end e n w ff rf rg rh (a ++ l ∷ more)) c (l ∷ more)
items_caught {A} {B} {w} {Ff} {Bf} {ff} {mf} {ef} {Fg} {Bg} {fg} {mg} {eg} {Fh} {Bh} {fh} {mh} {eh} s e n k Sf free rf rg rh cf [] a p q l more c size is sp bq full next =
    let whole : q ≡ a ++ l ∷ [] = ap (λ z. z ++ q) (sym sp) ∙ sym is in
    let same : n ≡ k = omega (arith, size) in
    subst (λ z. Caught (read_end e z w ff rf rg rh (a ++ l ∷ more)) c (l ∷ more)) (sym same) (next a whole)
items_caught s e zero k Sf free rf rg rh cf (x ∷ xs) a p q l more c size is sp bq full next = absurd (omega (arith, size))
items_caught {A} {B} {w} {Ff} {Bf} {ff} {mf} {ef} {Fg} {Bg} {fg} {mg} {eg} {Fh} {Bh} {fh} {mh} {eh} s e (suc n) k Sf free rf rg rh cf (x ∷ xs) a p q l more c size is (t, d, e1, st, sd) bq full next =
    let t1 = taken w (Sf x) t st in
    let begins : BeginsEnded w Ff Bf Bg Bh (d ++ q) = (xs, (d, q, refl, free_items w Sf Ff free xs d sd, bq)) in
    let all : a ++ l ∷ [] ≡ t ++ (d ++ q) = is ∙ ap (λ z. z ++ q) e1 ∙ append_assoc t d q in
    let k1 = last_of a l t (d ++ q) all (λ nil. full (no_back d q nil)) in
    let back : List Piece = k1.front ++ l ∷ more in
    let still : Quiet mf back = quiet_more mf k1.front l more (subst (Quiet mf) k1.back (quiet (ended_shape s) mf (wh_apart s) (d ++ q) begins)) in
    let reads : rf (t1.tail ++ back) ≡ Got x back = cf x t1.tail back t1.behind still in
    let spelled : Ff x t1.tail = free x t1.tail t1.behind in
    let first : starts ff (t1.tail ++ back) ≡ true = elim (headed t1.tail) [
      | inl nil ↦ absurd (true_false (s.f.fills x (subst (Ff x) nil spelled)) s.f_full)
      | inr hd ↦ ap (λ z. starts ff (z ++ back)) hd.is ∙ s.f.first hd.head hd.tail (subst Bf hd.is (s.f.begun x t1.tail spelled))
    ] in
    let fewer : n ≡ length xs + k = omega (arith, size) in
    let rest = items_caught s e n k Sf free rf rg rh cf xs k1.front d q l more c fewer (sym k1.back) sd bq full next in
    let whole : a ++ l ∷ more ≡ t1.head ∷ (t1.tail ++ back) = last_more k1 more ∙ ap (λ z. z ++ back) t1.is in
    let on : A → Reader (List A × B) = onward e n w ff rf rg rh in
    caught_is (ap (read_end e (suc n) w ff rf rg rh) whole ∙ end_step e n w ff rf rg rh t1.head (t1.tail ++ back) t1.admitted first ∙ ap (after on) reads)
    (caught_made (λ (v : List A × B). (x ∷ v.0, v.1)) rest)

-- ---- behind the items

-- the token stands first, and the last piece behind it
pub record Then (w : Want) (F : List Piece → Type 0) (b : List Piece) (l : Piece) (more : List Piece) : Type 0 where
  pub head : Piece
  pub front : List Piece
  pub admitted : admits w head ≡ true
  pub behind : F (front ++ l ∷ [])
  pub whole : b ++ l ∷ more ≡ head ∷ (front ++ l ∷ more)

then_last : (w : Want) (F : List Piece → Type 0) → ((ls : List Piece) → F ls → ls ≡ [] → ⊥) → (b : List Piece) (l : Piece) (more : List Piece) → Behind w F (b ++ l ∷ []) → Then w F b l more
then_last w F full b l more h =
    let t = taken w F (b ++ l ∷ []) h in
    let k = last_of b l (t.head ∷ []) t.tail t.is (full t.tail t.behind) in
    record { head = t.head; front = k.front; admitted = t.admitted; behind = subst F k.back t.behind; whole = last_more k more }

other_caught : {A B : Type 0} {w : Want} {Ff : A → List Piece → Type 0} {Bf : List Piece → Type 0} {ff mf : List Want} {ef : Bool}
    {Fg : B → List Piece → Type 0} {Bg : List Piece → Type 0} {fg mg : List Want} {eg : Bool}
    {Fh : B → List Piece → Type 0} {Bh : List Piece → Type 0} {fh mh : List Want} {eh : Bool}
    → Ends w Ff Bf ff mf ef Fg Bg fg mg eg Fh Bh fh mh eh
    → (e : Cause) (k : ℕ) (rf : Reader A) (rg : Reader B) {rh : Reader B} {Rh : Cause → List Piece → Type 0} → Catches Bh Rh rh
    → (b : List Piece) (l : Piece) (more : List Piece) (c : Cause) → Rh c (b ++ l ∷ []) → Caught (read_end e k w ff rf rg rh (b ++ l ∷ more)) c (l ∷ more)
other_caught {A} {B} {w} {Ff} {Bf} {ff} {mf} {ef} {Fg} {Bg} {fg} {mg} {eg} {Fh} {Bh} {fh} {mh} {eh} s e k rf rg {rh} {Rh} ch b l more c h =
    let seen : starts fh (b ++ l ∷ []) ≡ true = begun_starts s.h (b ++ l ∷ []) (ch.begins c (b ++ l ∷ []) h) (ch.full c (b ++ l ∷ []) h) in
    let test : starts (w ∷ []) (b ++ l ∷ more) ≡ false = starts_more (w ∷ []) b l more false (apart_starts (w ∷ []) fh s.w_h (b ++ l ∷ []) seen) in
    caught_is (end_other e k w ff rf rg rh (b ++ l ∷ more) test) (caught_made (λ (y : B). let none : List A = [] in (none, y)) (ch.caught c b l more h))

last_caught : {A B : Type 0} {w : Want} {Ff : A → List Piece → Type 0} {Bf : List Piece → Type 0} {ff mf : List Want} {ef : Bool}
    {Fg : B → List Piece → Type 0} {Bg : List Piece → Type 0} {fg mg : List Want} {eg : Bool}
    {Fh : B → List Piece → Type 0} {Bh : List Piece → Type 0} {fh mh : List Want} {eh : Bool}
    → Ends w Ff Bf ff mf ef Fg Bg fg mg eg Fh Bh fh mh eh
    → (e : Cause) (k : ℕ) (rf : Reader A) (rh : Reader B) {rg : Reader B} {Rg : Cause → List Piece → Type 0} → Catches Bg Rg rg
    → (b : List Piece) (l : Piece) (more : List Piece) (c : Cause) → Behind w (Rg c) (b ++ l ∷ []) → Caught (read_end e k w ff rf rg rh (b ++ l ∷ more)) c (l ∷ more)
last_caught {A} {B} {w} {Ff} {Bf} {ff} {mf} {ef} {Fg} {Bg} {fg} {mg} {eg} {Fh} {Bh} {fh} {mh} {eh} s e k rf rh {rg} {Rg} cg b l more c h =
    let t = then_last w (Rg c) (cg.full c) b l more h in
    let back : List Piece = t.front ++ l ∷ [] in
    let seen : starts fg back ≡ true = begun_starts s.g back (cg.begins c back t.behind) (cg.full c back t.behind) in
    let test : starts ff (t.front ++ l ∷ more) ≡ false = starts_more ff t.front l more false (apart_starts ff fg s.f_g back seen) in
    caught_is (ap (read_end e k w ff rf rg rh) t.whole ∙ end_last e k w ff rf rg rh t.head (t.front ++ l ∷ more) t.admitted test)
    (caught_made (λ (y : B). let none : List A = [] in (none, y)) (cg.caught c t.front l more t.behind))

item_caught : {A B : Type 0} {w : Want} {Ff : A → List Piece → Type 0} {Bf : List Piece → Type 0} {ff mf : List Want} {ef : Bool}
    {Fg : B → List Piece → Type 0} {Bg : List Piece → Type 0} {fg mg : List Want} {eg : Bool}
    {Fh : B → List Piece → Type 0} {Bh : List Piece → Type 0} {fh mh : List Want} {eh : Bool}
    → Ends w Ff Bf ff mf ef Fg Bg fg mg eg Fh Bh fh mh eh
    → (e : Cause) (k : ℕ) {rf : Reader A} (rg rh : Reader B) {Rf : Cause → List Piece → Type 0} → Catches Bf Rf rf
    → (b : List Piece) (l : Piece) (more : List Piece) (c : Cause) → Behind w (Rf c) (b ++ l ∷ []) → Caught (read_end e (suc k) w ff rf rg rh (b ++ l ∷ more)) c (l ∷ more)
item_caught {A} {B} {w} {Ff} {Bf} {ff} {mf} {ef} {Fg} {Bg} {fg} {mg} {eg} {Fh} {Bh} {fh} {mh} {eh} s e k {rf} rg rh {Rf} cf b l more c h =
    let t = then_last w (Rf c) (cf.full c) b l more h in
    let back : List Piece = t.front ++ l ∷ [] in
    let test : starts ff (t.front ++ l ∷ more) ≡ true = starts_more ff t.front l more true (begun_starts s.f back (cf.begins c back t.behind) (cf.full c back t.behind)) in
    caught_is (ap (read_end e (suc k) w ff rf rg rh) t.whole ∙ end_step e k w ff rf rg rh t.head (t.front ++ l ∷ more) t.admitted test)
    (caught_after (onward e k w ff rf rg rh) (cf.caught c t.front l more t.behind))

first_piece : (b : List Piece) (l : Piece) → length (b ++ l ∷ []) ≡ 1 → b ≡ []
first_piece [] l e = refl
first_piece (x ∷ b) l e = absurd (omega (arith, e, length-append b (l ∷ [])))

over_caught : {A B : Type 0} {w : Want} {Ff : A → List Piece → Type 0} {Bf : List Piece → Type 0} {ff mf : List Want} {ef : Bool}
    {Fg : B → List Piece → Type 0} {Bg : List Piece → Type 0} {fg mg : List Want} {eg : Bool}
    {Fh : B → List Piece → Type 0} {Bh : List Piece → Type 0} {fh mh : List Want} {eh : Bool}
    → Ends w Ff Bf ff mf ef Fg Bg fg mg eg Fh Bh fh mh eh
    → (e : Cause) (rf : Reader A) (rg rh : Reader B)
    → (b : List Piece) (l : Piece) (more : List Piece) → Behind w (λ last. (length last ≡ 1) × Bf last) (b ++ l ∷ []) → Caught (read_end e 0 w ff rf rg rh (b ++ l ∷ more)) e (l ∷ more)
over_caught {A} {B} {w} {Ff} {Bf} {ff} {mf} {ef} {Fg} {Bg} {fg} {mg} {eg} {Fh} {Bh} {fh} {mh} {eh} s e rf rg rh b l more h =
    let t = then_last w (λ last. (length last ≡ 1) × Bf last) (λ ls r. full_piece ls r.0) b l more h in
    let none : t.front ≡ [] = first_piece t.front l t.behind.0 in
    let begins : Bf (l ∷ []) = subst (λ z. Bf (z ++ l ∷ [])) none t.behind.1 in
    let whole : b ++ l ∷ more ≡ t.head ∷ l ∷ more = t.whole ∙ ap (λ z. t.head ∷ (z ++ l ∷ more)) none in
    caught_here (ap (read_end e 0 w ff rf rg rh) whole ∙ end_over e w ff rf rg rh t.head (l ∷ more) t.admitted (s.f.first l [] begins))

-- ---- all of it

turns_within : (times : Times) (count : ℕ) (ls : List Piece) → count ≤ length ls → AreWithin times count → count ≤ turns times ls
turns_within AnyNumber count ls le w = le
turns_within (AtMost most cause) count ls le w = w

end_begins : {A B : Type 0} (times : Times) (w : Want) (count : ℕ) {Bf Bg Bh : List Piece → Type 0} {Rf Rg Rh : Cause → List Piece → Type 0} {rf : Reader A} {rg rh : Reader B}
    → Catches Bf Rf rf → Catches Bg Rg rg → Catches Bh Rh rh → (c : Cause) (q : List Piece) → BrEnd times w count Bf Rf Rg Rh c q → BeginsEnd w Bf Bg Bh q
end_begins times w count cf cg ch c q (inl a) = inl (ch.begins c q a)
end_begins times w count cf cg ch c q (inr (inl (t, k, e, tok, r))) = inr (t, k, e, tok, inr (cg.begins c k r))
end_begins times w count cf cg ch c q (inr (inr (inl ((t, k, e, tok, r), wi)))) = inr (t, k, e, tok, inl (cf.begins c k r))
end_begins times w count cf cg ch c q (inr (inr (inr ((t, k, e, tok, r), wi)))) = inr (t, k, e, tok, inl r.1)

behind_full : (w : Want) (F : List Piece → Type 0) (q : List Piece) → Behind w F q → q ≡ [] → ⊥
behind_full w F q h nil = let t = taken w F q h in let no : [] ≡ t.head ∷ t.tail = sym nil ∙ t.is in cc

end_full : {B : Type 0} (times : Times) (w : Want) (count : ℕ) (Bf : List Piece → Type 0) {Bh : List Piece → Type 0} (Rf Rg : Cause → List Piece → Type 0) {Rh : Cause → List Piece → Type 0} {rh : Reader B}
    → Catches Bh Rh rh → (c : Cause) (q : List Piece) → BrEnd times w count Bf Rf Rg Rh c q → q ≡ [] → ⊥
end_full times w count Bf Rf Rg ch c q (inl a) nil = ch.full c q a nil
end_full times w count Bf Rf Rg ch c q (inr (inl a)) nil = behind_full w (Rg c) q a nil
end_full times w count Bf Rf Rg ch c q (inr (inr (inl a))) nil = behind_full w (Rf c) q a.0 nil
end_full times w count Bf Rf Rg ch c q (inr (inr (inr a))) nil = behind_full w (λ last. (length last ≡ 1) × Bf last) q a.0 nil

pub ended_catches : {A B : Type 0} {w : Want} {Ff : A → List Piece → Type 0} {Bf : List Piece → Type 0} {ff mf : List Want} {ef : Bool}
    {Fg : B → List Piece → Type 0} {Bg : List Piece → Type 0} {fg mg : List Want} {eg : Bool}
    {Fh : B → List Piece → Type 0} {Bh : List Piece → Type 0} {fh mh : List Want} {eh : Bool}
    → Ends w Ff Bf ff mf ef Fg Bg fg mg eg Fh Bh fh mh eh
    → (times : Times) {Sf : A → List Piece → Type 0} {Rf Rg Rh : Cause → List Piece → Type 0} {rf : Reader A} {rg rh : Reader B}
    → Agrees Sf Ff Bf Rf rf mf → Catches Bf Rf rf → Catches Bg Rg rg → Catches Bh Rh rh
    → Catches {A = List A × B} (BeginsEnded w Ff Bf Bg Bh) (BrEnded times w Sf Bf Rf Rg Rh) (λ ls. read_end (excess times) (turns times ls) w ff rf rg rh ls)
ended_catches {A} {B} {w} {Ff} {Bf} {ff} {mf} {ef} {Fg} {Bg} {fg} {mg} {eg} {Fh} {Bh} {fh} {mh} {eh} s times {Sf} {Rf} {Rg} {Rh} {rf} {rg} {rh} af cf cg ch = record {
  begins = λ c ls h.
      let (xs, wi, (p, q, e, ip, r)) = h in
      (xs, (p, q, e, free_items w Sf Ff af.free xs p ip, end_begins times w (length xs) cf cg ch c q r));
  full = λ c ls h nil.
      let (xs, wi, (p, q, e, ip, r)) = h in
      end_full times w (length xs) Bf Rf Rg ch c q r (no_back p q (sym e ∙ nil));
  caught = λ c a l more h.
      let whole : List Piece = a ++ l ∷ more in
      let (xs, wi, (p, q, e, ip, r)) = h in
      let begins : BeginsEnd w Bf Bg Bh q = end_begins times w (length xs) cf cg ch c q r in
      let full : q ≡ [] → ⊥ = end_full times w (length xs) Bf Rf Rg ch c q r in
      let few : length xs ≤ length p = items_size w Sf xs p ip in
      let k = last_of a l p q e full in
      let room : suc (length xs) ≤ length whole =
      omega (arith, few, ap length (last_more k more), length-append p (k.front ++ l ∷ more), length-append k.front (l ∷ more)) in
      let any : length xs ≤ turns times whole = turns_within times (length xs) whole (omega (arith, room)) wi in
      let left : ℕ = turns times whole - length xs in
      let go : (k : ℕ) → turns times whole ≡ length xs + k → ((b : List Piece) → q ≡ b ++ l ∷ [] → Caught (read_end (excess times) k w ff rf rg rh (b ++ l ∷ more)) c (l ∷ more))
      → Caught (read_end (excess times) (turns times whole) w ff rf rg rh whole) c (l ∷ more) =
      λ k size next. items_caught s (excess times) (turns times whole) k Sf af.free rf rg rh af.complete xs a p q l more c size e ip begins full next in
      elim r [
        | inl a ↦ go left (omega (arith, any)) (λ b is. other_caught s (excess times) left rf rg ch b l more c (subst (Rh c) is a))
        | inr r1 ↦ elim r1 [
          | inl a ↦ go left (omega (arith, any)) (λ b is. last_caught s (excess times) left rf rh cg b l more c (subst (Behind w (Rg c)) is a))
          | inr r2 ↦ elim r2 [
            | inl a ↦
                let one = more_than (turns times whole) (length xs) (turns_left times (length xs) whole room a.1) in
                go (suc one.extra) one.is (λ b is. item_caught s (excess times) one.extra rg rh cf b l more c (subst (Behind w (Rf c)) is a.0))
            | inr a ↦
                let all = turns_full times (length xs) c whole a.1 in
                go 0 (omega (arith, all.0)) (λ b is. subst (λ z. Caught (read_end (excess times) 0 w ff rf rg rh (b ++ l ∷ more)) z (l ∷ more)) all.1
                (over_caught s (excess times) rf rg rh b l more (subst (Behind w (λ last. (length last ≡ 1) × Bf last)) is a.0)))
          ]
        ]
      ];
}
