-- What the tables of a form say of what spells and what begins it.
use Rattle.std.proofs.Common.{◌≡◌, ◌⊎◌, inl, inr, List, [], ◌∷◌, ◌++◌, refl, ap, sym, ◌∙◌, subst, append_assoc, append-nil, Bool, true, false, ◌&&◌, ◌||◌}
use Rattle.std.specs.Prelude.{if◌then◌else◌}
use Rattle.text_ast.specs.Pieces.{Piece}
use Rattle.text_tree.specs.Forms.{Want, admits, IsToken, SpellsEach, ◌then◌, may}
use Rattle.text_grammar.proofs.Lists.{compare, Quiet, quiet_front, may_left, may_right, both_true, snoc_not_nil, no_front, no_back, head_of, tail_of, true_false, Apart, apart_false, headed}

pub record Shape {A : Type 0} (Sp : A → List Piece → Type 0) (Be : List Piece → Type 0) (firsts mores : List Want) (emp : Bool) : Type 0 where
  pub opens : Be []
  pub closed : (a b : List Piece) → Be (a ++ b) → Be a
  pub begun : (x : A) (a : List Piece) → Sp x a → Be a
  pub first : (l : Piece) (ls : List Piece) → Be (l ∷ ls) → may firsts l ≡ true
  pub goes : (x : A) (a : List Piece) (l : Piece) → Sp x a → Be (a ++ l ∷ []) → may mores l ≡ true
  pub fills : (x : A) → Sp x [] → emp ≡ true
  pub able : (l : Piece) → may firsts l ≡ true → Be (l ∷ [])
  pub void : emp ≡ true → (x : A) × Sp x []

-- what is spelled is not gone on with by pieces that do not continue it
pub stops : {A : Type 0} {Sp : A → List Piece → Type 0} {Be : List Piece → Type 0} {firsts mores : List Want} {emp : Bool} → Shape Sp Be firsts mores emp
    → (x : A) (a b : List Piece) → Sp x a → Be (a ++ b) → Quiet mores b → b ≡ []
stops s x a [] sp be q = refl
stops {A} {Sp} {Be} {firsts} {mores} s x a (l ∷ b) sp be q =
    let shorter : Be (a ++ l ∷ []) = s.closed (a ++ l ∷ []) b (subst Be (sym (append_assoc a (l ∷ []) b)) be) in
    let continues : may mores l ≡ true = s.goes x a l sp shorter in
    cc

-- two ways to cut a list behind what is spelled are one
pub one_cut : {A : Type 0} {Sp : A → List Piece → Type 0} {Be : List Piece → Type 0} {firsts mores : List Want} {emp : Bool} → Shape Sp Be firsts mores emp
    → (x y : A) (a b c d : List Piece) → Sp x a → Sp y c → Quiet mores b → Quiet mores d → a ++ b ≡ c ++ d → (a ≡ c) × (b ≡ d)
one_cut {A} {Sp} {Be} {firsts} {mores} s x y a b c d sp sq q r e =
    elim (compare a b c d e) [
      | inl g ↦
          let none : g.more ≡ [] = stops s x a g.more sp (subst Be g.longer (s.begun y c sq)) (quiet_front mores g.more d (subst (Quiet mores) g.rest q)) in
          (sym (g.longer ∙ ap (λ z. a ++ z) none ∙ append-nil a), g.rest ∙ ap (λ z. z ++ d) none)
      | inr g ↦
          let none : g.more ≡ [] = stops s y c g.more sq (subst Be g.longer (s.begun x a sp)) (quiet_front mores g.more b (subst (Quiet mores) g.rest r)) in
          (g.longer ∙ ap (λ z. c ++ z) none ∙ append-nil c, sym (g.rest ∙ ap (λ z. z ++ b) none))
    ]

-- ---- nothing, and one token

pub nothing_shape : {A : Type 0} (x : A) → Shape {A = A} (λ y ls. (y ≡ x) × (ls ≡ [])) (λ ls. ls ≡ []) [] [] true
nothing_shape x = record {
  opens = refl;
  closed = λ a b e. no_front a b e;
  begun = λ y a h. h.1;
  first = λ l ls e. cc;
  goes = λ y a l h e. absurd (snoc_not_nil a l e);
  fills = λ y h. refl;
  able = λ l h. cc;
  void = λ e. (x, (refl, refl));
}

abbrev BeginsToken : Want → List Piece → Type 0
BeginsToken w ls = (ls ≡ []) ⊎ IsToken w ls

token_closed : (w : Want) (a b : List Piece) → BeginsToken w (a ++ b) → BeginsToken w a
token_closed w a b (inl e) = inl (no_front a b e)
token_closed w [] b (inr h) = inl refl
token_closed w (x ∷ a) b (inr h) =
    let none : a ≡ [] = no_front a b (tail_of x h.0 (a ++ b) [] h.1) in
    let same : x ≡ h.0 = head_of x h.0 (a ++ b) [] h.1 in
    inr (x, ap (λ z. x ∷ z) none, ap (admits w) same ∙ h.2)

pub or_false : (b : Bool) → b ≡ true → (b || false) ≡ true
or_false true e = refl
or_false false e = cc

pub true_or : (b : Bool) → (b || false) ≡ true → b ≡ true
true_or true e = refl
true_or false e = cc

pub token_first : (w : Want) (l : Piece) (ls : List Piece) → BeginsToken w (l ∷ ls) → may (w ∷ []) l ≡ true
token_first w l ls (inl e) = cc
token_first w l ls (inr h) = or_false (admits w l) (ap (admits w) (head_of l h.0 ls [] h.1) ∙ h.2)

pub token_goes : (w : Want) (y : Piece) (a : List Piece) (l : Piece) → a ≡ y ∷ [] → BeginsToken w (a ++ l ∷ []) → may [] l ≡ true
token_goes w y a l e (inl h) = absurd (snoc_not_nil a l h)
token_goes w y a l e (inr h) =
    let two : y ∷ l ∷ [] ≡ h.0 ∷ [] = ap (λ z. z ++ l ∷ []) (sym e) ∙ h.1 in
    let more : l ∷ [] ≡ [] = tail_of y h.0 (l ∷ []) [] two in
    cc

pub token_shape : (w : Want) → Shape {A = Piece} (λ y ls. (ls ≡ y ∷ []) × (admits w y ≡ true)) (λ ls. (ls ≡ []) ⊎ IsToken w ls) (w ∷ []) [] false
token_shape w = record {
  opens = inl refl;
  closed = token_closed w;
  begun = λ y a h. inr (y, h.0, h.1);
  first = token_first w;
  goes = λ y a l h be. token_goes w y a l h.0 be;
  fills = λ y h. let none : y ∷ [] ≡ [] = sym h.0 in cc;
  able = λ l h. inr (l, refl, true_or (admits w l) h);
  void = λ e. cc;
}

-- ---- two forms, and a choice

-- what begins a form is quiet for what no token of it continues
pub quiet : {B : Type 0} {Sg : B → List Piece → Type 0} {Bg : List Piece → Type 0} {fg mg : List Want} {eg : Bool} → Shape Sg Bg fg mg eg
    → (mf : List Want) → Apart mf fg → (b : List Piece) → Bg b → Quiet mf b
quiet g mf apart [] be = tt
quiet {B} {Sg} {Bg} {fg} g mf apart (l ∷ b) be = apart_false mf fg apart l (g.first l b be)

pub if_then : (us vs : List Want) (b : Bool) (l : Piece) → b ≡ true → may us l ≡ true → may (if b then us else vs) l ≡ true
if_then us vs true l e h = h
if_then us vs false l e h = cc

first_of_both : (ff fg : List Want) (ef : Bool) (l : Piece) → may ff l ≡ true → may (if ef then ff ++ fg else ff) l ≡ true
first_of_both ff fg true l h = may_left ff fg l h
first_of_both ff fg false l h = h

pub decided : (us : List Want) (l : Piece) → (may us l ≡ true) ⊎ (may us l ≡ false)
decided us l = elim (may us l) as (λ (b : Bool). may us l ≡ b → (may us l ≡ true) ⊎ (may us l ≡ false)) [ true ↦ λ e. inl e | false ↦ λ e. inr e ] refl

both_filled : (a b : Bool) → a ≡ true → b ≡ true → (a && b) ≡ true
both_filled true true e f = refl
both_filled true false e f = cc
both_filled false b e f = cc

abbrev pub SpellsBoth : {A B : Type 0} → (A → List Piece → Type 0) → (B → List Piece → Type 0) → A × B → List Piece → Type 0
SpellsBoth Sf Sg y ls = (Sf y.0 then Sg y.1) ls

abbrev pub BeginsBoth : {A : Type 0} → (A → List Piece → Type 0) → (List Piece → Type 0) → (List Piece → Type 0) → List Piece → Type 0
BeginsBoth {A} Sf Bf Bg ls = Bf ls ⊎ ((x : A) × (Sf x then Bg) ls)

-- which of two tables admits it
pub which : (us vs : List Want) (l : Piece) → may (us ++ vs) l ≡ true → (may us l ≡ true) ⊎ (may vs l ≡ true)
which [] vs l e = inr e
which (u ∷ us) vs l e =
    elim (admits u l) as (λ (b : Bool). (b || may (us ++ vs) l) ≡ true → ((b || may us l) ≡ true) ⊎ (may vs l ≡ true))
    [ true ↦ λ h. inl refl | false ↦ λ h. which us vs l h ] e

both_able : {A B : Type 0} {Sf : A → List Piece → Type 0} {Bf : List Piece → Type 0} {ff mf : List Want} {ef : Bool}
    {Sg : B → List Piece → Type 0} {Bg : List Piece → Type 0} {fg mg : List Want} {eg : Bool}
    → Shape Sf Bf ff mf ef → Shape Sg Bg fg mg eg → (l : Piece) (b : Bool) → ef ≡ b → may (if b then ff ++ fg else ff) l ≡ true → BeginsBoth Sf Bf Bg (l ∷ [])
both_able {A} {B} {Sf} {Bf} {ff} {mf} {ef} {Sg} {Bg} {fg} f g l true e h =
    elim (which ff fg l h) [ inl m ↦ inl (f.able l m) | inr m ↦ let v = f.void e in inr (v.0, ([], l ∷ [], refl, v.1, g.able l m)) ]
both_able f g l false e h = inl (f.able l h)

pub both_shape : {A B : Type 0} {Sf : A → List Piece → Type 0} {Bf : List Piece → Type 0} {ff mf : List Want} {ef : Bool}
    {Sg : B → List Piece → Type 0} {Bg : List Piece → Type 0} {fg mg : List Want} {eg : Bool}
    → Shape Sf Bf ff mf ef → Shape Sg Bg fg mg eg → Apart mf fg
    → Shape (SpellsBoth Sf Sg) (BeginsBoth Sf Bf Bg) (if ef then ff ++ fg else ff) (mg ++ (if eg then mf else [])) (ef && eg)
both_shape {A} {B} {Sf} {Bf} {ff} {mf} {ef} {Sg} {Bg} {fg} {mg} {eg} f g apart = record {
  opens = inl f.opens;
  closed = λ a b be. elim be [
    | inl h ↦ inl (f.closed a b h)
    | inr h ↦
        let (x, (p, q, e, sp, bq)) = h in
        elim (compare a b p q e) [
          | inl on ↦ inl (f.closed a on.more (subst Bf on.longer (f.begun x p sp)))
          | inr on ↦ inr (x, (p, on.more, on.longer, sp, g.closed on.more b (subst Bg on.rest bq)))
        ]
  ];
  begun = λ y a h. inr (y.0, (h.0, h.1, h.2, h.3, g.begun y.1 h.1 h.4));
  first = λ l ls be. elim be [
    | inl h ↦ first_of_both ff fg ef l (f.first l ls h)
    | inr h ↦
        let (x, (p, q, e, sp, bq)) = h in
        elim (headed p) [
          | inl none ↦
              let filled : ef ≡ true = f.fills x (subst (Sf x) none sp) in
              let whole : l ∷ ls ≡ q = e ∙ ap (λ z. z ++ q) none in
              if_then (ff ++ fg) ff ef l filled (may_right ff fg l (g.first l ls (subst Bg (sym whole) bq)))
          | inr hd ↦
              let same : l ≡ hd.head = head_of l hd.head ls (hd.tail ++ q) (e ∙ ap (λ z. z ++ q) hd.is) in
              let seen : may ff hd.head ≡ true = f.first hd.head hd.tail (subst Bf hd.is (f.begun x p sp)) in
              first_of_both ff fg ef l (ap (may ff) same ∙ seen)
        ]
  ];
  goes = λ y a l sp be.
      let (p, q, e, sf, sg) = sp in
      let bq : Bg q = g.begun y.1 q sg in
      let all : a ++ l ∷ [] ≡ p ++ (q ++ l ∷ []) = ap (λ z. z ++ l ∷ []) e ∙ append_assoc p q (l ∷ []) in
      elim (headed q) [
        | inl none ↦
            let filled : eg ≡ true = g.fills y.1 (subst (Sg y.1) none sg) in
            let short : a ++ l ∷ [] ≡ p ++ l ∷ [] = all ∙ ap (λ z. p ++ (z ++ l ∷ [])) none in
            elim (decided mf l) [
              | inl goes_on ↦ may_right mg (if eg then mf else []) l (if_then mf [] eg l filled goes_on)
              | inr still ↦ elim be [
                | inl h ↦ absurd (true_false (f.goes y.0 p l sf (subst Bf short h)) still)
                | inr h ↦
                    let (x, (c, d, e2, sc, bd)) = h in
                    let cut = one_cut f y.0 x p (l ∷ []) c d sf sc still (quiet g mf apart d bd) (sym short ∙ e2) in
                    may_left mg (if eg then mf else []) l (g.goes y.1 [] l (subst (Sg y.1) none sg) (subst Bg (sym cut.1) bd))
              ]
            ]
        | inr hd ↦
            let still : Quiet mf (q ++ l ∷ []) = subst (λ z. Quiet mf (z ++ l ∷ [])) (sym hd.is) (quiet g mf apart (hd.head ∷ hd.tail) (subst Bg hd.is bq)) in
            elim be [
              | inl h ↦ absurd (snoc_not_nil q l (stops f y.0 p (q ++ l ∷ []) sf (subst Bf all h) still))
              | inr h ↦
                  let (x, (c, d, e2, sc, bd)) = h in
                  let cut = one_cut f y.0 x p (q ++ l ∷ []) c d sf sc still (quiet g mf apart d bd) (sym all ∙ e2) in
                  may_left mg (if eg then mf else []) l (g.goes y.1 q l sg (subst Bg (sym cut.1) bd))
            ]
      ];
  fills = λ y sp.
      let (p, q, e, sf, sg) = sp in
      let none : p ≡ [] = no_front p q (sym e) in
      let nothing : q ≡ [] = no_back p q (sym e) in
      both_filled ef eg (f.fills y.0 (subst (Sf y.0) none sf)) (g.fills y.1 (subst (Sg y.1) nothing sg));
  able = λ l h. both_able f g l ef refl h;
  void = λ e.
      let parts = both_true ef eg e in
      let one = f.void parts.0 in
      let two = g.void parts.1 in
      ((one.0, two.0), ([], [], refl, one.1, two.1));
}

pub either_shape : {A : Type 0} {Sf : A → List Piece → Type 0} {Bf : List Piece → Type 0} {ff mf : List Want} {ef : Bool}
    {Sg : A → List Piece → Type 0} {Bg : List Piece → Type 0} {fg mg : List Want} {eg : Bool}
    → Shape Sf Bf ff mf ef → Shape Sg Bg fg mg eg → ef ≡ false → Apart ff fg
    → Shape (λ x ls. Sf x ls ⊎ Sg x ls) (λ ls. Bf ls ⊎ Bg ls) (ff ++ fg) (mf ++ (mg ++ (if eg then ff else []))) eg
either_shape {A} {Sf} {Bf} {ff} {mf} {ef} {Sg} {Bg} {fg} {mg} {eg} f g full apart = record {
  opens = inl f.opens;
  closed = λ a b be. elim be [ inl h ↦ inl (f.closed a b h) | inr h ↦ inr (g.closed a b h) ];
  begun = λ x a h. elim h [ inl s ↦ inl (f.begun x a s) | inr s ↦ inr (g.begun x a s) ];
  first = λ l ls be. elim be [ inl h ↦ may_left ff fg l (f.first l ls h) | inr h ↦ may_right ff fg l (g.first l ls h) ];
  goes = λ x a l sp be.
      let rest : List Want = mg ++ (if eg then ff else []) in
      elim sp [
        | inl s ↦ elim be [
          | inl h ↦ may_left mf rest l (f.goes x a l s h)
          | inr h ↦ elim (headed a) [
            | inl none ↦ absurd (true_false (f.fills x (subst (Sf x) none s)) full)
            | inr hd ↦
                let mine : may ff hd.head ≡ true = f.first hd.head hd.tail (subst Bf hd.is (f.begun x a s)) in
                let other : may fg hd.head ≡ true = g.first hd.head (hd.tail ++ l ∷ []) (subst (λ z. Bg (z ++ l ∷ [])) hd.is h) in
                absurd (apart hd.head mine other)
          ]
        ]
        | inr s ↦ elim be [
          | inl h ↦ elim (headed a) [
            | inl none ↦
                let filled : eg ≡ true = g.fills x (subst (Sg x) none s) in
                let seen : may ff l ≡ true = f.first l [] (subst (λ z. Bf (z ++ l ∷ [])) none h) in
                may_right mf rest l (may_right mg (if eg then ff else []) l (if_then ff [] eg l filled seen))
            | inr hd ↦
                let mine : may ff hd.head ≡ true = f.first hd.head (hd.tail ++ l ∷ []) (subst (λ z. Bf (z ++ l ∷ [])) hd.is h) in
                let other : may fg hd.head ≡ true = g.first hd.head hd.tail (subst Bg hd.is (g.begun x a s)) in
                absurd (apart hd.head mine other)
          ]
          | inr h ↦ may_right mf rest l (may_left mg (if eg then ff else []) l (g.goes x a l s h))
        ]
      ];
  fills = λ x h. elim h [ inl s ↦ absurd (true_false (f.fills x s) full) | inr s ↦ g.fills x s ];
  able = λ l h. elim (which ff fg l h) [ inl m ↦ inl (f.able l m) | inr m ↦ inr (g.able l m) ];
  void = λ e. let v = g.void e in (v.0, inr v.1);
}

pub mapped_shape : {A B : Type 0} (make : A → B) {Sf : A → List Piece → Type 0} {Bf : List Piece → Type 0} {ff mf : List Want} {ef : Bool}
    → Shape Sf Bf ff mf ef → Shape {A = B} (λ y ls. (x : A) × (y ≡ make x) × Sf x ls) Bf ff mf ef
mapped_shape make f = record {
  opens = f.opens;
  closed = f.closed;
  begun = λ y a h. f.begun h.0 a h.2;
  first = f.first;
  goes = λ y a l h be. f.goes h.0 a l h.2 be;
  fills = λ y h. f.fills h.0 h.2;
  able = f.able;
  void = λ e. let v = f.void e in (make v.0, (v.0, refl, v.1));
}

-- ---- a form again and again

abbrev pub BeginsEach : {A : Type 0} → (A → List Piece → Type 0) → (List Piece → Type 0) → List Piece → Type 0
BeginsEach {A} Sf Bf ls = (xs : List A) × (SpellsEach Sf xs then Bf) ls

each_first : {A : Type 0} {Sf : A → List Piece → Type 0} {Bf : List Piece → Type 0} {ff mf : List Want} {ef : Bool}
    → Shape Sf Bf ff mf ef → ef ≡ false → (xs : List A) (p q : List Piece) (l : Piece) (ls : List Piece) → SpellsEach Sf xs p → Bf q → p ++ q ≡ l ∷ ls → may ff l ≡ true
each_first {A} {Sf} {Bf} {ff} f full [] p q l ls sp bq e =
    f.first l ls (subst Bf (ap (λ z. z ++ q) (sym sp) ∙ e) bq)
each_first {A} {Sf} {Bf} {ff} f full (x ∷ xs) p q l ls (c, d, e1, sc, sd) bq e =
    elim (headed c) [
      | inl none ↦ absurd (true_false (f.fills x (subst (Sf x) none sc)) full)
      | inr hd ↦
          let same : hd.head ≡ l = head_of hd.head l (hd.tail ++ (d ++ q)) ls (ap (λ z. z ++ (d ++ q)) (sym hd.is) ∙ sym (append_assoc c d q) ∙ ap (λ z. z ++ q) (sym e1) ∙ e) in
          sym (ap (may ff) same) ∙ f.first hd.head hd.tail (subst Bf hd.is (f.begun x c sc))
    ]

each_quiet : {A : Type 0} {Sf : A → List Piece → Type 0} {Bf : List Piece → Type 0} {ff mf : List Want} {ef : Bool}
    → Shape Sf Bf ff mf ef → ef ≡ false → (us : List Want) → Apart us ff → (xs : List A) (p q : List Piece) → SpellsEach Sf xs p → Bf q → Quiet us (p ++ q)
each_quiet {A} {Sf} {Bf} {ff} f full us apart xs p q sp bq =
    elim (p ++ q) as (λ (z : List Piece). p ++ q ≡ z → Quiet us z)
    [ [] ↦ λ e. tt | l ∷ ls ↦ λ e. apart_false us ff apart l (each_first f full xs p q l ls sp bq e) ] refl

each_closed : {A : Type 0} {Sf : A → List Piece → Type 0} {Bf : List Piece → Type 0} {ff mf : List Want} {ef : Bool}
    → Shape Sf Bf ff mf ef → (xs : List A) (a b : List Piece) → SpellsEach Sf xs (a ++ b) → BeginsEach Sf Bf a
each_closed {A} {Sf} {Bf} f [] a b sp = ([], ([], a, refl, refl, subst Bf (sym (no_front a b sp)) f.opens))
each_closed {A} {Sf} {Bf} f (x ∷ xs) a b (c, d, e, sc, sd) =
    elim (compare a b c d e) [
      | inl on ↦ ([], ([], a, refl, refl, f.closed a on.more (subst Bf on.longer (f.begun x c sc))))
      | inr on ↦
          let (ys, (p, q, e2, sp, bq)) = each_closed f xs on.more b (subst (SpellsEach Sf xs) on.rest sd) in
          (x ∷ ys, (c ++ p, q, on.longer ∙ ap (λ z. c ++ z) e2 ∙ sym (append_assoc c p q), (c, p, refl, sc, sp), bq))
    ]

each_goes : {A : Type 0} {Sf : A → List Piece → Type 0} {Bf : List Piece → Type 0} {ff mf : List Want} {ef : Bool}
    → Shape Sf Bf ff mf ef → ef ≡ false → Apart mf ff → (xs ys : List A) (a p q : List Piece) (l : Piece)
    → SpellsEach Sf xs a → SpellsEach Sf ys p → Bf q → a ++ l ∷ [] ≡ p ++ q → may (ff ++ mf) l ≡ true
each_goes {A} {Sf} {Bf} {ff} {mf} f full apart [] ys a p q l sx sy bq e =
    may_left ff mf l (each_first f full ys p q l [] sy bq (sym e ∙ ap (λ z. z ++ l ∷ []) sx))
each_goes {A} {Sf} {Bf} {ff} {mf} f full apart (x ∷ xs) [] a p q l (c, d, e1, sc, sd) sy bq e =
    let whole : q ≡ c ++ (d ++ l ∷ []) = ap (λ z. z ++ q) (sym sy) ∙ sym e ∙ ap (λ z. z ++ l ∷ []) e1 ∙ append_assoc c d (l ∷ []) in
    let begins : Bf (c ++ (d ++ l ∷ [])) = subst Bf whole bq in
    elim (headed d) [
      | inl none ↦ may_right ff mf l (f.goes x c l sc (subst (λ z. Bf (c ++ (z ++ l ∷ []))) none begins))
      | inr hd ↦
          let still : Quiet mf (d ++ l ∷ []) = subst (λ z. Quiet mf (z ++ l ∷ [])) (sym hd.is) (apart_false mf ff apart hd.head
          (each_first f full xs d [] hd.head hd.tail sd f.opens (append-nil d ∙ hd.is))) in
          absurd (snoc_not_nil d l (stops f x c (d ++ l ∷ []) sc begins still))
    ]
each_goes {A} {Sf} {Bf} {ff} {mf} f full apart (x ∷ xs) (y ∷ ys) a p q l (c, d, e1, sc, sd) (c2, d2, e2, sc2, sd2) bq e =
    let all : c ++ (d ++ l ∷ []) ≡ c2 ++ (d2 ++ q) = sym (append_assoc c d (l ∷ [])) ∙ ap (λ z. z ++ l ∷ []) (sym e1) ∙ e ∙ ap (λ z. z ++ q) e2 ∙ append_assoc c2 d2 q in
    let other : Quiet mf (d2 ++ q) = each_quiet f full mf apart ys d2 q sd2 bq in
    elim (headed d) [
      | inl none ↦ elim (decided mf l) [
        | inl on ↦ may_right ff mf l on
        | inr off ↦
            let cut = one_cut f x y c (d ++ l ∷ []) c2 (d2 ++ q) sc sc2 (subst (λ z. Quiet mf (z ++ l ∷ [])) (sym none) off) other all in
            each_goes f full apart xs ys d d2 q l sd sd2 bq cut.1
      ]
      | inr hd ↦
          let still : Quiet mf (d ++ l ∷ []) = subst (λ z. Quiet mf (z ++ l ∷ [])) (sym hd.is) (apart_false mf ff apart hd.head
          (each_first f full xs d [] hd.head hd.tail sd f.opens (append-nil d ∙ hd.is))) in
          let cut = one_cut f x y c (d ++ l ∷ []) c2 (d2 ++ q) sc sc2 still other all in
          each_goes f full apart xs ys d d2 q l sd sd2 bq cut.1
    ]

pub each_shape : {A : Type 0} {Sf : A → List Piece → Type 0} {Bf : List Piece → Type 0} {ff mf : List Want} {ef : Bool}
    → Shape Sf Bf ff mf ef → ef ≡ false → Apart mf ff → Shape (λ xs ls. SpellsEach Sf xs ls × Unit {0}) (BeginsEach Sf Bf) ff (ff ++ mf) true
each_shape {A} {Sf} {Bf} {ff} {mf} f full apart = record {
  opens = ([], ([], [], refl, refl, f.opens));
  closed = λ a b be.
      let (xs, (p, q, e, sp, bq)) = be in
      elim (compare a b p q e) [
        | inl on ↦ each_closed f xs a on.more (subst (SpellsEach Sf xs) on.longer sp)
        | inr on ↦ (xs, (p, on.more, on.longer, sp, f.closed on.more b (subst Bf on.rest bq)))
      ];
  begun = λ xs a h. (xs, (a, [], sym (append-nil a), h.0, f.opens));
  first = λ l ls be. let (xs, (p, q, e, sp, bq)) = be in each_first f full xs p q l ls sp bq (sym e);
  goes = λ xs a l h be. let (ys, (p, q, e, sp, bq)) = be in each_goes f full apart xs ys a p q l h.0 sp bq e;
  fills = λ xs h. refl;
  able = λ l h. ([], ([], l ∷ [], refl, refl, f.able l h));
  void = λ e. ([], (refl, tt));
}
