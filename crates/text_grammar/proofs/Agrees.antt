-- A reader agrees with its form: what it reads, where it is refused, and what it reads whatever follows.
use Rattle.std.proofs.Common.{◌≡◌, ◌⊎◌, inl, inr, ℕ, List, [], ◌∷◌, ◌++◌, ◌≤◌, ◌-◌, suc, zero, length, drop, arith, length-append, refl, ap, sym, ◌∙◌, subst, append_assoc, append-nil, Bool, true, false}
use Rattle.std.specs.Prelude.{if◌then◌else◌, nat_le}
use Rattle.std.proofs.lemmas.Bool.{leb-true, leb-false, le-leb}
use Rattle.text_ast.specs.Pieces.{Piece}
use Rattle.text_tree.specs.Forms.{Want, admits, IsToken, ◌then◌, Cause, NotGrammar, TooDeep, TooManyTokens, TooManyStatics, TooManyModels, TooManyFields, TooManyCommands, may}
use Rattle.text_grammar.specs.Reading.{starts, one, Answer, Got, Stuck, Reader, after, made, at_most}
use Rattle.text_grammar.proofs.Lists.{compare, Quiet, quiet_front, may_left, may_right, snoc_not_nil, no_back, head_of, tail_of, true_false, Apart, apart_false, headed}
use Rattle.text_grammar.proofs.Shapes.{Shape, stops, one_cut, quiet, true_or, SpellsBoth, BeginsBoth, token_goes, token_first}

-- The next piece does not go on with the front.
abbrev pub Blocked : (List Piece → Type 0) → List Piece → List Piece → Type 0
Blocked Be a [] = Unit {0}
Blocked Be a (l ∷ ls) = Be (a ++ l ∷ []) → ⊥

pub record IsRead {A : Type 0} (Sp : A → List Piece → Type 0) (Be : List Piece → Type 0) (ls rest : List Piece) (x : A) : Type 0 where
  pub front : List Piece
  pub glued : ls ≡ front ++ rest
  pub spelled : Sp x front
  pub blocked : Blocked Be front rest

pub record IsRefused {A : Type 0} (Fr : A → List Piece → Type 0) (Be : List Piece → Type 0) (ls rest : List Piece) : Type 0 where
  pub front : List Piece
  pub glued : ls ≡ front ++ rest
  pub begun : Be front
  pub none : (x : A) → Fr x front → ⊥
  pub blocked : Blocked Be front rest

pub record IsBroken (Be Br : List Piece → Type 0) (ls rest : List Piece) : Type 0 where
  pub front : List Piece
  pub last : Piece
  pub more : List Piece
  pub glued : ls ≡ front ++ rest
  pub stands : rest ≡ last ∷ more
  pub begun : Be front
  pub breaks : Br (front ++ last ∷ [])

abbrev pub Sound : {A : Type 0} → (Sp Fr : A → List Piece → Type 0) → (Be : List Piece → Type 0) → (Br : Cause → List Piece → Type 0) → List Piece → Answer A → Type 0
Sound Sp Fr Be Br ls (Got x rest) = IsRead Sp Be ls rest x
Sound Sp Fr Be Br ls (Stuck NotGrammar rest) = IsRefused Fr Be ls rest
Sound Sp Fr Be Br ls (Stuck TooDeep rest) = IsBroken Be (Br TooDeep) ls rest
Sound Sp Fr Be Br ls (Stuck TooManyTokens rest) = IsBroken Be (Br TooManyTokens) ls rest
Sound Sp Fr Be Br ls (Stuck TooManyStatics rest) = IsBroken Be (Br TooManyStatics) ls rest
Sound Sp Fr Be Br ls (Stuck TooManyModels rest) = IsBroken Be (Br TooManyModels) ls rest
Sound Sp Fr Be Br ls (Stuck TooManyFields rest) = IsBroken Be (Br TooManyFields) ls rest
Sound Sp Fr Be Br ls (Stuck TooManyCommands rest) = IsBroken Be (Br TooManyCommands) ls rest

pub record Agrees {A : Type 0} (Sp Fr : A → List Piece → Type 0) (Be : List Piece → Type 0) (Br : Cause → List Piece → Type 0) (rd : Reader A) (mores : List Want) : Type 0 where
  pub free : (x : A) (a : List Piece) → Sp x a → Fr x a
  pub complete : (x : A) (a rest : List Piece) → Sp x a → Quiet mores rest → rd (a ++ rest) ≡ Got x rest
  pub sound : (ls : List Piece) → Sound Sp Fr Be Br ls (rd ls)

-- a cause that a part gives is given by the whole
pub relay : {A B : Type 0} (Sp Fr : A → List Piece → Type 0) (Be : List Piece → Type 0) (Br : Cause → List Piece → Type 0) (ls : List Piece)
    (Sq Fs : B → List Piece → Type 0) (Bf : List Piece → Type 0) (Bs : Cause → List Piece → Type 0) (ms : List Piece)
    → (c : Cause) (rest : List Piece) → (IsRefused Fr Be ls rest → IsRefused Fs Bf ms rest) → (IsBroken Be (Br c) ls rest → IsBroken Bf (Bs c) ms rest)
    → Sound Sp Fr Be Br ls (Stuck c rest) → Sound Sq Fs Bf Bs ms (Stuck c rest)
relay Sp Fr Be Br ls Sq Fs Bf Bs ms NotGrammar rest refused broken s = refused s
relay Sp Fr Be Br ls Sq Fs Bf Bs ms TooDeep rest refused broken s = broken s
relay Sp Fr Be Br ls Sq Fs Bf Bs ms TooManyTokens rest refused broken s = broken s
relay Sp Fr Be Br ls Sq Fs Bf Bs ms TooManyStatics rest refused broken s = broken s
relay Sp Fr Be Br ls Sq Fs Bf Bs ms TooManyModels rest refused broken s = broken s
relay Sp Fr Be Br ls Sq Fs Bf Bs ms TooManyFields rest refused broken s = broken s
relay Sp Fr Be Br ls Sq Fs Bf Bs ms TooManyCommands rest refused broken s = broken s

pub blocked_all : (Be : List Piece → Type 0) → ((a b : List Piece) → Be (a ++ b) → Be a) → (a rest c d : List Piece) → Blocked Be a rest → rest ≡ c ++ d → Be (a ++ c) → c ≡ []
blocked_all Be closed a rest [] d b e h = refl
blocked_all Be closed a rest (l ∷ c) d b e h =
    let shut : Be (a ++ l ∷ []) → ⊥ = subst (Blocked Be a) e b in
    absurd (shut (closed (a ++ l ∷ []) c (subst Be (sym (append_assoc a (l ∷ []) c)) h)))

pub quiet_left : (us vs : List Want) (ls : List Piece) → Quiet (us ++ vs) ls → Quiet us ls
quiet_left us vs [] q = tt
quiet_left us vs (l ∷ ls) q =
    elim (may us l) as (λ (b : Bool). may us l ≡ b → b ≡ false) [ true ↦ λ was. absurd (true_false (may_left us vs l was) q) | false ↦ λ was. refl ] refl

pub quiet_right : (us vs : List Want) (ls : List Piece) → Quiet (us ++ vs) ls → Quiet vs ls
quiet_right us vs [] q = tt
quiet_right us vs (l ∷ ls) q =
    elim (may vs l) as (λ (b : Bool). may vs l ≡ b → b ≡ false) [ true ↦ λ was. absurd (true_false (may_right us vs l was) q) | false ↦ λ was. refl ] refl

-- ---- two forms

abbrev pub BreaksBoth : {A : Type 0} → (A → List Piece → Type 0) → (Cause → List Piece → Type 0) → (Cause → List Piece → Type 0) → Cause → List Piece → Type 0
BreaksBoth {A} Sf Rf Rg c ls = Rf c ls ⊎ ((x : A) × (Sf x then Rg c) ls)

both_blocked : {A B : Type 0} {Ff : A → List Piece → Type 0} {Bf : List Piece → Type 0} {ff mf : List Want} {ef : Bool}
    {Fg : B → List Piece → Type 0} {Bg : List Piece → Type 0} {fg mg : List Want} {eg : Bool}
    → Shape Ff Bf ff mf ef → Shape Fg Bg fg mg eg → Apart mf fg → (x : A) (a b mid rest : List Piece) → Ff x a → Blocked Bf a mid → mid ≡ b ++ rest → Blocked Bg b rest
    → Blocked (BeginsBoth Ff Bf Bg) (a ++ b) rest
both_blocked f g apart x a b mid [] sp bf e bg = tt
both_blocked {A} {B} {Ff} {Bf} {ff} {mf} {ef} {Fg} {Bg} f g apart x a b mid (l ∷ rest) sp bf e bg = λ be.
    let next : mid ≡ (b ++ l ∷ []) ++ rest = e ∙ sym (append_assoc b (l ∷ []) rest) in
    elim be [
      | inl h ↦ snoc_not_nil b l (blocked_all Bf f.closed a mid (b ++ l ∷ []) rest bf next (subst Bf (append_assoc a b (l ∷ [])) h))
      | inr h ↦
          let (y, (p, q, e2, sq, bq)) = h in
          elim (compare a (b ++ l ∷ []) p q (sym (append_assoc a b (l ∷ [])) ∙ e2)) [
            | inl on ↦
                let none : on.more ≡ [] = blocked_all Bf f.closed a mid on.more (q ++ rest) bf
                (next ∙ ap (λ z. z ++ rest) on.rest ∙ append_assoc on.more q rest) (subst Bf on.longer (f.begun y p sq)) in
                bg (subst Bg (sym (on.rest ∙ ap (λ z. z ++ q) none)) bq)
            | inr on ↦
                let still : Quiet mf on.more = quiet_front mf on.more (b ++ l ∷ []) (subst (Quiet mf) on.rest (quiet g mf apart q bq)) in
                let none : on.more ≡ [] = stops f y p on.more sq (subst Bf on.longer (f.begun x a sp)) still in
                bg (subst Bg (on.rest ∙ ap (λ z. z ++ (b ++ l ∷ [])) none) bq)
          ]
    ]

refused_step : {A B : Type 0} {Ff : A → List Piece → Type 0} {Bf : List Piece → Type 0} {ff mf : List Want} {ef : Bool}
    {Fg : B → List Piece → Type 0} {Bg : List Piece → Type 0} {fg mg : List Want} {eg : Bool}
    → Shape Ff Bf ff mf ef → Shape Fg Bg fg mg eg → Apart mf fg
    → (a : List Piece) (l : Piece) → Bf a → ((x : A) → Ff x a → ⊥) → (Bf (a ++ l ∷ []) → ⊥) → BeginsBoth Ff Bf Bg (a ++ l ∷ []) → ⊥
refused_step {A} {B} {Ff} {Bf} {ff} {mf} {ef} {Fg} {Bg} {fg} {mg} {eg} f g apart a l begun none b (inl h) = b h
refused_step {A} {B} {Ff} {Bf} {ff} {mf} {ef} {Fg} {Bg} {fg} {mg} {eg} f g apart a l begun none b (inr (x, (p, q, e, sp, bq))) =
    elim (compare a (l ∷ []) p q e) [
      | inl on ↦ elim (headed on.more) [
        | inl nil ↦ none x (subst (Ff x) (on.longer ∙ ap (λ z. a ++ z) nil ∙ append-nil a) sp)
        | inr hd ↦
            let all : l ∷ [] ≡ hd.head ∷ (hd.tail ++ q) = on.rest ∙ ap (λ z. z ++ q) hd.is in
            let nil : [] ≡ hd.tail ++ q = tail_of l hd.head [] (hd.tail ++ q) all in
            let no : q ≡ [] = no_back hd.tail q (sym nil) in
            let whole : a ++ l ∷ [] ≡ p = e ∙ ap (λ z. p ++ z) no ∙ append-nil p in
            b (subst Bf (sym whole) (f.begun x p sp))
      ]
      | inr on ↦
          let still : Quiet mf on.more = quiet_front mf on.more (l ∷ []) (subst (Quiet mf) on.rest (quiet g mf apart q bq)) in
          let nil : on.more ≡ [] = stops f x p on.more sp (subst Bf on.longer begun) still in
          none x (subst (Ff x) (sym (on.longer ∙ ap (λ z. p ++ z) nil ∙ append-nil p)) sp)
    ]

refused_blocked : {A B : Type 0} {Ff : A → List Piece → Type 0} {Bf : List Piece → Type 0} {ff mf : List Want} {ef : Bool}
    {Fg : B → List Piece → Type 0} {Bg : List Piece → Type 0} {fg mg : List Want} {eg : Bool}
    → Shape Ff Bf ff mf ef → Shape Fg Bg fg mg eg → Apart mf fg
    → (a rest : List Piece) → Bf a → ((x : A) → Ff x a → ⊥) → Blocked Bf a rest → Blocked (BeginsBoth Ff Bf Bg) a rest
refused_blocked f g apart a [] begun none b = tt
refused_blocked f g apart a (l ∷ rest) begun none b = refused_step f g apart a l begun none b

refused_both : {A B : Type 0} {Ff : A → List Piece → Type 0} {Bf : List Piece → Type 0} {ff mf : List Want} {ef : Bool}
    {Fg : B → List Piece → Type 0} {Bg : List Piece → Type 0} {fg mg : List Want} {eg : Bool}
    → Shape Ff Bf ff mf ef → Shape Fg Bg fg mg eg → Apart mf fg
    → (ls rest : List Piece) → IsRefused Ff Bf ls rest → IsRefused (SpellsBoth Ff Fg) (BeginsBoth Ff Bf Bg) ls rest
refused_both {A} {B} {Ff} {Bf} {ff} {mf} {ef} {Fg} {Bg} {fg} {mg} {eg} f g apart ls rest r = record {
  front = r.front;
  glued = r.glued;
  begun = inl r.begun;
  none = λ y sp.
      let (p, q, e, sf, sg) = sp in
      let nil : q ≡ [] = stops f y.0 p q sf (subst Bf e r.begun) (quiet g mf apart q (g.begun y.1 q sg)) in
      r.none y.0 (subst (Ff y.0) (sym (e ∙ ap (λ z. p ++ z) nil ∙ append-nil p)) sf);
  blocked = refused_blocked f g apart r.front rest r.begun r.none r.blocked;
}

-- the second form behind the first
second : {A B : Type 0} {Sf Ff : A → List Piece → Type 0} {Bf : List Piece → Type 0} (Rf : Cause → List Piece → Type 0) {ff mf : List Want} {ef : Bool}
    (Sg : B → List Piece → Type 0) {Fg : B → List Piece → Type 0} {Bg : List Piece → Type 0} (Rg : Cause → List Piece → Type 0) {fg mg : List Want} {eg : Bool}
    → Shape Ff Bf ff mf ef → Shape Fg Bg fg mg eg → Apart mf fg → ((x : A) (a : List Piece) → Sf x a → Ff x a)
    → (ls rest : List Piece) (x : A) → IsRead Sf Bf ls rest x → (ans : Answer B) → Sound Sg Fg Bg Rg rest ans
    → Sound (SpellsBoth Sf Sg) (SpellsBoth Ff Fg) (BeginsBoth Ff Bf Bg) (BreaksBoth Sf Rf Rg) ls (made (λ y. (x, y)) ans)
second {A} {B} {Sf} {Ff} {Bf} Rf {ff} {mf} {ef} Sg {Fg} {Bg} Rg {fg} {mg} {eg} f g apart free ls rest x r (Got y end) s = record {
  front = r.front ++ s.front;
  glued = r.glued ∙ ap (λ z. r.front ++ z) s.glued ∙ sym (append_assoc r.front s.front end);
  spelled = (r.front, s.front, refl, r.spelled, s.spelled);
  blocked = both_blocked f g apart x r.front s.front rest end (free x r.front r.spelled) r.blocked s.glued s.blocked;
}
second {A} {B} {Sf} {Ff} {Bf} Rf {ff} {mf} {ef} Sg {Fg} {Bg} Rg {fg} {mg} {eg} f g apart free ls rest x r (Stuck c end) s =
    relay Sg Fg Bg Rg rest (SpellsBoth Sf Sg) (SpellsBoth Ff Fg) (BeginsBoth Ff Bf Bg) (BreaksBoth Sf Rf Rg) ls c end
    (λ s. record {
      front = r.front ++ s.front;
      glued = r.glued ∙ ap (λ z. r.front ++ z) s.glued ∙ sym (append_assoc r.front s.front end);
      begun = inr (x, (r.front, s.front, refl, free x r.front r.spelled, s.begun));
      none = λ y sp.
          let (p, q, e, sp1, sq) = sp in
          let cut = one_cut f x y.0 r.front s.front p q (free x r.front r.spelled) sp1 (quiet g mf apart s.front s.begun) (quiet g mf apart q (g.begun y.1 q sq)) e in
          s.none y.1 (subst (Fg y.1) (sym cut.1) sq);
      blocked = both_blocked f g apart x r.front s.front rest end (free x r.front r.spelled) r.blocked s.glued s.blocked;
    })
    (λ s. record {
      front = r.front ++ s.front;
      last = s.last;
      more = s.more;
      glued = r.glued ∙ ap (λ z. r.front ++ z) s.glued ∙ sym (append_assoc r.front s.front end);
      stands = s.stands;
      begun = inr (x, (r.front, s.front, refl, free x r.front r.spelled, s.begun));
      breaks = inr (x, (r.front, s.front ++ s.last ∷ [], append_assoc r.front s.front (s.last ∷ []), r.spelled, s.breaks));
    }) s

pub both_sound : {A B : Type 0} {Sf Ff : A → List Piece → Type 0} {Bf : List Piece → Type 0} (Rf : Cause → List Piece → Type 0) {ff mf : List Want} {ef : Bool}
    (Sg : B → List Piece → Type 0) {Fg : B → List Piece → Type 0} {Bg : List Piece → Type 0} (Rg : Cause → List Piece → Type 0) {fg mg : List Want} {eg : Bool}
    → Shape Ff Bf ff mf ef → Shape Fg Bg fg mg eg → Apart mf fg → ((x : A) (a : List Piece) → Sf x a → Ff x a) → (rg : Reader B)
    → (ls : List Piece) → ((x : A) (rest : List Piece) → IsRead Sf Bf ls rest x → Sound Sg Fg Bg Rg rest (rg rest)) → (ans : Answer A) → Sound Sf Ff Bf Rf ls ans
    → Sound (SpellsBoth Sf Sg) (SpellsBoth Ff Fg) (BeginsBoth Ff Bf Bg) (BreaksBoth Sf Rf Rg) ls (after (λ x rest. made (λ y. (x, y)) (rg rest)) ans)
both_sound Rf Sg Rg f g apart free rg ls next (Got x rest) s = second Rf Sg Rg f g apart free ls rest x s (rg rest) (next x rest s)
both_sound {A} {B} {Sf} {Ff} {Bf} Rf {ff} {mf} {ef} Sg {Fg} {Bg} Rg {fg} {mg} {eg} f g apart free rg ls next (Stuck c rest) s =
    relay Sf Ff Bf Rf ls (SpellsBoth Sf Sg) (SpellsBoth Ff Fg) (BeginsBoth Ff Bf Bg) (BreaksBoth Sf Rf Rg) ls c rest
    (refused_both f g apart ls rest)
    (λ s. record { front = s.front; last = s.last; more = s.more; glued = s.glued; stands = s.stands; begun = inl s.begun; breaks = inl s.breaks }) s

-- what follows the first form is quiet for it
follows : (mf fg mg : List Want) (eg : Bool) → {B : Type 0} {Fg : B → List Piece → Type 0} {Bg : List Piece → Type 0} → Shape Fg Bg fg mg eg → Apart mf fg
    → (y : B) (q rest : List Piece) → Fg y q → Quiet (mg ++ (if eg then mf else [])) rest → Quiet mf (q ++ rest)
follows mf fg mg eg {B} {Fg} {Bg} g apart y q rest sq still =
    elim (headed q) [
      | inl nil ↦
          let filled : eg ≡ true = g.fills y (subst (Fg y) nil sq) in
          let last : Quiet mf rest = subst (λ z. Quiet (if z then mf else []) rest) filled (quiet_right mg (if eg then mf else []) rest still) in
          subst (λ z. Quiet mf (z ++ rest)) (sym nil) last
      | inr hd ↦
          let seen : may fg hd.head ≡ true = g.first hd.head hd.tail (subst Bg hd.is (g.begun y q sq)) in
          subst (λ z. Quiet mf (z ++ rest)) (sym hd.is) (apart_false mf fg apart hd.head seen)
    ]

pub both_agrees : {A B : Type 0} {Sf Ff : A → List Piece → Type 0} {Bf : List Piece → Type 0} {Rf : Cause → List Piece → Type 0} {ff mf : List Want} {ef : Bool}
    {Sg Fg : B → List Piece → Type 0} {Bg : List Piece → Type 0} {Rg : Cause → List Piece → Type 0} {fg mg : List Want} {eg : Bool}
    → Shape Ff Bf ff mf ef → Shape Fg Bg fg mg eg → Apart mf fg → {rf : Reader A} {rg : Reader B}
    → Agrees Sf Ff Bf Rf rf mf → Agrees Sg Fg Bg Rg rg mg
    → Agrees (SpellsBoth Sf Sg) (SpellsBoth Ff Fg) (BeginsBoth Ff Bf Bg) (BreaksBoth Sf Rf Rg) (λ ls. after (λ x rest. made (λ y. (x, y)) (rg rest)) (rf ls))
    (mg ++ (if eg then mf else []))
both_agrees {A} {B} {Sf} {Ff} {Bf} {Rf} {ff} {mf} {ef} {Sg} {Fg} {Bg} {Rg} {fg} {mg} {eg} f g apart {rf} {rg} af ag = record {
  free = λ y a h. let (p, q, e, sp, sq) = h in (p, q, e, af.free y.0 p sp, ag.free y.1 q sq);
  complete = λ y a rest h still.
      let (p, q, e, sp, sq) = h in
      let still_f : Quiet mf (q ++ rest) = follows mf fg mg eg g apart y.1 q rest (ag.free y.1 q sq) still in
      let one : rf (a ++ rest) ≡ Got y.0 (q ++ rest) = ap rf (ap (λ z. z ++ rest) e ∙ append_assoc p q rest) ∙ af.complete y.0 p (q ++ rest) sp still_f in
      let two : rg (q ++ rest) ≡ Got y.1 rest = ag.complete y.1 q rest sq (quiet_left mg (if eg then mf else []) rest still) in
      ap (after (λ x r. made (λ z. (x, z)) (rg r))) one ∙ ap (made (λ z. (y.0, z))) two;
  sound = λ ls. both_sound Rf Sg Rg f g apart af.free rg ls (λ x rest r. ag.sound rest) (rf ls) (af.sound ls);
}

-- ---- nothing, one token, and what is made of a form

nothing_next : (ls : List Piece) → Blocked (λ ls. ls ≡ []) [] ls
nothing_next [] = tt
nothing_next (l ∷ ls) = λ e. cc

pub nothing_agrees : {A : Type 0} (x : A) → Agrees {A = A} (λ y ls. (y ≡ x) × (ls ≡ [])) (λ y ls. (y ≡ x) × (ls ≡ [])) (λ ls. ls ≡ []) (λ c ls. ⊥) (λ ls. Got x ls) []
nothing_agrees {A} x = record {
  free = λ y a h. h;
  complete = λ y a rest h still. (let at : List Piece → Answer A = λ z. Got x (z ++ rest) in ap at h.1 ∙ ap (λ z. Got z rest) (sym h.0));
  sound = λ ls. record { front = []; glued = refl; spelled = (refl, refl); blocked = nothing_next ls };
}

abbrev IsPiece : Want → Piece → List Piece → Type 0
IsPiece w y ls = (ls ≡ y ∷ []) × (admits w y ≡ true)

abbrev BeginsToken : Want → List Piece → Type 0
BeginsToken w ls = (ls ≡ []) ⊎ IsToken w ls

token_next : (w : Want) (l : Piece) (ls : List Piece) → admits w l ≡ true → Blocked (BeginsToken w) (l ∷ []) ls
token_next w l [] e = tt
token_next w l (m ∷ ls) e = λ be. let no : may [] m ≡ true = token_goes w l (l ∷ []) m refl be in cc

token_sound : (w : Want) (ls : List Piece) → Sound (IsPiece w) (IsPiece w) (BeginsToken w) (λ c ls. ⊥) ls (one w ls)
token_sound w [] = record { front = []; glued = refl; begun = inl refl; none = λ y h. let no : [] ≡ y ∷ [] = h.0 in cc; blocked = tt }
token_sound w (l ∷ ls) =
    elim (admits w l) as (λ (b : Bool). admits w l ≡ b → Sound (IsPiece w) (IsPiece w) (BeginsToken w) (λ c ls. ⊥) (l ∷ ls) (if b then Got l ls else Stuck NotGrammar (l ∷ ls))) [
      | true ↦ λ e. record { front = l ∷ []; glued = refl; spelled = (refl, e); blocked = token_next w l ls e }
      | false ↦ λ e. record {
        front = [];
        glued = refl;
        begun = inl refl;
        none = λ y h. let no : [] ≡ y ∷ [] = h.0 in cc;
        blocked = λ be. true_false (true_or (admits w l) (token_first w l [] be)) e;
      }
    ] refl

pub token_agrees : (w : Want) → Agrees {A = Piece} (IsPiece w) (IsPiece w) (BeginsToken w) (λ c ls. ⊥) (one w) []
token_agrees w = record {
  free = λ y a h. h;
  complete = λ y a rest h still. ap (λ z. one w (z ++ rest)) h.0 ∙ ap (λ b. if b then Got y rest else Stuck NotGrammar (y ∷ rest)) h.1;
  sound = token_sound w;
}

abbrev SpellsMapped : {A B : Type 0} → (A → B) → (A → List Piece → Type 0) → B → List Piece → Type 0
SpellsMapped {A} make Sf y ls = (x : A) × (y ≡ make x) × Sf x ls

mapped_sound : {A B : Type 0} (make : A → B) (Sf Ff : A → List Piece → Type 0) (Bf : List Piece → Type 0) (Rf : Cause → List Piece → Type 0) (ls : List Piece) (ans : Answer A)
    → Sound Sf Ff Bf Rf ls ans
    → Sound (λ (y : B) ls. (x : A) × (y ≡ make x) × Sf x ls) (λ (y : B) ls. (x : A) × (y ≡ make x) × Ff x ls) Bf Rf ls (made make ans)
mapped_sound make Sf Ff Bf Rf ls (Got x rest) s = record { front = s.front; glued = s.glued; spelled = (x, refl, s.spelled); blocked = s.blocked }
mapped_sound make Sf Ff Bf Rf ls (Stuck c rest) s =
    relay Sf Ff Bf Rf ls (SpellsMapped make Sf) (SpellsMapped make Ff) Bf Rf ls c rest
    (λ s. record { front = s.front; glued = s.glued; begun = s.begun; none = λ y h. s.none h.0 h.2; blocked = s.blocked })
    (λ s. s) s

pub mapped_agrees : {A B : Type 0} (make : A → B) {Sf Ff : A → List Piece → Type 0} {Bf : List Piece → Type 0} {Rf : Cause → List Piece → Type 0} {rf : Reader A} {mf : List Want}
    → Agrees Sf Ff Bf Rf rf mf
    → Agrees (λ (y : B) ls. (x : A) × (y ≡ make x) × Sf x ls) (λ (y : B) ls. (x : A) × (y ≡ make x) × Ff x ls) Bf Rf (λ ls. made make (rf ls)) mf
mapped_agrees make {Sf} {Ff} {Bf} {Rf} {rf} af = record {
  free = λ y a h. (h.0, h.1, af.free h.0 a h.2);
  complete = λ y a rest h still. ap (made make) (af.complete h.0 a rest h.2 still) ∙ ap (λ z. Got z rest) (sym h.1);
  sound = λ ls. mapped_sound make Sf Ff Bf Rf ls (rf ls) (af.sound ls);
}

-- ---- a choice

-- a front and the piece behind it have the head of the list
pub record FrontHead (l : Piece) (a : List Piece) (m : Piece) : Type 0 where
  pub tail : List Piece
  pub is : a ++ m ∷ [] ≡ l ∷ tail

pub front_head : (l : Piece) (ls a : List Piece) (m : Piece) (rest : List Piece) → l ∷ ls ≡ a ++ m ∷ rest → FrontHead l a m
front_head l ls [] m rest e = record { tail = []; is = ap (λ z. z ∷ []) (sym (head_of l m ls rest e)) }
front_head l ls (n ∷ a) m rest e = record { tail = a ++ m ∷ []; is = ap (λ z. z ∷ (a ++ m ∷ [])) (sym (head_of l n ls (a ++ m ∷ rest) e)) }

pub quiet_starts : (wants : List Want) (ls : List Piece) → Quiet wants ls → starts wants ls ≡ false
quiet_starts wants [] q = refl
quiet_starts wants (l ∷ ls) q = q

abbrev BeginsEither : (List Piece → Type 0) → (List Piece → Type 0) → List Piece → Type 0
BeginsEither Bf Bg ls = Bf ls ⊎ Bg ls

abbrev SpellsEither : {A : Type 0} → (A → List Piece → Type 0) → (A → List Piece → Type 0) → A → List Piece → Type 0
SpellsEither Sf Sg x ls = Sf x ls ⊎ Sg x ls

abbrev BreaksEither : (Cause → List Piece → Type 0) → (Cause → List Piece → Type 0) → Cause → List Piece → Type 0
BreaksEither Rf Rg c ls = Rf c ls ⊎ Rg c ls

f_blocked : {A : Type 0} {Ff : A → List Piece → Type 0} {Bf : List Piece → Type 0} {ff mf : List Want} {ef : Bool}
    {Fg : A → List Piece → Type 0} {Bg : List Piece → Type 0} {fg mg : List Want} {eg : Bool}
    → Shape Ff Bf ff mf ef → Shape Fg Bg fg mg eg → Apart ff fg → (l : Piece) (ls a rest : List Piece) → may ff l ≡ true → l ∷ ls ≡ a ++ rest → Blocked Bf a rest
    → Blocked (BeginsEither Bf Bg) a rest
f_blocked f g apart l ls a [] first e b = tt
f_blocked {A} {Ff} {Bf} {ff} {mf} {ef} {Fg} {Bg} {fg} f g apart l ls a (m ∷ rest) first e b = λ be. elim be [
  | inl h ↦ b h
  | inr h ↦ let head = front_head l ls a m rest e in apart l first (g.first l head.tail (subst Bg head.is h))
]

g_blocked : {A : Type 0} {Ff : A → List Piece → Type 0} {Bf : List Piece → Type 0} {ff mf : List Want} {ef : Bool} (Bg : List Piece → Type 0)
    → Shape Ff Bf ff mf ef → (ls a rest : List Piece) → starts ff ls ≡ false → ls ≡ a ++ rest → Blocked Bg a rest → Blocked (BeginsEither Bf Bg) a rest
g_blocked Bg f ls a [] first e b = tt
g_blocked {A} {Ff} {Bf} {ff} Bg f ls a (m ∷ rest) first e b = λ be. elim be [
  | inl h ↦ elim ls as (λ (z : List Piece). z ≡ a ++ m ∷ rest → starts ff z ≡ false → ⊥) [
    | [] ↦ λ e2 s. let no : a ++ m ∷ rest ≡ [] = sym e2 in let none : m ∷ rest ≡ [] = no_back a (m ∷ rest) no in cc
    | l ∷ k ↦ λ e2 s. let head = front_head l k a m rest e2 in true_false (f.first l head.tail (subst Bf head.is h)) s
  ] e first
  | inr h ↦ b h
]

abbrev SoundEither : {A : Type 0} → (Sf Ff : A → List Piece → Type 0) → (Bf : List Piece → Type 0) → (Rf : Cause → List Piece → Type 0)
    → (Sg Fg : A → List Piece → Type 0) → (Bg : List Piece → Type 0) → (Rg : Cause → List Piece → Type 0) → List Piece → Answer A → Type 0
SoundEither Sf Ff Bf Rf Sg Fg Bg Rg = Sound (SpellsEither Sf Sg) (SpellsEither Ff Fg) (BeginsEither Bf Bg) (BreaksEither Rf Rg)

from_f : {A : Type 0} (Sf Ff : A → List Piece → Type 0) (Bf : List Piece → Type 0) (Rf : Cause → List Piece → Type 0) {ff mf : List Want} {ef : Bool}
    (Sg Fg : A → List Piece → Type 0) (Bg : List Piece → Type 0) (Rg : Cause → List Piece → Type 0) {fg mg : List Want} {eg : Bool}
    → Shape Ff Bf ff mf ef → Shape Fg Bg fg mg eg → Apart ff fg → (l : Piece) (ls : List Piece) → may ff l ≡ true → (ans : Answer A) → Sound Sf Ff Bf Rf (l ∷ ls) ans
    → SoundEither Sf Ff Bf Rf Sg Fg Bg Rg (l ∷ ls) ans
from_f Sf Ff Bf Rf Sg Fg Bg Rg f g apart l ls first (Got x rest) s =
    record { front = s.front; glued = s.glued; spelled = inl s.spelled; blocked = f_blocked f g apart l ls s.front rest first s.glued s.blocked }
from_f Sf Ff Bf Rf {ff} {mf} {ef} Sg Fg Bg Rg {fg} f g apart l ls first (Stuck c rest) s =
    relay Sf Ff Bf Rf (l ∷ ls) (SpellsEither Sf Sg) (SpellsEither Ff Fg) (BeginsEither Bf Bg) (BreaksEither Rf Rg) (l ∷ ls) c rest
    (λ s. record {
      front = s.front;
      glued = s.glued;
      begun = inl s.begun;
      none = λ x h. elim h [
        | inl a ↦ s.none x a
        | inr b ↦ elim (headed s.front) [
          | inl nil ↦
              let whole : l ∷ ls ≡ rest = s.glued ∙ ap (λ z. z ++ rest) nil in
              let shut : Bf (s.front ++ l ∷ []) → ⊥ = subst (Blocked Bf s.front) (sym whole) s.blocked in
              shut (subst (λ z. Bf (z ++ l ∷ [])) (sym nil) (f.able l first))
          | inr hd ↦
              let same : l ≡ hd.head = head_of l hd.head ls (hd.tail ++ rest) (s.glued ∙ ap (λ z. z ++ rest) hd.is) in
              let other : may fg hd.head ≡ true = g.first hd.head hd.tail (subst Bg hd.is (g.begun x s.front b)) in
              apart l first (ap (may fg) same ∙ other)
        ]
      ];
      blocked = f_blocked f g apart l ls s.front rest first s.glued s.blocked;
    })
    (λ s. record { front = s.front; last = s.last; more = s.more; glued = s.glued; stands = s.stands; begun = inl s.begun; breaks = inl s.breaks }) s

from_g : {A : Type 0} (Sf Ff : A → List Piece → Type 0) (Bf : List Piece → Type 0) (Rf : Cause → List Piece → Type 0) {ff mf : List Want} {ef : Bool}
    (Sg Fg : A → List Piece → Type 0) (Bg : List Piece → Type 0) (Rg : Cause → List Piece → Type 0)
    → Shape Ff Bf ff mf ef → ef ≡ false → (ls : List Piece) → starts ff ls ≡ false → (ans : Answer A) → Sound Sg Fg Bg Rg ls ans
    → SoundEither Sf Ff Bf Rf Sg Fg Bg Rg ls ans
from_g Sf Ff Bf Rf Sg Fg Bg Rg f full ls first (Got x rest) s =
    record { front = s.front; glued = s.glued; spelled = inr s.spelled; blocked = g_blocked Bg f ls s.front rest first s.glued s.blocked }
from_g Sf Ff Bf Rf {ff} Sg Fg Bg Rg f full ls first (Stuck c rest) s =
    relay Sg Fg Bg Rg ls (SpellsEither Sf Sg) (SpellsEither Ff Fg) (BeginsEither Bf Bg) (BreaksEither Rf Rg) ls c rest
    (λ s. record {
      front = s.front;
      glued = s.glued;
      begun = inr s.begun;
      none = λ x h. elim h [
        | inl a ↦ elim (headed s.front) [
          | inl nil ↦ true_false (f.fills x (subst (Ff x) nil a)) full
          | inr hd ↦
              let whole : ls ≡ hd.head ∷ (hd.tail ++ rest) = s.glued ∙ ap (λ z. z ++ rest) hd.is in
              true_false (f.first hd.head hd.tail (subst Bf hd.is (f.begun x s.front a))) (subst (λ z. starts ff z ≡ false) whole first)
        ]
        | inr b ↦ s.none x b
      ];
      blocked = g_blocked Bg f ls s.front rest first s.glued s.blocked;
    })
    (λ s. record { front = s.front; last = s.last; more = s.more; glued = s.glued; stands = s.stands; begun = inr s.begun; breaks = inr s.breaks }) s

either_sound : {A : Type 0} (Sf Ff : A → List Piece → Type 0) (Bf : List Piece → Type 0) (Rf : Cause → List Piece → Type 0) {ff mf : List Want} {ef : Bool}
    (Sg Fg : A → List Piece → Type 0) (Bg : List Piece → Type 0) (Rg : Cause → List Piece → Type 0) {fg mg : List Want} {eg : Bool}
    → Shape Ff Bf ff mf ef → Shape Fg Bg fg mg eg → ef ≡ false → Apart ff fg → (rf rg : Reader A) → ((ls : List Piece) → Sound Sf Ff Bf Rf ls (rf ls))
    → ((ls : List Piece) → Sound Sg Fg Bg Rg ls (rg ls)) → (ls : List Piece)
    → SoundEither Sf Ff Bf Rf Sg Fg Bg Rg ls (if starts ff ls then rf ls else rg ls)
either_sound Sf Ff Bf Rf Sg Fg Bg Rg f g full apart rf rg sf sg [] = from_g Sf Ff Bf Rf Sg Fg Bg Rg f full [] refl (rg []) (sg [])
either_sound Sf Ff Bf Rf {ff} Sg Fg Bg Rg f g full apart rf rg sf sg (l ∷ ls) =
    elim (may ff l) as (λ (b : Bool). may ff l ≡ b → SoundEither Sf Ff Bf Rf Sg Fg Bg Rg (l ∷ ls) (if b then rf (l ∷ ls) else rg (l ∷ ls))) [
      | true ↦ λ e. from_f Sf Ff Bf Rf Sg Fg Bg Rg f g apart l ls e (rf (l ∷ ls)) (sf (l ∷ ls))
      | false ↦ λ e. from_g Sf Ff Bf Rf Sg Fg Bg Rg f full (l ∷ ls) e (rg (l ∷ ls)) (sg (l ∷ ls))
    ] refl

pub either_agrees : {A : Type 0} {Sf Ff : A → List Piece → Type 0} {Bf : List Piece → Type 0} {Rf : Cause → List Piece → Type 0} {ff mf : List Want} {ef : Bool}
    {Sg Fg : A → List Piece → Type 0} {Bg : List Piece → Type 0} {Rg : Cause → List Piece → Type 0} {fg mg : List Want} {eg : Bool}
    → Shape Ff Bf ff mf ef → Shape Fg Bg fg mg eg → ef ≡ false → Apart ff fg → {rf rg : Reader A} → Agrees Sf Ff Bf Rf rf mf → Agrees Sg Fg Bg Rg rg mg
    → Agrees (SpellsEither Sf Sg) (SpellsEither Ff Fg) (BeginsEither Bf Bg) (BreaksEither Rf Rg) (λ ls. if starts ff ls then rf ls else rg ls)
    (mf ++ (mg ++ (if eg then ff else [])))
either_agrees {A} {Sf} {Ff} {Bf} {Rf} {ff} {mf} {ef} {Sg} {Fg} {Bg} {Rg} {fg} {mg} {eg} f g full apart {rf} {rg} af ag = record {
  free = λ x a h. elim h [ inl s ↦ inl (af.free x a s) | inr s ↦ inr (ag.free x a s) ];
  complete = λ x a rest h still.
      let rest_of : List Want = mg ++ (if eg then ff else []) in
      elim h [
        | inl s ↦
            let reads : rf (a ++ rest) ≡ Got x rest = af.complete x a rest s (quiet_left mf rest_of rest still) in
            elim (headed a) [
              | inl nil ↦ absurd (true_false (f.fills x (subst (Ff x) nil (af.free x a s))) full)
              | inr hd ↦
                  let seen : may ff hd.head ≡ true = f.first hd.head hd.tail (subst Bf hd.is (f.begun x a (af.free x a s))) in
                  let test : starts ff (a ++ rest) ≡ true = ap (λ z. starts ff (z ++ rest)) hd.is ∙ seen in
                  ap (λ b. if b then rf (a ++ rest) else rg (a ++ rest)) test ∙ reads
            ]
        | inr s ↦
            let reads : rg (a ++ rest) ≡ Got x rest = ag.complete x a rest s (quiet_left mg (if eg then ff else []) rest (quiet_right mf rest_of rest still)) in
            let test : starts ff (a ++ rest) ≡ false = elim (headed a) [
              | inl nil ↦
                  let filled : eg ≡ true = g.fills x (subst (Fg x) nil (ag.free x a s)) in
                  let last : Quiet ff rest = subst (λ z. Quiet (if z then ff else []) rest) filled
                  (quiet_right mg (if eg then ff else []) rest (quiet_right mf rest_of rest still)) in
                  ap (λ z. starts ff (z ++ rest)) nil ∙ quiet_starts ff rest last
              | inr hd ↦
                  let seen : may fg hd.head ≡ true = g.first hd.head hd.tail (subst Bg hd.is (g.begun x a (ag.free x a s))) in
                  ap (λ z. starts ff (z ++ rest)) hd.is ∙ apart_false ff fg apart hd.head seen
            ] in
            ap (λ b. if b then rf (a ++ rest) else rg (a ++ rest)) test ∙ reads
      ];
  sound = either_sound Sf Ff Bf Rf Sg Fg Bg Rg f g full apart rf rg af.sound ag.sound;
}

-- ---- a form of at most so many tokens

pub record Cut (n : ℕ) (a : List Piece) : Type 0 where
  pub start : List Piece
  pub last : Piece
  pub more : List Piece
  pub is : a ≡ start ++ last ∷ more
  pub size : length start ≡ n
  pub dropped : (rest : List Piece) → drop n (a ++ rest) ≡ last ∷ (more ++ rest)

cut_at : (n : ℕ) (a : List Piece) → suc n ≤ length a → Cut n a
cut_at n [] le = absurd (omega (arith, le))
cut_at zero (l ∷ a) le = record { start = []; last = l; more = a; is = refl; size = refl; dropped = λ rest. refl }
cut_at (suc n) (l ∷ a) le =
    let fewer : suc n ≤ length a = omega (arith, le) in
    let c = cut_at n a fewer in
    record { start = l ∷ c.start; last = c.last; more = c.more; is = ap (λ z. l ∷ z) c.is; size = ap suc c.size; dropped = c.dropped }

abbrev pub SpWithin : {A : Type 0} → ℕ → (A → List Piece → Type 0) → A → List Piece → Type 0
SpWithin most Sf x ls = Sf x ls × (length ls ≤ most)

abbrev pub BrWithin : ℕ → (List Piece → Type 0) → (Cause → List Piece → Type 0) → Cause → List Piece → Type 0
BrWithin most Bf Rf c ls = (Rf c ls × (length ls ≤ suc most)) ⊎ ((c ≡ TooManyTokens) × Bf ls × (length ls ≡ suc most))

too_many : (most : ℕ) (Bf : List Piece → Type 0) (Rf : Cause → List Piece → Type 0) → ((a b : List Piece) → Bf (a ++ b) → Bf a) → (ls front rest : List Piece) → ls ≡ front ++ rest → Bf front
    → suc most ≤ length front → IsBroken Bf (BrWithin most Bf Rf TooManyTokens) ls (drop most ls)
too_many most Bf Rf closed ls front rest e begun le =
    let c = cut_at most front le in
    let dropped : drop most ls ≡ c.last ∷ (c.more ++ rest) = ap (drop most) e ∙ c.dropped rest in
    let split : front ≡ (c.start ++ c.last ∷ []) ++ c.more = c.is ∙ sym (append_assoc c.start (c.last ∷ []) c.more) in
    record {
      front = c.start;
      last = c.last;
      more = c.more ++ rest;
      glued = e ∙ ap (λ z. z ++ rest) c.is ∙ append_assoc c.start (c.last ∷ c.more) rest ∙ ap (λ z. c.start ++ z) (sym dropped);
      stands = dropped;
      begun = closed c.start (c.last ∷ c.more) (subst Bf c.is begun);
      breaks = inr (refl, closed (c.start ++ c.last ∷ []) c.more (subst Bf split begun), omega (arith, length-append c.start (c.last ∷ []), c.size));
    }

taken_size : (ls front rest : List Piece) → ls ≡ front ++ rest → length ls - length rest ≡ length front
taken_size ls front rest e = omega (arith, ap length e, length-append front rest)

-- how far an answer got
record Reach (Bf : List Piece → Type 0) (ls rest : List Piece) : Type 0 where
  pub front : List Piece
  pub glued : ls ≡ front ++ rest
  pub begun : Bf front

abbrev SoundWithin : {A : Type 0} → ℕ → (Sf Ff : A → List Piece → Type 0) → (Bf : List Piece → Type 0) → (Rf : Cause → List Piece → Type 0) → List Piece → Answer A → Type 0
SoundWithin most Sf Ff Bf Rf = Sound (SpWithin most Sf) Ff Bf (BrWithin most Bf Rf)

reach : {A : Type 0} (Sf Ff : A → List Piece → Type 0) (Bf : List Piece → Type 0) (Rf : Cause → List Piece → Type 0) (ls : List Piece) (c : Cause) (rest : List Piece)
    → Sound Sf Ff Bf Rf ls (Stuck c rest) → Reach Bf ls rest
reach Sf Ff Bf Rf ls NotGrammar rest s = record { front = s.front; glued = s.glued; begun = s.begun }
reach Sf Ff Bf Rf ls TooDeep rest s = record { front = s.front; glued = s.glued; begun = s.begun }
reach Sf Ff Bf Rf ls TooManyTokens rest s = record { front = s.front; glued = s.glued; begun = s.begun }
reach Sf Ff Bf Rf ls TooManyStatics rest s = record { front = s.front; glued = s.glued; begun = s.begun }
reach Sf Ff Bf Rf ls TooManyModels rest s = record { front = s.front; glued = s.glued; begun = s.begun }
reach Sf Ff Bf Rf ls TooManyFields rest s = record { front = s.front; glued = s.glued; begun = s.begun }
reach Sf Ff Bf Rf ls TooManyCommands rest s = record { front = s.front; glued = s.glued; begun = s.begun }

within_sound : {A : Type 0} (most : ℕ) (Sf Ff : A → List Piece → Type 0) (Bf : List Piece → Type 0) (Rf : Cause → List Piece → Type 0) → ((a b : List Piece) → Bf (a ++ b) → Bf a)
    → ((x : A) (a : List Piece) → Sf x a → Bf a) → (ls : List Piece) (ans : Answer A) → Sound Sf Ff Bf Rf ls ans → SoundWithin most Sf Ff Bf Rf ls (at_most most ls ans)
within_sound most Sf Ff Bf Rf closed begun ls (Got x rest) s =
    let size = taken_size ls s.front rest s.glued in
    elim (nat_le (length ls - length rest) most) as (λ (b : Bool). nat_le (length ls - length rest) most ≡ b
    → SoundWithin most Sf Ff Bf Rf ls (if b then Got x rest else Stuck TooManyTokens (drop most ls))) [
      | true ↦ λ e.
          let le = leb-true (length ls - length rest) most e in
          record { front = s.front; glued = s.glued; spelled = (s.spelled, omega (arith, le, size)); blocked = s.blocked }
      | false ↦ λ e.
          let lt = leb-false (length ls - length rest) most e in
          too_many most Bf Rf closed ls s.front rest s.glued (begun x s.front s.spelled) (omega (arith, lt, size))
    ] refl
within_sound most Sf Ff Bf Rf closed begun ls (Stuck c rest) s =
    let r = reach Sf Ff Bf Rf ls c rest s in
    let size = taken_size ls r.front rest r.glued in
    elim (nat_le (length ls - length rest) most) as (λ (b : Bool). nat_le (length ls - length rest) most ≡ b
    → SoundWithin most Sf Ff Bf Rf ls (if b then Stuck c rest else Stuck TooManyTokens (drop most ls))) [
      | true ↦ λ e.
          let le = leb-true (length ls - length rest) most e in
          relay Sf Ff Bf Rf ls (SpWithin most Sf) Ff Bf (BrWithin most Bf Rf) ls c rest (λ s. s)
          (λ s. record {
            front = s.front;
            last = s.last;
            more = s.more;
            glued = s.glued;
            stands = s.stands;
            begun = s.begun;
            breaks = inl (s.breaks, (let own = taken_size ls s.front rest s.glued in omega (arith, le, own, length-append s.front (s.last ∷ []))));
          }) s
      | false ↦ λ e.
          let lt = leb-false (length ls - length rest) most e in
          too_many most Bf Rf closed ls r.front rest r.glued r.begun (omega (arith, lt, size))
    ] refl

pub within_agrees : {A : Type 0} (most : ℕ) {Sf Ff : A → List Piece → Type 0} {Bf : List Piece → Type 0} {Rf : Cause → List Piece → Type 0} {ff mf : List Want} {ef : Bool}
    → Shape Ff Bf ff mf ef → {rf : Reader A} → Agrees Sf Ff Bf Rf rf mf → Agrees (SpWithin most Sf) Ff Bf (BrWithin most Bf Rf) (λ ls. at_most most ls (rf ls)) mf
within_agrees most {Sf} {Ff} {Bf} {Rf} f {rf} af = record {
  free = λ x a h. af.free x a h.0;
  complete = λ x a rest h still.
      let size = taken_size (a ++ rest) a rest refl in
      let test : nat_le (length (a ++ rest) - length rest) most ≡ true = le-leb (length (a ++ rest) - length rest) most (omega (arith, size, h.1)) in
      ap (at_most most (a ++ rest)) (af.complete x a rest h.0 still) ∙ ap (λ (b : Bool). if b then Got x rest else Stuck TooManyTokens (drop most (a ++ rest))) test;
  sound = λ ls. within_sound most Sf Ff Bf Rf f.closed (λ x a h. f.begun x a (af.free x a h)) ls (rf ls) (af.sound ls);
}
