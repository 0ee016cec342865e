-- The shape of a form that ends items behind a token.
use Rattle.std.proofs.Common.{◌≡◌, ◌⊎◌, inl, inr, List, [], ◌∷◌, ◌++◌, refl, ap, sym, ◌∙◌, subst, append_assoc, Bool, true, false, ◌||◌}
use Rattle.std.specs.Prelude.{if◌then◌else◌}
use Rattle.text_ast.specs.Pieces.{Piece}
use Rattle.text_tree.specs.Forms.{Want, admits, IsToken, SpellsEach, ◌then◌, may}
use Rattle.text_grammar.proofs.Lists.{compare, Quiet, may_left, may_right, snoc_not_nil, no_front, no_back, head_of, tail_of, true_false, Apart, apart_false, headed}
use Rattle.text_grammar.proofs.Shapes.{Shape, stops, one_cut, or_false, true_or, if_then, decided, which}

abbrev pub Behind : Want → (List Piece → Type 0) → List Piece → Type 0
Behind w F = IsToken w then F

abbrev pub SpellsEnd : {B : Type 0} → Want → (B → List Piece → Type 0) → (B → List Piece → Type 0) → B → List Piece → Type 0
SpellsEnd w Sg Sh y rest = Behind w (Sg y) rest ⊎ Sh y rest

abbrev pub BeginsEnd : Want → (List Piece → Type 0) → (List Piece → Type 0) → (List Piece → Type 0) → List Piece → Type 0
BeginsEnd w Bf Bg Bh rest = Bh rest ⊎ Behind w (λ more. Bf more ⊎ Bg more) rest

abbrev pub Items : {A : Type 0} → Want → (A → List Piece → Type 0) → List A → List Piece → Type 0
Items w Sf = SpellsEach (λ x. Behind w (Sf x))

abbrev pub SpellsEnded : {A B : Type 0} → Want → (A → List Piece → Type 0) → (B → List Piece → Type 0) → (B → List Piece → Type 0) → List A × B → List Piece → Type 0
SpellsEnded w Sf Sg Sh y ls = (Items w Sf y.0 then SpellsEnd w Sg Sh y.1) ls

abbrev pub BeginsEnded : {A : Type 0} → Want → (A → List Piece → Type 0) → (List Piece → Type 0) → (List Piece → Type 0) → (List Piece → Type 0) → List Piece → Type 0
BeginsEnded {A} w Sf Bf Bg Bh ls = (xs : List A) × (Items w Sf xs then BeginsEnd w Bf Bg Bh) ls

-- what the three forms have to meet
pub record Ends {A B : Type 0} (w : Want) (Sf : A → List Piece → Type 0) (Bf : List Piece → Type 0) (ff mf : List Want) (ef : Bool)
    (Sg : B → List Piece → Type 0) (Bg : List Piece → Type 0) (fg mg : List Want) (eg : Bool)
    (Sh : B → List Piece → Type 0) (Bh : List Piece → Type 0) (fh mh : List Want) (eh : Bool) : Type 0 where
  pub f : Shape Sf Bf ff mf ef
  pub g : Shape Sg Bg fg mg eg
  pub h : Shape Sh Bh fh mh eh
  pub f_full : ef ≡ false
  pub g_full : eg ≡ false
  pub f_g : Apart ff fg
  pub w_h : Apart (w ∷ []) fh
  pub f_w : Apart mf (w ∷ [])
  pub f_h : Apart mf fh

-- a list behind a token has it as its head
pub record Token (w : Want) (F : List Piece → Type 0) (ls : List Piece) : Type 0 where
  pub head : Piece
  pub tail : List Piece
  pub is : ls ≡ head ∷ tail
  pub admitted : admits w head ≡ true
  pub behind : F tail

pub taken : (w : Want) (F : List Piece → Type 0) (ls : List Piece) → Behind w F ls → Token w F ls
taken w F ls (p, q, e, t, fq) =
    record { head = t.0; tail = q; is = e ∙ ap (λ z. z ++ q) t.1; admitted = t.2; behind = fq }

pub may_one : (w : Want) (l : Piece) → admits w l ≡ true → may (w ∷ []) l ≡ true
may_one w l e = or_false (admits w l) e

pub token_of : (w : Want) (l : Piece) → admits w l ≡ true → IsToken w (l ∷ [])
token_of w l e = (l, refl, e)

pub end_first : {A B : Type 0} {w : Want} {Sf : A → List Piece → Type 0} {Bf : List Piece → Type 0} {ff mf : List Want} {ef : Bool}
    {Sg : B → List Piece → Type 0} {Bg : List Piece → Type 0} {fg mg : List Want} {eg : Bool}
    {Sh : B → List Piece → Type 0} {Bh : List Piece → Type 0} {fh mh : List Want} {eh : Bool}
    → Ends w Sf Bf ff mf ef Sg Bg fg mg eg Sh Bh fh mh eh
    → (l : Piece) (ls : List Piece) → BeginsEnd w Bf Bg Bh (l ∷ ls) → may (w ∷ fh) l ≡ true
end_first {A} {B} {w} {Sf} {Bf} {ff} {mf} {ef} {Sg} {Bg} {fg} {mg} {eg} {Sh} {Bh} {fh} {mh} {eh} s l ls (inl b) = may_right (w ∷ []) fh l (s.h.first l ls b)
end_first {A} {B} {w} {Sf} {Bf} {ff} {mf} {ef} {Sg} {Bg} {fg} {mg} {eg} {Sh} {Bh} {fh} {mh} {eh} s l ls (inr b) =
    let k = taken w (λ more. Bf more ⊎ Bg more) (l ∷ ls) b in
    may_left (w ∷ []) fh l (may_one w l (ap (admits w) (head_of l k.head ls k.tail k.is) ∙ k.admitted))

pub end_begun : {A B : Type 0} {w : Want} {Sf : A → List Piece → Type 0} {Bf : List Piece → Type 0} {ff mf : List Want} {ef : Bool}
    {Sg : B → List Piece → Type 0} {Bg : List Piece → Type 0} {fg mg : List Want} {eg : Bool}
    {Sh : B → List Piece → Type 0} {Bh : List Piece → Type 0} {fh mh : List Want} {eh : Bool}
    → Ends w Sf Bf ff mf ef Sg Bg fg mg eg Sh Bh fh mh eh
    → (y : B) (r : List Piece) → SpellsEnd w Sg Sh y r → BeginsEnd w Bf Bg Bh r
end_begun s y r (inl (p, q, e, t, sg)) = inr (p, q, e, t, inr (s.g.begun y q sg))
end_begun s y r (inr sh) = inl (s.h.begun y r sh)

pub end_fills : {A B : Type 0} {w : Want} {Sf : A → List Piece → Type 0} {Bf : List Piece → Type 0} {ff mf : List Want} {ef : Bool}
    {Sg : B → List Piece → Type 0} {Bg : List Piece → Type 0} {fg mg : List Want} {eg : Bool}
    {Sh : B → List Piece → Type 0} {Bh : List Piece → Type 0} {fh mh : List Want} {eh : Bool}
    → Ends w Sf Bf ff mf ef Sg Bg fg mg eg Sh Bh fh mh eh
    → (y : B) → SpellsEnd w Sg Sh y [] → eh ≡ true
end_fills {A} {B} {w} {Sf} {Bf} {ff} {mf} {ef} {Sg} {Bg} {fg} {mg} {eg} {Sh} {Bh} {fh} {mh} {eh} s y (inl b) = let k = taken w (Sg y) [] b in let no : [] ≡ k.head ∷ k.tail = k.is in cc
end_fills s y (inr sh) = s.h.fills y sh

pub rest_first : {A B : Type 0} {w : Want} {Sf : A → List Piece → Type 0} {Bf : List Piece → Type 0} {ff mf : List Want} {ef : Bool}
    {Sg : B → List Piece → Type 0} {Bg : List Piece → Type 0} {fg mg : List Want} {eg : Bool}
    {Sh : B → List Piece → Type 0} {Bh : List Piece → Type 0} {fh mh : List Want} {eh : Bool}
    → Ends w Sf Bf ff mf ef Sg Bg fg mg eg Sh Bh fh mh eh
    → (xs : List A) (p q : List Piece) (l : Piece) (ls : List Piece) → Items w Sf xs p → BeginsEnd w Bf Bg Bh q → p ++ q ≡ l ∷ ls → may (w ∷ fh) l ≡ true
rest_first {A} {B} {w} {Sf} {Bf} {ff} {mf} {ef} {Sg} {Bg} {fg} {mg} {eg} {Sh} {Bh} {fh} {mh} {eh} s [] p q l ls items b e =
    end_first s l ls (subst (BeginsEnd w Bf Bg Bh) (ap (λ z. z ++ q) (sym items) ∙ e) b)
rest_first {A} {B} {w} {Sf} {Bf} {ff} {mf} {ef} {Sg} {Bg} {fg} {mg} {eg} {Sh} {Bh} {fh} {mh} {eh} s (x ∷ xs) p q l ls (c, d, e1, sc, sd) b e =
    let k = taken w (Sf x) c sc in
    let same : k.head ≡ l = head_of k.head l (k.tail ++ (d ++ q)) ls (ap (λ z. z ++ (d ++ q)) (sym k.is) ∙ sym (append_assoc c d q) ∙ ap (λ z. z ++ q) (sym e1) ∙ e) in
    may_left (w ∷ []) fh l (may_one w l (sym (ap (admits w) same) ∙ k.admitted))

pub wh_apart : {A B : Type 0} {w : Want} {Sf : A → List Piece → Type 0} {Bf : List Piece → Type 0} {ff mf : List Want} {ef : Bool}
    {Sg : B → List Piece → Type 0} {Bg : List Piece → Type 0} {fg mg : List Want} {eg : Bool}
    {Sh : B → List Piece → Type 0} {Bh : List Piece → Type 0} {fh mh : List Want} {eh : Bool}
    → Ends w Sf Bf ff mf ef Sg Bg fg mg eg Sh Bh fh mh eh
    → Apart mf (w ∷ fh)
wh_apart {A} {B} {w} {Sf} {Bf} {ff} {mf} {ef} {Sg} {Bg} {fg} {mg} {eg} {Sh} {Bh} {fh} {mh} {eh} s l m e =
    elim (decided (w ∷ []) l) [
      | inl t ↦ s.f_w l m t
      | inr n ↦ s.f_h l m (elim (admits w l) as (λ (b : Bool). (b || false) ≡ false → (b || may fh l) ≡ true → may fh l ≡ true) [ true ↦ λ u v. cc | false ↦ λ u v. v ] n e)
    ]

rest_quiet : {A B : Type 0} {w : Want} {Sf : A → List Piece → Type 0} {Bf : List Piece → Type 0} {ff mf : List Want} {ef : Bool}
    {Sg : B → List Piece → Type 0} {Bg : List Piece → Type 0} {fg mg : List Want} {eg : Bool}
    {Sh : B → List Piece → Type 0} {Bh : List Piece → Type 0} {fh mh : List Want} {eh : Bool}
    → Ends w Sf Bf ff mf ef Sg Bg fg mg eg Sh Bh fh mh eh
    → (xs : List A) (p q : List Piece) → Items w Sf xs p → BeginsEnd w Bf Bg Bh q → Quiet mf (p ++ q)
rest_quiet {A} {B} {w} {Sf} {Bf} {ff} {mf} {ef} {Sg} {Bg} {fg} {mg} {eg} {Sh} {Bh} {fh} {mh} {eh} s xs p q items b =
    elim (p ++ q) as (λ (z : List Piece). p ++ q ≡ z → Quiet mf z)
    [ [] ↦ λ e. tt | l ∷ ls ↦ λ e. apart_false mf (w ∷ fh) (wh_apart s) l (rest_first s xs p q l ls items b e) ] refl

abbrev pub Mores : Want → List Want → List Want → List Want → Bool → List Want
Mores w mf mg mh eh = mg ++ (mh ++ (if eh then w ∷ mf else []))

in_last : (w : Want) (mf mg mh : List Want) (eh : Bool) (l : Piece) → eh ≡ true → may (w ∷ mf) l ≡ true → may (Mores w mf mg mh eh) l ≡ true
in_last w mf mg mh eh l e m = may_right mg (mh ++ (if eh then w ∷ mf else [])) l (may_right mh (if eh then w ∷ mf else []) l (if_then (w ∷ mf) [] eh l e m))

end_goes : {A B : Type 0} {w : Want} {Sf : A → List Piece → Type 0} {Bf : List Piece → Type 0} {ff mf : List Want} {ef : Bool}
    {Sg : B → List Piece → Type 0} {Bg : List Piece → Type 0} {fg mg : List Want} {eg : Bool}
    {Sh : B → List Piece → Type 0} {Bh : List Piece → Type 0} {fh mh : List Want} {eh : Bool}
    → Ends w Sf Bf ff mf ef Sg Bg fg mg eg Sh Bh fh mh eh
    → (y : B) (r : List Piece) (l : Piece) → SpellsEnd w Sg Sh y r → BeginsEnd w Bf Bg Bh (r ++ l ∷ []) → may (Mores w mf mg mh eh) l ≡ true
end_goes {A} {B} {w} {Sf} {Bf} {ff} {mf} {ef} {Sg} {Bg} {fg} {mg} {eg} {Sh} {Bh} {fh} {mh} {eh} s y r l (inl sp) (inl b) =
    let k = taken w (Sg y) r sp in
    absurd (s.w_h k.head (may_one w k.head k.admitted) (s.h.first k.head (k.tail ++ l ∷ []) (subst (λ z. Bh (z ++ l ∷ [])) k.is b)))
end_goes {A} {B} {w} {Sf} {Bf} {ff} {mf} {ef} {Sg} {Bg} {fg} {mg} {eg} {Sh} {Bh} {fh} {mh} {eh} s y r l (inl sp) (inr b) =
    let k = taken w (Sg y) r sp in
    let m = taken w (λ more. Bf more ⊎ Bg more) (r ++ l ∷ []) b in
    let same : m.tail ≡ k.tail ++ l ∷ [] = sym (tail_of k.head m.head (k.tail ++ l ∷ []) m.tail (ap (λ z. z ++ l ∷ []) (sym k.is) ∙ m.is)) in
    elim m.behind [
      | inl bf ↦ elim (headed k.tail) [
        | inl none ↦ absurd (true_false (s.g.fills y (subst (Sg y) none k.behind)) s.g_full)
        | inr hd ↦
            let mine : may ff hd.head ≡ true = s.f.first hd.head (hd.tail ++ l ∷ []) (subst Bf (same ∙ ap (λ z. z ++ l ∷ []) hd.is) bf) in
            let other : may fg hd.head ≡ true = s.g.first hd.head hd.tail (subst Bg hd.is (s.g.begun y k.tail k.behind)) in
            absurd (s.f_g hd.head mine other)
      ]
      | inr bg ↦ may_left mg (mh ++ (if eh then w ∷ mf else [])) l (s.g.goes y k.tail l k.behind (subst Bg same bg))
    ]
end_goes {A} {B} {w} {Sf} {Bf} {ff} {mf} {ef} {Sg} {Bg} {fg} {mg} {eg} {Sh} {Bh} {fh} {mh} {eh} s y r l (inr sp) (inl b) =
    may_right mg (mh ++ (if eh then w ∷ mf else [])) l (may_left mh (if eh then w ∷ mf else []) l (s.h.goes y r l sp b))
end_goes {A} {B} {w} {Sf} {Bf} {ff} {mf} {ef} {Sg} {Bg} {fg} {mg} {eg} {Sh} {Bh} {fh} {mh} {eh} s y r l (inr sp) (inr b) =
    let m = taken w (λ more. Bf more ⊎ Bg more) (r ++ l ∷ []) b in
    elim (headed r) [
      | inl none ↦
          let same : l ≡ m.head = head_of l m.head [] m.tail (ap (λ z. z ++ l ∷ []) (sym none) ∙ m.is) in
          in_last w mf mg mh eh l (s.h.fills y (subst (Sh y) none sp)) (may_left (w ∷ []) mf l (may_one w l (ap (admits w) same ∙ m.admitted)))
      | inr hd ↦
          let same : hd.head ≡ m.head = head_of hd.head m.head (hd.tail ++ l ∷ []) m.tail (ap (λ z. z ++ l ∷ []) (sym hd.is) ∙ m.is) in
          absurd (s.w_h hd.head (may_one w hd.head (ap (admits w) same ∙ m.admitted)) (s.h.first hd.head hd.tail (subst Bh hd.is (s.h.begun y r sp))))
    ]

-- an end does not go on as a further item
end_item : {A B : Type 0} {w : Want} {Sf : A → List Piece → Type 0} {Bf : List Piece → Type 0} {ff mf : List Want} {ef : Bool}
    {Sg : B → List Piece → Type 0} {Bg : List Piece → Type 0} {fg mg : List Want} {eg : Bool}
    {Sh : B → List Piece → Type 0} {Bh : List Piece → Type 0} {fh mh : List Want} {eh : Bool}
    → Ends w Sf Bf ff mf ef Sg Bg fg mg eg Sh Bh fh mh eh
    → (y : B) (z : A) (r : List Piece) (l : Piece) (t : Piece) (k more : List Piece) → SpellsEnd w Sg Sh y r → admits w t ≡ true → Sf z k
    → r ++ l ∷ [] ≡ t ∷ (k ++ more) → ⊥
end_item {A} {B} {w} {Sf} {Bf} {ff} {mf} {ef} {Sg} {Bg} {fg} {mg} {eg} {Sh} {Bh} {fh} {mh} {eh} s y z r l t k more sp token sk e =
    elim (headed k) [
      | inl none ↦ true_false (s.f.fills z (subst (Sf z) none sk)) s.f_full
      | inr hd ↦
          let mine : may ff hd.head ≡ true = s.f.first hd.head hd.tail (subst Bf hd.is (s.f.begun z k sk)) in
          elim sp [
            | inl b ↦
                let m = taken w (Sg y) r b in
                let same : m.tail ++ l ∷ [] ≡ k ++ more = tail_of m.head t (m.tail ++ l ∷ []) (k ++ more) (ap (λ z. z ++ l ∷ []) (sym m.is) ∙ e) in
                elim (headed m.tail) [
                  | inl none ↦ true_false (s.g.fills y (subst (Sg y) none m.behind)) s.g_full
                  | inr h2 ↦
                      let head : h2.head ≡ hd.head = head_of h2.head hd.head (h2.tail ++ l ∷ []) (hd.tail ++ more)
                      (ap (λ z. z ++ l ∷ []) (sym h2.is) ∙ same ∙ ap (λ z. z ++ more) hd.is) in
                      s.f_g hd.head mine (sym (ap (may fg) head) ∙ s.g.first h2.head h2.tail (subst Bg h2.is (s.g.begun y m.tail m.behind)))
                ]
            | inr b ↦ elim (headed r) [
              | inl none ↦
                  let short : [] ≡ k ++ more = tail_of l t [] (k ++ more) (ap (λ z. z ++ l ∷ []) (sym none) ∙ e) in
                  let no : hd.head ∷ hd.tail ≡ [] = sym hd.is ∙ no_front k more (sym short) in
                  cc
              | inr h2 ↦
                  let same : h2.head ≡ t = head_of h2.head t (h2.tail ++ l ∷ []) (k ++ more) (ap (λ z. z ++ l ∷ []) (sym h2.is) ∙ e) in
                  s.w_h h2.head (may_one w h2.head (ap (admits w) same ∙ token)) (s.h.first h2.head h2.tail (subst Bh h2.is (s.h.begun y r b)))
            ]
          ]
    ]

ended_goes : {A B : Type 0} {w : Want} {Sf : A → List Piece → Type 0} {Bf : List Piece → Type 0} {ff mf : List Want} {ef : Bool}
    {Sg : B → List Piece → Type 0} {Bg : List Piece → Type 0} {fg mg : List Want} {eg : Bool}
    {Sh : B → List Piece → Type 0} {Bh : List Piece → Type 0} {fh mh : List Want} {eh : Bool}
    → Ends w Sf Bf ff mf ef Sg Bg fg mg eg Sh Bh fh mh eh
    → (xs zs : List A) (y : B) (p r p2 r2 : List Piece) (l : Piece) → Items w Sf xs p → SpellsEnd w Sg Sh y r → Items w Sf zs p2 → BeginsEnd w Bf Bg Bh r2
    → (p ++ r) ++ l ∷ [] ≡ p2 ++ r2 → may (Mores w mf mg mh eh) l ≡ true
ended_goes {A} {B} {w} {Sf} {Bf} {ff} {mf} {ef} {Sg} {Bg} {fg} {mg} {eg} {Sh} {Bh} {fh} {mh} {eh} s [] [] y p r p2 r2 l ip sr iz br e =
    let short : r ++ l ∷ [] ≡ r2 = ap (λ z. (z ++ r) ++ l ∷ []) (sym ip) ∙ e ∙ ap (λ z. z ++ r2) iz in
    end_goes s y r l sr (subst (BeginsEnd w Bf Bg Bh) (sym short) br)
ended_goes {A} {B} {w} {Sf} {Bf} {ff} {mf} {ef} {Sg} {Bg} {fg} {mg} {eg} {Sh} {Bh} {fh} {mh} {eh} s [] (z ∷ zs) y p r p2 r2 l ip sr (c, d, e1, sc, sd) br e =
    let k = taken w (Sf z) c sc in
    let all : r ++ l ∷ [] ≡ k.head ∷ (k.tail ++ (d ++ r2)) =
    ap (λ z. (z ++ r) ++ l ∷ []) (sym ip) ∙ e ∙ ap (λ z. z ++ r2) e1 ∙ append_assoc c d r2 ∙ ap (λ z. z ++ (d ++ r2)) k.is in
    absurd (end_item s y z r l k.head k.tail (d ++ r2) sr k.admitted k.behind all)
ended_goes {A} {B} {w} {Sf} {Bf} {ff} {mf} {ef} {Sg} {Bg} {fg} {mg} {eg} {Sh} {Bh} {fh} {mh} {eh} s (x ∷ xs) [] y p r p2 r2 l (c, d, e1, sc, sd) sr iz br e =
    let k = taken w (Sf x) c sc in
    let all : r2 ≡ k.head ∷ (k.tail ++ ((d ++ r) ++ l ∷ [])) =
    sym (e ∙ ap (λ z. z ++ r2) iz) ∙ ap (λ z. (z ++ r) ++ l ∷ []) e1 ∙ ap (λ z. z ++ l ∷ []) (append_assoc c d r) ∙ append_assoc c (d ++ r) (l ∷ [])
    ∙ ap (λ z. z ++ ((d ++ r) ++ l ∷ [])) k.is in
    elim br [
      | inl b ↦ absurd (s.w_h k.head (may_one w k.head k.admitted) (s.h.first k.head (k.tail ++ ((d ++ r) ++ l ∷ [])) (subst Bh all b)))
      | inr b ↦
          let m = taken w (λ more. Bf more ⊎ Bg more) r2 b in
          let same : m.tail ≡ k.tail ++ ((d ++ r) ++ l ∷ []) = tail_of m.head k.head m.tail (k.tail ++ ((d ++ r) ++ l ∷ [])) (sym m.is ∙ all) in
          elim m.behind [
            | inl bf ↦ elim (headed (d ++ r)) [
              | inl none ↦
                  let goes_on : may mf l ≡ true = s.f.goes x k.tail l k.behind (subst (λ z. Bf (k.tail ++ (z ++ l ∷ []))) none (subst Bf same bf)) in
                  let filled : eh ≡ true = end_fills s y (subst (SpellsEnd w Sg Sh y) (no_back d r none) sr) in
                  in_last w mf mg mh eh l filled (may_right (w ∷ []) mf l goes_on)
              | inr hd ↦
                  let seen : may (w ∷ fh) hd.head ≡ true = rest_first s xs d r hd.head hd.tail sd (end_begun s y r sr) hd.is in
                  let still : Quiet mf ((d ++ r) ++ l ∷ []) = subst (λ z. Quiet mf (z ++ l ∷ [])) (sym hd.is) (apart_false mf (w ∷ fh) (wh_apart s) hd.head seen) in
                  absurd (snoc_not_nil (d ++ r) l (stops s.f x k.tail ((d ++ r) ++ l ∷ []) k.behind (subst Bf same bf) still))
            ]
            | inr bg ↦ elim (headed k.tail) [
              | inl none ↦ absurd (true_false (s.f.fills x (subst (Sf x) none k.behind)) s.f_full)
              | inr hd ↦
                  let mine : may ff hd.head ≡ true = s.f.first hd.head hd.tail (subst Bf hd.is (s.f.begun x k.tail k.behind)) in
                  let other : may fg hd.head ≡ true = s.g.first hd.head (hd.tail ++ ((d ++ r) ++ l ∷ []))
                  (subst Bg (same ∙ ap (λ z. z ++ ((d ++ r) ++ l ∷ [])) hd.is) bg) in
                  absurd (s.f_g hd.head mine other)
            ]
          ]
    ]
ended_goes {A} {B} {w} {Sf} {Bf} {ff} {mf} {ef} {Sg} {Bg} {fg} {mg} {eg} {Sh} {Bh} {fh} {mh} {eh} s (x ∷ xs) (z ∷ zs) y p r p2 r2 l (c, d, e1, sc, sd) sr (c2, d2, e2, sc2, sd2) br e =
    let k = taken w (Sf x) c sc in
    let m = taken w (Sf z) c2 sc2 in
    let all : k.head ∷ (k.tail ++ ((d ++ r) ++ l ∷ [])) ≡ m.head ∷ (m.tail ++ (d2 ++ r2)) =
    ap (λ z. z ++ ((d ++ r) ++ l ∷ [])) (sym k.is) ∙ sym (append_assoc c (d ++ r) (l ∷ [])) ∙ ap (λ z. z ++ l ∷ []) (sym (append_assoc c d r))
    ∙ ap (λ z. (z ++ r) ++ l ∷ []) (sym e1) ∙ e ∙ ap (λ z. z ++ r2) e2 ∙ append_assoc c2 d2 r2 ∙ ap (λ z. z ++ (d2 ++ r2)) m.is in
    let rest : k.tail ++ ((d ++ r) ++ l ∷ []) ≡ m.tail ++ (d2 ++ r2) = tail_of k.head m.head (k.tail ++ ((d ++ r) ++ l ∷ [])) (m.tail ++ (d2 ++ r2)) all in
    let other : Quiet mf (d2 ++ r2) = rest_quiet s zs d2 r2 sd2 br in
    elim (headed (d ++ r)) [
      | inl none ↦ elim (decided mf l) [
        | inl goes_on ↦
            let filled : eh ≡ true = end_fills s y (subst (SpellsEnd w Sg Sh y) (no_back d r none) sr) in
            in_last w mf mg mh eh l filled (may_right (w ∷ []) mf l goes_on)
        | inr off ↦
            let cut = one_cut s.f x z k.tail ((d ++ r) ++ l ∷ []) m.tail (d2 ++ r2) k.behind m.behind (subst (λ z. Quiet mf (z ++ l ∷ [])) (sym none) off) other rest in
            ended_goes s xs zs y d r d2 r2 l sd sr sd2 br cut.1
      ]
      | inr hd ↦
          let seen : may (w ∷ fh) hd.head ≡ true = rest_first s xs d r hd.head hd.tail sd (end_begun s y r sr) hd.is in
          let still : Quiet mf ((d ++ r) ++ l ∷ []) = subst (λ z. Quiet mf (z ++ l ∷ [])) (sym hd.is) (apart_false mf (w ∷ fh) (wh_apart s) hd.head seen) in
          let cut = one_cut s.f x z k.tail ((d ++ r) ++ l ∷ []) m.tail (d2 ++ r2) k.behind m.behind still other rest in
          ended_goes s xs zs y d r d2 r2 l sd sr sd2 br cut.1
    ]

end_closed : {A B : Type 0} {w : Want} {Sf : A → List Piece → Type 0} {Bf : List Piece → Type 0} {ff mf : List Want} {ef : Bool}
    {Sg : B → List Piece → Type 0} {Bg : List Piece → Type 0} {fg mg : List Want} {eg : Bool}
    {Sh : B → List Piece → Type 0} {Bh : List Piece → Type 0} {fh mh : List Want} {eh : Bool}
    → Ends w Sf Bf ff mf ef Sg Bg fg mg eg Sh Bh fh mh eh
    → (a b : List Piece) → BeginsEnd w Bf Bg Bh (a ++ b) → BeginsEnd w Bf Bg Bh a
end_closed s a b (inl h) = inl (s.h.closed a b h)
end_closed s [] b (inr h) = inl s.h.opens
end_closed {A} {B} {w} {Sf} {Bf} {ff} {mf} {ef} {Sg} {Bg} {fg} {mg} {eg} {Sh} {Bh} {fh} {mh} {eh} s (t ∷ a) b (inr h) =
    let k = taken w (λ more. Bf more ⊎ Bg more) (t ∷ (a ++ b)) h in
    let token : IsToken w (t ∷ []) = token_of w t (ap (admits w) (head_of t k.head (a ++ b) k.tail k.is) ∙ k.admitted) in
    let rest : a ++ b ≡ k.tail = tail_of t k.head (a ++ b) k.tail k.is in
    inr (t ∷ [], a, refl, token, elim k.behind [ inl bf ↦ inl (s.f.closed a b (subst Bf (sym rest) bf)) | inr bg ↦ inr (s.g.closed a b (subst Bg (sym rest) bg)) ])

-- a front of an item behind the token
item_closed : {A B : Type 0} {w : Want} {Sf : A → List Piece → Type 0} {Bf : List Piece → Type 0} {ff mf : List Want} {ef : Bool}
    {Sg : B → List Piece → Type 0} {Bg : List Piece → Type 0} {fg mg : List Want} {eg : Bool}
    {Sh : B → List Piece → Type 0} {Bh : List Piece → Type 0} {fh mh : List Want} {eh : Bool}
    → Ends w Sf Bf ff mf ef Sg Bg fg mg eg Sh Bh fh mh eh
    → (x : A) (c a b : List Piece) → Behind w (Sf x) c → c ≡ a ++ b → BeginsEnded w Sf Bf Bg Bh a
item_closed s x c [] b sc e = ([], ([], [], refl, refl, inl s.h.opens))
item_closed {A} {B} {w} {Sf} {Bf} {ff} {mf} {ef} {Sg} {Bg} {fg} {mg} {eg} {Sh} {Bh} {fh} {mh} {eh} s x c (t ∷ a) b sc e =
    let k = taken w (Sf x) c sc in
    let all : k.head ∷ k.tail ≡ t ∷ (a ++ b) = sym k.is ∙ e in
    let token : IsToken w (t ∷ []) = token_of w t (sym (ap (admits w) (head_of k.head t k.tail (a ++ b) all)) ∙ k.admitted) in
    let front : Bf a = s.f.closed a b (subst Bf (tail_of k.head t k.tail (a ++ b) all) (s.f.begun x k.tail k.behind)) in
    ([], ([], t ∷ a, refl, refl, inr (t ∷ [], a, refl, token, inl front)))

ended_closed : {A B : Type 0} {w : Want} {Sf : A → List Piece → Type 0} {Bf : List Piece → Type 0} {ff mf : List Want} {ef : Bool}
    {Sg : B → List Piece → Type 0} {Bg : List Piece → Type 0} {fg mg : List Want} {eg : Bool}
    {Sh : B → List Piece → Type 0} {Bh : List Piece → Type 0} {fh mh : List Want} {eh : Bool}
    → Ends w Sf Bf ff mf ef Sg Bg fg mg eg Sh Bh fh mh eh
    → (zs : List A) (a b p r : List Piece) → Items w Sf zs p → BeginsEnd w Bf Bg Bh r → a ++ b ≡ p ++ r → BeginsEnded w Sf Bf Bg Bh a
ended_closed {A} {B} {w} {Sf} {Bf} {ff} {mf} {ef} {Sg} {Bg} {fg} {mg} {eg} {Sh} {Bh} {fh} {mh} {eh} s [] a b p r ip br e =
    ([], ([], a, refl, refl, end_closed s a b (subst (BeginsEnd w Bf Bg Bh) (sym (e ∙ ap (λ z. z ++ r) ip)) br)))
ended_closed {A} {B} {w} {Sf} {Bf} {ff} {mf} {ef} {Sg} {Bg} {fg} {mg} {eg} {Sh} {Bh} {fh} {mh} {eh} s (z ∷ zs) a b p r (c, d, e1, sc, sd) br e =
    elim (compare a b c (d ++ r) (e ∙ ap (λ z. z ++ r) e1 ∙ append_assoc c d r)) [
      | inl on ↦ item_closed s z c a on.more sc on.longer
      | inr on ↦
          let (ys, (p2, r2, e2, ip2, br2)) = ended_closed s zs on.more b d r sd br (sym on.rest) in
          (z ∷ ys, (c ++ p2, r2, on.longer ∙ ap (λ z. c ++ z) e2 ∙ sym (append_assoc c p2 r2), (c, p2, refl, sc, ip2), br2))
    ]

ended_able : {A B : Type 0} {w : Want} {Sf : A → List Piece → Type 0} {Bf : List Piece → Type 0} {ff mf : List Want} {ef : Bool}
    {Sg : B → List Piece → Type 0} {Bg : List Piece → Type 0} {fg mg : List Want} {eg : Bool}
    {Sh : B → List Piece → Type 0} {Bh : List Piece → Type 0} {fh mh : List Want} {eh : Bool}
    → Ends w Sf Bf ff mf ef Sg Bg fg mg eg Sh Bh fh mh eh
    → (l : Piece) → may (w ∷ fh) l ≡ true → BeginsEnded w Sf Bf Bg Bh (l ∷ [])
ended_able {A} {B} {w} {Sf} {Bf} {ff} {mf} {ef} {Sg} {Bg} {fg} {mg} {eg} {Sh} {Bh} {fh} s l m =
    elim (which (w ∷ []) fh l m) [
      | inl t ↦ ([], ([], l ∷ [], refl, refl, inr (l ∷ [], [], refl, token_of w l (true_or (admits w l) t), inl s.f.opens)))
      | inr n ↦ ([], ([], l ∷ [], refl, refl, inl (s.h.able l n)))
    ]

pub ended_shape : {A B : Type 0} {w : Want} {Sf : A → List Piece → Type 0} {Bf : List Piece → Type 0} {ff mf : List Want} {ef : Bool}
    {Sg : B → List Piece → Type 0} {Bg : List Piece → Type 0} {fg mg : List Want} {eg : Bool}
    {Sh : B → List Piece → Type 0} {Bh : List Piece → Type 0} {fh mh : List Want} {eh : Bool}
    → Ends w Sf Bf ff mf ef Sg Bg fg mg eg Sh Bh fh mh eh
    → Shape (λ y ls. SpellsEnded w Sf Sg Sh y ls × Unit {0}) (BeginsEnded w Sf Bf Bg Bh) (w ∷ fh) (Mores w mf mg mh eh) eh
ended_shape {A} {B} {w} {Sf} {Bf} {ff} {mf} {ef} {Sg} {Bg} {fg} {mg} {eg} {Sh} {Bh} {fh} {mh} {eh} s = record {
  opens = ([], ([], [], refl, refl, inl s.h.opens));
  closed = λ a b be. let (zs, (p, r, e, ip, br)) = be in ended_closed s zs a b p r ip br e;
  begun = λ y a h. let (p, r, e, ip, sr) = h.0 in (y.0, (p, r, e, ip, end_begun s y.1 r sr));
  first = λ l ls be. let (zs, (p, r, e, ip, br)) = be in rest_first s zs p r l ls ip br (sym e);
  goes = λ y a l h be.
      let (p, r, e, ip, sr) = h.0 in
      let (zs, (p2, r2, e2, ip2, br2)) = be in
      ended_goes s y.0 zs y.1 p r p2 r2 l ip sr ip2 br2 (ap (λ z. z ++ l ∷ []) (sym e) ∙ e2);
  fills = λ y h. let (p, r, e, ip, sr) = h.0 in end_fills s y.1 (subst (SpellsEnd w Sg Sh y.1) (no_back p r (sym e)) sr);
  able = λ l m. ended_able s l m;
  void = λ e. let v = s.h.void e in (([], v.0), (([], [], refl, refl, inr v.1), tt));
}
