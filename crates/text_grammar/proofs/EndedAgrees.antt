-- The reader of a form that ends items behind a token agrees with it.
use Rattle.std.proofs.Common.{◌≡◌, ◌⊎◌, inl, inr, ℕ, List, [], ◌∷◌, ◌++◌, ◌≤◌, suc, zero, length, arith, length-append, refl, ap, sym, ◌∙◌, subst, append_assoc, Bool, true, false, ◌||◌}
use Rattle.std.specs.Prelude.{if◌then◌else◌}
use Rattle.text_ast.specs.Pieces.{Piece}
use Rattle.text_tree.specs.Forms.{Want, admits, ◌then◌, Times, AnyNumber, AtMost, AreWithin, IsFull, Cause, NotGrammar, may}
use Rattle.text_grammar.specs.Reading.{starts, one, Answer, Got, Stuck, Reader, after, made, read_end, excess, turns}
use Rattle.text_grammar.proofs.Lists.{Quiet, no_back, head_of, tail_of, true_false, apart_false, headed}
use Rattle.text_grammar.proofs.Shapes.{SpellsBoth, BeginsBoth}
use Rattle.text_grammar.proofs.Ended.{Behind, SpellsEnd, end_fills, end_begun, rest_first, Items, SpellsEnded, BeginsEnded, Ends, taken, may_one, token_of, wh_apart, Mores, ended_shape}
use Rattle.text_grammar.proofs.Agrees.{Blocked, Sound, Agrees, relay, BreaksBoth, both_sound, front_head, quiet_left, quiet_right, quiet_starts}
use Rattle.text_grammar.proofs.EachAgrees.{broken_sound, HasLimit, left, Fuel, within_zero, within_one, within_more, full_more}

abbrev pub SpEnded : {A B : Type 0} → Times → Want → (A → List Piece → Type 0) → (B → List Piece → Type 0) → (B → List Piece → Type 0) → List A × B → List Piece → Type 0
SpEnded times w Sf Sg Sh y ls = SpellsEnded w Sf Sg Sh y ls × AreWithin times (length y.0)

abbrev pub FrEnded : {A B : Type 0} → Want → (A → List Piece → Type 0) → (B → List Piece → Type 0) → (B → List Piece → Type 0) → List A × B → List Piece → Type 0
FrEnded w Ff Fg Fh y ls = SpellsEnded w Ff Fg Fh y ls × Unit {0}

abbrev pub BrEnd : Times → Want → ℕ → (List Piece → Type 0) → (Cause → List Piece → Type 0) → (Cause → List Piece → Type 0) → (Cause → List Piece → Type 0) → Cause → List Piece → Type 0
BrEnd times w count Bf Rf Rg Rh c rest =
    Rh c rest ⊎ Behind w (Rg c) rest ⊎ (Behind w (Rf c) rest × AreWithin times (suc count))
    ⊎ (Behind w (λ last. (length last ≡ 1) × Bf last) rest × IsFull times count c)

abbrev pub BrEnded : {A : Type 0} → Times → Want → (A → List Piece → Type 0) → (List Piece → Type 0) → (Cause → List Piece → Type 0) → (Cause → List Piece → Type 0) → (Cause → List Piece → Type 0)
    → Cause → List Piece → Type 0
BrEnded {A} times w Sf Bf Rf Rg Rh c ls =
    (xs : List A) × AreWithin times (length xs) × (Items w Sf xs then BrEnd times w (length xs) Bf Rf Rg Rh c) ls

abbrev SoundEnded : {A B : Type 0} → Times → ℕ → Want → (Sf Ff : A → List Piece → Type 0) → (Sg Fg Sh Fh : B → List Piece → Type 0) → (Bf Bg Bh : List Piece → Type 0)
    → (Rf Rg Rh : Cause → List Piece → Type 0) → List Piece → Answer (List A × B) → Type 0
SoundEnded times n w Sf Ff Sg Fg Sh Fh Bf Bg Bh Rf Rg Rh =
    Sound (SpEnded (left times n) w Sf Sg Sh) (FrEnded w Ff Fg Fh) (BeginsEnded w Ff Bf Bg Bh) (BrEnded (left times n) w Sf Bf Rf Rg Rh)

-- ---- behind the token, where an item begins

unroll : {A B : Type 0} {w : Want} {Ff : A → List Piece → Type 0} {Bf : List Piece → Type 0} {ff mf : List Want} {ef : Bool}
    {Fg : B → List Piece → Type 0} {Bg : List Piece → Type 0} {fg mg : List Want} {eg : Bool}
    {Fh : B → List Piece → Type 0} {Bh : List Piece → Type 0} {fh mh : List Want} {eh : Bool}
    → Ends w Ff Bf ff mf ef Fg Bg fg mg eg Fh Bh fh mh eh
    → (l h : Piece) (t : List Piece) → admits w l ≡ true → may ff h ≡ true → BeginsEnded w Ff Bf Bg Bh (l ∷ h ∷ t) → BeginsBoth Ff Bf (BeginsEnded w Ff Bf Bg Bh) (h ∷ t)
unroll {A} {B} {w} {Ff} {Bf} {ff} {mf} {ef} {Fg} {Bg} {fg} {mg} {eg} {Fh} {Bh} {fh} {mh} {eh} s l h t token first ([], (p, r, e, ip, inl bh)) =
    let whole : l ∷ h ∷ t ≡ r = e ∙ ap (λ z. z ++ r) ip in
    absurd (s.w_h l (may_one w l token) (s.h.first l (h ∷ t) (subst Bh (sym whole) bh)))
unroll {A} {B} {w} {Ff} {Bf} {ff} {mf} {ef} {Fg} {Bg} {fg} {mg} {eg} {Fh} {Bh} {fh} {mh} {eh} s l h t token first ([], (p, r, e, ip, inr b)) =
    let k = taken w (λ more. Bf more ⊎ Bg more) r b in
    let rest : h ∷ t ≡ k.tail = tail_of l k.head (h ∷ t) k.tail (e ∙ ap (λ z. z ++ r) ip ∙ k.is) in
    elim k.behind [ inl bf ↦ inl (subst Bf (sym rest) bf) | inr bg ↦ absurd (s.f_g h first (s.g.first h t (subst Bg (sym rest) bg))) ]
unroll {A} {B} {w} {Ff} {Bf} {ff} {mf} {ef} {Fg} {Bg} {fg} {mg} {eg} {Fh} {Bh} {fh} {mh} {eh} s l h t token first (z ∷ zs, (p, r, e, (c, d, e1, sc, sd), br)) =
    let k = taken w (Ff z) c sc in
    let all : l ∷ h ∷ t ≡ k.head ∷ (k.tail ++ (d ++ r)) = e ∙ ap (λ z. z ++ r) e1 ∙ append_assoc c d r ∙ ap (λ z. z ++ (d ++ r)) k.is in
    inr (z, (k.tail, d ++ r, tail_of l k.head (h ∷ t) (k.tail ++ (d ++ r)) all, k.behind, (zs, (d, r, refl, sd, br))))

roll : {A B : Type 0} {w : Want} {Ff : A → List Piece → Type 0} {Bf : List Piece → Type 0} {ff mf : List Want} {ef : Bool}
    {Fg : B → List Piece → Type 0} {Bg : List Piece → Type 0} {fg mg : List Want} {eg : Bool}
    {Fh : B → List Piece → Type 0} {Bh : List Piece → Type 0} {fh mh : List Want} {eh : Bool}
    → Ends w Ff Bf ff mf ef Fg Bg fg mg eg Fh Bh fh mh eh
    → (l : Piece) (ls : List Piece) → admits w l ≡ true → BeginsBoth Ff Bf (BeginsEnded w Ff Bf Bg Bh) ls → BeginsEnded w Ff Bf Bg Bh (l ∷ ls)
roll {A} {B} {w} {Ff} {Bf} {ff} {mf} {ef} {Fg} {Bg} {fg} {mg} {eg} {Fh} {Bh} {fh} {mh} {eh} s l ls token (inl bf) = ([], ([], l ∷ ls, refl, refl, inr (l ∷ [], ls, refl, token_of w l token, inl bf)))
roll {A} {B} {w} {Ff} {Bf} {ff} {mf} {ef} {Fg} {Bg} {fg} {mg} {eg} {Fh} {Bh} {fh} {mh} {eh} s l ls token (inr (x, (c, d, e, sc, (xs, (p, q, e2, sp, bq))))) =
    (x ∷ xs, (l ∷ (c ++ p), q, ap (λ z. l ∷ z) (e ∙ ap (λ z. c ++ z) e2 ∙ sym (append_assoc c p q)), (l ∷ c, p, refl, (l ∷ [], c, refl, token_of w l token, sc), sp), bq))

roll_blocked : {A B : Type 0} {w : Want} {Ff : A → List Piece → Type 0} {Bf : List Piece → Type 0} {ff mf : List Want} {ef : Bool}
    {Fg : B → List Piece → Type 0} {Bg : List Piece → Type 0} {fg mg : List Want} {eg : Bool}
    {Fh : B → List Piece → Type 0} {Bh : List Piece → Type 0} {fh mh : List Want} {eh : Bool}
    → Ends w Ff Bf ff mf ef Fg Bg fg mg eg Fh Bh fh mh eh
    → (l h : Piece) (t a rest : List Piece) → admits w l ≡ true → may ff h ≡ true → h ∷ t ≡ a ++ rest → Blocked (BeginsBoth Ff Bf (BeginsEnded w Ff Bf Bg Bh)) a rest
    → Blocked (BeginsEnded w Ff Bf Bg Bh) (l ∷ a) rest
roll_blocked s l h t a [] token first e b = tt
roll_blocked {A} {B} {w} {Ff} {Bf} {ff} {mf} {ef} {Fg} {Bg} {fg} {mg} {eg} {Fh} {Bh} {fh} {mh} {eh} s l h t a (m ∷ rest) token first e b = λ be.
    let head = front_head h t a m rest e in
    b (subst (BeginsBoth Ff Bf (BeginsEnded w Ff Bf Bg Bh)) (sym head.is) (unroll s l h head.tail token first (subst (BeginsEnded w Ff Bf Bg Bh) (ap (λ z. l ∷ z) head.is) be)))

none_item : {A B : Type 0} {w : Want} {Ff : A → List Piece → Type 0} {Bf : List Piece → Type 0} {ff mf : List Want} {ef : Bool}
    {Fg : B → List Piece → Type 0} {Bg : List Piece → Type 0} {fg mg : List Want} {eg : Bool}
    {Fh : B → List Piece → Type 0} {Bh : List Piece → Type 0} {fh mh : List Want} {eh : Bool}
    → Ends w Ff Bf ff mf ef Fg Bg fg mg eg Fh Bh fh mh eh
    → (l h : Piece) (t a rest : List Piece) → admits w l ≡ true → may ff h ≡ true → h ∷ t ≡ a ++ rest
    → ((y : A × (List A × B)) → SpellsBoth Ff (FrEnded w Ff Fg Fh) y a → ⊥) → (y : List A × B) → FrEnded w Ff Fg Fh y (l ∷ a) → ⊥
none_item {A} {B} {w} {Ff} {Bf} {ff} {mf} {ef} {Fg} {Bg} {fg} {mg} {eg} {Fh} {Bh} {fh} {mh} {eh} s l h t a rest token first e none ([], y) ((p, r, e1, ip, inl b), u) =
    let k = taken w (Fg y) r b in
    let same : a ≡ k.tail = tail_of l k.head a k.tail (e1 ∙ ap (λ z. z ++ r) ip ∙ k.is) in
    elim (headed a) [
      | inl nil ↦ true_false (s.g.fills y (subst (Fg y) (sym same ∙ nil) k.behind)) s.g_full
      | inr hd ↦
          let head : h ≡ hd.head = head_of h hd.head t (hd.tail ++ rest) (e ∙ ap (λ z. z ++ rest) hd.is) in
          s.f_g h first (ap (may fg) head ∙ s.g.first hd.head hd.tail (subst Bg (sym same ∙ hd.is) (s.g.begun y k.tail k.behind)))
    ]
none_item {A} {B} {w} {Ff} {Bf} {ff} {mf} {ef} {Fg} {Bg} {fg} {mg} {eg} {Fh} {Bh} {fh} {mh} {eh} s l h t a rest token first e none ([], y) ((p, r, e1, ip, inr b), u) =
    let same : l ∷ a ≡ r = e1 ∙ ap (λ z. z ++ r) ip in
    s.w_h l (may_one w l token) (s.h.first l a (subst Bh (sym same) (s.h.begun y r b)))
none_item {A} {B} {w} {Ff} {Bf} {ff} {mf} {ef} {Fg} {Bg} {fg} {mg} {eg} {Fh} {Bh} {fh} {mh} {eh} s l h t a rest token first e none (x ∷ xs, y) ((p, r, e1, (c, d, e2, sc, sd), sr), u) =
    let k = taken w (Ff x) c sc in
    let all : l ∷ a ≡ k.head ∷ (k.tail ++ (d ++ r)) = e1 ∙ ap (λ z. z ++ r) e2 ∙ append_assoc c d r ∙ ap (λ z. z ++ (d ++ r)) k.is in
    none (x, (xs, y)) (k.tail, d ++ r, tail_of l k.head a (k.tail ++ (d ++ r)) all, k.behind, ((d, r, refl, sd, sr), tt))

cons_breaks : {A : Type 0} (times : Times) (n : ℕ) (w : Want) (Sf : A → List Piece → Type 0) (Bf : List Piece → Type 0) (Rf Rg Rh : Cause → List Piece → Type 0) (c : Cause) (l : Piece) (ls : List Piece)
    → admits w l ≡ true → BreaksBoth Sf Rf (BrEnded (left times n) w Sf Bf Rf Rg Rh) c ls → BrEnded (left times (suc n)) w Sf Bf Rf Rg Rh c (l ∷ ls)
cons_breaks times n w Sf Bf Rf Rg Rh c l ls token (inl r) =
    ([], within_zero times (suc n), ([], l ∷ ls, refl, refl, inr (inr (inl ((l ∷ [], ls, refl, token_of w l token, r), within_one times n)))))
cons_breaks times n w Sf Bf Rf Rg Rh c l ls token (inr (x, (p, q, e, sp, (xs, wi, (p2, q2, e2, sp2, r))))) = (
  x ∷ xs,
  within_more times n (length xs) wi,
  (
    l ∷ (p ++ p2),
    q2,
    ap (λ z. l ∷ z) (e ∙ ap (λ z. p ++ z) e2 ∙ sym (append_assoc p p2 q2)),
    (l ∷ p, p2, refl, (l ∷ [], p, refl, token_of w l token, sp), sp2),
    elim r [
      | inl a ↦ inl a
      | inr b ↦ elim b [
        | inl g ↦ inr (inl g)
        | inr d ↦ elim d [ inl f ↦ inr (inr (inl (f.0, within_more times n (suc (length xs)) f.1))) | inr k ↦ inr (inr (inr (k.0, full_more times n (length xs) c k.1))) ]
      ]
    ],
  ),
)

-- ---- the reader

abbrev PairSound : {A B : Type 0} → Times → ℕ → Want → (Sf Ff : A → List Piece → Type 0) → (Sg Fg Sh Fh : B → List Piece → Type 0) → (Bf Bg Bh : List Piece → Type 0)
    → (Rf Rg Rh : Cause → List Piece → Type 0) → List Piece → Answer (A × (List A × B)) → Type 0
PairSound times n w Sf Ff Sg Fg Sh Fh Bf Bg Bh Rf Rg Rh =
    Sound (SpellsBoth Sf (SpEnded (left times n) w Sf Sg Sh)) (SpellsBoth Ff (FrEnded w Ff Fg Fh)) (BeginsBoth Ff Bf (BeginsEnded w Ff Bf Bg Bh))
    (BreaksBoth Sf Rf (BrEnded (left times n) w Sf Bf Rf Rg Rh))

item_sound : {A B : Type 0} {w : Want} {Ff : A → List Piece → Type 0} {Bf : List Piece → Type 0} {ff mf : List Want} {ef : Bool}
    {Fg : B → List Piece → Type 0} {Bg : List Piece → Type 0} {fg mg : List Want} {eg : Bool}
    {Fh : B → List Piece → Type 0} {Bh : List Piece → Type 0} {fh mh : List Want} {eh : Bool}
    → Ends w Ff Bf ff mf ef Fg Bg fg mg eg Fh Bh fh mh eh
    → (times : Times) (n : ℕ) (Sf : A → List Piece → Type 0) (Sg Sh : B → List Piece → Type 0) (Rf Rg Rh : Cause → List Piece → Type 0) → (l h : Piece) (t : List Piece) → admits w l ≡ true → may ff h ≡ true
    → (ans : Answer (A × (List A × B))) → PairSound times n w Sf Ff Sg Fg Sh Fh Bf Bg Bh Rf Rg Rh (h ∷ t) ans
    → SoundEnded times (suc n) w Sf Ff Sg Fg Sh Fh Bf Bg Bh Rf Rg Rh (l ∷ h ∷ t) (made (λ v. (v.0 ∷ v.1.0, v.1.1)) ans)
item_sound {A} {B} {w} {Ff} {Bf} {ff} {mf} {ef} {Fg} {Bg} {fg} {mg} {eg} {Fh} {Bh} {fh} {mh} {eh} s times n Sf Sg Sh Rf Rg Rh l h t token first (Got v rest) r =
    let (p, q, e, sp, ((p2, r2, e2, ip, sr), wi)) = r.spelled in
    record {
      front = l ∷ r.front;
      glued = ap (λ z. l ∷ z) r.glued;
      spelled = (
        (
          l ∷ (p ++ p2),
          r2,
          ap (λ z. l ∷ z) (e ∙ ap (λ z. p ++ z) e2 ∙ sym (append_assoc p p2 r2)),
          (l ∷ p, p2, refl, (l ∷ [], p, refl, token_of w l token, sp), ip),
          sr,
        ),
        within_more times n (length v.1.0) wi,
      );
      blocked = roll_blocked s l h t r.front rest token first r.glued r.blocked;
    }
item_sound {A} {B} {w} {Ff} {Bf} {ff} {mf} {ef} {Fg} {Bg} {fg} {mg} {eg} {Fh} {Bh} {fh} {mh} {eh} s times n Sf Sg Sh Rf Rg Rh l h t token first (Stuck c rest) r =
    relay (SpellsBoth Sf (SpEnded (left times n) w Sf Sg Sh)) (SpellsBoth Ff (FrEnded w Ff Fg Fh)) (BeginsBoth Ff Bf (BeginsEnded w Ff Bf Bg Bh))
    (BreaksBoth Sf Rf (BrEnded (left times n) w Sf Bf Rf Rg Rh)) (h ∷ t)
    (SpEnded (left times (suc n)) w Sf Sg Sh) (FrEnded w Ff Fg Fh) (BeginsEnded w Ff Bf Bg Bh) (BrEnded (left times (suc n)) w Sf Bf Rf Rg Rh) (l ∷ h ∷ t) c rest
    (λ r. record {
      front = l ∷ r.front;
      glued = ap (λ z. l ∷ z) r.glued;
      begun = roll s l r.front token r.begun;
      none = none_item s l h t r.front rest token first r.glued r.none;
      blocked = roll_blocked s l h t r.front rest token first r.glued r.blocked;
    })
    (λ r. record {
      front = l ∷ r.front;
      last = r.last;
      more = r.more;
      glued = ap (λ z. l ∷ z) r.glued;
      stands = r.stands;
      begun = roll s l r.front token r.begun;
      breaks = cons_breaks times n w Sf Bf Rf Rg Rh c l (r.front ++ r.last ∷ []) token r.breaks;
    }) r

starts_quiet : (wants : List Want) (ls : List Piece) → starts wants ls ≡ false → Quiet wants ls
starts_quiet wants [] e = tt
starts_quiet wants (l ∷ ls) e = e

front_quiet : (wants : List Want) (a b ls : List Piece) → ls ≡ a ++ b → starts wants ls ≡ false → Quiet wants a
front_quiet wants [] b ls e s = tt
front_quiet wants (l ∷ a) b ls e s = subst (λ z. starts wants z ≡ false) e s

next_quiet : (wants : List Want) (a : List Piece) (m : Piece) (b ls : List Piece) → ls ≡ a ++ m ∷ b → starts wants ls ≡ false → Quiet wants (a ++ m ∷ [])
next_quiet wants a m b ls e s = front_quiet wants (a ++ m ∷ []) b ls (e ∙ sym (append_assoc a (m ∷ []) b)) s

-- an item behind the token has its first token
item_quiet : {A B : Type 0} {w : Want} {Ff : A → List Piece → Type 0} {Bf : List Piece → Type 0} {ff mf : List Want} {ef : Bool}
    {Fg : B → List Piece → Type 0} {Bg : List Piece → Type 0} {fg mg : List Want} {eg : Bool}
    {Fh : B → List Piece → Type 0} {Bh : List Piece → Type 0} {fh mh : List Want} {eh : Bool}
    → Ends w Ff Bf ff mf ef Fg Bg fg mg eg Fh Bh fh mh eh
    → (z : A) (kk rest front : List Piece) → Ff z kk → front ≡ kk ++ rest → Quiet ff front → ⊥
item_quiet {A} {B} {w} {Ff} {Bf} {ff} {mf} {ef} {Fg} {Bg} {fg} {mg} {eg} {Fh} {Bh} {fh} {mh} {eh} s z kk rest front sk e still =
    elim (headed kk) [
      | inl nil ↦ true_false (s.f.fills z (subst (Ff z) nil sk)) s.f_full
      | inr hd ↦
          true_false (s.f.first hd.head hd.tail (subst Bf hd.is (s.f.begun z kk sk))) (subst (Quiet ff) (e ∙ ap (λ z. z ++ rest) hd.is) still)
    ]

ended_last : {A B : Type 0} {w : Want} {Ff : A → List Piece → Type 0} {Bf : List Piece → Type 0} {ff mf : List Want} {ef : Bool}
    {Fg : B → List Piece → Type 0} {Bg : List Piece → Type 0} {fg mg : List Want} {eg : Bool}
    {Fh : B → List Piece → Type 0} {Bh : List Piece → Type 0} {fh mh : List Want} {eh : Bool}
    → Ends w Ff Bf ff mf ef Fg Bg fg mg eg Fh Bh fh mh eh
    → (l : Piece) (front : List Piece) → admits w l ≡ true → Quiet ff front → (front ≡ [] → ⊥) → BeginsEnded w Ff Bf Bg Bh (l ∷ front) → Bg front
ended_last {A} {B} {w} {Ff} {Bf} {ff} {mf} {ef} {Fg} {Bg} {fg} {mg} {eg} {Fh} {Bh} {fh} {mh} {eh} s l front token still full ([], (p, r, e, ip, inl bh)) =
    absurd (s.w_h l (may_one w l token) (s.h.first l front (subst Bh (sym (e ∙ ap (λ z. z ++ r) ip)) bh)))
ended_last {A} {B} {w} {Ff} {Bf} {ff} {mf} {ef} {Fg} {Bg} {fg} {mg} {eg} {Fh} {Bh} {fh} {mh} {eh} s l front token still full ([], (p, r, e, ip, inr b)) =
    let k = taken w (λ more. Bf more ⊎ Bg more) r b in
    let rest : front ≡ k.tail = tail_of l k.head front k.tail (e ∙ ap (λ z. z ++ r) ip ∙ k.is) in
    elim k.behind [
      | inl bf ↦ elim (headed front) [
        | inl nil ↦ absurd (full nil)
        | inr hd ↦ absurd (true_false (s.f.first hd.head hd.tail (subst Bf (sym rest ∙ hd.is) bf)) (subst (Quiet ff) hd.is still))
      ]
      | inr bg ↦ subst Bg (sym rest) bg
    ]
ended_last {A} {B} {w} {Ff} {Bf} {ff} {mf} {ef} {Fg} {Bg} {fg} {mg} {eg} {Fh} {Bh} {fh} {mh} {eh} s l front token still full (z ∷ zs, (p, r, e, (c, d, e1, sc, sd), br)) =
    let k = taken w (Ff z) c sc in
    let all : l ∷ front ≡ k.head ∷ (k.tail ++ (d ++ r)) = e ∙ ap (λ z. z ++ r) e1 ∙ append_assoc c d r ∙ ap (λ z. z ++ (d ++ r)) k.is in
    absurd (item_quiet s z k.tail (d ++ r) front k.behind (tail_of l k.head front (k.tail ++ (d ++ r)) all) still)

last_blocked : {A B : Type 0} {w : Want} {Ff : A → List Piece → Type 0} {Bf : List Piece → Type 0} {ff mf : List Want} {ef : Bool}
    {Fg : B → List Piece → Type 0} {Bg : List Piece → Type 0} {fg mg : List Want} {eg : Bool}
    {Fh : B → List Piece → Type 0} {Bh : List Piece → Type 0} {fh mh : List Want} {eh : Bool}
    → Ends w Ff Bf ff mf ef Fg Bg fg mg eg Fh Bh fh mh eh
    → (l : Piece) (k a rest : List Piece) → admits w l ≡ true → starts ff k ≡ false → k ≡ a ++ rest → Blocked Bg a rest → Blocked (BeginsEnded w Ff Bf Bg Bh) (l ∷ a) rest
last_blocked s l k a [] token first e b = tt
last_blocked {A} {B} {w} {Ff} {Bf} {ff} {mf} {ef} {Fg} {Bg} {fg} {mg} {eg} {Fh} {Bh} {fh} {mh} {eh} s l k a (m ∷ rest) token first e b = λ be.
    b (ended_last s l (a ++ m ∷ []) token (next_quiet ff a m rest k e first) (λ z. let no : m ∷ [] ≡ [] = no_back a (m ∷ []) z in cc) be)

none_last : {A B : Type 0} {w : Want} {Ff : A → List Piece → Type 0} {Bf : List Piece → Type 0} {ff mf : List Want} {ef : Bool}
    {Fg : B → List Piece → Type 0} {Bg : List Piece → Type 0} {fg mg : List Want} {eg : Bool}
    {Fh : B → List Piece → Type 0} {Bh : List Piece → Type 0} {fh mh : List Want} {eh : Bool}
    → Ends w Ff Bf ff mf ef Fg Bg fg mg eg Fh Bh fh mh eh
    → (l : Piece) (front : List Piece) → admits w l ≡ true → Quiet ff front → ((y : B) → Fg y front → ⊥) → (y : List A × B) → FrEnded w Ff Fg Fh y (l ∷ front) → ⊥
none_last {A} {B} {w} {Ff} {Bf} {ff} {mf} {ef} {Fg} {Bg} {fg} {mg} {eg} {Fh} {Bh} {fh} {mh} {eh} s l front token still none ([], y) ((p, r, e1, ip, inl b), u) =
    let k = taken w (Fg y) r b in
    let same : front ≡ k.tail = tail_of l k.head front k.tail (e1 ∙ ap (λ z. z ++ r) ip ∙ k.is) in
    none y (subst (Fg y) (sym same) k.behind)
none_last {A} {B} {w} {Ff} {Bf} {ff} {mf} {ef} {Fg} {Bg} {fg} {mg} {eg} {Fh} {Bh} {fh} {mh} {eh} s l front token still none ([], y) ((p, r, e1, ip, inr b), u) =
    s.w_h l (may_one w l token) (s.h.first l front (subst Bh (sym (e1 ∙ ap (λ z. z ++ r) ip)) (s.h.begun y r b)))
none_last {A} {B} {w} {Ff} {Bf} {ff} {mf} {ef} {Fg} {Bg} {fg} {mg} {eg} {Fh} {Bh} {fh} {mh} {eh} s l front token still none (x ∷ xs, y) ((p, r, e1, (c, d, e2, sc, sd), sr), u) =
    let k = taken w (Ff x) c sc in
    let all : l ∷ front ≡ k.head ∷ (k.tail ++ (d ++ r)) = e1 ∙ ap (λ z. z ++ r) e2 ∙ append_assoc c d r ∙ ap (λ z. z ++ (d ++ r)) k.is in
    item_quiet s x k.tail (d ++ r) front k.behind (tail_of l k.head front (k.tail ++ (d ++ r)) all) still

last_sound : {A B : Type 0} {w : Want} {Ff : A → List Piece → Type 0} {Bf : List Piece → Type 0} {ff mf : List Want} {ef : Bool}
    {Fg : B → List Piece → Type 0} {Bg : List Piece → Type 0} {fg mg : List Want} {eg : Bool}
    {Fh : B → List Piece → Type 0} {Bh : List Piece → Type 0} {fh mh : List Want} {eh : Bool}
    → Ends w Ff Bf ff mf ef Fg Bg fg mg eg Fh Bh fh mh eh
    → (times : Times) (n : ℕ) (Sf : A → List Piece → Type 0) (Sg Sh : B → List Piece → Type 0) (Rf Rg Rh : Cause → List Piece → Type 0) → (l : Piece) (k : List Piece) → admits w l ≡ true → starts ff k ≡ false → (ans : Answer B) → Sound Sg Fg Bg Rg k ans
    → SoundEnded times n w Sf Ff Sg Fg Sh Fh Bf Bg Bh Rf Rg Rh (l ∷ k) (made (λ y. ([], y)) ans)
last_sound {A} {B} {w} {Ff} {Bf} {ff} {mf} {ef} {Fg} {Bg} {fg} {mg} {eg} {Fh} {Bh} {fh} {mh} {eh} s times n Sf Sg Sh Rf Rg Rh l k token first (Got y rest) r = record {
  front = l ∷ r.front;
  glued = ap (λ z. l ∷ z) r.glued;
  spelled = (([], l ∷ r.front, refl, refl, inl (l ∷ [], r.front, refl, token_of w l token, r.spelled)), within_zero times n);
  blocked = last_blocked s l k r.front rest token first r.glued r.blocked;
}
last_sound {A} {B} {w} {Ff} {Bf} {ff} {mf} {ef} {Fg} {Bg} {fg} {mg} {eg} {Fh} {Bh} {fh} {mh} {eh} s times n Sf Sg Sh Rf Rg Rh l k token first (Stuck c rest) r =
    relay Sg Fg Bg Rg k (SpEnded (left times n) w Sf Sg Sh) (FrEnded w Ff Fg Fh) (BeginsEnded w Ff Bf Bg Bh) (BrEnded (left times n) w Sf Bf Rf Rg Rh) (l ∷ k) c rest
    (λ r. record {
      front = l ∷ r.front;
      glued = ap (λ z. l ∷ z) r.glued;
      begun = ([], ([], l ∷ r.front, refl, refl, inr (l ∷ [], r.front, refl, token_of w l token, inr r.begun)));
      none = none_last s l r.front token (front_quiet ff r.front rest k r.glued first) r.none;
      blocked = last_blocked s l k r.front rest token first r.glued r.blocked;
    })
    (λ r. record {
      front = l ∷ r.front;
      last = r.last;
      more = r.more;
      glued = ap (λ z. l ∷ z) r.glued;
      stands = r.stands;
      begun = ([], ([], l ∷ r.front, refl, refl, inr (l ∷ [], r.front, refl, token_of w l token, inr r.begun)));
      breaks = ([], within_zero times n, ([], l ∷ (r.front ++ r.last ∷ []), refl, refl, inr (inl (l ∷ [], r.front ++ r.last ∷ [], refl, token_of w l token, r.breaks))));
    }) r

ended_other : {A B : Type 0} {w : Want} {Ff : A → List Piece → Type 0} {Bf : List Piece → Type 0} {ff mf : List Want} {ef : Bool}
    {Fg : B → List Piece → Type 0} {Bg : List Piece → Type 0} {fg mg : List Want} {eg : Bool}
    {Fh : B → List Piece → Type 0} {Bh : List Piece → Type 0} {fh mh : List Want} {eh : Bool}
    → Ends w Ff Bf ff mf ef Fg Bg fg mg eg Fh Bh fh mh eh
    → (front : List Piece) → Quiet (w ∷ []) front → BeginsEnded w Ff Bf Bg Bh front → Bh front
ended_other {A} {B} {w} {Ff} {Bf} {ff} {mf} {ef} {Fg} {Bg} {fg} {mg} {eg} {Fh} {Bh} {fh} {mh} {eh} s front still ([], (p, r, e, ip, inl bh)) = subst Bh (sym (e ∙ ap (λ z. z ++ r) ip)) bh
ended_other {A} {B} {w} {Ff} {Bf} {ff} {mf} {ef} {Fg} {Bg} {fg} {mg} {eg} {Fh} {Bh} {fh} {mh} {eh} s front still ([], (p, r, e, ip, inr b)) =
    let k = taken w (λ more. Bf more ⊎ Bg more) r b in
    absurd (true_false (may_one w k.head k.admitted) (subst (Quiet (w ∷ [])) (e ∙ ap (λ z. z ++ r) ip ∙ k.is) still))
ended_other {A} {B} {w} {Ff} {Bf} {ff} {mf} {ef} {Fg} {Bg} {fg} {mg} {eg} {Fh} {Bh} {fh} {mh} {eh} s front still (z ∷ zs, (p, r, e, (c, d, e1, sc, sd), br)) =
    let k = taken w (Ff z) c sc in
    absurd (true_false (may_one w k.head k.admitted) (subst (Quiet (w ∷ [])) (e ∙ ap (λ z. z ++ r) e1 ∙ append_assoc c d r ∙ ap (λ z. z ++ (d ++ r)) k.is) still))

other_blocked : {A B : Type 0} {w : Want} {Ff : A → List Piece → Type 0} {Bf : List Piece → Type 0} {ff mf : List Want} {ef : Bool}
    {Fg : B → List Piece → Type 0} {Bg : List Piece → Type 0} {fg mg : List Want} {eg : Bool}
    {Fh : B → List Piece → Type 0} {Bh : List Piece → Type 0} {fh mh : List Want} {eh : Bool}
    → Ends w Ff Bf ff mf ef Fg Bg fg mg eg Fh Bh fh mh eh
    → (ls a rest : List Piece) → starts (w ∷ []) ls ≡ false → ls ≡ a ++ rest → Blocked Bh a rest → Blocked (BeginsEnded w Ff Bf Bg Bh) a rest
other_blocked s ls a [] first e b = tt
other_blocked {A} {B} {w} {Ff} {Bf} {ff} {mf} {ef} {Fg} {Bg} {fg} {mg} {eg} {Fh} {Bh} {fh} {mh} {eh} s ls a (m ∷ rest) first e b = λ be. b (ended_other s (a ++ m ∷ []) (next_quiet (w ∷ []) a m rest ls e first) be)

none_other : {A B : Type 0} {w : Want} {Ff : A → List Piece → Type 0} {Bf : List Piece → Type 0} {ff mf : List Want} {ef : Bool}
    {Fg : B → List Piece → Type 0} {Bg : List Piece → Type 0} {fg mg : List Want} {eg : Bool}
    {Fh : B → List Piece → Type 0} {Bh : List Piece → Type 0} {fh mh : List Want} {eh : Bool}
    → Ends w Ff Bf ff mf ef Fg Bg fg mg eg Fh Bh fh mh eh
    → (front : List Piece) → Quiet (w ∷ []) front → ((y : B) → Fh y front → ⊥) → (y : List A × B) → FrEnded w Ff Fg Fh y front → ⊥
none_other {A} {B} {w} {Ff} {Bf} {ff} {mf} {ef} {Fg} {Bg} {fg} {mg} {eg} {Fh} {Bh} {fh} {mh} {eh} s front still none ([], y) ((p, r, e, ip, inl b), u) =
    let k = taken w (Fg y) r b in
    true_false (may_one w k.head k.admitted) (subst (Quiet (w ∷ [])) (e ∙ ap (λ z. z ++ r) ip ∙ k.is) still)
none_other {A} {B} {w} {Ff} {Bf} {ff} {mf} {ef} {Fg} {Bg} {fg} {mg} {eg} {Fh} {Bh} {fh} {mh} {eh} s front still none ([], y) ((p, r, e, ip, inr b), u) = none y (subst (Fh y) (sym (e ∙ ap (λ z. z ++ r) ip)) b)
none_other {A} {B} {w} {Ff} {Bf} {ff} {mf} {ef} {Fg} {Bg} {fg} {mg} {eg} {Fh} {Bh} {fh} {mh} {eh} s front still none (x ∷ xs, y) ((p, r, e, (c, d, e2, sc, sd), sr), u) =
    let k = taken w (Ff x) c sc in
    true_false (may_one w k.head k.admitted) (subst (Quiet (w ∷ [])) (e ∙ ap (λ z. z ++ r) e2 ∙ append_assoc c d r ∙ ap (λ z. z ++ (d ++ r)) k.is) still)

other_sound : {A B : Type 0} {w : Want} {Ff : A → List Piece → Type 0} {Bf : List Piece → Type 0} {ff mf : List Want} {ef : Bool}
    {Fg : B → List Piece → Type 0} {Bg : List Piece → Type 0} {fg mg : List Want} {eg : Bool}
    {Fh : B → List Piece → Type 0} {Bh : List Piece → Type 0} {fh mh : List Want} {eh : Bool}
    → Ends w Ff Bf ff mf ef Fg Bg fg mg eg Fh Bh fh mh eh
    → (times : Times) (n : ℕ) (Sf : A → List Piece → Type 0) (Sg Sh : B → List Piece → Type 0) (Rf Rg Rh : Cause → List Piece → Type 0) → (ls : List Piece) → starts (w ∷ []) ls ≡ false → (ans : Answer B) → Sound Sh Fh Bh Rh ls ans
    → SoundEnded times n w Sf Ff Sg Fg Sh Fh Bf Bg Bh Rf Rg Rh ls (made (λ y. ([], y)) ans)
other_sound {A} {B} {w} {Ff} {Bf} {ff} {mf} {ef} {Fg} {Bg} {fg} {mg} {eg} {Fh} {Bh} {fh} {mh} {eh} s times n Sf Sg Sh Rf Rg Rh ls first (Got y rest) r = record {
  front = r.front;
  glued = r.glued;
  spelled = (([], r.front, refl, refl, inr r.spelled), within_zero times n);
  blocked = other_blocked s ls r.front rest first r.glued r.blocked;
}
other_sound {A} {B} {w} {Ff} {Bf} {ff} {mf} {ef} {Fg} {Bg} {fg} {mg} {eg} {Fh} {Bh} {fh} {mh} {eh} s times n Sf Sg Sh Rf Rg Rh ls first (Stuck c rest) r =
    relay Sh Fh Bh Rh ls (SpEnded (left times n) w Sf Sg Sh) (FrEnded w Ff Fg Fh) (BeginsEnded w Ff Bf Bg Bh) (BrEnded (left times n) w Sf Bf Rf Rg Rh) ls c rest
    (λ r. record {
      front = r.front;
      glued = r.glued;
      begun = ([], ([], r.front, refl, refl, inl r.begun));
      none = none_other s r.front (front_quiet (w ∷ []) r.front rest ls r.glued first) r.none;
      blocked = other_blocked s ls r.front rest first r.glued r.blocked;
    })
    (λ r. record {
      front = r.front;
      last = r.last;
      more = r.more;
      glued = r.glued;
      stands = r.stands;
      begun = ([], ([], r.front, refl, refl, inl r.begun));
      breaks = ([], within_zero times n, ([], r.front ++ r.last ∷ [], refl, refl, inl r.breaks));
    }) r

-- ---- all turns

full_ended : {A B : Type 0} {w : Want} {Ff : A → List Piece → Type 0} {Bf : List Piece → Type 0} {ff mf : List Want} {ef : Bool}
    {Fg : B → List Piece → Type 0} {Bg : List Piece → Type 0} {fg mg : List Want} {eg : Bool}
    {Fh : B → List Piece → Type 0} {Bh : List Piece → Type 0} {fh mh : List Want} {eh : Bool}
    → Ends w Ff Bf ff mf ef Fg Bg fg mg eg Fh Bh fh mh eh
    → (times : Times) (Sf : A → List Piece → Type 0) (Sg Sh : B → List Piece → Type 0) (Rf Rg Rh : Cause → List Piece → Type 0) → HasLimit times → (l h : Piece) (t : List Piece) → admits w l ≡ true → may ff h ≡ true → Fuel times 0 (l ∷ h ∷ t)
    → SoundEnded times 0 w Sf Ff Sg Fg Sh Fh Bf Bg Bh Rf Rg Rh (l ∷ h ∷ t) (Stuck (excess times) (h ∷ t))
full_ended s AnyNumber Sf Sg Sh Rf Rg Rh limit l h t token first fuel = absurd (omega (arith, fuel))
full_ended {A} {B} {w} {Ff} {Bf} {ff} {mf} {ef} {Fg} {Bg} {fg} {mg} {eg} {Fh} {Bh} {fh} {mh} {eh} s (AtMost most cause) Sf Sg Sh Rf Rg Rh limit l h t token first fuel =
    broken_sound (SpEnded (AtMost 0 cause) w Sf Sg Sh) (FrEnded w Ff Fg Fh) (BeginsEnded w Ff Bf Bg Bh) (BrEnded (AtMost 0 cause) w Sf Bf Rf Rg Rh) (l ∷ h ∷ t) cause (h ∷ t) limit (record {
      front = l ∷ [];
      last = h;
      more = t;
      glued = refl;
      stands = refl;
      begun = ([], ([], l ∷ [], refl, refl, inr (l ∷ [], [], refl, token_of w l token, inl s.f.opens)));
      breaks = ([], omega arith, ([], l ∷ h ∷ [], refl, refl, inr (inr (inr ((l ∷ [], h ∷ [], refl, token_of w l token, (refl, s.f.able h first)), (refl, refl))))));
    })

pair_made : {A B : Type 0} (ans : Answer A) (rg : Reader (List A × B))
    → made (λ (v : A × (List A × B)). (v.0 ∷ v.1.0, v.1.1)) (after (λ x rest. made {B = A × (List A × B)} (λ y. (x, y)) (rg rest)) ans) ≡ after (λ x rest. made {B = List A × B} (λ v. (x ∷ v.0, v.1)) (rg rest)) ans
pair_made (Stuck c rest) rg = refl
pair_made {A} {B} (Got x rest) rg =
    elim (rg rest) as (λ (z : Answer (List A × B)). made (λ (v : A × (List A × B)). (v.0 ∷ v.1.0, v.1.1)) (made {B = A × (List A × B)} (λ y. (x, y)) z) ≡ made {B = List A × B} (λ v. (x ∷ v.0, v.1)) z)
    [ Got v end ↦ refl | Stuck c end ↦ refl ]

fuel_behind : (times : Times) (n : ℕ) (l h : Piece) (t a rest : List Piece) → Fuel times (suc n) (l ∷ h ∷ t) → h ∷ t ≡ a ++ rest → Fuel times n rest
fuel_behind AnyNumber n l h t a rest fuel e =
    let size : suc (length t) ≡ length (a ++ rest) = ap length e in omega (arith, fuel, size, length-append a rest)
fuel_behind (AtMost most cause) n l h t a rest fuel e = tt

-- what is read where the token comes first
abbrev Turn : {A B : Type 0} → List Want → (List Piece → Answer (List A × B)) → Reader B → List Piece → Answer (List A × B)
Turn ff item rg k = if starts ff k then item k else made (λ y. ([], y)) (rg k)

turn_sound : {A B : Type 0} {w : Want} {Ff : A → List Piece → Type 0} {Bf : List Piece → Type 0} {ff mf : List Want} {ef : Bool}
    {Fg : B → List Piece → Type 0} {Bg : List Piece → Type 0} {fg mg : List Want} {eg : Bool}
    {Fh : B → List Piece → Type 0} {Bh : List Piece → Type 0} {fh mh : List Want} {eh : Bool}
    → Ends w Ff Bf ff mf ef Fg Bg fg mg eg Fh Bh fh mh eh
    → (times : Times) (n : ℕ) (Sf : A → List Piece → Type 0) (Sg Sh : B → List Piece → Type 0) (Rf Rg Rh : Cause → List Piece → Type 0) → (item : List Piece → Answer (List A × B)) → (rg : Reader B) → ((ls : List Piece) → Sound Sg Fg Bg Rg ls (rg ls)) → (l : Piece) (k : List Piece) → admits w l ≡ true
    → ((h : Piece) (t : List Piece) → k ≡ h ∷ t → may ff h ≡ true → SoundEnded times n w Sf Ff Sg Fg Sh Fh Bf Bg Bh Rf Rg Rh (l ∷ h ∷ t) (item (h ∷ t)))
    → SoundEnded times n w Sf Ff Sg Fg Sh Fh Bf Bg Bh Rf Rg Rh (l ∷ k) (Turn ff item rg k)
turn_sound {A} {B} {w} {Ff} {Bf} {ff} {mf} {ef} {Fg} {Bg} {fg} {mg} {eg} {Fh} {Bh} {fh} {mh} {eh} s times n Sf Sg Sh Rf Rg Rh item rg sg l [] token items = last_sound s times n Sf Sg Sh Rf Rg Rh l [] token refl (rg []) (sg [])
turn_sound {A} {B} {w} {Ff} {Bf} {ff} {mf} {ef} {Fg} {Bg} {fg} {mg} {eg} {Fh} {Bh} {fh} {mh} {eh} s times n Sf Sg Sh Rf Rg Rh item rg sg l (h ∷ t) token items =
    elim (may ff h) as (λ (b : Bool). may ff h ≡ b → SoundEnded times n w Sf Ff Sg Fg Sh Fh Bf Bg Bh Rf Rg Rh (l ∷ h ∷ t) (if b then item (h ∷ t) else made (λ y. ([], y)) (rg (h ∷ t)))) [
      | true ↦ λ e. items h t refl e
      | false ↦ λ e. last_sound s times n Sf Sg Sh Rf Rg Rh l (h ∷ t) token e (rg (h ∷ t)) (sg (h ∷ t))
    ] refl

-- the token, or the other form
abbrev Choice : {A B : Type 0} → Want → List Want → (List Piece → Answer (List A × B)) → Reader B → Reader B → List Piece → Answer (List A × B)
Choice w ff item rg rh ls = if starts (w ∷ []) ls then after (λ _ rest. Turn ff item rg rest) (one w ls) else made (λ y. ([], y)) (rh ls)

choice_sound : {A B : Type 0} {w : Want} {Ff : A → List Piece → Type 0} {Bf : List Piece → Type 0} {ff mf : List Want} {ef : Bool}
    {Fg : B → List Piece → Type 0} {Bg : List Piece → Type 0} {fg mg : List Want} {eg : Bool}
    {Fh : B → List Piece → Type 0} {Bh : List Piece → Type 0} {fh mh : List Want} {eh : Bool}
    → Ends w Ff Bf ff mf ef Fg Bg fg mg eg Fh Bh fh mh eh
    → (times : Times) (n : ℕ) (Sf : A → List Piece → Type 0) (Sg Sh : B → List Piece → Type 0) (Rf Rg Rh : Cause → List Piece → Type 0) → (item : List Piece → Answer (List A × B)) → (rg rh : Reader B) → ((ls : List Piece) → Sound Sg Fg Bg Rg ls (rg ls)) → ((ls : List Piece) → Sound Sh Fh Bh Rh ls (rh ls))
    → (ls : List Piece)
    → ((l h : Piece) (t : List Piece) → ls ≡ l ∷ h ∷ t → admits w l ≡ true → may ff h ≡ true → SoundEnded times n w Sf Ff Sg Fg Sh Fh Bf Bg Bh Rf Rg Rh (l ∷ h ∷ t) (item (h ∷ t)))
    → SoundEnded times n w Sf Ff Sg Fg Sh Fh Bf Bg Bh Rf Rg Rh ls (Choice w ff item rg rh ls)
choice_sound {A} {B} {w} {Ff} {Bf} {ff} {mf} {ef} {Fg} {Bg} {fg} {mg} {eg} {Fh} {Bh} {fh} {mh} {eh} s times n Sf Sg Sh Rf Rg Rh item rg rh sg sh [] items = other_sound s times n Sf Sg Sh Rf Rg Rh [] refl (rh []) (sh [])
choice_sound {A} {B} {w} {Ff} {Bf} {ff} {mf} {ef} {Fg} {Bg} {fg} {mg} {eg} {Fh} {Bh} {fh} {mh} {eh} s times n Sf Sg Sh Rf Rg Rh item rg rh sg sh (l ∷ k) items =
    elim (admits w l) as (λ (b : Bool). admits w l ≡ b → SoundEnded times n w Sf Ff Sg Fg Sh Fh Bf Bg Bh Rf Rg Rh (l ∷ k)
    (if (b || false) then after (λ _ rest. Turn ff item rg rest) (if b then Got l k else Stuck NotGrammar (l ∷ k)) else made (λ y. ([], y)) (rh (l ∷ k)))) [
      | true ↦ λ e. turn_sound s times n Sf Sg Sh Rf Rg Rh item rg sg l k e (λ h t k_is first. items l h t (ap (λ z. l ∷ z) k_is) e first)
      | false ↦ λ e. other_sound s times n Sf Sg Sh Rf Rg Rh (l ∷ k) (ap (λ b. b || false) e) (rh (l ∷ k)) (sh (l ∷ k))
    ] refl

ended_sound : {A B : Type 0} {w : Want} {Ff : A → List Piece → Type 0} {Bf : List Piece → Type 0} {ff mf : List Want} {ef : Bool}
    {Fg : B → List Piece → Type 0} {Bg : List Piece → Type 0} {fg mg : List Want} {eg : Bool}
    {Fh : B → List Piece → Type 0} {Bh : List Piece → Type 0} {fh mh : List Want} {eh : Bool}
    → Ends w Ff Bf ff mf ef Fg Bg fg mg eg Fh Bh fh mh eh
    → (times : Times) (n : ℕ) (Sf : A → List Piece → Type 0) (Sg Sh : B → List Piece → Type 0) (Rf Rg Rh : Cause → List Piece → Type 0) → HasLimit times → ((x : A) (a : List Piece) → Sf x a → Ff x a) → (rf : Reader A) (rg rh : Reader B) → ((ls : List Piece) → Sound Sf Ff Bf Rf ls (rf ls))
    → ((ls : List Piece) → Sound Sg Fg Bg Rg ls (rg ls)) → ((ls : List Piece) → Sound Sh Fh Bh Rh ls (rh ls)) → (ls : List Piece) → Fuel times n ls
    → SoundEnded times n w Sf Ff Sg Fg Sh Fh Bf Bg Bh Rf Rg Rh ls (read_end (excess times) n w ff rf rg rh ls)
ended_sound {A} {B} {w} {Ff} {Bf} {ff} {mf} {ef} {Fg} {Bg} {fg} {mg} {eg} {Fh} {Bh} {fh} {mh} {eh} s times zero Sf Sg Sh Rf Rg Rh limit free rf rg rh sf sg sh ls fuel =
    choice_sound s times 0 Sf Sg Sh Rf Rg Rh (λ k. Stuck (excess times) k) rg rh sg sh ls
    (λ l h t e token first. full_ended s times Sf Sg Sh Rf Rg Rh limit l h t token first (subst (Fuel times 0) e fuel))
ended_sound {A} {B} {w} {Ff} {Bf} {ff} {mf} {ef} {Fg} {Bg} {fg} {mg} {eg} {Fh} {Bh} {fh} {mh} {eh} s times (suc n) Sf Sg Sh Rf Rg Rh limit free rf rg rh sf sg sh ls fuel =
    let more : Reader (List A × B) = read_end (excess times) n w ff rf rg rh in
    choice_sound s times (suc n) Sf Sg Sh Rf Rg Rh (λ k. after (λ x rest. made (λ v. (x ∷ v.0, v.1)) (more rest)) (rf k)) rg rh sg sh ls
    (λ l h t e token first.
    let pair = both_sound Rf (SpEnded (left times n) w Sf Sg Sh) (BrEnded (left times n) w Sf Bf Rf Rg Rh) s.f (ended_shape s) (wh_apart s) free more (h ∷ t)
    (λ x rest r. ended_sound s times n Sf Sg Sh Rf Rg Rh limit free rf rg rh sf sg sh rest (fuel_behind times n l h t r.front rest (subst (Fuel times (suc n)) e fuel) r.glued))
    (rf (h ∷ t)) (sf (h ∷ t)) in
    subst (SoundEnded times (suc n) w Sf Ff Sg Fg Sh Fh Bf Bg Bh Rf Rg Rh (l ∷ h ∷ t)) (pair_made (rf (h ∷ t)) more) (item_sound s times n Sf Sg Sh Rf Rg Rh l h t token first _ pair))

-- ---- what is read whatever follows

choice_token : {A B : Type 0} (w : Want) (ff : List Want) (item : List Piece → Answer (List A × B)) (rg rh : Reader B) (l : Piece) (k : List Piece) → admits w l ≡ true
    → Choice w ff item rg rh (l ∷ k) ≡ Turn ff item rg k
choice_token {A} {B} w ff item rg rh l k e =
    ap (λ (b : Bool). if (b || false) then after {A = Piece} {B = List A × B} (λ _ rest. Turn ff item rg rest) (if b then Got l k else Stuck NotGrammar (l ∷ k)) else made {B = List A × B} (λ y. ([], y)) (rh (l ∷ k))) e

turn_item : {A B : Type 0} (ff : List Want) (item : List Piece → Answer (List A × B)) (rg : Reader B) (k : List Piece) → starts ff k ≡ true → Turn ff item rg k ≡ item k
turn_item {A} {B} ff item rg k e = ap (λ (b : Bool). if b then item k else made {B = List A × B} (λ y. ([], y)) (rg k)) e

turn_last : {A B : Type 0} (ff : List Want) (item : List Piece → Answer (List A × B)) (rg : Reader B) (k : List Piece) → starts ff k ≡ false → Turn ff item rg k ≡ made (λ y. ([], y)) (rg k)
turn_last {A} {B} ff item rg k e = ap (λ (b : Bool). if b then item k else made {B = List A × B} (λ y. ([], y)) (rg k)) e

choice_other : {A B : Type 0} (w : Want) (ff : List Want) (item : List Piece → Answer (List A × B)) (rg rh : Reader B) (ls : List Piece) → starts (w ∷ []) ls ≡ false
    → Choice w ff item rg rh ls ≡ made (λ y. ([], y)) (rh ls)
choice_other {A} {B} w ff item rg rh ls e =
    ap (λ (b : Bool). if b then after {A = Piece} {B = List A × B} (λ _ rest. Turn ff item rg rest) (one w ls) else made {B = List A × B} (λ y. ([], y)) (rh ls)) e

end_complete : {A B : Type 0} {w : Want} {Ff : A → List Piece → Type 0} {Bf : List Piece → Type 0} {ff mf : List Want} {ef : Bool}
    {Fg : B → List Piece → Type 0} {Bg : List Piece → Type 0} {fg mg : List Want} {eg : Bool}
    {Fh : B → List Piece → Type 0} {Bh : List Piece → Type 0} {fh mh : List Want} {eh : Bool}
    → Ends w Ff Bf ff mf ef Fg Bg fg mg eg Fh Bh fh mh eh
    → (Sg Sh : B → List Piece → Type 0) → ((y : B) (a : List Piece) → Sg y a → Fg y a) → ((y : B) (a : List Piece) → Sh y a → Fh y a)
    → (item : List Piece → Answer (List A × B)) (rg rh : Reader B)
    → ((y : B) (a rest : List Piece) → Sg y a → Quiet mg rest → rg (a ++ rest) ≡ Got y rest) → ((y : B) (a rest : List Piece) → Sh y a → Quiet mh rest → rh (a ++ rest) ≡ Got y rest)
    → (y : B) (r rest : List Piece) → SpellsEnd w Sg Sh y r → Quiet (Mores w mf mg mh eh) rest → Choice w ff item rg rh (r ++ rest) ≡ Got ([], y) rest
end_complete {A} {B} {w} {Ff} {Bf} {ff} {mf} {ef} {Fg} {Bg} {fg} {mg} {eg} {Fh} {Bh} {fh} {mh} {eh} s Sg Sh free_g free_h item rg rh cg ch y r rest (inl b) still =
    let k = taken w (Sg y) r b in
    let reads : rg (k.tail ++ rest) ≡ Got y rest = cg y k.tail rest k.behind (quiet_left mg (mh ++ (if eh then w ∷ mf else [])) rest still) in
    let test : starts ff (k.tail ++ rest) ≡ false = elim (headed k.tail) [
      | inl nil ↦ absurd (true_false (s.g.fills y (subst (Fg y) nil (free_g y k.tail k.behind))) s.g_full)
      | inr hd ↦
          let seen : may fg hd.head ≡ true = s.g.first hd.head hd.tail (subst Bg hd.is (s.g.begun y k.tail (free_g y k.tail k.behind))) in
          ap (λ z. starts ff (z ++ rest)) hd.is ∙ apart_false ff fg s.f_g hd.head seen
    ] in
    ap (λ z. Choice w ff item rg rh (z ++ rest)) k.is ∙ choice_token w ff item rg rh k.head (k.tail ++ rest) k.admitted ∙ turn_last ff item rg (k.tail ++ rest) test
    ∙ ap (made {B = List A × B} (λ z. ([], z))) reads
end_complete {A} {B} {w} {Ff} {Bf} {ff} {mf} {ef} {Fg} {Bg} {fg} {mg} {eg} {Fh} {Bh} {fh} {mh} {eh} s Sg Sh free_g free_h item rg rh cg ch y r rest (inr b) still =
    let inner : Quiet (mh ++ (if eh then w ∷ mf else [])) rest = quiet_right mg (mh ++ (if eh then w ∷ mf else [])) rest still in
    let reads : rh (r ++ rest) ≡ Got y rest = ch y r rest b (quiet_left mh (if eh then w ∷ mf else []) rest inner) in
    let test : starts (w ∷ []) (r ++ rest) ≡ false = elim (headed r) [
      | inl nil ↦
          let filled : eh ≡ true = s.h.fills y (subst (Fh y) nil (free_h y r b)) in
          let last : Quiet (w ∷ mf) rest = subst (λ z. Quiet (if z then w ∷ mf else []) rest) filled (quiet_right mh (if eh then w ∷ mf else []) rest inner) in
          ap (λ z. starts (w ∷ []) (z ++ rest)) nil ∙ quiet_starts (w ∷ []) rest (quiet_left (w ∷ []) mf rest last)
      | inr hd ↦
          let seen : may fh hd.head ≡ true = s.h.first hd.head hd.tail (subst Bh hd.is (s.h.begun y r (free_h y r b))) in
          ap (λ z. starts (w ∷ []) (z ++ rest)) hd.is ∙ apart_false (w ∷ []) fh s.w_h hd.head seen
    ] in
    choice_other w ff item rg rh (r ++ rest) test ∙ ap (made {B = List A × B} (λ z. ([], z))) reads

free_items : {A : Type 0} (w : Want) (Sf Ff : A → List Piece → Type 0) → ((x : A) (a : List Piece) → Sf x a → Ff x a) → (xs : List A) (a : List Piece) → Items w Sf xs a → Items w Ff xs a
free_items w Sf Ff free [] a h = h
free_items w Sf Ff free (x ∷ xs) a (p, q, e, (t, k, e2, tok, sp), sq) = (p, q, e, (t, k, e2, tok, free x k sp), free_items w Sf Ff free xs q sq)

free_end : {B : Type 0} (w : Want) (Sg Fg Sh Fh : B → List Piece → Type 0) → ((y : B) (a : List Piece) → Sg y a → Fg y a) → ((y : B) (a : List Piece) → Sh y a → Fh y a)
    → (y : B) (r : List Piece) → SpellsEnd w Sg Sh y r → SpellsEnd w Fg Fh y r
free_end w Sg Fg Sh Fh fg fh y r (inl (t, k, e, tok, sp)) = inl (t, k, e, tok, fg y k sp)
free_end w Sg Fg Sh Fh fg fh y r (inr sp) = inr (fh y r sp)

-- what follows an item is quiet for it
item_still : {A B : Type 0} {w : Want} {Ff : A → List Piece → Type 0} {Bf : List Piece → Type 0} {ff mf : List Want} {ef : Bool}
    {Fg : B → List Piece → Type 0} {Bg : List Piece → Type 0} {fg mg : List Want} {eg : Bool}
    {Fh : B → List Piece → Type 0} {Bh : List Piece → Type 0} {fh mh : List Want} {eh : Bool}
    → Ends w Ff Bf ff mf ef Fg Bg fg mg eg Fh Bh fh mh eh
    → (xs : List A) (y : B) (d r rest : List Piece) → Items w Ff xs d → SpellsEnd w Fg Fh y r → Quiet (Mores w mf mg mh eh) rest → Quiet mf ((d ++ r) ++ rest)
item_still {A} {B} {w} {Ff} {Bf} {ff} {mf} {ef} {Fg} {Bg} {fg} {mg} {eg} {Fh} {Bh} {fh} {mh} {eh} s xs y d r rest items sr still =
    elim (headed (d ++ r)) [
      | inl nil ↦
          let filled : eh ≡ true = end_fills s y (subst (SpellsEnd w Fg Fh y) (no_back d r nil) sr) in
          let last : Quiet (w ∷ mf) rest = subst (λ z. Quiet (if z then w ∷ mf else []) rest) filled
          (quiet_right mh (if eh then w ∷ mf else []) rest (quiet_right mg (mh ++ (if eh then w ∷ mf else [])) rest still)) in
          subst (λ z. Quiet mf (z ++ rest)) (sym nil) (quiet_right (w ∷ []) mf rest last)
      | inr hd ↦
          let seen : may (w ∷ fh) hd.head ≡ true = rest_first s xs d r hd.head hd.tail items (end_begun s y r sr) hd.is in
          subst (λ z. Quiet mf (z ++ rest)) (sym hd.is) (apart_false mf (w ∷ fh) (wh_apart s) hd.head seen)
    ]

ended_complete : {A B : Type 0} {w : Want} {Ff : A → List Piece → Type 0} {Bf : List Piece → Type 0} {ff mf : List Want} {ef : Bool}
    {Fg : B → List Piece → Type 0} {Bg : List Piece → Type 0} {fg mg : List Want} {eg : Bool}
    {Fh : B → List Piece → Type 0} {Bh : List Piece → Type 0} {fh mh : List Want} {eh : Bool}
    → Ends w Ff Bf ff mf ef Fg Bg fg mg eg Fh Bh fh mh eh
    → (c : Cause) (n : ℕ) (Sf : A → List Piece → Type 0) (Sg Sh : B → List Piece → Type 0)
    → ((x : A) (a : List Piece) → Sf x a → Ff x a) → ((y : B) (a : List Piece) → Sg y a → Fg y a) → ((y : B) (a : List Piece) → Sh y a → Fh y a)
    → (rf : Reader A) (rg rh : Reader B) → ((x : A) (a rest : List Piece) → Sf x a → Quiet mf rest → rf (a ++ rest) ≡ Got x rest)
    → ((y : B) (a rest : List Piece) → Sg y a → Quiet mg rest → rg (a ++ rest) ≡ Got y rest) → ((y : B) (a rest : List Piece) → Sh y a → Quiet mh rest → rh (a ++ rest) ≡ Got y rest)
    → (xs : List A) (y : B) (p r rest : List Piece) → Items w Sf xs p → SpellsEnd w Sg Sh y r → length xs ≤ n → Quiet (Mores w mf mg mh eh) rest
    → read_end c n w ff rf rg rh ((p ++ r) ++ rest) ≡ Got (xs, y) rest
ended_complete {A} {B} {w} {Ff} {Bf} {ff} {mf} {ef} {Fg} {Bg} {fg} {mg} {eg} {Fh} {Bh} {fh} {mh} {eh} s c zero Sf Sg Sh free free_g free_h rf rg rh cf cg ch [] y p r rest ip sr le still =
    ap (λ z. read_end c 0 w ff rf rg rh ((z ++ r) ++ rest)) ip ∙ end_complete s Sg Sh free_g free_h (λ k. Stuck c k) rg rh cg ch y r rest sr still
ended_complete {A} {B} {w} {Ff} {Bf} {ff} {mf} {ef} {Fg} {Bg} {fg} {mg} {eg} {Fh} {Bh} {fh} {mh} {eh} s c (suc n) Sf Sg Sh free free_g free_h rf rg rh cf cg ch [] y p r rest ip sr le still =
    ap (λ z. read_end c (suc n) w ff rf rg rh ((z ++ r) ++ rest)) ip
    ∙ end_complete s Sg Sh free_g free_h (λ k. after (λ x rest. made (λ v. (x ∷ v.0, v.1)) (read_end c n w ff rf rg rh rest)) (rf k)) rg rh cg ch y r rest sr still
ended_complete s c zero Sf Sg Sh free free_g free_h rf rg rh cf cg ch (x ∷ xs) y p r rest ip sr le still = absurd (omega (arith, le))
ended_complete {A} {B} {w} {Ff} {Bf} {ff} {mf} {ef} {Fg} {Bg} {fg} {mg} {eg} {Fh} {Bh} {fh} {mh} {eh} s c (suc n) Sf Sg Sh free free_g free_h rf rg rh cf cg ch (x ∷ xs) y p r rest (t, d, e, sc, sd) sr le still =
    let k = taken w (Sf x) t sc in
    let after_item : List Piece = (d ++ r) ++ rest in
    let item : List Piece → Answer (List A × B) = λ k. after (λ x rest. made (λ v. (x ∷ v.0, v.1)) (read_end c n w ff rf rg rh rest)) (rf k) in
    let whole : (p ++ r) ++ rest ≡ k.head ∷ (k.tail ++ after_item) =
    ap (λ z. (z ++ r) ++ rest) e ∙ ap (λ z. z ++ rest) (append_assoc t d r) ∙ append_assoc t (d ++ r) rest ∙ ap (λ z. z ++ after_item) k.is in
    let spelled : Ff x k.tail = free x k.tail k.behind in
    let test : starts ff (k.tail ++ after_item) ≡ true = elim (headed k.tail) [
      | inl nil ↦ absurd (true_false (s.f.fills x (subst (Ff x) nil spelled)) s.f_full)
      | inr hd ↦ ap (λ z. starts ff (z ++ after_item)) hd.is ∙ s.f.first hd.head hd.tail (subst Bf hd.is (s.f.begun x k.tail spelled))
    ] in
    let quiet_item : Quiet mf after_item = item_still s xs y d r rest (free_items w Sf Ff free xs d sd) (free_end w Sg Fg Sh Fh free_g free_h y r sr) still in
    let reads : rf (k.tail ++ after_item) ≡ Got x after_item = cf x k.tail after_item k.behind quiet_item in
    let fewer : length xs ≤ n = omega (arith, le) in
    let more : read_end c n w ff rf rg rh after_item ≡ Got (xs, y) rest = ended_complete s c n Sf Sg Sh free free_g free_h rf rg rh cf cg ch xs y d r rest sd sr fewer still in
    ap (read_end c (suc n) w ff rf rg rh) whole ∙ choice_token w ff item rg rh k.head (k.tail ++ after_item) k.admitted ∙ turn_item ff item rg (k.tail ++ after_item) test
    ∙ ap (after (λ x rest. made {B = List A × B} (λ v. (x ∷ v.0, v.1)) (read_end c n w ff rf rg rh rest))) reads ∙ ap (made {B = List A × B} (λ v. (x ∷ v.0, v.1))) more

items_size : {A : Type 0} (w : Want) (Sf : A → List Piece → Type 0) (xs : List A) (p : List Piece) → Items w Sf xs p → length xs ≤ length p
items_size w Sf [] p h = omega arith
items_size w Sf (x ∷ xs) p (c, d, e, sc, sd) =
    let below = items_size w Sf xs d sd in
    let k = taken w (Sf x) c sc in
    let size : length c ≡ suc (length k.tail) = ap length k.is in
    omega (arith, below, size, ap length e, length-append c d)

enough_items : {A : Type 0} (times : Times) (w : Want) (Sf : A → List Piece → Type 0) (xs : List A) (p rest : List Piece) → Items w Sf xs p → AreWithin times (length xs)
    → length xs ≤ turns times (p ++ rest)
enough_items AnyNumber w Sf xs p rest items wi = let below = items_size w Sf xs p items in omega (arith, below, length-append p rest)
enough_items (AtMost most cause) w Sf xs p rest items wi = wi

fuel_all : (times : Times) (ls : List Piece) → Fuel times (turns times ls) ls
fuel_all AnyNumber ls = omega arith
fuel_all (AtMost most cause) ls = tt

left_turns : (times : Times) (ls : List Piece) → left times (turns times ls) ≡ times
left_turns AnyNumber ls = refl
left_turns (AtMost most cause) ls = refl

pub ended_agrees : {A B : Type 0} {w : Want} {Ff : A → List Piece → Type 0} {Bf : List Piece → Type 0} {ff mf : List Want} {ef : Bool}
    {Fg : B → List Piece → Type 0} {Bg : List Piece → Type 0} {fg mg : List Want} {eg : Bool}
    {Fh : B → List Piece → Type 0} {Bh : List Piece → Type 0} {fh mh : List Want} {eh : Bool}
    → Ends w Ff Bf ff mf ef Fg Bg fg mg eg Fh Bh fh mh eh
    → (times : Times) → HasLimit times → {Sf : A → List Piece → Type 0} {Sg Sh : B → List Piece → Type 0} {Rf Rg Rh : Cause → List Piece → Type 0} {rf : Reader A} {rg rh : Reader B}
    → Agrees Sf Ff Bf Rf rf mf → Agrees Sg Fg Bg Rg rg mg → Agrees Sh Fh Bh Rh rh mh
    → Agrees (SpEnded times w Sf Sg Sh) (FrEnded w Ff Fg Fh) (BeginsEnded w Ff Bf Bg Bh) (BrEnded times w Sf Bf Rf Rg Rh)
    (λ ls. read_end (excess times) (turns times ls) w ff rf rg rh ls) (Mores w mf mg mh eh)
ended_agrees {A} {B} {w} {Ff} {Bf} {ff} {mf} {ef} {Fg} {Bg} {fg} {mg} {eg} {Fh} {Bh} {fh} {mh} {eh} s times limit {Sf} {Sg} {Sh} {Rf} {Rg} {Rh} {rf} {rg} {rh} af ag ah = record {
  free = λ y a h.
      let (p, r, e, ip, sr) = h.0 in
      ((p, r, e, free_items w Sf Ff af.free y.0 p ip, free_end w Sg Fg Sh Fh ag.free ah.free y.1 r sr), tt);
  complete = λ y a rest h still.
      let (p, r, e, ip, sr) = h.0 in
      let whole : a ++ rest ≡ p ++ (r ++ rest) = ap (λ z. z ++ rest) e ∙ append_assoc p r rest in
      let fuel : length y.0 ≤ turns times (a ++ rest) = subst (λ z. length y.0 ≤ turns times z) (sym whole) (enough_items times w Sf y.0 p (r ++ rest) ip h.1) in
      ap (λ z. read_end (excess times) (turns times (a ++ rest)) w ff rf rg rh (z ++ rest)) e
      ∙ ended_complete s (excess times) (turns times (a ++ rest)) Sf Sg Sh af.free ag.free ah.free rf rg rh af.complete ag.complete ah.complete y.0 y.1 p r rest ip sr fuel still;
  sound = λ ls.
      subst (λ t. Sound (SpEnded t w Sf Sg Sh) (FrEnded w Ff Fg Fh) (BeginsEnded w Ff Bf Bg Bh) (BrEnded t w Sf Bf Rf Rg Rh) ls
      (read_end (excess times) (turns times ls) w ff rf rg rh ls)) (left_turns times ls)
      (ended_sound s times (turns times ls) Sf Sg Sh Rf Rg Rh limit af.free rf rg rh af.sound ag.sound ah.sound ls (fuel_all times ls));
}
