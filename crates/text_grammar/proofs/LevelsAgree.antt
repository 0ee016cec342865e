-- Parts that nest agree with their readers, at any number of levels.
use Rattle.std.proofs.Common.{◌≡◌, ◌⊎◌, inl, inr, ℕ, zero, suc, ◌≤◌, arith, List, [], ◌∷◌, ◌++◌, Bool, true, false, refl, ap, sym, ◌∙◌, subst}
use Rattle.std.specs.Prelude.{if◌then◌else◌}
use Rattle.text_ast.specs.Pieces.{Piece}
use Rattle.text_tree.specs.Forms.{Form, Want, AnyNumber, AtMost, Cause, NotGrammar, TooDeep, Spells, Begins, Breaks, loosened, may, first, empty, nothing, token, both, either, each, ended, mapped, part, within}
use Rattle.text_tree.specs.Levels.{Rules, SpellsPart, BeginsPart, IsTooDeep, IsFirst}
use Rattle.text_grammar.specs.Reading.{Answer, Got, Stuck, starts, read, read_part}
use Rattle.text_grammar.proofs.Lists.{Quiet, no_front, head_of, tail_of, true_false}
use Rattle.text_grammar.proofs.Tables.{mores, fine}
use Rattle.text_grammar.proofs.Shapes.{Shape}
use Rattle.text_grammar.proofs.FormShapes.{shape}
use Rattle.text_grammar.proofs.Agrees.{Sound, Agrees, relay}
use Rattle.text_grammar.proofs.FormAgrees.{Limited, agrees}

-- the form has no limit of its own
abbrev pub Unlimited : {P : Type 0} {T : P → Type 0} {A : Type 0} → Form P T A → Type 0
Unlimited (nothing x) = Unit {0}
Unlimited (token w) = Unit {0}
Unlimited (both f g) = Unlimited f × Unlimited g
Unlimited (either f g) = Unlimited f × Unlimited g
Unlimited (each AnyNumber f) = Unlimited f
Unlimited (each (AtMost most cause) f) = ⊥
Unlimited (ended AnyNumber w f g h) = Unlimited f × Unlimited g × Unlimited h
Unlimited (ended (AtMost most cause) w f g h) = ⊥
Unlimited (mapped make f) = Unlimited f
Unlimited (part p) = Unit {0}
Unlimited (within most f) = ⊥

only_deep : {P : Type 0} {T : P → Type 0} (S Z : (p : P) → T p → List Piece → Type 0) (B D : P → List Piece → Type 0) (c : Cause) {A : Type 0} (f : Form P T A)
    → Unlimited f → (ls : List Piece) → Breaks S Z B D c f ls → c ≡ TooDeep
only_deep S Z B D c (nothing x) u ls h = absurd h
only_deep S Z B D c (token w) u ls h = absurd h
only_deep S Z B D c (both f g) u ls (inl h) = only_deep S Z B D c f u.0 ls h
only_deep S Z B D c (both f g) u ls (inr (x, (p, q, e, sp, h))) = only_deep S Z B D c g u.1 q h
only_deep S Z B D c (either f g) u ls (inl h) = only_deep S Z B D c f u.0 ls h
only_deep S Z B D c (either f g) u ls (inr h) = only_deep S Z B D c g u.1 ls h
only_deep S Z B D c (each AnyNumber f) u ls (xs, inl ((p, q, e, sp, h), t)) = only_deep S Z B D c f u q h
only_deep S Z B D c (each AnyNumber f) u ls (xs, inr (h, never)) = absurd never
only_deep S Z B D c (each (AtMost most cause) f) u ls h = absurd u
only_deep S Z B D c (ended AnyNumber w f g k) u ls (xs, t, (p, q, e, sp, h)) = elim h [
  | inl a ↦ only_deep S Z B D c k u.2 q a
  | inr b ↦ elim b [
    | inl a ↦ only_deep S Z B D c g u.1 a.1 a.4
    | inr d ↦ elim d [ inl a ↦ only_deep S Z B D c f u.0 a.0.1 a.0.4 | inr a ↦ absurd a.1 ]
  ]
]
only_deep S Z B D c (ended (AtMost most cause) w f g k) u ls h = absurd u
only_deep S Z B D c (mapped make f) u ls h = only_deep S Z B D c f u ls h
only_deep S Z B D c (part p) u ls h = h.1
only_deep S Z B D c (within most f) u ls h = absurd u

-- the tables fit the forms of the parts
pub record Fits {P : Type 0} {T : P → Type 0} (G : Rules P T) (F M : P → List Want) : Type 1 where
  pub tight : (p : P) → loosened (G p) ≡ G p
  pub firsts : (p : P) → first F (G p) ≡ F p
  pub goes : (p : P) (l : Piece) → may (mores F M (G p)) l ≡ true → may (M p) l ≡ true
  pub full : (p : P) → empty (G p) ≡ false
  pub is_fine : (p : P) → fine F M (G p) ≡ true
  pub limited : (p : P) → Limited (G p)
  pub unlimited : (p : P) → Unlimited (G p)

first_closed : (wants : List Want) (a b : List Piece) → (a ++ b ≡ []) ⊎ IsFirst wants (a ++ b) → (a ≡ []) ⊎ IsFirst wants a
first_closed wants a b (inl e) = inl (no_front a b e)
first_closed wants [] b (inr h) = inl refl
first_closed wants (x ∷ a) b (inr h) =
    let none : a ≡ [] = no_front a b (tail_of x h.0 (a ++ b) [] h.1) in
    inr (x, ap (λ z. x ∷ z) none, ap (may wants) (head_of x h.0 (a ++ b) [] h.1) ∙ h.2)

first_head : (wants : List Want) (l : Piece) (ls : List Piece) → (l ∷ ls ≡ []) ⊎ IsFirst wants (l ∷ ls) → may wants l ≡ true
first_head wants l ls (inl e) = cc
first_head wants l ls (inr h) = ap (may wants) (head_of l h.0 ls [] h.1) ∙ h.2

pub shape_at : {P : Type 0} {T : P → Type 0} (G : Rules P T) (F M : P → List Want) → Fits G F M → (m : ℕ) (p : P) → Shape (SpellsPart G m p) (BeginsPart G F m p) (F p) (M p) false
shape_at G F M fits zero p = record {
  opens = inl refl;
  closed = first_closed (F p);
  begun = λ x a h. absurd h;
  first = first_head (F p);
  goes = λ x a l h be. absurd h;
  fills = λ x h. absurd h;
  able = λ l h. inr (l, refl, h);
  void = λ e. cc;
}
shape_at {P} {T} G F M fits (suc m) p =
    let s = shape F M (SpellsPart G m) (BeginsPart G F m) (shape_at G F M fits m) (G p) (fits.is_fine p) in
    let same : Form P T (T p) → Type 0 = λ f. Shape {A = T p} (Spells (SpellsPart G m) f) (Begins (SpellsPart G m) (BeginsPart G F m) (G p)) (first F (G p)) (mores F M (G p)) (empty (G p)) in
    let t : same (G p) = subst same (fits.tight p) s in
    record {
      opens = t.opens;
      closed = t.closed;
      begun = t.begun;
      first = λ l ls be. subst (λ z. may z l ≡ true) (fits.firsts p) (t.first l ls be);
      goes = λ x a l h be. fits.goes p l (t.goes x a l h be);
      fills = λ x h. absurd (true_false (t.fills x h) (fits.full p));
      able = λ l h. t.able l (subst (λ z. may z l ≡ true) (sym (fits.firsts p)) h);
      void = λ e. cc;
    }

deep_sound : {P : Type 0} {T : P → Type 0} (G : Rules P T) (F M : P → List Want) → Fits G F M → (m : ℕ) (p : P) (ls : List Piece)
    → Sound (SpellsPart G 0 p) (SpellsPart G m p) (BeginsPart G F m p) (λ c ls. IsTooDeep G F m 0 p ls × (c ≡ TooDeep)) ls (if starts (F p) ls then Stuck TooDeep ls else Stuck NotGrammar ls)
deep_sound G F M fits m p [] =
    let s = shape_at G F M fits m p in
    record { front = []; glued = refl; begun = s.opens; none = λ x h. let no : false ≡ true = s.fills x h in cc; blocked = tt }
deep_sound {P} {T} G F M fits m p (l ∷ ls) =
    let s = shape_at G F M fits m p in
    elim (may (F p) l) as (λ (b : Bool). may (F p) l ≡ b
    → Sound (SpellsPart G 0 p) (SpellsPart G m p) (BeginsPart G F m p) (λ c ls. IsTooDeep G F m 0 p ls × (c ≡ TooDeep)) (l ∷ ls) (if b then Stuck TooDeep (l ∷ ls) else Stuck NotGrammar (l ∷ ls))) [
      | true ↦ λ e. record { front = []; last = l; more = ls; glued = refl; stands = refl; begun = s.opens; breaks = ((l, refl, e), refl) }
      | false ↦ λ e. record {
        front = [];
        glued = refl;
        begun = s.opens;
        none = λ x h. let no : false ≡ true = s.fills x h in cc;
        blocked = λ be. true_false (s.first l [] be) e;
      }
    ] refl

quiet_less : (us vs : List Want) → ((l : Piece) → may us l ≡ true → may vs l ≡ true) → (ls : List Piece) → Quiet vs ls → Quiet us ls
quiet_less us vs less [] q = tt
quiet_less us vs less (l ∷ ls) q =
    elim (may us l) as (λ (b : Bool). may us l ≡ b → b ≡ false) [ true ↦ λ e. absurd (true_false (less l e) q) | false ↦ λ e. refl ] refl

part_sound : {A : Type 0} (Sp Fr : A → List Piece → Type 0) (Be : List Piece → Type 0) (Br : Cause → List Piece → Type 0) (Dp : List Piece → Type 0)
    → ((c : Cause) (ls : List Piece) → Br c ls → Dp ls × (c ≡ TooDeep)) → (ls : List Piece) (ans : Answer A) → Sound Sp Fr Be Br ls ans → Sound Sp Fr Be (λ c ls. Dp ls × (c ≡ TooDeep)) ls ans
part_sound Sp Fr Be Br Dp deep ls (Got x rest) s = s
part_sound Sp Fr Be Br Dp deep ls (Stuck c rest) s =
    relay Sp Fr Be Br ls Sp Fr Be (λ c ls. Dp ls × (c ≡ TooDeep)) ls c rest (λ s. s)
    (λ s. record { front = s.front; last = s.last; more = s.more; glued = s.glued; stands = s.stands; begun = s.begun; breaks = deep c (s.front ++ s.last ∷ []) s.breaks }) s

pub agrees_at : {P : Type 0} {T : P → Type 0} (G : Rules P T) (F M : P → List Want) → Fits G F M → (n m : ℕ) → n ≤ m → (p : P)
    → Agrees (SpellsPart G n p) (SpellsPart G m p) (BeginsPart G F m p) (λ c ls. IsTooDeep G F m n p ls × (c ≡ TooDeep)) (read_part G F n p) (M p)
unfolding read_part
agrees_at G F M fits zero m le p = record {
  free = λ x a h. absurd h;
  complete = λ x a rest h still. absurd h;
  sound = deep_sound G F M fits m p;
}
agrees_at G F M fits (suc n) zero le p = absurd (omega (arith, le))
agrees_at {P} {T} G F M fits (suc n) (suc m) le p =
    let fewer : n ≤ m = omega (arith, le) in
    let a = agrees F M (SpellsPart G n) (SpellsPart G m) (BeginsPart G F m) (IsTooDeep G F m n) (read_part G F n) (shape_at G F M fits m) (agrees_at G F M fits n m fewer) (G p) (fits.is_fine p)
    (fits.limited p) in
    let same : Form P T (T p) → Type 0 =
    λ f. Agrees {A = T p} (Spells (SpellsPart G n) (G p)) (Spells (SpellsPart G m) f) (Begins (SpellsPart G m) (BeginsPart G F m) (G p))
    (λ c ls. Breaks (SpellsPart G n) (SpellsPart G m) (BeginsPart G F m) (IsTooDeep G F m n) c (G p) ls) (read F (read_part G F n) (G p)) (mores F M (G p)) in
    let t : same (G p) = subst same (fits.tight p) a in
    record {
      free = t.free;
      complete = λ x b rest h still. t.complete x b rest h (quiet_less (mores F M (G p)) (M p) (fits.goes p) rest still);
      sound = λ ls.
          part_sound (SpellsPart G (suc n) p) (SpellsPart G (suc m) p) (BeginsPart G F (suc m) p)
          (λ c ls. Breaks (SpellsPart G n) (SpellsPart G m) (BeginsPart G F m) (IsTooDeep G F m n) c (G p) ls) (IsTooDeep G F (suc m) (suc n) p)
          (λ c ls h.
          let deep : c ≡ TooDeep = only_deep (SpellsPart G n) (SpellsPart G m) (BeginsPart G F m) (IsTooDeep G F m n) c (G p) (fits.unlimited p) ls h in
          (subst (λ c. Breaks (SpellsPart G n) (SpellsPart G m) (BeginsPart G F m) (IsTooDeep G F m n) c (G p) ls) deep h, deep)) ls (read F (read_part G F n) (G p) ls) (t.sound ls);
    }

-- a form over parts with n levels left agrees with its reader, and at any m levels with what it is without limits
pub form_agrees : {P : Type 0} {T : P → Type 0} (G : Rules P T) (F M : P → List Want) → Fits G F M → (n m : ℕ) → n ≤ m → {A : Type 0} (f : Form P T A) → fine F M f ≡ true → Limited f
    → Agrees {A = A} (Spells (SpellsPart G n) f) (Spells (SpellsPart G m) (loosened f)) (Begins (SpellsPart G m) (BeginsPart G F m) f)
    (λ c ls. Breaks (SpellsPart G n) (SpellsPart G m) (BeginsPart G F m) (IsTooDeep G F m n) c f ls) (read F (read_part G F n) f) (mores F M f)
form_agrees G F M fits n m le f e l =
    agrees F M (SpellsPart G n) (SpellsPart G m) (BeginsPart G F m) (IsTooDeep G F m n) (read_part G F n) (shape_at G F M fits m) (agrees_at G F M fits n m le) f e l
