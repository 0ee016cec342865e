-- What the reader of a form answers for a whole list of pieces.
use Rattle.std.proofs.Common.{◌≡◌, ◌≤◌, ℕ, arith, List, [], ◌∷◌, ◌++◌, Bool, true, false, ◌&&◌, ap, sym, ◌∙◌, subst, append-nil}
use Rattle.text_ast.specs.Pieces.{Piece}
use Rattle.text_tree.specs.Forms.{Form, Times, AnyNumber, AtMost, Cause, NotGrammar, TooDeep, TooManyTokens, TooManyStatics, TooManyModels, TooManyFields, TooManyCommands, Spells, Begins, Breaks, loosened, nothing, token, both, either, each, ended, mapped, part, within}
use Rattle.text_tree.specs.Levels.{SpellsPart, BeginsPart, IsTooDeep}
use Rattle.text_tree.specs.ExprGrammar.{G, rule}
use Rattle.text_tree.specs.Grammar.{most_levels}
use Rattle.text_tree.specs.Texts.{IsSpelled, IsBegunAt, first_of}
use Rattle.text_grammar.specs.Reading.{Answer, Got, Stuck, read, read_part}
use Rattle.text_grammar.specs.Answers.{to_end, whole, answer, IsOver, Means}
use Rattle.text_grammar.proofs.Lists.{both_true}
use Rattle.text_grammar.proofs.Tables.{fine}
use Rattle.text_grammar.proofs.Agrees.{Blocked, IsBroken, Sound}
use Rattle.text_grammar.proofs.EachAgrees.{IsLimit, HasLimit}
use Rattle.text_grammar.proofs.FormAgrees.{Limited}
use Rattle.text_grammar.proofs.LevelsAgree.{form_agrees, shape_at}
use Rattle.text_grammar.proofs.FormShapes.{shape}
use Rattle.text_grammar.proofs.GrammarFits.{fits, goes_on}

abbrev pub is_limit : Cause → Bool
is_limit NotGrammar = false
is_limit TooDeep = true
is_limit TooManyTokens = true
is_limit TooManyStatics = true
is_limit TooManyModels = true
is_limit TooManyFields = true
is_limit TooManyCommands = true

abbrev pub has_limit : Times → Bool
has_limit AnyNumber = true
has_limit (AtMost most cause) = is_limit cause

abbrev pub limited : {P : Type 0} {T : P → Type 0} {A : Type 0} → Form P T A → Bool
limited (nothing x) = true
limited (token w) = true
limited (both f g) = limited f && limited g
limited (either f g) = limited f && limited g
limited (each times f) = has_limit times && limited f
limited (ended times w f g h) = has_limit times && (limited f && (limited g && limited h))
limited (mapped make f) = limited f
limited (part p) = true
limited (within most f) = limited f

false_true : false ≡ true → ⊥
false_true e = cc

is_limit_sound : (c : Cause) → is_limit c ≡ true → IsLimit c
is_limit_sound NotGrammar e = let never : false ≡ true = e in absurd (false_true never)
is_limit_sound TooDeep e = tt
is_limit_sound TooManyTokens e = tt
is_limit_sound TooManyStatics e = tt
is_limit_sound TooManyModels e = tt
is_limit_sound TooManyFields e = tt
is_limit_sound TooManyCommands e = tt

has_limit_sound : (times : Times) → has_limit times ≡ true → HasLimit times
has_limit_sound AnyNumber e = tt
has_limit_sound (AtMost most cause) e = is_limit_sound cause e

pub limited_sound : {P : Type 0} {T : P → Type 0} {A : Type 0} (f : Form P T A) → limited f ≡ true → Limited f
limited_sound (nothing x) e = tt
limited_sound (token w) e = tt
limited_sound (both f g) e = let p = both_true (limited f) (limited g) e in (limited_sound f p.0, limited_sound g p.1)
limited_sound (either f g) e = let p = both_true (limited f) (limited g) e in (limited_sound f p.0, limited_sound g p.1)
limited_sound (each times f) e = let p = both_true (has_limit times) (limited f) e in (has_limit_sound times p.0, limited_sound f p.1)
limited_sound (ended times w f g h) e =
    let p = both_true (has_limit times) (limited f && (limited g && limited h)) e in
    let q = both_true (limited f) (limited g && limited h) p.1 in
    let r = both_true (limited g) (limited h) q.1 in
    (has_limit_sound times p.0, limited_sound f q.0, limited_sound g r.0, limited_sound h r.1)
limited_sound (mapped make f) e = limited_sound f e
limited_sound (part p) e = tt
limited_sound (within most f) e = limited_sound f e

next_blocked : (Be : List Piece → Type 0) (a rest : List Piece) → Blocked Be a rest → (l : Piece) (more : List Piece) → rest ≡ l ∷ more → ¬ (Be (a ++ l ∷ []))
next_blocked Be a rest b l more e = subst (Blocked Be a) e b

-- the same as agreement says it, with the words of the answers
abbrev Given : {A : Type 0} → ℕ → G A → List Piece → Answer A → Type 0
Given m f =
    Sound (Spells (SpellsPart rule most_levels) f) (Spells (SpellsPart rule m) (loosened f)) (Begins (SpellsPart rule m) (BeginsPart rule first_of m) f)
    (λ c ls. Breaks (SpellsPart rule most_levels) (SpellsPart rule m) (BeginsPart rule first_of m) (IsTooDeep rule first_of m most_levels) c f ls)

read_means : {A : Type 0} (m : ℕ) (f : G A) → ((x : A) (a : List Piece) → IsSpelled f x a → IsBegunAt m f a) → (ls : List Piece) (x : A) (rest : List Piece) → Given m f ls (Got x rest)
    → Means m f ls (to_end x rest)
read_means m f begun ls x [] s = subst (IsSpelled f x) (sym (s.glued ∙ append-nil s.front)) s.spelled
read_means m f begun ls x (l ∷ rest) s =
    record { front = s.front; glued = s.glued; begun = begun x s.front s.spelled; ends = λ e. cc; next = next_blocked (IsBegunAt m f) s.front (l ∷ rest) s.blocked }

over : {A : Type 0} (m : ℕ) (f : G A) (c : Cause) (ls rest : List Piece)
    → IsBroken (IsBegunAt m f) (Breaks (SpellsPart rule most_levels) (SpellsPart rule m) (BeginsPart rule first_of m) (IsTooDeep rule first_of m most_levels) c f) ls rest → IsOver m c f ls rest
over m f c ls rest s = record { front = s.front; last = s.last; more = s.more; glued = s.glued; stands = s.stands; breaks = s.breaks }

stuck_means : {A : Type 0} (m : ℕ) (f : G A) (ls : List Piece) (c : Cause) (rest : List Piece) → Given m f ls (Stuck c rest) → Means m f ls (Stuck c rest)
stuck_means m f ls NotGrammar rest s =
    record { front = s.front; glued = s.glued; begun = s.begun; ends = λ e. s.none; next = next_blocked (IsBegunAt m f) s.front rest s.blocked }
stuck_means m f ls TooDeep rest s = over m f TooDeep ls rest s
stuck_means m f ls TooManyTokens rest s = over m f TooManyTokens ls rest s
stuck_means m f ls TooManyStatics rest s = over m f TooManyStatics ls rest s
stuck_means m f ls TooManyModels rest s = over m f TooManyModels ls rest s
stuck_means m f ls TooManyFields rest s = over m f TooManyFields ls rest s
stuck_means m f ls TooManyCommands rest s = over m f TooManyCommands ls rest s

whole_means : {A : Type 0} (m : ℕ) (f : G A) → ((x : A) (a : List Piece) → IsSpelled f x a → IsBegunAt m f a) → (ls : List Piece) (ans : Answer A) → Given m f ls ans → Means m f ls (whole ans)
whole_means m f begun ls (Got x rest) s = read_means m f begun ls x rest s
whole_means m f begun ls (Stuck c rest) s = stuck_means m f ls c rest s

pub record Answers {A : Type 0} (f : G A) : Type 0 where
  pub read : (x : A) (ls : List Piece) → IsSpelled f x ls → answer f ls ≡ Got x []
  pub means : (m : ℕ) → most_levels ≤ m → (ls : List Piece) → Means m f ls (answer f ls)

pub answers : {A : Type 0} (f : G A) → fine first_of goes_on f ≡ true → limited f ≡ true → Answers f
unfolding answer
answers f e l = record {
  read = λ x ls h.
      let a = form_agrees rule first_of goes_on fits most_levels most_levels (omega arith) f e (limited_sound f l) in
      ap whole (ap (read first_of (read_part rule first_of most_levels) f) (sym (append-nil ls)) ∙ a.complete x ls [] h tt);
  means = λ m le ls.
      let a = form_agrees rule first_of goes_on fits most_levels m le f e (limited_sound f l) in
      let s = shape first_of goes_on (SpellsPart rule m) (BeginsPart rule first_of m) (shape_at rule first_of goes_on fits m) f e in
      whole_means m f (λ x b h. s.begun x b (a.free x b h)) ls (read first_of (read_part rule first_of most_levels) f ls) (a.sound ls);
}
