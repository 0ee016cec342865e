-- What the reader of a form answers for a whole list of pieces.
use Rattle.std.proofs.Common.{◌≡◌, ◌≤◌, ℕ, arith, List, [], ◌∷◌, ◌++◌, true, ap, sym, ◌∙◌, subst, append-nil}
use Rattle.text_ast.specs.Pieces.{Piece}
use Rattle.text_tree.specs.Forms.{Cause, NotGrammar, TooDeep, TooManyTokens, TooManyStatics, TooManyModels, TooManyFields, TooManyCommands, Spells, Begins, Breaks, loosened}
use Rattle.text_tree.specs.Levels.{SpellsPart, BeginsPart, IsTooDeep}
use Rattle.door_requests.specs.Grammar.{G, rule}
use Rattle.text_ast.specs.Limits.{most_levels}
use Rattle.door_requests.specs.Texts.{IsSpelled, IsBegunAt, first_of}
use Rattle.text_grammar.specs.Reading.{Answer, Got, Stuck, read, read_part}
use Rattle.text_grammar.specs.Answers.{to_end, whole}
use Rattle.text_grammar.proofs.WholeLists.{limited, limited_sound}
use Rattle.door_requests.specs.Answers.{answer, IsOver, Means}
use Rattle.text_grammar.proofs.Tables.{fine}
use Rattle.text_grammar.proofs.Agrees.{Blocked, IsBroken, Sound}
use Rattle.text_grammar.proofs.LevelsAgree.{form_agrees, shape_at}
use Rattle.text_grammar.proofs.FormShapes.{shape}
use Rattle.door_requests.proofs.GrammarFits.{fits, goes_on}

next_blocked : (Be : List Piece → Type 0) (a rest : List Piece) → Blocked Be a rest → (l : Piece) (more : List Piece) → rest ≡ l ∷ more → ¬ (Be (a ++ l ∷ []))
next_blocked Be a rest b l more e = subst (Blocked Be a) e b

-- the same as agreement says it, with the words of the answers
abbrev Given : {A : Type 0} → ℕ → G A → List Piece → Answer A → Type 0
Given m f =
    Sound (Spells (SpellsPart rule most_levels) f) (Spells (SpellsPart rule m) (loosened f)) (Begins (SpellsPart rule m) (BeginsPart rule first_of m) f)
    (λ c ls. Breaks (SpellsPart rule most_levels) (SpellsPart rule m) (BeginsPart rule first_of m) (IsTooDeep rule first_of m most_levels) c f ls)

read_means : {A : Type 0} (m : ℕ) (f : G A) → ((x : A) (a : List Piece) → IsSpelled f x a → IsBegunAt m f a) → (ls : List Piece) (x : A) (rest : List Piece) → Given m f ls (Got x rest)
    → Means m f ls (to_end x rest)
read_means m f begun ls x [] s = subst (IsSpelled f x) (sym (s.glued ∙ append-nil s.front)) s.spelled
read_means m f begun ls x (l ∷ rest) s =
    record { front = s.front; glued = s.glued; begun = begun x s.front s.spelled; ends = λ e. cc; next = next_blocked (IsBegunAt m f) s.front (l ∷ rest) s.blocked }

over : {A : Type 0} (m : ℕ) (f : G A) (c : Cause) (ls rest : List Piece)
    → IsBroken (IsBegunAt m f) (Breaks (SpellsPart rule most_levels) (SpellsPart rule m) (BeginsPart rule first_of m) (IsTooDeep rule first_of m most_levels) c f) ls rest → IsOver m c f ls rest
over m f c ls rest s = record { front = s.front; last = s.last; more = s.more; glued = s.glued; stands = s.stands; breaks = s.breaks }

stuck_means : {A : Type 0} (m : ℕ) (f : G A) (ls : List Piece) (c : Cause) (rest : List Piece) → Given m f ls (Stuck c rest) → Means m f ls (Stuck c rest)
stuck_means m f ls NotGrammar rest s =
    record { front = s.front; glued = s.glued; begun = s.begun; ends = λ e. s.none; next = next_blocked (IsBegunAt m f) s.front rest s.blocked }
stuck_means m f ls TooDeep rest s = over m f TooDeep ls rest s
stuck_means m f ls TooManyTokens rest s = over m f TooManyTokens ls rest s
stuck_means m f ls TooManyStatics rest s = over m f TooManyStatics ls rest s
stuck_means m f ls TooManyModels rest s = over m f TooManyModels ls rest s
stuck_means m f ls TooManyFields rest s = over m f TooManyFields ls rest s
stuck_means m f ls TooManyCommands rest s = over m f TooManyCommands ls rest s

whole_means : {A : Type 0} (m : ℕ) (f : G A) → ((x : A) (a : List Piece) → IsSpelled f x a → IsBegunAt m f a) → (ls : List Piece) (ans : Answer A) → Given m f ls ans → Means m f ls (whole ans)
whole_means m f begun ls (Got x rest) s = read_means m f begun ls x rest s
whole_means m f begun ls (Stuck c rest) s = stuck_means m f ls c rest s

pub record Answers {A : Type 0} (f : G A) : Type 0 where
  pub read : (x : A) (ls : List Piece) → IsSpelled f x ls → answer f ls ≡ Got x []
  pub means : (m : ℕ) → most_levels ≤ m → (ls : List Piece) → Means m f ls (answer f ls)

pub answers : {A : Type 0} (f : G A) → fine first_of goes_on f ≡ true → limited f ≡ true → Answers f
unfolding answer
answers f e l = record {
  read = λ x ls h.
      let a = form_agrees rule first_of goes_on fits most_levels most_levels (omega arith) f e (limited_sound f l) in
      ap whole (ap (read first_of (read_part rule first_of most_levels) f) (sym (append-nil ls)) ∙ a.complete x ls [] h tt);
  means = λ m le ls.
      let a = form_agrees rule first_of goes_on fits most_levels m le f e (limited_sound f l) in
      let s = shape first_of goes_on (SpellsPart rule m) (BeginsPart rule first_of m) (shape_at rule first_of goes_on fits m) f e in
      whole_means m f (λ x b h. s.begun x b (a.free x b h)) ls (read first_of (read_part rule first_of most_levels) f ls) (a.sound ls);
}
