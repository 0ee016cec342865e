-- What is read of a choice, of two forms, of a form in braces and of one behind the name of a model, step by step.
use Rattle.std.proofs.Common.{◌≡◌, List, Result, true, false, refl, subst, sym}
use Rattle.text_lexer.specs.declared.token.TokenKind.TheVariants as k
use Rattle.text_ast.specs.Pieces.{Piece}
use Rattle.text_tree.specs.Forms.{Cause, Sign, Upper, either, first, mapped, token}
use Rattle.text_tree.specs.ExprGrammar.{G, ◌⨾◌, behind, braces, sign}
use Rattle.text_tree.specs.Grammar.{most_levels}
use Rattle.text_tree.specs.Texts.{first_of}
use Rattle.text_grammar.specs.Reading.{Answer, Got, Stuck, made, one, read, starts}
use Rattle.text_syntax.specs.Parts.{applied}
use Rattle.text_syntax.specs.declared.stop.Stop.{Stop}
use Rattle.text_syntax.specs.Reads.{Reads, reading}

pub either_first : {A : Type 0} (f g : G A) (ls : List Piece) → starts (first first_of f) ls ≡ true → reading most_levels (either f g) ls ≡ reading most_levels f ls
unfolding read
either_first f g ls e = rw e refl

pub either_second : {A : Type 0} (f g : G A) (ls : List Piece) → starts (first first_of f) ls ≡ false → reading most_levels (either f g) ls ≡ reading most_levels g ls
unfolding read
either_second f g ls e = rw e refl

-- ---- two forms

pub both_first : {A B C : Type 0} (make : A × B → C) (f : G A) (g : G B) (ls rest : List Piece) (c : Cause) → reading most_levels f ls ≡ Stuck c rest
    → reading most_levels (mapped make (f ⨾ g)) ls ≡ Stuck c rest
unfolding read
both_first make f g ls rest c e = rw e refl

pub both_second : {A B C : Type 0} (make : A × B → C) (f : G A) (g : G B) (ls rest more : List Piece) (x : A) (c : Cause) → reading most_levels f ls ≡ Got x rest
    → reading most_levels g rest ≡ Stuck c more → reading most_levels (mapped make (f ⨾ g)) ls ≡ Stuck c more
unfolding read
both_second make f g ls rest more x c one_is e = rw (one_is, e) refl

pub both_got : {A B C : Type 0} (make : A × B → C) (f : G A) (g : G B) (ls rest more : List Piece) (x : A) (y : B) → reading most_levels f ls ≡ Got x rest
    → reading most_levels g rest ≡ Got y more → reading most_levels (mapped make (f ⨾ g)) ls ≡ Got (make (x, y)) more
unfolding read
both_got make f g ls rest more x y one_is e = rw (one_is, e) refl

-- ---- braces

pub braces_first : {A : Type 0} (f : G A) (ls rest : List Piece) (c : Cause) → one (Sign k.BraceOpen) ls ≡ Stuck c rest → reading most_levels (braces f) ls ≡ Stuck c rest
unfolding read
braces_first f ls rest c e = rw e refl

pub braces_second : {A : Type 0} (f : G A) (ls rest more : List Piece) (l : Piece) (c : Cause) → one (Sign k.BraceOpen) ls ≡ Got l rest → reading most_levels f rest ≡ Stuck c more
    → reading most_levels (braces f) ls ≡ Stuck c more
unfolding read
braces_second f ls rest more l c opens e = rw (opens, e) refl

pub braces_last : {A : Type 0} (f : G A) (ls rest more : List Piece) (l : Piece) (x : A) → one (Sign k.BraceOpen) ls ≡ Got l rest → reading most_levels f rest ≡ Got x more
    → reading most_levels (braces f) ls ≡ made (λ _. x) (one (Sign k.BraceClose) more)
unfolding read
braces_last {A} f ls rest more l x opens e = rw (opens, e) (go (one (Sign k.BraceClose) more))
  where
    go : (ans : Answer Piece) → made (λ (v : Piece × (A × Piece)). v.1.0) (made (λ y. (l, y)) (made (λ (y : Piece). (x, y)) ans)) ≡ made (λ _. x) ans
    go (Got y left) = refl
    go (Stuck c left) = refl

-- ---- behind the name of a model and `::`

abbrev pub of_name : {A : Type 0} → G (Piece → A) → G A
of_name f = mapped (λ v. v.1 v.0) (token Upper ⨾ behind (sign k.ColonColon) f)

pub name_read : {A : Type 0} (f : G (Piece → A)) (ls rest more : List Piece) (l m : Piece) → one Upper ls ≡ Got l rest → one (Sign k.ColonColon) rest ≡ Got m more
    → reading most_levels (of_name f) ls ≡ made (applied l) (reading most_levels f more)
unfolding read
name_read {A} f ls rest more l m name colons = rw (name, colons) (go (reading most_levels f more))
  where
    go : (ans : Answer (Piece → A)) → made (λ (v : Piece × (Piece → A)). v.1 v.0) (made (λ y. (l, y)) (made (λ (v : Piece × (Piece → A)). v.1) (made (λ y. (m, y)) ans))) ≡ made (applied l) ans
    go (Got make left) = refl
    go (Stuck c left) = refl

pub no_name : {A : Type 0} (f : G (Piece → A)) (ls rest : List Piece) (c : Cause) → one Upper ls ≡ Stuck c rest → reading most_levels (of_name f) ls ≡ Stuck c rest
unfolding read
no_name f ls rest c name = rw name refl

pub no_colons : {A : Type 0} (f : G (Piece → A)) (ls rest more : List Piece) (l : Piece) (c : Cause) → one Upper ls ≡ Got l rest → one (Sign k.ColonColon) rest ≡ Stuck c more
    → reading most_levels (of_name f) ls ≡ Stuck c more
unfolding read
no_colons f ls rest more l c name colons = rw (name, colons) refl

-- ---- what the same answer is read as

pub reads_same : {A : Type 0} (ans other : Answer A) (r : Result A Stop) (rest : List Piece) → ans ≡ other → Reads other r rest → Reads ans r rest
reads_same ans other r rest e h = subst (λ z. Reads z r rest) (sym e) h
