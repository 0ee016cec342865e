-- Arguments that are read one after another into words.
use Rattle.std.proofs.Common.{◌≡◌, ℕ, ◌<◌, List, [], ◌∷◌, ◌++◌, length, map, ap, sym, ◌∙◌, inl, inr, subst, arith, append_assoc, append-nil}
use Rattle.std.specs.Prelude.{All, Any}
use Rattle.std.proofs.Math.Seq.{get_or-append_seam}
use Rattle.std.proofs.lemmas.List.{length-append, nil_from_length}
use Rattle.text_ast.specs.Words.{IsText}
use Rattle.app_main.specs.Arguments.{AreWordsOf}

-- no argument is left
pub AreWordsOf-end : {X : Type 0} (bytes : X → List ℕ) (arguments words : List (List ℕ)) (left : List X) → length left ≡ 0 → All IsText words → arguments ≡ words ++ map bytes left → AreWordsOf arguments words
AreWordsOf-end bytes arguments words left none texts split =
    let all : arguments ≡ words = split ∙ ap (λ l. words ++ map bytes l) (nil_from_length left none) ∙ append-nil words in
    inl (subst (All IsText) (sym all) texts, sym all)

-- the next argument is no text
pub AreWordsOf-stop : {X : Type 0} (bytes : X → List ℕ) (arguments words : List (List ℕ)) (left rest : List X) (x : X) → left ≡ x ∷ rest → arguments ≡ words ++ map bytes left → ¬ (IsText (bytes x))
    → (others : List (List ℕ)) → others ≡ [] ∷ [] → AreWordsOf arguments others
AreWordsOf-stop bytes arguments words left rest x next split no_text others empty =
    let P : List (List ℕ) → Type 0 = Any (λ a. ¬ (IsText a)) in
    let all : arguments ≡ words ++ bytes x ∷ map bytes rest = split ∙ ap (λ l. words ++ map bytes l) next in
    let within : length words < length (words ++ bytes x ∷ map bytes rest) = omega (arith, length-append words (bytes x ∷ map bytes rest)) in
    inr (subst P (sym all) (length words, bytes x, within, get_or-append_seam words (bytes x) (map bytes rest) (bytes x), no_text), empty)

-- the next argument is a word
pub words-more : {X : Type 0} (bytes : X → List ℕ) (arguments words : List (List ℕ)) (left rest : List X) (x : X) → left ≡ x ∷ rest → arguments ≡ words ++ map bytes left → arguments ≡ (words ++ bytes x ∷ []) ++ map bytes rest
words-more bytes arguments words left rest x next split =
    split ∙ ap (λ l. words ++ map bytes l) next ∙ sym (append_assoc words (bytes x ∷ []) (map bytes rest))
