-- What was read, and how many tokens it took.
use Rattle.std.proofs.Common.{◌≡◌, ℕ, ◌-◌, List, length, drop, Bool, true, false, refl, Err, Option, Some, None}
use Rattle.std.specs.Prelude.{if◌then◌else◌, nat_le}
use Rattle.text_ast.specs.Pieces.{Piece}
use Rattle.text_tree.specs.Forms.{Cause, TooManyTokens}
use Rattle.text_grammar.specs.Reading.{Answer, Stuck, at_most}
use Rattle.text_syntax.specs.declared.stop.Stop.{Stop}
use Rattle.text_syntax.specs.Reads.{IsStopWithin, Reads, cause_of}

abbrev stuck : (A : Type 0) → Cause → List Piece → Answer A
stuck A c rest = Stuck c rest

-- what a budget does with a cause is the same whatever was to be read
same_stop : (T : Type 0) (most : ℕ) (ls rest left : List Piece) (c d : Cause) → at_most most ls (stuck ℕ c rest) ≡ stuck ℕ d left → at_most most ls (stuck T c rest) ≡ stuck T d left
same_stop T most ls rest left c d e = go (nat_le (length ls - length rest) most) e
  where
    go : (b : Bool) → (if b then stuck ℕ c rest else stuck ℕ TooManyTokens (drop most ls)) ≡ stuck ℕ d left → (if b then stuck T c rest else stuck T TooManyTokens (drop most ls)) ≡ stuck T d left
    go true h = let x : c ≡ d = cc in let y : rest ≡ left = cc in rw (x, y) refl
    go false h = let x : TooManyTokens ≡ d = cc in let y : drop most ls ≡ left = cc in rw (x, y) refl

pub stop_within : {T : Type 0} (most : ℕ) (ls rest left : List Piece) (answer : Answer T) (stop other : Stop)
    → Reads answer (Err stop) rest → IsStopWithin most ls rest stop other left → (cause_of stop ≡ None → cause_of other ≡ None) → Reads (at_most most ls answer) (Err other) left
stop_within {T} most ls rest left answer stop other was within spent d h = go (cause_of stop) refl
  where
    go : (o : Option Cause) → cause_of stop ≡ o → at_most most ls answer ≡ Stuck d left
    go (Some c) e = rw (was c e) (same_stop T most ls rest left c d (within c d e h))
    go None e = let none = spent e in absurd (cc)
