-- What one turn of a loop gives that reads items.
use Rattle.std.specs.Prelude.{◌≡◌, ◌+◌, ℕ, List, [], ◌∷◌, Option, Some, None, Result, Ok, Err}
use Rattle.text_ast.specs.Pieces.{Piece}
use Rattle.text_tree.specs.Forms.{Cause}
use Rattle.text_grammar.specs.Reading.{Answer, Got, Stuck, Reader, made}
use Rattle.text_syntax.specs.declared.stop.Stop.{Stop}
use Rattle.text_syntax.specs.Reads.{cause_of}

-- Where so many items may still come, it gives an item before what is read after it, or the end, or what stands in the way.
abbrev pub Turns : {A : Type 0} → (ℕ → Reader (List A)) → ℕ → List Piece → Result (Option A) Stop → List Piece → Type 0
Turns items left old (Ok (Some x)) new = (fewer : ℕ) × (left ≡ fewer + 1) × (items left old ≡ made (λ xs. x ∷ xs) (items fewer new))
Turns items left old (Ok None) new = items left old ≡ Got [] new
Turns items left old (Err stop) new = (c : Cause) → cause_of stop ≡ Some c → items left old ≡ Stuck c new

-- the answer without its value
abbrev pub passed : {A : Type 0} → Answer A → Answer (Unit {0})
passed ans = made (λ x. tt) ans
