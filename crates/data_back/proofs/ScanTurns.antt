-- A turn of reading a text in quotes.
use Rattle.std.proofs.Common.{◌≡◌, ℕ, suc, ◌+◌, ◌-◌, ◌<◌, List, [], ◌∷◌, ◌++◌, refl, ◌∙◌, arith}
use Rattle.std.specs.Prelude.{Some, None, Err}
use Rattle.data_back.specs.declared.stop.Stop.{Stop}
use Rattle.data_back.specs.declared.stop.Stop.TheVariants as stop
use Rattle.data_back.specs.Reading.{Answer, after, choose, ReadsAs, word_at, character_at, quote, text_from}

-- the turns that are left are one and the others
pub one-more : (turn most : ℕ) → turn < most → most - turn ≡ suc (most - (turn + 1))
one-more turn most below = omega (arith, below)

-- where a part is not read, the whole is not
pub stopped : {A B C D : Type 0} (f : A → B) (g : C → D) (part : Answer B) (whole : Answer D) (why : Stop) (rest left : List ℕ)
    → ReadsAs f part (Err why) rest → (part ≡ None → whole ≡ None) → ReadsAs g whole (Err why) left
stopped f g part whole stop.Unlike rest left h none = none h
stopped f g part whole stop.OutOfMemory rest left h none = tt

module _ (bytes : List ℕ) (turn most : ℕ) (text : List ℕ) (below : turn < most) where
  turned : text_from bytes (most - turn) text
      ≡ choose (λ rest. Some (bytes, rest)) (after (λ byte rest. text_from (bytes ++ byte ∷ []) (most - (turn + 1)) rest) (character_at text)) (word_at quote text)
  turned = rw (one-more turn most below) refl

  pub at-quote : (rest : List ℕ) → word_at quote text ≡ Some (tt, rest) → text_from bytes (most - turn) text ≡ Some (bytes, rest)
  at-quote rest e = turned ∙ rw e refl

  pub at-other : word_at quote text ≡ None → character_at text ≡ None → text_from bytes (most - turn) text ≡ None
  at-other e none = turned ∙ rw (e, none) refl

  pub at-one : (byte : ℕ) (rest : List ℕ) → word_at quote text ≡ None → character_at text ≡ Some (byte, rest)
      → text_from bytes (most - turn) text ≡ text_from (bytes ++ byte ∷ []) (most - (turn + 1)) rest
  at-one byte rest e some = turned ∙ rw (e, some) refl
