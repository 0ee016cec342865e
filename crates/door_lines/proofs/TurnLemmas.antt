-- Turns of a call for the next line, one after another.
use Rattle.std.proofs.Common.{◌≡◌, ◌≢◌, ℕ, ◌+◌, ◌<◌, List, ◌++◌, length, refl, replicate, Option, None, Some, IfSome, sym, ap, subst, ◌∙◌, arith, append_assoc, length-append, Ok, Err}
use Rattle.std.specs.Prelude.{IfNone, IfOk, Result}
use Rattle.std.proofs.lemmas.List.{length-replicate}
use Rattle.std.proofs.lemmas.List.Elements.{All-replicate}
use Rattle.door_lines.specs.declared.lines.Line.{Line}
use Rattle.door_lines.specs.declared.lines.Line.TheVariants.{Text, Cut, End}
use Rattle.door_lines.specs.declared.source.FlowErr.{FlowErr}
use Rattle.door_lines.specs.declared.source.FlowErr.TheVariants.{ReadFault, Budget}
use Rattle.door_lines.specs.Lines.{LineBufState, Answers, HasEnded, IsPlaced, IsInLine, IsNextLine, IsRest, held}
use Rattle.door_lines.specs.Turns.{HasTaken, IsTurn, SameCounts}
use Rattle.door_lines.proofs.Answered.{answers_as}
use Rattle.door_lines.proofs.RestLemmas.{consumes_then, rest_in_line, same_limits}

-- bytes were taken, and then the call went on and ended
pub later_line : (u v w : Option (List ℕ)) (a b c : LineBufState) (result : Result Line FlowErr) → HasTaken u v a b → IsNextLine v w b c result → IsNextLine u w a c result
later_line u v w a b c result s n = record {
  came = s.came ++ n.came;
  consumed = consumes_then u v w s.came n.came s.consumed n.consumed;
  counted = (omega (arith, s.counted, n.counted, length-append s.came n.came));
  limits = same_limits a b c s.limits n.limits;
  answers = λ rest r. subst (λ l. Answers (HasEnded w c) c l result) (append_assoc rest s.came n.came) (n.answers (rest ++ s.came) (s.rest rest r));
}

-- bytes were taken, and then a line was given of what is held
pub given_line : (ended : Type 0) (u v : Option (List ℕ)) (a b c : LineBufState) (line : Line) → HasTaken u v a b → SameCounts b c → (ended → HasEnded v c)
    → ((rest : List ℕ) → IsRest b rest → Answers ended c rest (Ok line)) → IsNextLine u v a c (Ok line)
given_line ended u v a b c line t same know step = record {
  came = t.came;
  consumed = t.consumed;
  counted = same.taken ∙ t.counted;
  limits = same_limits a b c t.limits same.limits;
  answers = λ rest r. answers_as ended (HasEnded v c) c (rest ++ t.came) line know (step (rest ++ t.came) (t.rest rest r));
}

-- bytes were taken, and no newline is among them
pub failed_line : (u v : Option (List ℕ)) (a b : LineBufState) → HasTaken u v a b → IsInLine (held b) → IsNextLine u v a b (Err ReadFault)
failed_line u v a b t in_line = record {
  came = t.came;
  consumed = t.consumed;
  counted = t.counted;
  limits = t.limits;
  answers = λ rest r. (let q = t.rest rest r in (rest_in_line b (rest ++ t.came) q in_line, q));
}

-- the same, and no more may be taken
pub spent_line : (u v : Option (List ℕ)) (a b : LineBufState) → HasTaken u v a b → IsInLine (held b) → b.taken ≡ b.budget → IsNextLine u v a b (Err Budget)
spent_line u v a b t in_line spent = record {
  came = t.came;
  consumed = t.consumed;
  counted = t.counted;
  limits = t.limits;
  answers = λ rest r. (let q = t.rest rest r in (rest_in_line b (rest ++ t.came) q in_line, spent, q));
}

-- what a search of what is held comes to
pub turn_of : (u v : Option (List ℕ)) (a b c : LineBufState) (found : Option Line) → HasTaken u v a b → a.taken < b.taken → SameCounts b c
    → IfNone found (c ≡ b) → IfNone found (IsInLine (held b)) → IfSome found (λ line. (rest : List ℕ) → IsRest b rest → Answers ⊥ c rest (Ok line)) → IsTurn u v a c (Ok found)
turn_of u v a b c None t more same kept none some =
    subst (λ z. HasTaken u v a z × IsInLine (held z) × (a.taken < z.taken)) (sym kept) (t, none, more)
turn_of u v a b c (Some line) t more same kept none some = given_line ⊥ u v a b c line t same (λ never. absurd never) some

-- ---- where a line stands

-- some bytes are the rest of any buffer
some_rest : (buf : LineBufState) → IsRest buf (replicate buf.dropped 0 ++ held buf)
some_rest buf = record {
  gone = replicate buf.dropped 0;
  glued = refl;
  size = length-replicate buf.dropped 0;
  in_line = All-replicate (λ b. b ≢ 10) buf.dropped 0 (λ e. absurd (omega (arith, e)));
}

answer_placed : (ended : Type 0) (buf : LineBufState) (bytes : List ℕ) (line : Line) → Answers ended buf bytes (Ok line) → IsPlaced buf line
answer_placed ended buf bytes (Text from to) (line, first, in_line, fits, ordered, within, same) = (ordered, within)
answer_placed ended buf bytes Cut a = tt
answer_placed ended buf bytes End a = tt

pub placed_of : (u v : Option (List ℕ)) (a b : LineBufState) (result : Result Line FlowErr) → IsNextLine u v a b result → IfOk result (IsPlaced b)
placed_of u v a b (Ok line) n = answer_placed (HasEnded v b) b _ line (n.answers _ (some_rest a))
placed_of u v a b (Err e) n = tt
