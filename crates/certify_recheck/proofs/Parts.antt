-- What a pass over a part shows.
use Rattle.std.proofs.Common.{ℕ, ◌+◌, Bool, List, [], ◌∷◌, ◌++◌, length, Result, Ok, Err, IfOk, IfErr, refl, subst}
use Rattle.certify_clauses.specs.Problem.{IsLawfulAssignment, Problem}
use Rattle.certify_clauses.proofs.Refuting.{trees_refute}
use Rattle.certify_recheck.specs.Due.{Due, IsNext, left_of, lines_of, part}
use Rattle.certify_recheck.specs.Laws.{IsLawfulPart}
use Rattle.certify_recheck.specs.Lines.{lines_at}
use Rattle.certify_recheck.specs.Spots.{IsBadLine, IsFault, IsPart, IsRead, IsRefusal, Passes, Spans}
use Rattle.certify_recheck.specs.declared.fault.RecheckErr.{RecheckErr}
use Rattle.certify_recheck.specs.declared.fault.RecheckErr.TheVariants.{BadLine, OutOfMemory}
use Rattle.certify_recheck.specs.declared.line.Line.{Line}
use Rattle.certify_recheck.specs.declared.spot.Spot.{Spot}
use Rattle.certify_recheck.proofs.Growing.{one_answer, parts}
use Rattle.certify_recheck.proofs.Passing.{bad_more, spot}

-- what is said of a value, or of an error, says something else of it
pub ok_then : {X E : Type 0} (r : Result X E) (P Q : X → Type 0) → IfOk r P → ((x : X) → P x → Q x) → IfOk r Q
ok_then (Ok x) P Q h f = f x h
ok_then (Err e) P Q h f = tt

pub err_then : {X E : Type 0} (r : Result X E) (P Q : E → Type 0) → IfErr r P → ((e : E) → P e → Q e) → IfErr r Q
err_then (Ok x) P Q h f = tt
err_then (Err e) P Q h f = f e h

-- a refusal behind the next line
pub refusal_more : (text : List ℕ) (at line : ℕ) (l : Line) (next : ℕ) → IsRead text at l next → (d : Due) (ds : List Due) → IsNext d l → (e : RecheckErr) → IsRefusal text (spot next (line + 1)) (left_of d l ++ ds) e → IsRefusal text (spot at line) (d ∷ ds) e
refusal_more text at line l next read d ds is_next (BadLine n) h = bad_more text at line l next read d ds n is_next h
refusal_more text at line l next read d ds is_next OutOfMemory h = tt

module _ (text : List ℕ) (from : Spot) (c : Problem) (duty : ℕ) where
  pub part_passed : (to : Spot) → Passes text from (part c duty ∷ []) to → IsPart text from c duty to
  part_passed to h =
      let p = (parts c duty (lines_at text from.at) h.count).0 h.met in
      record {
        tree = p.tree;
        lawful = p.lawful;
        rest = p.rest;
        lines_are = p.lines_are;
        spans = subst (λ n. Spans text from n to) p.count h.spans;
      }

  pub part_refutes : (to : Spot) → IsPart text from c duty to → (a : ℕ → Bool) → IsLawfulAssignment c a → ⊥
  part_refutes to h = trees_refute c h.tree h.lawful

  -- no part stands where a line is bad
  no_part : (line : ℕ) → IsBadLine text from (part c duty ∷ []) line → (to : Spot) → IsPart text from c duty to → ⊥
  no_part line h to p =
      let n = length (lines_of p.tree) + 1 in
      let whole : IsLawfulPart c duty (lines_at text from.at) n = record {
        tree = p.tree;
        lawful = p.lawful;
        rest = p.rest;
        lines_are = p.lines_are;
        count = refl;
      } in
      one_answer (part c duty ∷ []) (lines_at text from.at) n h.count ((parts c duty (lines_at text from.at) n).1 whole) h.bad

  pub refusal_fault : (e : RecheckErr) → IsRefusal text from (part c duty ∷ []) e → IsFault text from c duty e
  refusal_fault (BadLine line) h = (h, no_part line h)
  refusal_fault OutOfMemory h = tt
