-- What is due behind a part's first line are the lines of a lawful tree, and no others.
use Rattle.std.proofs.Common.{◌≡◌, ℕ, zero, suc, ◌+◌, ◌≤◌, List, [], ◌∷◌, ◌++◌, length, refl, sym, ◌∙◌, ap, subst, zero-add, arith}
use Rattle.std.proofs.lemmas.List.{append_assoc, length-append}
use Rattle.certify_clauses.specs.declared.literal.Literal.{Literal}
use Rattle.certify_clauses.specs.Paths.{positive, negative}
use Rattle.certify_clauses.specs.Problem.{Problem}
use Rattle.certify_clauses.specs.Trees.{Tree, split, clause, theory, IsLawful, IsLawfulSplit}
use Rattle.certify_recheck.specs.Due.{Due, part, tree, IsNext, left_of, AreDue, lines_of}
use Rattle.certify_recheck.specs.Laws.{IsLawfulPart, OneAnswer, PartsAreLawfulTrees}
use Rattle.certify_recheck.specs.declared.line.Line.{Line}
use Rattle.certify_recheck.specs.declared.line.Line.TheVariants.{Heading, Duty, Split, Clause, Theory, End, Other}

-- lines with no bad one among them
pub one_answer : OneAnswer
one_answer [] ls m n are bad = bad
one_answer (d ∷ ds) [] m n are bad = are
one_answer (d ∷ ds) (l ∷ ls) zero n are bad = are
one_answer (d ∷ ds) (l ∷ ls) (suc m) zero are bad = bad are.0
one_answer (d ∷ ds) (l ∷ ls) (suc m) (suc n) are bad = one_answer (left_of d l ++ ds) ls m n are.1 bad.1

-- the lines of a lawful tree and then what was due behind it
pub record IsGrown (c : Problem) (path : List Literal) (ds : List Due) (ls : List Line) (n : ℕ) : Type 0 where
  pub grown : Tree
  pub lawful : IsLawful c path grown
  pub rest : List Line
  pub lines_are : ls ≡ lines_of grown ++ rest
  pub more : ℕ
  pub count : n ≡ length (lines_of grown) + more
  pub behind : AreDue ds rest more

module _ (c : Problem) where
  abbrev Grows : ℕ → Type 0
  Grows k = (n : ℕ) → n ≤ k → (path : List Literal) (ds : List Due) (ls : List Line) → AreDue (tree c path ∷ ds) ls n → IsGrown c path ds ls n

  -- behind a split, where trees grow in as many lines
  grow_split : (k : ℕ) → Grows k → (n : ℕ) → n ≤ k → (path : List Literal) (ds : List Due) (v : ℕ) (ls : List Line) → IsLawfulSplit c path v
      → AreDue (tree c (path ++ positive v ∷ []) ∷ tree c (path ++ negative v ∷ []) ∷ ds) ls n → IsGrown c path ds (Split v ∷ ls) (suc n)
  grow_split k grows n few path ds v ls next are =
      let yes = grows n few (path ++ positive v ∷ []) (tree c (path ++ negative v ∷ []) ∷ ds) ls are in
      let e : n ≡ length (lines_of yes.grown) + yes.more = yes.count in
      let no = grows yes.more (omega arith) (path ++ negative v ∷ []) ds yes.rest yes.behind in
      let f : yes.more ≡ length (lines_of no.grown) + no.more = no.count in
      record {
        grown = split v yes.grown no.grown;
        lawful = (next, yes.lawful, no.lawful);
        rest = no.rest;
        lines_are =
            ap (λ xs. Split v ∷ xs)
            (yes.lines_are ∙ ap (λ xs. lines_of yes.grown ++ xs) no.lines_are ∙ sym (append_assoc (lines_of yes.grown) (lines_of no.grown) no.rest));
        more = no.more;
        count = omega (arith, length-append (lines_of yes.grown) (lines_of no.grown));
        behind = no.behind;
      }

  -- a tree that was due has grown, for so many lines at most
  grow : (k : ℕ) → Grows k
  grow k n few path ds [] are = absurd are
  grow k zero few path ds (l ∷ ls) are = absurd are
  grow zero (suc n) few path ds (l ∷ ls) are = absurd (omega arith)
  grow (suc k) (suc n) few path ds (Heading ∷ ls) are = absurd are.0
  grow (suc k) (suc n) few path ds (Duty d ∷ ls) are = absurd are.0
  grow (suc k) (suc n) few path ds (Split v ∷ ls) are = grow_split k (grow k) n (omega arith) path ds v ls are.0 are.1
  grow (suc k) (suc n) few path ds (Clause i ∷ ls) are = record {
    grown = clause i;
    lawful = are.0;
    rest = ls;
    lines_are = refl;
    more = n;
    count = omega arith;
    behind = are.1;
  }
  grow (suc k) (suc n) few path ds (Theory ∷ ls) are = record {
    grown = theory;
    lawful = are.0;
    rest = ls;
    lines_are = refl;
    more = n;
    count = omega arith;
    behind = are.1;
  }
  grow (suc k) (suc n) few path ds (End ∷ ls) are = absurd are.0
  grow (suc k) (suc n) few path ds (Other ∷ ls) are = absurd are.0

  -- the next line and those that are due behind it
  one_more : (d : Due) (l : Line) (ds : List Due) (ls : List Line) (m n : ℕ) → IsNext d l → AreDue (left_of d l ++ ds) ls (m + n) → AreDue (d ∷ ds) (l ∷ ls) (suc m + n)
  one_more d l ds ls m n next are =
      let e : suc (m + n) ≡ suc m + n = omega arith in
      let all : AreDue (d ∷ ds) (l ∷ ls) (suc (m + n)) = (next, are) in
      subst (λ k. AreDue (d ∷ ds) (l ∷ ls) k) e all

  -- the lines of a lawful tree are due
  due_lines : (t : Tree) (path : List Literal) (ds : List Due) (rest : List Line) (n : ℕ) → IsLawful c path t → AreDue ds rest n → AreDue (tree c path ∷ ds) (lines_of t ++ rest) (length (lines_of t) + n)
  due_lines (split v t u) path ds rest n lawful are =
      let no = due_lines u (path ++ negative v ∷ []) ds rest n lawful.2 are in
      let yes = due_lines t (path ++ positive v ∷ []) (tree c (path ++ negative v ∷ []) ∷ ds) (lines_of u ++ rest) (length (lines_of u) + n) lawful.1 no in
      let lines = append_assoc (lines_of t) (lines_of u) rest in
      let count : length (lines_of t) + (length (lines_of u) + n) ≡ length (lines_of t ++ lines_of u) + n = omega (arith, length-append (lines_of t) (lines_of u)) in
      let both = tree c (path ++ positive v ∷ []) ∷ tree c (path ++ negative v ∷ []) ∷ ds in
      let behind = subst (λ m. AreDue both ((lines_of t ++ lines_of u) ++ rest) m) count (subst (λ ls. AreDue both ls (length (lines_of t) + (length (lines_of u) + n))) (sym lines) yes) in
      one_more (tree c path) (Split v) ds ((lines_of t ++ lines_of u) ++ rest) (length (lines_of t ++ lines_of u)) n lawful.0 behind
  due_lines (clause i) path ds rest n lawful are = one_more (tree c path) (Clause i) ds rest 0 n lawful (subst (λ m. AreDue ds rest m) (sym (zero-add n)) are)
  due_lines theory path ds rest n lawful are = one_more (tree c path) Theory ds rest 0 n lawful (subst (λ m. AreDue ds rest m) (sym (zero-add n)) are)

-- nothing more is due where nothing is
none_due : (ls : List Line) (n : ℕ) → AreDue [] ls n → n ≡ 0
none_due ls zero are = refl
none_due ls (suc n) are = absurd are

part_from_due : (c : Problem) (duty : ℕ) (ls : List Line) (n : ℕ) → AreDue (part c duty ∷ []) ls n → IsLawfulPart c duty ls n
part_from_due c duty [] n are = absurd are
part_from_due c duty (l ∷ ls) zero are = absurd are
part_from_due c duty (Heading ∷ ls) (suc n) are = absurd are.0
part_from_due c duty (Duty d ∷ ls) (suc n) are =
    let g = grow c n n (omega arith) [] [] ls are.1 in
    let last = none_due g.rest g.more g.behind in
    record {
      tree = g.grown;
      lawful = g.lawful;
      rest = g.rest;
      lines_are = ap (λ e. Duty e ∷ ls) are.0 ∙ ap (λ xs. Duty duty ∷ xs) g.lines_are;
      count = omega (arith, g.count, last);
    }
part_from_due c duty (Split v ∷ ls) (suc n) are = absurd are.0
part_from_due c duty (Clause i ∷ ls) (suc n) are = absurd are.0
part_from_due c duty (Theory ∷ ls) (suc n) are = absurd are.0
part_from_due c duty (End ∷ ls) (suc n) are = absurd are.0
part_from_due c duty (Other ∷ ls) (suc n) are = absurd are.0

due_from_part : (c : Problem) (duty : ℕ) (ls : List Line) (n : ℕ) → IsLawfulPart c duty ls n → AreDue (part c duty ∷ []) ls n
due_from_part c duty ls n h =
    let behind = due_lines c h.tree [] [] h.rest 0 h.lawful tt in
    let all : AreDue (part c duty ∷ []) (Duty duty ∷ (lines_of h.tree ++ h.rest)) (suc (length (lines_of h.tree) + 0)) = (refl, behind) in
    let count : suc (length (lines_of h.tree) + 0) ≡ n = omega (arith, h.count) in
    subst (λ m. AreDue (part c duty ∷ []) ls m) count (subst (λ xs. AreDue (part c duty ∷ []) xs (suc (length (lines_of h.tree) + 0))) (sym h.lines_are) all)

pub parts : PartsAreLawfulTrees
parts c duty ls n = (part_from_due c duty ls n, due_from_part c duty ls n)
