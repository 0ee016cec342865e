-- A part, one level down.
use Rattle.std.proofs.Common.{◌≡◌, ℕ, suc, ◌-◌, ◌<◌, List, ap, arith, Bool, true, false, Err, Some}
use Rattle.std.specs.Prelude.{if◌then◌else◌}
use Rattle.text_ast.specs.Pieces.{Piece}
use Rattle.text_tree.specs.Forms.{Cause, NotGrammar, TooDeep}
use Rattle.text_tree.specs.ExprGrammar.{Part, rule, tree_of}
use Rattle.text_tree.specs.Texts.{first_of}
use Rattle.text_grammar.specs.Reading.{Answer, Stuck, read_part, starts}
use Rattle.text_syntax.specs.declared.stop.Stop.{Stop}
use Rattle.text_syntax.specs.Reads.{Reads, cause_of, reading}

pub part_deeper : (n : ℕ) (p : Part) (ls : List Piece) → 0 < n → read_part rule first_of n p ls ≡ reading (n - 1) (rule p) ls
unfolding read_part
part_deeper n p ls some = let e : n ≡ suc (n - 1) = omega arith in ap (λ m. read_part rule first_of m p ls) e

abbrev stuck : (A : Type 0) → Cause → List Piece → Answer A
stuck A c rest = Stuck c rest

stopped : (A : Type 0) (b : Bool) (stop : Stop) (ls : List Piece) → cause_of stop ≡ Some (if b then TooDeep else NotGrammar)
    → (c : Cause) → cause_of stop ≡ Some c → (if b then stuck A TooDeep ls else stuck A NotGrammar ls) ≡ stuck A c ls
stopped A true stop ls is c h = let same : TooDeep ≡ c = cc in ap (λ (z : Cause). stuck A z ls) same
stopped A false stop ls is c h = let same : NotGrammar ≡ c = cc in ap (λ (z : Cause). stuck A z ls) same

pub part_none : (n : ℕ) (p : Part) (ls : List Piece) (stop : Stop) → n ≡ 0 → cause_of stop ≡ Some (if starts (first_of p) ls then TooDeep else NotGrammar)
    → Reads (read_part rule first_of n p ls) (Err stop) ls
unfolding read_part
part_none n p ls stop none is = rw none (stopped (tree_of p) (starts (first_of p) ls) stop ls is)
