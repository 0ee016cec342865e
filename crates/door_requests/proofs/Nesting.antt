-- A value, one level down.
use Rattle.std.proofs.Common.{◌≡◌, ℕ, suc, ◌-◌, ◌<◌, List, ap, arith, Bool, true, false, Err, Some}
use Rattle.std.specs.Prelude.{if◌then◌else◌}
use Rattle.text_ast.specs.Pieces.{Piece}
use Rattle.text_tree.specs.Forms.{Cause, NotGrammar, TooDeep}
use Rattle.data_tree.specs.declared.literals.Lit.{Lit}
use Rattle.door_requests.specs.declared.place.Place.{Place}
use Rattle.door_requests.specs.Grammar.{rule}
use Rattle.door_requests.specs.Texts.{first_of}
use Rattle.text_grammar.specs.Reading.{Answer, Stuck, read_part, starts}
use Rattle.text_syntax.specs.declared.stop.Stop.{Stop}
use Rattle.text_syntax.specs.Reads.{Reads, cause_of}
use Rattle.door_requests.specs.Reads.{reading}

pub value_deeper : (p : Place) (n : ℕ) (ls : List Piece) → 0 < n → read_part rule first_of n p ls ≡ reading (n - 1) (rule p) ls
unfolding read_part
value_deeper p n ls some = let e : n ≡ suc (n - 1) = omega arith in ap (λ m. read_part rule first_of m p ls) e

abbrev stuck : Cause → List Piece → Answer Lit
stuck c rest = Stuck c rest

stopped : (b : Bool) (stop : Stop) (ls : List Piece) → cause_of stop ≡ Some (if b then TooDeep else NotGrammar)
    → (c : Cause) → cause_of stop ≡ Some c → (if b then stuck TooDeep ls else stuck NotGrammar ls) ≡ stuck c ls
stopped true stop ls is c h = let same : TooDeep ≡ c = cc in ap (λ (z : Cause). stuck z ls) same
stopped false stop ls is c h = let same : NotGrammar ≡ c = cc in ap (λ (z : Cause). stuck z ls) same

pub value_none : (p : Place) (n : ℕ) (ls : List Piece) (stop : Stop) → n ≡ 0 → cause_of stop ≡ Some (if starts (first_of p) ls then TooDeep else NotGrammar)
    → Reads (read_part rule first_of n p ls) (Err stop) ls
unfolding read_part
value_none p n ls stop none is = rw none (stopped (starts (first_of p) ls) stop ls is)
