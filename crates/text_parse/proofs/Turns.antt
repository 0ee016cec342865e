-- Loops that read items: each turn, and what is read so far.
use Rattle.std.proofs.Common.{◌≡◌, ◌≢◌, ℕ, zero, suc, ◌+◌, ◌-◌, arith, List, [], ◌∷◌, ◌++◌, Bool, true, false, ◌||◌, refl, ap, sym, ◌∙◌, append_assoc, append-nil, Some, None, Ok, Err}
use Rattle.std.specs.Prelude.{if◌then◌else◌}
use Rattle.text_ast.specs.Pieces.{Piece}
use Rattle.text_tree.specs.Forms.{Want, Cause, NotGrammar, admits, may}
use Rattle.text_grammar.specs.Reading.{starts, one, Answer, Got, Stuck, Reader, after, made, read_each, read_end}
use Rattle.text_grammar.proofs.Lists.{may_left, may_right}
use Rattle.text_grammar.proofs.EachCaught.{step_on, step_over, step_off}
use Rattle.text_grammar.proofs.EndedCaught.{onward, end_step, end_over, end_last, end_other}
use Rattle.text_syntax.specs.declared.stop.Stop.{Stop}
use Rattle.text_syntax.specs.Reads.{cause_of}
use Rattle.text_parse.specs.Turns.{Turns, passed}

-- ---- what is read so far

-- What is read so far stands before what is read from here.
abbrev pub Joined : {A : Type 0} → Answer (List A) → List A → Answer (List A) → Type 0
Joined all items rest = all ≡ made (λ xs. items ++ xs) rest

pub joined_start : {A : Type 0} (ans : Answer (List A)) → Joined ans [] ans
joined_start (Got xs rest) = refl
joined_start (Stuck c rest) = refl

joined_made : {A : Type 0} (items : List A) (x : A) (ans : Answer (List A)) → made (λ xs. items ++ xs) (made (λ xs. x ∷ xs) ans) ≡ made (λ xs. (items ++ x ∷ []) ++ xs) ans
joined_made items x (Got xs rest) = ap (λ z. Got z rest) (sym (append_assoc items (x ∷ []) xs))
joined_made items x (Stuck c rest) = refl

pub joined_next : {A : Type 0} (all : Answer (List A)) (items : List A) (from : ℕ → Reader (List A)) (left : ℕ) (old new : List Piece) (x : A)
    → Joined all items (from left old) → Turns from left old (Ok (Some x)) new → Joined all (items ++ x ∷ []) (from (left - 1) new)
joined_next all items from left old new x e (fewer, size, t) =
    let same : left - 1 ≡ fewer = omega (arith, size) in
    e ∙ ap (made (λ xs. items ++ xs)) t ∙ joined_made items x (from fewer new) ∙ ap (λ z. made (λ xs. (items ++ x ∷ []) ++ xs) (from z new)) (sym same)

pub joined_end : {A : Type 0} (all : Answer (List A)) (items : List A) (from : ℕ → Reader (List A)) (left : ℕ) (old new : List Piece)
    → Joined all items (from left old) → Turns from left old (Ok None) new → all ≡ Got items new
joined_end all items from left old new e t = e ∙ ap (made (λ xs. items ++ xs)) t ∙ ap (λ z. Got z new) (append-nil items)

pub joined_stuck : {A : Type 0} (all : Answer (List A)) (items : List A) (from : ℕ → Reader (List A)) (left : ℕ) (old new : List Piece) (stop : Stop)
    → Joined all items (from left old) → Turns from left old (Err stop) new → (c : Cause) → cause_of stop ≡ Some c → all ≡ Stuck c new
joined_stuck all items from left old new stop e t c is = e ∙ ap (made (λ xs. items ++ xs)) (t c is)

pub turn_fewer : {A : Type 0} (from : ℕ → Reader (List A)) (left : ℕ) (old new : List Piece) (x : A) → Turns from left old (Ok (Some x)) new → (fewer : ℕ) × (left ≡ fewer + 1)
turn_fewer from left old new x (fewer, size, t) = (fewer, size)

-- ---- one turn

pub some_left : (left : ℕ) → left ≢ 0 → (fewer : ℕ) × (left ≡ fewer + 1)
some_left zero h = absurd (h refl)
some_left (suc n) h = (n, omega arith)

abbrev Each : {A : Type 0} → Cause → List Want → Reader A → ℕ → Reader (List A)
Each c wants r left ls = read_each c left wants r ls

pub each_none : {A : Type 0} (c : Cause) (wants : List Want) (r : Reader A) (left : ℕ) (ls : List Piece) → starts wants ls ≡ false → Each c wants r left ls ≡ Got [] ls
each_none c wants r left ls e = step_off c left wants r ls e

pub each_over : {A : Type 0} (c : Cause) (wants : List Want) (r : Reader A) (left : ℕ) (ls : List Piece) → starts wants ls ≡ true → left ≡ 0 → Each c wants r left ls ≡ Stuck c ls
each_over c wants r left ls e none = ap (λ z. read_each c z wants r ls) none ∙ step_over c wants r ls e

pub each_some : {A : Type 0} (c : Cause) (wants : List Want) (r : Reader A) (left : ℕ) (ls new : List Piece) (x : A) → starts wants ls ≡ true → left ≢ 0 → r ls ≡ Got x new
    → Turns (Each c wants r) left ls (Ok (Some x)) new
each_some c wants r left ls new x e some is =
    let (fewer, size) = some_left left some in (
      fewer,
      size,
      ap (λ z. read_each c z wants r ls) (let up : left ≡ suc fewer = omega (arith, size) in up) ∙ step_on c fewer wants r ls e
          ∙ ap (after (λ x rest. made (λ xs. x ∷ xs) (read_each c fewer wants r rest))) is,
    )

pub each_stuck : {A : Type 0} (c : Cause) (wants : List Want) (r : Reader A) (left : ℕ) (ls new : List Piece) (d : Cause) → starts wants ls ≡ true → left ≢ 0 → r ls ≡ Stuck d new
    → Each c wants r left ls ≡ Stuck d new
each_stuck c wants r left ls new d e some is =
    let (fewer, size) = some_left left some in
    ap (λ z. read_each c z wants r ls) (let up : left ≡ suc fewer = omega (arith, size) in up) ∙ step_on c fewer wants r ls e
    ∙ ap (after (λ x rest. made (λ xs. x ∷ xs) (read_each c fewer wants r rest))) is

-- ---- one turn behind a token, with an end

abbrev Ended : {A B : Type 0} → Cause → Want → List Want → Reader A → Reader B → ℕ → Reader (List A)
Ended c w wants rf rg left ls = made (λ v. v.0) (read_end c left w wants rf rg rg ls)

abbrev closed : {A B : Type 0} → Answer B → Answer (List A × B)
closed ans = made (λ y. ([], y)) ans

-- the token that was read
pub one_got : (w : Want) (ls rest : List Piece) (l : Piece) → one w ls ≡ Got l rest → (ls ≡ l ∷ rest) × (admits w l ≡ true)
one_got w [] rest l e = absurd (let no : ⊥ = cc in no)
one_got w (m ∷ ls) rest l e =
    elim (admits w m) as (λ (b : Bool). admits w m ≡ b → (if b then Got m ls else Stuck NotGrammar (m ∷ ls)) ≡ Got l rest → (m ∷ ls ≡ l ∷ rest) × (admits w l ≡ true)) [
      | true ↦ λ was is. (let one : m ≡ l = cc in let two : ls ≡ rest = cc in ap (λ z. z ∷ ls) one ∙ ap (λ z. l ∷ z) two, (let one : m ≡ l = cc in sym (ap (admits w) one) ∙ was))
      | false ↦ λ was is. absurd (let no : ⊥ = cc in no)
    ] refl e

-- a token that stands first is read
pub one_sees : (w : Want) (ls rest : List Piece) (c : Cause) → starts (w ∷ []) ls ≡ true → one w ls ≡ Stuck c rest → ⊥
one_sees w [] rest c first e = let no : false ≡ true = first in cc
one_sees w (m ∷ ls) rest c first e =
    elim (admits w m) as (λ (b : Bool). (b || false) ≡ true → (if b then Got m ls else Stuck NotGrammar (m ∷ ls)) ≡ Stuck c rest → ⊥) [ true ↦ λ f is. cc | false ↦ λ f is. cc ] first e

closed_passed : {A B : Type 0} (ans : Answer B) → made (λ (v : List A × B). v.0) (closed ans) ≡ made (λ x. []) (passed ans)
closed_passed (Got y rest) = refl
closed_passed (Stuck c rest) = refl

-- what was passed over
pub passed_got : {A : Type 0} (ans : Answer A) (rest : List Piece) → passed ans ≡ Got tt rest → (x : A) × (ans ≡ Got x rest)
passed_got (Got x other) rest e = (x, (let same : other ≡ rest = cc in ap (Got x) same))
passed_got (Stuck c other) rest e = absurd (let no : ⊥ = cc in no)

pub passed_stuck : {A : Type 0} (ans : Answer A) (c : Cause) (rest : List Piece) → passed ans ≡ Stuck c rest → ans ≡ Stuck c rest
passed_stuck (Got x other) c rest e = absurd (let no : ⊥ = cc in no)
passed_stuck (Stuck d other) c rest e = let one : d ≡ c = cc in let two : other ≡ rest = cc in ap (λ z. Stuck z other) one ∙ ap (Stuck c) two

pub ended_other : {A B : Type 0} (c : Cause) (w : Want) (wants : List Want) (rf : Reader A) (rg : Reader B) (left : ℕ) (ls : List Piece) (ans : Answer (Unit {0})) → starts (w ∷ []) ls ≡ false
    → passed (rg ls) ≡ ans → Ended c w wants rf rg left ls ≡ made (λ x. []) ans
ended_other {A} {B} c w wants rf rg left ls ans e is =
    ap (made (λ (v : List A × B). v.0)) (end_other c left w wants rf rg rg ls e) ∙ closed_passed (rg ls) ∙ ap (made (λ x. [])) is

pub ended_last : {A B : Type 0} (c : Cause) (w : Want) (wants : List Want) (rf : Reader A) (rg : Reader B) (left : ℕ) (ls rest : List Piece) (ans : Answer (Unit {0})) → passed (one w ls) ≡ Got tt rest
    → starts wants rest ≡ false → passed (rg rest) ≡ ans → Ended c w wants rf rg left ls ≡ made (λ x. []) ans
ended_last {A} {B} c w wants rf rg left ls rest ans token e is =
    let (l, read) = passed_got (one w ls) rest token in
    let t = one_got w ls rest l read in
    ap (λ z. Ended c w wants rf rg left z) t.0 ∙ ap (made (λ (v : List A × B). v.0)) (end_last c left w wants rf rg rg l rest t.1 e) ∙ closed_passed (rg rest) ∙ ap (made (λ x. [])) is

pub ended_over : {A B : Type 0} (c : Cause) (w : Want) (wants : List Want) (rf : Reader A) (rg : Reader B) (left : ℕ) (ls rest : List Piece) → passed (one w ls) ≡ Got tt rest
    → starts wants rest ≡ true → left ≡ 0 → Ended c w wants rf rg left ls ≡ Stuck c rest
ended_over {A} {B} c w wants rf rg left ls rest token e none =
    let (l, read) = passed_got (one w ls) rest token in
    let t = one_got w ls rest l read in
    ap (λ z. Ended c w wants rf rg z ls) none ∙ ap (λ z. Ended c w wants rf rg 0 z) t.0 ∙ ap (made (λ (v : List A × B). v.0)) (end_over c w wants rf rg rg l rest t.1 e)

made_first : {A B : Type 0} (x : A) (ans : Answer (List A × B)) → made (λ (v : List A × B). v.0) (made (λ (v : List A × B). (x ∷ v.0, v.1)) ans) ≡ made (λ xs. x ∷ xs) (made (λ (v : List A × B). v.0) ans)
made_first x (Got v rest) = refl
made_first x (Stuck c rest) = refl

ended_step : {A B : Type 0} (c : Cause) (w : Want) (wants : List Want) (rf : Reader A) (rg : Reader B) (fewer : ℕ) (ls rest : List Piece) → passed (one w ls) ≡ Got tt rest
    → starts wants rest ≡ true → Ended c w wants rf rg (suc fewer) ls ≡ made (λ (v : List A × B). v.0) (after (onward c fewer w wants rf rg rg) (rf rest))
ended_step {A} {B} c w wants rf rg fewer ls rest token e =
    let (l, read) = passed_got (one w ls) rest token in
    let t = one_got w ls rest l read in
    ap (λ z. Ended c w wants rf rg (suc fewer) z) t.0 ∙ ap (made (λ (v : List A × B). v.0)) (end_step c fewer w wants rf rg rg l rest t.1 e)

pub ended_some : {A B : Type 0} (c : Cause) (w : Want) (wants : List Want) (rf : Reader A) (rg : Reader B) (left : ℕ) (ls rest new : List Piece) (x : A) → passed (one w ls) ≡ Got tt rest
    → starts wants rest ≡ true → left ≢ 0 → rf rest ≡ Got x new → Turns (Ended c w wants rf rg) left ls (Ok (Some x)) new
ended_some {A} {B} c w wants rf rg left ls rest new x token e some is =
    let (fewer, size) = some_left left some in (
      fewer,
      size,
      ap (λ z. Ended c w wants rf rg z ls) (let up : left ≡ suc fewer = omega (arith, size) in up) ∙ ended_step c w wants rf rg fewer ls rest token e
          ∙ ap (λ z. made (λ (v : List A × B). v.0) (after (onward c fewer w wants rf rg rg) z)) is ∙ made_first x (read_end c fewer w wants rf rg rg new),
    )

pub ended_stuck : {A B : Type 0} (c : Cause) (w : Want) (wants : List Want) (rf : Reader A) (rg : Reader B) (left : ℕ) (ls rest new : List Piece) (d : Cause) → passed (one w ls) ≡ Got tt rest
    → starts wants rest ≡ true → left ≢ 0 → rf rest ≡ Stuck d new → Ended c w wants rf rg left ls ≡ Stuck d new
ended_stuck {A} {B} c w wants rf rg left ls rest new d token e some is =
    let (fewer, size) = some_left left some in
    ap (λ z. Ended c w wants rf rg z ls) (let up : left ≡ suc fewer = omega (arith, size) in up) ∙ ended_step c w wants rf rg fewer ls rest token e
    ∙ ap (λ z. made (λ (v : List A × B). v.0) (after (onward c fewer w wants rf rg rg) z)) is

-- ---- which token comes next

may_at : (us : List Want) (w : Want) (vs : List Want) (l : Piece) → may (w ∷ []) l ≡ true → may (us ++ w ∷ vs) l ≡ true
may_at us w vs l e = may_right us (w ∷ vs) l (may_left (w ∷ []) vs l e)

pub starts_at : (us : List Want) (w : Want) (vs : List Want) (ls : List Piece) → starts (w ∷ []) ls ≡ true → starts (us ++ w ∷ vs) ls ≡ true
starts_at us w vs [] e = let no : false ≡ true = e in cc
starts_at us w vs (l ∷ ls) e = may_at us w vs l e

pub starts_past : (w : Want) (ws : List Want) (ls : List Piece) (b : Bool) → starts (w ∷ []) ls ≡ false → b ≡ starts ws ls → b ≡ starts (w ∷ ws) ls
starts_past w ws [] b e f = f
starts_past w ws (l ∷ ls) b e f =
    f ∙ elim (admits w l) as (λ (z : Bool). (z || false) ≡ false → may ws l ≡ (z || may ws l)) [ true ↦ λ h. let no : true ≡ false = h in cc | false ↦ λ h. refl ] e
