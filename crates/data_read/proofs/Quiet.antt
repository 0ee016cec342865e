-- Lexemes of printed databases do not run together.
use Rattle.std.proofs.Common.{◌≡◌, ℕ, ℤ, pos, negsuc, true, false, lit<, List, [], ◌∷◌, ◌++◌, map, refl, sym, subst, append_assoc, append-nil, Some, None}
use Rattle.std.specs.Prelude.{Option}
use Rattle.std.specs.List.{flat_map}
use Rattle.text_lexer.specs.declared.token.TokenKind.{TokenKind}
use Rattle.text_lexer.specs.declared.token.TokenKind.TheVariants as k
use Rattle.text_print.specs.Exprs.{commas, joined}
use Rattle.text_print.specs.Marks.{Mark, newline, number, sign, sp}
use Rattle.type_schema.specs.Schema.{FieldInfo, ModelInfo, Schema}
use Rattle.data_meaning.specs.Values.{Value, Flag, Num, Str, Id, Ids, Nothing, Just}
use Rattle.data_meaning.specs.Database.{Slot, Record, Database, records_of}
use Rattle.text_print.proofs.Neat.{Closed, Neat, ends_fit, fit}
use Rattle.data_read.specs.Spelled.{held}
use Rattle.data_read.proofs.Marked.{data_marks, id_marks, record_marks, slot_marks, table_marks, value_marks}

-- anything may stand directly behind it
abbrev Free : Option TokenKind → Type 0
Free before = (n : TokenKind) → fit before n ≡ true

free-none : Free None
free-none n = refl

-- marks that may stand behind what is free and before what is closed
abbrev Quiet : List Mark → Type 0
Quiet ms = (before : Option TokenKind) (rest : List Mark) → Free before → Closed rest → Neat before (ms ++ rest)

then : (a rest more : List Mark) → Quiet a → (before : Option TokenKind) → Free before → Closed (rest ++ more) → Neat before ((a ++ rest) ++ more)
then a rest more h before free closed = subst (Neat before) (sym (append_assoc a rest more)) (h before (rest ++ more) free closed)

joined-closed : {A : Type 0} (m : A → List Mark) → ((x : A) → Quiet (m x)) → (xs : List A) (rest : List Mark) → Closed rest
    → Closed (joined (sign k.Comma ∷ sp ∷ []) (map m xs) ++ rest)
joined-closed m quiet [] rest closed n e = closed n e
joined-closed m quiet (x ∷ xs) rest closed n e =
    (ends_fit n k.Comma e refl, (refl, lit< tt, then (m x) (joined (sign k.Comma ∷ sp ∷ []) (map m xs)) rest (quiet x) None free-none (joined-closed m quiet xs rest closed)))

-- before something that may stand there without them
commas-neat : {A : Type 0} (m : A → List Mark) → ((x : A) → Quiet (m x)) → (xs : List A) (before : Option TokenKind) (rest : List Mark) → Free before → Closed rest
    → Neat before rest → Neat before (commas (map m xs) ++ rest)
commas-neat m quiet [] before rest free closed now = now
commas-neat m quiet (x ∷ xs) before rest free closed now =
    then (m x) (joined (sign k.Comma ∷ sp ∷ []) (map m xs)) rest (quiet x) before free (joined-closed m quiet xs rest closed)

-- ---- values

quiet-id : (id : ℕ) → Quiet (id_marks id)
quiet-id id before rest free closed = (free k.At, (refl, closed k.Number refl))

quiet-number : (n : ℤ) → Quiet (number n)
quiet-number (pos n) before rest free closed = (free k.Number, closed k.Number refl)
quiet-number (negsuc n) before rest free closed = (free k.Minus, (refl, closed k.Number refl))

quiet-value : (v : Value) → Quiet (value_marks v)
quiet-value (Flag true) before rest free closed = (free k.Lower, closed k.Lower refl)
quiet-value (Flag false) before rest free closed = (free k.Lower, closed k.Lower refl)
quiet-value (Num n) before rest free closed = quiet-number n before rest free closed
quiet-value (Str bytes) before rest free closed = (free k.Text, closed k.Text refl)
quiet-value (Id id) before rest free closed = quiet-id id before rest free closed
quiet-value (Ids ids) before rest free closed =
    let end = sign k.BracketClose ∷ [] in (
      free k.BracketOpen,
      subst (Neat (Some k.BracketOpen)) (sym (append_assoc (commas (map id_marks ids)) end rest))
          (commas-neat id_marks quiet-id ids (Some k.BracketOpen) (end ++ rest) (λ n. refl) (λ n e. (ends_fit n k.BracketClose e refl, closed k.BracketClose refl))
          (refl, closed k.BracketClose refl)),
    )
quiet-value Nothing before rest free closed = (free k.Lower, closed k.Lower refl)
quiet-value (Just v) before rest free closed = (
  free k.Lower,
  (
    refl,
    then (value_marks v) (sign k.ParenClose ∷ []) rest (quiet-value v) (Some k.ParenOpen) (λ n. refl)
        (λ n e. (ends_fit n k.ParenClose e refl, closed k.ParenClose refl)),
  ),
)

quiet-slot : (slots : List Slot) (f : FieldInfo) → Quiet (slot_marks slots f)
quiet-slot slots f before rest free closed = (free k.Lower, (refl, (refl, lit< tt, quiet-value (held slots f.number) None rest free-none closed)))

-- ---- lines

-- marks that end a line
abbrev Line : List Mark → Type 0
Line ms = (rest : List Mark) → Neat None rest → Neat None (ms ++ rest)

line-flat : {A : Type 0} (m : A → List Mark) → ((x : A) → Line (m x)) → (xs : List A) → Line (flat_map m xs)
line-flat m line [] rest now = now
line-flat m line (x ∷ xs) rest now = subst (Neat None) (sym (append_assoc (m x) (flat_map m xs) rest)) (line x (flat_map m xs ++ rest) (line-flat m line xs rest now))

line-record : (m : ModelInfo) (r : Record) → Line (record_marks m r)
line-record m r rest now =
    let fields = commas (map (slot_marks r.slots) m.fields) in
    let end = sign k.BraceClose ∷ newline ∷ [] in
    let ended : Neat (Some k.BraceClose) (newline ∷ rest) = (refl, lit< tt, now) in (
      refl,
      lit< tt,
      (
        refl,
        (
          refl,
          (
            refl,
            lit< tt,
            (
              refl,
              subst (Neat (Some k.BraceOpen)) (sym (append_assoc fields end rest))
                  (commas-neat (slot_marks r.slots) (quiet-slot r.slots) m.fields (Some k.BraceOpen) (end ++ rest) (λ n. refl)
                  (λ n e. (ends_fit n k.BraceClose e refl, ended)) (refl, ended)),
            ),
          ),
        ),
      ),
    )

line-table : (d : Database) (m : ModelInfo) → Line (table_marks d m)
line-table d m rest now =
    let rows = flat_map (record_marks m) (records_of d m.number) in
    let end = sign k.BraceClose ∷ newline ∷ [] in (
      refl,
      (
        refl,
        lit< tt,
        (
          refl,
          (
            refl,
            (
              refl,
              lit< tt,
              (
                refl,
                (
                  refl,
                  lit< tt,
                  subst (Neat None) (sym (append_assoc rows end rest)) (line-flat (record_marks m) (line-record m) (records_of d m.number) (end ++ rest) (refl, (refl, lit< tt, now))),
                ),
              ),
            ),
          ),
        ),
      ),
    )

pub neat-data : (s : Schema) (d : Database) → Neat None (data_marks s d)
neat-data s d = subst (Neat None) (append-nil (data_marks s d)) (line-flat (table_marks d) (line-table d) s.models [] tt)
