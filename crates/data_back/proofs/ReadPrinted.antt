-- What is read of bytes is the database whose printed text they are.
use Rattle.std.proofs.Common.{◌≡◌, ℕ, List, [], map, refl, sym, ◌∙◌, ap, subst}
use Rattle.std.specs.Prelude.{Option, Some, None, Result, Ok, Err, IfOk}
use Rattle.std.specs.Option.{SomeIff}
use Rattle.type_schema.specs.Schema.{Schema}
use Rattle.type_schema.specs.Proper.{model_numbers}
use Rattle.data_meaning.specs.Database.{Table, Database}
use Rattle.data_print.specs.Texts.{database_text}
use Rattle.data_back.specs.Reading.{Answer}
use Rattle.data_back.specs.Back.{found, tables_from}
use Rattle.data_back.specs.Printed.{IsStandard, IsNumbered, IsRead}
use Rattle.data_back.proofs.TablesRead.{some-one, database-read, in-order}

-- where the one follows from the other
pub if-ok : {A E : Type 0} (P Q : A → Type 0) (r : Result A E) → ((x : A) → P x → Q x) → IfOk r P → IfOk r Q
if-ok P Q (Ok x) f h = f x h
if-ok P Q (Err e) f h = tt

found-some : (a : Answer (List Table)) (ts : List Table) → found a ≡ Some ts → (rest : List ℕ) × (a ≡ Some (ts, rest))
found-some None ts e = cc
found-some (Some p) ts e = (p.1, ap (λ z. Some (z, p.1)) (some-one e))

module _ (s : Schema) (bytes : List ℕ) (is : IsNumbered s) where
  printed-found : (d : Database) → IsStandard s d → database_text s d ≡ bytes → found (tables_from [] s.models bytes) ≡ Some d
  printed-found d standard e = ap (λ z. found (tables_from [] s.models z)) (sym e) ∙ ap found (database-read s d is standard)

  pub nothing-found : found (tables_from [] s.models bytes) ≡ None → IsRead s bytes None
  nothing-found none d standard e = let both : None ≡ Some d = sym none ∙ printed-found d standard e in cc

  module _ (ts : List Table) (some : found (tables_from [] s.models bytes) ≡ Some ts) where
    pub in-model-order : map (λ (t : Table). t.model) ts ≡ model_numbers s.models
    in-model-order = let p = found-some (tables_from [] s.models bytes) ts some in in-order [] s.models bytes ts p.0 p.1

    only-one : (d : Database) → IsStandard s d → database_text s d ≡ bytes → d ≡ ts
    only-one d standard e = some-one (sym (printed-found d standard e) ∙ some)

    pub not-standard : (IsStandard s ts → ⊥) → IsRead s bytes None
    not-standard other d standard e = other (subst (IsStandard s) (only-one d standard e) standard)

    pub if-printed : (d : Database) (o : Option Database) → IsStandard s ts → d ≡ ts → SomeIff o (database_text s d ≡ bytes) d → IsRead s bytes o
    if-printed d None standard same h = λ e stands text. h (ap (database_text s) (same ∙ sym (only-one e stands text)) ∙ text)
    if-printed d (Some e) standard same h = (subst (IsStandard s) (sym (h.1 ∙ same)) standard, ap (database_text s) h.1 ∙ h.0)
