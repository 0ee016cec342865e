-- A turn of reading what stands in a row.
use Rattle.std.proofs.Common.{◌≡◌, ℕ, suc, ◌+◌, ◌-◌, ◌<◌, List, [], ◌∷◌, ◌++◌, refl, ◌∙◌, ap, arith, codes, map}
use Rattle.std.specs.Prelude.{Option, Some, None, Err}
use Rattle.type_schema.specs.Schema.{FieldInfo}
use Rattle.data_meaning.specs.Database.{Record}
use Rattle.data_back.specs.Reading.{Answer, after, choose, word_at}
use Rattle.data_back.proofs.ScanTurns.{one-more}
use Rattle.data_back.specs.Back.{id_at, ids_from, record_at, records_from}

pub map_one : {A B : Type 0} (f : A → B) (xs : List A) (x : A) → map f (xs ++ x ∷ []) ≡ map f xs ++ f x ∷ []
map_one f [] x = refl
map_one f (y ∷ xs) x = ap (λ ys. f y ∷ ys) (map_one f xs x)

module _ (ids : List ℕ) (turn most : ℕ) (text : List ℕ) (below : turn < most) where
  id-turn : ids_from ids (most - turn) text
      ≡ after (λ id rest. choose (λ more. ids_from (ids ++ id ∷ []) (most - (turn + 1)) more) (after (λ _ more. Some (ids ++ id ∷ [], more)) (word_at (codes "]") rest))
      (word_at (codes ", ") rest)) (id_at text)
  id-turn = rw (one-more turn most below) refl

  pub no-id : id_at text ≡ None → ids_from ids (most - turn) text ≡ None
  no-id e = id-turn ∙ rw e refl

  pub last-id : (id : ℕ) (rest more : List ℕ) → id_at text ≡ Some (id, rest) → word_at (codes ", ") rest ≡ None → word_at (codes "]") rest ≡ Some (tt, more)
      → ids_from ids (most - turn) text ≡ Some (ids ++ id ∷ [], more)
  last-id id rest more e comma bracket = id-turn ∙ rw (e, comma, bracket) refl

  pub no-bracket : (id : ℕ) (rest : List ℕ) → id_at text ≡ Some (id, rest) → word_at (codes ", ") rest ≡ None → word_at (codes "]") rest ≡ None
      → ids_from ids (most - turn) text ≡ None
  no-bracket id rest e comma bracket = id-turn ∙ rw (e, comma, bracket) refl

  pub next-id : (id : ℕ) (rest more : List ℕ) → id_at text ≡ Some (id, rest) → word_at (codes ", ") rest ≡ Some (tt, more)
      → ids_from ids (most - turn) text ≡ ids_from (ids ++ id ∷ []) (most - (turn + 1)) more
  next-id id rest more e comma = id-turn ∙ rw (e, comma) refl

module _ (fields : List FieldInfo) (records : List Record) (turn most : ℕ) (text : List ℕ) (below : turn < most) where
  record-turn : records_from fields records (most - turn) text
      ≡ choose (λ rest. after (λ r more. records_from fields (records ++ r ∷ []) (most - (turn + 1)) more) (record_at fields rest))
      (after (λ _ rest. Some (records, rest)) (word_at (codes "}\n") text)) (word_at (codes "  ") text)
  record-turn = rw (one-more turn most below) refl

  pub last-record : (rest : List ℕ) → word_at (codes "  ") text ≡ None → word_at (codes "}\n") text ≡ Some (tt, rest)
      → records_from fields records (most - turn) text ≡ Some (records, rest)
  last-record rest blank brace = record-turn ∙ rw (blank, brace) refl

  pub no-brace : word_at (codes "  ") text ≡ None → word_at (codes "}\n") text ≡ None → records_from fields records (most - turn) text ≡ None
  no-brace blank brace = record-turn ∙ rw (blank, brace) refl

  pub no-record : (rest : List ℕ) → word_at (codes "  ") text ≡ Some (tt, rest) → record_at fields rest ≡ None → records_from fields records (most - turn) text ≡ None
  no-record rest blank e = record-turn ∙ rw (blank, e) refl

  pub next-record : (rest more : List ℕ) (r : Record) → word_at (codes "  ") text ≡ Some (tt, rest) → record_at fields rest ≡ Some (r, more)
      → records_from fields records (most - turn) text ≡ records_from fields (records ++ r ∷ []) (most - (turn + 1)) more
  next-record rest more r blank e = record-turn ∙ rw (blank, e) refl
