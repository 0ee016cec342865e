-- What a contract sees of a `LitBuf`.
use Rattle.std.specs.Prelude.{ℕ, List, refl}
use Rattle.std.specs.Coded.{Coded, code_by, coded×, coded_ℕ, coded_list}

-- the items, in the order in which they were pushed, and how many there can be
pub record LitList (L : Type 0) : Type 0 where
  pub items : List L
  pub capacity : ℕ

-- it is stored as the pair of its fields
abbrev pub lit_list_code : {L : Type 0} → Coded L → Coded (LitList L)
lit_list_code {L} code =
    code_by (List L × ℕ) (coded× (coded_list code) coded_ℕ) (λ b. (b.items, b.capacity))
    (λ p. record { items = p.0; capacity = p.1 }) (λ _. refl)
