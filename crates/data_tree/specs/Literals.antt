-- One level of a value as it is written.
use Rattle.std.specs.Prelude.{ℕ}
use Rattle.data_tree.specs.declared.literals.Lit.{Lit, out-Lit}
use Rattle.data_tree.specs.declared.literals.Lit.TheOpen.{Lit-F}

abbrev pub Layer : Type 0
Layer = Lit-F Lit

abbrev pub layer_at : Layer → ℕ
layer_at (Lit-F.Flag b at) = at
layer_at (Lit-F.Num n at) = at
layer_at (Lit-F.Str text at) = at
layer_at (Lit-F.Id id at) = at
layer_at (Lit-F.SelfId at) = at
layer_at (Lit-F.NoneLit at) = at
layer_at (Lit-F.SomeLit inner at) = at
layer_at (Lit-F.List items at) = at

-- the offset of its first token
abbrev pub lit_at : Lit → ℕ
lit_at l = layer_at (out-Lit l)
