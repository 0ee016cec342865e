-- The parts of the formulas of obligations, from the inside out.
use Rattle.std.specs.Prelude.{ℕ, ◌+◌, ◌-◌, true, false}
use Rattle.type_schema.specs.declared.rights.Right.TheVariants.{Read}
use Rattle.type_schema.specs.declared.rights.Target.TheVariants as on
use Rattle.type_schema.specs.Trees.{Init}
use Rattle.type_schema.specs.Uses.{Use}
use Rattle.type_schema.specs.Script.{Script}
use Rattle.form_formula.specs.Trees.{Term, Formula, both}
use Rattle.duty_meaning.specs.declared.duty.Duty.{Duty}
use Rattle.duty_meaning.specs.Formulas.{Who}
use Rattle.duty_meaning.specs.Reach.{init_reach}
use Rattle.duty_meaning.specs.Duties.{written_at, has_right, for_some, for_some_principal}

module _ (t : Script) (duty : Duty) where
  -- that the principal has the right on the record after the command and not before it
  abbrev pub gained : Term → Who → ℕ → Formula
  gained r q above =
      both (has_right t duty.command duty.target duty.right r q true above) (has_right t (duty.command - 1) duty.target duty.right r q false above)

  -- that some principal of the kind does
  abbrev pub gained_by_some : Term → Formula
  gained_by_some r = for_some_principal t duty.kind 1 (gained r)

  module _ (init : Init) (number : ℕ) (at : Use) where
    -- that the use reads its field of the second record where the initialiser is taken at the first, and the principal may not read it there
    abbrev pub denied : Term → Who → Term → ℕ → Formula
    denied r q y above =
        both (init_reach t.start (written_at t duty.command) y init r number above) (has_right t duty.command (on.Field at.model at.field) Read y q false above)

    -- and the principal may read the added field on the first record
    abbrev pub leaked : Term → Who → Term → ℕ → Formula
    leaked r q y above = both (has_right t duty.command duty.target Read r q true above) (denied r q y above)

    -- that it is so with some record as the second
    abbrev pub leaked_from_some : Term → Who → ℕ → Formula
    leaked_from_some r q above = for_some t at.model above (λ y. leaked r q y (above + 1))

    -- for some principal of the kind
    abbrev pub leaked_to_some : Term → Formula
    leaked_to_some r = for_some_principal t duty.kind 1 (leaked_from_some r)
