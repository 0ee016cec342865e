-- A database over the last schema of a script, numbered anew, is one over that schema numbered anew.
use Rattle.std.proofs.Common.{◌≡◌, sym, subst}
use Rattle.type_schema.specs.Schema.{Schema}
use Rattle.type_anew.specs.RenumberedLaws.{DatabasesMove, IsMovedTo}
use Rattle.data_meaning.specs.Database.{Database, HasNoFurtherTables, IsDatabase}
use Rattle.store_apply.specs.Settling.{IsRenumbered, MaySettle}

pub is-moved : DatabasesMove → (s last anew : Schema) (d : Database) → s ≡ last → MaySettle last → IsRenumbered s anew → IsDatabase last d → HasNoFurtherTables last d → IsMovedTo s anew d
is-moved move s last anew d same may renumbered over only =
    let there : MaySettle s = subst MaySettle (sym same) may in
    move s anew d there.proper renumbered.numbers (subst (λ (u : Schema). IsDatabase u d) (sym same) over)
    (subst (λ (u : Schema). HasNoFurtherTables u d) (sym same) only)
