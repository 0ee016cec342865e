-- Who is in what was gathered.
use Rattle.std.specs.Prelude.{Bool, not}
use Rattle.data_meaning.specs.declared.principals.Principal.{Principal}
use Rattle.data_members.specs.declared.gathering.Gathered.{Gathered}
use Rattle.data_members.specs.declared.gathering.Gathered.TheVariants.{Only, AllBut}
use Rattle.data_members.specs.Sets.{is_one_of}

abbrev pub has : Gathered → Principal → Bool
has (Only ps) q = is_one_of ps.items q
has (AllBut ps) q = not (is_one_of ps.items q)
