-- Sets of principals: a list of those that are in it, or of those that are not.
use Rattle.std.specs.Prelude.{◌≡◌, ℕ, Bool, true, false, not, List, [], if◌then◌else◌}
use Rattle.std.specs.declared.cmp.Ordering.{Ordering}
use Rattle.std.specs.Ordering.{nat_cmp, ordering_then}
use Rattle.std.specs.List.{list_any}
use Rattle.std.specs.List.Sorted.{IsStrictlySortedBy}
use Rattle.data_meaning.specs.declared.principals.Principal.{Principal}
use Rattle.data_meaning.specs.declared.principals.Principal.TheVariants.{Static, Rec}
use Rattle.data_meaning.specs.Values.{Id}
use Rattle.data_meaning.specs.Meaning.{is_static, is_record, id_of_record}
use Rattle.data_members.specs.declared.sets.PrincipalSet.{PrincipalSet}

-- ---- the order of principals

-- static principals come before records
abbrev pub rank : Principal → ℕ
rank (Static n) = 0
rank (Rec m id) = 1

-- the number of the static principal, or of the record's model
abbrev pub number : Principal → ℕ
number (Static n) = n
number (Rec m id) = m

abbrev pub principal_cmp : Principal → Principal → Ordering
principal_cmp p q = ordering_then (ordering_then (nat_cmp (rank p) (rank q)) (nat_cmp (number p) (number q))) (nat_cmp (id_of_record p) (id_of_record q))

-- ---- who is in a list, and in a set

abbrev pub is_principal : Principal → Principal → Bool
is_principal (Static n) q = is_static n q
is_principal (Rec m id) q = is_record m (Id id) q

abbrev pub is_one_of : List Principal → Principal → Bool
is_one_of ps q = list_any (λ p. is_principal p q) ps

-- The set holds just the principals that pass the test. Its lists rise, so that nobody stands in one twice. Where it holds everyone but
-- some, it names only these, and else only those that it holds.
pub record Denotes (set : PrincipalSet) (test : Principal → Bool) : Type 0 where
  pub same : (q : Principal) → (if set.everyone then not (is_one_of set.but.items q) else is_one_of set.some.items q) ≡ test q
  pub some_rise : IsStrictlySortedBy principal_cmp set.some.items
  pub but_rise : IsStrictlySortedBy principal_cmp set.but.items
  pub names_no_member : set.everyone ≡ true → set.some.items ≡ []
  pub names_no_other : set.everyone ≡ false → set.but.items ≡ []
