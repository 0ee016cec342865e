-- The texts that the generator makes: a specification of so many fields, and two scripts that change the policies of each.
use Rattle.std.specs.Prelude.{ℕ, zero, suc, List, [], ◌∷◌, ◌++◌, codes}
use Rattle.std.specs.Fmt.{decimal}
use Rattle.std.specs.List.{concat}
use Rattle.app_gen.specs.declared.policies.Filters.{Filters}
use Rattle.app_gen.specs.declared.policies.Filters.TheVariants as filters

-- ---- policies of fields of notes

-- A membership of the note's group, one of its user, and those of that one's group that pass the last filters: their users. And the owner.
abbrev pub policy_with : List ℕ → List ℕ
policy_with filters =
    concat (
    codes "n -> Membership::Find({group: n.group}).flat_map(m -> " ∷ codes "Membership::Find({user: m.user}).flat_map(k -> Membership::Find({"
    ∷ filters ∷ codes "}).map(j -> j.user))) + [n.owner]" ∷ []
    )

abbrev pub of_group : List ℕ
of_group = codes "group: k.group"

-- memberships of the group with this level at least
abbrev pub of_level : ℕ → List ℕ
of_level i = codes "group: k.group, level >= " ++ decimal i

-- what the last filters are
abbrev pub filters_text : Filters → List ℕ
filters_text filters.None = []
filters_text filters.Group = of_group
filters_text (filters.Level i) = of_level i

-- ---- the specification

abbrev pub head_text : List ℕ
head_text = codes "static Visitor\nprincipal model User {create: none, delete: none}\nprincipal model Robot {create: none, delete: none}\nmodel Group {create: none, delete: none}\nmodel Membership {\n  create: none,\n  delete: none,\n  user: Id(User) {read: public, write: none},\n  group: Id(Group) {read: public, write: none},\n  level: Int {read: public, write: none},\n}\nmodel Note {\n  create: none,\n  delete: none,\n  owner: Id(User) {read: public, write: none},\n  group: Id(Group) {read: public, write: none},\n"

-- both policies, behind the words that tell which is which
abbrev pub rights_text : (read write : List ℕ) → List ℕ
rights_text read write = concat (codes "{read: " ∷ policy_with read ∷ codes ", write: " ∷ policy_with write ∷ codes "}" ∷ [])

-- a field of notes, with this number
abbrev pub field_text : ℕ → List ℕ
field_text i = concat (codes "  t" ∷ decimal i ∷ codes ": Text " ∷ rights_text of_group of_group ∷ codes ",\n" ∷ [])

-- those with the numbers up to n
abbrev pub fields_text : ℕ → List ℕ
fields_text zero = []
fields_text (suc n) = fields_text n ++ field_text (suc n)

abbrev pub spec_text : ℕ → List ℕ
spec_text n = concat (head_text ∷ fields_text n ∷ codes "}\n" ∷ [])

-- ---- the scripts

-- a command that updates both policies of the field with this number
abbrev pub command_text : ℕ → (read write : List ℕ) → List ℕ
command_text i read write = concat (codes "Note::UpdateFieldPolicy(t" ∷ decimal i ∷ codes ", " ∷ rights_text read write ∷ codes ")\n" ∷ [])

-- with the filter on levels
abbrev pub tightened_text : ℕ → List ℕ
tightened_text i = command_text i (of_level i) (of_level i)

-- those of the fields up to n
abbrev pub script_text : ℕ → List ℕ
script_text zero = []
script_text (suc n) = script_text n ++ tightened_text (suc n)

-- the same, but for reading the last field, where no filter is left
abbrev pub loosened_text : ℕ → List ℕ
loosened_text zero = []
loosened_text (suc n) = script_text n ++ command_text (suc n) [] (of_level (suc n))
