-- What a name is, and what a text is.
use Rattle.std.specs.Prelude.{ℕ, ◌≤◌, Bool, false, ◌||◌, ◌&&◌, nat_le, ◌==◌, IsTrue, List, [], ◌∷◌, length, codes}
use Rattle.std.specs.List.{list_all, list_any}
use Rattle.std.specs.Str.{IsUtf8, bytes_eq}
use Rattle.text_lexer.specs.declared.limits.TheConstants.{MOST_NAME_BYTES, MOST_TEXT_BYTES}

-- an ASCII letter
abbrev pub is_letter : ℕ → Bool
is_letter b = (nat_le 65 b && nat_le b 90) || (nat_le 97 b && nat_le b 122)

-- an ASCII letter or digit, or an underscore
abbrev pub is_name_byte : ℕ → Bool
is_name_byte b = is_letter b || (nat_le 48 b && nat_le b 57) || (b == 95)

abbrev pub begins_with_letter : List ℕ → Bool
begins_with_letter [] = false
begins_with_letter (b ∷ bs) = is_letter b

-- 1 to 64 letters, digits and underscores, the first a letter
abbrev pub is_name : List ℕ → Bool
is_name bytes = begins_with_letter bytes && list_all is_name_byte bytes && nat_le (length bytes) MOST_NAME_BYTES

abbrev pub IsName : List ℕ → Type 0
IsName bytes = IsTrue (is_name bytes)

-- UTF-8 of at most 4,096 bytes
pub record IsText (bytes : List ℕ) : Type 0 where
  pub utf8 : IsUtf8 bytes
  pub short : length bytes ≤ MOST_TEXT_BYTES

-- the words that the grammar keeps for itself
abbrev pub reserved_lower : List (List ℕ)
reserved_lower =
    codes "static" ∷ codes "principal" ∷ codes "model" ∷ codes "create" ∷ codes "delete" ∷ codes "read" ∷ codes "write" ∷ codes "public"
    ∷ codes "none" ∷ codes "some" ∷ codes "if" ∷ codes "then" ∷ codes "else" ∷ codes "match" ∷ codes "with" ∷ codes "in" ∷ codes "has"
    ∷ codes "true" ∷ codes "false" ∷ codes "map" ∷ codes "flat_map" ∷ codes "self" ∷ []

abbrev pub type_words : List (List ℕ)
type_words =
    codes "Bool" ∷ codes "Int" ∷ codes "Text" ∷ codes "Id" ∷ codes "Set" ∷ codes "Option" ∷ codes "Find" ∷ []

abbrev pub command_words : List (List ℕ)
command_words =
    codes "CreateModel" ∷ codes "DeleteModel" ∷ codes "AddField" ∷ codes "RemoveField" ∷ codes "UpdateFieldPolicy" ∷ codes "WeakenFieldPolicy"
    ∷ codes "UpdatePolicy" ∷ codes "WeakenPolicy" ∷ codes "AddStatic" ∷ codes "RemoveStatic" ∷ codes "AddPrincipal" ∷ []

unfoldable pub is_type_word : List ℕ → Bool
is_type_word word = list_any (bytes_eq word) type_words

unfoldable pub is_command_word : List ℕ → Bool
is_command_word word = list_any (bytes_eq word) command_words

unfoldable pub is_reserved_lower : List ℕ → Bool
is_reserved_lower word = list_any (bytes_eq word) reserved_lower

abbrev pub is_reserved_upper : List ℕ → Bool
is_reserved_upper word = is_type_word word || is_command_word word
