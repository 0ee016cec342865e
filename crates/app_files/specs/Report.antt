-- The reports of one line, each with its end. check_witness has the text of a witness, check_report the reports on an obligation that is not
-- decided.
use Rattle.std.specs.Prelude.{ℕ, List, [], ◌∷◌, codes}
use Rattle.std.specs.Fmt.{decimal}
use Rattle.std.specs.List.{concat}
use Rattle.text_parse.specs.declared.syntax_err.SyntaxErr.{SyntaxErr}
use Rattle.text_parse.specs.declared.syntax_err.SyntaxErr.TheVariants as err
use Rattle.text_parse.specs.declared.syntax_err.What.TheVariants as what
use Rattle.type_typing.specs.declared.type_err.TypeErr.{TypeErr}
use Rattle.type_typing.specs.declared.type_err.TypeErr.TheVariants as types
use Rattle.app_files.specs.declared.fault.Fault.{Fault}

abbrev pub usage_text : List ℕ
usage_text = codes "usage: init SPEC [DATA], check [SPEC] SCRIPT, apply SCRIPT, show, serve, gen N, prove SPEC SCRIPT, recheck SPEC SCRIPT CERT, impact SPEC SCRIPT\n"

abbrev pub missing_text : List ℕ → List ℕ
missing_text name = concat (codes "missing " ∷ name ∷ codes "\n" ∷ [])

abbrev pub too_long_text : List ℕ → List ℕ
too_long_text name = concat (codes "too long " ∷ name ∷ codes "\n" ∷ [])

-- the cause for which a file, or a command of it, is refused, with its place
abbrev pub cause_text : List ℕ → List ℕ → ℕ → List ℕ
cause_text of cause place = concat (of ∷ codes ": " ∷ cause ∷ decimal place ∷ codes "\n" ∷ [])

abbrev pub syntax_text : List ℕ → SyntaxErr → List ℕ
syntax_text name (err.NotText at) = cause_text name (codes "not text at ") at
syntax_text name (err.BadByte at) = cause_text name (codes "bad byte at ") at
syntax_text name (err.BadNumber at) = cause_text name (codes "bad number at ") at
syntax_text name (err.Unfinished at) = cause_text name (codes "unfinished at ") at
syntax_text name (err.NotGrammar token) = cause_text name (codes "not grammar at token ") token
syntax_text name (err.TooDeep at) = cause_text name (codes "too deep at ") at
syntax_text name (err.TooManyTokens at) = cause_text name (codes "too many tokens at ") at
syntax_text name (err.TooMany what.Statics at) = cause_text name (codes "too many statics at ") at
syntax_text name (err.TooMany what.Models at) = cause_text name (codes "too many models at ") at
syntax_text name (err.TooMany what.Fields at) = cause_text name (codes "too many fields at ") at
syntax_text name (err.TooMany what.Commands at) = cause_text name (codes "too many commands at ") at
syntax_text name (err.TooMany what.NameBytes at) = cause_text name (codes "too many name bytes at ") at
syntax_text name (err.TooMany what.TextBytes at) = cause_text name (codes "too many text bytes at ") at
-- no text is refused so
syntax_text name err.OutOfMemory = concat (name ∷ codes ": out of memory\n" ∷ [])

-- a thing that is removed and still used by this user
abbrev pub still_used_text : List ℕ → ℕ → List ℕ → List ℕ
still_used_text of at user = concat (of ∷ codes ": still used at " ∷ decimal at ∷ codes " by " ∷ user ∷ codes "\n" ∷ [])

-- what becomes too large a formula
abbrev pub expanded_text : List ℕ → ℕ → ℕ → List ℕ
expanded_text of at count = concat (of ∷ codes ": expanded " ∷ decimal count ∷ codes " at " ∷ decimal at ∷ codes "\n" ∷ [])

-- a fault of typing, with who still uses a thing
abbrev pub types_text : List ℕ → List ℕ → TypeErr → List ℕ
types_text of user (types.Unknown at) = cause_text of (codes "unknown at ") at
types_text of user (types.Twice at) = cause_text of (codes "twice at ") at
types_text of user (types.WrongType at) = cause_text of (codes "wrong type at ") at
types_text of user (types.NotPrincipal at) = cause_text of (codes "not principal at ") at
types_text of user (types.StillUsed at by) = still_used_text of at user
types_text of user (types.EmptyReason at) = cause_text of (codes "empty reason at ") at
types_text of user (types.Expanded at count) = expanded_text of at count
types_text of user (types.Crowded at) = cause_text of (codes "crowded at ") at
-- nothing is refused so
types_text of user types.OutOfMemory = concat (of ∷ codes ": out of memory\n" ∷ [])

-- a specification removes nothing that is still used
abbrev pub spec_types_text : List ℕ → TypeErr → List ℕ
spec_types_text name err = types_text name [] err

-- a command of the script in the file
abbrev pub command_text : List ℕ → ℕ → List ℕ
command_text name command = concat (name ∷ codes ": command " ∷ decimal command ∷ [])

abbrev pub script_types_text : List ℕ → Fault → List ℕ
script_types_text name fault = types_text (command_text name fault.command) fault.user fault.err

abbrev pub accepted_text : ℕ → List ℕ
accepted_text obligations = concat (codes "accepted obligations " ∷ decimal obligations ∷ codes "\n" ∷ [])
