-- Schemas that texts give have names that are words.
use Rattle.std.proofs.Common.{◌≡◌, ℕ, List, Ok, sym, subst}
use Rattle.std.specs.List.{Contains}
use Rattle.std.proofs.lemmas.List.Elements.{All-contains, All-from_recursion}
use Rattle.text_tree.specs.declared.commands.Command as tree
use Rattle.text_tree.specs.declared.commands.Script.{Script}
use Rattle.text_tree.specs.declared.models.Spec.{Spec}
use Rattle.text_tree.specs.Texts.{IsScriptText, IsSpecText}
use Rattle.type_schema.specs.Commands.{Command, schema_after}
use Rattle.type_schema.specs.Proper.{IsProper}
use Rattle.type_schema.specs.Schema.{Schema}
use Rattle.type_specs.specs.Sizes.{Sizes}
use Rattle.type_specs.specs.Specs.{typed_spec}
use Rattle.type_commands.specs.Resolved.{resolved}
use Rattle.type_anew.specs.Specs.{written_spec}
use Rattle.type_anew.proofs.Commands.{commands_come_back}
use Rattle.type_anew.proofs.TypedSpecs.{specs_come_back}
use Rattle.data_read.specs.Words.{HasWords}
use Rattle.data_read.proofs.WordsKept.{stripped-words, words-after, words-of-written, written-words}
use Rattle.data_read.proofs.WordsSpelled.{CommandHasWords, SpecHasWords, script-text-words, spec-text-words}

pub specification-words : (sizes : Sizes) (text : List ℕ) (x : Spec) (s : Schema) → IsSpecText text x → IsProper s → typed_spec sizes x ≡ Ok s → HasWords s
specification-words sizes text x s is proper typed =
    words-of-written s (subst SpecHasWords (sym (specs_come_back sizes x s proper typed)) (stripped-words x (spec-text-words text x is)))

pub command-words : (text : List ℕ) (x : Script) (c : tree.Command) (s : Schema) (command : Command) → IsScriptText text x → Contains x.commands c → IsProper s
    → IsProper (schema_after s command) → resolved s c ≡ Ok command → HasWords s → HasWords (schema_after s command)
command-words text x c s command is among proper after typed words =
    let brings = All-contains CommandHasWords x.commands c (All-from_recursion CommandHasWords x.commands (script-text-words text x is)) among in
    words-of-written (schema_after s command)
    (subst SpecHasWords (sym (commands_come_back s c command proper after typed)) (words-after (written_spec s) c brings (written-words s words)))

pub tree-words : (s t : Schema) → written_spec s ≡ written_spec t → HasWords s → HasWords t
tree-words s t same words = words-of-written t (subst SpecHasWords same (written-words s words))
