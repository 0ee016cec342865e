use Rattle.std.proofs.Common.{rules, ◌≡◌, ◌∷◌, [], string_bytes, arith, ◌++◌}
use Rattle.std.proofs.lemmas.List.Elements.{All-push}
use Rattle.std.proofs.lemmas.Result.{IfOk-weaker}
use Rattle.text_ast.specs.Words.{IsText}
use Rattle.app_main.proofs.WordsGiven.{AreWordsOf-end, AreWordsOf-stop, words-more}
use Rattle.app_main.proofs.arguments.words_of.Goals as goal

pub returns-in_default : goal.returns-in_default
returns-in_default c =
    let inv = c.loop-argument.invariant in
    let no_text : ¬ (IsText (string_bytes c.in-Some.argument)) = search rules in
    let stop = AreWordsOf-stop string_bytes _ _ _ _ c.in-Some.argument c.in-Some.ensures.steps.0 inv.4 no_text in
    IfOk-weaker _ (λ words. words.items ≡ [] ∷ []) _ (λ words. stop words.items) c.one_empty_word.ensures

pub loop-argument-preserved : goal.loop-argument-preserved
loop-argument-preserved c =
    let inv = c.loop-argument.invariant in
    let more = words-more string_bytes _ _ _ _ c.in-Some.argument c.in-Some.ensures.steps.0 inv.4 in
    let word : c.in-Some-make.word ≡ string_bytes c.in-Some.argument = search rules in
    let text : IsText (string_bytes c.in-Some.argument) = search rules in
    let pushed : c.push.new.self.items ≡ c.loop-argument.words.items ++ string_bytes c.in-Some.argument ∷ [] = search rules in
    (tt, tt, search rules, rw pushed (All-push IsText _ _ inv.3 text), rw pushed more)

pub returns : goal.returns
returns c =
    let inv = c.loop-argument.invariant in
    AreWordsOf-end string_bytes _ _ _ (omega (arith, inv.2, c.in-None.ensures.steps.0)) inv.3 inv.4
