-- Causes of the parser and of the trees, as they are answered.
use Rattle.text_parse.specs.declared.syntax_err.SyntaxErr.{SyntaxErr}
use Rattle.text_parse.specs.declared.syntax_err.SyntaxErr.TheVariants as syntax
use Rattle.data_judge.specs.declared.fault.Fault.TheVariants as fault
use Rattle.data_judge.specs.declared.fault.Refusal.{Refusal}
use Rattle.data_judge.specs.declared.fault.Refusal.TheVariants as refusal
use Rattle.data_read.specs.declared.read_err.ReadErr.{ReadErr}
use Rattle.data_read.specs.declared.read_err.ReadErr.TheVariants as err

abbrev pub of_syntax : SyntaxErr → ReadErr
of_syntax (syntax.NotText at) = err.Syntax (syntax.NotText at)
of_syntax (syntax.BadByte at) = err.Syntax (syntax.BadByte at)
of_syntax (syntax.BadNumber at) = err.Syntax (syntax.BadNumber at)
of_syntax (syntax.Unfinished at) = err.Syntax (syntax.Unfinished at)
of_syntax (syntax.NotGrammar token) = err.Syntax (syntax.NotGrammar token)
of_syntax (syntax.TooDeep at) = err.Syntax (syntax.TooDeep at)
of_syntax (syntax.TooManyTokens at) = err.Syntax (syntax.TooManyTokens at)
of_syntax (syntax.TooMany what at) = err.Syntax (syntax.TooMany what at)
of_syntax syntax.OutOfMemory = err.OutOfMemory

abbrev pub of_refusal : Refusal → ReadErr
of_refusal (refusal.Broken (fault.Unknown at)) = err.Unknown at
of_refusal (refusal.Broken (fault.Absent at)) = err.Absent at
of_refusal (refusal.Broken (fault.Twice at)) = err.Twice at
of_refusal (refusal.Broken (fault.WrongShape at)) = err.WrongShape at
of_refusal (refusal.Broken (fault.BadId at)) = err.BadId at
of_refusal (refusal.Dangling at) = err.Dangling at
of_refusal (refusal.Full what) = err.Full what
of_refusal refusal.OutOfMemory = err.OutOfMemory
