use Rattle.std.proofs.Common.{◌≡◌, ◌+◌, length, ap, ◌∙◌, arith}
use Rattle.std.proofs.lemmas.Result.{err_from_is_err_and}
use Rattle.duty_meaning.specs.Sizes.{term_size}
use Rattle.duty_writer.specs.declared.term.Term.{Term}
use Rattle.duty_writer.specs.Terms.{term_data}
use Rattle.duty_writer.proofs.Paying.{pays_stop, pays_later, term_positive, size-chain}
use Rattle.duty_writer.proofs.writer.Writer.+pay_term.Goals as goal

pub returns-in_err-pay-in-App : goal.returns-in_err-pay-in-App
returns-in_err-pay-in-App t c =
    let p = err_from_is_err_and c.from_residual.result c.from_residual.ensures.1 in
    pays_stop _ _ _ _ _ _ _ p.1 p.2 (term_positive (term_data c.args.t.now)) c.in_err-pay-in-App.ensures

pub returns-in_err-pay-in-Chain : goal.returns-in_err-pay-in-Chain
returns-in_err-pay-in-Chain t c =
    let p = err_from_is_err_and c.from_residual-in_err-pay-in-Chain.result c.from_residual-in_err-pay-in-Chain.ensures.1 in
    let is : term_size (term_data c.args.t.now) ≡ length c.in-Chain.functions.now + term_size (term_data c.in-Chain.inner.now) =
    ap (λ (t : Term). term_size (term_data t)) c.in-Chain.is ∙ size-chain c.in-Chain.functions.now (term_data c.in-Chain.inner.now) in
    pays_stop _ _ _ _ _ _ _ p.1 p.2 (omega (arith, is)) c.in_err-pay-in-Chain.ensures

pub returns-in_ok-pay-in-Chain : goal.returns-in_ok-pay-in-Chain
returns-in_ok-pay-in-Chain t c =
    pays_later _ _ _ _ _ _ _ (ap (λ (t : Term). term_size (term_data t)) c.in-Chain.is ∙ size-chain c.in-Chain.functions.now (term_data c.in-Chain.inner.now))
    c.in_ok-pay-in-Chain.ensures c.pay_term-in-Chain.ensures
