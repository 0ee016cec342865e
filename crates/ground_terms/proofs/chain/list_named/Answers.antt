use Rattle.ground_terms.specs.Parts.{ground_name}
use Rattle.ground_terms.proofs.Chains.{chain_reversed}
use Rattle.ground_terms.proofs.chain.list_named.Goals as goal

pub returns : goal.returns
returns c =
    chain_reversed c.args.signature.now (ground_name c.args.name) c.in_ok-functions.functions.items _ _ _ _ _ _ c.in_ok-functions.ensures c.in_ok-list_chain.ensures c.in_ok-push_reversed.ensures
