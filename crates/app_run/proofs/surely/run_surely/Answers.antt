use Rattle.app_certify.specs.Words as certify
use Rattle.app_impact.specs.Words.{impact_of}
use Rattle.app_serve.specs.Words.{is_serve}
use Rattle.app_store.specs.Words.{command_of}
use Rattle.app_run.proofs.Unfailing.{certify_kept, files_kept, of_match, of_serve, still}
use Rattle.app_run.proofs.surely.run_surely.Goals as goal

pub returns-clause-no_store_fault : goal.returns-clause-no_store_fault
returns-clause-no_store_fault c fault =
    of_match (command_of c.args.words.now) c.run.ensures
    (λ others.
    of_serve (is_serve c.args.words.now) others (λ served. still (served.kept_so.counted fault))
    (λ rest.
    of_match (certify.command_of c.args.words.now) rest
    (λ last. of_match (impact_of c.args.words.now) last (λ files. files_kept _ _ _ _ _ _ files.0.ends fault) (λ names looked. looked.0.not_kept fault))
    (λ command certified. certify_kept _ _ _ _ _ command _ _ _ _ _ certified.0 fault)))
    (λ command stored. still (stored.0.kept_so.counted fault))
