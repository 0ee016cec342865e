use Rattle.ground_problem.proofs.SpokenLaws.{fields_stand, spoken, terms_related, words_stand}
use Rattle.ground_problem.proofs.spoken.vocabulary_of.Goals as goal

pub returns-clause-spoken : goal.returns-clause-spoken
returns-clause-spoken c = λ f ts over formed own before.
    spoken c.args.signature.now c.args.arena.now f ts c.args.variables.now c.args.closed c.args.made _ c.in_ok-words.ensures over formed own before

pub returns-clause-words : goal.returns-clause-words
returns-clause-words c = words_stand c.args.signature.now c.args.arena.now c.args.variables.now c.args.closed c.args.made (record { made = c.spoken_words.new.made; words = c.in_ok-words.words; fields = c.in_ok-words.fields })
    c.in_ok-words.ensures

pub returns-clause-fields : goal.returns-clause-fields
returns-clause-fields c = fields_stand c.args.signature.now c.args.arena.now c.args.variables.now c.args.closed c.args.made (record { made = c.spoken_words.new.made; words = c.in_ok-words.words; fields = c.in_ok-words.fields })
    c.in_ok-words.ensures

pub returns-clause-terms : goal.returns-clause-terms
returns-clause-terms c = terms_related c.args.signature.now c.args.arena.now c.args.variables.now c.args.closed c.args.made (record { made = c.spoken_words.new.made; words = c.in_ok-words.words; fields = c.in_ok-words.fields })
    c.in_ok-words.ensures
