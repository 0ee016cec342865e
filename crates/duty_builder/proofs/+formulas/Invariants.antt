use Rattle.duty_builder.proofs.+formulas.Given as goal

abbrev pub decreases-formulas::write : goal.decreases-formulas::write
decreases-formulas::write l = l.fuel

abbrev pub decreases-formulas::join : goal.decreases-formulas::join
decreases-formulas::join l = l.fuel

abbrev pub decreases-formulas::choose : goal.decreases-formulas::choose
decreases-formulas::choose l = l.fuel

abbrev pub decreases-formulas::ask_where : goal.decreases-formulas::ask_where
decreases-formulas::ask_where l = l.fuel

abbrev pub decreases-formulas::choose_ask : goal.decreases-formulas::choose_ask
decreases-formulas::choose_ask l = l.fuel

abbrev pub decreases-walking::ask : goal.decreases-walking::ask
decreases-walking::ask l = l.fuel

abbrev pub decreases-walking::walk : goal.decreases-walking::walk
decreases-walking::walk l = l.fuel

abbrev pub decreases-walking::wrap : goal.decreases-walking::wrap
decreases-walking::wrap l = l.fuel

abbrev pub decreases-walking::ask_end : goal.decreases-walking::ask_end
decreases-walking::ask_end l = l.fuel

abbrev pub decreases-walking::get : goal.decreases-walking::get
decreases-walking::get l = l.fuel

abbrev pub decreases-walking::field : goal.decreases-walking::field
decreases-walking::field l = l.fuel

abbrev pub decreases-walking::chained : goal.decreases-walking::chained
decreases-walking::chained l = l.fuel

abbrev pub decreases-walking::chained_far : goal.decreases-walking::chained_far
decreases-walking::chained_far l = l.fuel

abbrev pub decreases-walking::take_apart : goal.decreases-walking::take_apart
decreases-walking::take_apart l = l.fuel

abbrev pub decreases-ends::finish : goal.decreases-ends::finish
decreases-ends::finish l = l.fuel

abbrev pub decreases-ends::end_holds : goal.decreases-ends::end_holds
decreases-ends::end_holds l = l.fuel

abbrev pub decreases-ends::end_has : goal.decreases-ends::end_has
decreases-ends::end_has l = l.fuel

abbrev pub decreases-ends::end_term : goal.decreases-ends::end_term
decreases-ends::end_term l = l.fuel

abbrev pub decreases-ends::at_term : goal.decreases-ends::at_term
decreases-ends::at_term l = l.fuel

abbrev pub decreases-ends::choose_set : goal.decreases-ends::choose_set
decreases-ends::choose_set l = l.fuel

abbrev pub decreases-conditions::holds : goal.decreases-conditions::holds
decreases-conditions::holds l = l.fuel

abbrev pub decreases-conditions::condition : goal.decreases-conditions::condition
decreases-conditions::condition l = l.fuel

abbrev pub decreases-conditions::same : goal.decreases-conditions::same
decreases-conditions::same l = l.fuel

abbrev pub decreases-conditions::equal : goal.decreases-conditions::equal
decreases-conditions::equal l = l.fuel

abbrev pub decreases-conditions::less : goal.decreases-conditions::less
decreases-conditions::less l = l.fuel

abbrev pub decreases-conditions::compare : goal.decreases-conditions::compare
decreases-conditions::compare l = l.fuel

abbrev pub decreases-filters::pass : goal.decreases-filters::pass
decreases-filters::pass l = l.fuel

abbrev pub decreases-members::member : goal.decreases-members::member
decreases-members::member l = l.fuel

abbrev pub decreases-members::mapped : goal.decreases-members::mapped
decreases-members::mapped l = l.fuel

abbrev pub decreases-members::flat : goal.decreases-members::flat
decreases-members::flat l = l.fuel

abbrev pub decreases-members::listed : goal.decreases-members::listed
decreases-members::listed l = l.fuel

abbrev pub decreases-members::item : goal.decreases-members::item
decreases-members::item l = l.fuel

abbrev pub decreases-members::more_items : goal.decreases-members::more_items
decreases-members::more_items l = l.fuel

abbrev pub decreases-filters::meets : goal.decreases-filters::meets
decreases-filters::meets l = l.fuel

abbrev pub decreases-filters::meets_one : goal.decreases-filters::meets_one
decreases-filters::meets_one l = l.fuel

abbrev pub decreases-filters::meets_more : goal.decreases-filters::meets_more
decreases-filters::meets_more l = l.fuel

abbrev pub decreases-reaches::reach : goal.decreases-reaches::reach
decreases-reaches::reach l = l.fuel

abbrev pub decreases-reaches::at_place : goal.decreases-reaches::at_place
decreases-reaches::at_place l = l.fuel

abbrev pub decreases-reaches::each : goal.decreases-reaches::each
decreases-reaches::each l = l.fuel

abbrev pub decreases-reaches::end_if_none : goal.decreases-reaches::end_if_none
decreases-reaches::end_if_none l = l.fuel

abbrev pub decreases-reaches::end_if_some : goal.decreases-reaches::end_if_some
decreases-reaches::end_if_some l = l.fuel

abbrev pub decreases-reaches::end_cost : goal.decreases-reaches::end_cost
decreases-reaches::end_cost l = l.fuel

abbrev pub decreases-reaches::truth_cost : goal.decreases-reaches::truth_cost
decreases-reaches::truth_cost l = l.fuel

abbrev pub decreases-reaches::taken : goal.decreases-reaches::taken
decreases-reaches::taken l = l.fuel
