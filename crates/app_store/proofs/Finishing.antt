-- What is done with an answer.
use Rattle.std.proofs.Common.{◌≡◌, ℕ, List, [], ◌∷◌, refl, sym, subst}
use Rattle.std.specs.Prelude.{Option, Some, None}
use Rattle.app_files.specs.declared.status.Status.{Status}
use Rattle.app_files.specs.declared.status.Status.TheVariants.{Done}
use Rattle.app_files.specs.Ends.{IsReported}
use Rattle.store_keeper.specs.declared.keeper.KeepCall.TheVariants.{Replace}
use Rattle.store_keeper.specs.Content.{Content}
use Rattle.store_keeper.specs.Stored as plain
use Rattle.app_store.specs.declared.answer.StoreAnswer.{StoreAnswer}
use Rattle.app_store.specs.Answer.{stored_by, status_of, text_of}
use Rattle.app_store.specs.Finished.{IsFinished, Said, Kept, Lost, IsKeptAndPut, Taken, Left}
use Rattle.app_store.proofs.Headline.{stores-done}

pub kept-so : (a : StoreAnswer) (content content_after : Content) (s : plain.Stored) (report : List ℕ) (before after : Option (List ℕ)) (status : Status) → stored_by a ≡ Some s → report ≡ text_of a
    → IsKeptAndPut content content_after s report before after status → IsFinished a content content_after (Replace ∷ []) before after status
kept-so a content content_after s report before after status some same (Taken holds put) =
    Kept s some refl holds
    (subst (λ (z : Status). IsReported (text_of a) z before after status) (sym (stores-done a s some))
    (subst (λ (z : List ℕ). IsReported z Done before after status) same put))
kept-so a content content_after s report before after status some same (Left kept fault) = Lost s some refl kept fault

pub said-so : (a : StoreAnswer) (content : Content) (report : List ℕ) (decided : Status) (before after : Option (List ℕ)) (status : Status) → stored_by a ≡ None → report ≡ text_of a → decided ≡ status_of a
    → IsReported report decided before after status → IsFinished a content content [] before after status
said-so a content report decided before after status none same so put =
    Said none refl refl
    (subst (λ (z : Status). IsReported (text_of a) z before after status) so (subst (λ (z : List ℕ). IsReported z decided before after status) same put))
