use Rattle.std.proofs.Common.{refl, ap, sym, ◌∙◌}
use Rattle.std.specs.Prelude.{fold}
use Rattle.form_formula.specs.Trees.{bound, str, app}
use Rattle.duty_writer.specs.Terms.{term_data}
use Rattle.duty_writer.proofs.Putting.{put_ok, put_later, ok_put}
use Rattle.duty_writer.proofs.nodes.+put.Goals as goal

pub returns-in_ok-room-in-Bound : goal.returns-in_ok-room-in-Bound
returns-in_ok-room-in-Bound t c = put_ok _ _ _ (bound c.in-Bound.sort c.in-Bound.depth) _ _ (ap term_data c.in-Bound.is) refl refl c.mk_bound.ensures.made

pub returns-in_ok-room-in-Str : goal.returns-in_ok-room-in-Str
returns-in_ok-room-in-Str t c = put_ok _ _ _ (str c.in-Str.text.now) _ _ (ap term_data c.in-Str.is) refl refl c.mk_str.ensures.made

pub returns-in_ok-room-in-App : goal.returns-in_ok-room-in-App
returns-in_ok-room-in-App t c =
    put_later _ _ _ _ _ c.in_ok-inner-in-App.ensures.kept
    (put_ok _ _ _ (app c.in-App.f (term_data c.in-App.inner.now)) _ _ (ap term_data c.in-App.is) (ap (app c.in-App.f) c.in_ok-inner-in-App.ensures.means) refl c.mk_app.ensures.made)

pub returns-in_ok-inner-in-Chain : goal.returns-in_ok-inner-in-Chain
returns-in_ok-inner-in-Chain t c =
    put_later _ _ _ _ _ c.in_ok-inner-in-Chain.ensures.kept
    (ok_put _ _ _ _ _ (ap (λ u. fold (λ u f. app f u) u c.in-Chain.functions.now) c.in_ok-inner-in-Chain.ensures.means ∙ sym (ap term_data c.in-Chain.is)) c.put_chain.ensures)
