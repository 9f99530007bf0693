-- A rejected start tells what was asked, and no page.
use Rattle.std.proofs.Common.{◌≡◌, refl, sym, subst}
use Rattle.std.specs.Prelude.{IfOk}
use Rattle.task_events.specs.Answered.{as_answered}
use Rattle.reply_facts.specs.Letters.{IsRequestAt}
use Rattle.work_facts.proofs.Replies.{end_tells}
use Rattle.data_core.proofs.starts.root_rejection.Goals as goal

pub new-requires-clause-asked : goal.new-requires-clause-asked
new-requires-clause-asked g c =
    let run = g.W.Run.setting in
    let start = c.args.start in
    let answered = c.in_ok-answered.answered in
    let told : answered ≡ as_answered start.request = subst (λ r. IfOk r (λ a. a ≡ as_answered start.request)) c.in_ok-answered.ensures.ok c.of.ensures in
    end_tells run start.place answered (subst (IsRequestAt run start.place) (sym told) c.requires.tells.request) _ tt _ _ refl
