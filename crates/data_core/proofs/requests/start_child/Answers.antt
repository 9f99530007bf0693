-- A child that is registered is one that a core may keep.
use Rattle.std.proofs.Common.{◌≡◌, Some, refl, ap, ◌∙◌, subst}
use Rattle.std.specs.Prelude.{is_some, option_map, option_copied}
use Rattle.child_track.specs.Token.{Token}
use Rattle.data_parts.specs.Slices.{context_for}
use Rattle.data_core.specs.Letters.{page_at}
use Rattle.data_core.specs.Turns.{Registers}
use Rattle.data_core.proofs.Admitted.{registers_so}
use Rattle.data_core.proofs.Cases.{taken_free, page_there}
use Rattle.data_core.proofs.News.{tasks_good}
use Rattle.data_core.proofs.NewsOfRun.{child_over, registered_of_run}
use Rattle.data_core.proofs.Sound.{tasks_sound}
use Rattle.data_core.proofs.requests.start_child.Goals as goal

pub returns-clause-sound : goal.returns-clause-sound
returns-clause-sound g c =
    let old = c.args.core.now in
    let live = c.register-outcome.new.self in
    let start = c.args.start.now in
    let free = taken_free old start.place start.request c.requires.admitted in
    let page = ap is_some c.page_in-page.ensures ∙ page_there old.contexts start.request old.clock.ms start.page c.requires.may c.requires.page in
    tasks_sound _ _ _ _ _ _ _ _ _ old live c.requires.sound c.register-outcome.ensures.together c.register-outcome.ensures.core
    (tasks_good _ old.shards old.live live _ _ _ _ c.register-outcome.result c.requires.sound.good c.register-outcome.ensures.entry c.register-outcome.ensures.full c.register-outcome.ensures.err c.requires.place page free.1)

pub returns-clause-of_run : goal.returns-clause-of_run
returns-clause-of_run g c =
    let old = c.args.core.now in
    let live = c.register-outcome.new.self in
    let start = c.args.start.now in
    let run = g.W.Run.setting in
    let context = option_copied c.context_for-context.result in
    let found : context ≡ context_for old.contexts start.request old.clock.ms = subst (λ n. context ≡ context_for old.contexts start.request n) c.now-now.ensures.same c.context_for-context.ensures in
    let over = child_over run start.place (option_copied c.page_in-page.result) context old.contexts start.request old.clock.ms c.requires.pages found (c.page_in-page.ensures ∙ c.requires.page) in
    registered_of_run run _ old.shards old.live live _ _ _ c.register-outcome.result c.requires.of_run c.register-outcome.ensures.entry c.register-outcome.ensures.full c.register-outcome.ensures.err c.requires.asked over
    (taken_free old start.place start.request c.requires.admitted).1

pub returns-clause-registers : goal.returns-clause-registers
returns-clause-registers g c = λ id is.
    let rests = g.B.DataBoard.rests in
    let b = c.args.board.now in
    let old = c.args.core.now in
    let live = c.register-outcome.new.self in
    let d = c.register-outcome.new.board in
    let start = c.args.start.now in
    let context = context_for old.contexts start.request old.clock.ms in
    let found : option_copied c.context_for-context.result ≡ context = subst (λ n. option_copied c.context_for-context.result ≡ context_for old.contexts start.request n) c.now-now.ensures.same c.context_for-context.ensures in
    subst (λ (t : Token). Registers rests (Some t) start.place start.request start.headers (option_map page_at context) context id b old live d) c.into_token.ensures
    (registers_so rests b old live d id (Some c.into_token.result) start.place start.request start.headers (option_map page_at context) context _ c.now-now.result c.now-now.ensures.same (c.register-outcome.ensures.entry id is)
    (refl, refl, refl, c.page_in-page.ensures ∙ c.requires.page, found)
    (c.register-outcome.ensures.placed id is) (c.register-outcome.ensures.task id is).1 (c.register-outcome.ensures.calls id is))
