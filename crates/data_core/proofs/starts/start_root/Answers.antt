-- A root that is registered is one that a core may keep.
use Rattle.std.proofs.Common.{None, refl, ap, ◌∙◌}
use Rattle.std.specs.Prelude.{is_some, option_copied}
use Rattle.reply_facts.specs.Letters.{context_of_start}
use Rattle.data_core.proofs.Admitted.{registers_so}
use Rattle.data_core.proofs.Cases.{taken_free}
use Rattle.data_core.proofs.News.{tasks_good}
use Rattle.data_core.proofs.NewsOfRun.{registered_of_run, root_over}
use Rattle.data_core.proofs.Sound.{tasks_sound}
use Rattle.data_core.proofs.starts.start_root.Goals as goal

pub returns-clause-sound : goal.returns-clause-sound
returns-clause-sound g c =
    let old = c.args.core.now in
    let live = c.register-outcome.new.self in
    let start = c.args.start.now in
    let free = taken_free old start.place start.request c.requires.admitted in
    let page = ap is_some c.page_in-page.ensures ∙ c.requires.lawful.page in
    tasks_sound _ _ _ _ _ _ _ _ _ old live c.requires.sound c.register-outcome.ensures.together c.register-outcome.ensures.core
    (tasks_good _ old.shards old.live live _ _ _ _ c.register-outcome.result c.requires.sound.good c.register-outcome.ensures.entry c.register-outcome.ensures.full c.register-outcome.ensures.err c.requires.lawful.place page free.1)

pub returns-clause-of_run : goal.returns-clause-of_run
returns-clause-of_run g c =
    let old = c.args.core.now in
    let live = c.register-outcome.new.self in
    let start = c.args.start.now in
    let run = g.W.Run.setting in
    let over = root_over run start (option_copied c.page_in-page.result) _ c.requires.tells c.page_in-page.ensures (c.as_ref-context.ensures.value ∙ c.in_ok-held.ensures.context) in
    registered_of_run run _ old.shards old.live live _ _ _ c.register-outcome.result c.requires.of_run c.register-outcome.ensures.entry c.register-outcome.ensures.full c.register-outcome.ensures.err c.requires.tells.request over
    (taken_free old start.place start.request c.requires.admitted).1

pub returns-clause-registers : goal.returns-clause-registers
returns-clause-registers g c = λ id is.
    let old = c.args.core.now in
    let start = c.args.start.now in
    registers_so g.B.DataBoard.rests c.args.board.now old c.register-outcome.new.self c.register-outcome.new.board id None start.place start.request start.headers start.page (context_of_start start.request start.page) _ c.now-now.result c.now-now.ensures.same
    (c.register-outcome.ensures.entry id is) (refl, refl, refl, c.page_in-page.ensures, c.as_ref-context.ensures.value ∙ c.in_ok-held.ensures.context)
    (c.register-outcome.ensures.placed id is) (c.register-outcome.ensures.task id is).1 (c.register-outcome.ensures.calls id is)
