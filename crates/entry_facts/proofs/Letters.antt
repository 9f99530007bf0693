-- The letters of a live task tell plainly: what it asks for, and with what it ends.
use Rattle.std.proofs.Common.{◌≡◌, ℕ, List, Option, Some, None, refl, sym, subst}
use Rattle.task_ids.specs.declared.doc.Doc.{Doc}
use Rattle.task_events.specs.declared.request.Request.{Request}
use Rattle.task_events.specs.declared.step.Do.TheVariants.{AskNext}
use Rattle.task_work.specs.Works.{next_of, place_of}
use Rattle.node_link.specs.declared.body.Asked.{Asked}
use Rattle.data_parts.specs.Endings.{reply_of}
use Rattle.data_parts.specs.Places.{child_place}
use Rattle.data_parts.specs.declared.ending.Ending.{Ending}
use Rattle.data_parts.specs.declared.ending.Ending.TheVariants.{Refused, Marked, Finished}
use Rattle.held_shards.specs.declared.HeldShards.{HeldShards}
use Rattle.live_tasks.specs.declared.entry.Entry.{Entry}
use Rattle.reply_facts.specs.Letters.{IsAnswerAt, IsAskOf}
use Rattle.reply_facts.specs.Settings.{Setting}
use Rattle.work_facts.proofs.Asks.{asks_so}
use Rattle.work_facts.proofs.Replies.{end_tells, finish_tells}
use Rattle.entry_facts.specs.Entries.{AreSteady, EndsByPlan, IsEntryOfRun, writes_for}
use Rattle.entry_facts.proofs.Shards.{over_lines}

module _ (run : Setting) (held : HeldShards) (e : Entry) (h : IsEntryOfRun run held e) (now : ℕ) where
  abbrev rows : List Doc
  rows = writes_for held (place_of e.running.work)

  -- the letter that asks for a child
  pub ask_tells : (a : Asked) (request : Request) → a.place ≡ child_place e.place request → a.request ≡ request → next_of e.running.work rows now ≡ AskNext request → IsAskOf run a
  ask_tells a request at is plan =
      let child = asks_so run e.place (child_place e.place request) refl e.running.work rows now request h.work.keeps plan in
      subst (λ p. IsAskOf run (record a { place = p })) (sym at)
      (subst (λ r. IsAskOf run (record a { place = child_place e.place request; request = r })) (sym is) (record { request = child.request_is; page = child.page_is }))

  -- the letters of its end
  pub ending_tells : (ending : Ending) (mark : Option ℕ) → AreSteady run held → EndsByPlan (next_of e.running.work rows now) ending → IsAnswerAt run e.place e.request e.page (reply_of e.running.ticket.id ending mark e.running.work)
  ending_tells (Refused cancel) mark steady plan = end_tells run e.place e.request h.asked e.page h.shown _ _ refl
  ending_tells (Marked cancel) mark steady plan = end_tells run e.place e.request h.asked e.page h.shown _ _ refl
  ending_tells (Finished reply) (Some cancel) steady plan = end_tells run e.place e.request h.asked e.page h.shown _ _ refl
  ending_tells (Finished reply) None steady plan =
      finish_tells run e.place rows now e.running.ticket.id e.page e.running.work e.request h.asked h.shown reply h.work (over_lines run held e.place e.running.work steady h.on) plan
