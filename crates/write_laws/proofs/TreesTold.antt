-- Each task that was to write tells what its tree has written.
use Rattle.std.proofs.Common.{◌≡◌, true, not, List, Some, refl, ap, ◌∙◌}
use Rattle.task_ids.specs.declared.cluster.Cluster.{Cluster}
use Rattle.task_ids.specs.declared.corpus.Corpus.{Corpus}
use Rattle.task_events.specs.declared.event.Event.{Event}
use Rattle.task_events.specs.declared.request.Request.{Request}
use Rattle.task_events.specs.declared.request.Request.TheVariants.{Search, Query, Fetch, Scroll, Reindex, Slice, Bulk, BulkShard}
use Rattle.task_events.specs.Lawful.{Lawful}
use Rattle.task_events.specs.Requests.{request_of}
use Rattle.task_events.specs.Written.{is_created}
use Rattle.script_lang.specs.declared.command.Script.{Script}
use Rattle.command_roots.specs.Roots.{scripted}
use Rattle.world_moves.specs.Plain.{AnswersPlainly}
use Rattle.write_laws.specs.KindsAsked.{KeepsToKinds}
use Rattle.write_laws.specs.TreeWrites.{CountsItsWrites, is_to_write}
use Rattle.write_laws.proofs.Plainly.{plainly_tells}
use Rattle.write_laws.proofs.RepliesCount.{replies_tell}
use Rattle.write_laws.proofs.Tells.{created_number, updated_number, telling_asked}

-- what is to write tells what it has written
writer_tells : (request : Request) → is_to_write request ≡ true → telling_asked (Some request) ≡ true
writer_tells (Search ask) w = refl
writer_tells (Scroll ask) w = refl
writer_tells (Reindex ask) w = refl
writer_tells (Slice ask) w = refl
writer_tells (Bulk ask) w = refl
writer_tells (BulkShard ask) w = refl
writer_tells (Query ask) w = w
writer_tells (Fetch ask) w = w

pub trees_told : (cluster : Cluster) (corpus : Corpus) (script : Script) (h : List Event) → Lawful cluster h → AnswersPlainly cluster corpus script h → KeepsToKinds (scripted script) h → CountsItsWrites script h
trees_told cluster corpus script h l plain keeps t request reply asked writes replied =
    let tells = plainly_tells cluster corpus script h plain in
    let telling : telling_asked (request_of (scripted script) t h) ≡ true = ap telling_asked asked ∙ writer_tells request writes in
    record {
      created = replies_tell cluster corpus (scripted script) is_created (λ counts. counts.created) created_number h l keeps tells t reply replied telling;
      updated = replies_tell cluster corpus (scripted script) (λ outcome. not (is_created outcome)) (λ counts. counts.updated) updated_number h l keeps tells t reply replied telling;
    }
