-- What is known of work and its shard stays, where the work goes on and where more is written to the shard.
use Rattle.std.proofs.Common.{◌≡◌, ℕ, List, [], ◌++◌, Option, Some, None, refl, sym, ap, subst}
use Rattle.std.specs.Prelude.{IfSome, is_some}
use Rattle.std.specs.Option.{option_or}
use Rattle.task_ids.specs.declared.task_id.TaskId.{TaskId}
use Rattle.task_ids.specs.declared.doc.Doc.{Doc}
use Rattle.task_events.specs.declared.context.Context.{Context}
use Rattle.task_events.specs.declared.request.Request.{Request}
use Rattle.task_events.specs.declared.request.Request.TheVariants as asks
use Rattle.task_events.specs.declared.reply.Reply.{Reply}
use Rattle.task_events.specs.Kind.{Progress}
use Rattle.task_events.specs.Kinds.{kind_of}
use Rattle.task_work.specs.declared.work.Work.{Work}
use Rattle.task_work.specs.declared.work.Work.TheVariants as works
use Rattle.task_work.specs.Reads.{ReadsWithin}
use Rattle.task_work.specs.Works.{IsNewWork, IsWorkOn, place_of, docs_next, with_turn, work_with_ask, work_with_answer, HasTurned, HasLost}
use Rattle.task_work.proofs.Growing.{work_grown, within_grown, within_turned}
use Rattle.data_parts.specs.Steps.{HasCome, ReadsHeld}

-- ---- the place

pub asked_place : (w : Work) (ask : ℕ) → place_of (work_with_ask w ask) ≡ place_of w
asked_place (works.Search s) ask = refl
asked_place (works.Scroll s) ask = refl
asked_place (works.Query q top) ask = refl
asked_place (works.Fetch f hits) ask = refl
asked_place (works.Reindex r) ask = refl
asked_place (works.Slice s) ask = refl
asked_place (works.Bulk b) ask = refl
asked_place (works.BulkShard w) ask = refl

pub answered_place : (w : Work) (ask : ℕ) (reply : Reply) (now : ℕ) → place_of (work_with_answer w ask reply now) ≡ place_of w
answered_place (works.Search s) ask reply now = refl
answered_place (works.Scroll s) ask reply now = refl
answered_place (works.Query q top) ask reply now = refl
answered_place (works.Fetch f hits) ask reply now = refl
answered_place (works.Reindex r) ask reply now = refl
answered_place (works.Slice s) ask reply now = refl
answered_place (works.Bulk b) ask reply now = refl
answered_place (works.BulkShard w) ask reply now = refl

pub turned_place : (before : Work) (writes : List Doc) (after : Work) → HasTurned before writes after → place_of after ≡ place_of before
turned_place (works.Query q top) writes (works.Query r found) turned = ap (λ ask. Some (ask.index, ask.shard)) turned.0.same_ask
turned_place (works.Query q top) writes _ turned = absurd turned
turned_place (works.Fetch f hits) writes (works.Fetch g found) turned = ap (λ ask. Some (ask.index, ask.shard)) turned.0.same_ask
turned_place (works.Fetch f hits) writes _ turned = absurd turned
turned_place (works.BulkShard w) writes (works.BulkShard v) turned = ap (λ x. Some (x.index, x.shard)) turned
turned_place (works.BulkShard w) writes _ turned = absurd turned
turned_place (works.Search s) writes after turned = absurd turned
turned_place (works.Scroll s) writes after turned = absurd turned
turned_place (works.Reindex r) writes after turned = absurd turned
turned_place (works.Slice s) writes after turned = absurd turned
turned_place (works.Bulk b) writes after turned = absurd turned

pub lost_place : (before after : Work) → HasLost before after → place_of after ≡ place_of before
lost_place (works.BulkShard w) (works.BulkShard v) lost = ap (λ x. Some (x.index, x.shard)) lost.1
lost_place (works.BulkShard w) _ lost = ap place_of lost
lost_place (works.Query q top) after lost = ap place_of lost
lost_place (works.Fetch f hits) after lost = ap place_of lost
lost_place (works.Search s) after lost = ap place_of lost
lost_place (works.Scroll s) after lost = ap place_of lost
lost_place (works.Reindex r) after lost = ap place_of lost
lost_place (works.Slice s) after lost = ap place_of lost
lost_place (works.Bulk b) after lost = ap place_of lost

the_work : (v w : Work) → Some v ≡ Some w → v ≡ w
the_work v w e = cc

pub new_place : (id : TaskId) (request : Request) (shards : ℕ) (context : Option Context) (w : Work) → IsNewWork id request shards context w → place_of w ≡ (kind_of request).place
new_place id (asks.Search ask) shards context w is = sym (ap place_of (the_work _ w is))
new_place id (asks.Query ask) shards context w is = sym (ap place_of (the_work _ w is))
new_place id (asks.Fetch ask) shards context w is = sym (ap place_of (the_work _ w is))
new_place id (asks.Scroll ask) shards (Some c) w is = sym (ap place_of (the_work _ w is))
new_place id (asks.Scroll ask) shards None w is = absurd (let f = ap is_some is in cc)
new_place id (asks.Bulk ask) shards context w is = sym (ap place_of (the_work _ w is))
new_place id (asks.BulkShard ask) shards context w is = sym (ap place_of (the_work _ w is))
new_place id (asks.Reindex ask) shards context (works.Reindex r) is = refl
new_place id (asks.Reindex ask) shards context _ is = absurd is
new_place id (asks.Slice ask) shards context (works.Slice s) is = refl
new_place id (asks.Slice ask) shards context _ is = absurd is

-- ---- how far it has come

pub new_within : (id : TaskId) (request : Request) (shards : ℕ) (context : Option Context) (w : Work) (writes : List Doc) → IsNewWork id request shards context w → ReadsHeld writes request → ReadsWithin writes w
new_within id (asks.Search ask) shards context w writes is held = subst (ReadsWithin writes) (the_work _ w is) tt
new_within id (asks.Query ask) shards context w writes is held = subst (ReadsWithin writes) (the_work _ w is) held
new_within id (asks.Fetch ask) shards context w writes is held = subst (ReadsWithin writes) (the_work _ w is) held
new_within id (asks.Scroll ask) shards (Some c) w writes is held = subst (ReadsWithin writes) (the_work _ w is) tt
new_within id (asks.Scroll ask) shards None w writes is held = absurd (let f = ap is_some is in cc)
new_within id (asks.Bulk ask) shards context w writes is held = subst (ReadsWithin writes) (the_work _ w is) tt
new_within id (asks.BulkShard ask) shards context w writes is held = subst (ReadsWithin writes) (the_work _ w is) tt
new_within id (asks.Reindex ask) shards context (works.Reindex r) writes is held = tt
new_within id (asks.Reindex ask) shards context _ writes is held = absurd is
new_within id (asks.Slice ask) shards context (works.Slice s) writes is held = tt
new_within id (asks.Slice ask) shards context _ writes is held = absurd is

pub asked_come : (w : Work) (ask : ℕ) (writes : List Doc) → HasCome w writes → HasCome (work_with_ask w ask) writes
asked_come (works.Search s) ask writes come = (tt, tt)
asked_come (works.Scroll s) ask writes come = (tt, tt)
asked_come (works.Query q top) ask writes come = come
asked_come (works.Fetch f hits) ask writes come = come
asked_come (works.Reindex r) ask writes come = (tt, tt)
asked_come (works.Slice s) ask writes come = (tt, tt)
asked_come (works.Bulk b) ask writes come = (tt, tt)
asked_come (works.BulkShard w) ask writes come = (tt, tt)

pub answered_come : (w : Work) (ask : ℕ) (reply : Reply) (now : ℕ) (writes : List Doc) → HasCome w writes → HasCome (work_with_answer w ask reply now) writes
answered_come (works.Search s) ask reply now writes come = (tt, tt)
answered_come (works.Scroll s) ask reply now writes come = (tt, tt)
answered_come (works.Query q top) ask reply now writes come = come
answered_come (works.Fetch f hits) ask reply now writes come = come
answered_come (works.Reindex r) ask reply now writes come = (tt, tt)
answered_come (works.Slice s) ask reply now writes come = (tt, tt)
answered_come (works.Bulk b) ask reply now writes come = (tt, tt)
answered_come (works.BulkShard w) ask reply now writes come = (tt, tt)

-- the version is the one that is asked for, where one is
fixed : (o v : Option ℕ) → IfSome o (λ version. v ≡ Some version) → v ≡ option_or o v
fixed None v e = refl
fixed (Some n) v e = e

module _ (task : TaskId) (writes more : List Doc) where
  -- so many turns were taken, over this version
  so_far : ℕ → Option ℕ → Progress
  so_far turns version = record { page = None; asked = []; came = []; turns = turns; version = version; created = 0; updated = 0 }

  pub come_grown : (w : Work) → HasCome w writes → HasCome w (writes ++ more)
  unfolding so_far
  come_grown (works.Query q top) come =
      let at = work_grown task 0 (so_far q.turns q.version) writes more (asks.Query q.ask) (works.Query q top) come.1
      (record { ask_is = refl; turns_are = refl; version_is = fixed q.ask.version q.version come.0.0.version_asked; on = come.0.0 }, come.0.1) in
      ((at.0.on, at.1), within_grown writes more (works.Query q top) come.1)
  come_grown (works.Fetch f hits) come =
      let at = work_grown task 0 (so_far f.turns None) writes more (asks.Fetch f.ask) (works.Fetch f hits) come.1
      (record { ask_is = refl; turns_are = refl; on = come.0.0 }, come.0.1) in
      ((at.0.on, at.1), within_grown writes more (works.Fetch f hits) come.1)
  come_grown (works.Search s) come = (tt, tt)
  come_grown (works.Scroll s) come = (tt, tt)
  come_grown (works.Reindex r) come = (tt, tt)
  come_grown (works.Slice s) come = (tt, tt)
  come_grown (works.Bulk b) come = (tt, tt)
  come_grown (works.BulkShard w) come = (tt, tt)

-- after a turn, of whose shard these are the writes then
pub turned_come : (before after : Work) (writes now : List Doc) → HasCome before writes → now ≡ writes ++ docs_next before → after ≡ with_turn before writes → IsWorkOn after now → HasCome after now
turned_come before after writes now come written turned on =
    (on, subst (λ ws. ReadsWithin ws after) (sym written) (within_grown writes (docs_next before) after (subst (ReadsWithin writes) (sym turned) (within_turned writes before come.1))))

-- after a turn that broke off
pub lost_come : (task : TaskId) (before after : Work) (writes more : List Doc) → HasCome before writes → HasLost before after → HasCome after (writes ++ more)
lost_come task (works.BulkShard w) (works.BulkShard v) writes more come lost = (tt, tt)
lost_come task (works.BulkShard w) _ writes more come lost = subst (λ work. HasCome work (writes ++ more)) (sym lost) (tt, tt)
lost_come task (works.Query q top) after writes more come lost = subst (λ work. HasCome work (writes ++ more)) (sym lost) (come_grown task writes more (works.Query q top) come)
lost_come task (works.Fetch f hits) after writes more come lost = subst (λ work. HasCome work (writes ++ more)) (sym lost) (come_grown task writes more (works.Fetch f hits) come)
lost_come task (works.Search s) after writes more come lost = subst (λ work. HasCome work (writes ++ more)) (sym lost) (tt, tt)
lost_come task (works.Scroll s) after writes more come lost = subst (λ work. HasCome work (writes ++ more)) (sym lost) (tt, tt)
lost_come task (works.Reindex r) after writes more come lost = subst (λ work. HasCome work (writes ++ more)) (sym lost) (tt, tt)
lost_come task (works.Slice s) after writes more come lost = subst (λ work. HasCome work (writes ++ more)) (sym lost) (tt, tt)
lost_come task (works.Bulk b) after writes more come lost = subst (λ work. HasCome work (writes ++ more)) (sym lost) (tt, tt)
