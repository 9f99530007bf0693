-- What work does next, by its state: where it asks it may, where it takes a turn it works on a shard, and where it ends its reply is lawful. And what of this stays from step to step.
use Rattle.std.proofs.Common.{◌≡◌, ℕ, ◌+◌, Bool, true, false, cond, ◌&&◌, List, [], ◌∷◌, ◌++◌, map, Option, Some, None, refl, sym, ap, ◌∙◌, subst, arith}
use Rattle.std.specs.Prelude.{◌==◌, nat_lt, nat_le, is_some, option_map, slice_get}
use Rattle.std.proofs.lemmas.Bool.Decides.{nat_tests}
use Rattle.std.proofs.lemmas.Option.{slice_get_within}
use Rattle.std.proofs.lemmas.List.{length-map}
use Rattle.task_ids.specs.declared.task_id.TaskId.{TaskId}
use Rattle.task_ids.specs.declared.doc.Doc.{Doc}
use Rattle.task_events.specs.declared.context.Context.{Context}
use Rattle.task_events.specs.declared.request.Request.{Request}
use Rattle.task_events.specs.declared.request.Request.TheVariants as asks
use Rattle.task_events.specs.declared.request.Request.TheVariants.{Slice, BulkShard}
use Rattle.task_events.specs.declared.reply.Reply.{Reply}
use Rattle.task_events.specs.declared.reply.Reply.TheVariants.{Wrote}
use Rattle.task_events.specs.declared.step.Asked.{Asked}
use Rattle.task_events.specs.declared.step.Do.{Do}
use Rattle.task_events.specs.declared.step.Do.TheVariants.{AskNext, Turn, Wait, Finish}
use Rattle.task_events.specs.Looking.{work_or_end}
use Rattle.task_events.specs.SearchTask.{ask_or_end}
use Rattle.task_events.specs.Slicing.{slice_if, slice_at}
use Rattle.node_link.specs.Lawful.{IsLawfulReply}
use Rattle.search_phase.specs.Searching.{wants_to_ask, has_ended, is_above, answered_by, next_step}
use Rattle.reindex.specs.declared.phase.Phase.{Phase}
use Rattle.reindex.specs.declared.phase.Phase.TheVariants.{First, Reads, Holds, Writes, Rests, Over}
use Rattle.reindex.specs.declared.root.ReindexRoot.{ReindexRoot}
use Rattle.reindex.specs.declared.root.ReindexRoot.TheVariants.{Alone, Cut}
use Rattle.reindex.specs.Bulks.{Bulking, bulk_next, bulk_may_ask}
use Rattle.reindex.specs.Roots.{Cutting, cut_next, cut_may_ask}
use Rattle.reindex.specs.RootWork.{root_next, root_may_ask}
use Rattle.reindex.specs.Slices.{Slicing, next_in, may_ask_in}
use Rattle.task_events.specs.SliceTask.{page_from, later_page}
use Rattle.task_work.specs.declared.work.Work.{Work}
use Rattle.task_work.specs.declared.work.Work.TheVariants as works
use Rattle.task_work.specs.Works.{IsNewWork, next_of, place_of, can_ask, work_with_ask, work_with_answer, HasTurned}
use Rattle.task_work.proofs.Steps.{asking_asks, asking_ends, working_asks, working_ends}
use Rattle.data_parts.specs.Steps.{HasLawfulReplies, AsksBelow, IsLawfulAnswered}
use Rattle.data_parts.proofs.Replies.{all-push, answered_all, search_lawful}

-- ---- kinds of steps

abbrev takes : Do → Bool
takes Turn = true
takes (AskNext request) = false
takes (Wait until) = false
takes (Finish reply) = false

clash : {A : Type 0} → false ≡ true → A
clash e = absurd (let f : false ≡ true = e in cc)

-- ---- a step that asks, or ends once all are answered, takes no turn

module _ (answered : Bool) (end : Reply) where
  asking_turns : {A : Type 0} (o : Option Request) → ask_or_end o answered end ≡ Turn → A
  asking_turns (Some asked) e = clash (ap takes e)
  asking_turns None e = clash (by answered (ap takes e))
    where
      by : (b : Bool) → takes (ask_or_end None b end) ≡ true → false ≡ true
      by true f = f
      by false f = f

-- ---- a slice

abbrev pages : Slicing → ℕ → ℕ → Bool → Do
pages s until now asks_left = cond asks_left (page_from s.task s.context until now) (Wait None)

page_steps : (task : TaskId) (context : Option TaskId) (until now : ℕ) → (has_ended (page_from task context until now) ≡ false) × (takes (page_from task context until now) ≡ false)
page_steps task None until now = (refl, refl)
page_steps task (Some context) until now = by (nat_le until now)
  where
    by : (b : Bool) → (has_ended (cond b (AskNext (later_page task context)) (Wait (Some until))) ≡ false) × (takes (cond b (AskNext (later_page task context)) (Wait (Some until))) ≡ false)
    by true = (refl, refl)
    by false = (refl, refl)

module _ (s : Slicing) (now : ℕ) where
  rests : (until : ℕ) (b : Bool) → (has_ended (pages s until now b) ≡ false) × (takes (pages s until now b) ≡ false)
  rests until true = page_steps s.task s.context until now
  rests until false = (refl, refl)

  slice_ends : (allowed : ℕ → Type 0) (phase : Phase) (reply : Reply) → next_in s now phase ≡ Finish reply → IsLawfulReply allowed reply
  slice_ends allowed First reply e = clash (ap has_ended e)
  slice_ends allowed (Reads ask) reply e = clash (ap has_ended e)
  slice_ends allowed (Holds docs came) reply e = clash (ap has_ended e)
  slice_ends allowed (Writes ask docs came) reply e = clash (ap has_ended e)
  slice_ends allowed (Rests until) reply e = clash (sym (rests until (nat_lt s.made 2000000)).0 ∙ ap has_ended e)
  slice_ends allowed Over reply e =
      let f : Finish (Wrote s.counts) ≡ Finish reply = e in
      let g : Wrote s.counts ≡ reply = cc in
      subst (IsLawfulReply allowed) g tt

  slice_turns : {A : Type 0} (phase : Phase) → next_in s now phase ≡ Turn → A
  slice_turns First e = clash (ap takes e)
  slice_turns (Reads ask) e = clash (ap takes e)
  slice_turns (Holds docs came) e = clash (ap takes e)
  slice_turns (Writes ask docs came) e = clash (ap takes e)
  slice_turns (Rests until) e = clash (sym (rests until (nat_lt s.made 2000000)).1 ∙ ap takes e)
  slice_turns Over e = clash (ap takes e)

  slice_asks : (phase : Phase) (request : Request) → next_in s now phase ≡ AskNext request → may_ask_in s.made phase ≡ true
  slice_asks First request e = refl
  slice_asks (Reads ask) request e = clash (ap wants_to_ask e)
  slice_asks (Holds docs came) request e = refl
  slice_asks (Writes ask docs came) request e = clash (ap wants_to_ask e)
  slice_asks (Rests until) request e = by (nat_lt s.made 2000000) refl e
    where
      by : (b : Bool) → nat_lt s.made 2000000 ≡ b → pages s until now b ≡ AskNext request → nat_lt s.made 2000000 ≡ true
      by true is f = is
      by false is f = clash (ap wants_to_ask f)
  slice_asks Over request e = clash (ap wants_to_ask e)

-- ---- a reindex that is cut, and a bulk

cut_asks : (c : Cutting) (request : Request) → cut_next c ≡ AskNext request → cut_may_ask c ≡ true
cut_asks c request e = by (nat_lt c.made c.ask.slices) refl (asking_asks (option_map Slice (slice_at c.ask c.made)) _ _ request e)
  where
    by : (b : Bool) (is : nat_lt c.made c.ask.slices ≡ b) → option_map Slice (slice_if c.ask c.made b is) ≡ Some request → nat_lt c.made c.ask.slices ≡ true
    by true is f = is
    by false is f = clash (ap is_some f)

bulk_asks : (b : Bulking) (request : Request) → bulk_next b ≡ AskNext request → bulk_may_ask b ≡ true
bulk_asks b request e =
    let within = slice_get_within (map BulkShard b.parts) b.made request (asking_asks (slice_get (map BulkShard b.parts) b.made) _ _ request e) in
    grind (arith, nat_tests, within, length-map b.parts BulkShard)

-- ---- any work

module _ (allowed : ℕ → Type 0) (writes : List Doc) (now : ℕ) where
  root_ends : (r : ReindexRoot) (reply : Reply) → root_next r now ≡ Finish reply → IsLawfulReply allowed reply
  root_ends (Alone s) reply e = slice_ends s now allowed s.phase reply e
  root_ends (Cut c) reply e = subst (IsLawfulReply allowed) (asking_ends (option_map Slice (slice_at c.ask c.made)) _ _ reply e) tt

  -- a reply is one that a letter may tell
  pub lawful_end : (w : Work) (reply : Reply) → HasLawfulReplies allowed w → next_of w writes now ≡ Finish reply → IsLawfulReply allowed reply
  lawful_end (works.Search s) reply all e = subst (IsLawfulReply allowed) (asking_ends _ _ _ reply e) (search_lawful allowed s.reading s.asked all)
  lawful_end (works.Scroll s) reply all e = subst (IsLawfulReply allowed) (asking_ends _ _ _ reply e) (search_lawful allowed s.reading s.asked all)
  lawful_end (works.Query q top) reply all e = subst (IsLawfulReply allowed) (working_ends _ _ reply e) tt
  lawful_end (works.Fetch f hits) reply all e = subst (IsLawfulReply allowed) (working_ends _ _ reply e) tt
  lawful_end (works.Reindex r) reply all e = root_ends r reply e
  lawful_end (works.Slice s) reply all e = slice_ends s now allowed s.phase reply e
  lawful_end (works.Bulk b) reply all e = subst (IsLawfulReply allowed) (asking_ends _ _ _ reply e) tt
  lawful_end (works.BulkShard w) reply all e = subst (IsLawfulReply allowed) (working_ends _ _ reply e) tt

module _ (writes : List Doc) (now : ℕ) where
  -- where it asks for a child, it may
  pub may_ask : (w : Work) (request : Request) (next : ℕ) → AsksBelow next w → next_of w writes now ≡ AskNext request → can_ask w next ≡ true
  may_ask (works.Search s) request next below e = let asks : wants_to_ask (next_step s) ≡ true = ap wants_to_ask e in rw (asks, below) refl
  may_ask (works.Scroll s) request next below e = let asks : wants_to_ask (next_step s) ≡ true = ap wants_to_ask e in rw (asks, below) refl
  may_ask (works.Query q top) request next below e = absurd (working_asks _ _ request e)
  may_ask (works.Fetch f hits) request next below e = absurd (working_asks _ _ request e)
  may_ask (works.Reindex r) request next below e = root_asks r e
    where
      root_asks : (r : ReindexRoot) → root_next r now ≡ AskNext request → root_may_ask r ≡ true
      root_asks (Alone s) f = slice_asks s now s.phase request f
      root_asks (Cut c) f = cut_asks c request f
  may_ask (works.Slice s) request next below e = slice_asks s now s.phase request e
  may_ask (works.Bulk b) request next below e = bulk_asks b request e
  may_ask (works.BulkShard w) request next below e = absurd (working_asks _ _ request e)

  -- where it takes a turn, it works on a shard
  pub turn_place : (w : Work) → next_of w writes now ≡ Turn → is_some (place_of w) ≡ true
  turn_place (works.Search s) e = asking_turns _ _ _ e
  turn_place (works.Scroll s) e = asking_turns _ _ _ e
  turn_place (works.Query q top) e = refl
  turn_place (works.Fetch f hits) e = refl
  turn_place (works.Reindex r) e = root_turns r e
    where
      root_turns : {A : Type 0} (r : ReindexRoot) → root_next r now ≡ Turn → A
      root_turns (Alone s) f = slice_turns s now s.phase f
      root_turns (Cut c) f = asking_turns _ _ _ f
  turn_place (works.Slice s) e = slice_turns s now s.phase e
  turn_place (works.Bulk b) e = asking_turns _ _ _ e
  turn_place (works.BulkShard w) e = refl

-- ---- what stays of a search's answers and of its asks

the_work : (v w : Work) → Some v ≡ Some w → v ≡ w
the_work v w e = cc

no_work : {A : Type 0} (w : Work) → ◌≡◌ {A = Option Work} None (Some w) → A
no_work w e = clash (ap is_some e)

module _ (allowed : ℕ → Type 0) where
  pub new_replies : (id : TaskId) (request : Request) (shards : ℕ) (context : Option Context) (w : Work) → IsNewWork id request shards context w → HasLawfulReplies allowed w
  new_replies id (asks.Search ask) shards context w is = subst (HasLawfulReplies allowed) (the_work _ w is) tt
  new_replies id (asks.Query ask) shards context w is = subst (HasLawfulReplies allowed) (the_work _ w is) tt
  new_replies id (asks.Fetch ask) shards context w is = subst (HasLawfulReplies allowed) (the_work _ w is) tt
  new_replies id (asks.Scroll ask) shards (Some c) w is = subst (HasLawfulReplies allowed) (the_work _ w is) tt
  new_replies id (asks.Scroll ask) shards None w is = no_work w is
  new_replies id (asks.Bulk ask) shards context w is = subst (HasLawfulReplies allowed) (the_work _ w is) tt
  new_replies id (asks.BulkShard ask) shards context w is = subst (HasLawfulReplies allowed) (the_work _ w is) tt
  new_replies id (asks.Reindex ask) shards context (works.Reindex r) is = tt
  new_replies id (asks.Reindex ask) shards context _ is = absurd is
  new_replies id (asks.Slice ask) shards context (works.Slice s) is = tt
  new_replies id (asks.Slice ask) shards context _ is = absurd is

  pub asked_replies : (w : Work) (ask : ℕ) → HasLawfulReplies allowed w → HasLawfulReplies allowed (work_with_ask w ask)
  asked_replies (works.Search s) ask all = all-push (IsLawfulAnswered allowed) s.asked _ all tt
  asked_replies (works.Scroll s) ask all = all-push (IsLawfulAnswered allowed) s.asked _ all tt
  asked_replies (works.Query q top) ask all = tt
  asked_replies (works.Fetch f hits) ask all = tt
  asked_replies (works.Reindex r) ask all = tt
  asked_replies (works.Slice s) ask all = tt
  asked_replies (works.Bulk b) ask all = tt
  asked_replies (works.BulkShard w) ask all = tt

  pub answered_replies : (w : Work) (ask : ℕ) (reply : Reply) (now : ℕ) → IsLawfulReply allowed reply → HasLawfulReplies allowed w → HasLawfulReplies allowed (work_with_answer w ask reply now)
  answered_replies (works.Search s) ask reply now lawful all = answered_all allowed ask reply lawful s.asked all
  answered_replies (works.Scroll s) ask reply now lawful all = answered_all allowed ask reply lawful s.asked all
  answered_replies (works.Query q top) ask reply now lawful all = tt
  answered_replies (works.Fetch f hits) ask reply now lawful all = tt
  answered_replies (works.Reindex r) ask reply now lawful all = tt
  answered_replies (works.Slice s) ask reply now lawful all = tt
  answered_replies (works.Bulk b) ask reply now lawful all = tt
  answered_replies (works.BulkShard w) ask reply now lawful all = tt

  pub turned_replies : (before : Work) (writes : List Doc) (after : Work) → HasTurned before writes after → HasLawfulReplies allowed after
  turned_replies (works.Query q top) writes (works.Query r found) turned = tt
  turned_replies (works.Query q top) writes _ turned = absurd turned
  turned_replies (works.Fetch f hits) writes (works.Fetch g found) turned = tt
  turned_replies (works.Fetch f hits) writes _ turned = absurd turned
  turned_replies (works.BulkShard w) writes (works.BulkShard v) turned = tt
  turned_replies (works.BulkShard w) writes _ turned = absurd turned
  turned_replies (works.Search s) writes after turned = absurd turned
  turned_replies (works.Scroll s) writes after turned = absurd turned
  turned_replies (works.Reindex r) writes after turned = absurd turned
  turned_replies (works.Slice s) writes after turned = absurd turned
  turned_replies (works.Bulk b) writes after turned = absurd turned

-- ---- the numbers of a search's asks

both_true : (a b : Bool) → (a && b) ≡ true → (a ≡ true) × (b ≡ true)
both_true true b e = (refl, e)
both_true false b e = clash e

above_more : (n : ℕ) (asked : List Asked) → is_above n asked ≡ true → is_above (n + 1) (asked ++ record { ask = n; answer = None } ∷ []) ≡ true
above_more n [] e = let low : nat_lt n (n + 1) ≡ true = grind (arith, nat_tests) in rw low refl
above_more n (a ∷ later) e =
    let both = both_true (nat_lt a.ask n) (is_above n later) e in
    let low : nat_lt a.ask (n + 1) ≡ true = grind (arith, nat_tests, both.0) in
    rw low (above_more n later both.1)

above_answered : (n ask : ℕ) (reply : Reply) (asked : List Asked) → is_above n (map (answered_by ask reply) asked) ≡ is_above n asked
above_answered n ask reply [] = refl
above_answered n ask reply (a ∷ later) = rw (by (a.ask == ask), above_answered n ask reply later) refl
  where
    by : (b : Bool) → nat_lt (cond b (record a { answer = Some reply }) a).ask n ≡ nat_lt a.ask n
    by true = refl
    by false = refl

pub new_below : (next : ℕ) (id : TaskId) (request : Request) (shards : ℕ) (context : Option Context) (w : Work) → IsNewWork id request shards context w → AsksBelow next w
new_below next id (asks.Search ask) shards context w is = subst (AsksBelow next) (the_work _ w is) refl
new_below next id (asks.Query ask) shards context w is = subst (AsksBelow next) (the_work _ w is) tt
new_below next id (asks.Fetch ask) shards context w is = subst (AsksBelow next) (the_work _ w is) tt
new_below next id (asks.Scroll ask) shards (Some c) w is = subst (AsksBelow next) (the_work _ w is) refl
new_below next id (asks.Scroll ask) shards None w is = no_work w is
new_below next id (asks.Bulk ask) shards context w is = subst (AsksBelow next) (the_work _ w is) tt
new_below next id (asks.BulkShard ask) shards context w is = subst (AsksBelow next) (the_work _ w is) tt
new_below next id (asks.Reindex ask) shards context (works.Reindex r) is = tt
new_below next id (asks.Reindex ask) shards context _ is = absurd is
new_below next id (asks.Slice ask) shards context (works.Slice s) is = tt
new_below next id (asks.Slice ask) shards context _ is = absurd is

pub asked_below : (w : Work) (next : ℕ) → AsksBelow next w → AsksBelow (next + 1) (work_with_ask w next)
asked_below (works.Search s) next below = above_more next s.asked below
asked_below (works.Scroll s) next below = above_more next s.asked below
asked_below (works.Query q top) next below = tt
asked_below (works.Fetch f hits) next below = tt
asked_below (works.Reindex r) next below = tt
asked_below (works.Slice s) next below = tt
asked_below (works.Bulk b) next below = tt
asked_below (works.BulkShard w) next below = tt

pub answered_below : (w : Work) (next ask : ℕ) (reply : Reply) (now : ℕ) → AsksBelow next w → AsksBelow next (work_with_answer w ask reply now)
answered_below (works.Search s) next ask reply now below = above_answered next ask reply s.asked ∙ below
answered_below (works.Scroll s) next ask reply now below = above_answered next ask reply s.asked ∙ below
answered_below (works.Query q top) next ask reply now below = tt
answered_below (works.Fetch f hits) next ask reply now below = tt
answered_below (works.Reindex r) next ask reply now below = tt
answered_below (works.Slice s) next ask reply now below = tt
answered_below (works.Bulk b) next ask reply now below = tt
answered_below (works.BulkShard w) next ask reply now below = tt

pub turned_below : (before : Work) (writes : List Doc) (after : Work) (next : ℕ) → HasTurned before writes after → AsksBelow next after
turned_below (works.Query q top) writes (works.Query r found) next turned = tt
turned_below (works.Query q top) writes _ next turned = absurd turned
turned_below (works.Fetch f hits) writes (works.Fetch g found) next turned = tt
turned_below (works.Fetch f hits) writes _ next turned = absurd turned
turned_below (works.BulkShard w) writes (works.BulkShard v) next turned = tt
turned_below (works.BulkShard w) writes _ next turned = absurd turned
turned_below (works.Search s) writes after next turned = absurd turned
turned_below (works.Scroll s) writes after next turned = absurd turned
turned_below (works.Reindex r) writes after next turned = absurd turned
turned_below (works.Slice s) writes after next turned = absurd turned
turned_below (works.Bulk b) writes after next turned = absurd turned
