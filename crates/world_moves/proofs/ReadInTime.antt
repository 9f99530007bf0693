-- What a query read when it ended, and what the past tells of the query child of a shard: the version that it names, or else all that was written before its first turn.
use Rattle.std.proofs.Common.{◌≡◌, ◌≢◌, ◌⊎◌, ◌<◌, ◌+◌, ℕ, Bool, true, false, List, [], ◌∷◌, length, Option, Some, None, refl, sym, ap, subst, ◌∙◌, inl, inr, arith}
use Rattle.std.specs.Prelude.{IsSome, nat_lt, unwrap_or, option_and_then}
use Rattle.std.specs.Option.{option_or}
use Rattle.std.proofs.lemmas.Bool.{ltb-true}
use Rattle.task_ids.specs.declared.task_id.TaskId.{TaskId}
use Rattle.task_ids.specs.declared.cluster.Cluster.{Cluster}
use Rattle.task_ids.specs.declared.corpus.Corpus.{Corpus}
use Rattle.task_ids.specs.declared.doc.Doc.{Doc}
use Rattle.task_events.specs.declared.context.Context.{Context}
use Rattle.task_events.specs.declared.request.Request.{Request}
use Rattle.task_events.specs.declared.request.Request.TheVariants.{Query}
use Rattle.task_events.specs.declared.request.ShardAsk.{ShardAsk}
use Rattle.task_events.specs.declared.reply.Counts.{Counts}
use Rattle.task_events.specs.declared.reply.Reply.{Reply}
use Rattle.task_events.specs.declared.reply.Reply.TheVariants.{Top, Cancelled, Rejected}
use Rattle.task_events.specs.declared.reply.ShardTop.{ShardTop}
use Rattle.task_events.specs.declared.event.Event.{Event}
use Rattle.task_events.specs.declared.event.Event.TheVariants.{Root, Put, Refuse, Work, End}
use Rattle.task_events.specs.declared.step.Do.TheVariants.{Finish}
use Rattle.task_events.specs.Answers.{shard_top}
use Rattle.task_events.specs.Asks.{answer_or, answer_of, rejection_of, request_of_ask}
use Rattle.task_events.specs.Bans.{mark_of}
use Rattle.task_events.specs.Contexts.{page_of}
use Rattle.task_events.specs.Lawful.{Lawful}
use Rattle.task_events.specs.Looking.{is_done, work_or_end}
use Rattle.task_events.specs.QueryTask.{rows_for, query_step}
use Rattle.task_events.specs.Requests.{request_of}
use Rattle.task_events.specs.Same.{same_task}
use Rattle.task_events.specs.ShardOutcomes.{ask_for, answer_for}
use Rattle.task_events.specs.Steps.{counted}
use Rattle.task_events.specs.Tasks.{is_live, has_ended, parent_of, ask_of, child_of, reply_of, last_number}
use Rattle.task_laws.proofs.Asks.{AskFacts, ask_facts}
use Rattle.task_laws.proofs.Content.{answer_facts}
use Rattle.task_laws.proofs.Counts.{is_for}
use Rattle.task_laws.proofs.Same.{same_task_tells, same_pair_tells}
use Rattle.search_phase.specs.Queries.{QueryState, version_at}
use Rattle.script_lang.specs.declared.command.Script.{Script}
use Rattle.command_roots.specs.Roots.{scripted}
use Rattle.world_moves.specs.Good.{so_far}
use Rattle.world_moves.specs.Plain.{AnswersPlainly, EndsPlainly, ReadsInTime, child_for, read_by}
use Rattle.world_moves.proofs.Children.{child_request}

-- ---- the end of a query

is_over : (b : Bool) (reply end : Reply) → work_or_end b reply ≡ Finish end → (b ≡ true) × (end ≡ reply)
is_over true reply end e = (refl, cc)
is_over false reply end e = absurd (cc)

-- it has taken a turn, and the first one fixed its version
pub version_told : (q : QueryState) (writes : List Doc) (end : Reply) → (0 < q.turns → IsSome q.version) → query_step q.ask (version_at q writes) q.turns writes ≡ Finish end
    → (top : ShardTop) × (end ≡ Top top) × (Some top.version ≡ q.version)
version_told q writes end fixed e = (shard_top q.ask (version_at q writes) writes, over.1, of_version q.version (fixed (turned q.turns over.0)))
  where
    much : ℕ
    much = length (rows_for q.ask (version_at q writes) writes)

    over : (is_done q.turns much ≡ true) × (end ≡ Top (shard_top q.ask (version_at q writes) writes))
    over = is_over (is_done q.turns much) (Top (shard_top q.ask (version_at q writes) writes)) end e

    turned : (turns : ℕ) → is_done turns much ≡ true → 0 < turns
    turned turns done = by_test (nat_lt 0 turns) refl
      where
        by_test : (b : Bool) → nat_lt 0 turns ≡ b → 0 < turns
        by_test true some = ltb-true 0 turns some
        by_test false none = absurd (let f : false ≡ true = rw none at done in cc)

    of_version : (o : Option ℕ) → IsSome o → Some (unwrap_or o (length writes)) ≡ o
    of_version (Some version) fixed = refl
    of_version None fixed = absurd (let f : false ≡ true = fixed in cc)

-- ---- the past

-- the ask of a parent for which a task was put
pub put_for : (p : TaskId) (k : ℕ) (o : Option TaskId) (j : ℕ) → is_for p k o j ≡ true → (o ≡ Some p) × (j ≡ k)
put_for p k None j e = absurd (cc)
put_for p k (Some q) j e = by_case (same_pair_tells p k q j)
  where
    by_case : ((is_for p k (Some q) j ≡ true) × (p ≡ q) × (k ≡ j)) ⊎ ((is_for p k (Some q) j ≡ false) × (p ≡ q → k ≢ j)) → (Some q ≡ Some p) × (j ≡ k)
    by_case (inl (is_one, same, number)) = (ap Some (sym same), sym number)
    by_case (inr (differs, apart)) = absurd (let f : false ≡ true = sym differs ∙ e in cc)

-- what is to have the next number of its node has not ended
not_born : (u v : TaskId) (h : List Event) → AskFacts h → u ≡ v → v.number ≡ last_number v.node h + 1 → has_ended u h ≡ true → ⊥
not_born u v h f same next ended =
    let number : u.number ≡ last_number u.node h + 1 = subst (λ w. w.number ≡ last_number w.node h + 1) (sym same) next in
    let unborn = f.unborn_ended u (omega (arith, number)) in
    cc

module _ (cluster : Cluster) (corpus : Corpus) (script : Script) where
  -- what a task with such an ask found was read in time
  abbrev IsInTime : TaskId → ShardAsk → ShardTop → List Event → Type 0
  IsInTime u ask top h = ReadsInTime cluster (so_far corpus script) u ask h (Top top)

  ends_in_time : (u : TaskId) (page : Option Context) (mark : Option ℕ) (counts : Counts) (o : Option Request) (h : List Event) (end : Reply) → EndsPlainly cluster (so_far corpus script) u page mark counts o h end
      → (ask : ShardAsk) (top : ShardTop) → o ≡ Some (Query ask) → end ≡ Top top → IsInTime u ask top h
  ends_in_time u page (Some c) counts o h end x ask top is_query is_top = absurd (let f : Top top ≡ Cancelled u c counts = sym is_top ∙ x in cc)
  ends_in_time u page None counts o h end x ask top is_query is_top =
      subst (λ reply. ReadsInTime cluster (so_far corpus script) u ask h reply) is_top (subst (λ q. EndsPlainly cluster (so_far corpus script) u page None counts q h end) is_query x)

  -- a query that has ended read in time: no turn of it comes after its end
  ended_in_time : (u : TaskId) (ask : ShardAsk) (top : ShardTop) (h : List Event) → Lawful cluster h → AnswersPlainly cluster corpus script h → reply_of u h ≡ Some (Top top) → request_of (scripted script) u h ≡ Some (Query ask) → IsInTime u ask top h
  ended_in_time u ask top [] l p told is_query = absurd (cc)
  ended_in_time u ask top (Root k v ∷ h) l p told is_query = by_case (same_task_tells u v) (ended_in_time u ask top h l.1 p told)
    where
      by_case : ((same_task u v ≡ true) × (u ≡ v)) ⊎ ((same_task u v ≡ false) × (u ≢ v)) → (request_of (scripted script) u h ≡ Some (Query ask) → IsInTime u ask top h) → IsInTime u ask top h
      by_case (inl (is_one, same)) before = absurd (not_born u v h (ask_facts cluster h l.1) same l.0.takes.next ((answer_facts cluster h l.1).reply_ended u (Top top) told))
      by_case (inr (differs, apart)) before = before (rw differs at is_query)
  ended_in_time u ask top (Put v q k ∷ h) l p told is_query = by_case (same_task_tells u v) (ended_in_time u ask top h l.1 p told)
    where
      by_case : ((same_task u v ≡ true) × (u ≡ v)) ⊎ ((same_task u v ≡ false) × (u ≢ v)) → (request_of (scripted script) u h ≡ Some (Query ask) → IsInTime u ask top h) → IsInTime u ask top h
      by_case (inl (is_one, same)) before = absurd (not_born u v h (ask_facts cluster h l.1) same l.0.takes.next ((answer_facts cluster h l.1).reply_ended u (Top top) told))
      by_case (inr (differs, apart)) before = before (rw differs at is_query)
  ended_in_time u ask top (Refuse v c ∷ h) l p told is_query = by_case (same_task_tells u v) (λ before. ended_in_time u ask top h l.1 p before is_query)
    where
      by_case : ((same_task u v ≡ true) × (u ≡ v)) ⊎ ((same_task u v ≡ false) × (u ≢ v)) → (reply_of u h ≡ Some (Top top) → IsInTime u ask top h) → IsInTime u ask top h
      by_case (inl (is_one, same)) before = absurd (let f = rw is_one at told in cc)
      by_case (inr (differs, apart)) before = before (rw differs at told)
  ended_in_time u ask top (Work v ∷ h) l p told is_query = by_case (same_task_tells u v) (ended_in_time u ask top h l.1 p told is_query)
    where
      by_case : ((same_task u v ≡ true) × (u ≡ v)) ⊎ ((same_task u v ≡ false) × (u ≢ v)) → IsInTime u ask top h → IsInTime u ask top (Work v ∷ h)
      by_case (inl (is_one, same)) before =
          let ended = (answer_facts cluster h l.1).reply_ended u (Top top) told in
          let live : is_live u h ≡ true = ap (λ w. is_live w h) same ∙ l.0.goes_on.live in
          let going = (ask_facts cluster h l.1).live_or_ended u live in
          absurd (cc)
      by_case (inr (differs, apart)) before = rw differs before
  ended_in_time u ask top (End v reply ∷ h) l p told is_query = by_case (same_task_tells u v) (λ before. ended_in_time u ask top h l.1 p.1 before is_query)
    where
      by_case : ((same_task u v ≡ true) × (u ≡ v)) ⊎ ((same_task u v ≡ false) × (u ≢ v)) → (reply_of u h ≡ Some (Top top) → IsInTime u ask top h) → IsInTime u ask top h
      by_case (inl (is_one, same)) before =
          let replied = rw is_one at told in
          let query : request_of (scripted script) v h ≡ Some (Query ask) = ap (λ w. request_of (scripted script) w h) (sym same) ∙ is_query in
          subst (λ w. IsInTime w ask top h) (sym same)
          (ends_in_time v (page_of (scripted script) v h) (mark_of v h) (counted cluster corpus (scripted script) v h) (request_of (scripted script) v h) h reply p.0 ask top query (cc))
      by_case (inr (differs, apart)) before = before (rw differs at told)
  ended_in_time u ask top (_ ∷ h) l p told is_query = ended_in_time u ask top h l.1 p told is_query

  module _ (t : TaskId) (h : List Event) (lawful : Lawful cluster h) (plain : AnswersPlainly cluster corpus script h) (ask : ShardAsk) (top : ShardTop) where
    -- the version that a child read, where there is one
    abbrev read : Option TaskId → Option ℕ
    read child = option_and_then (λ u. read_by cluster (so_far corpus script) ask.index ask.shard u h) child

    -- the child of an ask that found this has read in time
    child_in_time : (k : ℕ) → request_of_ask t k h ≡ Some (Query ask) → answer_of t k h ≡ Some (Top top) → Some top.version ≡ option_or ask.version (read (child_of t k h))
    child_in_time k asked found = by_answer (rejection_of t k h) (child_of t k h) refl found
      where
        by_answer : (rejected : Option ℕ) (child : Option TaskId) → child_of t k h ≡ child → answer_or rejected (option_and_then (λ u. reply_of u h) child) ≡ Some (Top top) → Some top.version ≡ option_or ask.version (read child)
        by_answer (Some n) child is e = absurd (let f : Some (Rejected n) ≡ Some (Top top) = e in cc)
        by_answer None None is e = absurd (cc)
        by_answer None (Some u) is e =
            let put = put_for t k (parent_of u h) (ask_of u h) ((ask_facts cluster h lawful).child_knows t k u is) in
            let request = child_request cluster (scripted script) u t h lawful put.0 ∙ ap (λ j. request_of_ask t j h) put.1 ∙ asked in
            ended_in_time u ask top h lawful plain e request

    -- and so has the child that was asked for such a thing
    pub found_in_time : (test : Request → Bool) (k : ℕ) → ask_for test t h ≡ Some k → request_of_ask t k h ≡ Some (Query ask) → answer_for test t h ≡ Some (Top top) → Some top.version ≡ option_or ask.version (read (child_for test t h))
    found_in_time test k is asked found =
        child_in_time k asked (sym (ap (option_and_then (λ j. answer_of t j h)) is) ∙ found)
        ∙ ap (λ o. option_or ask.version (read (option_and_then (λ j. child_of t j h) o))) (sym is)
