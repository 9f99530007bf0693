-- What a slice of a reindex shows of its work: it asks for its pages and bulks one after the other, and for contexts of its own alone.
use Rattle.std.proofs.Common.{◌≡◌, ◌⊎◌, ◌<◌, ◌≤◌, ℕ, zero, suc, ◌+◌, ◌-◌, ◌*◌, ◌/◌, Bool, true, false, cond, List, [], ◌∷◌, ◌++◌, length, map, get_or, Option, Some, None, refl, sym, ap, subst, ◌∙◌, inl, inr, arith, length-set}
use Rattle.std.specs.Prelude.{⊤, ◌&&◌, ◌==◌, is_some, nat_le, nat_lt, not, option_map, option_and_then, slice_get, slice_set}
use Rattle.std.specs.List.{range_with_len}
use Rattle.std.proofs.lemmas.Bool.Decides.{nat_tests}
use Rattle.std.proofs.lemmas.Bool.{eqb-true}
use native.Mathlib.Nat.{div-le_self, mul-le-mul}
use Rattle.throttle.specs.Waits.{per_second, wait_at, wait_of}
use Rattle.task_ids.specs.declared.cluster.Cluster.{Cluster}
use Rattle.task_ids.specs.declared.corpus.Corpus.{Corpus}
use Rattle.task_ids.specs.declared.doc.Doc.{Doc}
use Rattle.task_ids.specs.declared.task_id.TaskId.{TaskId}
use Rattle.task_events.specs.declared.reply.Reply.{Reply}
use Rattle.task_events.specs.declared.reply.Reply.TheVariants.{Search, Top, Hits, AllFailed, Wrote, Cancelled, Rejected}
use Rattle.task_events.specs.declared.reply.SearchReply.{SearchReply}
use Rattle.task_events.specs.declared.request.ReindexAsk.{ReindexAsk}
use Rattle.task_events.specs.declared.request.Request.{Request}
use Rattle.task_events.specs.declared.request.Request.TheVariants as asks
use Rattle.task_events.specs.declared.request.SearchAsk.{SearchAsk}
use Rattle.task_events.specs.declared.step.Asked.{Asked}
use Rattle.task_events.specs.declared.step.Do.{Do}
use Rattle.task_events.specs.declared.step.Do.TheVariants.{AskNext, Turn, Wait, Finish}
use Rattle.task_events.specs.Counting.{is_batch}
use Rattle.task_events.specs.Kinds.{can_have}
use Rattle.task_events.specs.Searches.{are_answered}
use Rattle.task_events.specs.SliceTask.{first_page, later_page, page_from, context_in, answer_at, docs_on, is_clean, most_asks}
use Rattle.task_events.specs.Steps.{with_answer}
use Rattle.reindex.specs.declared.phase.Phase.{Phase}
use Rattle.reindex.specs.declared.phase.Phase.TheVariants.{First, Reads, Holds, Writes, Rests, Over}
use Rattle.reindex.specs.SliceFields.{in_hand}
use Rattle.reindex.specs.SliceRuns.{IsSliceAt, IsPhaseAt, newest_answer}
use Rattle.reindex.specs.Slices.{Slicing, next_in, slice_next, slice_may_ask, slice_with_ask, takes_in, slice_takes, page_asked, phase_with, phase_after, context_after, slice_with_answer, is_open}
use Rattle.reindex.proofs.SliceFed.{slice_fed}
use Rattle.reindex.proofs.SliceRuns.{slice_follows, slice_asked, slice_may_ask_when, slice_may_take, slice_answered, slice_settled}
use Rattle.search_phase.proofs.Sorting.{by_test}
use Rattle.task_work.specs.declared.work.Work.TheVariants as works
use Rattle.task_work.specs.Works.{does_wait, due_in}
use Rattle.world_moves.specs.Facts.{none_awaited}
use Rattle.world_moves.specs.Good.{IsWithin}
use Rattle.world_moves.specs.Owning.{IsOwnSearch}
use Rattle.world_moves.specs.ReindexRuns.{SlicesFor, HasContext, RestsShortly}
use Rattle.world_moves.proofs.AsksKept.{awaited_long, knows_more, knows_answer}
use Rattle.world_moves.proofs.KindLaws.{AsksOwn, HasOpened}
use Rattle.world_moves.proofs.NoneAwaited.{all_answered}
use Rattle.world_moves.proofs.SearchLaws.{all_known}
use Rattle.reindex.proofs.StillSound.{asked_sound}

-- ---- what it does next, by how far it has come

-- a later page is asked for, or waited for
page_cases : (P : Do → Type 0) (t : TaskId) (o : Option TaskId) (due now : ℕ) → (o ≡ None → P (Wait None)) → ((id : TaskId) → o ≡ Some id → P (AskNext (later_page t id))) → P (Wait (Some due)) → P (page_from t o due now)
page_cases P t None due now none asks waits = none refl
page_cases P t (Some id) due now none asks waits = of_test (nat_le due now)
  where
    of_test : (b : Bool) → P (cond b (AskNext (later_page t id)) (Wait (Some due)))
    of_test true = asks id refl
    of_test false = waits

-- where asks are left
rests_cases : (P : Do → Type 0) (s : Slicing) (due now : ℕ) → (nat_lt s.made 2000000 ≡ false → P (Wait None)) → (nat_lt s.made 2000000 ≡ true → s.context ≡ None → P (Wait None))
    → ((id : TaskId) → s.context ≡ Some id → P (AskNext (later_page s.task id))) → P (Wait (Some due)) → P (next_in s now (Rests due))
rests_cases P s due now spent none asks waits = of_test (nat_lt s.made 2000000) refl
  where
    of_test : (b : Bool) → nat_lt s.made 2000000 ≡ b → P (cond b (page_from s.task s.context due now) (Wait None))
    of_test true e = page_cases P s.task s.context due now (none e) asks waits
    of_test false e = spent e

-- what it asks for is its first page, a bulk of the documents in hand, or a page of its context
asks_what : (P : Request → Type 0) (s : Slicing) (now : ℕ) (phase : Phase) (r : Request) → next_in s now phase ≡ AskNext r → (phase ≡ First → P (asks.Search s.first))
    → ((docs : List Doc) (came : ℕ) → phase ≡ Holds docs came → P (asks.Bulk (record { dest = s.dest; docs = docs }))) → ((due : ℕ) (id : TaskId) → phase ≡ Rests due → s.context ≡ Some id → P (later_page s.task id)) → P r
asks_what P s now First r e first bulk later = subst P (let same : asks.Search s.first ≡ r = cc in same) (first refl)
asks_what P s now (Holds docs came) r e first bulk later = subst P (let same : asks.Bulk (record { dest = s.dest; docs = docs }) ≡ r = cc in same) (bulk docs came refl)
asks_what P s now (Rests due) r e first bulk later =
    rests_cases (λ d. d ≡ AskNext r → P r) s due now (λ spent f. absurd (cc)) (λ left none f. absurd (cc))
    (λ id at f. subst P (let same : later_page s.task id ≡ r = cc in same) (later due id refl at)) (λ f. absurd (cc)) e
asks_what P s now (Reads ask) r e first bulk later = absurd (cc)
asks_what P s now (Writes ask docs came) r e first bulk later = absurd (cc)
asks_what P s now Over r e first bulk later = absurd (cc)

never_turns_in : (s : Slicing) (now : ℕ) (phase : Phase) → next_in s now phase ≡ Turn → ⊥
never_turns_in s now First e = cc
never_turns_in s now (Reads ask) e = cc
never_turns_in s now (Holds docs came) e = cc
never_turns_in s now (Writes ask docs came) e = cc
never_turns_in s now (Rests due) e = rests_cases (λ d. d ≡ Turn → ⊥) s due now (λ spent f. cc) (λ left none f. cc) (λ id at f. cc) (λ f. cc) e
never_turns_in s now Over e = cc

-- who asks waits for no answer
asks_settled : (s : Slicing) (now : ℕ) (phase : Phase) (r : Request) → next_in s now phase ≡ AskNext r → is_open phase ≡ false
asks_settled s now First r e = refl
asks_settled s now (Holds docs came) r e = refl
asks_settled s now (Rests due) r e = refl
asks_settled s now (Reads ask) r e = absurd (cc)
asks_settled s now (Writes ask docs came) r e = absurd (cc)
asks_settled s now Over r e = absurd (cc)

-- and takes none
takes_none : (s : Slicing) (phase : Phase) (j : ℕ) (reply : Reply) → is_open phase ≡ false → takes_in s j reply phase ≡ true → ⊥
takes_none s First j reply shut e = cc
takes_none s (Holds docs came) j reply shut e = cc
takes_none s (Rests due) j reply shut e = cc
takes_none s Over j reply shut e = cc
takes_none s (Reads ask) j reply shut e = cc
takes_none s (Writes ask docs came) j reply shut e = cc

both : (a b : Bool) → (a && b) ≡ true → (a ≡ true) × (b ≡ true)
both true true e = (refl, refl)
both true false e = absurd (cc)
both false b e = absurd (cc)

-- it waits for one answer
one_open : (s : Slicing) (phase : Phase) (j k : ℕ) (other reply : Reply) → takes_in s j other phase ≡ true → takes_in s k reply phase ≡ true → j ≡ k
one_open s (Reads ask) j k other reply e f = let mine = both _ _ e in let its = both _ _ f in sym (eqb-true ask j mine.0) ∙ eqb-true ask k its.0
one_open s (Writes ask docs came) j k other reply e f = let mine = both _ _ e in let its = both _ _ f in sym (eqb-true ask j mine.0) ∙ eqb-true ask k its.0
one_open s First j k other reply e f = absurd (cc)
one_open s (Holds docs came) j k other reply e f = absurd (cc)
one_open s (Rests due) j k other reply e f = absurd (cc)
one_open s Over j k other reply e f = absurd (cc)

-- its end tells its counts
ends_with : (s : Slicing) (now : ℕ) (phase : Phase) (end : Reply) → next_in s now phase ≡ Finish end → (is_open phase ≡ false) × (end ≡ Wrote s.counts)
ends_with s now Over end e = (refl, let same : Wrote s.counts ≡ end = cc in sym same)
ends_with s now First end e = absurd (cc)
ends_with s now (Reads ask) end e = absurd (cc)
ends_with s now (Holds docs came) end e = absurd (cc)
ends_with s now (Writes ask docs came) end e = absurd (cc)
ends_with s now (Rests due) end e = absurd (rests_cases (λ d. d ≡ Finish end → ⊥) s due now (λ spent f. cc) (λ left none f. cc) (λ id at f. cc) (λ f. cc) e)

-- ---- how long it waits

wait_low : (rate : Option ℕ) (batch slices spent : ℕ) → batch ≤ 10000 → slices ≤ 32 → wait_at rate batch slices spent ≤ 320000000
wait_low None batch slices spent few cut = omega arith
wait_low (Some rate) batch slices spent few cut =
    let most : 1000 * batch ≤ 10000000 = omega arith in
    let whole : 1000 * batch * slices ≤ 10000000 * 32 = mul-le-mul most cut in
    let part : 1000 * batch * slices / rate ≤ 1000 * batch * slices = div-le_self (1000 * batch * slices) rate in
    omega (arith, whole, part)

set_last : (came : List ℕ) (i now : ℕ) → 1 + i ≡ length came → get_or (slice_set came i now) (length (slice_set came i now) - 1) 0 ≡ now
set_last [] i now e = absurd (omega (arith, e))
set_last (m ∷ []) zero now e = refl
set_last (m ∷ n ∷ came) zero now e = absurd (omega (arith, e))
set_last (m ∷ []) (suc i) now e = absurd (omega (arith, e))
set_last (m ∷ n ∷ came) (suc i) now e =
    let rest = set_last (n ∷ came) i now (omega (arith, e)) in
    let many : length (slice_set (n ∷ came) i now) ≡ length (n ∷ came) = length-set (n ∷ came) i now in
    let place : length (m ∷ slice_set (n ∷ came) i now) - 1 ≡ suc (length (slice_set (n ∷ came) i now) - 1) = omega (arith, many) in
    ap (λ k. get_or (m ∷ slice_set (n ∷ came) i now) k 0) place ∙ rest

-- ---- its work

module _ (cluster : Cluster) (corpus : Corpus) (t : TaskId) (ask : ReindexAsk) (slice : ℕ) (asked : List Asked) (came : List ℕ) (requests : List Request) (awaited : List (Option ℕ)) (s : Slicing)
    (x : SlicesFor cluster.shards t ask slice asked came requests awaited s) where
  long : length awaited ≡ length asked
  long = awaited_long asked awaited x.knows.answered

  settled : is_open s.phase ≡ false → none_awaited awaited ≡ true
  settled shut = all_answered asked awaited x.knows.answered (slice_settled x.here ∙ ap not shut)

  pub never_turns : (now : ℕ) → slice_next s now ≡ Turn → ⊥
  never_turns now e = never_turns_in s now s.phase e

  pub none_left_so : (now : ℕ) (end : Reply) → slice_next s now ≡ Finish end → none_awaited awaited ≡ true
  none_left_so now end e = settled (ends_with s now s.phase end e).0

  pub ends_so : (now : ℕ) (end : Reply) → slice_next s now ≡ Finish end → end ≡ Wrote s.counts
  ends_so now end e = (ends_with s now s.phase end e).1

  -- where all is answered it waits for a moment at most
  pub moves_so : length asked < most_asks → (now : ℕ) → none_awaited awaited ≡ true → does_wait (slice_next s now) ≡ is_some (due_in (slice_next s now))
  unfolding most_asks
  moves_so few now none = of_phase s.phase refl x.opened
    where
      answered : are_answered asked ≡ true
      answered = all_known asked awaited x.knows.answered none

      shut : is_open s.phase ≡ true → ⊥
      shut open_yet = let f : false ≡ true = sym (ap not open_yet) ∙ sym (slice_settled x.here) ∙ answered in cc

      left : nat_lt s.made 2000000 ≡ false → ⊥
      left spent = let made = x.here.made_is in let f : nat_lt s.made 2000000 ≡ true = grind (arith, nat_tests) in cc

      of_phase : (phase : Phase) → s.phase ≡ phase → HasContext s.made s.context phase → does_wait (next_in s now phase) ≡ is_some (due_in (next_in s now phase))
      of_phase First e opened = refl
      of_phase (Reads k) e opened = absurd (shut (ap is_open e))
      of_phase (Holds docs moment) e opened = refl
      of_phase (Writes k docs moment) e opened = absurd (shut (ap is_open e))
      of_phase (Rests due) e opened =
          rests_cases (λ d. does_wait d ≡ is_some (due_in d)) s due now (λ spent. absurd (left spent)) (λ some none. absurd (let f : false ≡ true = ap is_some (sym none) ∙ opened in cc)) (λ id at. refl) refl
      of_phase Over e opened = refl

  -- ---- an ask

  module _ (now : ℕ) (r : Request) (e : slice_next s now ≡ AskNext r) where
    shut : is_open s.phase ≡ false
    shut = asks_settled s now s.phase r e

    pub few_asks : length awaited + 1 < 4294967296
    unfolding most_asks
    few_asks = let few = x.here.few in omega (arith, long, few)

    pub may_so : slice_may_ask s ≡ true
    may_so = slice_may_ask_when s r now e

    pub within_so : IsWithin cluster corpus r
    within_so = asks_what (IsWithin cluster corpus) s now s.phase r e (λ first. x.sound.batch_in_range) (λ docs moment is. subst (λ p. in_hand p ≤ 10000) is x.sound.docs) (λ due id is at. tt)

    -- the context that its first page opened
    opened_first : (id : TaskId) → s.context ≡ Some id → HasOpened t asked requests id
    opened_first id at = of_asked asked requests x.here.numbered x.first (sym x.here.context_is ∙ at)
      where
        its_search : SearchAsk → Type 0
        its_search a = (asks.Search a ≡ first_page t ask slice cluster.shards) × (a.owner ≡ Some t)

        of_reply : (a : Asked) (list : List Asked) (rs : List Request) → a.ask ≡ 1 → slice_get rs 0 ≡ Some (first_page t ask slice cluster.shards) → (reply : Option Reply) → a.answer ≡ reply → option_and_then context_in reply ≡ Some id → HasOpened t (a ∷ list) rs id
        of_reply a list rs number at (Some (Search found)) is named = record { place = 0; ask = _; found = found; requested = at; own = refl; answered = λ i. Some (record { ask = number i; answer = is i }); named = named }
        of_reply a list rs number at None is named = absurd (cc)
        of_reply a list rs number at (Some (Top top)) is named = absurd (cc)
        of_reply a list rs number at (Some (Hits hits)) is named = absurd (cc)
        of_reply a list rs number at (Some (AllFailed failed)) is named = absurd (cc)
        of_reply a list rs number at (Some (Wrote counts)) is named = absurd (cc)
        of_reply a list rs number at (Some (Cancelled task cancel counts)) is named = absurd (cc)
        of_reply a list rs number at (Some (Rejected node)) is named = absurd (cc)

        of_asked : (list : List Asked) (rs : List Request) → map (λ a. a.ask) list ≡ range_with_len 1 (length list) → slice_get rs 0 ≡ option_map (λ a. first_page t ask slice cluster.shards) (slice_get list 0) → option_and_then context_in (answer_at list 0) ≡ Some id → HasOpened t list rs id
        of_asked [] rs numbered at named = absurd (cc)
        of_asked (a ∷ list) rs numbered at named = of_reply a list rs (cc) at a.answer refl named

    pub owns_so : AsksOwn t asked requests awaited r
    owns_so = asks_what (AsksOwn t asked requests awaited) s now s.phase r e first (λ docs moment is. tt)
        (λ due id is at. (ap Some x.here.task_is, refl, settled shut, opened_first id at))
      where
        first : s.phase ≡ First → IsOwnSearch t s.first
        first is = of_page s.first x.here.first_is
          where
            of_page : (a : SearchAsk) → asks.Search a ≡ first_page t ask slice cluster.shards → IsOwnSearch t a
            of_page a same =
                let low = ask.batch_in_range.0 in
                subst (λ q. of_request q) (sym same) (record { own = refl; no_keep = refl; from = refl; some = grind (arith, nat_tests) })
              where
                of_request : Request → Type 0
                of_request (asks.Search b) = IsOwnSearch t b
                of_request _ = ⊤

    -- its first ask is for its first page
    first_more : slice_get (requests ++ r ∷ []) 0 ≡ option_map (λ a. first_page t ask slice cluster.shards) (slice_get (asked ++ record { ask = length awaited + 1; answer = None } ∷ []) 0)
    first_more = of_lists asked requests x.knows.as_many x.first refl
      where
        of_lists : (list : List Asked) (rs : List Request) → length rs ≡ length list → slice_get rs 0 ≡ option_map (λ a. first_page t ask slice cluster.shards) (slice_get list 0) → asked ≡ list
            → slice_get (rs ++ r ∷ []) 0 ≡ option_map (λ a. first_page t ask slice cluster.shards) (slice_get (list ++ record { ask = length awaited + 1; answer = None } ∷ []) 0)
        of_lists [] [] many at is =
            let step : AskNext (first_page t ask slice cluster.shards) ≡ AskNext r = rw is at (slice_follows x.here now ∙ e) in
            let same : first_page t ask slice cluster.shards ≡ r = cc in
            ap Some (sym same)
        of_lists [] (q ∷ rs) many at is = absurd (cc)
        of_lists (a ∷ list) [] many at is = absurd (cc)
        of_lists (a ∷ list) (q ∷ rs) many at is = at

    pub after_so : (n : ℕ) → SlicesFor cluster.shards t ask slice (asked ++ record { ask = length awaited + 1; answer = None } ∷ []) (came ++ 0 ∷ []) (requests ++ r ∷ []) (awaited ++ Some n ∷ []) (slice_with_ask s (length awaited + 1))
    after_so n = record {
      here = subst (λ k. IsSliceAt t ask slice cluster.shards (asked ++ record { ask = k + 1; answer = None } ∷ []) (came ++ 0 ∷ []) (slice_with_ask s (k + 1))) (sym long) (slice_asked x.here r now e);
      sound = asked_sound s (length awaited + 1) x.sound may_so;
      knows = knows_more cluster.shards (slice_takes (slice_with_ask s (length awaited + 1))) r n (slice_takes s) asked requests awaited (length awaited + 1) x.knows (λ j reply took. absurd (takes_none s s.phase j reply shut took)) may_take;
      first = first_more;
      opened = opened_asked s.phase refl x.opened x.here.phase_is;
      rests = rests_asked s.phase refl x.rests;
    }
      where
        may_take : (reply : Reply) → can_have cluster.shards r reply ≡ true → slice_takes (slice_with_ask s (length awaited + 1)) (1 + length asked) reply ≡ true
        may_take reply can =
            let number : 1 + length asked ≡ length asked + 1 = omega arith in
            ap (λ k. slice_takes (slice_with_ask s (k + 1)) (1 + length asked) reply) long
            ∙ ap (λ k. slice_takes (slice_with_ask s (length asked + 1)) k reply) number
            ∙ slice_may_take x.here r now e reply can

        opened_asked : (phase : Phase) → s.phase ≡ phase → HasContext s.made s.context phase → IsPhaseAt ask asked came phase → HasContext (s.made + 1) s.context (phase_with phase (length awaited + 1))
        opened_asked First is opened none = let made = x.here.made_is in let empty : length asked ≡ 0 = ap length none in inl (omega (arith, made, empty))
        opened_asked (Rests until) is opened here = inr opened
        opened_asked (Holds docs moment) is opened here = opened
        opened_asked (Reads k) is opened here = absurd (let f : true ≡ false = sym (ap is_open is) ∙ shut in cc)
        opened_asked (Writes k docs moment) is opened here = opened
        opened_asked Over is opened here = tt

        rests_asked : (phase : Phase) → s.phase ≡ phase → RestsShortly came phase → RestsShortly (came ++ 0 ∷ []) (phase_with phase (length awaited + 1))
        rests_asked First is rests = tt
        rests_asked (Rests until) is rests = tt
        rests_asked (Holds docs moment) is rests = tt
        rests_asked (Reads k) is rests = tt
        rests_asked (Writes k docs moment) is rests = tt
        rests_asked Over is rests = tt

  -- ---- an answer

  module _ (i : ℕ) (reply : Reply) (now : ℕ) (took : slice_takes s (1 + i) reply ≡ true) where
    pub answered_so : (answer : Option Reply) → answer ≡ Some reply → SlicesFor cluster.shards t ask slice (map (with_answer (1 + i) answer) asked) (slice_set came i now) requests (slice_set awaited i None) (slice_with_answer s (1 + i) reply now)
    answered_so answer known = subst (λ o. SlicesFor cluster.shards t ask slice (map (with_answer (1 + i) o) asked) (slice_set came i now) requests (slice_set awaited i None) (slice_with_answer s (1 + i) reply now)) (sym known) (record {
      here = subst (λ k. IsSliceAt t ask slice cluster.shards (map (with_answer (1 + i) (Some reply)) asked) (slice_set came k now) (slice_with_answer s (1 + i) reply now)) place (slice_answered x.here (1 + i) reply now took);
      sound = slice_fed s (1 + i) reply now x.sound took;
      knows = knows_answer cluster.shards (slice_takes s) (slice_takes (slice_with_answer s (1 + i) reply now)) asked requests awaited x.knows x.here.numbered i reply
          (λ j other takes apart. absurd (apart (one_open s s.phase j (1 + i) other reply takes took)));
      first = x.first ∙ first_alike asked;
      opened = opened_answered s.phase refl took x.opened x.here.phase_is;
      rests = rests_answered s.phase refl took x.here.phase_is;
    })
      where
        place : 1 + i - 1 ≡ i
        place = omega arith

        -- the page with which its context is opened names it
        names_it : s.made ≡ 1 → newest_answer asked ≡ None → (found : SearchReply) → can_have s.shards (page_asked s s.context) (Search found) ≡ true → is_some found.context ≡ true
        names_it one open_yet found can =
            let made = x.here.made_is in
            let newest : length asked - 1 ≡ 0 = omega (arith, made, one) in
            let none : s.context ≡ None = x.here.context_is ∙ ap (option_and_then context_in) (sym (ap (answer_at asked) newest) ∙ open_yet) in
            of_first s.first x.here.first_is (sym (ap (λ c. can_have s.shards (page_asked s c) (Search found)) none) ∙ can)
          where
            of_ask : Request → Type 0
            of_ask (asks.Search b) = can_have s.shards (asks.Search b) (Search found) ≡ true → is_some found.context ≡ true
            of_ask _ = ⊤

            of_first : (a : SearchAsk) → asks.Search a ≡ first_page t ask slice cluster.shards → can_have s.shards (asks.Search a) (Search found) ≡ true → is_some found.context ≡ true
            of_first a same = subst of_ask (sym same) (λ can. by_test (is_some found.context) (λ yes. yes) (λ no. absurd (let f : false ≡ true = rw no at can in cc)))

        of_page : (k : ℕ) (r : Reply) → (s.made ≡ 1) ⊎ (is_some s.context ≡ true) → newest_answer asked ≡ None → can_have s.shards (page_asked s s.context) r ≡ true → (b : Bool) → is_batch r ≡ b
            → HasContext s.made (context_after s.made s.context r) (cond b (Holds (docs_on r) now) Over)
        of_page k r known open_yet can false e = tt
        of_page k (Search found) known open_yet can true e = by_first (s.made == 1) refl
          where
            by_first : (b : Bool) → (s.made == 1) ≡ b → is_some (cond b found.context s.context) ≡ true
            by_first true one = names_it (eqb-true s.made 1 one) open_yet found can
            by_first false more = of_known known
              where
                of_known : (s.made ≡ 1) ⊎ (is_some s.context ≡ true) → is_some s.context ≡ true
                of_known (inl one) = absurd (let f : (s.made == 1) ≡ true = grind (arith, nat_tests) in let g : true ≡ false = sym f ∙ more in cc)
                of_known (inr some) = some
        of_page k (Top top) known open_yet can true e = absurd (cc)
        of_page k (Hits hits) known open_yet can true e = absurd (cc)
        of_page k (AllFailed failed) known open_yet can true e = absurd (cc)
        of_page k (Wrote counts) known open_yet can true e = absurd (cc)
        of_page k (Cancelled task cancel counts) known open_yet can true e = absurd (cc)
        of_page k (Rejected node) known open_yet can true e = absurd (cc)

        of_bulk : is_some s.context ≡ true → 2 ≤ s.made → (docs moment : ℕ) (b : Bool) → HasContext s.made (context_after s.made s.context reply) (cond b (Rests (now + wait_of docs s.slices s.rate (now - moment))) Over)
        of_bulk some many docs moment false = tt
        of_bulk some many docs moment true = let later : (s.made == 1) ≡ false = grind (arith, nat_tests) in rw later some

        opened_answered : (phase : Phase) → s.phase ≡ phase → takes_in s (1 + i) reply phase ≡ true → HasContext s.made s.context phase → IsPhaseAt ask asked came phase → HasContext s.made (context_after s.made s.context reply) (phase_after s.slices s.rate phase reply now)
        opened_answered (Reads k) is takes known here = of_page k reply known here.open_yet (both _ _ takes).1 (is_batch reply) refl
        opened_answered (Writes k docs moment) is takes known here = let made = x.here.made_is in let many = here.some in of_bulk known (omega (arith, made, many)) docs moment (is_clean reply)
        opened_answered First is takes known here = absurd (cc)
        opened_answered (Holds docs moment) is takes known here = absurd (cc)
        opened_answered (Rests until) is takes known here = absurd (cc)
        opened_answered Over is takes known here = absurd (cc)

        first_alike : (list : List Asked) → option_map (λ a. first_page t ask slice cluster.shards) (slice_get list 0) ≡ option_map (λ a. first_page t ask slice cluster.shards) (slice_get (map (with_answer (1 + i) (Some reply)) list) 0)
        first_alike [] = refl
        first_alike (a ∷ list) = refl

        waits_so : (docs moment : ℕ) → docs ≤ 10000 → 1 + i ≡ length came → (b : Bool) → RestsShortly (slice_set came i now) (cond b (Rests (now + wait_of docs s.slices s.rate (now - moment))) Over)
        waits_so docs moment few newest false = tt
        waits_so docs moment few newest true = let low = wait_low (per_second s.rate) docs s.slices (now - moment) few x.sound.slices_in_range in let last = set_last came i now newest in omega (arith, low, last)

        no_rest : (k : ℕ) (b : Bool) → RestsShortly (slice_set came i now) (cond b (Holds (docs_on reply) now) Over)
        no_rest k true = tt
        no_rest k false = tt

        rests_answered : (phase : Phase) → s.phase ≡ phase → takes_in s (1 + i) reply phase ≡ true → IsPhaseAt ask asked came phase → RestsShortly (slice_set came i now) (phase_after s.slices s.rate phase reply now)
        rests_answered (Reads k) is takes here = no_rest k (is_batch reply)
        rests_answered (Writes k docs moment) is takes here =
            let number : k ≡ 1 + i = eqb-true k (1 + i) (both _ _ takes).0 in
            let newest = here.ask_is in
            let moments = x.here.moments in
            waits_so docs moment (subst (λ p. in_hand p ≤ 10000) is x.sound.docs) (omega (arith, number, newest, moments)) (is_clean reply)
        rests_answered First is takes here = absurd (cc)
        rests_answered (Holds docs moment) is takes here = absurd (cc)
        rests_answered (Rests until) is takes here = absurd (cc)
        rests_answered Over is takes here = absurd (cc)

  -- ---- the moment for which it waits

  pub due_so : (now due : ℕ) → due_in (slice_next s now) ≡ Some due → due ≤ get_or came (length came - 1) 0 + 320000000
  due_so now due e = of_phase s.phase x.rests e
    where
      of_phase : (phase : Phase) → RestsShortly came phase → due_in (next_in s now phase) ≡ Some due → due ≤ get_or came (length came - 1) 0 + 320000000
      of_phase (Rests until) rests is =
          rests_cases (λ d. due_in d ≡ Some due → due ≤ get_or came (length came - 1) 0 + 320000000) s until now (λ spent f. absurd (cc)) (λ left none f. absurd (cc)) (λ id at f. absurd (cc))
          (λ f. let same : until ≡ due = cc in subst (λ n. n ≤ get_or came (length came - 1) 0 + 320000000) same rests) is
      of_phase First rests is = absurd (cc)
      of_phase (Reads k) rests is = absurd (cc)
      of_phase (Holds docs moment) rests is = absurd (cc)
      of_phase (Writes k docs moment) rests is = absurd (cc)
      of_phase Over rests is = absurd (cc)
