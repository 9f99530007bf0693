-- What a slice and a reindex show of their work. A reindex does the work of its one slice, or asks for several.
use Rattle.std.proofs.Common.{◌≡◌, ◌≢◌, ℕ, ◌+◌, ◌^◌, Bool, true, false, List, [], ◌∷◌, ◌++◌, length, Option, Some, None, refl, sym, ap, subst, ◌∙◌, inl, arith, ltb-true, length-set}
use Rattle.std.specs.Prelude.{nat_lt, option_map}
use Rattle.std.proofs.lemmas.List.{length_push}
use Rattle.std.proofs.lemmas.Bool.Decides.{nat_tests}
use Rattle.task_ids.specs.declared.cluster.Cluster.{Cluster}
use Rattle.task_ids.specs.declared.corpus.Corpus.{Corpus}
use Rattle.task_ids.specs.declared.task_id.TaskId.{TaskId}
use Rattle.task_events.specs.declared.context.Context.{Context}
use Rattle.task_events.specs.declared.reply.Counts.{Counts}
use Rattle.task_events.specs.declared.reply.Reply.{Reply}
use Rattle.task_events.specs.declared.reply.Reply.TheVariants.{Wrote, Cancelled, Rejected}
use Rattle.task_events.specs.declared.request.ReindexAsk.{ReindexAsk}
use Rattle.task_events.specs.declared.request.Request.{Request}
use Rattle.task_events.specs.declared.request.Request.TheVariants as asks
use Rattle.task_events.specs.declared.request.SliceAsk.{SliceAsk}
use Rattle.task_events.specs.declared.step.Do.TheVariants.{AskNext}
use Rattle.task_events.specs.Counting.{are_below}
use Rattle.task_events.specs.Kind.{Progress}
use Rattle.task_events.specs.SearchTask.{ask_or_end}
use Rattle.task_events.specs.Slicing.{slice_at, slice_if}
use Rattle.reindex.specs.declared.root.ReindexRoot.TheVariants.{Alone, Cut}
use Rattle.reindex.specs.Roots.{Cutting, IsCutAt, cut_next, cut_with_ask, cut_takes, cut_with_answer}
use Rattle.reindex.specs.Slices.{Slicing, IsNewSlice, slice_takes}
use Rattle.reindex.specs.OpenAsks.{is_settled}
use Rattle.reindex.proofs.CutRuns.{cut_first, cut_asked, cut_may_ask_when, cut_may_take, cut_answered, cut_low, cut_settled}
use Rattle.reindex.proofs.FedSums.{fed_length}
use Rattle.reindex.proofs.RootLemmas.{cut_fed}
use Rattle.reindex.proofs.SliceFed.{slice_low}
use Rattle.reindex.proofs.SliceRuns.{slice_first}
use Rattle.task_work.specs.declared.work.Work.{Work}
use Rattle.task_work.specs.declared.work.Work.TheVariants as works
use Rattle.task_work.specs.Works.{IsNewWork}
use Rattle.world_moves.specs.Facts.{none_awaited}
use Rattle.world_moves.specs.Good.{IsGoodReply, IsWithin}
use Rattle.world_moves.specs.ReindexRuns.{SlicesFor, CutsFor, RunsSlice, RunsReindex}
use Rattle.world_moves.proofs.AsksKept.{knows_none, awaited_long, knows_more, knows_answer}
use Rattle.world_moves.proofs.KindLaws.{KindLaws, IsPlain}
use Rattle.world_moves.proofs.LookingLaws.{no_docs}
use Rattle.world_moves.proofs.NoneAwaited.{all_answered}
use Rattle.world_moves.proofs.SearchLaws.{all_known, ends_or_asks, no_turn, search_ends}
use Rattle.world_moves.proofs.SliceLaws as slices
use Rattle.reindex.proofs.StillSound.{new_sound, cut_new_sound, cut_asked_sound, cut_takes_after_ask, cut_takes_after_answer}

-- ---- how they start

module _ (cluster : Cluster) (t : TaskId) where
  slice_new : (ask : ReindexAsk) (slice : ℕ) (s : Slicing) → IsNewSlice t ask slice cluster.shards s → SlicesFor cluster.shards t ask slice [] [] [] [] s
  slice_new ask slice s new = record {
    here = slice_first new;
    sound = new_sound t ask slice cluster.shards s new cluster.shards_in_range.1;
    knows = knows_none cluster.shards (slice_takes s);
    first = refl;
    opened = rw new.phase_is tt;
    rests = rw new.phase_is tt;
  }

  pub slice_starts : (page : Option Context) (ask : SliceAsk) (w : Work) → IsNewWork t (asks.Slice ask) cluster.shards page w → RunsSlice cluster.shards t [] [] [] [] ask w
  slice_starts page ask (works.Slice s) new = slice_new ask.reindex ask.slice s new
  slice_starts page ask _ new = absurd new

  pub reindex_starts : (page : Option Context) (ask : ReindexAsk) (w : Work) → IsNewWork t (asks.Reindex ask) cluster.shards page w → RunsReindex cluster.shards t [] [] [] [] ask w
  reindex_starts page ask (works.Reindex (Alone s)) new = (new.0, slice_new ask 0 s new.1)
  reindex_starts page ask (works.Reindex (Cut c)) new = (new.0, record { here = cut_first new.1; moments = refl; sound = cut_new_sound ask c new.1; knows = knows_none cluster.shards (cut_takes c) })
  reindex_starts page ask _ new = absurd new

module _ (cluster : Cluster) (corpus : Corpus) where
  pub slice_rejected : (ask : SliceAsk) (n : ℕ) → IsGoodReply cluster corpus (asks.Slice ask) (Rejected n)
  slice_rejected ask n = (refl, tt)

  pub slice_cancelled : (ask : SliceAsk) (t : TaskId) (c : ℕ) (counts : Counts) → are_below (2 ^ 50) counts ≡ true → IsGoodReply cluster corpus (asks.Slice ask) (Cancelled t c counts)
  slice_cancelled ask t c counts low = (low, tt)

  pub reindex_rejected : (ask : ReindexAsk) (n : ℕ) → IsGoodReply cluster corpus (asks.Reindex ask) (Rejected n)
  reindex_rejected ask n = (refl, tt)

  pub reindex_cancelled : (ask : ReindexAsk) (t : TaskId) (c : ℕ) (counts : Counts) → are_below (2 ^ 56) counts ≡ true → IsGoodReply cluster corpus (asks.Reindex ask) (Cancelled t c counts)
  reindex_cancelled ask t c counts low = (low, tt)

-- ---- a slice

module _ (cluster : Cluster) (corpus : Corpus) (t : TaskId) (p : Progress) (requests : List Request) (awaited : List (Option ℕ)) where
  pub slice_laws : (ask : SliceAsk) (w : Work) → RunsSlice cluster.shards t p.asked p.came requests awaited ask w → KindLaws cluster corpus t p requests awaited (Some (asks.Slice ask)) w
  slice_laws ask (works.Slice s) x = record {
    at = x.here;
    low = slice_low x.sound;
    place = refl;
    docs = sym (no_docs p.turns);
    full = inl refl;
    in_shard = λ place at. tt;
    turns_there = λ writes now e. absurd (slices.never_turns cluster corpus t ask.reindex ask.slice p.asked p.came requests awaited s x now e);
    turned = λ now later next grows same. absurd (slices.never_turns cluster corpus t ask.reindex ask.slice p.asked p.came requests awaited s x now next);
    asks = λ request now plan. record {
      few = slices.few_asks cluster corpus t ask.reindex ask.slice p.asked p.came requests awaited s x now request (plan [] tt);
      may = slices.may_so cluster corpus t ask.reindex ask.slice p.asked p.came requests awaited s x now request (plan [] tt);
      after = slices.after_so cluster corpus t ask.reindex ask.slice p.asked p.came requests awaited s x now request (plan [] tt);
      within = slices.within_so cluster corpus t ask.reindex ask.slice p.asked p.came requests awaited s x now request (plan [] tt);
      owns = slices.owns_so cluster corpus t ask.reindex ask.slice p.asked p.came requests awaited s x now request (plan [] tt);
    };
    takes_answer = λ i q reply now there unanswered good. let took = x.knows.takes_each i q reply there unanswered good.0 in record {
      takes = took;
      after = slices.answered_so cluster corpus t ask.reindex ask.slice p.asked p.came requests awaited s x i reply now took;
    };
    moves = λ few writes now none. slices.moves_so cluster corpus t ask.reindex ask.slice p.asked p.came requests awaited s x few now none;
    none_left = λ writes now end e. slices.none_left_so cluster corpus t ask.reindex ask.slice p.asked p.came requests awaited s x now end e;
    plain = λ writes now end e. subst IsPlain (sym (slices.ends_so cluster corpus t ask.reindex ask.slice p.asked p.came requests awaited s x now end e)) (refl, refl);
    ends_well = λ few now end e. subst (IsGoodReply cluster corpus (asks.Slice ask)) (sym (slices.ends_so cluster corpus t ask.reindex ask.slice p.asked p.came requests awaited s x now end e)) (slice_low x.sound, tt);
  }
  slice_laws ask _ x = absurd x

-- ---- a reindex

wider : (counts : Counts) → are_below (2 ^ 50) counts ≡ true → are_below (2 ^ 56) counts ≡ true
wider counts low = grind (arith, nat_tests)

-- what is asked for is a slice
slice_asked_for : (ask : ReindexAsk) (n : ℕ) (b : Bool) (e : nat_lt n ask.slices ≡ b) (r : Request) → option_map asks.Slice (slice_if ask n b e) ≡ Some r → (a : SliceAsk) × (r ≡ asks.Slice a)
slice_asked_for ask n true e r is = let a : SliceAsk = record { reindex = ask; slice = n; slice_in_range = ltb-true n ask.slices e } in (a, let same : asks.Slice a ≡ r = cc in sym same)
slice_asked_for ask n false e r is = absurd (cc)

pub asks_some : (o : Option Request) (b : Bool) (reply : Reply) (r : Request) → ask_or_end o b reply ≡ AskNext r → o ≡ Some r
asks_some (Some q) b reply r e = let same : q ≡ r = cc in ap Some same
asks_some None true reply r e = absurd (cc)
asks_some None false reply r e = absurd (cc)

module _ (cluster : Cluster) (corpus : Corpus) (t : TaskId) (p : Progress) (requests : List Request) (awaited : List (Option ℕ)) where
  cut_laws : (ask : ReindexAsk) (c : Cutting) → ask.slices ≢ 1 → CutsFor cluster.shards ask p.asked p.came requests awaited c → KindLaws cluster corpus t p requests awaited (Some (asks.Reindex ask)) (works.Reindex (Cut c))
  cut_laws ask c many x = record {
    at = record { moments = x.moments; work = (many, x.here) };
    low = cut_low x.sound;
    place = refl;
    docs = sym (no_docs p.turns);
    full = inl refl;
    in_shard = λ place at. tt;
    turns_there = λ writes now e. absurd (no_turn _ _ _ e);
    turned = λ now later next grows same. absurd (no_turn _ _ _ next);
    asks = λ request now plan. record {
      few = let made = x.here.few in let most = ask.slices_in_range.1 in omega (arith, long, made, most);
      may = cut_may_ask_when c request (plan [] tt);
      after = λ n. (
        many,
        record {
          here = subst (λ k. IsCutAt ask (p.asked ++ record { ask = k + 1; answer = None } ∷ []) (cut_with_ask c (k + 1))) (sym long) (cut_asked x.here request (plan [] tt));
          moments = length_push p.came 0 ∙ ap (λ n. n + 1) x.moments ∙ sym (length_push p.asked (record { ask = length awaited + 1; answer = None }));
          sound = cut_asked_sound c (length awaited + 1) x.sound (cut_may_ask_when c request (plan [] tt));
          knows = knows_more cluster.shards (cut_takes (cut_with_ask c (length awaited + 1))) request n (cut_takes c) p.asked requests awaited (length awaited + 1) x.knows (λ j reply took. cut_takes_after_ask c j (length awaited + 1) reply took)
              (λ reply can.
              let number : 1 + length p.asked ≡ length p.asked + 1 = omega arith in
              ap (λ k. cut_takes (cut_with_ask c (k + 1)) (1 + length p.asked) reply) long ∙ ap (λ k. cut_takes (cut_with_ask c (length p.asked + 1)) k reply) number ∙ cut_may_take x.here cluster.shards request (plan [] tt) reply can);
        },
      );
      within = let a = slice_asked_for c.ask c.made _ refl request (of_ask request (plan [] tt)) in subst (IsWithin cluster corpus) (sym a.1) tt;
      owns = let a = slice_asked_for c.ask c.made _ refl request (of_ask request (plan [] tt)) in rw a.1 tt;
    };
    takes_answer = λ i q reply now there unanswered good. let took = x.knows.takes_each i q reply there unanswered good.0 in record {
      takes = took;
      after = λ answer known. (
        many,
        rw known (record {
          here = cut_answered x.here (1 + i) reply took;
          moments = length-set p.came i now ∙ x.moments ∙ sym (fed_length (1 + i) (Some reply) p.asked);
          sound = cut_fed c 32 (1 + i) reply x.sound took;
          knows = knows_answer cluster.shards (cut_takes c) (cut_takes (cut_with_answer c (1 + i) reply)) p.asked requests awaited x.knows x.here.numbered i reply (λ j other takes apart. cut_takes_after_answer c j (1 + i) other reply apart takes);
        }),
      );
    };
    moves = λ few writes now none. ends_or_asks _ _ _ (settled none);
    none_left = λ writes now end e. all_answered p.asked awaited x.knows.answered (cut_settled x.here ∙ (search_ends _ _ _ end e).0);
    plain = λ writes now end e. subst IsPlain (sym (search_ends _ _ (Wrote c.counts) end e).1) (refl, refl);
    ends_well = λ few now end e. subst (IsGoodReply cluster corpus (asks.Reindex ask)) (sym (search_ends _ _ (Wrote c.counts) end e).1) (cut_low x.sound, tt);
  }
    where
      long : length awaited ≡ length p.asked
      long = awaited_long p.asked awaited x.knows.answered

      settled : none_awaited awaited ≡ true → is_settled c.open_asks ≡ true
      settled none = sym (cut_settled x.here) ∙ all_known p.asked awaited x.knows.answered none

      of_ask : (r : Request) → cut_next c ≡ AskNext r → option_map asks.Slice (slice_at c.ask c.made) ≡ Some r
      of_ask r e = asks_some _ _ _ r e

  -- a reindex of one slice is as that slice
  pub reindex_laws : (ask : ReindexAsk) (w : Work) → RunsReindex cluster.shards t p.asked p.came requests awaited ask w → KindLaws cluster corpus t p requests awaited (Some (asks.Reindex ask)) w
  reindex_laws ask (works.Reindex (Cut c)) x = cut_laws ask c x.0 x.1
  reindex_laws ask (works.Reindex (Alone s)) (one, x) = record {
    at = record { moments = x.here.moments; work = (one, x.here) };
    low = wider s.counts (slice_low x.sound);
    place = refl;
    docs = sym (no_docs p.turns);
    full = inl refl;
    in_shard = λ place at. tt;
    turns_there = λ writes now e. absurd (slices.never_turns cluster corpus t ask 0 p.asked p.came requests awaited s x now e);
    turned = λ now later next grows same. absurd (slices.never_turns cluster corpus t ask 0 p.asked p.came requests awaited s x now next);
    asks = λ request now plan. record {
      few = slices.few_asks cluster corpus t ask 0 p.asked p.came requests awaited s x now request (plan [] tt);
      may = slices.may_so cluster corpus t ask 0 p.asked p.came requests awaited s x now request (plan [] tt);
      after = λ n. (one, slices.after_so cluster corpus t ask 0 p.asked p.came requests awaited s x now request (plan [] tt) n);
      within = slices.within_so cluster corpus t ask 0 p.asked p.came requests awaited s x now request (plan [] tt);
      owns = slices.owns_so cluster corpus t ask 0 p.asked p.came requests awaited s x now request (plan [] tt);
    };
    takes_answer = λ i q reply now there unanswered good. let took = x.knows.takes_each i q reply there unanswered good.0 in record {
      takes = took;
      after = λ answer known. (one, slices.answered_so cluster corpus t ask 0 p.asked p.came requests awaited s x i reply now took answer known);
    };
    moves = λ few writes now none. slices.moves_so cluster corpus t ask 0 p.asked p.came requests awaited s x few now none;
    none_left = λ writes now end e. slices.none_left_so cluster corpus t ask 0 p.asked p.came requests awaited s x now end e;
    plain = λ writes now end e. subst IsPlain (sym (slices.ends_so cluster corpus t ask 0 p.asked p.came requests awaited s x now end e)) (refl, refl);
    ends_well = λ few now end e. subst (IsGoodReply cluster corpus (asks.Reindex ask)) (sym (slices.ends_so cluster corpus t ask 0 p.asked p.came requests awaited s x now end e)) (wider s.counts (slice_low x.sound), tt);
  }
  reindex_laws ask _ x = absurd x
