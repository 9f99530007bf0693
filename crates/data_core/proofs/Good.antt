-- What the letters of a live task rest on stays with each thing that its core notes of it.
use Rattle.std.proofs.Common.{◌≡◌, ℕ, ◌+◌, [], ◌∷◌, Option, Some, None, sym, ap, subst, arith}
use Rattle.std.specs.Prelude.{IfSome, unwrap_or}
use Rattle.std.proofs.lemmas.List.{length-append, length-set}
use Rattle.task_events.specs.declared.reply.Reply.{Reply}
use Rattle.node_link.specs.Lawful.{IsCancelOfRun, IsLawfulReply}
use Rattle.node_link.specs.declared.body.Place.{Place}
use Rattle.node_parts.specs.Running.{next_number}
use Rattle.task_work.specs.Works.{place_of, work_with_ask, work_with_answer}
use Rattle.held_shards.specs.declared.HeldShards.{HeldShards}
use Rattle.live_tasks.specs.declared.entry.Entry.{Entry}
use Rattle.live_tasks.specs.Entries.{passed, closed, after_look, after_ask, after_answer}
use Rattle.data_parts.specs.Steps.{HasCome, AsksBelow}
use Rattle.data_parts.proofs.Moves.{asked_replies, answered_replies, asked_below, answered_below}
use Rattle.data_parts.proofs.Grown.{asked_place, answered_place, asked_come, answered_come}
use Rattle.entry_facts.specs.Entries.{writes_for}
use Rattle.data_core.specs.Cores.{IsGoodEntry}

module _ (allowed : ℕ → Type 0) (held : HeldShards) where
  pub passed_good : (e : Entry) → IsGoodEntry allowed held e → IsGoodEntry allowed held (passed e)
  passed_good e g = record { place = g.place; mark = g.mark; page = g.page; replies = g.replies; asks = g.asks; come = g.come }

  one_mark : (o : Option ℕ) (c : ℕ) → IfSome o (IsCancelOfRun allowed) → IsCancelOfRun allowed c → IsCancelOfRun allowed (unwrap_or o c)
  one_mark None c old new = new
  one_mark (Some d) c old new = old

  pub closed_good : (e : Entry) (c : ℕ) → IsCancelOfRun allowed c → IsGoodEntry allowed held e → IsGoodEntry allowed held (closed e c)
  closed_good e c is g = record { place = g.place; mark = one_mark e.running.track.closed c g.mark is; page = g.page; replies = g.replies; asks = g.asks; come = g.come }

  pub looked_good : (e : Entry) (o : Option ℕ) → IfSome o (IsCancelOfRun allowed) → IsGoodEntry allowed held e → IsGoodEntry allowed held (after_look e o)
  looked_good e None is g = g
  looked_good e (Some c) is g = closed_good e c is g

  come_at : (w v : _) → place_of v ≡ place_of w → HasCome v (writes_for held (place_of w)) → HasCome v (writes_for held (place_of v))
  come_at w v same come = subst (λ p. HasCome v (writes_for held p)) (sym same) come

  pub asked_good : (e : Entry) (to : ℕ) (place : Place) → IsGoodEntry allowed held e → IsGoodEntry allowed held (after_ask e to place)
  asked_good e to place g =
      let w = e.running.work in
      let n = next_number e.running in
      let more : next_number (after_ask e to place).running ≡ n + 1 = omega (arith, length-append e.running.track.asks (Some to ∷ [])) in
      record {
        place = g.place;
        mark = g.mark;
        page = g.page;
        replies = asked_replies allowed w n g.replies;
        asks = subst (λ k. AsksBelow k (work_with_ask w n)) (sym more) (asked_below w n g.asks);
        come = come_at w (work_with_ask w n) (asked_place w n) (asked_come w n (writes_for held (place_of w)) g.come);
      }

  pub answered_good : (e : Entry) (ask : ℕ) (reply : Reply) (now : ℕ) → IsLawfulReply allowed reply → IsGoodEntry allowed held e → IsGoodEntry allowed held (after_answer e ask reply now)
  answered_good e ask reply now lawful g =
      let w = e.running.work in
      let as_many : next_number (after_answer e ask reply now).running ≡ next_number e.running = ap (λ k. k + 1) (length-set e.running.track.asks _ None) in
      record {
        place = g.place;
        mark = g.mark;
        page = g.page;
        replies = answered_replies allowed w ask reply now lawful g.replies;
        asks = subst (λ k. AsksBelow k (work_with_answer w ask reply now)) (sym as_many) (answered_below w (next_number e.running) ask reply now g.asks);
        come = come_at w (work_with_answer w ask reply now) (answered_place w ask reply now) (answered_come w ask reply now (writes_for held (place_of w)) g.come);
      }
