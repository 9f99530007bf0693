-- The next number is above those of all asks, whether one more was asked for, answered, or not.
use Rattle.std.specs.Prelude.{◌≡◌, ℕ, ◌+◌, ◌<◌, ◌==◌, List, [], ◌∷◌, true, false, nat_lt, None, map, Result, Ok, Err, OnOk, OnErr, refl}
use Rattle.std.proofs.Common.{sym, ◌∙◌, ap, subst, arith}
use Rattle.std.proofs.lemmas.Bool.{lt-ltb, ltb-true}
use Rattle.task_events.specs.declared.reply.Reply.{Reply}
use Rattle.task_events.specs.declared.step.Asked.{Asked}
use Rattle.search_phase.specs.Searching.{Searching, is_above, with_ask, answered_by, with_answer}
use Rattle.search_phase.proofs.Lookups.{list_all-weaker, list_all-append}
use Rattle.search_phase.proofs.Sorting.{by_test}

pub above_more : (n : ℕ) (asked : List Asked) → is_above n asked ≡ true → is_above (n + 1) asked ≡ true
above_more n asked h =
    list_all-weaker (λ (a : Asked). nat_lt a.ask n) (λ (a : Asked). nat_lt a.ask (n + 1)) asked
    (λ a e. lt-ltb a.ask (n + 1) (let below : a.ask < n = ltb-true a.ask n e in omega arith)) h

pub above_asked : (s : Searching) (n : ℕ) → is_above n s.asked ≡ true → is_above (n + 1) (with_ask s n).asked ≡ true
above_asked s n h =
    list_all-append (λ (a : Asked). nat_lt a.ask (n + 1)) s.asked (record { ask = n; answer = None } ∷ []) (above_more n s.asked h) (rw (lt-ltb n (n + 1) (omega arith)) refl)

above_answered : (n ask : ℕ) (reply : Reply) (asked : List Asked) → is_above n asked ≡ true → is_above n (map (answered_by ask reply) asked) ≡ true
above_answered n ask reply [] h = refl
above_answered n ask reply (a ∷ asked) h =
    let same : (answered_by ask reply a).ask ≡ a.ask = by_test (a.ask == ask) (λ e. rw e refl) (λ e. rw e refl) in
    by_test (nat_lt a.ask n)
    (λ below. let here : nat_lt (answered_by ask reply a).ask n ≡ true = ap (λ k. nat_lt k n) same ∙ below in rw here (above_answered n ask reply asked (rw below at h)))
    (λ past. absurd (let f : false ≡ true = rw past at h in cc))

pub fed : {A E : Type 0} (r : Result A E) (n ask : ℕ) (reply : Reply) (s t : Searching) → OnOk r (t ≡ with_answer s ask reply) → OnErr r (t ≡ s) → is_above n s.asked ≡ true → is_above n t.asked ≡ true
fed (Ok x) n ask reply s t ok err h = subst (λ (u : Searching). is_above n u.asked ≡ true) (sym ok) (above_answered n ask reply s.asked h)
fed (Err e) n ask reply s t ok err h = subst (λ (u : Searching). is_above n u.asked ≡ true) (sym err) h
