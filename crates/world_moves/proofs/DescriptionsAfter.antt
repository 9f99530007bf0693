-- What task lists show after an event: of the tasks that were live before it, what they showed.
use Rattle.std.proofs.Common.{◌≡◌, ◌≤◌, ℕ, ◌+◌, ◌*◌, Bool, true, false, cond, not, List, [], ◌∷◌, ◌++◌, length, get_or, Option, Some, None, refl, sym, ap, subst, ◌∙◌, arith, ◌<◌, ◌^◌}
use Rattle.std.specs.Prelude.{slice_get, slice_set, remove}
use Rattle.std.specs.List.{AllByRecursion}
use Rattle.std.proofs.lemmas.List.Elements.{All-filter, All-map}
use Rattle.task_ids.specs.declared.task_id.TaskId.{TaskId}
use Rattle.task_ids.specs.declared.task_info.TaskInfo.{TaskInfo}
use Rattle.node_parts.specs.declared.notice.Notice.{Notice}
use Rattle.node_parts.specs.Notices.{notice_of}
use Rattle.child_track.specs.Token.{ReceiptParts}
use Rattle.cancel_core.specs.declared.act.Act.{Act}
use Rattle.task_table.specs.Rows.{has_number, marked}
use Rattle.task_table.specs.Table.{Table, without_task, with_mark}
use Rattle.script_lang.specs.declared.command.Script.{Script}
use Rattle.script_lang.specs.KeepAlives.{day_ms}
use Rattle.task_events.specs.declared.event.Event.{Event}
use Rattle.task_events.specs.declared.event.Event.TheVariants.{Begin, Root, Put, Tick}
use Rattle.task_events.specs.Clock.{clock}
use Rattle.world_moves.specs.declared.flight.Sent.{Sent}
use Rattle.world_moves.specs.declared.flight.Sent.TheVariants as sent
use Rattle.world_moves.specs.Acts.{messages_in, messages_of}
use Rattle.world_moves.specs.Flights.{told_to, told_parent}
use Rattle.task_events.specs.Cancels.{last_command}
use Rattle.world_moves.specs.Describing.{longest_tick, Describing, IsDescribed, DescribesAll, Carries}
use Rattle.world_moves.proofs.AtPlace.{set_at}
use Rattle.world_moves.proofs.ByPlace.{all_left}

-- the event starts a task
abbrev pub starts_task : Event → Bool
starts_task (Root k t) = true
starts_task (Put t p k) = true
starts_task _ = false

-- or it begins a command, or moves the clock
abbrev pub starts_or_ticks : Event → Bool
starts_or_ticks (Begin k) = true
starts_or_ticks (Root k t) = true
starts_or_ticks (Put t p k) = true
starts_or_ticks (Tick ms) = true
starts_or_ticks _ = false

starts_none : (e : Event) → starts_or_ticks e ≡ false → starts_task e ≡ false
starts_none (Root k t) s = absurd (cc)
starts_none (Put t p k) s = absurd (cc)
starts_none _ s = refl

-- with one more of them, as much or more
pub longer : (day now n k : ℕ) → n + 1 ≡ k → now ≤ n * day → now ≤ k * day
longer day now n k next low = subst (λ m. now ≤ m * day) next (let more : (n + 1) * day ≡ n * day + day = grind arith in omega (arith, more, low))

module _ (script : Script) (h : List Event) where
  row_stays : (e : Event) → starts_task e ≡ false → (row : TaskInfo) → IsDescribed script h row → IsDescribed script (e ∷ h) row
  row_stays (Root k t) s row d = absurd (cc)
  row_stays (Put t p k) s row d = absurd (cc)
  row_stays _ s row d = record { request = d.request; asked = d.asked; action = d.action; description = d.description; start = d.start; headers = d.headers }

  rows_stay : (e : Event) → starts_task e ≡ false → (o : Option Table) → DescribesAll script h o → DescribesAll script (e ∷ h) o
  rows_stay e s None d = tt
  rows_stay e s (Some table) d = λ k row low. row_stays e s (get_or table.live k row) (d k row low)

  one_carried : (e : Event) → starts_task e ≡ false → (m : Sent) → Carries script h m → Carries script (e ∷ h) m
  one_carried (Root k t) s m c = absurd (cc)
  one_carried (Put t p k) s m c = absurd (cc)
  one_carried _ s (sent.Request token to at headers) c = c
  one_carried _ s (sent.Answer receipt at) c = tt
  one_carried _ s (sent.Notice notice) c = tt

  pub all_carried : (e : Event) → starts_task e ≡ false → (ms : List Sent) → AllByRecursion (Carries script h) ms → AllByRecursion (Carries script (e ∷ h)) ms
  all_carried e s [] c = tt
  all_carried e s (m ∷ ms) c = (one_carried e s m c.0, all_carried e s ms c.1)

  clock_stays : (e : Event) → starts_or_ticks e ≡ false → clock (e ∷ h) ≡ clock h
  clock_stays (Tick ms) s = absurd (cc)
  clock_stays _ s = refl

  command_stays : (e : Event) → starts_or_ticks e ≡ false → last_command (e ∷ h) ≡ last_command h
  command_stays (Begin k) s = absurd (cc)
  command_stays _ s = refl

  module _ (tables : List Table) (flight : List Sent) (now : ℕ) where
    -- the tables may be others, and so may the messages
    pub described_with : (e : Event) (after : List Table) (queue : List Sent) → starts_or_ticks e ≡ false → ((place : ℕ) → DescribesAll script h (slice_get after place)) → AllByRecursion (Carries script h) queue
        → Describing script h tables flight now → Describing script (e ∷ h) after queue now
    described_with e after queue s rows carried d = record {
      rows_are = λ place. rows_stay e (starts_none e s) (slice_get after place) (rows place);
      carried = all_carried e (starts_none e s) queue carried;
      clock_is = d.clock_is ∙ sym (clock_stays e s);
      clock_low = subst (λ k. k ≤ length script.commands → now ≤ k * day_ms) (sym (command_stays e s)) d.clock_low;
      clock_high = longer longest_tick now (length h) (length (e ∷ h)) (omega arith) d.clock_high;
      clock_fits = d.clock_fits;
      few_begun = subst (λ k. k ≤ 65536) (sym (command_stays e s)) d.few_begun;
    }

    -- a command begins, the next in order
    pub begun_tells : (k : ℕ) → last_command h + 1 ≡ k → k ≤ 65536 → Describing script h tables flight now → Describing script (Begin k ∷ h) tables flight now
    begun_tells k next few d = record {
      rows_are = λ place. rows_stay (Begin k) refl (slice_get tables place) (d.rows_are place);
      carried = all_carried (Begin k) refl flight d.carried;
      clock_is = d.clock_is;
      clock_low = λ low. longer day_ms now (last_command h) k next (d.clock_low (omega (arith, next, low)));
      clock_high = longer longest_tick now (length h) (length (Begin k ∷ h)) (omega arith) d.clock_high;
      clock_fits = d.clock_fits;
      few_begun = few;
    }

    -- the clock moves
    pub ticked_tells : (ms : ℕ) → (last_command h ≤ length script.commands → now + ms ≤ last_command h * day_ms) → ms ≤ longest_tick → now + ms < 2 ^ 60 → Describing script h tables flight now → Describing script (Tick ms ∷ h) tables flight (now + ms)
    ticked_tells ms low high fits d = record {
      rows_are = λ place. rows_stay (Tick ms) refl (slice_get tables place) (d.rows_are place);
      carried = all_carried (Tick ms) refl flight d.carried;
      clock_is = ap (λ m. m + ms) d.clock_is;
      clock_low = low;
      clock_high = let more : (length h + 1) * longest_tick ≡ length h * longest_tick + longest_tick = grind arith in let before = d.clock_high in omega (arith, more, before, high);
      clock_fits = fits;
      few_begun = d.few_begun;
    }

    pub quiet : (e : Event) → starts_or_ticks e ≡ false → Describing script h tables flight now → Describing script (e ∷ h) tables flight now
    quiet e s d = described_with e tables flight s d.rows_are d.carried d

    -- a message that is no request was sent
    pub quiet_sent : (e : Event) (queue : List Sent) → starts_or_ticks e ≡ false → AllByRecursion (Carries script h) queue → Describing script h tables flight now → Describing script (e ∷ h) tables queue now
    quiet_sent e queue s carried d = described_with e tables queue s d.rows_are carried d

-- ---- messages

pub carry_both : (script : Script) (h : List Event) (ms more : List Sent) → AllByRecursion (Carries script h) ms → AllByRecursion (Carries script h) more → AllByRecursion (Carries script h) (ms ++ more)
carry_both script h [] more a b = b
carry_both script h (m ∷ ms) more a b = (a.0, carry_both script h ms more a.1 b)

pub carry_taken : (script : Script) (h : List Event) (flight : List Sent) (nth : ℕ) → AllByRecursion (Carries script h) flight → AllByRecursion (Carries script h) (remove flight nth)
carry_taken script h flight nth a = all_left (Carries script h) flight nth a

-- nor does the answer of a task that has ended
pub told_carries : (script : Script) (h : List Event) (receipt : ReceiptParts) (at : ℕ) → AllByRecursion (Carries script h) (told_parent receipt at)
told_carries script h receipt at = by_parent receipt.parent
  where
    by_parent : (parent : Option TaskId) → AllByRecursion (Carries script h) (told_to parent receipt at)
    by_parent None = tt
    by_parent (Some p) = (tt, tt)

-- nor does what the acts of a core send
pub acts_carry : (script : Script) (h : List Event) (node : ℕ) (acts : List Act) → AllByRecursion (Carries script h) (messages_in node acts)
acts_carry script h node [] = tt
acts_carry script h node (act ∷ acts) = by_notice (notice_of node act) refl (acts_carry script h node acts)
  where
    by_notice : (o : Option Notice) → notice_of node act ≡ o → AllByRecursion (Carries script h) (messages_in node acts) → AllByRecursion (Carries script h) (messages_in node (act ∷ acts))
    by_notice None e rest = rw e rest
    by_notice (Some n) e rest = rw e (tt, rest)

pub act_carries : (script : Script) (h : List Event) (node : ℕ) (act : Option Act) → AllByRecursion (Carries script h) (messages_of node act)
act_carries script h node None = tt
act_carries script h node (Some act) = acts_carry script h node (act ∷ [])

-- ---- rows

-- some rows are left out
pub rows_left : (script : Script) (h : List Event) (tables : List Table) (place number : ℕ) (table : Table) → slice_get tables place ≡ Some table → ((p : ℕ) → DescribesAll script h (slice_get tables p))
    → (p : ℕ) → DescribesAll script h (slice_get (slice_set tables place (without_task table number)) p)
rows_left script h tables place number table here rows =
    set_at (λ p o. DescribesAll script h o) (λ p o. DescribesAll script h o) tables place table (without_task table number) here rows
    (All-filter (λ row. not (has_number number row)) (IsDescribed script h) table.live (subst (DescribesAll script h) here (rows place))) (λ p apart d. d)

-- a mark changes nothing else of a row
pub rows_marked : (script : Script) (h : List Event) (tables : List Table) (place number cancel : ℕ) (table : Table) → slice_get tables place ≡ Some table → ((p : ℕ) → DescribesAll script h (slice_get tables p))
    → (p : ℕ) → DescribesAll script h (slice_get (slice_set tables place (with_mark table number cancel)) p)
rows_marked script h tables place number cancel table here rows =
    set_at (λ p o. DescribesAll script h o) (λ p o. DescribesAll script h o) tables place table (with_mark table number cancel) here rows
    (All-map (IsDescribed script h) (marked number cancel) table.live (λ k row low. one (get_or table.live k row) (subst (DescribesAll script h) here (rows place) k row low))) (λ p apart d. d)
  where
    by_number : (b : Bool) (row : TaskInfo) → IsDescribed script h row → IsDescribed script h (cond b (record row { cancelled = Some cancel }) row)
    by_number true row d = record { request = d.request; asked = d.asked; action = d.action; description = d.description; start = d.start; headers = d.headers }
    by_number false row d = d

    one : (row : TaskInfo) → IsDescribed script h row → IsDescribed script h (marked number cancel row)
    one row d = by_number (has_number number row) row d
