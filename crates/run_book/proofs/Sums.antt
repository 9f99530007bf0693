-- The sum of the ticks of a script: by one command more, and that it is not large.
use Rattle.std.proofs.Common.{◌≡◌, ℕ, zero, suc, ◌+◌, ◌*◌, ◌^◌, ◌<◌, ◌≤◌, List, [], ◌∷◌, ◌++◌, length, get_or, take, Some, sym, ap, subst, ◌∙◌, arith, All}
use Rattle.std.specs.Prelude.{slice_get}
use Rattle.std.proofs.lemmas.Option.{slice_get_within, slice_get-get_or}
use Rattle.std.proofs.lemmas.List.{take_more}
use Rattle.std.proofs.lemmas.List.Sums.{sum_by_push, sum_by-le, sum_by-take-le}
use Rattle.script_lang.specs.declared.command.Command.{Command}
use Rattle.script_lang.specs.declared.command.Command.TheVariants.{Search, Scroll, ClearScroll, Reindex, Cancel, ListTasks, GetTask, ForgetTask, ListResults, Tick, Deliver, Step, ListStep, Settle, Shuffle, WaitFor, History, Summary}
use Rattle.script_lang.specs.Fits.{AllFit, Fits}
use Rattle.run_book.specs.Notes.{moment_after, tick_of}

pub next_moment : (script : List Command) (place : ℕ) (c : Command) → slice_get script place ≡ Some c → moment_after (take (place + 1) script) ≡ moment_after (take place script) + tick_of c
next_moment script place c there =
    let inside = slice_get_within script place c there in
    let at : Some (get_or script place c) ≡ Some c = sym (slice_get-get_or script place c inside) ∙ there in
    let is : get_or script place c ≡ c = cc in
    ap moment_after (take_more script place c inside) ∙ sum_by_push tick_of (take place script) (get_or script place c) ∙ ap (λ (d : Command). moment_after (take place script) + tick_of d) is

-- each command fits, after those before it
pub fits_at : (nodes : ℕ) (before script : List Command) (place : ℕ) (c : Command) → AllFit nodes before script → slice_get script place ≡ Some c → (earlier : List Command) × Fits nodes earlier c
fits_at nodes before [] place c fit there = absurd (cc)
fits_at nodes before (d ∷ rest) zero c fit there = let same : d ≡ c = cc in (before, subst (λ (x : Command). Fits nodes before x) same fit.0)
fits_at nodes before (d ∷ rest) (suc place) c fit there = fits_at nodes (before ++ d ∷ []) rest place c fit.1 there

pub tick_fits : (nodes : ℕ) (before : List Command) (c : Command) → Fits nodes before c → tick_of c ≤ 86400000
tick_fits nodes before (Search index node scroll body opaque_id) fits = omega arith
tick_fits nodes before (Scroll context keep opaque_id) fits = omega arith
tick_fits nodes before (ClearScroll context) fits = omega arith
tick_fits nodes before (Reindex node body slices rate opaque_id store) fits = omega arith
tick_fits nodes before (Cancel target reason wait) fits = omega arith
tick_fits nodes before (ListTasks filter group detailed) fits = omega arith
tick_fits nodes before (GetTask task wait) fits = omega arith
tick_fits nodes before (ForgetTask task) fits = omega arith
tick_fits nodes before ListResults fits = omega arith
tick_fits nodes before (Tick ms) fits = fits
tick_fits nodes before (Deliver nth) fits = omega arith
tick_fits nodes before (Step task) fits = omega arith
tick_fits nodes before (ListStep node parent) fits = omega arith
tick_fits nodes before Settle fits = omega arith
tick_fits nodes before (Shuffle seed moves) fits = omega arith
tick_fits nodes before (WaitFor command) fits = omega arith
tick_fits nodes before History fits = omega arith
tick_fits nodes before Summary fits = omega arith

ticks_fit : (nodes : ℕ) (script : List Command) → AllFit nodes [] script → All (λ (c : Command). tick_of c ≤ 86400000) script
ticks_fit nodes script fit = λ k d inside.
    let fits = fits_at nodes [] script k (get_or script k d) fit (slice_get-get_or script k d inside) in
    tick_fits nodes fits.0 (get_or script k d) fits.1

-- at most 65,535 days
pub moment_fits : (nodes : ℕ) (script : List Command) (k : ℕ) → AllFit nodes [] script → length script ≤ 65535 → moment_after (take k script) < 2 ^ 43
moment_fits nodes script k fit few =
    let all : moment_after script ≤ length script * 86400000 = sum_by-le tick_of 86400000 script (ticks_fit nodes script fit) in
    let some : moment_after (take k script) ≤ moment_after script = sum_by-take-le tick_of script k in
    let low : moment_after (take k script) < 8796093022208 = omega arith in
    low
