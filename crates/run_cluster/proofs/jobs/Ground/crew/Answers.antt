use Rattle.std.proofs.Common.{◌≡◌, ◌+◌, ℕ, List, [], ◌∷◌, ◌++◌, length, length-append, refl, sym, ap, ◌∙◌, subst, append_assoc, Some, arith}
use Rattle.std.specs.Prelude.{slice_get}
use Rattle.std.proofs.lemmas.List.{map-append}
use Rattle.std.proofs.lemmas.Option.{slice_get_read}
use Rattle.node_link.proofs.Counts.{get_at, no_more}
use Rattle.run_facts.specs.Inboxes.{driver_of}
use Rattle.run_inboxes.specs.Pairs.{Pairwise}
use Rattle.run_inboxes.proofs.Pairs.{pairs_length, pairs_push}
use Rattle.run_threads.specs.Jobs.{lists_of}
use Rattle.run_cluster.specs.Places.{AreDealt, AreWide}
use Rattle.run_cluster.specs.Crews.{IsControlOn, AreDatasOn, ControlBegins, DatasBegin}
use Rattle.run_cluster.proofs.Manning.{seats_next, dealt_count, dealt_within, AreOn, one_on, all_on}
use Rattle.run_cluster.proofs.jobs.Ground.crew.Goals as goal

pub deal-requires : goal.deal-requires
deal-requires g c = c.requires.ends ∙ ap (λ (n : ℕ). driver_of c.args.self.now.workers n + 1) (sym c.requires.boards.seats_count)

pub bounds-boards-before : goal.bounds-boards-before
bounds-boards-before g c =
    let i = c.loop-place.invariant in
    let seats = c.args.seats.items in
    let goes = subst (λ (l : List _). AreDealt seats c.args.ends.items (c.loop-place.yielded ++ l) c.loop-place.crew.driver) c.in-Some.ensures.steps.0 i.2 in
    let low = dealt_within c.loop-place.yielded c.next.new.self.rest.items c.in-Some.place seats goes.boards_are in
    let m = c.requires.boards.boards_count in
    let n = c.requires.boards.seats_count in
    let same = i.3 in
    omega arith

pub overflow_add-before-in-loop-place : goal.overflow_add-before-in-loop-place
overflow_add-before-in-loop-place g c =
    let i = c.loop-place.invariant in
    let seats = c.args.seats.items in
    let goes = subst (λ (l : List _). AreDealt seats c.args.ends.items (c.loop-place.yielded ++ l) c.loop-place.crew.driver) c.in-Some.ensures.steps.0 i.2 in
    let low = dealt_within c.loop-place.yielded c.next.new.self.rest.items c.in-Some.place seats goes.boards_are in
    let n = c.requires.boards.seats_count in
    let same = i.3 in
    let few = c.args.self.now.cluster.nodes_in_range in
    omega arith

pub add-requires-clause-node : goal.add-requires-clause-node
add-requires-clause-node g c κs within =
    let i = c.loop-place.invariant in
    let seats = c.args.seats.items in
    let goes = subst (λ (l : List _). AreDealt seats c.args.ends.items (c.loop-place.yielded ++ l) c.loop-place.crew.driver) c.in-Some.ensures.steps.0 i.2 in
    let low = dealt_within c.loop-place.yielded c.next.new.self.rest.items c.in-Some.place seats goes.boards_are in
    let n = c.requires.boards.seats_count in
    let same = i.3 in
    let few = c.args.self.now.cluster.nodes_in_range in
    (omega arith, omega arith)

pub add-requires-clause-new : goal.add-requires-clause-new
add-requires-clause-new g c κs within =
    let i = c.loop-place.invariant in
    let seats = c.args.seats.items in
    let boards = c.args.boards.now in
    let n = c.loop-place.before in
    let before = c.loop-place.yielded in
    let x = c.in-Some.place in
    let rest = c.next.new.self.rest.items in
    let goes = subst (λ (l : List _). AreDealt seats c.args.ends.items (before ++ l) c.loop-place.crew.driver) c.in-Some.ensures.steps.0 i.2 in
    let low = dealt_within before rest x seats goes.boards_are in
    let many = c.requires.boards.boards_count in
    let all = c.requires.boards.seats_count in
    let same = i.3 in
    let b = c.index-boards-before.result in
    let at = slice_get_read boards (length boards) n b refl (omega arith) c.index-boards-before.is in
    let there = seats_next before rest x seats goes.boards_are in
    c.requires.boards.each n b x.board at (subst (λ (m : ℕ). slice_get seats m ≡ Some x.board) (sym same) there)

pub add-requires-clause-wide : goal.add-requires-clause-wide
add-requires-clause-wide g c κs within =
    let i = c.loop-place.invariant in
    let before = c.loop-place.yielded in
    let x = c.in-Some.place in
    let rest = c.next.new.self.rest.items in
    let wide = subst (λ (l : List _). AreWide c.args.self.now.workers (before ++ l)) c.in-Some.ensures.steps.0 i.8 in
    wide (length before) x (get_at before x rest)

pub loop-place-preserved : goal.loop-place-preserved
loop-place-preserved g c =
    let i = c.loop-place.invariant in
    let seats = c.args.seats.items in
    let boards = c.args.boards.now in
    let n = c.loop-place.before in
    let before = c.loop-place.yielded in
    let x = c.in-Some.place in
    let rest = c.next.new.self.rest.items in
    let old = c.loop-place.crew in
    let new = c.add.new.crew in
    let goes = subst (λ (l : List _). AreDealt seats c.args.ends.items (before ++ l) old.driver) c.in-Some.ensures.steps.0 i.2 in
    let low = dealt_within before rest x seats goes.boards_are in
    let many = c.requires.boards.boards_count in
    let all = c.requires.boards.seats_count in
    let same = i.3 in
    let b = c.index-boards-before.result in
    let at = slice_get_read boards (length boards) n b refl (omega arith) c.index-boards-before.is in
    let one = c.in-Ok.ensures.control in
    let own = c.in-Ok.ensures.own in
    let lists = ap lists_of own.1 ∙ map-append (λ ws. ws.items) old.datas.items (own.0 ∷ []) in
    let datas_on = AreDatasOn c.args.self.now.cluster c.args.self.now.corpus.now c.args.self.now.workers in
    let first = subst (λ (m : ℕ). slice_get boards m ≡ Some b) (same ∙ sym (pairs_length ControlBegins before old.controls.items i.4)) at in
    let second = subst (λ (m : ℕ). slice_get boards m ≡ Some b) (same ∙ sym (pairs_length DatasBegin before (lists_of old.datas.items) i.5)) at in (
      tt,
      tt,
      subst (λ (l : List _). AreDealt seats c.args.ends.items l new.driver) (sym (append_assoc before (x ∷ []) rest))
          (subst (λ (d : _). AreDealt seats c.args.ends.items (before ++ x ∷ rest) d) (sym c.in-Ok.ensures.driver) goes),
      ap (λ (m : ℕ). m + 1) same ∙ sym (length-append before (x ∷ [])),
      subst (λ (l : List _). Pairwise ControlBegins (before ++ x ∷ []) l) (sym one.1) (pairs_push ControlBegins before old.controls.items x one.0 i.4 one.3),
      subst (λ (l : List (List _)). Pairwise DatasBegin (before ++ x ∷ []) l) (sym lists) (pairs_push DatasBegin before (lists_of old.datas.items) x own.0.items i.5 own.3),
      subst (λ (l : List _). AreOn (IsControlOn c.args.self.now.cluster c.args.self.now.workers) boards l) (sym one.1) (one_on (IsControlOn c.args.self.now.cluster c.args.self.now.workers) boards old.controls.items one.0 b first one.2 i.6),
      subst (λ (l : List (List _)). AreOn datas_on boards l) (sym lists) (one_on datas_on boards (lists_of old.datas.items) own.0.items b second own.2 i.7),
      subst (λ (l : List _). AreWide c.args.self.now.workers l) (sym (append_assoc before (x ∷ []) rest)) (subst (λ (l : List _). AreWide c.args.self.now.workers (before ++ l)) c.in-Some.ensures.steps.0 i.8),
    )

pub returns-clause-controls : goal.returns-clause-controls
returns-clause-controls g c =
    let i = c.loop-place.invariant in
    let before = c.loop-place.yielded in
    let rest = c.loop-place.place-iterator.rest in
    let all = ap length (no_more before rest.items (before ++ rest.items) refl (sym rest.ok.0 ∙ c.in-None.ensures.steps.0)) in
    let count = dealt_count (before ++ rest.items) c.args.seats.items i.2.boards_are in
    let many = c.requires.boards.boards_count in
    let seats = c.requires.boards.seats_count in
    let made = pairs_length ControlBegins before c.loop-place.crew.controls.items i.4 in
    all_on (IsControlOn c.args.self.now.cluster c.args.self.now.workers) c.args.boards.now c.loop-place.crew.controls.items (omega arith) i.6

pub returns-clause-datas : goal.returns-clause-datas
returns-clause-datas g c =
    let i = c.loop-place.invariant in
    let before = c.loop-place.yielded in
    let rest = c.loop-place.place-iterator.rest in
    let all = ap length (no_more before rest.items (before ++ rest.items) refl (sym rest.ok.0 ∙ c.in-None.ensures.steps.0)) in
    let count = dealt_count (before ++ rest.items) c.args.seats.items i.2.boards_are in
    let many = c.requires.boards.boards_count in
    let seats = c.requires.boards.seats_count in
    let made = pairs_length DatasBegin before (lists_of c.loop-place.crew.datas.items) i.5 in
    all_on (AreDatasOn c.args.self.now.cluster c.args.self.now.corpus.now c.args.self.now.workers) c.args.boards.now (lists_of c.loop-place.crew.datas.items) (omega arith) i.7

pub returns-clause-manned : goal.returns-clause-manned
returns-clause-manned g c =
    let i = c.loop-place.invariant in
    let rest = c.loop-place.place-iterator.rest in
    let none = no_more c.loop-place.yielded rest.items (c.loop-place.yielded ++ rest.items) refl (sym rest.ok.0 ∙ c.in-None.ensures.steps.0) in
    record {
      places = c.loop-place.yielded;
      dealt = subst (λ (l : List _). AreDealt c.args.seats.items c.args.ends.items l c.loop-place.crew.driver) (sym none) i.2;
      wide = subst (λ (l : List _). AreWide c.args.self.now.workers l) (sym none) i.8;
      control = i.4;
      own = i.5;
    }
