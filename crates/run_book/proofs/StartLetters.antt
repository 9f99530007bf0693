-- The letters that start the tasks of a script tell what they look for, and which index they write.
use Rattle.std.proofs.Common.{◌≡◌, ◌⊎◌, inl, inr, ℕ, zero, suc, ◌-◌, Bool, true, false, List, [], ◌∷◌, Option, Some, None, Result, Ok, Err, refl, sym, ap, ◌∙◌, subst}
use Rattle.std.specs.Prelude.{IfSome, IsSomeAnd, is_some, option_and_then, option_map, slice_get}
use Rattle.std.specs.List.{cons_option, list_any}
use Rattle.std.specs.Option.{option_map_or}
use Rattle.std.specs.Str.{bytes_eq}
use Rattle.std.proofs.lemmas.Bool.{cases_Bool}
use Rattle.std.proofs.lemmas.Slice.Eq.{bytes_eq-Decides}
use Rattle.command_roots.specs.Known.{dest_of, dests_of}
use Rattle.command_roots.specs.Reindexes.{are_in_range, ask_if, reindex_ask}
use Rattle.command_roots.specs.Roots.{least_size, search_ask, search_of}
use Rattle.query_match.specs.declared.body.SearchBody.{SearchBody}
use Rattle.query_parse.specs.Bodies.{body_at}
use Rattle.query_parse.specs.Reindexes.{reindex_at}
use Rattle.query_parse.specs.declared.fault.BodyError.{BodyError}
use Rattle.query_parse.specs.declared.fault.ReindexError.{ReindexError}
use Rattle.query_parse.specs.declared.reindex_body.ReindexBody.{ReindexBody}
use Rattle.script_lang.specs.declared.command.Command.{Command}
use Rattle.script_lang.specs.declared.command.Command.TheVariants.{Search, Reindex}
use Rattle.task_ids.specs.declared.cluster.Cluster.{Cluster}
use Rattle.task_ids.specs.declared.corpus.Corpus.{Corpus}
use Rattle.task_events.specs.declared.request.ReindexAsk.{ReindexAsk}
use Rattle.task_events.specs.declared.request.Request.TheVariants as asks
use Rattle.task_events.specs.declared.request.SearchAsk.{SearchAsk}
use Rattle.node_link.specs.declared.page.Page.{Page}
use Rattle.task_events.specs.declared.request.ScrollAsk.{ScrollAsk}
use Rattle.reply_facts.specs.Letters.{IsPageFor, IsStartOf}
use Rattle.reply_facts.specs.Settings.{Setting, Sought, sought_by}
use Rattle.run_book.specs.declared.starts.Asks.TheVariants as asked
use Rattle.run_book.specs.Begun.{MayStart, reindex_asks, search_asks}
use Rattle.run_book.specs.Posts.{start_of}
use Rattle.run_book.specs.Runs.{IsSettingOf, setting_of}

pub setting_is : (cluster : Cluster) (corpus : Corpus) (script : List Command) → IsSettingOf script (setting_of cluster corpus script)
setting_is cluster corpus script = record { sought = λ k. refl; written = λ index. refl }

-- ---- the indices that are written

itself : (index : List ℕ) → bytes_eq index index ≡ true
itself index = (bytes_eq-Decides index index).1 refl

dest_among : (index : List ℕ) (script : List Command) (i : ℕ) (command : Command) → slice_get script i ≡ Some command → dest_of command ≡ Some index → list_any (bytes_eq index) (dests_of script) ≡ true
dest_among index [] i command at to = absurd cc
dest_among index (c ∷ script) zero command at to =
    let same : c ≡ command = cc in
    let here : dest_of c ≡ Some index = ap dest_of same ∙ to in
    rw (here, itself index) refl
dest_among index (c ∷ script) (suc i) command at to = by (dest_of c) (dest_among index script i command at to)
  where
    by_test : (dest : List ℕ) → list_any (bytes_eq index) (dests_of script) ≡ true → (bytes_eq index dest ≡ true) ⊎ (bytes_eq index dest ≡ false) → list_any (bytes_eq index) (cons_option (Some dest) (dests_of script)) ≡ true
    by_test dest later (inl same) = rw same refl
    by_test dest later (inr other) = rw other later

    by : (o : Option (List ℕ)) → list_any (bytes_eq index) (dests_of script) ≡ true → list_any (bytes_eq index) (cons_option o (dests_of script)) ≡ true
    by None later = later
    by (Some dest) later = by_test dest later (cases_Bool (bytes_eq index dest))

-- a copy writes where its body says
dest_asked : (read : ReindexBody) (slices : ℕ) (rate : Option ℕ) (ask : ReindexAsk) → reindex_ask read slices rate ≡ Some ask → read.dest ≡ ask.dest
unfolding ask_if
dest_asked read slices rate ask is = by_range (are_in_range read.batch slices rate) refl is
  where
    by_range : (b : Bool) (e : are_in_range read.batch slices rate ≡ b) → ask_if read slices rate b e ≡ Some ask → read.dest ≡ ask.dest
    by_range true e some = ap (λ o. option_map_or (λ (a : ReindexAsk). a.dest) o read.dest) some
    by_range false e some = absurd cc

module _ (run : Setting) (script : List Command) (is : IsSettingOf script run) (k : ℕ) where
  -- what the search of a command looks for
  pub sought_is : (command : Command) → slice_get script (k - 1) ≡ Some command → run.sought k ≡ option_map sought_by (search_of command)
  sought_is command at = is.sought k ∙ ap (λ o. option_map sought_by (option_and_then search_of o)) at

  search_tells : (command : Command) → slice_get script (k - 1) ≡ Some command → (ask : SearchAsk) → search_of command ≡ Some ask → IsStartOf run (start_of k k command (asks.Search ask) None)
  search_tells command at ask of =
      let sought : run.sought k ≡ Some (sought_by ask) = sought_is command at ∙ ap (option_map sought_by) of in
      record { request = subst (λ o. IfSome o (λ q. sought_by ask ≡ q)) (sym sought) refl; page = tt }

  reindex_tells : (command : Command) → slice_get script (k - 1) ≡ Some command → (ask : ReindexAsk) → search_of command ≡ None → dest_of command ≡ Some ask.dest → IsStartOf run (start_of k k command (asks.Reindex ask) None)
  reindex_tells command at ask none to =
      record { request = (sought_is command at ∙ ap (option_map sought_by) none, is.written ask.dest ∙ dest_among ask.dest script (k - 1) command at to); page = tt }

  module _ (known : List ℕ → Bool) where
    -- ---- a search

    pub search_may_start : (index : List ℕ) (node : ℕ) (scroll : Option ℕ) (body : _) (opaque_id : _) → slice_get script (k - 1) ≡ Some (Search index node scroll body opaque_id)
        → MayStart run k (Search index node scroll body opaque_id) (search_asks known index scroll (body_at (is_some scroll) (least_size scroll) body))
    search_may_start index node scroll body opaque_id at = by_read (body_at (is_some scroll) (least_size scroll) body) refl
      where
        by_known : (read : SearchBody) → search_of (Search index node scroll body opaque_id) ≡ Some (search_ask index scroll read) → (known index ≡ true) ⊎ (known index ≡ false) → MayStart run k (Search index node scroll body opaque_id) (search_asks known index scroll (Ok read))
        by_known read of (inl holds) = rw holds (refl, search_tells (Search index node scroll body opaque_id) at (search_ask index scroll read) of)
        by_known read of (inr fails) = rw fails tt

        by_read : (read : Result SearchBody BodyError) → body_at (is_some scroll) (least_size scroll) body ≡ read → MayStart run k (Search index node scroll body opaque_id) (search_asks known index scroll read)
        by_read (Err fault) of = tt
        by_read (Ok read) of = by_known read (rw of refl) (cases_Bool (known index))

    -- ---- a reindex

    pub reindex_may_start : (node : ℕ) (body : _) (slices : ℕ) (rate : Option ℕ) (opaque_id : _) (store : Bool) → slice_get script (k - 1) ≡ Some (Reindex node body slices rate opaque_id store)
        → IfSome (reindex_asks known slices rate (reindex_at body)) (MayStart run k (Reindex node body slices rate opaque_id store))
    reindex_may_start node body slices rate opaque_id store at = by_read (reindex_at body) refl
      where
        by_ask : (read : ReindexBody) → dest_of (Reindex node body slices rate opaque_id store) ≡ Some read.dest → (ask : Option ReindexAsk) → reindex_ask read slices rate ≡ ask → IfSome (option_map (λ a. asked.Task (asks.Reindex a)) ask) (MayStart run k (Reindex node body slices rate opaque_id store))
        by_ask read to None is = tt
        by_ask read to (Some ask) is = (refl, reindex_tells (Reindex node body slices rate opaque_id store) at ask refl (to ∙ ap Some (dest_asked read slices rate ask is)))

        by_known : (read : ReindexBody) → dest_of (Reindex node body slices rate opaque_id store) ≡ Some read.dest → (known read.source ≡ true) ⊎ (known read.source ≡ false) → IfSome (reindex_asks known slices rate (Ok read)) (MayStart run k (Reindex node body slices rate opaque_id store))
        by_known read to (inl holds) = rw holds (by_ask read to (reindex_ask read slices rate) refl)
        by_known read to (inr fails) = rw fails tt

        by_read : (read : Result ReindexBody ReindexError) → reindex_at body ≡ read → IfSome (reindex_asks known slices rate read) (MayStart run k (Reindex node body slices rate opaque_id store))
        by_read (Err fault) of = tt
        by_read (Ok read) of = by_known read (rw of refl) (cases_Bool (known read.source))

-- ---- a scroll

pub page_tells : (run : Setting) (k search : ℕ) (command : Command) (ask : ScrollAsk) (page : Page) → IsSomeAnd (run.sought search) (λ q. IsPageFor run q page) → IsStartOf run (start_of k search command (asks.Scroll ask) (Some page))
page_tells run k search command ask page is = record { request = tt; page = if_some (run.sought search) is }
  where
    if_some : (o : Option Sought) → IsSomeAnd o (λ q. IsPageFor run q page) → IfSome o (λ q. IsPageFor run q page)
    if_some None is = absurd is
    if_some (Some q) is = is
