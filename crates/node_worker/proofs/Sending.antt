-- How what is kept goes on to be sent.
use Rattle.std.proofs.Common.{◌≡◌, ◌≢◌, ◌⊎◌, ◌==◌, ℕ, zero, suc, ◌≤◌, Bool, true, false, List, [], ◌∷◌, ◌++◌, length, set, Some, refl, sym, ap, ◌∙◌, subst, inl, inr, ⊎_elim, append_assoc, append-nil, eq-eqb, ne_eqb, arith, get_or, length-set}
use Rattle.std.specs.Prelude.{slice_get}
use Rattle.std.proofs.lemmas.Option.{slice_get_within, slice_get-get_or}
use Rattle.node_link.specs.Rule.{kept}
use Rattle.node_link.specs.Inbox.{put, IsSame}
use Rattle.node_link.specs.declared.ends.Sender.{Sender}
use Rattle.node_worker.specs.declared.post.Post.{Post}
use Rattle.node_worker.specs.Posts.{for_inbox, SentBut}

pub Some_injective : {E : Type 0} (x y : E) → Some x ≡ Some y → x ≡ y
Some_injective x y e = cc

get_set : {E : Type 0} (xs : List E) (i j : ℕ) (y t : E) → slice_get (set xs i y) j ≡ Some t → ((j ≡ i) × (y ≡ t)) ⊎ ((j ≢ i) × (slice_get xs j ≡ Some t))
get_set [] i j y t e = absurd (cc)
get_set (x ∷ xs) zero zero y t e = inl (refl, Some_injective y t e)
get_set (x ∷ xs) zero (suc j) y t e = inr ((λ h. omega arith), e)
get_set (x ∷ xs) (suc i) zero y t e = inr ((λ h. omega arith), e)
get_set (x ∷ xs) (suc i) (suc j) y t e = ⊎_elim (λ p. inl (ap suc p.0, p.1)) (λ p. inr ((λ h. let n = p.0 in n (omega arith)), p.1)) (get_set xs i j y t e)

module _ {L : Type 0} where
  kept_append : (b : Bool) (x : L) (xs ys : List L) → kept b x (xs ++ ys) ≡ kept b x xs ++ ys
  kept_append true x xs ys = refl
  kept_append false x xs ys = refl

  pub for_inbox-append : (j : ℕ) (xs ys : List (Post L)) → for_inbox j (xs ++ ys) ≡ for_inbox j xs ++ for_inbox j ys
  for_inbox-append j [] ys = refl
  for_inbox-append j (x ∷ xs) ys = ap (kept (x.to == j) x.letter) (for_inbox-append j xs ys) ∙ kept_append (x.to == j) x.letter (for_inbox j xs) (for_inbox j ys)

  is_same : (s t : Sender L) → s ≡ t → IsSame s t
  is_same s t e = subst (λ (x : Sender L). IsSame s x) e (refl, refl)

  pub none_sent : (old : List (Sender L)) (posts : List (Post L)) → SentBut old posts old posts
  unfolding SentBut
  none_sent old posts = (refl, λ j s t a b. let same : s ≡ t = Some_injective s t (sym a ∙ b) in (is_same s t same, ap (λ x. put x ++ for_inbox j posts) (sym same)))

  pub sent_on : (old mid new : List (Sender L)) (posts left rest : List (Post L)) → SentBut old posts mid left → SentBut mid left new rest → SentBut old posts new rest
  unfolding SentBut
  sent_on old mid new posts left rest a b = (b.0 ∙ a.0, step)
    where
      step : (j : ℕ) (s t : Sender L) → slice_get old j ≡ Some s → slice_get new j ≡ Some t → IsSame s t × (put t ++ for_inbox j rest ≡ put s ++ for_inbox j posts)
      step j s t p q =
          let within = slice_get_within old j s p in
          let m = get_or mid j s in
          let len = a.0 in
          let there : slice_get mid j ≡ Some m = slice_get-get_or mid j s (omega arith) in
          let one = a.1 j s m p there in
          let two = b.1 j m t there q in
          ((two.0.0 ∙ one.0.0, two.0.1 ∙ one.0.1), two.1 ∙ one.1)

  -- more posts wait behind those
  pub sent_before : (old new : List (Sender L)) (posts left more : List (Post L)) → SentBut old posts new left → SentBut old (posts ++ more) new (left ++ more)
  unfolding SentBut
  sent_before old new posts left more a = (
    a.0,
    λ j s t p q. let one = a.1 j s t p q in (
      one.0,
      ap (λ l. put t ++ l) (for_inbox-append j left more) ∙ sym (append_assoc (put t) (for_inbox j left) (for_inbox j more)) ∙ ap (λ l. l ++ for_inbox j more) one.1
          ∙ append_assoc (put s) (for_inbox j posts) (for_inbox j more) ∙ ap (λ l. put s ++ l) (sym (for_inbox-append j posts more)),
    ),
  )

  -- one post was sent, by the sender at its number
  pub one_sent : (old : List (Sender L)) (post : Post L) (s t : Sender L) → slice_get old post.to ≡ Some s → IsSame s t → put t ≡ put s ++ post.letter ∷ [] → SentBut old (post ∷ []) (set old post.to t) []
  unfolding SentBut
  one_sent old post s t at same more = (length-set old post.to t, step)
    where
      step : (j : ℕ) (x y : Sender L) → slice_get old j ≡ Some x → slice_get (set old post.to t) j ≡ Some y → IsSame x y × (put y ++ [] ≡ put x ++ for_inbox j (post ∷ []))
      step j x y p q = ⊎_elim
          (λ (h : (j ≡ post.to) × (t ≡ y)).
          let sx : s ≡ x = Some_injective s x (sym at ∙ ap (slice_get old) (sym h.0) ∙ p) in
          let here : IsSame x y = subst (λ (z : Sender L × Sender L). IsSame z.0 z.1) (λ i. (sx i, h.1 i)) same in
          (here, append-nil (put y) ∙ ap put (sym h.1) ∙ more ∙ ap (λ z. put z ++ post.letter ∷ []) sx ∙ ap (λ b. put x ++ kept b post.letter []) (sym (eq-eqb post.to j (sym h.0)))))
          (λ (h : (j ≢ post.to) × (slice_get old j ≡ Some y)).
          let xy : x ≡ y = Some_injective x y (sym p ∙ h.1) in
          (is_same x y xy, ap (λ z. put z ++ []) (sym xy) ∙ ap (λ b. put x ++ kept b post.letter []) (sym (ne_eqb post.to j (λ e. h.0 (sym e))))))
          (get_set old post.to j t y q)

  -- a post for no inbox is passed over
  pub passed_over : (old : List (Sender L)) (post : Post L) → length old ≤ post.to → SentBut old (post ∷ []) old []
  unfolding SentBut
  passed_over old post out = (
    refl,
    λ j s t p q.
        let st : s ≡ t = Some_injective s t (sym p ∙ q) in
        let within = slice_get_within old j s p in
        (is_same s t st, ap (λ z. put z ++ []) (sym st) ∙ ap (λ b. put s ++ kept b post.letter []) (sym (ne_eqb post.to j (λ e. omega arith)))),
  )

  -- one sender was used, and sent nothing
  pub none_sent_by : (old : List (Sender L)) (posts : List (Post L)) (n : ℕ) (s t : Sender L) → slice_get old n ≡ Some s → IsSame s t → put t ≡ put s → SentBut old posts (set old n t) posts
  unfolding SentBut
  none_sent_by old posts n s t at same more = (length-set old n t, step)
    where
      step : (j : ℕ) (x y : Sender L) → slice_get old j ≡ Some x → slice_get (set old n t) j ≡ Some y → IsSame x y × (put y ++ for_inbox j posts ≡ put x ++ for_inbox j posts)
      step j x y p q = ⊎_elim
          (λ (h : (j ≡ n) × (t ≡ y)).
          let sx : s ≡ x = Some_injective s x (sym at ∙ ap (slice_get old) (sym h.0) ∙ p) in
          let here : IsSame x y = subst (λ (z : Sender L × Sender L). IsSame z.0 z.1) (λ i. (sx i, h.1 i)) same in
          (here, ap (λ l. l ++ for_inbox j posts) (ap put (sym h.1) ∙ more ∙ ap put sx)))
          (λ (h : (j ≢ n) × (slice_get old j ≡ Some y)).
          let xy : x ≡ y = Some_injective x y (sym p ∙ h.1) in
          (is_same x y xy, ap (λ z. put z ++ for_inbox j posts) (sym xy)))
          (get_set old n j t y q)
