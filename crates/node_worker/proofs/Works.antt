-- What a worker did goes on.
use Rattle.std.proofs.Common.{◌≡◌, List, [], ◌∷◌, ◌++◌, refl, sym, ap, ◌∙◌, subst, append_assoc, append-nil, arith}
use Rattle.task_events.specs.declared.stop.Stop.{Stop}
use Rattle.node_link.specs.declared.body.Body.{Body}
use Rattle.node_link.specs.declared.rule.Tagged.{Tagged}
use Rattle.node_link.specs.declared.ends.Sender.{Sender}
use Rattle.node_link.specs.declared.ends.Receiver.{Receiver}
use Rattle.node_link.specs.Inbox.{got, SameInbox, TookOne}
use Rattle.node_worker.specs.declared.post.Post.{Post}
use Rattle.node_worker.specs.declared.halt.Halt.{Halt}
use Rattle.node_worker.specs.declared.halt.Halt.TheVariants.{Told, Failed}
use Rattle.node_worker.specs.Posts.{SentBut}
use Rattle.node_worker.specs.Turns.{Given, took, stepped, waited, Turn, letter_given, letters_given, posts_given, IsStop, GoesOn, Leads}
use Rattle.node_worker.specs.Work.{Stand, letters, Made, Did, Halted}
use Rattle.node_worker.proofs.Sending.{none_sent, sent_on, sent_before}

pub letters-append : {L : Type 0} (xs ys : List (Tagged L)) → letters (xs ++ ys) ≡ letters xs ++ letters ys
letters-append [] ys = refl
letters-append (x ∷ xs) ys = ap (λ l. x.letter ∷ l) (letters-append xs ys)

pub letters_one : (old new : Receiver Body) (letter : Body) → TookOne old new letter → letters (got new) ≡ letters (got old) ++ letter ∷ []
letters_one old new letter one = ap letters one.1 ∙ letters-append (got old) (record { from = one.0; letter = letter } ∷ [])

same_letters : (old new : Receiver Body) → new ≡ old → letters (got new) ≡ letters (got old) ++ []
same_letters old new same = ap (λ (i : Receiver Body). letters (got i)) same ∙ sym (append-nil (letters (got old)))

same_inbox : (old new : Receiver Body) → new ≡ old → SameInbox old new
same_inbox old new same = subst (λ (i : Receiver Body). SameInbox old i) (sym same) (refl, refl)

letters_given-append : (xs ys : List Turn) → letters_given (xs ++ ys) ≡ letters_given xs ++ letters_given ys
letters_given-append [] ys = refl
letters_given-append (x ∷ xs) ys = ap (λ (l : List Body). letter_given x.given ++ l) (letters_given-append xs ys) ∙ sym (append_assoc (letter_given x.given) (letters_given xs) (letters_given ys))

posts_given-append : (xs ys : List Turn) → posts_given (xs ++ ys) ≡ posts_given xs ++ posts_given ys
posts_given-append [] ys = refl
posts_given-append (x ∷ xs) ys = ap (λ (l : List (Post Body)). x.gave ++ l) (posts_given-append xs ys) ∙ sym (append_assoc x.gave (posts_given xs) (posts_given ys))

module _ {T : Type 0} (did : T → Given → List (Post Body) → T → Type 0) where
  leads_on : (u v w : T) (ts us : List Turn) → Leads did u ts v → Leads did v us w → Leads did u (ts ++ us) w
  leads_on u v w [] us same rest = subst (λ (x : T). Leads did x us w) (sym same) rest
  leads_on u v w (t ∷ ts) us lead rest = (lead.0, lead.1, lead.2, leads_on lead.0 v w ts us lead.3 rest)

  made_on : (a b c : Stand T) (ts us : List Turn) (over : List Body) → Made did a ts [] b → Made did b us over c → Made did a (ts ++ us) over c
  made_on a b c ts us over x y = record {
    leads = leads_on a.worker b.worker c.worker ts us x.leads y.leads;
    same = (y.same.0 ∙ x.same.0, y.same.1 ∙ x.same.1);
    took = y.took ∙ ap (λ (l : List Body). l ++ more) first ∙ append_assoc (letters (got a.inbox)) (letters_given ts) more
        ∙ ap (λ (l : List Body). letters (got a.inbox) ++ l) (sym (append_assoc (letters_given ts) (letters_given us) over) ∙ ap (λ (l : List Body). l ++ over) (sym (letters_given-append ts us)));
    sent = subst (λ (p : List (Post Body)). SentBut a.senders p c.senders c.kept) posts (sent_on a.senders b.senders c.senders ((a.kept ++ posts_given ts) ++ posts_given us) (b.kept ++ posts_given us) c.kept
        (sent_before a.senders b.senders (a.kept ++ posts_given ts) b.kept (posts_given us) x.sent) y.sent);
  }
    where
      more : List Body
      more = letters_given us ++ over

      first : letters (got b.inbox) ≡ letters (got a.inbox) ++ letters_given ts
      first = x.took ∙ ap (λ (l : List Body). letters (got a.inbox) ++ l) (append-nil (letters_given ts))

      posts : (a.kept ++ posts_given ts) ++ posts_given us ≡ a.kept ++ posts_given (ts ++ us)
      posts = append_assoc a.kept (posts_given ts) (posts_given us) ∙ ap (λ (l : List (Post Body)). a.kept ++ l) (sym (posts_given-append ts us))

  pub did_on : (a b c : Stand T) → Did did a b → Did did b c → Did did a c
  unfolding Did
  did_on a b c x y = (x.0 ++ y.0, made_on a b c x.0 y.0 [] x.1 y.1)

  pub halted_on : (a b c : Stand T) (halt : Halt) → Did did a b → Halted did halt b c → Halted did halt a c
  unfolding Did Halted
  halted_on a b c halt x y = record {
    turns = x.0 ++ y.turns;
    last = y.last;
    left = y.left;
    over = y.over;
    made = made_on a b _ x.0 y.turns y.over x.1 y.made;
    is_over = y.is_over;
  }

  -- with these senders and this kept nothing was sent
  unsent : (a b : Stand T) → b.senders ≡ a.senders → b.kept ≡ a.kept → SentBut a.senders a.kept b.senders b.kept
  unsent a b senders kept = subst (λ (x : List (Sender Body) × List (Post Body)). SentBut a.senders a.kept x.0 x.1) (λ i. (sym senders i, sym kept i)) (none_sent a.senders a.kept)

  -- no turn was made, and these letters were taken over
  quiet : (a b : Stand T) (over : List Body) → b.worker ≡ a.worker → SameInbox a.inbox b.inbox → letters (got b.inbox) ≡ letters (got a.inbox) ++ over → SentBut a.senders a.kept b.senders b.kept → Made did a [] over b
  quiet a b over worker same taken sent = record {
    leads = sym worker;
    same = same;
    took = taken;
    sent = subst (λ (p : List (Post Body)). SentBut a.senders p b.senders b.kept) (sym (append-nil a.kept)) sent;
  }

  pub did_send : (a b : Stand T) → b.worker ≡ a.worker → b.inbox ≡ a.inbox → SentBut a.senders a.kept b.senders b.kept → Did did a b
  unfolding Did
  did_send a b worker inbox sent = ([], quiet a b [] worker (same_inbox a.inbox b.inbox inbox) (same_letters a.inbox b.inbox inbox) sent)

  pub did_none : (a : Stand T) → Did did a a
  did_none a = did_send a a refl refl (none_sent a.senders a.kept)

  -- no letter came
  pub did_look : (a b : Stand T) → b.worker ≡ a.worker → SameInbox a.inbox b.inbox → got b.inbox ≡ got a.inbox → b.senders ≡ a.senders → b.kept ≡ a.kept → Did did a b
  unfolding Did
  did_look a b worker same taken senders kept = ([], quiet a b [] worker same (ap letters taken ∙ sym (append-nil (letters (got a.inbox)))) (unsent a b senders kept))

  -- one turn or step, of which nothing is sent yet
  once : (a b : Stand T) (given : Given) (posts : List (Post Body)) → GoesOn given → did a.worker given posts b.worker → SameInbox a.inbox b.inbox → letters (got b.inbox) ≡ letters (got a.inbox) ++ letter_given given → b.senders ≡ a.senders
      → b.kept ≡ a.kept ++ posts → Made did a (record { given = given; gave = posts } ∷ []) [] b
  once a b given posts goes step same taken senders kept = record {
    leads = (b.worker, goes, step, refl);
    same = same;
    took = taken ∙ ap (λ (l : List Body). letters (got a.inbox) ++ l) (sym (append-nil (letter_given given)) ∙ sym (append-nil (letter_given given ++ [])));
    sent = subst (λ (x : List (Sender Body) × List (Post Body)). SentBut a.senders (a.kept ++ (posts ++ [])) x.0 x.1) (λ i. (sym senders i, (ap (λ (l : List (Post Body)). a.kept ++ l) (append-nil posts) ∙ sym kept) i))
        (none_sent a.senders (a.kept ++ (posts ++ [])));
  }

  pub did_turn : (a b : Stand T) (letter : Body) (posts : List (Post Body)) → ¬ IsStop letter → did a.worker (took letter) posts b.worker → SameInbox a.inbox b.inbox → TookOne a.inbox b.inbox letter → b.senders ≡ a.senders
      → b.kept ≡ a.kept ++ posts → Did did a b
  unfolding Did
  did_turn a b letter posts goes step same one senders kept = (record { given = took letter; gave = posts } ∷ [], once a b (took letter) posts goes step same (letters_one a.inbox b.inbox letter one) senders kept)

  pub did_step : (a b : Stand T) (posts : List (Post Body)) → did a.worker stepped posts b.worker → b.inbox ≡ a.inbox → b.senders ≡ a.senders → b.kept ≡ a.kept ++ posts → Did did a b
  unfolding Did
  did_step a b posts step inbox senders kept = (record { given = stepped; gave = posts } ∷ [], once a b stepped posts tt step (same_inbox a.inbox b.inbox inbox) (same_letters a.inbox b.inbox inbox) senders kept)

  pub did_wait : (a b : Stand T) → did a.worker waited [] b.worker → b.inbox ≡ a.inbox → b.senders ≡ a.senders → b.kept ≡ a.kept → Did did a b
  unfolding Did
  did_wait a b step inbox senders kept = (record { given = waited; gave = [] } ∷ [], once a b waited [] tt step (same_inbox a.inbox b.inbox inbox) (same_letters a.inbox b.inbox inbox) senders (kept ∙ sym (append-nil a.kept)))

  -- where the last turn left it, with what it had not sent
  abbrev left_at : T → List (Post Body) → Stand T → Stand T
  left_at last left b = record { worker = last; inbox = b.inbox; senders = b.senders; kept = left }

  -- it halted, with no turn
  idle : (a b : Stand T) (over : List Body) → SameInbox a.inbox b.inbox → letters (got b.inbox) ≡ letters (got a.inbox) ++ over → b.senders ≡ a.senders → Made did a [] over (left_at a.worker a.kept b)
  idle a b over same taken senders = quiet a (left_at a.worker a.kept b) over refl same taken (unsent a (left_at a.worker a.kept b) senders refl)

  -- a letter told it to stop
  pub halted_told : (a b : Stand T) (letter : Body) (stop : Stop) → letter ≡ Body.Stop stop → SameInbox a.inbox b.inbox → TookOne a.inbox b.inbox letter → b.senders ≡ a.senders → Halted did (Told stop) a b
  unfolding Halted
  halted_told a b letter stop is same one senders = record {
    turns = [];
    last = a.worker;
    left = a.kept;
    over = letter ∷ [];
    made = idle a b (letter ∷ []) same (letters_one a.inbox b.inbox letter one) senders;
    is_over = ap (λ (l : Body). l ∷ []) is;
  }

  -- its turn failed
  pub halted_at : (a b : Stand T) (letter : Body) (stop : Stop) → SameInbox a.inbox b.inbox → TookOne a.inbox b.inbox letter → b.senders ≡ a.senders → Halted did (Failed stop) a b
  unfolding Halted
  halted_at a b letter stop same one senders = record {
    turns = [];
    last = a.worker;
    left = a.kept;
    over = letter ∷ [];
    made = idle a b (letter ∷ []) same (letters_one a.inbox b.inbox letter one) senders;
    is_over = omega arith;
  }

  -- its step failed
  pub halted_in : (a b : Stand T) (stop : Stop) → b.inbox ≡ a.inbox → b.senders ≡ a.senders → Halted did (Failed stop) a b
  unfolding Halted
  halted_in a b stop inbox senders = record {
    turns = [];
    last = a.worker;
    left = a.kept;
    over = [];
    made = idle a b [] (same_inbox a.inbox b.inbox inbox) (same_letters a.inbox b.inbox inbox) senders;
    is_over = omega arith;
  }

  -- it had no memory to keep what a turn gave
  pub halted_turn : (a b : Stand T) (letter : Body) (posts : List (Post Body)) (stop : Stop) → ¬ IsStop letter → did a.worker (took letter) posts b.worker → SameInbox a.inbox b.inbox → TookOne a.inbox b.inbox letter → b.senders ≡ a.senders
      → Halted did (Failed stop) a b
  unfolding Halted
  halted_turn a b letter posts stop goes step same one senders = record {
    turns = record { given = took letter; gave = posts } ∷ [];
    last = b.worker;
    left = a.kept ++ posts;
    over = [];
    made = once a (left_at b.worker (a.kept ++ posts) b) (took letter) posts goes step same (letters_one a.inbox b.inbox letter one) senders refl;
    is_over = omega arith;
  }

  -- the same of a step
  pub halted_step : (a b : Stand T) (posts : List (Post Body)) (stop : Stop) → did a.worker stepped posts b.worker → b.inbox ≡ a.inbox → b.senders ≡ a.senders → Halted did (Failed stop) a b
  unfolding Halted
  halted_step a b posts stop step inbox senders = record {
    turns = record { given = stepped; gave = posts } ∷ [];
    last = b.worker;
    left = a.kept ++ posts;
    over = [];
    made = once a (left_at b.worker (a.kept ++ posts) b) stepped posts tt step (same_inbox a.inbox b.inbox inbox) (same_letters a.inbox b.inbox inbox) senders refl;
    is_over = omega arith;
  }
