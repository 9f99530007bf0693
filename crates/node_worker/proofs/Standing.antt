-- Letters that are passed over, and how a worker comes to stop.
use Rattle.std.proofs.Common.{◌≡◌, List, [], ◌∷◌, ◌++◌, refl, sym, ap, ◌∙◌, subst, append_assoc, append-nil}
use Rattle.task_events.specs.declared.stop.Stop.{Stop}
use Rattle.node_link.specs.declared.body.Body.{Body}
use Rattle.node_link.specs.declared.ends.Sender.{Sender}
use Rattle.node_link.specs.declared.ends.Receiver.{Receiver}
use Rattle.node_link.specs.Inbox.{got, SameInbox, TookOne}
use Rattle.node_worker.specs.declared.post.Post.{Post}
use Rattle.node_worker.specs.declared.halt.Halt.TheVariants.{Told, Failed}
use Rattle.node_worker.specs.Posts.{SentBut}
use Rattle.node_worker.specs.Turns.{Given, letters_given}
use Rattle.node_worker.specs.Work.{Stand, letters, Made, PassedOver, HeardStop, Halted, Stopped}
use Rattle.node_worker.proofs.Sending.{none_sent}
use Rattle.node_worker.proofs.Works.{letters_one}

pub passed_same : (old : Receiver Body) → PassedOver old old
unfolding PassedOver
passed_same old = ((refl, refl), ([], sym (append-nil (letters (got old)))))

pub passed_none : (old new : Receiver Body) → SameInbox old new → got new ≡ got old → PassedOver old new
unfolding PassedOver
passed_none old new same took = (same, ([], ap letters took ∙ sym (append-nil (letters (got old)))))

pub passed_one : (old new : Receiver Body) (letter : Body) → SameInbox old new → TookOne old new letter → PassedOver old new
unfolding PassedOver
passed_one old new letter same one = (same, (letter ∷ [], letters_one old new letter one))

pub heard_one : (old new : Receiver Body) (letter : Body) (stop : Stop) → SameInbox old new → TookOne old new letter → letter ≡ Body.Stop stop → HeardStop old new
unfolding HeardStop
heard_one old new letter stop same one is = (same, ([], stop, letters_one old new letter one ∙ ap (λ (l : Body). letters (got old) ++ l ∷ []) is))

pub passed_on : (a b c : Receiver Body) → PassedOver a b → PassedOver b c → PassedOver a c
unfolding PassedOver
passed_on a b c x y = ((y.0.0 ∙ x.0.0, y.0.1 ∙ x.0.1), (x.1.0 ++ y.1.0, y.1.1 ∙ ap (λ (l : List Body). l ++ y.1.0) x.1.1 ∙ append_assoc (letters (got a)) x.1.0 y.1.0))

pub heard_on : (a b c : Receiver Body) → PassedOver a b → HeardStop b c → HeardStop a c
unfolding PassedOver HeardStop
heard_on a b c x y =
    let stop : List Body = Body.Stop y.1.1 ∷ [] in (
      (y.0.0 ∙ x.0.0, y.0.1 ∙ x.0.1),
      (
        x.1.0 ++ y.1.0,
        y.1.1,
        y.1.2 ∙ ap (λ (l : List Body). l ++ (y.1.0 ++ stop)) x.1.1 ∙ append_assoc (letters (got a)) x.1.0 (y.1.0 ++ stop) ∙ ap (λ (l : List Body). letters (got a) ++ l) (sym (append_assoc x.1.0 y.1.0 stop)),
      ),
    )

module _ {T : Type 0} (did : T → Given → List (Post Body) → T → Type 0) where
  -- it was told to stop, and said nothing
  pub stopped_told : (a b : Stand T) (stop : Stop) → Halted did (Told stop) a b → Stopped did stop a b.inbox b.senders
  unfolding Halted Stopped
  stopped_told a b stop h = record {
    turns = h.turns;
    last = h.last;
    left = h.left;
    passed = [];
    cause = stop;
    middle = b.senders;
    made = subst (λ (over : List Body). Made did a h.turns over (record { worker = h.last; inbox = b.inbox; senders = b.senders; kept = h.left })) h.is_over h.made;
    driver = 0;
    unsaid = record { to = 0; letter = Body.Stopped stop } ∷ [];
    said = none_sent b.senders (record { to = 0; letter = Body.Stopped stop } ∷ []);
  }

  -- it failed, and was told to stop
  pub stopped_failed : (a b : Stand T) (inbox : Receiver Body) (senders : List (Sender Body)) (stop : Stop) (farewell : Post Body) (left : List (Post Body)) → Halted did (Failed stop) a b → farewell.letter ≡ Body.Stopped stop → HeardStop b.inbox inbox
      → SentBut b.senders (farewell ∷ []) senders left → Stopped did stop a inbox senders
  unfolding Halted Stopped HeardStop
  stopped_failed a b inbox senders stop farewell left h is heard sent = record {
    turns = h.turns;
    last = h.last;
    left = h.left;
    passed = h.over ++ heard.1.0;
    cause = heard.1.1;
    middle = b.senders;
    made = record {
      leads = h.made.leads;
      same = (heard.0.0 ∙ h.made.same.0, heard.0.1 ∙ h.made.same.1);
      took = heard.1.2 ∙ ap (λ (l : List Body). l ++ rest) h.made.took ∙ append_assoc (letters (got a.inbox)) (letters_given h.turns ++ h.over) rest
          ∙ ap (λ (l : List Body). letters (got a.inbox) ++ l) (append_assoc (letters_given h.turns) h.over rest ∙ ap (λ (l : List Body). letters_given h.turns ++ l) (sym (append_assoc h.over heard.1.0 (Body.Stop heard.1.1 ∷ []))));
      sent = h.made.sent;
    };
    driver = farewell.to;
    unsaid = left;
    said = subst (λ (l : Body). SentBut b.senders (record { to = farewell.to; letter = l } ∷ []) senders left) is sent;
  }
    where
      rest : List Body
      rest = heard.1.0 ++ Body.Stop heard.1.1 ∷ []
