-- What no call of its board changes, a control worker keeps.
use Rattle.std.proofs.Common.{◌≡◌, List, [], ◌∷◌, sym, ap, ◌∙◌}
use Rattle.node_boards.specs.Calls.{ControlCall}
use Rattle.control_worker.specs.declared.act.ControlAct.{ControlAct}
use Rattle.control_worker.specs.View.{View}
use Rattle.control_worker.specs.Steps.{Chain}
use Rattle.control_worker.specs.Turn.{Turned}
use Rattle.node_link.specs.declared.body.Body.{Body}
use Rattle.node_worker.specs.declared.post.Post.{Post}
use Rattle.node_worker.specs.Turns.{Given, took, stepped, waited}
use Rattle.node_worker.specs.Control.{Seen, Took, Said, Does}

module _ {B X : Type 0} (rests : B → B → ControlCall → Type 0) (f : B → X) (keeps : (b c : B) (call : ControlCall) → rests b c call → f c ≡ f b) where
  chain_keeps : (b : B) (calls : List ControlCall) (c : B) → Chain rests b calls c → f c ≡ f b
  chain_keeps b [] c same = ap f (sym same)
  chain_keeps b (call ∷ calls) c (m, rest, chain) = chain_keeps m calls c chain ∙ keeps b m call rest

  turned_keeps : (b : B) (v : View) (letter : Body) (acts : List ControlAct) (w : View) (c : B) → Turned rests b v letter acts w c → f c ≡ f b
  unfolding Turned
  turned_keeps b v letter acts w c (calls, chain, takes) = chain_keeps b calls c chain

  pub does_keeps : (v : Seen B) (given : Given) (posts : List (Post Body)) (w : Seen B) → Does rests v given posts w → f w.board ≡ f v.board
  unfolding Took Said
  does_keeps v (took letter) posts w t = turned_keeps v.board v.core letter t.acts w.core w.board t.turned
  does_keeps v stepped posts w said = ap (λ (u : Seen B). f u.board) said.now
  does_keeps v waited posts w d = ap (λ (u : Seen B). f u.board) d.1
