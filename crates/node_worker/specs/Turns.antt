-- The turns and steps of a worker.
use Rattle.std.specs.Prelude.{◌≡◌, List, [], ◌∷◌, ◌++◌}
use Rattle.task_events.specs.declared.stop.Stop.{Stop}
use Rattle.node_link.specs.declared.body.Body.{Body}
use Rattle.node_worker.specs.declared.post.Post.{Post}

-- what a worker goes by: it took a letter, it did a step of its own, or it looked for a step to do and found none
pub data Given : Type 0 where
  took : Body → Given
  stepped : Given
  waited : Given

-- a turn or a step as it is listed: what it was given, and what it gave
pub record Turn : Type 0 where
  pub given : Given
  pub gave : List (Post Body)

abbrev pub letter_given : Given → List Body
letter_given (took letter) = letter ∷ []
letter_given stepped = []
letter_given waited = []

-- the letters of these turns, in order
abbrev pub letters_given : List Turn → List Body
letters_given [] = []
letters_given (t ∷ ts) = letter_given t.given ++ letters_given ts

-- what these turns gave, in order
abbrev pub posts_given : List Turn → List (Post Body)
posts_given [] = []
posts_given (t ∷ ts) = t.gave ++ posts_given ts

-- the letter says Stop
abbrev pub IsStop : Body → Type 0
IsStop letter = (stop : Stop) × (letter ≡ Body.Stop stop)

-- no worker goes on at a letter that says Stop
abbrev pub GoesOn : Given → Type 0
GoesOn (took letter) = ¬ IsStop letter
GoesOn stepped = Unit {0}
GoesOn waited = Unit {0}

-- these turns lead from one worker to another
abbrev pub Leads : {T : Type 0} → (T → Given → List (Post Body) → T → Type 0) → T → List Turn → T → Type 0
Leads did v [] w = v ≡ w
Leads {T} did v (t ∷ ts) w = (u : T) × GoesOn t.given × did v t.given t.gave u × Leads did u ts w
