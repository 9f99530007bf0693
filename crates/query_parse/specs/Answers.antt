-- What a reader answers beside the function that it computes.
use Rattle.std.specs.Prelude.{◌≡◌, List, ℕ, Result, Ok, Err}
use Rattle.query_parse.specs.declared.fault.QueryFault.{QueryFault}
use Rattle.query_parse.specs.declared.fault.QueryError.{QueryError}
use Rattle.query_parse.specs.declared.fault.QueryError.TheVariants.{Bad, Memory}

infixl 10 ◌>>=◌
abbrev pub ◌>>=◌ : {A B E : Type 0} → Result A E → (A → Result B E) → Result B E
(Ok x) >>= f = f x
(Err e) >>= f = Err e

abbrev pub Fails : {Y : Type 0} → QueryError → Result Y QueryError → Type 0
Fails Memory read = Unit {0}
Fails (Bad p k) read = read ≡ Err (Bad p k)

-- What a reader returned, seen by view, is what reading gives, unless memory ran out.
abbrev pub Gives : {X Y : Type 0} → (X → Y) → Result X QueryError → Result Y QueryError → Type 0
Gives view (Ok x) read = read ≡ Ok (view x)
Gives view (Err e) read = Fails e read

-- the error of this fault, unless memory ran out
abbrev pub IsFault : QueryError → List ℕ → QueryFault → Type 0
IsFault Memory path kind = Unit {0}
IsFault (Bad p k) path kind = (p ≡ path) × (k ≡ kind)
