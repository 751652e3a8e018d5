-- How a call's answer is told, once for the whole repository.
use Rattle.std.specs.Prelude.{Ok, Err, Result}

-- a call's answer as its promise tells it: the value by its meaning, or the refusal by its number
abbrev pub told : {X Y E N : Type 0} → (X → Y) → (E → N) → Result X E → Result Y N
told f g (Ok x) = Ok (f x)
told f g (Err e) = Err (g e)
