-- A stack as a list, the top first. No public contract cites it.
use Rattle.std.specs.Prelude.{◌≡◌, List, [], ◌∷◌, Option, MatchOption}

-- the top is taken off and answered, and none where there is no item
abbrev pub Pops : {A : Type 0} → List A → List A → Option A → Type 0
Pops old new answer = MatchOption answer ((old ≡ []) × (new ≡ [])) (λ top. old ≡ top ∷ new)
