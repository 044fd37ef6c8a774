-- However the stream is cut into feeds, the buffer holds what was not taken of it.
use Rattle.std.proofs.Common.{inl, List, [], ◌∷◌, ◌++◌, ℕ, None, refl, sym, subst, append_assoc, arith}
use Rattle.std.proofs.lemmas.List.{append-nil}
use Rattle.salt_frame.specs.Buffer.{BufferState, HoldsRest}
use Rattle.salt_frame.specs.Runs.{Event, fed, took, Runs, stream, bodies, AnyCutting}

holds : (es : List Event) (s : List ℕ) (taken : List (List ℕ)) (old new : BufferState) → HoldsRest s taken old → Runs old es new → HoldsRest (s ++ stream es) (taken ++ bodies es) new
holds [] s taken old new h r =
    subst (λ (l : List ℕ). HoldsRest l (taken ++ []) new) (sym (append-nil s))
    (subst (λ (l : List (List ℕ)). HoldsRest s l new) (sym (append-nil taken)) (subst (HoldsRest s taken) (sym r) h))
holds (fed p ∷ es) s taken old new h r =
    subst (λ (l : List ℕ). HoldsRest l (taken ++ bodies es) new) (append_assoc s p (stream es))
    (holds es (s ++ p) taken r.0 new (r.1 s taken h) r.2)
holds (took b ∷ es) s taken old new h r =
    subst (λ (l : List (List ℕ)). HoldsRest (s ++ stream es) l new) (append_assoc taken (b ∷ []) (bodies es))
    (holds es s (taken ++ b ∷ []) r.0 new (r.1 s taken h) r.2)

pub from_empty : AnyCutting
from_empty es new r = holds es [] [] (record { kept = []; over = None }) new start r where
  start : HoldsRest [] [] (record { kept = []; over = None })
  start = record { others = []; rest = []; reads = record { splits = record { whole = refl; each = tt }; ends = inl (omega arith) }; kept = refl }
