-- What a buffer holds of a stream, and what each call makes of it.
use Rattle.std.specs.Prelude.{◌≡◌, ◌⊎◌, ℕ, List, [], ◌∷◌, ◌++◌, Option, Some, None, Result, IsErrOf, refl}
use Rattle.std.specs.Borrow.{Bor}
use Rattle.std.specs.Int.{w32, to_be_bytes}
use Rattle.std.specs.Option.{option_copied}
use Rattle.std.specs.Coded.{Coded, code_by, coded×, coded_ℕ, coded_list, coded_option}
use Rattle.salt_frame.specs.Frames.{frame, frames, IsBody, Reads, HasOver}
use Rattle.salt_frame.specs.declared.fault.FeedFault.{FeedFault}
use Rattle.salt_frame.specs.declared.fault.FeedFault.TheVariants.{TooLarge, NoMemory}

-- the bytes after the frames that were taken, and the length over the limit that came
pub record BufferState : Type 0 where
  pub kept : List ℕ
  pub over : Option ℕ

-- how contracts see it
abbrev pub buffer_code : Coded BufferState
buffer_code = code_by (List ℕ × Option ℕ) (coded× (coded_list coded_ℕ) (coded_option coded_ℕ)) (λ h. (h.kept, h.over)) (λ p. record { kept = p.0; over = p.1 }) (λ _. refl)

-- what is kept of the rest: of a length over the limit its four bytes alone
abbrev pub kept_of : Option ℕ → List ℕ → List ℕ
kept_of None rest = rest
kept_of (Some n) rest = to_be_bytes w32 n

-- of this stream the first bodies are taken: the others, and what is kept of the rest, are held
pub record HoldsRest (stream : List ℕ) (taken : List (List ℕ)) (h : BufferState) : Type 0 where
  pub others : List (List ℕ)
  pub rest : List ℕ
  pub reads : Reads stream (taken ++ others) h.over rest
  pub kept : h.kept ≡ frames others ++ kept_of h.over rest

-- where no length over the limit came, the piece is kept after the bytes before it, and no frame of these is taken
abbrev pub KeepsPiece : BufferState → List ℕ → BufferState → Type 0
KeepsPiece old piece new =
    (old.over ≡ None) × (new ≡ record { kept = old.kept ++ piece; over = None }) × HoldsRest (old.kept ++ piece) [] new

-- a length over the limit that is answered for the first time is held, after the frames before it
abbrev pub HoldsOver : {A : Type 0} → BufferState → List ℕ → BufferState → Result A FeedFault → Type 0
HoldsOver old piece new result = (n : ℕ) → IsErrOf result (TooLarge n) → old.over ≡ None
    → (new.over ≡ Some n) × HoldsRest (old.kept ++ piece) [] new

-- a length over the limit in what is kept and the piece is answered, unless memory runs out
abbrev pub AnswersOver : {A : Type 0} → BufferState → List ℕ → Result A FeedFault → Type 0
AnswersOver old piece result = (n : ℕ) → old.over ≡ None → HasOver n (old.kept ++ piece)
    → IsErrOf result (TooLarge n) ⊎ IsErrOf result NoMemory

-- a length over the limit that is held is answered again, and nothing changes
abbrev pub AnswersOverAgain : {A : Type 0} → BufferState → BufferState → Result A FeedFault → Type 0
AnswersOverAgain old new result = (n : ℕ) → old.over ≡ Some n → IsErrOf result (TooLarge n) × (new ≡ old)

-- of each stream of which the old holds what was not taken, the new does so once this piece came
abbrev pub Feeds : BufferState → List ℕ → BufferState → Type 0
Feeds old piece new = (stream : List ℕ) (taken : List (List ℕ)) → HoldsRest stream taken old → HoldsRest (stream ++ piece) taken new

-- and once this body was taken
abbrev pub Lends : BufferState → List ℕ → BufferState → Type 0
Lends old body new = (stream : List ℕ) (taken : List (List ℕ)) → HoldsRest stream taken old → HoldsRest stream (taken ++ body ∷ []) new

-- the body of the first frame is taken, or nothing
pub record TakesNext (old : BufferState) (taken : Option (List ℕ)) (new : BufferState) : Type 0 where
  pub some : (body : List ℕ) → taken ≡ Some body → IsBody body × (old.kept ≡ frame body ++ new.kept) × (new.over ≡ old.over)
  pub none : taken ≡ None → new ≡ old
  -- of each stream it is the next one
  pub stream : (body : List ℕ) → taken ≡ Some body → Lends old body new
  -- a whole frame that is left is the one that is taken
  pub whole : (body more : List ℕ) → IsBody body → old.kept ≡ frame body ++ more → (taken ≡ Some body) × (new.kept ≡ more)

-- what is taken is lent
abbrev pub LendsNext : BufferState → Option (Bor (List ℕ)) → BufferState → Type 0
LendsNext old lent new = TakesNext old (option_copied lent) new
