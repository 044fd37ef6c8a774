-- What writes of pieces do to the bytes that a writer of std holds, where they are known.
use Rattle.std.proofs.Common.{◌≡◌, ℕ, ◌+◌, ◌-◌, ◌≤◌, List, take, drop, length, subst, length-drop, arith}
use Rattle.std.specs.Prelude.{Option}
use Rattle.std.specs.Io.KnownBytes.{Appends, Keeps}
use Rattle.std.proofs.KnownBytes.{Appends-trans, Appends-kept}
use Rattle.std.proofs.Math.Seq.{take-add}
use Rattle.std.proofs.lemmas.List.{take-append-drop, take_all}
use Rattle.salt_outside.specs.StandardWrites.{AppendsPart}

-- a slice to the end is all that comes after its start
rest_whole : (bytes : List ℕ) (done : ℕ) → take (length bytes - done) (drop done bytes) ≡ drop done bytes
rest_whole bytes done = take_all _ _ (rw length-drop (omega arith))

-- one piece more
pub appends_more : (old mid new : Option (List ℕ)) (bytes : List ℕ) (done count : ℕ) → Appends old mid (take done bytes)
    → Appends mid new (take count (take (length bytes - done) (drop done bytes))) → Appends old new (take (done + count) bytes)
appends_more old mid new bytes done count a b =
    let P : List ℕ → Type 0 = λ t. Appends mid new (take count t) in
    rw take-add (Appends-trans old mid new (take done bytes) (take count (drop done bytes)) a (subst P (rest_whole bytes done) b))

-- all pieces, and a flush
pub appends_all : (old mid new : Option (List ℕ)) (bytes : List ℕ) (done : ℕ) → length bytes ≤ done → Appends old mid (take done bytes) → Keeps mid new → Appends old new bytes
appends_all old mid new bytes done h a k = let P : List ℕ → Type 0 = λ t. Appends old new t in subst P (take_all done bytes h) (Appends-kept old mid new (take done bytes) a k)

-- the pieces so far
pub appends_front : (old new : Option (List ℕ)) (bytes : List ℕ) (done : ℕ) → Appends old new (take done bytes) → AppendsPart old new bytes
appends_front old new bytes done a = record {
  front = take done bytes;
  rest = drop done bytes;
  whole = take-append-drop done bytes;
  written = a;
}

-- the pieces before a fault
pub appends_part : (old mid new : Option (List ℕ)) (bytes : List ℕ) (done : ℕ) → Appends old mid (take done bytes) → Keeps mid new → AppendsPart old new bytes
appends_part old mid new bytes done a k = appends_front old new bytes done (Appends-kept old mid new (take done bytes) a k)
