-- The words of the command line, why they were not read, and a run without any.
use Rattle.std.specs.Prelude.{◌≡◌, ◌≢◌, ℕ, List, [], drop, map, Option, None, Some, Result, Ok, Err, String, string_bytes}
use Rattle.std.specs.declared.vec.Vec.{Vec}
use Rattle.std.specs.declared.vec.IntoIter.{IntoIter}
use Rattle.std.specs.Vec.Iter.{into_iter_items}
use Rattle.std.specs.declared.io.Error.{Error}
use Rattle.std.specs.declared.io.ErrorKind.{ErrorKind}
use Rattle.std.specs.declared.io.ErrorKind.TheVariants.{InvalidData, OutOfMemory}
use Rattle.salt_replay.specs.Replay.{command}
use Rattle.salt_commands.specs.declared.words.Unread.{Unread}
use Rattle.salt_commands.specs.declared.words.Unread.TheVariants.{NotUtf8, NoMemory, Other}

-- the words among a program's arguments: all but the first, which is its name
abbrev pub words_among : {A B : Type 0} → IntoIter (String A) B → List (List ℕ)
words_among args = map string_bytes (drop 1 (into_iter_items args))

-- The words are those of the arguments that were given.
abbrev pub AreWordsOf : {A B C : Type 0} → Result (IntoIter (String A) B) Error → Vec (List ℕ) C → Type 0
AreWordsOf (Ok args) words = words.items ≡ words_among args
AreWordsOf (Err _) words = ⊥

-- Why the words were not read, by the kind of the system's error: a word that is no UTF-8 is invalid data.
abbrev pub cause_of : ErrorKind → Unread
cause_of InvalidData = NotUtf8
cause_of OutOfMemory = NoMemory
cause_of _ = Other

-- The words of a command: those that were read, none of them where one is no UTF-8, since no command has that one, and None where they
-- could not be read for another cause.
abbrev pub words_read : {A : Type 0} → Result (Vec (List ℕ) A) Unread → Option (List (List ℕ))
words_read (Ok words) = Some words.items
words_read (Err NotUtf8) = Some []
words_read (Err NoMemory) = None
words_read (Err Other) = None

-- There are words of a command, and they are not those of the one command that there is.
abbrev pub HasNoCommand : {A : Type 0} → Result (Vec (List ℕ) A) Unread → Type 0
HasNoCommand words = (words_read words ≢ None) × (words_read words ≢ Some command)

-- status 1, nothing read and nothing written
pub record IsIdle {S K : Type 0} (source source_now : S) (sink sink_now : K) (code : ℕ) : Type 0 where
  pub code_is : code ≡ 1
  pub source_is : source_now ≡ source
  pub sink_is : sink_now ≡ sink

-- Where there are no words of a command, nothing is run.
abbrev pub IdlesUnread : {A S K : Type 0} → Result (Vec (List ℕ) A) Unread → S → S → K → K → ℕ → Type 0
IdlesUnread words source source_now sink sink_now code =
    words_read words ≡ None → IsIdle source source_now sink sink_now code
