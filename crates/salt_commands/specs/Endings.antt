-- How an example ends: its status, and what its run wrote as it is compared with what was wanted.
use Rattle.std.specs.Prelude.{◌≡◌, ◌≢◌, ◌<◌, ◌↔◌, ℕ, List, length, IsTrue}
use Rattle.script_text.specs.declared.script.Script.{Script}
use Rattle.script_text.specs.Script.{Spells, most_script_bytes}
use Rattle.script_text.specs.Refusals.{IsRefusedAt}
use Rattle.salt_replay.specs.Replay.{IsReplayStatus, text_of_script, refused_line, full_source_line}
use Rattle.salt_commands.specs.declared.example.Ending.{Ending}

-- a status of a replay, but neither 4 nor 5, since neither its source nor its sink can fail
abbrev pub IsExampleStatus : ℕ → Type 0
IsExampleStatus code = IsReplayStatus code × (code ≢ 4) × (code ≢ 5)

-- The ending says that it is as wanted exactly where this text was wanted.
abbrev pub Compares : List ℕ → List ℕ → Ending → Type 0
Compares text wanted ending = IsTrue ending.is_as_wanted ↔ (wanted ≡ text)

-- Status 0 says that the bytes spell a script, and its text is what is compared.
abbrev pub TellsText : List ℕ → List ℕ → Ending → Type 0
TellsText bytes wanted ending =
    ending.code ≡ 0 → (s : Script) × Spells s bytes × Compares (text_of_script s) wanted ending

-- Status 3 says that the bytes are refused at a line, and the line that tells this one is what is compared.
abbrev pub TellsRefusal : List ℕ → List ℕ → Ending → Type 0
TellsRefusal bytes wanted ending =
    ending.code ≡ 3 → (n : ℕ) × IsRefusedAt n bytes × Compares (refused_line n) wanted ending

-- Status 12 says that there are too many bytes, and the line of that is what is compared.
abbrev pub TellsTooLong : List ℕ → List ℕ → Ending → Type 0
TellsTooLong bytes wanted ending =
    ending.code ≡ 12 → (most_script_bytes < length bytes) × Compares full_source_line wanted ending
