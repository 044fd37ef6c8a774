-- The parts that are read with a space between them.
use Rattle.std.proofs.Common.{ℕ, ◌<◌, ◌^◌}
use Rattle.std.specs.Prelude.{decimal}
use Rattle.script_text.specs.Script.{IsPattern}
use Rattle.script_text.specs.Turns.{target_text}
use Rattle.script_text.proofs.Pairs.{Parts}
use Rattle.script_text.proofs.TurnParts.{solid_number}

pub publication_parts : Parts (λ (n : ℕ). n < 2 ^ 64) decimal IsPattern target_text
publication_parts = record { solid = solid_number }
