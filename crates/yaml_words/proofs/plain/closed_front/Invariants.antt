use Rattle.std.proofs.Common.{◌≡◌, ◌≤◌, drop, length}
use Rattle.yaml_words.specs.Plain.{closed_front}
use Rattle.yaml_words.proofs.MarkLemmas.{told_end}
use Rattle.yaml_words.proofs.plain.closed_front.Given as goal

-- the end that was met last, unless a later one is still to come
abbrev pub invariant-loop-at : goal.invariant-loop-at
invariant-loop-at l = (l.end ≤ length l.text) × (closed_front l.text ≡ told_end l.at (drop l.at l.text) l.end)
