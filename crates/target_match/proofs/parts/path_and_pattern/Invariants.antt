use Rattle.std.proofs.Common.{◌≡◌, ◌++◌, length}
use denote.Text.{Utf8}
use denote.Shadow.{shadow}
use Rattle.target_match.specs.Paths.{parts, path_of, after_path}
use Rattle.target_match.proofs.parts.path_and_pattern.Given as goal

abbrev pub invariant-loop-part : goal.invariant-loop-part
invariant-loop-part l =
    shadow (Utf8 l.rest) × (path_of (parts l.text) ≡ l.path.items ++ path_of (parts l.rest)) × (after_path (parts l.text) ≡ after_path (parts l.rest))

abbrev pub decreases-loop-part : goal.decreases-loop-part
decreases-loop-part l = length l.rest
