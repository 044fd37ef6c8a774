use Rattle.std.proofs.Common.{◌≡◌, ◌++◌, ◌+◌, length}
use Rattle.script_text.specs.Lines.{lines_of}
use Rattle.script_text.specs.Draft.{IsDraft, draft_lines}
use Rattle.script_text.proofs.script.read_script.Given as goal

-- the lines that were read and those that are left are all lines
abbrev pub invariant-loop-line : goal.invariant-loop-line
invariant-loop-line l = record {
  draft : IsDraft l.draft;
  lines : draft_lines l.draft ++ lines_of l.rest ≡ lines_of l.text;
  count : l.number ≡ length (draft_lines l.draft) + 1;
}

abbrev pub decreases-loop-line : goal.decreases-loop-line
decreases-loop-line l = length (lines_of l.rest)
