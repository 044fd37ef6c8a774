use Rattle.std.proofs.Common.{◌≡◌, ◌++◌, ◌≤◌, ◌-◌, map, drop, length}
use Rattle.yaml_subset.specs.Rows.{indented_line, indented_lines, block_entry, entries, begins_entry}
use Rattle.yaml_subset.proofs.rows.entries.Given as goal

-- the entries so far, and then those of the lines that are left, are all entries
abbrev pub invariant-loop-found : goal.invariant-loop-found
invariant-loop-found l = (l.at ≤ length l.rest)
    × (map block_entry l.found.items ++ entries (begins_entry l.of_map l.column) (indented_line l.head) (indented_lines (drop l.at l.rest)) ≡ entries (begins_entry l.of_map l.column) (indented_line l.fn.first) (indented_lines l.rest))

abbrev pub decreases-loop-found : goal.decreases-loop-found
decreases-loop-found l = length l.rest - l.at
