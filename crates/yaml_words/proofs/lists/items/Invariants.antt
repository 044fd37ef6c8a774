use Rattle.std.proofs.Common.{◌≡◌, ◌≤◌, ◌+◌, ◌-◌, [], length}
use denote.Text.{Utf8}
use denote.Shadow.{shadow}
use Rattle.yaml_words.specs.Lists.{items}
use Rattle.yaml_words.proofs.lists.items.Given as goal

-- the items so far, and then those of the text that is left, are all items
abbrev pub invariant-items : goal.invariant-items
invariant-items l = shadow (Utf8 l.rest)
    × (length l.items + length l.rest ≤ length l.text)
    × (items (length l.text - length l.items) l.line l.items l.rest ≡ items (length l.text) l.line [] l.text)

abbrev pub decreases-items : goal.decreases-items
decreases-items l = length l.rest
