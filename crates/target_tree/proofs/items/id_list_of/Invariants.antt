use Rattle.std.proofs.Common.{◌≡◌, ◌++◌, length}
use Rattle.std.specs.List.{list_all}
use denote.Text.{Utf8}
use denote.Shadow.{shadow}
use Rattle.std.specs.Prelude.{true}
use Rattle.target_tree.specs.Words.{list_items, is_id}
use Rattle.target_tree.proofs.items.id_list_of.Given as goal

abbrev pub invariant-loop-item : goal.invariant-loop-item
invariant-loop-item l = shadow (Utf8 l.rest) × (list_items l.text ≡ l.ids ++ list_items l.rest) × (list_all is_id l.ids ≡ true)

abbrev pub decreases-loop-item : goal.decreases-loop-item
decreases-loop-item l = length l.rest
