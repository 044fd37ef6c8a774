-- Answers that may be missing, for the functions that walk a tree. No public clause cites them.
use Rattle.std.specs.Prelude.{◌≡◌, ℕ, Bool, not, ◌&&◌, ◌||◌, List, Option, None, Some}
use Rattle.target_tree.specs.declared.target.Target.{Target}
use Rattle.target_match.specs.Holds.{Data, decision_by_id}

-- Both answers hold, if both are there. No public contract cites it.
abbrev pub both : Option Bool → Option Bool → Option Bool
both None b = None
both (Some a) None = None
both (Some a) (Some b) = Some (a && b)

-- One of two answers holds, if both are there. No public contract cites it.
abbrev pub either : Option Bool → Option Bool → Option Bool
either None b = None
either (Some a) None = None
either (Some a) (Some b) = Some (a || b)

-- The opposite of an answer, if it is there. No public contract cites it.
abbrev pub negation : Option Bool → Option Bool
negation None = None
negation (Some a) = Some (not a)

-- This is what the id decides of the target, whatever the grains and the pillar are. No public contract cites it.
abbrev pub IsDecisionById : Option Bool → Target → List ℕ → Type 0
IsDecisionById result tree id = (grains pillar : Data) → result ≡ decision_by_id tree id grains pillar
