use Rattle.std.proofs.Common.{take}
use Rattle.fleet_config.specs.Places.{HasPlaces}
use Rattle.fleet_config.proofs.fleet.index.Given as goal

-- the nodes so far have their places
abbrev pub invariant-loop-i : goal.invariant-loop-i
invariant-loop-i l = HasPlaces (take l.i l.members) l.places
