use Rattle.std.proofs.Common.{take}
use Rattle.master_core.specs.Index.{IsIndexOf}
use Rattle.master_core.proofs.master.index.Given as goal

-- the ids so far are found at their places
abbrev pub invariant-loop-i : goal.invariant-loop-i
invariant-loop-i l = IsIndexOf (take l.i l.ids) l.places
