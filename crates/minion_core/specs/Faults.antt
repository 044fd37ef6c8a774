-- Why a job was not run: its target, where a pattern of it cannot be matched with.
use Rattle.std.specs.Prelude.{◌≡◌, Result, Ok, Err, None, Some}
use Rattle.target_tree.specs.declared.target.Target.{Target}
use Rattle.target_match.specs.Holds.{NamesBigPattern}
use Rattle.target_match.specs.Readability.{unread_leaf}
use Rattle.minion_core.specs.declared.fault.RunFault.{RunFault}
use Rattle.minion_core.specs.declared.fault.RunFault.TheVariants.{NoMemory, BadPattern, TooBig}

-- After an answer each pattern of the target can be read. A bad pattern is the first that cannot be read, and one that is too big can be
-- read, as each one before it.
abbrev pub IsRunFault : {A : Type 0} → Result A RunFault → Target → Type 0
IsRunFault (Ok x) target = unread_leaf target ≡ None
IsRunFault (Err NoMemory) target = Unit {0}
IsRunFault (Err (BadPattern leaf)) target = unread_leaf target ≡ Some leaf
IsRunFault (Err (TooBig leaf)) target = NamesBigPattern target leaf
