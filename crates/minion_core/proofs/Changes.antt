-- What is held after a change, by the record and by the change.
use Rattle.std.proofs.Common.{◌≡◌, refl}
use Rattle.exec_functions.specs.declared.holdings.Holdings.{Holdings}
use Rattle.exec_functions.specs.declared.holdings.Change.{Change}
use Rattle.exec_functions.specs.declared.holdings.Change.TheVariants.{Nothing, Grains, Store, Mine}
use Rattle.exec_functions.specs.Exec.{with_change}
use Rattle.minion_core.specs.Flat.{changed_of, held_with}

pub changed_is : (change : Change) (held : Holdings) → held_with (changed_of change held) held ≡ with_change change held
changed_is Nothing held = refl
changed_is (Grains ps) held = refl
changed_is (Store ps) held = refl
changed_is (Mine ps) held = refl
