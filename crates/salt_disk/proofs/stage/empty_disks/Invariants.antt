use Rattle.std.proofs.Common.{◌≡◌, map}
use Rattle.salt_disk.specs.Told.{fresh_disks}
use Rattle.salt_disk.proofs.StageLemmas.{mem_told}
use Rattle.salt_disk.proofs.stage.empty_disks.Given as goal

abbrev pub invariant-loop : goal.invariant-loop
invariant-loop l = map mem_told l.disks.items ≡ fresh_disks l.counter
