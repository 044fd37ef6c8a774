use Rattle.std.proofs.Common.{subst}
use Rattle.salt_disk.specs.Disk.{DiskState}
use Rattle.salt_disk.specs.Crash.{Image, MayLeave}
use Rattle.salt_disk.proofs.Moments.{one_call, goes_on, stays_on}
use Rattle.salt_disk.proofs.Torn.{synced_image}
use Rattle.gate_journal.proofs.read.read_synced.Goals as goal

pub returns-clause-any_moment : goal.returns-clause-any_moment
returns-clause-any_moment g c = λ told.
    let old = g.D.Disk.state c.args.disk.now in
    let mid = g.D.Disk.state c.sync.new.self in
    let back : (image : Image) → MayLeave mid image → MayLeave old image =
    λ image may. synced_image c.args.part old mid image (g.met.D.Disk.honest c.args.disk.now told) (c.in_ok-sync.ensures.ok told) may in
    let first = one_call g.D.Disk.past g.D.Disk.state c.args.disk.now c.sync.new.self (MayLeave old) (c.sync.ensures.time told) (λ image may. may) back in
    goes_on g.D.Disk.past g.D.Disk.state c.args.disk.now c.sync.new.self c.read_part.new.disk (MayLeave old) first (stays_on mid (g.D.Disk.state c.read_part.new.disk) (g.D.Disk.past c.sync.new.self) (g.D.Disk.past c.read_part.new.disk) (c.read_part.ensures.same told))
    (λ image may. back image (subst (λ (d : DiskState). MayLeave d image) (c.read_part.ensures.same told).state may))
