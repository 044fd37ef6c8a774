use Rattle.std.proofs.Common.{rules}
use Rattle.salt_disk.proofs.Moments.{weakens}
use Rattle.gate_journal.specs.Journal.{HoldsOldOrNew}
use Rattle.checkpoint_log.specs.Additions.{IsOldOrNewLog}
use Rattle.checkpoint_log.proofs.Images.{old_or_new, held_after, stopped, left_after}
use Rattle.checkpoint_log.proofs.log.append_to.Goals as goal

pub returns-clause-held : goal.returns-clause-held
returns-clause-held g c = λ told not_disk content holds.
    held_after c.args.log.now content (g.D.Disk.state c.args.disk.now) holds (g.D.Disk.state c.append.new.disk) (c.append.ensures.others told) c.append.result c.append.new.self c.args.payload.now
    (search rules) (c.append.ensures.held told not_disk content.rest holds.rest)

pub returns-clause-any_moment : goal.returns-clause-any_moment
returns-clause-any_moment g c = λ told up content holds.
    let log = c.args.log.now in
    let disk = g.D.Disk.state c.args.disk.now in
    weakens g.D.Disk.past g.D.Disk.state c.args.disk.now c.append.new.disk (HoldsOldOrNew log.part log.limit content.rest c.args.payload.now disk) (IsOldOrNewLog log.limit content c.args.payload.now)
    (c.append.ensures.any_moment told up content.rest holds.rest) (old_or_new log content disk holds c.args.payload.now)

pub returns-clause-left : goal.returns-clause-left
returns-clause-left g c = λ told up content holds image may.
    left_after c.args.log.now content (g.D.Disk.state c.args.disk.now) holds (g.D.Disk.state c.append.new.disk) (c.append.ensures.others told) c.append.result c.args.payload.now image may
    (c.append.ensures.left told up content.rest holds.rest image may)

pub returns-clause-fuse : goal.returns-clause-fuse
returns-clause-fuse g c = λ told.
    let fuse = c.append.ensures.fuse told in
    record {
      passed = fuse.passed;
      not_passed = fuse.not_passed;
      stopped = λ failed content holds.
          stopped c.args.log.now content (g.D.Disk.state c.args.disk.now) holds (g.D.Disk.state c.append.new.disk) (c.append.ensures.others told) c.args.payload.now (g.D.Disk.fuse c.args.disk.now)
          (fuse.stopped failed content.rest holds.rest);
    }
