use Rattle.salt_disk.specs.History.{whole}
use Rattle.salt_disk.proofs.memory.MemDiskDisk.sync.Goals as goal

pub invariant_of-self-2-clause-replayed : goal.invariant_of-self-2-clause-replayed
invariant_of-self-2-clause-replayed c = c.sync_part.ensures.recorded.kept (whole c.args.self.now.root.items c.args.self.now.even.items c.args.self.now.odd.items) c.args.self.now.replayed

pub invariant_of-self-2-clause-bounded : goal.invariant_of-self-2-clause-bounded
invariant_of-self-2-clause-bounded c = c.sync_part.ensures.recorded.bounded (whole c.args.self.now.root.items c.args.self.now.even.items c.args.self.now.odd.items) c.args.self.now.bounded
