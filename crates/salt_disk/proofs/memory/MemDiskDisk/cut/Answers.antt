use Rattle.salt_disk.specs.History.{whole}
use Rattle.salt_disk.proofs.memory.MemDiskDisk.cut.Goals as goal

pub invariant_of-self-clause-replayed : goal.invariant_of-self-clause-replayed
invariant_of-self-clause-replayed c = c.cut_part.ensures.recorded.kept (whole c.args.self.now.root.items c.args.self.now.even.items c.args.self.now.odd.items) c.args.self.now.replayed

pub invariant_of-self-clause-bounded : goal.invariant_of-self-clause-bounded
invariant_of-self-clause-bounded c = c.cut_part.ensures.recorded.bounded (whole c.args.self.now.root.items c.args.self.now.even.items c.args.self.now.odd.items) c.args.self.now.bounded
