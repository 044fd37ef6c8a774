use Rattle.std.proofs.Common.{inl}
use Rattle.salt_disk.proofs.Moments.{started}
use Rattle.checkpoint_log.specs.Additions.{IsOldOrNewLog}
use Rattle.journal_records.specs.Spelling.{record_bytes}
use Rattle.journalled_node.proofs.keeping.keep.Goals as goal

pub returns-in-Err-clause-any_moment : goal.returns-in-Err-clause-any_moment
returns-in-Err-clause-any_moment g c = λ told up content holds.
    started g.D.Disk.past g.D.Disk.state c.args.disk.now (IsOldOrNewLog c.args.log.now.limit content (record_bytes c.args.deed.now))
    (λ image may. inl (c.logs_at_rest_are_left.ensures c.args.log.now content (g.D.Disk.state c.args.disk.now) holds image may))

pub returns-in-Err-clause-left : goal.returns-in-Err-clause-left
returns-in-Err-clause-left g c = λ told up content holds image may.
    c.logs_at_rest_are_left.ensures c.args.log.now content (g.D.Disk.state c.args.disk.now) holds image may
