use Rattle.std.proofs.Common.{[], ◌∷◌}
use Rattle.salt_wire.proofs.WriteLemmas.{onto}
use Rattle.journal_records.proofs.writing.put_coded_job.Goals as goal

pub returns : goal.returns
returns c = onto c.args.out.now.items c.push.new.self.items c.write_job.new.out.items (c.args.code ∷ []) _ c.in_ok-push.ensures.items c.in_ok-write_job.ensures.ok
