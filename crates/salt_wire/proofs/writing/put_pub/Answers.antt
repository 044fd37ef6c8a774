use Rattle.std.proofs.Common.{[], ◌∷◌}
use Rattle.salt_wire.specs.Spelling.{number}
use Rattle.salt_wire.proofs.WriteLemmas.{onto}
use Rattle.salt_wire.proofs.writing.put_pub.Goals as goal

pub returns-clause-ok : goal.returns-clause-ok
returns-clause-ok c =
    let o = c.args.out.now.items in
    let o1 = c.push.new.self.items in
    let o2 = c.put_u32.new.out.items in
    let all = c.put_job.new.out.items in
    onto o o1 all (1 ∷ []) _ c.in_ok-push.ensures.items (onto o1 o2 all (number c.args.seq) _ c.in_ok-put_u32.ensures.ok c.in_ok-put_job.ensures.ok)
