use Rattle.std.proofs.Common.{arith}
use Rattle.journalled_node.proofs.Loads.{read_at, read_there, read_not}
use Rattle.journalled_node.proofs.loading.read_node.Goals as goal

pub returns-in-Ok-clause-ok : goal.returns-in-Ok-clause-ok
returns-in-Ok-clause-ok g c =
    let size = c.in-Ok.ensures.size in
    let counts = size.counts in
    let within = size.within in
    let most = size.greatest in
    read_at c.args.fleet.now c.args.me c.in-Ok.log c.in-Ok.content.rest.items (omega (arith, counts, within, most)) c.in-Ok.ensures.log.0 c.node_over_log.result c.node_over_log.ensures.ok

pub node_over_log-requires-clause-small : goal.node_over_log-requires-clause-small
node_over_log-requires-clause-small g c =
    let size = c.in-Ok.ensures.size in
    let counts = size.counts in
    let within = size.within in
    let most = size.greatest in
    omega (arith, counts, within, most)

pub returns-in-Ok-clause-disk : goal.returns-in-Ok-clause-disk
returns-in-Ok-clause-disk g c = λ told.
    let k = c.in-Ok.ensures in
    read_there g.D.Disk c.args.disk.now c.load.new.disk c.args.fleet.now c.args.me c.in-Ok.log c.in-Ok.content (k.ok told) k.log.1 (k.bytes told) (k.any_moment told)
    (k.settled told (λ e. absurd cc) (λ e. absurd cc)) ((k.fuse told).passed (λ e. absurd cc) (λ e. absurd cc)) c.node_over_log.result c.node_over_log.ensures.ok c.node_over_log.ensures.fault

pub returns-in-Err-clause-disk : goal.returns-in-Err-clause-disk
returns-in-Err-clause-disk g c = λ told.
    let k = c.in-Err.ensures in
    rw c.unread.ensures
    (read_not g.D.Disk c.args.disk.now c.load.new.disk c.args.fleet.now c.args.me c.in-Err.fault (k.any_moment told) (k.bytes told) (k.settled told) (k.fuse told) (k.fault told))
