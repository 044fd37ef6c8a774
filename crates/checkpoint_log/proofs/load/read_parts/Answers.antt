use Rattle.std.proofs.Common.{List, ℕ, subst, ◌∙◌}
use Rattle.salt_disk.specs.declared.disk.Part.TheVariants.{Root, Even, Odd}
use Rattle.salt_disk.specs.Crash.{MayLeave}
use Rattle.gate_journal.proofs.Making.{stands}
use Rattle.checkpoint_log.specs.Loading.{IsReadAs}
use Rattle.checkpoint_log.proofs.PartReads.{synced_bytes, same_bytes, synced_run, then_run}
use Rattle.checkpoint_log.proofs.load.read_parts.Goals as goal

pub returns-in_err-sync-clause-any_moment : goal.returns-in_err-sync-clause-any_moment
returns-in_err-sync-clause-any_moment g c = λ told.
    stands g.D.Disk.past g.D.Disk.state c.args.disk.now c.sync.new.self (MayLeave (g.D.Disk.state c.args.disk.now)) (c.in_err-sync.ensures.err told) (λ image may. may)

pub returns-in_err-root-clause-any_moment : goal.returns-in_err-root-clause-any_moment
returns-in_err-root-clause-any_moment g c = λ told.
    then_run g.D.Disk.past g.D.Disk.state c.args.disk.now c.sync.new.self c.load_part.new.disk
    (synced_run g.D.Disk.past g.D.Disk.state Odd c.args.disk.now c.sync.new.self (g.met.D.Disk.honest c.args.disk.now told) (c.in_ok-sync.ensures.ok told) (c.sync.ensures.time told))
    (c.load_part.ensures.any_moment told)

pub returns-in_err-even-clause-any_moment : goal.returns-in_err-even-clause-any_moment
returns-in_err-even-clause-any_moment g c = λ told.
    then_run g.D.Disk.past g.D.Disk.state c.args.disk.now c.load_part.new.disk c.load_part-2.new.disk
    (then_run g.D.Disk.past g.D.Disk.state c.args.disk.now c.sync.new.self c.load_part.new.disk
    (synced_run g.D.Disk.past g.D.Disk.state Odd c.args.disk.now c.sync.new.self (g.met.D.Disk.honest c.args.disk.now told) (c.in_ok-sync.ensures.ok told) (c.sync.ensures.time told))
    (c.load_part.ensures.any_moment told))
    (c.load_part-2.ensures.any_moment told)

pub returns-clause-any_moment : goal.returns-clause-any_moment
returns-clause-any_moment g c = λ told.
    then_run g.D.Disk.past g.D.Disk.state c.args.disk.now c.load_part.new.disk c.load_part-2.new.disk
    (then_run g.D.Disk.past g.D.Disk.state c.args.disk.now c.sync.new.self c.load_part.new.disk
    (synced_run g.D.Disk.past g.D.Disk.state Odd c.args.disk.now c.sync.new.self (g.met.D.Disk.honest c.args.disk.now told) (c.in_ok-sync.ensures.ok told) (c.sync.ensures.time told))
    (c.load_part.ensures.any_moment told))
    (c.load_part-2.ensures.any_moment told)

pub returns-clause-ok : goal.returns-clause-ok
returns-clause-ok g c = λ told.
    let old = g.D.Disk.state c.args.disk.now in
    let mid = g.D.Disk.state c.sync.new.self in
    let first = synced_bytes Odd old mid (c.in_ok-sync.ensures.ok told) in
    let second = same_bytes Root mid (g.D.Disk.state c.load_part.new.disk) (c.load_part.ensures.bytes told) (c.load_part.ensures.others told) in (
      subst (λ (l : List ℕ). IsReadAs Root l c.in_ok-root.root) (first Root) (c.in_ok-root.ensures.ok told),
      subst (λ (l : List ℕ). IsReadAs Even l c.in_ok-even.even) (second Even ∙ first Even) (c.in_ok-even.ensures.ok told),
    )
