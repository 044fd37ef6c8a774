use Rattle.std.proofs.Common.{arith, ◌≤◌, length, sym, subst}
use Rattle.salt_disk.specs.declared.disk.Part.TheVariants.{Root, Even}
use Rattle.salt_disk.specs.Disk.{PartState, part_of, IsSettled}
use Rattle.salt_disk.proofs.Moments.{weakens, joins}
use Rattle.salt_disk.proofs.Torn.{on_ok}
use Rattle.gate_journal.specs.Creation.{IsFresh, HoldsNothing}
use Rattle.checkpoint_log.specs.Creation.{IsFreshLog, HoldsNoPayload}
use Rattle.checkpoint_log.proofs.Images.{root_even, even_root}
use Rattle.checkpoint_log.proofs.Making.{making_even, making_root, made_log}
use Rattle.checkpoint_log.proofs.create.make_journals.Goals as goal

pub create-requires-in-Ok-clause-settled : goal.create-requires-in-Ok-clause-settled
create-requires-in-Ok-clause-settled g c = λ told.
    subst (λ (p : PartState). IsSettled p) (sym (c.create.ensures.others told Root root_even)) (c.requires.settled told).0

pub returns-in-Ok-clause-ok : goal.returns-in-Ok-clause-ok
returns-in-Ok-clause-ok g c = λ told.
    let new = g.D.Disk.state c.create-in-Ok.new.disk in
    on_ok c.create-in-Ok.result (IsFresh c.args.limit (part_of new Root)) (IsFreshLog c.args.limit new)
    (λ root. made_log c.args.limit new root (subst (λ (p : PartState). IsFresh c.args.limit p) (sym (c.create-in-Ok.ensures.others told Even even_root)) (c.in-Ok.ensures.ok told)))
    (c.create-in-Ok.ensures.ok told)

pub returns-in-Ok-clause-any_moment : goal.returns-in-Ok-clause-any_moment
returns-in-Ok-clause-any_moment g c = λ told.
    let old = g.D.Disk.state c.args.disk.now in
    let mid = g.D.Disk.state c.create.new.disk in
    let made = c.in-Ok.ensures.ok told in
    let short : length (part_of mid Even).bytes ≤ 17 = omega (arith, made.counts) in
    let root : length (part_of mid Root).bytes ≤ 17 = subst (λ (p : PartState). length p.bytes ≤ 17) (sym (c.create.ensures.others told Root root_even)) (c.requires.short told).1 in
    joins g.D.Disk.past g.D.Disk.state c.args.disk.now c.create.new.disk c.create-in-Ok.new.disk
    (HoldsNothing Even old) (HoldsNothing Root mid) HoldsNoPayload
    (c.create.ensures.any_moment told (c.requires.short told).0) (c.create-in-Ok.ensures.any_moment told root)
    (making_even old (c.requires.settled told).0 (c.requires.short told).1)
    (making_root mid made.rests.is_settled short)

pub returns-in-Ok-clause-not_empty : goal.returns-in-Ok-clause-not_empty
returns-in-Ok-clause-not_empty g c = λ told n e.
    let root : length (part_of (g.D.Disk.state c.create.new.disk) Root).bytes ≤ 17 = subst (λ (p : PartState). length p.bytes ≤ 17) (sym (c.create.ensures.others told Root root_even)) (c.requires.short told).1 in
    let is = c.create-in-Ok.ensures.not_empty n e in
    absurd (omega (arith, root, is.0, is.2 told))

pub returns-in-Err-clause-any_moment : goal.returns-in-Err-clause-any_moment
returns-in-Err-clause-any_moment g c = λ told.
    let old = g.D.Disk.state c.args.disk.now in
    weakens g.D.Disk.past g.D.Disk.state c.args.disk.now c.create.new.disk (HoldsNothing Even old) HoldsNoPayload
    (c.create.ensures.any_moment told (c.requires.short told).0) (making_even old (c.requires.settled told).0 (c.requires.short told).1)
