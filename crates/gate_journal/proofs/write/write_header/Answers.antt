use Rattle.std.proofs.Common.{◌≡◌, ◌≤◌, [], ◌∷◌, length, refl, ◌∙◌, ap, arith}
use Rattle.salt_disk.specs.Disk.{PartState, part_of, settled_part, put}
use Rattle.salt_disk.specs.Crash.{WritesOnly}
use Rattle.salt_disk.proofs.Moments.{joins, weakens}
use Rattle.salt_disk.proofs.Torn.{on_ok}
use Rattle.gate_journal.specs.Creation.{IsFresh, HoldsNothing}
use Rattle.gate_journal.proofs.Making.{short_image, made, first_bytes}
use Rattle.gate_journal.proofs.write.write_header.Goals as goal

pub returns-in_err-write_through-clause-any_moment : goal.returns-in_err-write_through-clause-any_moment
returns-in_err-write_through-clause-any_moment g c = λ told.
    let old = g.D.Disk.state c.args.disk.now in
    weakens g.D.Disk.past g.D.Disk.state c.args.disk.now c.write_through.new.disk (WritesOnly c.args.part 0 (length c.header_but_one.result) old) (HoldsNothing c.args.part old)
    (c.write_through.ensures.crash told)
    (short_image c.args.part 0 (length c.header_but_one.result) old old (λ other ne. refl) (c.requires.short told) (omega (arith, ap length c.header_but_one.ensures)))

pub returns-clause-any_moment : goal.returns-clause-any_moment
returns-clause-any_moment g c = λ told.
    let old = g.D.Disk.state c.args.disk.now in
    let mid = g.D.Disk.state c.write_through.new.disk in
    let bytes = c.header_but_one.result in
    let short : length (part_of mid c.args.part).bytes ≤ 17 = omega (arith, ap length (ap (λ (p : PartState). p.bytes) (c.in_ok-write_through.ensures.ok told) ∙ first_bytes c.args.limit bytes (part_of old c.args.part).bytes c.header_but_one.ensures (c.requires.short told) ∙ c.header_but_one.ensures)) in
    joins g.D.Disk.past g.D.Disk.state c.args.disk.now c.write_through.new.disk c.write_through-2.new.disk
    (WritesOnly c.args.part 0 (length c.header_but_one.result) old) (WritesOnly c.args.part 0 1 mid) (HoldsNothing c.args.part old)
    (c.write_through.ensures.crash told) (c.write_through-2.ensures.crash told)
    (short_image c.args.part 0 (length c.header_but_one.result) old old (λ other ne. refl) (c.requires.short told) (omega (arith, ap length c.header_but_one.ensures)))
    (short_image c.args.part 0 1 old mid (c.write_through.ensures.others told) short (omega arith))

pub returns-clause-ok : goal.returns-clause-ok
returns-clause-ok g c = λ told.
    let old = part_of (g.D.Disk.state c.args.disk.now) c.args.part in
    let mid = part_of (g.D.Disk.state c.write_through.new.disk) c.args.part in
    let new = part_of (g.D.Disk.state c.write_through-2.new.disk) c.args.part in
    on_ok c.write_through-2.result (new ≡ settled_part (put 0 (83 ∷ []) mid.bytes)) (IsFresh c.args.limit new)
    (λ is. made c.args.limit c.header_but_one.result old mid new c.header_but_one.ensures (c.requires.short told) (c.in_ok-write_through.ensures.ok told) is c.requires.least c.requires.greatest)
    (c.write_through-2.ensures.ok told)
