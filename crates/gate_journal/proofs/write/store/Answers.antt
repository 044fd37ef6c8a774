use Rattle.std.proofs.Common.{◌≡◌, ℕ, ◌+◌, ◌-◌, List, [], ◌∷◌, ◌++◌, length, sym, subst, inl, rules, IsErrOf}
use Rattle.salt_disk.specs.Disk.{DiskState, part_of, settled_part, put}
use Rattle.salt_disk.specs.declared.disk.DiskFault.TheVariants.{Failed}
use Rattle.salt_disk.specs.Crash.{WritesOnly}
use Rattle.salt_disk.proofs.Torn.{on_ok}
use Rattle.salt_disk.proofs.Moments.{joins, weakens}
use Rattle.gate_journal.specs.Journal.{Rests, IsNext, HoldsOldOrNew}
use Rattle.gate_journal.proofs.Store.{body_old, gate_decides, body_image, gate_image, rests_new, rests_old, rests_within}
use Rattle.gate_journal.proofs.write.store.Goals as goal

pub returns-in_err-write_through-clause-any_moment : goal.returns-in_err-write_through-clause-any_moment
returns-in_err-write_through-clause-any_moment g c = λ told limit payloads payload next.
    let old = g.D.Disk.state c.args.disk.now in
    weakens g.D.Disk.past g.D.Disk.state c.args.disk.now c.write_through.new.disk
    (WritesOnly c.args.part c.args.len (length c.args.body.now) old) (HoldsOldOrNew c.args.part limit payloads payload old)
    (c.write_through.ensures.crash told) (body_image c.args.part limit c.args.len payloads payload c.args.body.now old next)

pub returns-clause-any_moment : goal.returns-clause-any_moment
returns-clause-any_moment g c = λ told limit payloads payload next.
    let old = g.D.Disk.state c.args.disk.now in
    let mid = g.D.Disk.state c.write_through.new.disk in
    joins g.D.Disk.past g.D.Disk.state c.args.disk.now c.write_through.new.disk c.write_through-2.new.disk
    (WritesOnly c.args.part c.args.len (length c.args.body.now) old) (WritesOnly c.args.part (c.args.len - 1) 1 mid) (HoldsOldOrNew c.args.part limit payloads payload old)
    (c.write_through.ensures.crash told) (c.write_through-2.ensures.crash told)
    (body_image c.args.part limit c.args.len payloads payload c.args.body.now old next)
    (gate_image c.args.part limit c.args.len payloads payload c.args.body.now old next mid (c.in_ok-write_through.ensures.ok told) (c.write_through.ensures.others told))

pub returns-clause-ok : goal.returns-clause-ok
returns-clause-ok g c = λ told.
    let old = g.D.Disk.state c.args.disk.now in
    let mid = g.D.Disk.state c.write_through.new.disk in
    let new = g.D.Disk.state c.write_through-2.new.disk in
    on_ok c.write_through-2.result
    (part_of new c.args.part ≡ settled_part (put (c.args.len - 1) (1 ∷ []) (part_of mid c.args.part).bytes))
    ((limit : ℕ) (payloads : List (List ℕ)) (payload : List ℕ) → IsNext limit c.args.len payloads payload c.args.body.now (part_of old c.args.part)
    → Rests limit (c.args.len + 5 + length payload) (payloads ++ payload ∷ []) (part_of new c.args.part))
    (λ is limit payloads payload next. rests_new c.args.part limit c.args.len payloads payload c.args.body.now old next mid
    (c.in_ok-write_through.ensures.ok told) (c.write_through.ensures.others told) (part_of new c.args.part) is)
    (c.write_through-2.ensures.ok told)

pub returns-clause-memory : goal.returns-clause-memory
returns-clause-memory g c = λ told is limit payloads rests.
    let old = g.D.Disk.state c.args.disk.now in
    let mid = g.D.Disk.state c.write_through.new.disk in
    subst (λ (d : DiskState). Rests limit c.args.len payloads (part_of d c.args.part)) (sym (c.write_through-2.ensures.memory told is).state)
    (rests_old limit c.args.len payloads c.args.body.now (part_of old c.args.part) (part_of mid c.args.part) rests
    (rests_within limit c.args.len payloads (part_of old c.args.part) rests) (c.in_ok-write_through.ensures.ok told))

pub returns-in_err-write_through-clause-failed : goal.returns-in_err-write_through-clause-failed
returns-in_err-write_through-clause-failed g c = λ told is limit payloads payload next.
    let old = g.D.Disk.state c.args.disk.now in
    let failed : IsErrOf c.write_through.result Failed = search rules in
    record {
      early = λ fails image may. body_old c.args.part limit c.args.len payloads payload c.args.body.now old next image ((c.write_through.ensures.crash told).each image (inl may));
      late = λ passes. absurd (((c.write_through.ensures.fuse told).failed failed).0 passes);
    }

pub returns-clause-failed : goal.returns-clause-failed
returns-clause-failed g c = λ told is limit payloads payload next.
    let old = g.D.Disk.state c.args.disk.now in
    let mid = g.D.Disk.state c.write_through.new.disk in
    record {
      early = λ fails image may. absurd (fails (c.in_ok-write_through.ensures.fuse told).passed.0);
      late = λ passes. (
        c.write_through-2.ensures.failed told is,
        λ image may. gate_decides c.args.part limit c.args.len payloads payload c.args.body.now old next mid (c.in_ok-write_through.ensures.ok told) (c.write_through.ensures.others told) image
            ((c.write_through-2.ensures.crash told).each image (inl may)),
      );
    }
