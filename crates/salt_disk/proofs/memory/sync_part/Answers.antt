use Rattle.std.proofs.Common.{◌≡◌, ◌≤◌, ◌+◌, false, length, ap, sym, refl, ◌∙◌, arith}
use Rattle.salt_disk.specs.declared.call.Call.TheVariants.{Sync}
use Rattle.salt_disk.specs.Disk.{part_of}
use Rattle.salt_disk.specs.History.{is_calm, owed_by}
use Rattle.salt_disk.specs.Memory.{parts_state, honest_parts, pending_parts}
use Rattle.salt_disk.proofs.Record.{recorded, same_recorded, sync_goes, sync_bounded, calm_sync, owed_sync, length_synced}
use Rattle.salt_disk.proofs.Images.{sync_changes}
use Rattle.salt_disk.proofs.memory.sync_part.Goals as goal

pub returns-then-is_calm-clause-state : goal.returns-then-is_calm-clause-state
returns-then-is_calm-clause-state c = calm_sync (parts_state c.args.parts.now) c.args.part (honest_parts c.args.parts.now) (sym c.is_calm.ensures ∙ c.if-is_calm.true)

pub returns-then-is_calm-clause-recorded : goal.returns-then-is_calm-clause-recorded
returns-then-is_calm-clause-recorded c = same_recorded (parts_state c.args.parts.now) (parts_state c.args.parts.now) c.args.calls.now.items refl

pub returns-clause-recorded : goal.returns-clause-recorded
returns-clause-recorded c =
    let old = parts_state c.args.parts.now in
    let new = parts_state c.sync.new.self in
    let pending : is_calm (part_of old c.args.part) ≡ false = sym c.is_calm.ensures ∙ c.if-is_calm.false in
    let less : owed_by new + 1 ≤ owed_by old = omega (arith, ap owed_by c.sync.ensures, owed_sync old c.args.part pending) in
    let count : c.len.result ≡ length (part_of old c.args.part).bytes = c.len.ensures ∙ length_synced c.args.part old new c.sync.ensures in
    recorded old new c.args.calls.now.items c.push_reserved.new.self.items (Sync c.args.part c.len.result) (honest_parts c.args.parts.now) c.push_reserved.ensures.items
    (sync_goes c.args.part c.len.result old new count c.sync.ensures)
    (sync_bounded c.args.part c.len.result old new c.args.calls.now.items less)

pub returns-clause-room : goal.returns-clause-room
returns-clause-room c =
    let old = parts_state c.args.parts.now in
    let pending : is_calm (part_of old c.args.part) ≡ false = sym c.is_calm.ensures ∙ c.if-is_calm.false in
    omega (arith, ap owed_by c.sync.ensures, owed_sync old c.args.part pending)

pub returns-clause-still : goal.returns-clause-still
returns-clause-still c = λ same.
    absurd (sync_changes c.args.part (parts_state c.args.parts.now) (parts_state c.sync.new.self) (honest_parts c.args.parts.now) (pending_parts c.args.parts.now c.args.part) (sym c.is_calm.ensures ∙ c.if-is_calm.false) c.sync.ensures same)
