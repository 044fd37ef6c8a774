use Rattle.std.proofs.Common.{ℕ, List, ◌∙◌, ap, sym, subst, rules, IsErrOf}
use Rattle.salt_disk.specs.declared.call.Call.{Call}
use Rattle.salt_disk.specs.declared.memory.MemDisk.{MemDisk}
use Rattle.salt_disk.specs.declared.disk.DiskFault.TheVariants.{NoMemory}
use Rattle.salt_disk.proofs.Torn.{changes_unless}
use Rattle.salt_disk.specs.Disk.{IsUnchanged, Changes, DiskState, part_of, IsWritten}
use Rattle.salt_disk.specs.History.{whole, states, replay, with_part, wrote, Replays, IsBounded}
use Rattle.salt_disk.specs.Memory.{parts_state}
use Rattle.salt_disk.proofs.Record.{changes_with, is_written}
use Rattle.salt_disk.proofs.memory.MemDiskDisk.write_at.Goals as goal

-- the disk at the last crash
abbrev first : MemDisk → DiskState
first disk = whole disk.root.items disk.even.items disk.odd.items

pub returns-in_err-burn-clause-crash : goal.returns-in_err-burn-clause-crash
returns-in_err-burn-clause-crash c = λ told.
    let old = parts_state c.args.self.now.parts in
    let new = parts_state c.write_part.new.parts in
    let memory : IsErrOf c.from_residual-in_err-burn.result NoMemory → ⊥ = λ none. c.burn.ensures.memory (search rules) in
    changes_unless c.from_residual-in_err-burn.result (IsUnchanged old new (states (first c.args.self.now) c.args.self.now.calls.items) (states (first c.args.self.now) c.write_part.new.calls.items)) (Changes c.args.part (IsWritten c.args.at c.args.bytes.now) old new) memory
    (changes_with c.args.part (IsWritten c.args.at c.args.bytes.now) old new (wrote (part_of old c.args.part) c.args.at c.args.bytes.now)
    (c.in_ok-write_part.ensures.state ∙ ap (λ (l : List ℕ). with_part old c.args.part (wrote (part_of old c.args.part) c.args.at l)) c.in_ok-copy.ensures.items)
    (is_written c.args.at c.args.bytes.now (part_of old c.args.part) (c.requires told)))

pub returns-clause-crash : goal.returns-clause-crash
returns-clause-crash c = λ told.
    let old = parts_state c.args.self.now.parts in
    let new = parts_state c.write_part.new.parts in
    changes_with c.args.part (IsWritten c.args.at c.args.bytes.now) old new (wrote (part_of old c.args.part) c.args.at c.args.bytes.now)
    (c.in_ok-write_part.ensures.state ∙ ap (λ (l : List ℕ). with_part old c.args.part (wrote (part_of old c.args.part) c.args.at l)) c.in_ok-copy.ensures.items)
    (is_written c.args.at c.args.bytes.now (part_of old c.args.part) (c.requires told))

pub invariant_of-self-2-clause-replayed : goal.invariant_of-self-2-clause-replayed
invariant_of-self-2-clause-replayed c =
    c.in_ok-write_part.ensures.recorded.kept (first c.args.self.now)
    (subst (λ (l : List Call). Replays (replay (first c.args.self.now) l) (parts_state c.args.self.now.parts)) (sym c.in_ok-reserve.ensures.items) c.args.self.now.replayed)

pub invariant_of-self-2-clause-bounded : goal.invariant_of-self-2-clause-bounded
invariant_of-self-2-clause-bounded c =
    c.in_ok-write_part.ensures.recorded.bounded (first c.args.self.now)
    (subst (λ (l : List Call). IsBounded (first c.args.self.now) l (parts_state c.args.self.now.parts)) (sym c.in_ok-reserve.ensures.items) c.args.self.now.bounded)
