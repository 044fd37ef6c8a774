use Rattle.std.proofs.Common.{inr, refl, Err, rules}
use Rattle.salt_disk.specs.Crash.{MayLeave}
use Rattle.gate_journal.specs.declared.fault.CreateFault.TheVariants.{Disk}
use Rattle.gate_journal.specs.Calls.{BurnsAtOk}
use Rattle.gate_journal.proofs.Making.{stands}
use Rattle.checkpoint_log.specs.Creation.{HoldsNoPayload}
use Rattle.checkpoint_log.proofs.Making.{before_create}
use Rattle.checkpoint_log.proofs.log.Log.create.Goals as goal

pub returns-in-Err-clause-made : goal.returns-in-Err-clause-made
returns-in-Err-clause-made g c = λ told.
    let old = g.D.Disk.state c.args.disk.now in
    let burns : BurnsAtOk {T = Unit {0}} 8 g.D.Disk.fuse Disk c.args.disk.now c.long_part.new.disk (Err Disk) = search rules in
    record {
      ok = tt;
      any_moment = λ short. stands g.D.Disk.past g.D.Disk.state c.args.disk.now c.long_part.new.disk HoldsNoPayload (c.long_part.ensures.same told)
          (before_create old (c.requires.settled told) short);
      long_moment = λ n has. stands g.D.Disk.past g.D.Disk.state c.args.disk.now c.long_part.new.disk (MayLeave old) (c.long_part.ensures.same told) (λ image may. may);
      fuse = burns;
      not_empty = λ n e. absurd cc;
      complete = λ n has. inr refl;
      same = λ n has. c.long_part.ensures.same told;
    }
