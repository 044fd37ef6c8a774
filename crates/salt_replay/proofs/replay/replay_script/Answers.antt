use Rattle.std.proofs.Common.{refl, ap, Err, inl, inr, arith}
use Rattle.salt_replay.proofs.Runs.{replayed}
use Rattle.salt_replay.proofs.replay.replay_script.Goals as goal

pub returns-in-Err-NoMemory-play : goal.returns-in-Err-NoMemory-play
returns-in-Err-NoMemory-play g c =
    replayed _ _ _ _ _ _ _ _ _ c.deref.result.now c.in-Ok-read_script.script
    (rw c.deref.ensures.value c.in-Ok.ensures.bytes) c.in-Ok.ensures.end c.read_all.ensures.left (c.in-Ok.ensures.faults.kept (λ e. cc))
    c.in-Ok-read_script.ensures.ok c.in-Ok-read_script.ensures.unique c.play.ensures.part
    (λ z. absurd (omega (arith, z))) (λ z. absurd (omega (arith, z))) (λ z. c.in-Err-NoMemory-play.ensures.faults.kept (λ e. let x = c.in-Err-NoMemory-play.field-0-is in cc))
    (inr (inl refl)) c.in-Ok.ensures.fits

pub returns-in-Err-WriteFault : goal.returns-in-Err-WriteFault
returns-in-Err-WriteFault g c =
    replayed _ _ _ _ _ _ _ _ _ c.deref.result.now c.in-Ok-read_script.script
    (rw c.deref.ensures.value c.in-Ok.ensures.bytes) c.in-Ok.ensures.end c.read_all.ensures.left (c.in-Ok.ensures.faults.kept (λ e. cc))
    c.in-Ok-read_script.ensures.ok c.in-Ok-read_script.ensures.unique c.play.ensures.part
    (λ z. absurd (omega (arith, z))) (λ z. c.in-Err-WriteFault.ensures.faults.rose (ap Err c.in-Err-WriteFault.field-0-is)) (λ z. absurd (grind (arith, z)))
    (inr (inr refl)) c.in-Ok.ensures.fits
