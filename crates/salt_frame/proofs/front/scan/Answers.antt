use Rattle.std.proofs.Common.{refl, subst, arith}
use Rattle.salt_frame.specs.declared.front.Front.TheVariants as fronts
use Rattle.salt_frame.specs.Fronts.{IsFront}
use Rattle.salt_frame.proofs.FrontLemmas.{seen, more_ready}
use Rattle.salt_frame.proofs.front.scan.Goals as goal

pub loop-length-preserved : goal.loop-length-preserved
loop-length-preserved c =
    let at = c.loop-length.at in
    let i = subst (λ l. IsFront l (fronts.Frame c.in-Frame.size)) (seen at c.args.bytes.now c.args.bytes.now refl) c.in-Frame.ensures in
    let inv = c.loop-length.invariant in
    let more = more_ready c.args.bytes.now c.args.from at c.in-Frame.size i.0 inv.from inv.within inv.frames i.1 i.2 i.3 in
    record { from = omega (arith, inv.from); within = more.0; frames = more.1 }
