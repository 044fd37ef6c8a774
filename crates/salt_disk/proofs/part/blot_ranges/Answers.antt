use Rattle.std.proofs.Common.{List, get_or, take, sym, subst}
use Rattle.std.proofs.lemmas.List.{take_more}
use Rattle.salt_disk.specs.declared.disk.Range.{Range}
use Rattle.salt_disk.proofs.Blots.{Blotted, blotted_none, blotted_more}
use Rattle.salt_disk.proofs.part.blot_ranges.Goals as goal

pub loop-range-init : goal.loop-range-init
loop-range-init c = blotted_none c.args.pick c.args.image.now

pub loop-range-preserved : goal.loop-range-preserved
loop-range-preserved c =
    let range = get_or c.args.ranges.now c.loop-range.range-index (record { start = 0; end = 0 }) in
    subst (λ (l : List Range). Blotted c.args.pick c.args.image.now l c.blot_range.new.image)
    (sym (take_more c.args.ranges.now c.loop-range.range-index (record { start = 0; end = 0 }) c.loop-range-test.true))
    (blotted_more c.args.pick c.args.image.now (take c.loop-range.range-index c.args.ranges.now) range c.loop-range.image c.blot_range.new.image
    c.loop-range.invariant c.blot_range.auto.image c.blot_range.ensures.kept c.blot_range.ensures.picked)
