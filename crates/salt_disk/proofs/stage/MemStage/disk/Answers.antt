use Rattle.std.proofs.Common.{rules, refl}
use Rattle.salt_disk.proofs.StageLemmas.{on_some, if_none, told_set, told_get}
use Rattle.salt_disk.proofs.stage.MemStage.disk.Goals as goal

pub returns : goal.returns
returns c =
    let disks = c.self.inside.disks.items in
    let told = c.args.self.now in (
      (refl, λ w. on_some c.get_mut.result _ (told_set disks told c.args.n w c.self.view_is), if_none c.get_mut.result _ c.self.view_is),
      record { stage = tt; value = told_get disks told c.args.n c.get_mut.result c.self.view_is (search rules) (search rules) c.get_mut.ensures.value },
    )
