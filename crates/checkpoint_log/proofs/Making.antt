-- What a crash leaves of a log that is being made.
use Rattle.std.proofs.Common.{◌≡◌, ℕ, ◌-◌, ◌≤◌, List, length, refl, ◌∙◌, ap, subst, arith}
use Rattle.salt_disk.specs.declared.disk.Part.TheVariants.{Root, Even}
use Rattle.salt_disk.specs.declared.disk.Fuse.{Fuse}
use Rattle.salt_disk.specs.declared.disk.Fuse.TheVariants.{Whole, Armed, Out}
use Rattle.salt_disk.specs.Disk.{PartState, DiskState, part_of, IsSettled, IsHonest}
use Rattle.salt_disk.specs.Crash.{Image, IsPartImage, MayLeave}
use Rattle.salt_disk.specs.Fuse.{Passes, fuse_after}
use Rattle.salt_disk.proofs.Torn.{settled_image}
use Rattle.gate_journal.specs.Creation.{IsFresh, HoldsNothing}
use Rattle.gate_journal.proofs.Making.{short_holds_nothing}
use Rattle.checkpoint_log.specs.Content.{bytes_in}
use Rattle.checkpoint_log.specs.Creation.{IsFreshLog, HoldsNoPayload, IsSettledForLog, AreShort}
use Rattle.checkpoint_log.proofs.Images.{root_even, even_root}

short_file : (part : PartState) (file : List ℕ) → IsSettled part → length part.bytes ≤ 17 → IsPartImage part file → length file ≤ 17
short_file part file rests short is = omega (arith, short, ap length (settled_image part.bytes file (subst (λ (p : PartState). IsPartImage p file) rests is)))

nothing : (image : Image) → length (image Even) ≤ 17 → length (image Root) ≤ 17 → HoldsNoPayload image
nothing image even root = record {
  short_even = even;
  short_root = root;
  here = λ limit content is.
      let base = is.first in
      let rest = short_holds_nothing (image Even) even limit content.rest is.rest in
      λ i. record { base = base i; rest = rest i };
}

-- a disk as it reads is one of its own images
pub own_image : (disk : DiskState) → IsHonest disk → MayLeave disk (bytes_in disk)
own_image disk honest part = record { no_shorter = (honest part).0; no_longer = (honest part).1; kept = λ place below outside. refl }

pub before_create : (disk : DiskState) → IsSettledForLog disk → AreShort disk → (image : Image) → MayLeave disk image → HoldsNoPayload image
before_create disk rests short image may =
    nothing image (short_file (part_of disk Even) (image Even) rests.1 short.0 (may Even)) (short_file (part_of disk Root) (image Root) rests.0 short.1 (may Root))

pub making_even : (disk : DiskState) → IsSettled (part_of disk Root) → length (part_of disk Root).bytes ≤ 17 → (image : Image) → HoldsNothing Even disk image → HoldsNoPayload image
making_even disk root short image holds =
    nothing image holds.short (short_file (part_of disk Root) (image Root) root short (holds.others Root root_even))

pub making_root : (disk : DiskState) → IsSettled (part_of disk Even) → length (part_of disk Even).bytes ≤ 17 → (image : Image) → HoldsNothing Root disk image → HoldsNoPayload image
making_root disk even short image holds =
    nothing image (short_file (part_of disk Even) (image Even) even short (holds.others Even even_root)) holds.short

-- both journals are made
pub made_log : (limit : ℕ) (disk : DiskState) → IsFresh limit (part_of disk Root) → IsFresh limit (part_of disk Even) → IsFreshLog limit disk
made_log limit disk root even = record {
  root = root;
  even = even;
  log = record { root_limit = limit; root = root.rests.holds; first = refl; rest = even.rests.holds };
}

-- where eight calls pass, four of them pass, and then four more
pub four_of_eight : (fuse : Fuse) → Passes 8 fuse → Passes 4 fuse × Passes 4 (fuse_after 4 fuse)
four_of_eight Whole passes = (tt, tt)
four_of_eight (Armed left) passes = (omega (arith, passes), omega (arith, passes))
four_of_eight Out passes = absurd (omega (arith, passes))

pub eight_of_four : (old mid new : Fuse) → Passes 4 old → mid ≡ fuse_after 4 old → Passes 4 mid → new ≡ fuse_after 4 mid → Passes 8 old × (new ≡ fuse_after 8 old)
eight_of_four Whole mid new first is second now = (tt, now ∙ ap (fuse_after 4) is)
eight_of_four (Armed left) mid new first is second now =
    let more : 4 ≤ left - 4 = subst (Passes 4) is second in
    (omega (arith, first, more), now ∙ ap (fuse_after 4) is ∙ ap Armed (omega arith))
eight_of_four Out mid new first is second now = absurd (omega (arith, first))
