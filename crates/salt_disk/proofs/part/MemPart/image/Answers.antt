use Rattle.std.proofs.Common.{ℕ, ◌+◌, ◌≡◌, List, length, drop, take, ◌++◌, refl, sym, ◌∙◌, ap, subst, get_or-take, arith}
use Rattle.std.proofs.lemmas.List.{get_or_append_left, length-take-le}
use Rattle.salt_disk.specs.declared.disk.Range.{Range}
use Rattle.salt_disk.specs.Crash.{IsWithin}
use Rattle.salt_disk.specs.Memory.{part_state}
use Rattle.salt_disk.proofs.Blots.{image_picked}
use Rattle.salt_disk.proofs.part.MemPart.image.Goals as goal

pub returns : goal.returns
returns c =
    let part = part_state c.args.self.now in
    let start = c.deref_mut.result.now in
    let blotted = c.blot_ranges.new.image in
    let long : length blotted ≡ length start = c.blot_ranges.auto.image in
    let counts : c.in_ok-image.image.len ≡ length start = sym c.deref_mut.ensures.len in
    let is : start ≡ take part.least part.bytes = c.deref_mut.ensures.value ∙ c.in_ok-image.ensures.items ∙ ap (λ (l : List ℕ). take part.least l) c.deref.ensures.value in
    let inside = c.args.self.now.no_more in
    image_picked c.args.pick c.args.cut (c.args.self.now.least + c.min.result) c.in_ok-image.image.len part start blotted c.resize.new.self.items
    (counts ∙ ap length is ∙ length-take-le part.least part.bytes inside) inside is long
    (λ place outside. c.blot_ranges.ensures.kept place (λ one. outside (subst (λ (l : List Range). IsWithin l place) c.deref-2.ensures.value one)))
    (λ place within one. c.blot_ranges.ensures.picked place within (subst (λ (l : List Range). IsWithin l place) (sym c.deref-2.ensures.value) one))
    (ap (λ (n : ℕ). c.args.self.now.least + n) c.min.ensures)
    (omega (arith, c.in_ok-resize.ensures.len, c.resize.new.self.ok))
    (λ place below front. c.in_ok-resize.ensures.by_index.0 place 0 below front
    ∙ get_or-take c.in_ok-image.image.len (blotted ++ drop (length blotted) c.in_ok-image.image.items) place 0 front
    ∙ get_or_append_left blotted (drop (length blotted) c.in_ok-image.image.items) 0 place (omega (arith, long, counts, front)))
    (λ place past below. c.in_ok-resize.ensures.by_index.1 place 0 refl past below)
