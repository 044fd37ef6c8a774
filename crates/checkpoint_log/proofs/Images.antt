-- What a disk holds as a log, from what its parts hold.
use Rattle.std.proofs.Common.{◌≡◌, ◌≢◌, ◌⊎◌, inl, inr, ⊎_elim, ℕ, ◌<◌, ◌-◌, ◌==◌, List, [], ◌∷◌, ◌++◌, length, get_or, zero, suc, refl, sym, ◌∙◌, subst, arith, Bool, true, false, if◌then◌else◌, Result, Ok, Err}
use Rattle.salt_disk.specs.declared.disk.Part.{Part}
use Rattle.salt_disk.specs.declared.disk.Part.TheVariants.{Root, Even}
use Rattle.salt_disk.specs.declared.disk.Fuse.{Fuse}
use Rattle.salt_disk.specs.Disk.{PartState, DiskState, part_of}
use Rattle.salt_disk.specs.Crash.{Image, IsPartImage, MayLeave, OthersStay}
use Rattle.salt_disk.proofs.Torn.{settled_image}
use Rattle.gate_journal.specs.Layout.{fresh_length}
use Rattle.gate_journal.specs.Journal.{JournalState, IsJournal, Rests, HoldsPayloads, HoldsOldOrNew, StoppedAppend, DecidedByGate, journal_length}
use Rattle.gate_journal.specs.declared.fault.AppendFault.{AppendFault}
use Rattle.gate_journal.specs.declared.fault.AppendFault.TheVariants as a
use Rattle.gate_journal.specs.Append.{LeftAfter, payloads_after}
use Rattle.gate_journal.proofs.Store.{length-journal, journal_length-push}
use Rattle.gate_journal.proofs.Unique.{one_journal}
use Rattle.checkpoint_log.specs.Content.{LogContent, content_after, IsLog, HoldsContent}
use Rattle.checkpoint_log.specs.Additions.{IsOldOrNewLog, IsLogLeftAfter, IsStoppedLog, content_by_answer}

pub root_even : Root ≢ Even
root_even e = absurd (cc)

pub even_root : Even ≢ Root
even_root e = absurd (cc)

-- a part at rest leaves its bytes
pub rests_file : (limit len : ℕ) (payloads : List (List ℕ)) (part : PartState) (file : List ℕ) → Rests limit len payloads part → IsPartImage part file → IsJournal limit payloads file
rests_file limit len payloads part file rests is =
    subst (λ (l : List ℕ). IsJournal limit payloads l) (sym (settled_image part.bytes file (subst (λ (p : PartState). IsPartImage p file) rests.is_settled is))) rests.holds

-- an image is a log of one limit and one content
pub one_log : (m n : ℕ) (c d : LogContent) (image : Image) → IsLog m c image → IsLog n d image → (m ≡ n) × (c ≡ d)
one_log m n c d image first second =
    let one = one_journal m n c.rest d.rest (image Even) first.rest second.rest in
    let base = first.first ∙ sym second.first in
    let rest = one.1 in
    (one.0, λ i. record { base = base i; rest = rest i })

module _ (log : JournalState) (content : LogContent) (disk : DiskState) (holds : HoldsContent log content disk) where
  -- the root's image, where that part is as it was
  root_file : (image : Image) → IsPartImage (part_of disk Root) (image Root) → IsJournal holds.root_limit [] (image Root)
  root_file image is = rests_file holds.root_limit fresh_length [] (part_of disk Root) (image Root) holds.root is

  not_root : Root ≢ log.part
  not_root e = root_even (e ∙ holds.is_even)

  -- the bytes of the generation's part, with the same content
  same_with : (image : Image) → IsPartImage (part_of disk Root) (image Root) → IsJournal log.limit content.rest (image log.part) → IsLog log.limit content image
  same_with image is journal = record {
    root_limit = holds.root_limit;
    root = root_file image is;
    first = holds.first;
    rest = subst (λ (p : Part). IsJournal log.limit content.rest (image p)) holds.is_even journal;
  }

  -- and with a payload more
  more_with : (payload : List ℕ) (image : Image) → IsPartImage (part_of disk Root) (image Root) → IsJournal log.limit (content.rest ++ payload ∷ []) (image log.part) → IsLog log.limit (content_after content payload) image
  more_with payload image is journal = record {
    root_limit = holds.root_limit;
    root = root_file image is;
    first = holds.first;
    rest = subst (λ (p : Part). IsJournal log.limit (content.rest ++ payload ∷ []) (image p)) holds.is_even journal;
  }

  -- what a disk at rest leaves
  pub left_at_rest : (image : Image) → MayLeave disk image → IsLog log.limit content image
  left_at_rest image may = same_with image (may Root) (rests_file log.limit log.length content.rest (part_of disk log.part) (image log.part) holds.rest (may log.part))

  pub old_or_new : (payload : List ℕ) (image : Image) → HoldsOldOrNew log.part log.limit content.rest payload disk image → IsOldOrNewLog log.limit content payload image
  old_or_new payload image is = ⊎_elim
      (λ (old : IsJournal log.limit content.rest (image log.part)). inl (same_with image (is.others Root not_root) old))
      (λ (new : IsJournal log.limit (content.rest ++ payload ∷ []) (image log.part)). inr (more_with payload image (is.others Root not_root) new)) is.here

  module _ (now : DiskState) (stay : OthersStay log.part disk now) where
    pub root_stays : part_of now Root ≡ part_of disk Root
    root_stays = stay Root not_root

    pub root_image : (image : Image) → MayLeave now image → IsPartImage (part_of disk Root) (image Root)
    root_image image may = subst (λ (p : PartState). IsPartImage p (image Root)) root_stays (may Root)

    -- the log after a call that changed its own part alone
    pub held_after : {T : Type 0} (r : Result T AppendFault) (new : JournalState) (payload : List ℕ) → new.part ≡ log.part → HoldsPayloads new (payloads_after r content.rest payload) now
        → HoldsContent new (content_by_answer r content payload) now
    held_after (Ok done) new payload same is = record {
      root_limit = holds.root_limit;
      root = subst (λ (p : PartState). Rests holds.root_limit fresh_length [] p) (sym root_stays) holds.root;
      first = holds.first;
      is_even = same ∙ holds.is_even;
      rest = is;
    }
    held_after (Err fault) new payload same is = record {
      root_limit = holds.root_limit;
      root = subst (λ (p : PartState). Rests holds.root_limit fresh_length [] p) (sym root_stays) holds.root;
      first = holds.first;
      is_even = same ∙ holds.is_even;
      rest = is;
    }

    -- what a crash leaves, by the answer
    pub left_after : {T : Type 0} (r : Result T AppendFault) (payload : List ℕ) (image : Image) → MayLeave now image → LeftAfter r log.limit content.rest payload (image log.part) → IsLogLeftAfter r log.limit content payload image
    left_after (Ok done) payload image may left = more_with payload image (root_image image may) left
    left_after (Err a.NoMemory) payload image may left = same_with image (root_image image may) left
    left_after (Err a.Down) payload image may left = same_with image (root_image image may) left
    left_after (Err (a.Full length most)) payload image may left = same_with image (root_image image may) left
    left_after (Err a.Disk) payload image may left = ⊎_elim (λ old. inl (same_with image (root_image image may) old)) (λ new. inr (more_with payload image (root_image image may) new)) left

    picked : (payload : List ℕ) (pick : ℕ) (image : Image) (gate : ℕ) → MayLeave now image → DecidedByGate log.limit gate content.rest payload (image log.part) → get_or (image log.part) gate 0 ≡ pick → (b : Bool) → (pick == 1) ≡ b
        → IsLog log.limit (if b then content_after content payload else content) image
    picked payload pick image gate may by is true e = more_with payload image (root_image image may) (by.opened (is ∙ grind (arith, e)))
    picked payload pick image gate may by is false e = same_with image (root_image image may) (by.shut (λ o. absurd (grind (arith, e, sym is ∙ o))))

    -- in both cases the gate has a place in the file
    has_gate : (payload file : List ℕ) → log.length ≡ journal_length content.rest → DecidedByGate log.limit (log.length - 1) content.rest payload file → log.length - 1 < length file
    has_gate payload file counts by = gate_in (is_one (get_or file (log.length - 1) 0))
      where
        is_one : (n : ℕ) → (n ≡ 1) ⊎ (n ≢ 1)
        is_one zero = inr (λ e. absurd (cc))
        is_one (suc zero) = inl refl
        is_one (suc (suc n)) = inr (λ e. absurd (omega (arith, e)))

        gate_in : (get_or file (log.length - 1) 0 ≡ 1) ⊎ (get_or file (log.length - 1) 0 ≢ 1) → log.length - 1 < length file
        gate_in (inl o) = omega (arith, length-journal log.limit (content.rest ++ payload ∷ []) file (by.opened o), counts, journal_length-push content.rest payload)
        gate_in (inr s) = omega (arith, length-journal log.limit content.rest file (by.shut s), counts)

    pub stopped : (payload : List ℕ) (before : Fuse) → StoppedAppend log.part log.limit log.length content.rest payload before now → IsStoppedLog log.limit content payload before now
    stopped payload before stop = record {
      early = λ few image may. same_with image (root_image image may) (stop.early few image may);
      late = λ passes pick cut image may is.
          let gate = log.length - 1 in
          let late = stop.late passes in
          let by = late.1 image may in
          let inside = has_gate payload (image log.part) holds.rest.counts by in
          picked payload pick image gate may by ((is log.part).picked gate inside (inr late.0)) (pick == 1) refl;
    }
