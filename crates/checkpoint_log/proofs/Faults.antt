-- Each fault of a log comes exactly where the bytes have it.
use Rattle.std.proofs.Common.{◌≡◌, inl, inr, refl, sym, ◌∙◌, [], ◌∷◌, ℕ, Result, Ok, Err, IfOk}
use Rattle.salt_disk.specs.declared.disk.Part.{Part}
use Rattle.salt_disk.specs.declared.disk.Part.TheVariants.{Root, Even}
use Rattle.salt_disk.specs.Crash.{Image}
use Rattle.gate_journal.specs.declared.fault.LoadFault.{LoadFault}
use Rattle.gate_journal.specs.declared.fault.LoadFault.TheVariants.{NoMemory, Disk, NotAJournal, Damaged}
use Rattle.gate_journal.specs.Journal.{JournalState}
use Rattle.gate_journal.specs.Damage.{IsAccepted, IsRefused}
use Rattle.gate_journal.proofs.Exact.{journal_is_one, journal_not_damaged, damaged_is_one, damaged_once}
use Rattle.gate_journal.proofs.Unique.{one_journal}
use Rattle.checkpoint_log.specs.declared.content.LoadedContent.{LoadedContent}
use Rattle.checkpoint_log.specs.Content.{LogContent, IsLog}
use Rattle.checkpoint_log.specs.Loading.{NamesFirst, NamesAnother, HasLogFault, IsGeneration, AnswersEachLog, content_of}
use Rattle.checkpoint_log.proofs.Images.{one_log}

-- a root names one generation
names_one : (image : Image) → NamesFirst image → NamesAnother image → ⊥
names_one image first another =
    let same = (one_journal first.limit another.limit [] (another.first ∷ another.others) (image Root) first.root another.root).1 in
    absurd (cc)

not_both : (image : Image) (p : Part) (n : ℕ) → HasLogFault NotAJournal image → HasLogFault (Damaged p n) image → ⊥
not_both image p n (inl none) (inl d) = damaged_is_one n (image Root) d.1 none
not_both image p n (inl none) (inr (inl d)) = journal_is_one d.2.limit (d.2.first ∷ d.2.others) (image Root) d.2.root none
not_both image p n (inl none) (inr (inr d)) = journal_is_one d.1.limit [] (image Root) d.1.root none
not_both image p n (inr both) (inl d) = journal_not_damaged both.0.limit n [] (image Root) both.0.root d.1
not_both image p n (inr both) (inr (inl d)) = names_one image both.0 d.2
not_both image p n (inr both) (inr (inr d)) = damaged_is_one n (image Even) d.2 both.1

both_are : (p q : Part) (n m : ℕ) (part : Part) → p ≡ part → q ≡ part → n ≡ m → Damaged p n ≡ Damaged q m
both_are p q n m part p_is q_is same = cc

-- a log has no fault
pub no_fault : (limit : ℕ) (content : LogContent) (image : Image) → IsLog limit content image → (fault : LoadFault) → HasLogFault fault image → ⊥
no_fault limit content image is NoMemory has = has
no_fault limit content image is Disk has = has
no_fault limit content image is NotAJournal (inl none) = journal_is_one is.root_limit [] (image Root) is.root none
no_fault limit content image is NotAJournal (inr both) = journal_is_one limit content.rest (image Even) is.rest both.1
no_fault limit content image is (Damaged part at) (inl d) = journal_not_damaged is.root_limit at [] (image Root) is.root d.1
no_fault limit content image is (Damaged part at) (inr (inl d)) = names_one image (record { limit = is.root_limit; root = is.root }) d.2
no_fault limit content image is (Damaged part at) (inr (inr d)) = journal_not_damaged limit at content.rest (image Even) is.rest d.2

-- bytes have one fault
pub one_fault : (image : Image) (f g : LoadFault) → HasLogFault f image → HasLogFault g image → f ≡ g
one_fault image NoMemory g has other = absurd has
one_fault image Disk g has other = absurd has
one_fault image f NoMemory has other = absurd other
one_fault image f Disk has other = absurd other
one_fault image NotAJournal NotAJournal has other = refl
one_fault image NotAJournal (Damaged p n) has other = absurd (not_both image p n has other)
one_fault image (Damaged p n) NotAJournal has other = absurd (not_both image p n other has)
one_fault image (Damaged p n) (Damaged q m) (inl d) (inl e) = both_are p q n m Root d.0 e.0 (damaged_once n m (image Root) d.1 e.1)
one_fault image (Damaged p n) (Damaged q m) (inl d) (inr (inl e)) = absurd (journal_not_damaged e.2.limit n (e.2.first ∷ e.2.others) (image Root) e.2.root d.1)
one_fault image (Damaged p n) (Damaged q m) (inl d) (inr (inr e)) = absurd (journal_not_damaged e.1.limit n [] (image Root) e.1.root d.1)
one_fault image (Damaged p n) (Damaged q m) (inr (inl d)) (inl e) = absurd (journal_not_damaged d.2.limit m (d.2.first ∷ d.2.others) (image Root) d.2.root e.1)
one_fault image (Damaged p n) (Damaged q m) (inr (inl d)) (inr (inl e)) = both_are p q n m Root d.0 e.0 (d.1 ∙ sym e.1)
one_fault image (Damaged p n) (Damaged q m) (inr (inl d)) (inr (inr e)) = absurd (names_one image e.1 d.2)
one_fault image (Damaged p n) (Damaged q m) (inr (inr d)) (inl e) = absurd (journal_not_damaged d.1.limit m [] (image Root) d.1.root e.1)
one_fault image (Damaged p n) (Damaged q m) (inr (inr d)) (inr (inl e)) = absurd (names_one image d.1 e.2)
one_fault image (Damaged p n) (Damaged q m) (inr (inr d)) (inr (inr e)) = both_are p q n m Even d.0 e.0 (damaged_once n m (image Even) d.2 e.2)

accepts : (image : Image) (r : Result (JournalState × LoadedContent) LoadFault) → IsGeneration image r → (limit : ℕ) (content : LogContent) → IsLog limit content image
    → IsAccepted r × IfOk r (λ x. (x.0.limit ≡ limit) × (content_of x.1 ≡ content))
accepts image (Ok x) is limit content log = (tt, one_log x.0.limit limit (content_of x.1) content image is.found.0 log)
accepts image (Err NoMemory) is limit content log = (tt, tt)
accepts image (Err Disk) is limit content log = (tt, tt)
accepts image (Err NotAJournal) is limit content log = absurd (no_fault limit content image log NotAJournal (is.faulty NotAJournal refl))
accepts image (Err (Damaged part at)) is limit content log = absurd (no_fault limit content image log (Damaged part at) (is.faulty (Damaged part at) refl))

refuses : (image : Image) (r : Result (JournalState × LoadedContent) LoadFault) → IsGeneration image r → (fault : LoadFault) → HasLogFault fault image → IsRefused fault r
refuses image (Ok x) is fault has = no_fault x.0.limit (content_of x.1) image is.found.0 fault has
refuses image (Err NoMemory) is fault has = tt
refuses image (Err Disk) is fault has = tt
refuses image (Err NotAJournal) is fault has = one_fault image fault NotAJournal has (is.faulty NotAJournal refl)
refuses image (Err (Damaged part at)) is fault has = one_fault image fault (Damaged part at) has (is.faulty (Damaged part at) refl)

-- what a generation was read as answers each log and each fault
pub answers_each : (image : Image) (r : Result (JournalState × LoadedContent) LoadFault) → IsGeneration image r → AnswersEachLog image r
answers_each image r is = record { accepts = accepts image r is; refuses = refuses image r is }
