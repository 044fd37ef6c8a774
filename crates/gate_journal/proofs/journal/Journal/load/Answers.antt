use Rattle.std.proofs.Common.{ℕ, List, refl, ◌∙◌, ap, subst, rules}
use Rattle.salt_disk.specs.Disk.{part_of}
use Rattle.gate_journal.specs.declared.fault.LoadFault.TheVariants.{Damaged}
use Rattle.gate_journal.specs.Journal.{IsJournal}
use Rattle.gate_journal.specs.Damage.{IsNoJournal, IsDamagedAt}
use Rattle.gate_journal.proofs.Exact.{journal_is_one, journal_not_damaged, damaged_is_one, damaged_once}
use Rattle.gate_journal.proofs.Unique.{one_journal}
use Rattle.gate_journal.proofs.journal.Journal.load.Goals as goal

pub returns-in-Ok-read_journal-clause-complete : goal.returns-in-Ok-read_journal-clause-complete
returns-in-Ok-read_journal-clause-complete g c = λ told.
    let read = c.in-Ok-read_journal in
    let bytes = (part_of (g.D.Disk.state c.args.disk.now) c.args.part).bytes in
    let found = subst (λ (l : List ℕ). IsJournal read.limit read.payloads.items l) (c.deref.ensures.value ∙ c.in-Ok.ensures.ok told) read.ensures.ok.holds in
    record {
      accepts = λ limit payloads is. (tt, one_journal read.limit limit read.payloads.items payloads bytes found is);
      refuses = λ none. journal_is_one read.limit read.payloads.items bytes found none;
      refuses_damaged = λ at damaged. journal_not_damaged read.limit at read.payloads.items bytes found damaged;
    }

pub returns-in-Err-NotAJournal-clause-not_a_journal : goal.returns-in-Err-NotAJournal-clause-not_a_journal
returns-in-Err-NotAJournal-clause-not_a_journal g c = λ told is.
    subst (λ (l : List ℕ). IsNoJournal l) (c.deref.ensures.value ∙ c.in-Ok.ensures.ok told) (c.in-Err-NotAJournal.ensures.not_a_journal (search rules))

pub returns-in-Err-NotAJournal-clause-complete : goal.returns-in-Err-NotAJournal-clause-complete
returns-in-Err-NotAJournal-clause-complete g c = λ told.
    let bytes = (part_of (g.D.Disk.state c.args.disk.now) c.args.part).bytes in
    let none = subst (λ (l : List ℕ). IsNoJournal l) (c.deref.ensures.value ∙ c.in-Ok.ensures.ok told) (c.in-Err-NotAJournal.ensures.not_a_journal (search rules)) in
    record {
      accepts = λ limit payloads is. absurd (journal_is_one limit payloads bytes is none);
      refuses = λ same. refl;
      refuses_damaged = λ at damaged. absurd (damaged_is_one at bytes damaged none);
    }

pub returns-clause-complete : goal.returns-clause-complete
returns-clause-complete g c = λ told.
    let bytes = (part_of (g.D.Disk.state c.args.disk.now) c.args.part).bytes in
    let at = c.in-Err-Damaged.at in
    let damaged = subst (λ (l : List ℕ). IsDamagedAt at l) (c.deref.ensures.value ∙ c.in-Ok.ensures.ok told) (c.in-Err-Damaged.ensures.damaged at (search rules)) in
    record {
      accepts = λ limit payloads is. absurd (journal_not_damaged limit at payloads bytes is damaged);
      refuses = λ none. absurd (damaged_is_one at bytes damaged none);
      refuses_damaged = λ place there. ap (λ (n : ℕ). Damaged c.args.part n) (damaged_once place at bytes there damaged);
    }
