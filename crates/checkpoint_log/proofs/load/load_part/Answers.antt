use Rattle.std.proofs.Common.{sym, ap, ◌∙◌, Err}
use Rattle.checkpoint_log.proofs.PartReads.{fault_is, not_disk}
use Rattle.checkpoint_log.proofs.load.load_part.Goals as goal

pub returns-in-Err-Damaged-clause-ok : goal.returns-in-Err-Damaged-clause-ok
returns-in-Err-Damaged-clause-ok g c = λ told. record {
  found = tt;
  none = λ e. absurd (cc);
  damaged = λ p at e.
      let is = c.in-Err-Damaged.ensures.damaged p at (ap Err (c.in-Err-Damaged.field-0-is ∙ fault_is _ _ e)) in
      (is.0, is.1 told);
}

pub returns-in-Err-Damaged-clause-settled : goal.returns-in-Err-Damaged-clause-settled
returns-in-Err-Damaged-clause-settled g c = λ told. c.in-Err-Damaged.ensures.settled told (λ e. not_disk c.in-Err-Damaged.part c.in-Err-Damaged.at (sym c.in-Err-Damaged.field-0-is ∙ fault_is _ _ e))

pub returns-in-Err-Damaged-clause-fuse : goal.returns-in-Err-Damaged-clause-fuse
returns-in-Err-Damaged-clause-fuse g c = λ told. record {
  passed = (c.in-Err-Damaged.ensures.fuse told).passed (λ e. not_disk c.in-Err-Damaged.part c.in-Err-Damaged.at (sym c.in-Err-Damaged.field-0-is ∙ fault_is _ _ e));
  not_passed = λ e. absurd (cc);
}
