use Rattle.std.proofs.Common.{◌≡◌, ℕ, List, [], ◌∷◌, ◌++◌, length, sym, ◌∙◌, ap, arith}
use Rattle.gate_journal.specs.Journal.{header, records}
use Rattle.gate_journal.proofs.Store.{journal_length-push}
use Rattle.gate_journal.proofs.Splits.{next, done}
use Rattle.gate_journal.proofs.read.read_journal.Goals as goal

pub loop-rest-preserved : goal.loop-rest-preserved
loop-rest-preserved c =
    let inv = c.loop-rest.invariant in
    let old = c.loop-rest.payloads.items in
    let payload = c.in-Some-read_record.payload.now in
    let after = c.in-Some-read_record.after.now in
    let found = c.in-Some-read_record.ensures in
    let grown : c.add.new.self.items ≡ old ++ payload ∷ [] = c.in_ok-add.ensures.ok ∙ ap (λ (l : List ℕ). old ++ l ∷ []) (c.new.ensures ∙ c.in_ok-from_slice.ensures.items) in
    record {
      split = next c.in-Some.limit old payload c.loop-rest.rest.now after c.args.bytes.now inv.split inv.gate c.loop-rest-test.true found.bytes_are
          ∙ ap (λ (ps : List (List ℕ)). (header c.in-Some.limit ++ records ps) ++ after) (sym grown);
      first = c.in_ok-add.ensures.first ∙ inv.first;
      place = omega (arith, inv.place, journal_length-push old payload, ap (λ (ps : List (List ℕ)). length (records ps)) grown);
      within = omega (arith, found.within);
      least = inv.least;
      greatest = inv.greatest;
      gate = found.gate;
    }

pub returns-clause-ok : goal.returns-clause-ok
returns-clause-ok c =
    let inv = c.loop-rest.invariant in
    let found = done c.in-Some.limit c.loop-rest.at c.loop-rest.payloads.items c.loop-rest.rest.now c.args.bytes.now inv.split inv.gate c.loop-rest-test.false inv.place inv.within inv.least inv.greatest in
    record { holds = found.0; counts = found.1; placed = inv.first }
