use Rattle.std.proofs.Common.{◌⊎◌, inl, ◌+◌, ◌++◌, ◌∷◌, [], length, sym, ◌∙◌, subst, arith, rules}
use Rattle.salt_disk.proofs.Moments.{started}
use Rattle.gate_journal.specs.Journal.{JournalState, HoldsPayloads, IsJournal, HoldsOldOrNew}
use Rattle.gate_journal.proofs.Store.{rests_image, rests_left}
use Rattle.gate_journal.proofs.journal.Journal.append.Goals as goal

pub returns-then-length-self-clause-any_moment : goal.returns-then-length-self-clause-any_moment
returns-then-length-self-clause-any_moment g c = λ told up payloads rests.
    let disk = g.D.Disk.state c.args.disk.now in
    started g.D.Disk.past g.D.Disk.state c.args.disk.now (HoldsOldOrNew c.args.self.now.part c.args.self.now.limit payloads c.args.payload.now disk)
    (rests_image c.args.self.now.part c.args.self.now.limit c.args.self.now.length payloads c.args.payload.now disk rests)

pub returns-in_default-clause-any_moment : goal.returns-in_default-clause-any_moment
returns-in_default-clause-any_moment g c = λ told up payloads rests.
    let disk = g.D.Disk.state c.args.disk.now in
    started g.D.Disk.past g.D.Disk.state c.args.disk.now (HoldsOldOrNew c.args.self.now.part c.args.self.now.limit payloads c.args.payload.now disk)
    (rests_image c.args.self.now.part c.args.self.now.limit c.args.self.now.length payloads c.args.payload.now disk rests)

pub returns-in-Ok-store-clause-held : goal.returns-in-Ok-store-clause-held
returns-in-Ok-store-clause-held g c = λ told up payloads holds.
    let old = g.D.Disk.state c.args.disk.now in
    let rests = subst (λ (j : JournalState). HoldsPayloads j payloads old) (sym c.self.view_is) holds in
    c.in-Ok-store.ensures.ok told c.self.inside.limit payloads c.args.payload.now (record { rests = rests; body_is = c.deref.ensures.value ∙ c.in-Ok.ensures; room = omega arith })

pub returns-in-Ok-store-clause-left : goal.returns-in-Ok-store-clause-left
returns-in-Ok-store-clause-left g c = λ told up payloads holds image may.
    let old = g.D.Disk.state c.args.disk.now in
    let new = g.D.Disk.state c.store.new.disk in
    let rests = subst (λ (j : JournalState). HoldsPayloads j payloads old) (sym c.self.view_is) holds in
    let now = c.in-Ok-store.ensures.ok told c.self.inside.limit payloads c.args.payload.now (record { rests = rests; body_is = c.deref.ensures.value ∙ c.in-Ok.ensures; room = omega arith }) in
    subst (λ (j : JournalState). IsJournal j.limit (payloads ++ c.args.payload.now ∷ []) (image j.part)) c.self.view_is
    (rests_left c.self.inside.part c.self.inside.limit (c.self.inside.length + 5 + length c.args.payload.now) (payloads ++ c.args.payload.now ∷ []) new now image may)

pub returns-in-Err-NoMemory-clause-held : goal.returns-in-Err-NoMemory-clause-held
returns-in-Err-NoMemory-clause-held g c = λ told up payloads holds.
    let old = g.D.Disk.state c.args.disk.now in
    let new = g.D.Disk.state c.store.new.disk in
    let rests = subst (λ (j : JournalState). HoldsPayloads j payloads old) (sym c.self.view_is) holds in
    subst (λ (j : JournalState). HoldsPayloads j payloads new) c.self.view_is
    (c.in-Err-NoMemory.ensures.memory told (search rules) c.self.inside.limit payloads rests)

pub returns-in-Err-NoMemory-clause-left : goal.returns-in-Err-NoMemory-clause-left
returns-in-Err-NoMemory-clause-left g c = λ told up payloads holds image may.
    let old = g.D.Disk.state c.args.disk.now in
    let new = g.D.Disk.state c.store.new.disk in
    let rests = subst (λ (j : JournalState). HoldsPayloads j payloads old) (sym c.self.view_is) holds in
    subst (λ (j : JournalState). IsJournal j.limit payloads (image j.part)) c.self.view_is
    (rests_left c.self.inside.part c.self.inside.limit c.self.inside.length payloads new (c.in-Err-NoMemory.ensures.memory told (search rules) c.self.inside.limit payloads rests) image may)

pub returns-clause-left : goal.returns-clause-left
returns-clause-left g c = λ told up payloads holds image may.
    let old = g.D.Disk.state c.args.disk.now in
    let rests = subst (λ (j : JournalState). HoldsPayloads j payloads old) (sym c.self.view_is) holds in
    let run = c.store.ensures.any_moment told c.self.inside.limit payloads c.args.payload.now (record { rests = rests; body_is = c.deref.ensures.value ∙ c.in-Ok.ensures; room = omega arith }) in
    subst (λ (j : JournalState). IsJournal j.limit payloads (image j.part) ⊎ IsJournal j.limit (payloads ++ c.args.payload.now ∷ []) (image j.part)) c.self.view_is
    (run.each image (inl may)).here
