-- Records: what is written is read again, and what is read was written so.
use Rattle.std.proofs.Common.{◌≡◌, inl, inr, ℕ, Bool, true, false, cond, eqb, List, [], ◌∷◌, ◌++◌, length, Option, Some, None, Result, Ok, Err, refl, sym, ap, subst, ◌∙◌, arith}
use Rattle.std.proofs.lemmas.Bool.{eqb-true}
use Rattle.std.proofs.lemmas.List.{append-nil}
use Rattle.salt_value.specs.Id.{IsId}
use Rattle.salt_value.specs.Readers.{◌>>=◌, Fails}
use Rattle.salt_value.specs.Reading.{Decodes}
use Rattle.salt_value.specs.Decoding.{IsBytes}
use Rattle.salt_wire.specs.Spelling.{number, id, entry, job}
use Rattle.salt_wire.specs.Limits.{IsNumber, JobFits, EntryFits}
use Rattle.salt_wire.specs.Decoding.{id_field, entry_field, job_field}
use Rattle.salt_wire.specs.RoundTrip.{Took}
use Rattle.salt_wire.specs.declared.deed.Changed.{Changed}
use Rattle.salt_wire.specs.declared.deed.ReactDeed.{ReactDeed}
use Rattle.salt_wire.specs.declared.deed.ReactDeed.TheVariants as r
use Rattle.salt_wire.specs.declared.deed.Deed.{Deed}
use Rattle.salt_wire.specs.declared.deed.Deed.TheVariants as d
use Rattle.salt_wire.proofs.Codec.{bind_ok, ok_is, join, one_byte, IsByte, map_bytes, MapFits}
use Rattle.journal_records.specs.declared.fault.RecordFault.{RecordFault}
use Rattle.journal_records.specs.declared.fault.RecordFault.TheVariants.{NoMemory, NoRecord}
use Rattle.journal_records.specs.Spelling.{event_bytes, react_bytes, reacts_bytes, entries_bytes, holdings_bytes, changed_bytes, record_bytes}
use Rattle.journal_records.specs.Limits.{FitsEach, EventFits, ReactFits, HoldingsFit, ChangedFits, RecordFits}
use Rattle.journal_records.specs.Decoding.{part, byte_part, number_part, fields_part, counted_part, event_part, react_job_part, refused_part, react_after, react_part, holdings_part, some_change, changed_after, changed_part, publish_fields, entry_up_fields, fire_fields, react_fields, intake_fields, done_fields, record_after, record_part, alone, whole_record, AreRecordsRead, AreRecordsWritten}
use Rattle.journal_records.proofs.PartsBack.{Undoes, Below, step, again, again_last, choose, part_undoes, numbers, a_byte, counted, maps, events}

of_code : {A : Type 0} (spell : A → List ℕ) (Fits : A → Type 0) (tag n : ℕ) (b : List ℕ) (x : A × List ℕ) → tag ≡ n → Took spell Fits (n ∷ b) x → Took spell Fits (tag ∷ b) x
of_code spell Fits tag n b x g p = subst (λ k. Took spell Fits (k ∷ b) x) (sym g) p

no_bytes : (xs : List ℕ) → length xs ≡ 0 → xs ≡ []
no_bytes [] e = refl
no_bytes (x ∷ xs) e = absurd (omega arith)

module _ (l : Below) where
  ids : Undoes id IsId (part id_field)
  ids = part_undoes id IsId id_field l.ids

  some_entries : Undoes entry EntryFits (part entry_field)
  some_entries = part_undoes entry EntryFits entry_field l.entries

  jobs : Undoes job JobFits (part job_field)
  jobs = part_undoes job JobFits job_field l.jobs

  -- ---- what a reaction gave

  react_job_took : (b : List ℕ) (x : ReactDeed × List ℕ) → IsBytes b → react_job_part b ≡ Ok x → Took react_bytes ReactFits (1 ∷ b) x
  unfolding react_job_part
  react_job_took b x h e =
      let s = step job JobFits (part job_field) jobs _ b x h e in
      let made : ReactDeed × List ℕ = (r.Job s.it, s.rest) in
      subst (Took react_bytes ReactFits (1 ∷ b)) {x = made} (ok_is made x s.gives) (s.right, ap (λ (k : List ℕ). 1 ∷ k) s.parts, s.are_bytes)

  refused_took : (b : List ℕ) (x : ReactDeed × List ℕ) → IsBytes b → refused_part b ≡ Ok x → Took react_bytes ReactFits (2 ∷ b) x
  unfolding refused_part
  refused_took b x h e =
      let s1 = step id IsId (part id_field) ids _ b x h e in
      let s2 = step one_byte IsByte byte_part (a_byte l) _ s1.rest x s1.are_bytes s1.gives in
      let made : ReactDeed × List ℕ = (r.Refused s1.it s2.it, s2.rest) in
      subst (Took react_bytes ReactFits (2 ∷ b)) {x = made} (ok_is made x s2.gives) ((s1.right, s2.right), ap (λ (k : List ℕ). 2 ∷ k) (join b (id s1.it) s1.rest (one_byte s2.it) s2.rest s1.parts s2.parts), s2.are_bytes)

  react_after_took : (tag : ℕ) (b : List ℕ) (x : ReactDeed × List ℕ) → IsBytes b → react_after tag b ≡ Ok x → Took react_bytes ReactFits (tag ∷ b) x
  unfolding react_after
  react_after_took tag b x h e =
      elim (choose tag 1 _ _ x e) [
        | inl g ↦ of_code react_bytes ReactFits tag 1 b x g.0 (react_job_took b x h g.1)
        | inr e ↦ elim (choose tag 2 _ _ x e) [ inl g ↦ of_code react_bytes ReactFits tag 2 b x g.0 (refused_took b x h g.1) | inr e ↦ absurd cc ]
      ]

  react_written : (x : ReactDeed) (rest : List ℕ) → ReactFits x → react_part (react_bytes x ++ rest) ≡ Ok (x, rest)
  unfolding react_part react_after react_job_part refused_part
  react_written (r.Job j) rest h =
      again one_byte IsByte byte_part (a_byte l) _ 1 (job j) rest (omega arith)
      ∙ again_last job JobFits (part job_field) jobs _ j rest h
  react_written (r.Refused sls cause) rest h =
      again one_byte IsByte byte_part (a_byte l) _ 2 (id sls ++ one_byte cause) rest (omega arith)
      ∙ again id IsId (part id_field) ids _ sls (one_byte cause) rest h.0
      ∙ again_last one_byte IsByte byte_part (a_byte l) _ cause rest h.1

  react_took : (b : List ℕ) (x : ReactDeed × List ℕ) → IsBytes b → react_part b ≡ Ok x → Took react_bytes ReactFits b x
  unfolding react_part
  react_took b x h e =
      let s = step one_byte IsByte byte_part (a_byte l) _ b x h e in
      subst (λ (c : List ℕ). Took react_bytes ReactFits c x) (sym s.parts) (react_after_took s.it s.rest x s.are_bytes s.gives)

  reacts : Undoes react_bytes ReactFits react_part
  reacts = record { written = react_written; took = react_took }

  -- ---- what a minion holds

  holdings : Undoes holdings_bytes HoldingsFit holdings_part
  unfolding holdings_part
  holdings = record {
    written = λ c rest h.
        again map_bytes MapFits fields_part (maps l) _ c.grains (map_bytes c.store ++ map_bytes c.mine) rest h.0
        ∙ again map_bytes MapFits fields_part (maps l) _ c.store (map_bytes c.mine) rest h.1
        ∙ again_last map_bytes MapFits fields_part (maps l) _ c.mine rest h.2;
    took = λ b x h e.
        let s1 = step map_bytes MapFits fields_part (maps l) _ b x h e in
        let s2 = step map_bytes MapFits fields_part (maps l) _ s1.rest x s1.are_bytes s1.gives in
        let s3 = step map_bytes MapFits fields_part (maps l) _ s2.rest x s2.are_bytes s2.gives in
        let made : Changed × List ℕ = (record { grains = s1.it; store = s2.it; mine = s3.it }, s3.rest) in
        subst (Took holdings_bytes HoldingsFit b) {x = made} (ok_is made x s3.gives) ((s1.right, s2.right, s3.right), join b (map_bytes s1.it) s1.rest (map_bytes s2.it ++ map_bytes s3.it) s3.rest s1.parts (join s1.rest (map_bytes s2.it) s2.rest (map_bytes s3.it) s3.rest s2.parts s3.parts), s3.are_bytes);
  }

  some_change_took : (b : List ℕ) (x : Option Changed × List ℕ) → IsBytes b → some_change b ≡ Ok x → Took changed_bytes ChangedFits (1 ∷ b) x
  unfolding some_change
  some_change_took b x h e =
      let s = step holdings_bytes HoldingsFit holdings_part holdings _ b x h e in
      let made : Option Changed × List ℕ = (Some s.it, s.rest) in
      subst (Took changed_bytes ChangedFits (1 ∷ b)) {x = made} (ok_is made x s.gives) (s.right, ap (λ (k : List ℕ). 1 ∷ k) s.parts, s.are_bytes)

  changed_after_took : (tag : ℕ) (b : List ℕ) (x : Option Changed × List ℕ) → IsBytes b → changed_after tag b ≡ Ok x → Took changed_bytes ChangedFits (tag ∷ b) x
  unfolding changed_after
  changed_after_took tag b x h e =
      let made : Option Changed × List ℕ = (None, b) in
      elim (choose tag 0 _ _ x e) [
        | inl g ↦ of_code changed_bytes ChangedFits tag 0 b x g.0 (subst (Took changed_bytes ChangedFits (0 ∷ b)) {x = made} (ok_is made x g.1) (tt, refl, h))
        | inr e ↦ elim (choose tag 1 _ _ x e) [ inl g ↦ of_code changed_bytes ChangedFits tag 1 b x g.0 (some_change_took b x h g.1) | inr e ↦ absurd cc ]
      ]

  changed_written : (x : Option Changed) (rest : List ℕ) → ChangedFits x → changed_part (changed_bytes x ++ rest) ≡ Ok (x, rest)
  unfolding changed_part changed_after some_change
  changed_written None rest h = again_last one_byte IsByte byte_part (a_byte l) _ 0 rest (omega arith)
  changed_written (Some c) rest h =
      again one_byte IsByte byte_part (a_byte l) _ 1 (holdings_bytes c) rest (omega arith)
      ∙ again_last holdings_bytes HoldingsFit holdings_part holdings _ c rest h

  changed_took : (b : List ℕ) (x : Option Changed × List ℕ) → IsBytes b → changed_part b ≡ Ok x → Took changed_bytes ChangedFits b x
  unfolding changed_part
  changed_took b x h e =
      let s = step one_byte IsByte byte_part (a_byte l) _ b x h e in
      subst (λ (c : List ℕ). Took changed_bytes ChangedFits c x) (sym s.parts) (changed_after_took s.it s.rest x s.are_bytes s.gives)

  changes : Undoes changed_bytes ChangedFits changed_part
  changes = record { written = changed_written; took = changed_took }

  -- ---- records

  publish_took : (b : List ℕ) (x : Deed × List ℕ) → IsBytes b → publish_fields b ≡ Ok x → Took record_bytes RecordFits (1 ∷ b) x
  unfolding publish_fields
  publish_took b x h e =
      let s = step job JobFits (part job_field) jobs _ b x h e in
      let made : Deed × List ℕ = (d.Publish s.it, s.rest) in
      subst (Took record_bytes RecordFits (1 ∷ b)) {x = made} (ok_is made x s.gives) (s.right, ap (λ (k : List ℕ). 1 ∷ k) s.parts, s.are_bytes)

  entry_up_took : (b : List ℕ) (x : Deed × List ℕ) → IsBytes b → entry_up_fields b ≡ Ok x → Took record_bytes RecordFits (2 ∷ b) x
  unfolding entry_up_fields
  entry_up_took b x h e =
      let s1 = step id IsId (part id_field) ids _ b x h e in
      let s2 = step entry EntryFits (part entry_field) some_entries _ s1.rest x s1.are_bytes s1.gives in
      let made : Deed × List ℕ = (d.Up s1.it s2.it, s2.rest) in
      subst (Took record_bytes RecordFits (2 ∷ b)) {x = made} (ok_is made x s2.gives) ((s1.right, s2.right), ap (λ (k : List ℕ). 2 ∷ k) (join b (id s1.it) s1.rest (entry s2.it) s2.rest s1.parts s2.parts), s2.are_bytes)

  fire_took : (b : List ℕ) (x : Deed × List ℕ) → IsBytes b → fire_fields b ≡ Ok x → Took record_bytes RecordFits (3 ∷ b) x
  unfolding fire_fields
  fire_took b x h e =
      let s = step event_bytes EventFits event_part (events l) _ b x h e in
      let made : Deed × List ℕ = (d.Fire s.it, s.rest) in
      subst (Took record_bytes RecordFits (3 ∷ b)) {x = made} (ok_is made x s.gives) (s.right, ap (λ (k : List ℕ). 3 ∷ k) s.parts, s.are_bytes)

  all_reacts : Undoes reacts_bytes (FitsEach ReactFits) (counted_part react_part)
  all_reacts = counted l react_bytes ReactFits react_part reacts

  all_entries : Undoes entries_bytes (FitsEach EntryFits) (counted_part (part entry_field))
  all_entries = counted l entry EntryFits (part entry_field) some_entries

  react_fields_took : (b : List ℕ) (x : Deed × List ℕ) → IsBytes b → react_fields b ≡ Ok x → Took record_bytes RecordFits (4 ∷ b) x
  unfolding react_fields
  react_fields_took b x h e =
      let s = step reacts_bytes (FitsEach ReactFits) (counted_part react_part) all_reacts _ b x h e in
      let made : Deed × List ℕ = (d.React s.it, s.rest) in
      subst (Took record_bytes RecordFits (4 ∷ b)) {x = made} (ok_is made x s.gives) (s.right, ap (λ (k : List ℕ). 4 ∷ k) s.parts, s.are_bytes)

  intake_took : (b : List ℕ) (x : Deed × List ℕ) → IsBytes b → intake_fields b ≡ Ok x → Took record_bytes RecordFits (5 ∷ b) x
  unfolding intake_fields
  intake_took b x h e =
      let s = step job JobFits (part job_field) jobs _ b x h e in
      let made : Deed × List ℕ = (d.Intake s.it, s.rest) in
      subst (Took record_bytes RecordFits (5 ∷ b)) {x = made} (ok_is made x s.gives) (s.right, ap (λ (k : List ℕ). 5 ∷ k) s.parts, s.are_bytes)

  boot_took : (b : List ℕ) (x : Deed × List ℕ) → IsBytes b → ◌≡◌ {A = Result (Deed × List ℕ) RecordFault} (Ok (d.Boot, b)) (Ok x) → Took record_bytes RecordFits (6 ∷ b) x
  boot_took b x h e = let made : Deed × List ℕ = (d.Boot, b) in subst (Took record_bytes RecordFits (6 ∷ b)) {x = made} (ok_is made x e) (tt, refl, h)

  done_took : (b : List ℕ) (x : Deed × List ℕ) → IsBytes b → done_fields b ≡ Ok x → Took record_bytes RecordFits (7 ∷ b) x
  unfolding done_fields
  done_took b x h e =
      let s1 = step number IsNumber number_part (numbers l) _ b x h e in
      let s2 = step changed_bytes ChangedFits changed_part changes _ s1.rest x s1.are_bytes s1.gives in
      let s3 = step entries_bytes (FitsEach EntryFits) (counted_part (part entry_field)) all_entries _ s2.rest x s2.are_bytes s2.gives in
      let made : Deed × List ℕ = (d.Done s1.it s2.it s3.it, s3.rest) in
      subst (Took record_bytes RecordFits (7 ∷ b)) {x = made} (ok_is made x s3.gives) ((s1.right, s2.right, s3.right), ap (λ (k : List ℕ). 7 ∷ k) (join b (number s1.it) s1.rest (changed_bytes s2.it ++ entries_bytes s3.it) s3.rest s1.parts (join s1.rest (changed_bytes s2.it) s2.rest (entries_bytes s3.it) s3.rest s2.parts s3.parts)), s3.are_bytes)

  record_after_took : (tag : ℕ) (b : List ℕ) (x : Deed × List ℕ) → IsBytes b → record_after tag b ≡ Ok x → Took record_bytes RecordFits (tag ∷ b) x
  unfolding record_after
  record_after_took tag b x h e =
      elim (choose tag 1 _ _ x e) [
        | inl g ↦ of 1 g.0 (publish_took b x h g.1)
        | inr e ↦
            elim (choose tag 2 _ _ x e) [
              | inl g ↦ of 2 g.0 (entry_up_took b x h g.1)
              | inr e ↦
                  elim (choose tag 3 _ _ x e) [
                    | inl g ↦ of 3 g.0 (fire_took b x h g.1)
                    | inr e ↦
                        elim (choose tag 4 _ _ x e) [
                          | inl g ↦ of 4 g.0 (react_fields_took b x h g.1)
                          | inr e ↦
                              elim (choose tag 5 _ _ x e) [
                                | inl g ↦ of 5 g.0 (intake_took b x h g.1)
                                | inr e ↦
                                    elim (choose tag 6 _ _ x e) [
                                      | inl g ↦ of 6 g.0 (boot_took b x h g.1)
                                      | inr e ↦ elim (choose tag 7 _ _ x e) [ inl g ↦ of 7 g.0 (done_took b x h g.1) | inr e ↦ absurd cc ]
                                    ]
                              ]
                        ]
                  ]
            ]
      ]
    where
      of : (n : ℕ) → tag ≡ n → Took record_bytes RecordFits (n ∷ b) x → Took record_bytes RecordFits (tag ∷ b) x
      of n g p = of_code record_bytes RecordFits tag n b x g p

  record_written : (x : Deed) (rest : List ℕ) → RecordFits x → record_part (record_bytes x ++ rest) ≡ Ok (x, rest)
  unfolding record_part record_after publish_fields entry_up_fields fire_fields react_fields intake_fields done_fields
  record_written (d.Publish j) rest h =
      again one_byte IsByte byte_part (a_byte l) _ 1 (job j) rest (omega arith)
      ∙ again_last job JobFits (part job_field) jobs _ j rest h
  record_written (d.Up minion en) rest h =
      again one_byte IsByte byte_part (a_byte l) _ 2 (id minion ++ entry en) rest (omega arith)
      ∙ again id IsId (part id_field) ids _ minion (entry en) rest h.0
      ∙ again_last entry EntryFits (part entry_field) some_entries _ en rest h.1
  record_written (d.Fire event) rest h =
      again one_byte IsByte byte_part (a_byte l) _ 3 (event_bytes event) rest (omega arith)
      ∙ again_last event_bytes EventFits event_part (events l) _ event rest h
  record_written (d.React items) rest h =
      again one_byte IsByte byte_part (a_byte l) _ 4 (reacts_bytes items) rest (omega arith)
      ∙ again_last reacts_bytes (FitsEach ReactFits) (counted_part react_part) all_reacts _ items rest h
  record_written (d.Intake j) rest h =
      again one_byte IsByte byte_part (a_byte l) _ 5 (job j) rest (omega arith)
      ∙ again_last job JobFits (part job_field) jobs _ j rest h
  record_written d.Boot rest h = again_last one_byte IsByte byte_part (a_byte l) _ 6 rest (omega arith)
  record_written (d.Done seq changed en) rest h =
      again one_byte IsByte byte_part (a_byte l) _ 7 (number seq ++ (changed_bytes changed ++ entries_bytes en)) rest (omega arith)
      ∙ again number IsNumber number_part (numbers l) _ seq (changed_bytes changed ++ entries_bytes en) rest h.0
      ∙ again changed_bytes ChangedFits changed_part changes _ changed (entries_bytes en) rest h.1
      ∙ again_last entries_bytes (FitsEach EntryFits) (counted_part (part entry_field)) all_entries _ en rest h.2

  record_took : (b : List ℕ) (x : Deed × List ℕ) → IsBytes b → record_part b ≡ Ok x → Took record_bytes RecordFits b x
  unfolding record_part
  record_took b x h e =
      let s = step one_byte IsByte byte_part (a_byte l) _ b x h e in
      subst (λ (c : List ℕ). Took record_bytes RecordFits c x) (sym s.parts) (record_after_took s.it s.rest x s.are_bytes s.gives)

  -- ---- whole records

  alone_ok : (a : Deed × List ℕ) (x : Deed) → alone a ≡ Ok x → (a.0 ≡ x) × (a.1 ≡ [])
  alone_ok a x e = by (eqb (length a.1) 0) (eqb-true (length a.1) 0) e where
    by : (c : Bool) → (c ≡ true → length a.1 ≡ 0) → cond c (Ok a.0) (Err NoRecord) ≡ Ok x → (a.0 ≡ x) × (a.1 ≡ [])
    by true h e = (ok_is a.0 x e, no_bytes a.1 (h refl))
    by false h e = absurd cc

  pub records_read : AreRecordsRead
  unfolding whole_record
  records_read x h = ap (λ r. r >>= alone) (ap record_part (sym (append-nil (record_bytes x))) ∙ record_written x [] h)

  pub records_written : AreRecordsWritten
  unfolding whole_record
  records_written b x h e =
      let a = bind_ok (record_part b) alone x e in
      let n = alone_ok a.0 x a.2 in
      let t = record_took b a.0 h a.1 in
      let parts : b ≡ record_bytes a.0.0 = t.1 ∙ ap (λ (k : List ℕ). record_bytes a.0.0 ++ k) n.1 ∙ append-nil (record_bytes a.0.0) in
      subst (λ (y : Deed). RecordFits y × (b ≡ record_bytes y)) n.0 (t.0, parts)

-- ---- what reading answers

module _ (read : AreRecordsRead) (written : AreRecordsWritten) (b : List ℕ) where
  of_spelling : (x : Deed) → RecordFits x → b ≡ record_bytes x → whole_record b ≡ Ok x
  of_spelling x fits e = ap whole_record e ∙ read x fits

  pub one_decodes : (x : Deed) → IsBytes b → whole_record b ≡ Ok x → Decodes RecordFits record_bytes b (Some x)
  one_decodes x h e =
      let t = written b x h e in
      (t.0, sym t.1, λ y fits same. ok_is y x (sym (of_spelling y fits (sym same)) ∙ e))

  fails_not : (x : Deed) → whole_record b ≡ Ok x → Fails NoMemory NoRecord (whole_record b) → ⊥
  fails_not x e (inl p) = absurd cc
  fails_not x e (inr q) = absurd cc

  pub none_decodes : Fails NoMemory NoRecord (whole_record b) → Decodes RecordFits record_bytes b None
  none_decodes h = λ y fits same. fails_not y (of_spelling y fits (sym same)) h

  pub one_answers : (x : Deed) → whole_record b ≡ Ok x → (y : Deed) → RecordFits y → b ≡ record_bytes y → ◌≡◌ {A = Option Deed} (Some x) (Some y)
  one_answers x e y fits same = ap Some (ok_is x y (sym e ∙ of_spelling y fits same))

  pub none_answers : Fails NoMemory NoRecord (whole_record b) → (y : Deed) → RecordFits y → b ≡ record_bytes y → ◌≡◌ {A = Option Deed} None (Some y)
  none_answers h y fits same = absurd (fails_not y (of_spelling y fits same) h)
