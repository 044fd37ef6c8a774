-- What a crash leaves in each of the two steps of an append.
use Rattle.std.proofs.Common.{◌≡◌, ◌≢◌, ◌⊎◌, inl, inr, ⊎_elim, ℕ, ◌+◌, ◌-◌, ◌<◌, ◌≤◌, List, [], ◌∷◌, ◌++◌, length, get_or, take, drop, refl, sym, ◌∙◌, ap, subst, arith, append_assoc, length-append, take-append-drop}
use Rattle.std.proofs.lemmas.List.{append-nil, take_at, drop_at, drop_more}
use Rattle.std.proofs.lemmas.Bool.{cases_eq}
use Rattle.byteorder.specs.Endian.{big_bytes}
use Rattle.salt_disk.specs.declared.disk.Part.{Part}
use Rattle.salt_disk.specs.Disk.{PartState, DiskState, part_of, settled_part, IsSettled, put}
use Rattle.salt_disk.specs.Crash.{Image, MayLeave, IsPartImage, IsTorn, WritesOnly, OthersStay}
use Rattle.salt_disk.proofs.Torn.{torn_put, settled_image}
use Rattle.gate_journal.specs.Journal.{record_of, records, header, journal_length, tail_of, IsJournal, Rests, IsNext, HoldsOldOrNew, DecidedByGate}

length-header : (limit : ℕ) → length (header limit) ≡ 16
length-header limit = refl

length-big_bytes : (x : ℕ) → length (big_bytes 4 x) ≡ 4
length-big_bytes x = refl

pub records-push : (payloads : List (List ℕ)) (payload : List ℕ) → records (payloads ++ payload ∷ []) ≡ records payloads ++ record_of payload
records-push [] payload = append-nil (record_of payload)
records-push (p ∷ payloads) payload = ap (λ (l : List ℕ). record_of p ++ l) (records-push payloads payload) ∙ sym (append_assoc (record_of p) (records payloads) (record_of payload))

length-tail : (payload : List ℕ) → length (tail_of payload) ≡ 5 + length payload
length-tail payload = omega (arith, length-append (big_bytes 4 (length payload) ++ payload) (0 ∷ []), length-append (big_bytes 4 (length payload)) payload, length-big_bytes (length payload))

pub journal_length-push : (payloads : List (List ℕ)) (payload : List ℕ) → journal_length (payloads ++ payload ∷ []) ≡ journal_length payloads + 5 + length payload
journal_length-push payloads payload =
    omega (arith, ap length (records-push payloads payload), length-append (records payloads) (record_of payload), length-append (big_bytes 4 (length payload)) payload, length-big_bytes (length payload))

abbrev front : ℕ → List (List ℕ) → List ℕ
front limit payloads = header limit ++ records payloads

length-front : (limit : ℕ) (payloads : List (List ℕ)) → length (front limit payloads) + 1 ≡ journal_length payloads
length-front limit payloads = omega (arith, length-append (header limit) (records payloads), length-header limit)

pub length-journal : (limit : ℕ) (payloads : List (List ℕ)) (bytes : List ℕ) → IsJournal limit payloads bytes → journal_length payloads ≤ length bytes
length-journal limit payloads bytes is =
    omega (arith, ap length is.bytes_are, length-append (front limit payloads) (is.gate ∷ is.rest), length-front limit payloads)

-- A body behind a gate: with the gate closed it means nothing, with the gate open it is one more record.
pub record IsStaged (limit : ℕ) (payloads : List (List ℕ)) (payload bytes : List ℕ) : Type 0 where
  pub gate : ℕ
  pub rest : List ℕ
  pub shut : gate ≢ 1
  pub bytes_are : bytes ≡ front limit payloads ++ gate ∷ (tail_of payload ++ rest)
  pub within : journal_length payloads ≤ limit
  pub least : 64 ≤ limit
  pub greatest : limit ≤ 1073741824

module _ (limit len : ℕ) (payloads : List (List ℕ)) (counts : len ≡ journal_length payloads) where
  before_gate : length (front limit payloads) ≡ len - 1
  before_gate = omega (arith, counts, length-front limit payloads)

  with_gate : (gate : ℕ) → length (front limit payloads ++ gate ∷ []) ≡ len
  with_gate gate = omega (arith, counts, length-append (front limit payloads) (gate ∷ []), length-front limit payloads)

  split_gate : (gate : ℕ) (rest : List ℕ) → front limit payloads ++ gate ∷ rest ≡ (front limit payloads ++ gate ∷ []) ++ rest
  split_gate gate rest = sym (append_assoc (front limit payloads) (gate ∷ []) rest)

  -- the closed gate stands in each outcome of the first write
  pub torn_body : (count : ℕ) (bytes file : List ℕ) → IsJournal limit payloads bytes → IsTorn len count bytes file → IsJournal limit payloads file
  torn_body count bytes file is torn =
      let kept : take len file ≡ front limit payloads ++ is.gate ∷ [] =
      torn.before ∙ ap (λ (l : List ℕ). take len l) (is.bytes_are ∙ split_gate is.gate is.rest) ∙ take_at (front limit payloads ++ is.gate ∷ []) is.rest len (with_gate is.gate) in
      record {
        gate = is.gate;
        rest = drop len file;
        shut = is.shut;
        bytes_are = sym (take-append-drop len file) ∙ ap (λ (l : List ℕ). l ++ drop len file) kept ∙ sym (split_gate is.gate (drop len file));
        within = is.within;
        least = is.least;
        greatest = is.greatest;
      }

  pub put_body : (payload bytes : List ℕ) → IsJournal limit payloads bytes → IsStaged limit payloads payload (put len (tail_of payload) bytes)
  put_body payload bytes is =
      let kept : take len bytes ≡ front limit payloads ++ is.gate ∷ [] =
      ap (λ (l : List ℕ). take len l) (is.bytes_are ∙ split_gate is.gate is.rest) ∙ take_at (front limit payloads ++ is.gate ∷ []) is.rest len (with_gate is.gate) in
      let behind = drop (len + length (tail_of payload)) bytes in
      record {
        gate = is.gate;
        rest = behind;
        shut = is.shut;
        bytes_are = ap (λ (l : List ℕ). (l ++ tail_of payload) ++ behind) kept ∙ append_assoc (front limit payloads ++ is.gate ∷ []) (tail_of payload) behind ∙ sym (split_gate is.gate (tail_of payload ++ behind));
        within = is.within;
        least = is.least;
        greatest = is.greatest;
      }

  -- with its gate closed it is the journal from before
  pub staged_old : (payload bytes : List ℕ) → IsStaged limit payloads payload bytes → IsJournal limit payloads bytes
  staged_old payload bytes is = record {
    gate = is.gate;
    rest = tail_of payload ++ is.rest;
    shut = is.shut;
    bytes_are = is.bytes_are;
    within = is.within;
    least = is.least;
    greatest = is.greatest;
  }

  module _ (payload : List ℕ) (room : len + 5 + length payload ≤ limit) where
    -- with its gate open it has one payload more
    opened : (rest : List ℕ) → front limit payloads ++ 1 ∷ (tail_of payload ++ rest) ≡ front limit (payloads ++ payload ∷ []) ++ 0 ∷ rest
    opened rest =
        let body : List ℕ = big_bytes 4 (length payload) ++ payload in
        ap (λ (l : List ℕ). front limit payloads ++ 1 ∷ l) (append_assoc body (0 ∷ []) rest)
        ∙ sym (append_assoc (front limit payloads) (record_of payload) (0 ∷ rest))
        ∙ ap (λ (l : List ℕ). l ++ 0 ∷ rest) (append_assoc (header limit) (records payloads) (record_of payload) ∙ ap (λ (l : List ℕ). header limit ++ l) (sym (records-push payloads payload)))

    new_journal : (rest bytes : List ℕ) → 64 ≤ limit → limit ≤ 1073741824 → bytes ≡ front limit payloads ++ 1 ∷ (tail_of payload ++ rest) → IsJournal limit (payloads ++ payload ∷ []) bytes
    new_journal rest bytes least greatest is = record {
      gate = 0;
      rest = rest;
      shut = λ e. absurd (cc);
      bytes_are = is ∙ opened rest;
      within = omega (arith, room, counts, journal_length-push payloads payload);
      least = least;
      greatest = greatest;
    }

    -- the record stands whole in each outcome of the second write
    pub torn_gate_by : (bytes file : List ℕ) → IsStaged limit payloads payload bytes → IsTorn (len - 1) 1 bytes file → DecidedByGate limit (len - 1) payloads payload file
    torn_gate_by bytes file is torn =
        let gate = get_or file (len - 1) 0 in
        let back = tail_of payload ++ is.rest in
        let kept : take (len - 1) file ≡ front limit payloads =
        torn.before ∙ ap (λ (l : List ℕ). take (len - 1) l) is.bytes_are ∙ take_at (front limit payloads) (is.gate ∷ back) (len - 1) before_gate in
        let past : len - 1 + 1 ≡ len = omega (arith, counts) in
        let behind : drop (len - 1 + 1) file ≡ back =
        torn.after ∙ ap (λ (n : ℕ). drop n bytes) past ∙ ap (λ (l : List ℕ). drop len l) (is.bytes_are ∙ split_gate is.gate back) ∙ drop_at (front limit payloads ++ is.gate ∷ []) back len (with_gate is.gate) in
        let long : len - 1 < length file = omega (arith, torn.no_shorter, counts, length-journal limit payloads bytes (staged_old payload bytes is)) in
        let whole : file ≡ front limit payloads ++ gate ∷ back =
        sym (take-append-drop (len - 1) file) ∙ ap (λ (l : List ℕ). l ++ drop (len - 1) file) kept ∙ ap (λ (l : List ℕ). front limit payloads ++ l) (drop_more file (len - 1) 0 long ∙ ap (λ (l : List ℕ). gate ∷ l) behind) in
        record {
          opened = λ is_open. new_journal is.rest file is.least is.greatest (whole ∙ ap (λ (n : ℕ). front limit payloads ++ n ∷ back) is_open);
          shut = λ shut. record { gate = gate; rest = back; shut = shut; bytes_are = whole; within = is.within; least = is.least; greatest = is.greatest };
        }

    pub torn_gate : (bytes file : List ℕ) → IsStaged limit payloads payload bytes → IsTorn (len - 1) 1 bytes file → IsJournal limit payloads file ⊎ IsJournal limit (payloads ++ payload ∷ []) file
    torn_gate bytes file is torn =
        let by = torn_gate_by bytes file is torn in
        ⊎_elim (λ (is_open : get_or file (len - 1) 0 ≡ 1). inr (by.opened is_open)) (λ (shut : get_or file (len - 1) 0 ≢ 1). inl (by.shut shut)) (cases_eq (get_or file (len - 1) 0) 1)

    pub put_gate : (bytes : List ℕ) → IsStaged limit payloads payload bytes → IsJournal limit (payloads ++ payload ∷ []) (put (len - 1) (1 ∷ []) bytes)
    put_gate bytes is =
        let back = tail_of payload ++ is.rest in
        let past : len - 1 + 1 ≡ len = omega (arith, counts) in
        let kept : take (len - 1) bytes ≡ front limit payloads = ap (λ (l : List ℕ). take (len - 1) l) is.bytes_are ∙ take_at (front limit payloads) (is.gate ∷ back) (len - 1) before_gate in
        let behind : drop (len - 1 + 1) bytes ≡ back =
        ap (λ (n : ℕ). drop n bytes) past ∙ ap (λ (l : List ℕ). drop len l) (is.bytes_are ∙ split_gate is.gate back) ∙ drop_at (front limit payloads ++ is.gate ∷ []) back len (with_gate is.gate) in
        new_journal is.rest (put (len - 1) (1 ∷ []) bytes) is.least is.greatest
        (ap (λ (l : List ℕ). (l ++ 1 ∷ []) ++ drop (len - 1 + 1) bytes) kept ∙ ap (λ (l : List ℕ). (front limit payloads ++ 1 ∷ []) ++ l) behind ∙ sym (split_gate 1 back))

module _ (part : Part) (limit len : ℕ) (payloads : List (List ℕ)) (payload body : List ℕ) (old : DiskState) (next : IsNext limit len payloads payload body (part_of old part)) where
  -- what the first write leaves at any moment
  pub body_image : (image : Image) → WritesOnly part len (length body) old image → HoldsOldOrNew part limit payloads payload old image
  body_image image writes = record {
    here = inl (torn_body limit len payloads next.rests.counts (length body) (part_of old part).bytes (image part) next.rests.holds writes.here);
    others = writes.others;
  }

  pub body_old : (image : Image) → WritesOnly part len (length body) old image → IsJournal limit payloads (image part)
  body_old image writes = torn_body limit len payloads next.rests.counts (length body) (part_of old part).bytes (image part) next.rests.holds writes.here

  module _ (mid : DiskState) (written : part_of mid part ≡ settled_part (put len body (part_of old part).bytes)) (stay : OthersStay part old mid) where
    pub staged : IsStaged limit payloads payload (part_of mid part).bytes
    staged = subst (λ (l : List ℕ). IsStaged limit payloads payload l)
        (sym (ap (λ (p : PartState). p.bytes) written ∙ ap (λ (l : List ℕ). put len l (part_of old part).bytes) next.body_is))
        (put_body limit len payloads next.rests.counts payload (part_of old part).bytes next.rests.holds)

    -- and what the second leaves
    pub gate_image : (image : Image) → WritesOnly part (len - 1) 1 mid image → HoldsOldOrNew part limit payloads payload old image
    gate_image image writes = record {
      here = torn_gate limit len payloads next.rests.counts payload next.room (part_of mid part).bytes (image part) staged writes.here;
      others = λ other ne. subst (λ (p : PartState). IsPartImage p (image other)) (stay other ne) (writes.others other ne);
    }

    pub gate_decides : (image : Image) → WritesOnly part (len - 1) 1 mid image → DecidedByGate limit (len - 1) payloads payload (image part)
    gate_decides image writes = torn_gate_by limit len payloads next.rests.counts payload next.room (part_of mid part).bytes (image part) staged writes.here

    -- at the end the new payload stands there
    pub rests_new : (new : PartState) → new ≡ settled_part (put (len - 1) (1 ∷ []) (part_of mid part).bytes) → Rests limit (len + 5 + length payload) (payloads ++ payload ∷ []) new
    rests_new new is = record {
      holds = subst (λ (p : PartState). IsJournal limit (payloads ++ payload ∷ []) p.bytes) (sym is) (put_gate limit len payloads next.rests.counts payload next.room (part_of mid part).bytes staged);
      counts = omega (arith, next.rests.counts, journal_length-push payloads payload);
      is_settled = subst (λ (p : PartState). IsSettled p) (sym is) refl;
    }

-- With the body written and the gate closed the journal is as before, whatever the body is.
pub rests_old : (limit len : ℕ) (payloads : List (List ℕ)) (body : List ℕ) (old new : PartState) → Rests limit len payloads old → len ≤ length old.bytes → new ≡ settled_part (put len body old.bytes) → Rests limit len payloads new
rests_old limit len payloads body old new rests within is = record {
  holds = torn_body limit len payloads rests.counts (length body) old.bytes new.bytes rests.holds
      (subst (λ (p : PartState). IsTorn len (length body) old.bytes p.bytes) (sym is) (torn_put len body old.bytes within));
  counts = rests.counts;
  is_settled = subst (λ (p : PartState). IsSettled p) (sym is) refl;
}

pub rests_within : (limit len : ℕ) (payloads : List (List ℕ)) (part : PartState) → Rests limit len payloads part → len ≤ length part.bytes
rests_within limit len payloads part rests = omega (arith, rests.counts, length-journal limit payloads part.bytes rests.holds)

-- where nothing is done, a crash leaves the payloads from before
pub rests_image : (part : Part) (limit len : ℕ) (payloads : List (List ℕ)) (payload : List ℕ) (disk : DiskState) → Rests limit len payloads (part_of disk part) → (image : Image) → MayLeave disk image → HoldsOldOrNew part limit payloads payload disk image
rests_image part limit len payloads payload disk rests image may = record {
  here = inl (subst (λ (l : List ℕ). IsJournal limit payloads l)
      (sym (settled_image (part_of disk part).bytes (image part) (subst (λ (p : PartState). IsPartImage p (image part)) rests.is_settled (may part)))) rests.holds);
  others = λ other ne. may other;
}

-- a journal at rest leaves itself
pub rests_left : (part : Part) (limit len : ℕ) (payloads : List (List ℕ)) (disk : DiskState) → Rests limit len payloads (part_of disk part) → (image : Image) → MayLeave disk image → IsJournal limit payloads (image part)
rests_left part limit len payloads disk rests image may = subst (λ (l : List ℕ). IsJournal limit payloads l)
    (sym (settled_image (part_of disk part).bytes (image part) (subst (λ (p : PartState). IsPartImage p (image part)) rests.is_settled (may part)))) rests.holds
