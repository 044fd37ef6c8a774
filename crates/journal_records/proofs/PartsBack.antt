-- The parts of records: what is written is read again, and what is read was written so.
use Rattle.std.proofs.Common.{◌≡◌, ◌⊎◌, inl, inr, ℕ, zero, suc, ◌-◌, Bool, true, false, cond, eqb, All, List, [], ◌∷◌, ◌++◌, length, map, take, drop, Some, Result, Ok, Err, refl, sym, ap, subst, ◌∙◌, append_assoc, arith, length-drop}
use Rattle.std.specs.Int.{w8, w32}
use Rattle.std.proofs.lemmas.Bool.{eqb-true}
use Rattle.std.proofs.lemmas.List.{drop_at, take_all}
use Rattle.std.proofs.lemmas.List.Elements.{All-nil, All-cons, All-head, All-tail}
use Rattle.salt_value.specs.Id.{IsId}
use Rattle.salt_value.specs.Word.{IsWord}
use Rattle.salt_value.specs.Readers.{Reader, ◌>>=◌, option_reader, several, Fails}
use Rattle.salt_value.specs.RoundTrips.{AreNumbersRead, AreNumbersWritten, AreValuesRead, AreValuesWritten}
use Rattle.salt_value.specs.Spelling.{bytes, concatenation}
use Rattle.salt_value.specs.WellFormed.{ValueFits}
use Rattle.salt_value.specs.Decoding.{IsBytes, read_at}
use Rattle.salt_value.specs.declared.event.Event.{Event}
use Rattle.salt_value.specs.declared.fault.ValueFault.{ValueFault}
use Rattle.salt_value.specs.declared.value.Value.{Value, roll-Value, out-Value, roll-out-Value, out-roll-Value}
use Rattle.salt_value.specs.declared.value.Value.TheVariants as v
use Rattle.salt_value.specs.declared.value.Value.TheVariants.{rolls-Map}
use Rattle.salt_value.specs.declared.value.Value.TheOpen.{Value-F}
use Rattle.salt_wire.specs.Spelling.{number, id, word, entry, job}
use Rattle.salt_wire.specs.Limits.{IsNumber, JobFits, EntryFits}
use Rattle.salt_wire.specs.Decoding.{id_field, word_field, entry_field, job_field, pairs_layer, value_pairs, body_answer, with_place, field_at}
use Rattle.salt_wire.specs.RoundTrip.{Took, IsReadBack, Spans}
use Rattle.salt_wire.specs.declared.fault.Misread.{Misread}
use Rattle.salt_wire.specs.declared.fault.WireFault.{WireFault}
use Rattle.salt_wire.specs.declared.fault.WireFault.TheVariants as faults
use Rattle.salt_wire.proofs.Codec.{bind_ok, ok_is, found_ok, join, one_byte, IsByte, map_bytes, MapFits, byte_is}
use Rattle.journal_records.specs.declared.fault.RecordFault.{RecordFault}
use Rattle.journal_records.specs.declared.fault.RecordFault.TheVariants.{NoMemory, NoRecord}
use Rattle.journal_records.specs.Spelling.{counted_bytes, event_bytes}
use Rattle.journal_records.specs.Limits.{FitsEach, EventFits}
use Rattle.journal_records.specs.Decoding.{in_record, part_fault, part, byte_part, number_part, read_value, value_part, fields_part, counted_part, event_part}

-- a spelling and a reading that undo each other, whatever bytes follow
pub record Undoes {A : Type 0} (spell : A → List ℕ) (Fits : A → Type 0) (read : Reader RecordFault A) : Type 0 where
  pub written : (x : A) (rest : List ℕ) → Fits x → read (spell x ++ rest) ≡ Ok (x, rest)
  pub took : (input : List ℕ) (x : A × List ℕ) → IsBytes input → read input ≡ Ok x → Took spell Fits input x

-- the laws of the crates below
pub record Below : Type 0 where
  pub numbers_read : AreNumbersRead RecordFault
  pub numbers_written : AreNumbersWritten RecordFault
  pub values_read : AreValuesRead
  pub values_written : AreValuesWritten
  pub ids : IsReadBack id IsId id_field
  pub words : IsReadBack word IsWord word_field
  pub entries : IsReadBack entry EntryFits entry_field
  pub jobs : IsReadBack job JobFits job_field

-- ---- steps

-- the first of some steps that gave something: what it read, and what the others then gave
pub record Step {A C : Type 0} (spell : A → List ℕ) (Right : A → Type 0) (next : A × List ℕ → Result C RecordFault) (z : C) (b : List ℕ) : Type 0 where
  pub it : A
  pub rest : List ℕ
  pub right : Right it
  pub parts : b ≡ spell it ++ rest
  pub are_bytes : IsBytes rest
  pub gives : next (it, rest) ≡ Ok z

pub step : {A C : Type 0} (spell : A → List ℕ) (Right : A → Type 0) (read : Reader RecordFault A) → Undoes spell Right read → (next : A × List ℕ → Result C RecordFault) (b : List ℕ) (z : C)
    → IsBytes b → (read b >>= next) ≡ Ok z → Step spell Right next z b
step spell Right read law next b z h e =
    let a = bind_ok (read b) next z e in
    let t = law.took b a.0 h a.1 in
    record { it = a.0.0; rest = a.0.1; right = t.0; parts = t.1; are_bytes = t.2; gives = a.2 }

-- what was written first is read, and then what was written after it
pub again : {A C : Type 0} (spell : A → List ℕ) (Right : A → Type 0) (read : Reader RecordFault A) → Undoes spell Right read → (next : A × List ℕ → Result C RecordFault) (x : A) (more rest : List ℕ)
    → Right x → (read ((spell x ++ more) ++ rest) >>= next) ≡ next (x, more ++ rest)
again spell Right read law next x more rest h = ap (λ b. read b >>= next) (append_assoc (spell x) more rest) ∙ ap (λ r. r >>= next) (law.written x (more ++ rest) h)

pub again_last : {A C : Type 0} (spell : A → List ℕ) (Right : A → Type 0) (read : Reader RecordFault A) → Undoes spell Right read → (next : A × List ℕ → Result C RecordFault) (x : A) (rest : List ℕ)
    → Right x → (read (spell x ++ rest) >>= next) ≡ next (x, rest)
again_last spell Right read law next x rest h = ap (λ r. r >>= next) (law.written x rest h)

-- one case of a choice by a number
pub choose : {C : Type 0} (n k : ℕ) (r s : Result C RecordFault) (x : C) → cond (eqb n k) r s ≡ Ok x → ((n ≡ k) × (r ≡ Ok x)) ⊎ (s ≡ Ok x)
choose {C} n k r s x e = by (eqb n k) (eqb-true n k) e where
  by : (b : Bool) → (b ≡ true → n ≡ k) → cond b r s ≡ Ok x → ((n ≡ k) × (r ≡ Ok x)) ⊎ (s ≡ Ok x)
  by true h e = inl (h refl, e)
  by false h e = inr e

-- ---- fields of messages

in_record_ok : {A : Type 0} (r : Result A Misread) (x : A) → in_record r ≡ Ok x → r ≡ Ok x
in_record_ok (Ok y) x e = ap Ok (ok_is y x e)
in_record_ok (Err f) x e = absurd cc

pub part_undoes : {A : Type 0} (spell : A → List ℕ) (Fits : A → Type 0) (read : Reader Misread A) → IsReadBack spell Fits read → Undoes spell Fits (part read)
unfolding part
part_undoes spell Fits read law = record {
  written = λ x rest h. ap in_record (law.written x rest h);
  took = λ b x h e. law.took b x h (in_record_ok (read b) x e);
}

-- what is read at the front of some bytes, with the place after it
module _ {A : Type 0} (spell : A → List ℕ) (Fits : A → Type 0) (read : Reader Misread A) where
  pub found_part : IsReadBack spell Fits read → (b : List ℕ) (x : A × ℕ) → Fits x.0 × Spans spell b 0 x → part read b ≡ Ok (x.0, take (length b - x.1) (drop x.1 b))
  unfolding part
  found_part law b x (h, s) =
      let rest = s.1.0 in
      let whole : b ≡ spell x.0 ++ rest = s.1.1 in
      let size : x.1 ≡ length (spell x.0) = omega (arith, s.0) in
      let dropped : drop x.1 b ≡ rest = ap (λ n. drop n b) size ∙ ap (drop (length (spell x.0))) whole ∙ drop_at (spell x.0) rest (length (spell x.0)) refl in
      let all : take (length b - x.1) (drop x.1 b) ≡ drop x.1 b = take_all (length b - x.1) (drop x.1 b) (omega (arith, length-drop x.1 b)) in
      let after : rest ≡ take (length b - x.1) (drop x.1 b) = sym (all ∙ dropped) in
      ap in_record (ap read whole ∙ law.written x.0 rest h) ∙ ap (λ (k : List ℕ). Ok (x.0, k)) after

  pub no_part : (b : List ℕ) (e : WireFault) → field_at read b 0 ≡ Err e → part read b ≡ Err NoRecord
  unfolding part field_at
  no_part b e h = by (read b) h where
    by : (r : Result (A × List ℕ) Misread) → body_answer (length b) (r >>= λ x. Ok (with_place (length b) x)) ≡ Err e → in_record r ≡ Err NoRecord
    by (Ok x) h = absurd cc
    by (Err f) h = refl

  pub fails_so : (b : List ℕ) (e : WireFault) → Fails faults.NoMemory e (field_at read b 0) → Fails NoMemory (part_fault e) (part read b)
  fails_so b faults.NoMemory h = inl refl
  fails_so b faults.BadVersion (inl p) = absurd cc
  fails_so b faults.BadVersion (inr p) = inr (no_part b _ p)
  fails_so b faults.BadKind (inl p) = absurd cc
  fails_so b faults.BadKind (inr p) = inr (no_part b _ p)
  fails_so b (faults.BadField at) (inl p) = absurd cc
  fails_so b (faults.BadField at) (inr p) = inr (no_part b _ p)
  fails_so b (faults.Trailing at) (inl p) = absurd cc
  fails_so b (faults.Trailing at) (inr p) = inr (no_part b _ p)

-- ---- things one after the other

module _ {A : Type 0} (spell : A → List ℕ) (Fits : A → Type 0) (item : Reader RecordFault A) (law : Undoes spell Fits item) where
  several_written : (xs : List A) (rest : List ℕ) → All Fits xs → several item (length xs) (concatenation (map spell xs) ++ rest) ≡ Ok (xs, rest)
  unfolding several
  several_written [] rest h = refl
  several_written (x ∷ xs) rest h =
      ap (several item (suc (length xs))) (append_assoc (spell x) (concatenation (map spell xs)) rest)
      ∙ rw (law.written x (concatenation (map spell xs) ++ rest) (All-head Fits x xs h), several_written xs rest (All-tail Fits x xs h)) refl

  record SeveralTook (n : ℕ) (b : List ℕ) (x : List A × List ℕ) : Type 0 where
    count : length x.0 ≡ n
    fits : All Fits x.0
    parts : b ≡ concatenation (map spell x.0) ++ x.1
    are_bytes : IsBytes x.1

  several_took : (n : ℕ) (b : List ℕ) (x : List A × List ℕ) → IsBytes b → several item n b ≡ Ok x → SeveralTook n b x
  unfolding several
  several_took zero b x h e =
      let made : List A × List ℕ = ([], b) in
      subst (SeveralTook 0 b) {x = made} (ok_is made x e) (record { count = refl; fits = All-nil Fits; parts = refl; are_bytes = h })
  several_took (suc n) b x h e =
      let s = step spell Fits item law (λ first. several item n first.1 >>= λ others. Ok (first.0 ∷ others.0, others.1)) b x h e in
      let c = bind_ok (several item n s.rest) (λ others. Ok (s.it ∷ others.0, others.1)) x s.gives in
      let t = several_took n s.rest c.0 s.are_bytes c.1 in
      let made : List A × List ℕ = (s.it ∷ c.0.0, c.0.1) in
      subst (SeveralTook (suc n) b) {x = made} (ok_is made x c.2) (record {
        count = ap suc t.count;
        fits = All-cons Fits s.it c.0.0 s.right t.fits;
        parts = join b (spell s.it) s.rest (concatenation (map spell c.0.0)) c.0.1 s.parts t.parts;
        are_bytes = t.are_bytes;
      })

module _ (l : Below) where
  pub numbers : Undoes number IsNumber number_part
  numbers = record {
    written = λ n rest h. l.numbers_read w32 NoRecord n rest (omega arith) h;
    took = λ b x h e. l.numbers_written w32 NoRecord b x.0 x.1 (omega arith) h e;
  }

  pub a_byte : Undoes one_byte IsByte byte_part
  a_byte = record {
    written = λ n rest h. ap (λ (s : List ℕ). byte_part (s ++ rest)) (sym (byte_is n h)) ∙ l.numbers_read w8 NoRecord n rest (omega arith) h;
    took = λ b x h e. let t = l.numbers_written w8 NoRecord b x.0 x.1 (omega arith) h e in (t.0, t.1 ∙ ap (λ (s : List ℕ). s ++ x.1) (byte_is x.0 t.0), t.2);
  }

  pub counted : {A : Type 0} (spell : A → List ℕ) (Fits : A → Type 0) (item : Reader RecordFault A) → Undoes spell Fits item → Undoes (counted_bytes spell) (FitsEach Fits) (counted_part item)
  unfolding counted_part
  counted spell Fits item law = record {
    written = λ xs rest h.
        again number IsNumber number_part numbers (λ count. several item count.0 count.1) (length xs) (concatenation (map spell xs)) rest h.0
        ∙ several_written spell Fits item law xs rest h.1;
    took = λ b x h e.
        let s = step number IsNumber number_part numbers (λ count. several item count.0 count.1) b x h e in
        let t = several_took spell Fits item law s.it s.rest x s.are_bytes s.gives in
        let front : b ≡ number (length x.0) ++ s.rest = s.parts ∙ ap (λ (n : ℕ). number n ++ s.rest) (sym t.count) in
        ((subst IsNumber (sym t.count) s.right, t.fits), join b (number (length x.0)) s.rest (concatenation (map spell x.0)) x.1 front t.parts, t.are_bytes);
  }

  -- ---- values

  read_value_ok : (b : List ℕ) (r : Result (Value × ℕ) ValueFault) (x : Value × List ℕ) → read_value b r ≡ Ok x → (y : Value × ℕ) × (r ≡ Ok y) × ((y.0, drop y.1 b) ≡ x)
  read_value_ok b (Ok y) x e = (y, refl, cc)
  read_value_ok b (Err f) x e = absurd cc

  pub values : Undoes bytes ValueFits value_part
  unfolding value_part
  values = record {
    written = λ w rest h. ap (read_value (bytes w ++ rest)) (l.values_read w rest h) ∙ ap (λ (r : List ℕ). Ok (w, r)) (drop_at (bytes w) rest (length (bytes w)) refl);
    took = λ b x h e.
        let a = read_value_ok b (read_at b) x e in
        let t = l.values_written b a.0.0 a.0.1 h a.1 in
        let after : t.2.0 ≡ drop a.0.1 b = sym (ap (λ n. drop n b) t.1 ∙ ap (drop (length (bytes a.0.0))) t.2.1 ∙ drop_at (bytes a.0.0) t.2.0 (length (bytes a.0.0)) refl) in
        subst (Took bytes ValueFits b) a.2 (t.0, t.2.1 ∙ ap (λ (r : List ℕ). bytes a.0.0 ++ r) after, subst IsBytes after t.2.2);
  }

  pairs_of-Map : (ps : List (List ℕ × Value)) → value_pairs (v.Map ps) ≡ Some ps
  pairs_of-Map ps = ap value_pairs (sym (rolls-Map ps)) ∙ ap pairs_layer (out-roll-Value (Value-F.Map ps))

  pairs_layer-is : (w : Value-F Value) (ps : List (List ℕ × Value)) → pairs_layer w ≡ Some ps → roll-Value w ≡ v.Map ps
  pairs_layer-is Value-F.Null ps e = absurd cc
  pairs_layer-is (Value-F.Flag b) ps e = absurd cc
  pairs_layer-is (Value-F.Int z) ps e = absurd cc
  pairs_layer-is (Value-F.Str t) ps e = absurd cc
  pairs_layer-is (Value-F.List xs) ps e = absurd cc
  pairs_layer-is (Value-F.Map qs) ps e = let same : qs ≡ ps = cc in rolls-Map qs ∙ ap v.Map same

  pub maps : Undoes map_bytes MapFits fields_part
  unfolding fields_part
  maps = record {
    written = λ ps rest h. rw (values.written (v.Map ps) rest h, pairs_of-Map ps) refl;
    took = λ b x h e.
        let a = bind_ok (value_part b) (λ value. option_reader NoRecord (value_pairs value.0) value.1) x e in
        let f = found_ok NoRecord (value_pairs a.0.0) a.0.1 x a.2 in
        let t = values.took b a.0 h a.1 in
        let same : a.0.0 ≡ v.Map f.0 = sym (roll-out-Value a.0.0) ∙ pairs_layer-is (out-Value a.0.0) f.0 f.1 in
        subst (λ (y : List (List ℕ × Value) × List ℕ). Took map_bytes MapFits b y) f.2 (subst ValueFits same t.0, t.1 ∙ ap (λ (w : Value). bytes w ++ a.0.1) same, t.2);
  }

  pub events : Undoes event_bytes EventFits event_part
  unfolding event_part
  events = record {
    written = λ event rest h.
        again word IsWord (part word_field) (part_undoes word IsWord word_field l.words) _ event.tag (bytes event.body) rest h.0
        ∙ again_last bytes ValueFits value_part values _ event.body rest h.1;
    took = λ b x h e.
        let s1 = step word IsWord (part word_field) (part_undoes word IsWord word_field l.words) _ b x h e in
        let s2 = step bytes ValueFits value_part values _ s1.rest x s1.are_bytes s1.gives in
        let made : Event × List ℕ = (record { tag = s1.it; body = s2.it }, s2.rest) in
        subst (Took event_bytes EventFits b) {x = made} (ok_is made x s2.gives) ((s1.right, s2.right), join b (word s1.it) s1.rest (bytes s2.it) s2.rest s1.parts s2.parts, s2.are_bytes);
  }
