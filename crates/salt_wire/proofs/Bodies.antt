-- Whole bodies, and fields at a place of a body.
use Rattle.std.proofs.Common.{◌≡◌, inl, inr, ℕ, suc, ◌+◌, ◌-◌, ◌≤◌, Bool, true, false, cond, eqb, List, [], ◌∷◌, ◌++◌, length, take, drop, Result, Ok, Err, refl, sym, ap, subst, ◌∙◌, arith, length-append, length-drop}
use Rattle.std.specs.Prelude.{IfOk, IfErr, ◌≢◌}
use Rattle.std.proofs.lemmas.Bool.{eqb-true}
use Rattle.std.proofs.lemmas.List.{append-nil, get_or-drop, take_all}
use Rattle.salt_value.specs.Readers.{◌>>=◌, Reader, Gives, Answers}
use Rattle.salt_value.specs.Decoding.{IsBytes}
use Rattle.salt_wire.specs.declared.fault.Misread.{Misread}
use Rattle.salt_wire.specs.declared.fault.Misread.TheVariants.{NoMemory, BadVersion, Trailing}
use Rattle.salt_wire.specs.declared.fault.WireFault.{WireFault}
use Rattle.salt_wire.specs.declared.fault.WireFault.TheVariants as faults
use Rattle.salt_wire.specs.declared.message.Message.{Message}
use Rattle.salt_wire.specs.Spelling.{body, kind_and_fields as spelled}
use Rattle.salt_wire.specs.Limits.{Within}
use Rattle.salt_wire.specs.Decoding.{kind_and_fields, nothing_after, message_at, wire_fault, body_answer, decoding, with_place, field_at}
use Rattle.salt_wire.specs.FirstFault.{Wrong, FaultAt, IsTold}
use Rattle.salt_wire.specs.RoundTrip.{IsReadBack, Spans}
use Rattle.salt_wire.proofs.Codec.{bind_ok, ok_is}

body_answer_ok : {A : Type 0} (n : ℕ) (r : Result A Misread) (x : A) → body_answer n r ≡ Ok x → r ≡ Ok x
body_answer_ok n (Ok y) x e = cc
body_answer_ok n (Err f) x e = absurd cc

abbrev pub Found : List ℕ → Message → Type 0
Found b x = Within x × (b ≡ body x)

no_more : (xs : List ℕ) → length xs ≡ 0 → xs ≡ []
no_more [] e = refl
no_more (x ∷ xs) e = absurd (omega arith)

module _ (law : IsReadBack spelled Within kind_and_fields) where
  pub message_again : (x : Message) → Within x → decoding (body x) ≡ Ok x
  unfolding decoding message_at
  message_again x h =
      ap (λ r. body_answer (length (body x)) (r >>= nothing_after)) (ap kind_and_fields (sym (append-nil (spelled x))) ∙ law.written x [] h)

  nothing_after_ok : (a : Message × List ℕ) (x : Message) → nothing_after a ≡ Ok x → (a.0 ≡ x) × (a.1 ≡ [])
  nothing_after_ok a x e = by (eqb (length a.1) 0) (eqb-true (length a.1) 0) e where
    by : (c : Bool) → (c ≡ true → length a.1 ≡ 0) → cond c (Ok a.0) (Err (Trailing (length a.1))) ≡ Ok x → (a.0 ≡ x) × (a.1 ≡ [])
    by true h e = (ok_is a.0 x e, no_more a.1 (h refl))
    by false h e = absurd cc

  message_took : (b : List ℕ) (x : Message) → IsBytes b → message_at b ≡ Ok x → Found b x
  unfolding message_at
  message_took [] x h e = absurd cc
  message_took (version ∷ b) x h e = by (eqb version 1) (eqb-true version 1) e where
    by : (c : Bool) → (c ≡ true → version ≡ 1) → cond c (kind_and_fields b >>= nothing_after) (Err BadVersion) ≡ Ok x → Found (version ∷ b) x
    by true v e =
        let a = bind_ok (kind_and_fields b) nothing_after x e in
        let n = nothing_after_ok a.0 x a.2 in
        let t = law.took b a.0 (λ i. h (suc i)) a.1 in
        let parts : b ≡ spelled a.0.0 = t.1 ∙ ap (λ (r : List ℕ). spelled a.0.0 ++ r) n.1 ∙ append-nil (spelled a.0.0) in
        subst (Found (version ∷ b)) n.0 (t.0, ap (λ (k : ℕ). k ∷ b) (v refl) ∙ ap (λ (r : List ℕ). 1 ∷ r) parts)
    by false v e = absurd cc

  pub decoded_took : (b : List ℕ) (r : Result Message WireFault) → IsBytes b → Answers faults.NoMemory r (decoding b) → IfOk r (λ x. Within x × (b ≡ body x))
  unfolding decoding
  decoded_took b (Ok x) h given = message_took b x h (body_answer_ok (length b) (message_at b) x given)
  decoded_took b (Err f) h given = tt

module _ {A : Type 0} (spell : A → List ℕ) (Right : A → Type 0) (read : Reader Misread A) (law : IsReadBack spell Right read) where
  pub field_again : (b : List ℕ) (at : ℕ) (x : A) (rest : List ℕ) → at ≤ length b → Right x → drop at b ≡ spell x ++ rest → field_at read b at ≡ Ok (x, at + length (spell x))
  unfolding field_at
  field_again b at x rest le h e =
      let len : length b - at ≡ length (spell x) + length rest = sym (length-drop at b) ∙ ap length e ∙ length-append (spell x) rest in
      let place : length b - length rest ≡ at + length (spell x) = omega (arith, len, le) in
      ap (λ r. body_answer (length b) (r >>= λ x. Ok (with_place (length b) x))) (ap read e ∙ law.written x rest h) ∙ ap (λ (n : ℕ). Ok (x, n)) place

  pub field_took : (b : List ℕ) (at : ℕ) (r : Result (A × ℕ) WireFault) → IsBytes b → at ≤ length b → Answers faults.NoMemory r (field_at read b at) → IfOk r (λ x. Right x.0 × Spans spell b at x)
  unfolding field_at
  field_took b at (Err f) h le given = tt
  field_took b at (Ok y) h le given =
      let a = bind_ok (read (drop at b)) (λ x. Ok (with_place (length b) x)) y (body_answer_ok (length b) _ y given) in
      let t = law.took (drop at b) a.0 (λ i. rw get_or-drop (h (at + i))) a.1 in
      let len : length b - at ≡ length (spell a.0.0) + length a.0.1 = sym (length-drop at b) ∙ ap length t.1 ∙ length-append (spell a.0.0) a.0.1 in
      let place : length b - length a.0.1 ≡ at + length (spell a.0.0) = omega (arith, len, le) in
      let made : A × ℕ = with_place (length b) a.0 in
      subst (λ (x : A × ℕ). Right x.0 × Spans spell b at x) (ok_is made y a.2) (t.0, (place, (a.0.1, t.1)))

-- what is the answer is an answer
pub answers : {A : Type 0} (r s : Result A WireFault) → r ≡ s → Answers faults.NoMemory r s
answers (Ok x) s e = sym e
answers (Err f) s e = inr (sym e)

-- what a reader gave at a place of a body, with the place after it, is that field
module _ {X A : Type 0} (view : X → A × List ℕ) (read : Reader Misread A) (b : List ℕ) (at : ℕ) (out : Result (A × ℕ) WireFault) where
  told : (s : Result (A × List ℕ) Misread) → read (take (length b - at) (drop at b)) ≡ s → out ≡ body_answer (length b) (s >>= λ x. Ok (with_place (length b) x)) → out ≡ field_at read b at
  unfolding field_at
  told s given e =
      let whole : take (length b - at) (drop at b) ≡ drop at b = take_all (length b - at) (drop at b) (omega (arith, length-drop at b)) in
      e ∙ ap (λ (s : Result (A × List ℕ) Misread). body_answer (length b) (s >>= λ x. Ok (with_place (length b) x))) (sym given ∙ ap read whole)

  pub is_field : (r : Result X Misread) → Gives NoMemory view r (read (take (length b - at) (drop at b))) → IfOk r (λ x. out ≡ Ok (with_place (length b) (view x))) → IfErr r (λ e. out ≡ Err (wire_fault (length b) e)) → Answers faults.NoMemory out (field_at read b at)
  is_field (Ok x) given ok err = answers out _ (told (Ok (view x)) given ok)
  is_field (Err f) (inl h) ok err = subst (λ (o : Result (A × ℕ) WireFault). Answers faults.NoMemory o (field_at read b at)) (sym err) (inl (ap (wire_fault (length b)) h))
  is_field (Err f) (inr h) ok err = answers out _ (told (Err f) h err)

-- the fault of a field at a place is the first one there, and the first one is met
module _ {A : Type 0} (wrong : Wrong) (read : Reader Misread A) (tells : IsTold wrong read) (b : List ℕ) (at : ℕ) (h : IsBytes b) where
  rest_fits : IsBytes (drop at b)
  rest_fits i = rw get_or-drop (h (at + i))

  field_err : (f : WireFault) → field_at read b at ≡ Err f → (e : Misread) × (read (drop at b) ≡ Err e) × (f ≡ wire_fault (length b) e)
  unfolding field_at
  field_err f q = by (read (drop at b)) q where
    by : (r : Result (A × List ℕ) Misread) → body_answer (length b) (r >>= λ x. Ok (with_place (length b) x)) ≡ Err f → (e : Misread) × (r ≡ Err e) × (f ≡ wire_fault (length b) e)
    by (Ok x) q = absurd cc
    by (Err e) q = (e, refl, cc)

  fault_of : (f : WireFault) → field_at read b at ≡ Err f → FaultAt wrong b at f
  fault_of f q =
      let t = field_err f q in
      let m = tells.met (drop at b) t.0 rest_fits t.1 in
      subst (FaultAt wrong b at) (sym (t.2 ∙ ap (wire_fault (length b)) m.2)) (m.0, m.1, refl)

  pub fault_at : (r : Result (A × ℕ) WireFault) → Answers faults.NoMemory r (field_at read b at) → IfErr r (λ e. e ≢ faults.NoMemory → FaultAt wrong b at e)
  fault_at (Ok x) given = tt
  fault_at (Err f) (inl p) = λ ne. absurd (ne p)
  fault_at (Err f) (inr q) = λ ne. fault_of f q

  pub only_fault_at : (r : Result (A × ℕ) WireFault) → r ≡ field_at read b at → IfErr r (FaultAt wrong b at)
  only_fault_at (Ok x) given = tt
  only_fault_at (Err f) given = fault_of f (sym given)

  pub met_at : (f : WireFault) → FaultAt wrong b at f → field_at read b at ≡ Err f
  unfolding field_at
  met_at faults.NoMemory w = absurd w
  met_at faults.BadVersion w = absurd w
  met_at faults.BadKind w = absurd w
  met_at (faults.BadField place) w =
      ap (λ (r : Result (A × List ℕ) Misread). body_answer (length b) (r >>= λ x. Ok (with_place (length b) x))) (tells.first (drop at b) w.0 rest_fits w.1) ∙ ap (λ (n : ℕ). Err (faults.BadField n)) (sym w.2)
  met_at (faults.Trailing place) w = absurd w
