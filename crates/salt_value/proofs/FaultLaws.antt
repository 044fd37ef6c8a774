-- The fault that reading meets is the first one.
use Rattle.std.proofs.Common.{◌≡◌, ◌⊎◌, inl, inr, ℕ, ℤ, zero, suc, ◌+◌, ◌-◌, ◌^◌, ◌<◌, ◌≤◌, Bool, true, false, ◌&&◌, cond, eqb, ltb, List, [], ◌∷◌, ◌++◌, length, take, drop, map, Option, Some, None, Result, Ok, Err, refl, sym, ap, subst, ◌∙◌, append_assoc, arith, length-append}
use Rattle.std.specs.Int.{Width, w32, w64, byte_len, from_be_bytes, to_be_bytes, cast_signed}
use Rattle.std.specs.Str.{is_utf8}
use Rattle.std.proofs.lemmas.Bool.{ltb-true, ltb-false, lt-ltb, le-ltb, eqb-true, eqb-false, eq-eqb, ne_eqb}
use Rattle.salt_value.specs.declared.fault.Misread.{Misread}
use Rattle.salt_value.specs.declared.fault.Misread.TheVariants.{Short, BadTag, Unsorted, NotUtf8, TooDeep}
use Rattle.salt_value.specs.declared.value.Value.{Value}
use Rattle.salt_value.specs.declared.value.Value.TheVariants as v
use Rattle.salt_value.specs.Keys.{keys_of, last_key, comes_after}
use Rattle.salt_value.specs.Spelling.{bytes, text, concatenation, pairs_spelling, spelled_pairs}
use Rattle.salt_value.specs.WellFormed.{well_formed, IsWellFormed, is_text, every, every_pair, depth, greatest, AllWellFormed, PairsWellFormed}
use Rattle.salt_value.specs.Readers.{◌>>=◌, Reader, several, Answers}
use Rattle.salt_value.specs.Decoding.{IsBytes, count_at, number_or, text_or, int_at, text_at, room_at, key_at, pair_at, pairs_at, value_at, from_front, read_at, after_tag}
use Rattle.std.specs.Prelude.{IfErr, ◌≢◌, min}
use Rattle.salt_value.specs.declared.fault.ValueFault.{ValueFault}
use Rattle.salt_value.specs.declared.fault.ValueFault.TheVariants as faults
use Rattle.salt_value.specs.FirstFault.{FirstFault, value_fault, Faults, IsCut, CountedFault, TextFault, KeyFault, ItemsFault, PairFault, PairsFault, TagFault, ValueFaults}
use Rattle.salt_value.specs.Tags.{Tag, tag_of}
use Rattle.salt_value.proofs.ReadLemmas.{tagged, tag_of-past, guard_ok}
use Rattle.salt_value.proofs.WriteLemmas.{both_true, pairs_told}
use Rattle.salt_value.proofs.ByteFields.{IsBytes-rest, IsBytes-take, wide32, number_takes, number_again, text_takes, text_again, key_takes, key_again, both}
use Rattle.salt_value.proofs.ReadBack.{Took, value_takes, chain, chain_first, pair_takes, value_again, pair_again}

-- what is wrong after a tag of this code
abbrev TaggedFault : ℕ → Faults → ℕ → Faults
TaggedFault d fault code b f = TagFault d fault (tag_of code) b f

-- a step or the rest failed
bind_err : {A B : Type 0} (r : Result A Misread) (g : A → Result B Misread) (f : Misread) → (r >>= g) ≡ Err f → (r ≡ Err f) ⊎ ((x : A) × (r ≡ Ok x) × (g x ≡ Err f))
bind_err (Ok x) g f e = inr (x, refl, e)
bind_err (Err d) g f e = inl cc

ok_err : {A : Type 0} {x : A} {f : Misread} → ◌≡◌ {A = Result A Misread} (Ok x) (Err f) → ⊥
ok_err e = cc

never : {A : Type 0} {P : Type 0} (x : A) (f : Misread) → ◌≡◌ {A = Result A Misread} (Ok x) (Err f) → P
never x f e = absurd cc

number_fails : (w : Width) (b : List ℕ) (f : Misread) → number_or w Short b ≡ Err f → IsCut (byte_len w) b f
number_fails w b f e = go (ltb (length b) (byte_len w)) refl e where
  go : (t : Bool) → ltb (length b) (byte_len w) ≡ t → ◌≡◌ {A = Result (ℕ × List ℕ) Misread} (cond t (Err Short) (Ok (from_be_bytes w (take (byte_len w) b), drop (byte_len w) b))) (Err f) → IsCut (byte_len w) b f
  go true t e = (ltb-true _ _ t, cc)
  go false t e = absurd cc

int_fails : (b : List ℕ) (f : Misread) → int_at b ≡ Err f → IsCut 8 b f
int_fails b f e = elim (bind_err (number_or w64 Short b) (λ n. Ok (cast_signed w64 n.0, n.1)) f e) [ inl h ↦ number_fails w64 b f h | inr h ↦ absurd (ok_err h.2) ]

above : (n : ℕ) → (n ≡ 0 → ⊥) → 0 < n
above zero h = absurd (h refl)
above (suc n) h = omega arith

-- what a number counts
counted_fails : {A : Type 0} (g : ℕ → Reader Misread A) (fault : ℕ → Faults) (b : List ℕ) (f : Misread) → IsBytes b → ((n : ℕ) (rest : List ℕ) → IsBytes rest → b ≡ to_be_bytes w32 n ++ rest → g n rest ≡ Err f → fault n rest f)
    → (count_at b >>= λ n. g n.0 n.1) ≡ Err f → CountedFault fault b f
counted_fails g fault b f fits inner e =
    elim (bind_err (count_at b) (λ n. g n.0 n.1) f e) [
      | inl h ↦ inl (number_fails w32 b f h)
      | inr h ↦ let t = number_takes w32 (2 ^ 32) wide32 Short b h.0.0 h.0.1 fits h.1 in inr (h.0.0, h.0.1, t.1, t.0.parts, inner h.0.0 h.0.1 t.0.rest_fits t.0.parts h.2)
    ]

-- after a length, as many bytes are left as before it but four
rest_length : (b : List ℕ) (n : ℕ) (rest : List ℕ) → b ≡ to_be_bytes w32 n ++ rest → length b - 4 ≡ length rest
rest_length b n rest parts = omega (arith, ap length parts, length-append (to_be_bytes w32 n) rest, wide32.len n)

abbrev IsBadText : ℕ → Faults
IsBadText n rest f = IsCut n rest f ⊎ ((n ≤ length rest) × (is_utf8 (take n rest) ≡ false) × (f ≡ NotUtf8 (length rest)))

abbrev text_body : Misread → Bool → Bool → ℕ → List ℕ → Result (List ℕ × List ℕ) Misread
text_body bad short utf8 n rest = cond short (Err Short) (cond utf8 (Ok (take n rest, drop n rest)) (Err bad))

text_fails : (b : List ℕ) (f : Misread) → IsBytes b → text_at b ≡ Err f → TextFault b f
unfolding text_or
text_fails b f fits e =
    counted_fails (λ n rest. text_body (NotUtf8 (length b - 4)) (ltb (length rest) n) (is_utf8 (take n rest)) n rest) IsBadText b f fits
    (λ n rest h parts e. go n rest (ltb (length rest) n) (is_utf8 (take n rest)) (rest_length b n rest parts) refl refl e) e where
      go : (n : ℕ) (rest : List ℕ) (s u : Bool) → length b - 4 ≡ length rest → ltb (length rest) n ≡ s → is_utf8 (take n rest) ≡ u
          → text_body (NotUtf8 (length b - 4)) s u n rest ≡ Err f → IsBadText n rest f
      go n rest true u l s t e = inl (ltb-true _ _ s, cc)
      go n rest false true l s t e = absurd cc
      go n rest false false l s t e = let g : f ≡ NotUtf8 (length b - 4) = cc in inr (ltb-false _ _ s, t, g ∙ ap (λ n. NotUtf8 n) l)

key_fails : (last : Option (List ℕ)) (b : List ℕ) (f : Misread) → IsBytes b → key_at last b ≡ Err f → KeyFault last b f
unfolding key_at
key_fails last b f fits e =
    elim (bind_err (text_at b) (λ key. cond (comes_after last key.0) (Ok key) (Err (Unsorted (length b - 4)))) f e) [
      | inl h ↦ inl (text_fails b f fits h)
      | inr h ↦
          let t = text_takes b h.0 fits h.1 in
          let len : length b - 4 ≡ length h.0.0 + length h.0.1 = omega (arith, ap length t.0.parts, length-append (text h.0.0) h.0.1, length-append (to_be_bytes w32 (length h.0.0)) h.0.0, wide32.len (length h.0.0)) in
          go h.0 (comes_after last h.0.0) refl h.2 t.1 t.0.parts len
    ] where
      go : (x : List ℕ × List ℕ) (c : Bool) → comes_after last x.0 ≡ c → ◌≡◌ {A = Result (List ℕ × List ℕ) Misread} (cond c (Ok x) (Err (Unsorted (length b - 4)))) (Err f)
          → is_text x.0 ≡ true → b ≡ text x.0 ++ x.1 → length b - 4 ≡ length x.0 + length x.1 → KeyFault last b f
      go x true c e t parts len = absurd cc
      go x false c e t parts len = let g : f ≡ Unsorted (length b - 4) = cc in inr (x.0, x.1, t, parts, c, g ∙ ap (λ n. Unsorted n) len)

room_fails : (d : ℕ) (b : List ℕ) (f : Misread) → room_at d b ≡ Err f → (d ≡ 0) × (f ≡ TooDeep)
room_fails d b f e = go (eqb d 0) refl e where
  go : (z : Bool) → eqb d 0 ≡ z → ◌≡◌ {A = Result (Unit {0} × List ℕ) Misread} (cond z (Err TooDeep) (Ok (tt, b))) (Err f) → (d ≡ 0) × (f ≡ TooDeep)
  go true z e = (eqb-true d 0 z, cc)
  go false z e = absurd cc

room_is : (d : ℕ) (b : List ℕ) (x : Unit {0} × List ℕ) → room_at d b ≡ Ok x → (0 < d) × (b ≡ x.1)
room_is d b x e =
    let g = guard_ok (eqb d 0) TooDeep (tt, b) x e in
    (above d (λ h. eqb-false d 0 g.0 h), ap (λ (p : Unit {0} × List ℕ). p.1) g.1)

abbrev last_of : Option (List ℕ) → List (List ℕ × Value) → Option (List ℕ)
last_of last [] = last
last_of last (p ∷ ps) = last_of (Some p.0) ps

last_of_is : (p : List ℕ × Value) (ps : List (List ℕ × Value)) → last_of (Some p.0) ps ≡ last_key (p ∷ ps)
last_of_is p [] = refl
last_of_is p (q ∷ ps) = last_of_is q ps

last_of_none : (ps : List (List ℕ × Value)) → last_of None ps ≡ last_key ps
last_of_none [] = refl
last_of_none (p ∷ ps) = last_of_is p ps

module _ (d : ℕ) (item : Reader Misread Value) (fault : Faults) (law : (b : List ℕ) (x : Value × List ℕ) → IsBytes b → item b ≡ Ok x → Took d b x)
    (fails : (b : List ℕ) (f : Misread) → IsBytes b → item b ≡ Err f → fault b f) where
  several_fails : (n : ℕ) (b : List ℕ) (f : Misread) → IsBytes b → several item n b ≡ Err f → ItemsFault d fault n b f
  unfolding several
  several_fails zero b f fits e = absurd cc
  several_fails (suc n) b f fits e =
      elim (bind_err (item b) (λ first. several item n first.1 >>= λ others. Ok (first.0 ∷ others.0, others.1)) f e) [
        | inl h ↦ ([], b, omega arith, refl, omega arith, refl, fails b f fits h)
        | inr h ↦
            let t = law b h.0 fits h.1 in
            elim (bind_err (several item n h.0.1) (λ others. Ok (h.0.0 ∷ others.0, others.1)) f h.2) [
              | inl g ↦
                  let i = several_fails n h.0.1 f t.0.rest_fits g in (
                    h.0.0 ∷ i.0,
                    i.1,
                    omega (arith, i.2),
                    both (well_formed h.0.0) (every (map well_formed i.0)) t.1 i.3,
                    omega (arith, t.2, i.4),
                    t.0.parts ∙ ap (λ l. bytes h.0.0 ++ l) i.5 ∙ sym (append_assoc (bytes h.0.0) (concatenation (map bytes i.0)) i.1),
                    i.6,
                  )
              | inr g ↦ absurd (not_err g.2)
            ]
      ] where
        not_err : {A : Type 0} {x : A} → ◌≡◌ {A = Result A Misread} (Ok x) (Err f) → ⊥
        not_err e = cc

  pair_fails : (last : Option (List ℕ)) (b : List ℕ) (f : Misread) → IsBytes b → pair_at d item last b ≡ Err f → PairFault d fault last b f
  unfolding pair_at
  pair_fails last b f fits e =
      elim (bind_err (room_at d b) (λ room. key_at last room.1 >>= λ key. item key.1 >>= λ value. Ok ((key.0, value.0), value.1)) f e) [
        | inl r ↦ inl (room_fails d b f r)
        | inr r ↦
            let room = room_is d b r.0 r.1 in
            elim (bind_err (key_at last r.0.1) (λ key. item key.1 >>= λ value. Ok ((key.0, value.0), value.1)) f r.2) [
              | inl h ↦ inr (room.0, inl (key_fails last b f fits (ap (key_at last) room.1 ∙ h)))
              | inr h ↦
                  let k = key_takes last b h.0 fits (ap (key_at last) room.1 ∙ h.1) in
                  elim (bind_err (item h.0.1) (λ value. Ok ((h.0.0, value.0), value.1)) f h.2) [
                    | inl g ↦ inr (room.0, inr (h.0.0, h.0.1, k.1, k.2, k.0.parts, fails h.0.1 f k.0.rest_fits g))
                    | inr g ↦ absurd (ok_err g.2)
                  ]
            ]
      ]

  abbrev FaultFrom : Option (List ℕ) → ℕ → List ℕ → Misread → Type 0
  FaultFrom last n b f = (done : List (List ℕ × Value)) × (rest : List ℕ) × (length done < n) × PairsWellFormed done × (chain last (keys_of done) ≡ true)
      × (greatest (map (λ (p : List ℕ × Value). depth p.1) done) ≤ d) × (b ≡ pairs_spelling (spelled_pairs done) ++ rest) × PairFault d fault (last_of last done) rest f

  pairs_fails : (n : ℕ) (last : Option (List ℕ)) (b : List ℕ) (f : Misread) → IsBytes b → pairs_at d item last n b ≡ Err f → FaultFrom last n b f
  unfolding pairs_at
  pairs_fails zero last b f fits e = absurd cc
  pairs_fails (suc n) last b f fits e =
      elim (bind_err (pair_at d item last b) (λ first. pairs_at d item (Some first.0.0) n first.1 >>= λ others. Ok (first.0 ∷ others.0, others.1)) f e) [
        | inl h ↦ ([], b, omega arith, refl, refl, omega arith, refl, pair_fails last b f fits h)
        | inr h ↦
            let t = pair_takes d item law last b h.0 fits h.1 in
            let p = h.0.0 in
            elim (bind_err (pairs_at d item (Some p.0) n h.0.1) (λ others. Ok (p ∷ others.0, others.1)) f h.2) [
              | inl g ↦
                  let i = pairs_fails n (Some p.0) h.0.1 f t.0.rest_fits g in (
                    p ∷ i.0,
                    i.1,
                    omega (arith, i.2),
                    both (is_text p.0) (well_formed p.1 && every_pair (pairs_told i.0)) t.1 (both (well_formed p.1) (every_pair (pairs_told i.0)) t.3 i.3),
                    both (comes_after last p.0) (chain (Some p.0) (keys_of i.0)) t.2 i.4,
                    omega (arith, t.4, i.5),
                    t.0.parts ∙ ap (λ l. (text p.0 ++ bytes p.1) ++ l) i.6 ∙ sym (append_assoc (text p.0 ++ bytes p.1) (pairs_spelling (spelled_pairs i.0)) i.1)
                        ∙ ap (λ l. l ++ i.1) (append_assoc (text p.0) (bytes p.1) (pairs_spelling (spelled_pairs i.0))),
                    i.7,
                  )
              | inr g ↦ absurd (not_err g.2)
            ]
      ] where
        not_err : {A : Type 0} {x : A} → ◌≡◌ {A = Result A Misread} (Ok x) (Err f) → ⊥
        not_err e = cc

  tagged_fails : (tag : ℕ) (b : List ℕ) (f : Misread) → IsBytes b → tagged d item tag b ≡ Err f → TaggedFault d fault tag b f
  unfolding after_tag
  tagged_fails zero b f fits e = absurd cc
  tagged_fails (suc zero) b f fits e = absurd cc
  tagged_fails (suc (suc zero)) b f fits e = absurd cc
  tagged_fails (suc (suc (suc zero))) b f fits e =
      elim (bind_err (int_at b) (λ z. Ok (v.Int z.0, z.1)) f e) [ inl h ↦ int_fails b f h | inr h ↦ absurd (ok_err h.2) ]
  tagged_fails (suc (suc (suc (suc zero)))) b f fits e =
      elim (bind_err (text_at b) (λ t. Ok (v.Str t.0, t.1)) f e) [ inl h ↦ text_fails b f fits h | inr h ↦ absurd (ok_err h.2) ]
  tagged_fails (suc (suc (suc (suc (suc zero))))) b f fits e =
      counted_fails (λ n rest. several item n rest >>= λ items. Ok (v.List items.0, items.1)) (ItemsFault d fault) b f fits
      (λ n rest h parts g. elim (bind_err (several item n rest) (λ items. Ok (v.List items.0, items.1)) f g) [ inl k ↦ several_fails n rest f h k | inr k ↦ absurd (ok_err k.2) ]) e
  tagged_fails (suc (suc (suc (suc (suc (suc zero)))))) b f fits e =
      counted_fails (λ n rest. pairs_at d item None n rest >>= λ pairs. Ok (v.Map pairs.0, pairs.1)) (PairsFault d fault) b f fits
      (λ n rest h parts g. elim (bind_err (pairs_at d item None n rest) (λ pairs. Ok (v.Map pairs.0, pairs.1)) f g) [ inl k ↦ whole n rest (pairs_fails n None rest f h k) | inr k ↦ absurd (ok_err k.2) ]) e where
        whole : (n : ℕ) (rest : List ℕ) → FaultFrom None n rest f → PairsFault d fault n rest f
        whole n rest i = (i.0, i.1, i.2, i.3, sym (chain_first (keys_of i.0)) ∙ i.4, i.5, i.6, subst (λ l. PairFault d fault l i.1 f) (last_of_none i.0) i.7)
  tagged_fails (suc (suc (suc (suc (suc (suc (suc t))))))) b f fits e =
      let none : after_tag d item None b ≡ Err f = sym (ap (λ (t : Option Tag). after_tag d item t b) (tag_of-past t)) ∙ e in
      subst (λ (t : Option Tag). TagFault d fault t b f) (sym (tag_of-past t)) cc

pub value_fails : (d : ℕ) (b : List ℕ) (f : Misread) → IsBytes b → value_at d b ≡ Err f → ValueFaults d b f
unfolding value_at ValueFaults
value_fails zero b f fits e = cc
value_fails (suc d) [] f fits e = cc
value_fails (suc d) (tag ∷ b) f fits e = tagged_fails d (value_at d) (ValueFaults d) (value_takes d) (value_fails d) tag b f (IsBytes-rest tag b fits) e

-- ---- the first fault is the one that is met

abbrev signed : Result (ℕ × List ℕ) Misread → Result (ℤ × List ℕ) Misread
signed r = r >>= λ n. Ok (cast_signed w64 n.0, n.1)

cut_is : (w : Width) (b : List ℕ) (f : Misread) → IsCut (byte_len w) b f → number_or w Short b ≡ Err f
cut_is w b f h = ap (λ t. cond t (Err Short) (Ok (from_be_bytes w (take (byte_len w) b), drop (byte_len w) b))) (lt-ltb _ _ h.0) ∙ ap (λ e. Err e) (sym h.1)

counted_is : {A : Type 0} (g : ℕ → Reader Misread A) (fault : ℕ → Faults) (b : List ℕ) (f : Misread) → ((n : ℕ) (rest : List ℕ) → b ≡ to_be_bytes w32 n ++ rest → fault n rest f → g n rest ≡ Err f)
    → CountedFault fault b f → (count_at b >>= λ n. g n.0 n.1) ≡ Err f
counted_is g fault b f inner (inl h) = ap (λ r. r >>= λ n. g n.0 n.1) (cut_is w32 b f h)
counted_is g fault b f inner (inr h) =
    ap (λ l. count_at l >>= λ n. g n.0 n.1) h.3 ∙ ap (λ r. r >>= λ n. g n.0 n.1) (number_again w32 (2 ^ 32) wide32 Short h.0 h.1 h.2) ∙ inner h.0 h.1 h.3 h.4

text_is : (b : List ℕ) (f : Misread) → TextFault b f → text_at b ≡ Err f
unfolding text_or
text_is b f h =
    counted_is (λ n rest. text_body (NotUtf8 (length b - 4)) (ltb (length rest) n) (is_utf8 (take n rest)) n rest) IsBadText b f (λ n rest parts. go n rest (rest_length b n rest parts)) h where
      go : (n : ℕ) (rest : List ℕ) → length b - 4 ≡ length rest → IsBadText n rest f → text_body (NotUtf8 (length b - 4)) (ltb (length rest) n) (is_utf8 (take n rest)) n rest ≡ Err f
      go n rest l (inl h) = ap (λ t. text_body (NotUtf8 (length b - 4)) t (is_utf8 (take n rest)) n rest) (lt-ltb _ _ h.0) ∙ ap (λ e. Err e) (sym h.1)
      go n rest l (inr h) =
          ap (λ t. text_body (NotUtf8 (length b - 4)) t (is_utf8 (take n rest)) n rest) (le-ltb _ _ h.0)
          ∙ ap (λ u. text_body (NotUtf8 (length b - 4)) false u n rest) h.1 ∙ ap (λ k. Err (NotUtf8 k)) l ∙ ap (λ e. Err e) (sym h.2)

key_is : (last : Option (List ℕ)) (b : List ℕ) (f : Misread) → KeyFault last b f → key_at last b ≡ Err f
unfolding key_at
key_is last b f (inl h) = ap (λ r. r >>= λ key. cond (comes_after last key.0) (Ok key) (Err (Unsorted (length b - 4)))) (text_is b f h)
key_is last b f (inr h) =
    let key = h.0 in
    let len : length b - 4 ≡ length key + length h.1 = omega (arith, ap length h.3, length-append (text key) h.1, length-append (to_be_bytes w32 (length key)) key, wide32.len (length key)) in
    ap (λ r. r >>= λ k. cond (comes_after last k.0) (Ok k) (Err (Unsorted (length b - 4)))) (ap text_at h.3 ∙ text_again key h.1 h.2)
    ∙ ap (λ t. cond t (Ok (key, h.1)) (Err (Unsorted (length b - 4)))) h.4 ∙ ap (λ n. Err (Unsorted n)) len ∙ ap (λ e. Err e) (sym h.5)

module _ (d : ℕ) (item : Reader Misread Value) (fault : Faults) (law : (w : Value) (rest : List ℕ) → IsWellFormed w → depth w ≤ d → item (bytes w ++ rest) ≡ Ok (w, rest))
    (stops : (b : List ℕ) (f : Misread) → fault b f → item b ≡ Err f) where
  several_is : (n : ℕ) (done : List Value) (rest : List ℕ) (f : Misread) → length done < n → AllWellFormed done → greatest (map depth done) ≤ d → fault rest f → several item n (concatenation (map bytes done) ++ rest) ≡ Err f
  unfolding several
  several_is zero done rest f lt h deep e = absurd (omega arith)
  several_is (suc n) [] rest f lt h deep e = rw (stops rest f e) refl
  several_is (suc n) (w ∷ ws) rest f lt h deep e =
      let parts = both_true (well_formed w) (every (map well_formed ws)) h in
      let regrouped : concatenation (map bytes (w ∷ ws)) ++ rest ≡ bytes w ++ (concatenation (map bytes ws) ++ rest) = append_assoc (bytes w) (concatenation (map bytes ws)) rest in
      ap (several item (suc n)) regrouped ∙ rw (law w (concatenation (map bytes ws) ++ rest) parts.0 (omega arith), several_is n ws rest f (omega arith) parts.1 (omega arith) e) refl

  abbrev with_key : List ℕ × List ℕ → Result ((List ℕ × Value) × List ℕ) Misread
  with_key key = item key.1 >>= λ value. Ok ((key.0, value.0), value.1)

  pair_is : (last : Option (List ℕ)) (b : List ℕ) (f : Misread) → PairFault d fault last b f → pair_at d item last b ≡ Err f
  unfolding pair_at
  pair_is last b f (inl h) = let z : eqb d 0 ≡ true = eq-eqb d 0 h.0 in rw (z, h.1) refl
  pair_is last b f (inr h) = let z : eqb d 0 ≡ false = ne_eqb d 0 (λ e. omega (arith, e, h.0)) in rw z (inner h.1) where
    inner : KeyFault last b f ⊎ ((key : List ℕ) × (rest : List ℕ) × (is_text key ≡ true) × (comes_after last key ≡ true) × (b ≡ text key ++ rest) × fault rest f)
        → (key_at last b >>= with_key) ≡ Err f
    inner (inl k) = ap (λ r. r >>= with_key) (key_is last b f k)
    inner (inr k) = ap (λ r. r >>= with_key) (ap (key_at last) k.4 ∙ key_again last k.0 k.1 k.2 k.3) ∙ ap (λ (r : Result (Value × List ℕ) Misread). r >>= λ value. Ok ((k.0, value.0), value.1)) (stops k.1 f k.5)

  pairs_are : (n : ℕ) (last : Option (List ℕ)) (done : List (List ℕ × Value)) (rest : List ℕ) (f : Misread) → length done < n → PairsWellFormed done → chain last (keys_of done) ≡ true
      → greatest (map (λ (p : List ℕ × Value). depth p.1) done) ≤ d → PairFault d fault (last_of last done) rest f → pairs_at d item last n (pairs_spelling (spelled_pairs done) ++ rest) ≡ Err f
  unfolding pairs_at
  pairs_are zero last done rest f lt h order deep e = absurd (omega arith)
  pairs_are (suc n) last [] rest f lt h order deep e = rw (pair_is last rest f e) refl
  pairs_are (suc n) last (p ∷ ps) rest f lt h order deep e =
      let parts = both_true (is_text p.0) (well_formed p.1 && every_pair (pairs_told ps)) h in
      let more = both_true (well_formed p.1) (every_pair (pairs_told ps)) parts.1 in
      let after = both_true (comes_after last p.0) (chain (Some p.0) (keys_of ps)) order in
      let regrouped : pairs_spelling (spelled_pairs (p ∷ ps)) ++ rest ≡ text p.0 ++ (bytes p.1 ++ (pairs_spelling (spelled_pairs ps) ++ rest))
      = append_assoc (text p.0) (bytes p.1 ++ pairs_spelling (spelled_pairs ps)) rest ∙ ap (λ l. text p.0 ++ l) (append_assoc (bytes p.1) (pairs_spelling (spelled_pairs ps)) rest) in
      ap (pairs_at d item last (suc n)) regrouped
      ∙ rw (pair_again d item law last p (pairs_spelling (spelled_pairs ps) ++ rest) parts.0 after.0 more.0 (omega arith), pairs_are n (Some p.0) ps rest f (omega arith) more.1 after.1 (omega arith) e) refl

  tagged_is : (tag : ℕ) (b : List ℕ) (f : Misread) → TaggedFault d fault tag b f → tagged d item tag b ≡ Err f
  unfolding after_tag
  tagged_is zero b f h = absurd h
  tagged_is (suc zero) b f h = absurd h
  tagged_is (suc (suc zero)) b f h = absurd h
  tagged_is (suc (suc (suc zero))) b f h = ap (λ r. signed r >>= λ z. Ok (v.Int z.0, z.1)) (cut_is w64 b f h)
  tagged_is (suc (suc (suc (suc zero)))) b f h = ap (λ r. r >>= λ t. Ok (v.Str t.0, t.1)) (text_is b f h)
  tagged_is (suc (suc (suc (suc (suc zero))))) b f h =
      counted_is (λ n rest. several item n rest >>= λ items. Ok (v.List items.0, items.1)) (ItemsFault d fault) b f
      (λ n rest parts i. ap (λ r. r >>= λ items. Ok (v.List items.0, items.1)) (ap (several item n) i.5 ∙ several_is n i.0 i.1 f i.2 i.3 i.4 i.6)) h
  tagged_is (suc (suc (suc (suc (suc (suc zero)))))) b f h =
      counted_is (λ n rest. pairs_at d item None n rest >>= λ pairs. Ok (v.Map pairs.0, pairs.1)) (PairsFault d fault) b f
      (λ n rest parts i. ap (λ r. r >>= λ pairs. Ok (v.Map pairs.0, pairs.1)) (ap (pairs_at d item None n) i.6
      ∙ pairs_are n None i.0 i.1 f i.2 i.3 (chain_first (keys_of i.0) ∙ i.4) i.5 (subst (λ l. PairFault d fault l i.1 f) (sym (last_of_none i.0)) i.7))) h
  tagged_is (suc (suc (suc (suc (suc (suc (suc t))))))) b f h =
      let none : f ≡ BadTag (suc (length b)) = subst (λ (t : Option Tag). TagFault d fault t b f) (tag_of-past t) h in
      ap (λ (t : Option Tag). after_tag d item t b) (tag_of-past t) ∙ ap (λ e. Err e) (sym none)

pub value_is : (d : ℕ) (b : List ℕ) (f : Misread) → ValueFaults d b f → value_at d b ≡ Err f
unfolding value_at ValueFaults
value_is zero b f h = ap (λ e. Err e) (sym h)
value_is (suc d) [] f h = ap (λ e. Err e) (sym h)
value_is (suc d) (tag ∷ b) f h = tagged_is d (value_at d) (ValueFaults d) (value_again d) (value_is d) tag b f h

-- ---- the whole input

from_front_err : (n : ℕ) (r : Result (Value × List ℕ) Misread) (e : ValueFault) → from_front n r ≡ Err e → (f : Misread) × (r ≡ Err f) × (e ≡ value_fault n (min n 65536) f)
from_front_err n (Ok x) e h = absurd cc
from_front_err n (Err f) e h = (f, refl, cc)

first_of : (input : List ℕ) (e : ValueFault) → IsBytes input → read_at input ≡ Err e → FirstFault input e
unfolding read_at
first_of input e fits h =
    let a = from_front_err (length input) (value_at 32 (take 65536 input)) e h in
    (a.0, value_fails 32 (take 65536 input) a.0 (IsBytes-take 65536 input fits) a.1, a.2)

pub is_first : (input : List ℕ) (r : Result (Value × ℕ) ValueFault) → IsBytes input → Answers faults.NoMemory r (read_at input) → IfErr r (λ e. e ≢ faults.NoMemory → FirstFault input e)
is_first input (Ok x) fits h = tt
is_first input (Err e) fits (inl h) = λ ne. absurd (ne h)
is_first input (Err e) fits (inr h) = λ ne. first_of input e fits h

pub is_met : (input : List ℕ) (e : ValueFault) → FirstFault input e → read_at input ≡ Err e
unfolding read_at
is_met input e h = ap (from_front (length input)) (value_is 32 (take 65536 input) h.0 h.1) ∙ ap (λ g. Err g) (sym h.2)
