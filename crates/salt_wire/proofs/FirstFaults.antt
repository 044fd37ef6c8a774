-- The fault that reading meets is the first one, and the first one is met.
use Rattle.std.proofs.Common.{◌≡◌, ◌⊎◌, inl, inr, ℕ, zero, suc, ◌-◌, ◌+◌, ◌<◌, Bool, true, false, ◌||◌, cond, eqb, List, [], ◌∷◌, ◌++◌, length, Option, Some, None, Result, Ok, Err, refl, sym, ap, subst, ◌∙◌, arith, length-append}
use Rattle.std.specs.Prelude.{IfErr, ◌≢◌}
use Rattle.std.specs.Int.{Width, w8, w16, w32, w64}
use Rattle.std.proofs.lemmas.Bool.{eqb-true, eqb-false, ne_eqb}
use Rattle.salt_value.specs.Readers.{◌>>=◌, Reader, option_reader, Answers}
use Rattle.salt_value.specs.Id.{IsId}
use Rattle.salt_value.specs.Word.{IsWord}
use Rattle.salt_value.specs.Spelling.{bytes, text}
use Rattle.salt_value.specs.WellFormed.{ValueFits}
use Rattle.salt_value.specs.Decoding.{IsBytes, number_or, text_or, read_at}
use Rattle.salt_value.specs.declared.fault.ValueFault.{ValueFault}
use Rattle.salt_value.specs.declared.value.Value.{Value}
use Rattle.target_tree.specs.declared.kind.Kind.{Kind}
use Rattle.salt_wire.specs.declared.fault.Misread.{Misread}
use Rattle.salt_wire.specs.declared.fault.Misread.TheVariants.{BadVersion, BadKind, BadField, Trailing}
use Rattle.salt_wire.specs.declared.fault.WireFault.{WireFault}
use Rattle.salt_wire.specs.declared.fault.WireFault.TheVariants as faults
use Rattle.salt_wire.specs.declared.message.Entry.{Entry as EntryOf}
use Rattle.salt_wire.specs.declared.message.Message.{Message}
use Rattle.salt_wire.specs.declared.message.Message.TheVariants as m
use Rattle.salt_wire.specs.Spelling.{number, id, word, tree_bytes, entry, kind_and_fields as spelled}
use Rattle.salt_wire.specs.Limits.{is_id, IsNumber, IsText, TreeFits, EntryFits, Within}
use Rattle.salt_wire.specs.Decoding.{misreading, byte_field, number_field, text_field, short_text, counted_or, is_word, id_field, word_field, jid_field, kind_field, value_or, value_field, items_field, fields_field, return_at, fired_at, start_at, mine_at, entry_after, entry_field, tree_field, job_field, pub_fields, have_fields, up_fields, up_have_fields, hello_fields, ask_publish_fields, ask_report_fields, ask_mine_fields, status_field, answer_fields, client_fields, message_fields, kind_and_fields, nothing_after, message_at, wire_fault, body_answer, decoding}
use Rattle.salt_wire.specs.RoundTrip.{IsReadBack}
use Rattle.salt_wire.specs.FirstFault.{IsTold, Field, Number, Byte, Status, Jid, Id, Word, Text, ShortText, TargetKind, Tree, AnyValue, Items, Pairs, Entry, is_kind, fields, job_fields, is_tag, entry_fields, HasSpelling, IsRight, Wrong, NoneStands, FirstWrong, EntryWrong, TreeWrong, FieldWrong, FirstFault}
use Rattle.salt_wire.proofs.Codec.{Lower, one_byte, IsByte, code, AnyKind, micros, IsJid, list_bytes, ListFits, map_bytes, MapFits, IsShortText, numbers, a_byte, texts, short_texts, ids, words, jids, kinds, values, lists, maps}
use Rattle.salt_wire.proofs.MessageBack.{IsStatus, statuses, entries}

pub never : {A P : Type 0} (x : A) (f : Misread) → ◌≡◌ {A = Result A Misread} (Ok x) (Err f) → P
never x f e = absurd cc

pub err_is : {A : Type 0} (f g : Misread) → ◌≡◌ {A = Result A Misread} (Err f) (Err g) → f ≡ g
err_is f g e = cc

-- a step or the rest failed
pub bind_err : {A B : Type 0} (r : Result A Misread) (g : A → Result B Misread) (f : Misread) → (r >>= g) ≡ Err f → (r ≡ Err f) ⊎ ((x : A) × (r ≡ Ok x) × (g x ≡ Err f))
bind_err (Ok x) g f e = inr (x, refl, e)
bind_err (Err d) g f e = inl cc

pub IsBytes-rest : (n : ℕ) (b : List ℕ) → IsBytes (n ∷ b) → IsBytes b
IsBytes-rest n b h i = h (suc i)

pub IsBytes-after : (xs b ys : List ℕ) → b ≡ xs ++ ys → IsBytes b → IsBytes ys
IsBytes-after [] b ys e h = subst IsBytes e h
IsBytes-after (x ∷ xs) b ys e h = IsBytes-after xs (xs ++ ys) ys refl (IsBytes-rest x (xs ++ ys) (subst IsBytes e h))

-- ---- the one fault of a field

-- something, or this fault
pub record Only {A : Type 0} (f : Misread) (r : Result A Misread) : Type 0 where
  pub is : (e : Misread) → r ≡ Err e → e ≡ f

pub good : {A : Type 0} {f : Misread} {x : A} → Only f (Ok x)
good {A} {f} {x} = record { is = λ e h. never x e h }

pub fault : {A : Type 0} {f : Misread} → Only {A = A} f (Err f)
fault {A} {f} = record { is = λ e h. sym (err_is f e h) }

pub both : {A B : Type 0} (f : Misread) (r : Result A Misread) (g : A → Result B Misread) → Only f r → ((x : A) → Only f (g x)) → Only f (r >>= g)
both f r g h k = record { is = λ e q. elim (bind_err r g e q) [ inl p ↦ h.is e p | inr p ↦ (k p.0).is e p.2 ] }

pub test : {A : Type 0} (f : Misread) (c : Bool) (r s : Result A Misread) → Only f r → Only f s → Only f (cond c r s)
test f true r s h g = h
test f false r s h g = g

pub number_only : (w : Width) (f : Misread) (b : List ℕ) → Only f (number_or w f b)
number_only w f b = test f _ _ _ fault good

pub text_only : (f : Misread) (b : List ℕ) → Only f (text_or f f b)
unfolding text_or
text_only f b = both f _ _ (number_only w32 f b) (λ x. test f _ _ _ fault (test f _ _ _ good fault))

found_only : {A : Type 0} (f : Misread) (o : Option A) (rest : List ℕ) → Only f (option_reader f o rest)
found_only f None rest = fault
found_only f (Some x) rest = good

pub counted_only : (f : Misread) (w : Width) (t : List ℕ → Bool) (b : List ℕ) → Only f (counted_or f w t b)
unfolding counted_or
counted_only f w t b = both f _ _ (number_only w f b) (λ x. test f _ _ _ fault (test f _ _ _ good fault))

short_only : (most : ℕ) (b : List ℕ) → Only (misreading b) (short_text most b)
short_only most b = both (misreading b) _ _ (text_only (misreading b) b) (λ t. test (misreading b) _ _ _ good fault)

jid_only : (b : List ℕ) → Only (misreading b) (jid_field b)
unfolding jid_field
jid_only b = both (misreading b) _ _ (number_only w64 (misreading b) b) (λ n. test (misreading b) _ _ _ good fault)

status_only : (b : List ℕ) → Only (misreading b) (status_field b)
unfolding status_field
status_only b = both (misreading b) _ _ (number_only w8 (misreading b) b) (λ n. test (misreading b) _ _ _ good fault)

kind_only : (b : List ℕ) → Only (misreading b) (kind_field b)
unfolding kind_field
kind_only b = both (misreading b) _ _ (number_only w8 (misreading b) b) (λ n. found_only (misreading b) _ _)

value_of : (b : List ℕ) (r : Result (Value × ℕ) ValueFault) → Only (misreading b) (value_or b r)
value_of b (Ok x) = good
value_of b (Err f) = fault

value_only : (b : List ℕ) → Only (misreading b) (value_field b)
unfolding value_field
value_only b = value_of b (read_at b)

items_only : (b : List ℕ) → Only (misreading b) (items_field b)
unfolding items_field
items_only b = both (misreading b) _ _ (value_only b) (λ n. found_only (misreading b) _ _)

pairs_only : (b : List ℕ) → Only (misreading b) (fields_field b)
unfolding fields_field
pairs_only b = both (misreading b) _ _ (value_only b) (λ n. found_only (misreading b) _ _)

-- ---- a reader and where bytes are wrong for it

-- a field that is told at its first byte
pub at_front : {A : Type 0} (spell : A → List ℕ) (Right : A → Type 0) (read : Reader Misread A) → IsReadBack spell Right read → ((b : List ℕ) → Only (misreading b) (read b)) → IsTold (NoneStands (HasSpelling spell Right)) read
at_front {A} spell Right read law only = record { met = met; first = first } where
  met : (b : List ℕ) (e : Misread) → IsBytes b → read b ≡ Err e → (at : List ℕ) × NoneStands (HasSpelling spell Right) b at × (e ≡ BadField (length at))
  met b e h q = (
    b,
    (
      refl,
      λ front rest r parts.
          let again : read b ≡ Ok (r.0, rest) = ap read (parts ∙ ap (λ (s : List ℕ). s ++ rest) r.2) ∙ law.written r.0 rest r.1 in
          never (r.0, rest) e (sym again ∙ q),
    ),
    (only b).is e q,
  )

  first : (b at : List ℕ) → IsBytes b → NoneStands (HasSpelling spell Right) b at → read b ≡ Err (BadField (length at))
  first b at h w = by (read b) refl where
    by : (r : Result (A × List ℕ) Misread) → read b ≡ r → r ≡ Err (BadField (length at))
    by (Ok x) q = let t = law.took b x h q in absurd (w.1 (spell x.0) x.1 (x.0, t.0, refl) t.1)
    by (Err e) q = ap (λ f. Err f) ((only b).is e q ∙ ap (λ (s : List ℕ). BadField (length s)) (sym w.0))

-- a field, and then more
abbrev Chained : Wrong → (List ℕ → Type 0) → Wrong → Wrong
Chained one Right more b at = one b at ⊎ ((front : List ℕ) × (rest : List ℕ) × Right front × (b ≡ front ++ rest) × more rest at)

pub chain : {A C : Type 0} (spell : A → List ℕ) (Right : A → Type 0) (read : Reader Misread A) (one more : Wrong) (next : A × List ℕ → Result (C × List ℕ) Misread) → IsReadBack spell Right read → IsTold one read
    → ((x : A) → IsTold more (λ b. next (x, b))) → IsTold (Chained one (HasSpelling spell Right) more) (λ b. read b >>= next)
chain spell Right read one more next law told others = record {
  met = λ b e h q.
      elim (bind_err (read b) next e q) [
        | inl p ↦ let t = told.met b e h p in (t.0, inl t.1, t.2)
        | inr p ↦
            let k = law.took b p.0 h p.1 in
            let t = (others p.0.0).met p.0.1 e k.2 p.2 in
            (t.0, inr (spell p.0.0, p.0.1, (p.0.0, k.0, refl), k.1, t.1), t.2)
      ];
  first = λ b at h w.
      elim w [
        | inl o ↦ ap (λ r. r >>= next) (told.first b at h o)
        | inr o ↦
            let again : read b ≡ Ok (o.2.0, o.1) = ap read (o.3 ∙ ap (λ (s : List ℕ). s ++ o.1) o.2.2) ∙ law.written o.2.0 o.1 o.2.1 in
            ap (λ r. r >>= next) again ∙ (others o.2.0).first o.1 at (IsBytes-after o.0 b o.1 o.3 h) o.4
      ];
}

-- nothing more
pub ended : {C : Type 0} (wrong : Field → Wrong) (c : C) → IsTold (FirstWrong wrong []) (λ b. Ok (c, b))
ended wrong c = record { met = λ b e h q. never (c, b) e q; first = λ b at h w. absurd w }

-- what was read is made into another thing
pub made_into : {A C : Type 0} (wrong : Wrong) (read : Reader Misread A) (make : A → C) → IsTold wrong read → IsTold wrong (λ b. read b >>= λ x. Ok (make x.0, x.1))
made_into wrong read make told = record {
  met = λ b e h q. elim (bind_err (read b) (λ x. Ok (make x.0, x.1)) e q) [ inl p ↦ told.met b e h p | inr p ↦ never (make p.0.0, p.0.1) e p.2 ];
  first = λ b at h w. ap (λ r. r >>= λ x. Ok (make x.0, x.1)) (told.first b at h w);
}

-- what follows a number that may be in no row of a table
record Row {A : Type 0} (wrong : Field → Wrong) (other : List ℕ → Misread) (known : Bool) (fs : List Field) (read : Reader Misread A) : Type 0 where
  told : known ≡ true → IsTold (FirstWrong wrong fs) read
  unknown : known ≡ false → (b : List ℕ) → read b ≡ Err (other b)
  no_fields : known ≡ false → fs ≡ []

row : {A : Type 0} (wrong : Field → Wrong) (other : List ℕ → Misread) (c known : Bool) (fs gs : List Field) (r s : Reader Misread A) → IsTold (FirstWrong wrong fs) r → Row wrong other known gs s
    → Row wrong other (c || known) (cond c fs gs) (λ b. cond c (r b) (s b))
row wrong other true known fs gs r s h k = record { told = λ e. h; unknown = λ e. absurd cc; no_fields = λ e. absurd cc }
row wrong other false known fs gs r s h k = record { told = k.told; unknown = k.unknown; no_fields = k.no_fields }

last_row : {A : Type 0} (wrong : Field → Wrong) (other : List ℕ → Misread) → Row {A = A} wrong other false [] (λ b. Err (other b))
last_row wrong other = record { told = λ e. absurd cc; unknown = λ e b. refl; no_fields = λ e. refl }

-- ---- entries and messages

abbrev Plain : Field → Wrong
Plain f = NoneStands (IsRight f)

-- a field that is told at its first byte, and then more
abbrev Then : Field → Wrong → Wrong
Then f more = Chained (Plain f) (IsRight f) more

plain : {A C : Type 0} (spell : A → List ℕ) (Right : A → Type 0) (read : Reader Misread A) → IsReadBack spell Right read → ((b : List ℕ) → Only (misreading b) (read b)) → (more : Wrong) (next : A × List ℕ → Result (C × List ℕ) Misread)
    → ((x : A) → IsTold more (λ b. next (x, b))) → IsTold (Chained (NoneStands (HasSpelling spell Right)) (HasSpelling spell Right) more) (λ b. read b >>= next)
plain spell Right read law only more next others = chain spell Right read (NoneStands (HasSpelling spell Right)) more next law (at_front spell Right read law only) others

above : (n : ℕ) → (n ≡ 0 → ⊥) → 0 < n
above zero h = absurd (h refl)
above (suc n) h = omega arith

-- the two parts of a first byte and the rest
pub heads : (x y : ℕ) (xs ys : List ℕ) → x ∷ xs ≡ y ∷ ys → x ≡ y
heads x y xs ys e = cc

pub tails : (x y : ℕ) (xs ys : List ℕ) → x ∷ xs ≡ y ∷ ys → xs ≡ ys
tails x y xs ys e = cc

module _ (l : Lower) (trees : IsReadBack tree_bytes TreeFits tree_field) (tree_told : IsTold TreeWrong tree_field) where
  after_number : {C : Type 0} (more : Wrong) (next : ℕ × List ℕ → Result (C × List ℕ) Misread) → ((x : ℕ) → IsTold more (λ b. next (x, b))) → IsTold (Then Number more) (λ b. number_field b >>= next)
  after_number = plain number IsNumber number_field (numbers l) (λ b. number_only w32 (misreading b) b)

  after_byte : {C : Type 0} (more : Wrong) (next : ℕ × List ℕ → Result (C × List ℕ) Misread) → ((x : ℕ) → IsTold more (λ b. next (x, b))) → IsTold (Then Byte more) (λ b. byte_field b >>= next)
  after_byte = plain one_byte IsByte byte_field (a_byte l) (λ b. number_only w8 (misreading b) b)

  after_status : {C : Type 0} (more : Wrong) (next : ℕ × List ℕ → Result (C × List ℕ) Misread) → ((x : ℕ) → IsTold more (λ b. next (x, b))) → IsTold (Then Status more) (λ b. status_field b >>= next)
  after_status = plain one_byte (IsStatus l trees) status_field (statuses l trees) status_only

  after_jid : {C : Type 0} (more : Wrong) (next : ℕ × List ℕ → Result (C × List ℕ) Misread) → ((x : ℕ) → IsTold more (λ b. next (x, b))) → IsTold (Then Jid more) (λ b. jid_field b >>= next)
  after_jid = plain micros IsJid jid_field (jids l) jid_only

  after_id : {C : Type 0} (more : Wrong) (next : List ℕ × List ℕ → Result (C × List ℕ) Misread) → ((x : List ℕ) → IsTold more (λ b. next (x, b))) → IsTold (Then Id more) (λ b. id_field b >>= next)
  after_id = plain id IsId id_field (ids l) (λ b. counted_only (misreading b) w8 is_id b)

  after_word : {C : Type 0} (more : Wrong) (next : List ℕ × List ℕ → Result (C × List ℕ) Misread) → ((x : List ℕ) → IsTold more (λ b. next (x, b))) → IsTold (Then Word more) (λ b. word_field b >>= next)
  after_word = plain word IsWord word_field (words l) (λ b. counted_only (misreading b) w16 is_word b)

  after_text : {C : Type 0} (more : Wrong) (next : List ℕ × List ℕ → Result (C × List ℕ) Misread) → ((x : List ℕ) → IsTold more (λ b. next (x, b))) → IsTold (Then Text more) (λ b. text_field b >>= next)
  after_text = plain text IsText text_field (texts l) (λ b. text_only (misreading b) b)

  after_short : {C : Type 0} (most : ℕ) (more : Wrong) (next : List ℕ × List ℕ → Result (C × List ℕ) Misread) → ((x : List ℕ) → IsTold more (λ b. next (x, b))) → IsTold (Then (ShortText most) more) (λ b. short_text most b >>= next)
  after_short most = plain text (IsShortText most) (short_text most) (short_texts l most) (short_only most)

  after_kind : {C : Type 0} (more : Wrong) (next : Kind × List ℕ → Result (C × List ℕ) Misread) → ((x : Kind) → IsTold more (λ b. next (x, b))) → IsTold (Then TargetKind more) (λ b. kind_field b >>= next)
  after_kind = plain code AnyKind kind_field (kinds l) kind_only

  after_value : {C : Type 0} (more : Wrong) (next : Value × List ℕ → Result (C × List ℕ) Misread) → ((x : Value) → IsTold more (λ b. next (x, b))) → IsTold (Then AnyValue more) (λ b. value_field b >>= next)
  after_value = plain bytes ValueFits value_field (values l) value_only

  after_items : {C : Type 0} (more : Wrong) (next : List Value × List ℕ → Result (C × List ℕ) Misread) → ((x : List Value) → IsTold more (λ b. next (x, b))) → IsTold (Then Items more) (λ b. items_field b >>= next)
  after_items = plain list_bytes ListFits items_field (lists l) items_only

  after_pairs : {C : Type 0} (more : Wrong) (next : List (List ℕ × Value) × List ℕ → Result (C × List ℕ) Misread) → ((x : List (List ℕ × Value)) → IsTold more (λ b. next (x, b))) → IsTold (Then Pairs more) (λ b. fields_field b >>= next)
  after_pairs = plain map_bytes MapFits fields_field (maps l) pairs_only

  -- ---- entries

  return_told : IsTold (FirstWrong Plain (Number ∷ Byte ∷ AnyValue ∷ [])) return_at
  unfolding return_at
  return_told =
      after_number (FirstWrong Plain (Byte ∷ AnyValue ∷ [])) _ (λ seq. after_byte (FirstWrong Plain (AnyValue ∷ [])) _ (λ code. after_value (FirstWrong Plain []) _ (λ w. ended Plain _)))

  fired_told : IsTold (FirstWrong Plain (Word ∷ AnyValue ∷ [])) fired_at
  unfolding fired_at
  fired_told = after_word (FirstWrong Plain (AnyValue ∷ [])) _ (λ tag. after_value (FirstWrong Plain []) _ (λ w. ended Plain _))

  start_told : IsTold (FirstWrong Plain (Number ∷ [])) start_at
  start_told = after_number (FirstWrong Plain []) _ (λ boot. ended Plain _)

  mine_told : IsTold (FirstWrong Plain (Number ∷ Pairs ∷ Pairs ∷ Pairs ∷ [])) mine_at
  unfolding mine_at
  mine_told =
      after_number (FirstWrong Plain (Pairs ∷ Pairs ∷ Pairs ∷ [])) _ (λ seq. after_pairs (FirstWrong Plain (Pairs ∷ Pairs ∷ [])) _ (λ mine. after_pairs (FirstWrong Plain (Pairs ∷ [])) _ (λ grains. after_pairs (FirstWrong Plain []) _ (λ pillar. ended Plain _))))

  abbrev at_tag : List ℕ → Misread
  at_tag b = BadField (suc (length b))

  tag_row : (tag : ℕ) → Row Plain at_tag (is_tag tag) (entry_fields tag) (entry_after tag)
  unfolding entry_after
  tag_row tag =
      row Plain at_tag (eqb tag 1) _ _ _ return_at _ return_told
      (row Plain at_tag (eqb tag 2) _ _ _ fired_at _ fired_told
      (row Plain at_tag (eqb tag 3) _ _ _ start_at _ start_told
      (row Plain at_tag (eqb tag 4) _ _ _ mine_at _ mine_told (last_row Plain at_tag))))

  byte_again : (b : List ℕ) (n : ℕ) (rest : List ℕ) → IsBytes b → b ≡ n ∷ rest → byte_field b ≡ Ok (n, rest)
  byte_again b n rest h e = ap byte_field e ∙ (a_byte l).written n rest ((subst IsBytes e h) 0)

  abbrev then_fields : ℕ × List ℕ → Result (EntryOf × List ℕ) Misread
  then_fields tag = entry_after tag.0 tag.1

  abbrev IsTag : List ℕ → Type 0
  IsTag front = (tag : ℕ) × (is_tag tag ≡ true) × (front ≡ tag ∷ [])

  entry_met : (b : List ℕ) (e : Misread) → IsBytes b → entry_field b ≡ Err e → (at : List ℕ) × EntryWrong b at × (e ≡ BadField (length at))
  unfolding entry_field
  entry_met b e h q =
      elim (bind_err (byte_field b) then_fields e q) [
        | inl p ↦ (b, inl (refl, λ front rest t parts. never (t.0, rest) e (sym (byte_again b t.0 rest h (parts ∙ ap (λ (s : List ℕ). s ++ rest) t.2)) ∙ p)), (number_only w8 (misreading b) b).is e p)
        | inr p ↦ by p.0 p.1 p.2 (is_tag p.0.0) refl
      ] where
        by : (x : ℕ × List ℕ) → byte_field b ≡ Ok x → entry_after x.0 x.1 ≡ Err e → (c : Bool) → is_tag x.0 ≡ c → (at : List ℕ) × EntryWrong b at × (e ≡ BadField (length at))
        by x ok q true c = let k = (a_byte l).took b x h ok in let t = ((tag_row x.0).told c).met x.1 e k.2 q in (t.0, inr (x.0, x.1, k.1, t.1), t.2)
        by x ok q false c =
            let k = (a_byte l).took b x h ok in
            let same : at_tag x.1 ≡ e = err_is (at_tag x.1) e (sym ((tag_row x.0).unknown c x.1) ∙ q) in
            let none : NoneStands IsTag b b = (
              refl,
              λ front rest t parts.
                  let one : x.0 ≡ t.0 = heads x.0 t.0 x.1 rest (sym k.1 ∙ parts ∙ ap (λ (s : List ℕ). s ++ rest) t.2) in
                  let clash : true ≡ false = sym t.1 ∙ ap is_tag (sym one) ∙ c in absurd cc,
            ) in
            (b, inl none, sym same ∙ ap (λ (s : List ℕ). BadField (length s)) (sym k.1))

  entry_first : (b at : List ℕ) → IsBytes b → EntryWrong b at → entry_field b ≡ Err (BadField (length at))
  unfolding entry_field
  entry_first b at h (inl w) = by (byte_field b) refl where
    known : (x : ℕ × List ℕ) → byte_field b ≡ Ok x → (c : Bool) → is_tag x.0 ≡ c → entry_after x.0 x.1 ≡ Err (BadField (length at))
    known x ok true c = let k = (a_byte l).took b x h ok in absurd (w.1 (x.0 ∷ []) x.1 (x.0, c, refl) k.1)
    known x ok false c = let k = (a_byte l).took b x h ok in (tag_row x.0).unknown c x.1 ∙ ap (λ (s : List ℕ). Err (BadField (length s))) (sym (w.0 ∙ k.1))

    by : (r : Result (ℕ × List ℕ) Misread) → byte_field b ≡ r → (byte_field b >>= then_fields) ≡ Err (BadField (length at))
    by (Ok x) q = ap (λ s. s >>= then_fields) q ∙ known x q (is_tag x.0) refl
    by (Err e) q = ap (λ s. s >>= then_fields) q ∙ ap (λ f. Err f) ((number_only w8 (misreading b) b).is e q ∙ ap (λ (s : List ℕ). BadField (length s)) (sym w.0))
  entry_first b at h (inr w) = ap (λ s. s >>= then_fields) (byte_again b w.0 w.1 h w.2) ∙ by (is_tag w.0) refl where
    by : (c : Bool) → is_tag w.0 ≡ c → entry_after w.0 w.1 ≡ Err (BadField (length at))
    by true c = ((tag_row w.0).told c).first w.1 at (IsBytes-rest w.0 w.1 (subst IsBytes w.2 h)) w.3
    by false c = absurd (subst (λ (fs : List Field). FirstWrong Plain fs w.1 at) ((tag_row w.0).no_fields c) w.3)

  pub entry_told : IsTold EntryWrong entry_field
  entry_told = record { met = entry_met; first = entry_first }

  -- ---- the fields of messages

  pub id_told : IsTold (FieldWrong Id) id_field
  id_told = at_front id IsId id_field (ids l) (λ b. counted_only (misreading b) w8 is_id b)

  pub word_told : IsTold (FieldWrong Word) word_field
  word_told = at_front word IsWord word_field (words l) (λ b. counted_only (misreading b) w16 is_word b)

  pub job_told : IsTold (FirstWrong FieldWrong job_fields) job_field
  unfolding job_field
  job_told =
      after_jid (FirstWrong FieldWrong (TargetKind ∷ ShortText 4096 ∷ Tree ∷ Word ∷ Items ∷ [])) _ (λ jid.
      after_kind (FirstWrong FieldWrong (ShortText 4096 ∷ Tree ∷ Word ∷ Items ∷ [])) _ (λ kind.
      after_short 4096 (FirstWrong FieldWrong (Tree ∷ Word ∷ Items ∷ [])) _ (λ tgt.
      chain tree_bytes TreeFits tree_field TreeWrong (FirstWrong FieldWrong (Word ∷ Items ∷ [])) _ trees tree_told (λ target.
      after_word (FirstWrong FieldWrong (Items ∷ [])) _ (λ fun. after_items (FirstWrong FieldWrong []) _ (λ args. ended FieldWrong _))))))

  pub_told : IsTold (FirstWrong FieldWrong (Number ∷ Jid ∷ TargetKind ∷ ShortText 4096 ∷ Tree ∷ Word ∷ Items ∷ [])) pub_fields
  unfolding pub_fields
  pub_told = after_number (FirstWrong FieldWrong (Jid ∷ TargetKind ∷ ShortText 4096 ∷ Tree ∷ Word ∷ Items ∷ [])) _ (λ seq. made_into _ job_field (m.Pub seq) job_told)

  have_told : IsTold (FirstWrong FieldWrong (Number ∷ [])) have_fields
  unfolding have_fields
  have_told = after_number (FirstWrong FieldWrong []) _ (λ jobs. ended FieldWrong _)

  up_told : IsTold (FirstWrong FieldWrong (Id ∷ Number ∷ Entry ∷ [])) up_fields
  unfolding up_fields
  up_told =
      after_id (FirstWrong FieldWrong (Number ∷ Entry ∷ [])) _ (λ minion. after_number (FirstWrong FieldWrong (Entry ∷ [])) _ (λ n.
      chain entry EntryFits entry_field EntryWrong (FirstWrong FieldWrong []) _ (entries l trees) entry_told (λ x. ended FieldWrong _)))

  up_have_told : IsTold (FirstWrong FieldWrong (Id ∷ Number ∷ [])) up_have_fields
  unfolding up_have_fields
  up_have_told = after_id (FirstWrong FieldWrong (Number ∷ [])) _ (λ minion. after_number (FirstWrong FieldWrong []) _ (λ n. ended FieldWrong _))

  hello_told : IsTold (FirstWrong FieldWrong (Id ∷ [])) hello_fields
  unfolding hello_fields
  hello_told = after_id (FirstWrong FieldWrong []) _ (λ name. ended FieldWrong _)

  ask_publish_told : IsTold (FirstWrong FieldWrong (TargetKind ∷ Text ∷ Word ∷ Items ∷ [])) ask_publish_fields
  unfolding ask_publish_fields
  ask_publish_told =
      after_kind (FirstWrong FieldWrong (Text ∷ Word ∷ Items ∷ [])) _ (λ kind. after_text (FirstWrong FieldWrong (Word ∷ Items ∷ [])) _ (λ tgt.
      after_word (FirstWrong FieldWrong (Items ∷ [])) _ (λ fun. after_items (FirstWrong FieldWrong []) _ (λ args. ended FieldWrong _))))

  ask_report_told : IsTold (FirstWrong FieldWrong (Jid ∷ [])) ask_report_fields
  unfolding ask_report_fields
  ask_report_told = after_jid (FirstWrong FieldWrong []) _ (λ jid. ended FieldWrong _)

  ask_mine_told : IsTold (FirstWrong FieldWrong (TargetKind ∷ Text ∷ Word ∷ [])) ask_mine_fields
  unfolding ask_mine_fields
  ask_mine_told = after_kind (FirstWrong FieldWrong (Text ∷ Word ∷ [])) _ (λ kind. after_text (FirstWrong FieldWrong (Word ∷ [])) _ (λ tgt. after_word (FirstWrong FieldWrong []) _ (λ fun. ended FieldWrong _)))

  answer_told : IsTold (FirstWrong FieldWrong (Status ∷ ShortText 1000000 ∷ [])) answer_fields
  unfolding answer_fields
  answer_told = after_status (FirstWrong FieldWrong (ShortText 1000000 ∷ [])) _ (λ status. after_short 1000000 (FirstWrong FieldWrong []) _ (λ t. ended FieldWrong _))

  abbrev of_kind : List ℕ → Misread
  of_kind b = BadKind

  kind_row : (kind : ℕ) → Row FieldWrong of_kind (is_kind kind) (fields kind) (message_fields kind)
  unfolding message_fields client_fields
  kind_row kind =
      row FieldWrong of_kind (eqb kind 1) _ _ _ pub_fields _ pub_told
      (row FieldWrong of_kind (eqb kind 2) _ _ _ have_fields _ have_told
      (row FieldWrong of_kind (eqb kind 3) _ _ _ up_fields _ up_told
      (row FieldWrong of_kind (eqb kind 4) _ _ _ up_have_fields _ up_have_told
      (row FieldWrong of_kind (eqb kind 5) _ _ _ hello_fields _ hello_told
      (row FieldWrong of_kind (eqb kind 6) _ _ _ _ _ (ended FieldWrong m.End)
      (row FieldWrong of_kind (eqb kind 16) _ _ _ ask_publish_fields _ ask_publish_told
      (row FieldWrong of_kind (eqb kind 17) _ _ _ ask_report_fields _ ask_report_told
      (row FieldWrong of_kind (eqb kind 18) _ _ _ _ _ (ended FieldWrong m.AskJobs)
      (row FieldWrong of_kind (eqb kind 19) _ _ _ ask_mine_fields _ ask_mine_told
      (row FieldWrong of_kind (eqb kind 20) _ _ _ answer_fields _ answer_told (last_row FieldWrong of_kind)))))))))))

  -- ---- whole bodies

  body_answer_err : (n : ℕ) (r : Result Message Misread) (e : WireFault) → body_answer n r ≡ Err e → (f : Misread) × (r ≡ Err f) × (e ≡ wire_fault n f)
  body_answer_err n (Ok x) e q = absurd cc
  body_answer_err n (Err f) e q = (f, refl, cc)

  -- the fault of a body, by its place from the front
  abbrev IsFirst : List ℕ → Misread → Type 0
  IsFirst b f = FirstFault b (wire_fault (length b) f)

  fields_fail : (b : List ℕ) (f : Misread) → IsBytes b → kind_and_fields b ≡ Err f → IsFirst (1 ∷ b) f
  unfolding kind_and_fields
  fields_fail [] f h q = let same : BadKind ≡ f = err_is BadKind f q in subst (IsFirst (1 ∷ [])) same ([], refl, λ kind more e. absurd cc)
  fields_fail (kind ∷ b) f h q = by (is_kind kind) refl where
    by : (c : Bool) → is_kind kind ≡ c → IsFirst (1 ∷ kind ∷ b) f
    by true c =
        let t = ((kind_row kind).told c).met b f (IsBytes-rest kind b h) q in
        subst (IsFirst (1 ∷ kind ∷ b)) (sym t.2) (kind, b, t.0, refl, t.1, refl)
    by false c =
        let same : BadKind ≡ f = err_is BadKind f (sym ((kind_row kind).unknown c b) ∙ q) in
        subst (IsFirst (1 ∷ kind ∷ b)) same (kind ∷ b, refl, λ k more e. ap is_kind (sym (heads kind k b more e)) ∙ c)

  module _ (law : IsReadBack spelled Within kind_and_fields) where
    after_fail : (b : List ℕ) (x : Message × List ℕ) (f : Misread) → IsBytes b → kind_and_fields b ≡ Ok x → nothing_after x ≡ Err f → IsFirst (1 ∷ b) f
    after_fail b x f h ok q = by (eqb (length x.1) 0) refl q where
      by : (c : Bool) → eqb (length x.1) 0 ≡ c → cond c (Ok x.0) (Err (Trailing (length x.1))) ≡ Err f → IsFirst (1 ∷ b) f
      by true c q = never x.0 f q
      by false c q =
          let t = law.took b x h ok in
          let same : Trailing (length x.1) ≡ f = err_is (Trailing (length x.1)) f q in
          let len : length b ≡ length (spelled x.0) + length x.1 = ap length t.1 ∙ length-append (spelled x.0) x.1 in
          subst (IsFirst (1 ∷ b)) same (x.0, x.1, t.0, above (length x.1) (eqb-false (length x.1) 0 c), ap (λ (s : List ℕ). 1 ∷ s) t.1, omega (arith, len))

    message_fails : (b : List ℕ) (f : Misread) → IsBytes b → message_at b ≡ Err f → IsFirst b f
    unfolding message_at
    message_fails [] f h q = let same : BadVersion ≡ f = err_is BadVersion f q in subst (IsFirst []) same (λ rest e. absurd cc)
    message_fails (version ∷ b) f h q = by (eqb version 1) refl q where
      by : (c : Bool) → eqb version 1 ≡ c → cond c (kind_and_fields b >>= nothing_after) (Err BadVersion) ≡ Err f → IsFirst (version ∷ b) f
      by true c q =
          let one : 1 ≡ version = sym (eqb-true version 1 c) in
          subst (λ (v : ℕ). IsFirst (v ∷ b) f) one (elim (bind_err (kind_and_fields b) nothing_after f q) [
            | inl p ↦ fields_fail b f (IsBytes-rest version b h) p
            | inr p ↦ after_fail b p.0 f (IsBytes-rest version b h) p.1 p.2
          ])
      by false c q =
          let same : BadVersion ≡ f = err_is BadVersion f q in
          subst (IsFirst (version ∷ b)) same (λ rest e. eqb-false version 1 c (heads version 1 b rest e))

    pub is_first : (b : List ℕ) (e : WireFault) → IsBytes b → decoding b ≡ Err e → FirstFault b e
    unfolding decoding
    is_first b e h q = let t = body_answer_err (length b) (message_at b) e q in subst (FirstFault b) (sym t.2) (message_fails b t.0 h t.1)

    -- ---- and back

    abbrev after_version : List ℕ → Result Message Misread
    after_version rest = kind_and_fields rest >>= nothing_after

    version_met : (b : List ℕ) → ((rest : List ℕ) → b ≡ 1 ∷ rest → ⊥) → message_at b ≡ Err BadVersion
    unfolding message_at
    version_met [] h = refl
    version_met (version ∷ b) h = by (eqb version 1) refl where
      by : (c : Bool) → eqb version 1 ≡ c → cond c (after_version b) (Err BadVersion) ≡ Err BadVersion
      by true c = absurd (h b (ap (λ (n : ℕ). n ∷ b) (eqb-true version 1 c)))
      by false c = refl

    versioned : (b rest : List ℕ) (f : Misread) → b ≡ 1 ∷ rest → after_version rest ≡ Err f → decoding b ≡ Err (wire_fault (length b) f)
    unfolding decoding message_at
    versioned b rest f e q = ap (λ (s : List ℕ). body_answer (length b) (message_at s)) e ∙ ap (body_answer (length b)) q

    kind_met : (rest : List ℕ) → ((kind : ℕ) (more : List ℕ) → rest ≡ kind ∷ more → is_kind kind ≡ false) → after_version rest ≡ Err BadKind
    unfolding kind_and_fields
    kind_met [] h = refl
    kind_met (kind ∷ b) h = ap (λ r. r >>= nothing_after) ((kind_row kind).unknown (h kind b refl) b)

    field_met : (kind : ℕ) (rest from : List ℕ) → IsBytes rest → FirstWrong FieldWrong (fields kind) rest from → after_version (kind ∷ rest) ≡ Err (BadField (length from))
    unfolding kind_and_fields
    field_met kind rest from h w = by (is_kind kind) refl where
      by : (c : Bool) → is_kind kind ≡ c → (message_fields kind rest >>= nothing_after) ≡ Err (BadField (length from))
      by true c = ap (λ r. r >>= nothing_after) (((kind_row kind).told c).first rest from h w)
      by false c = absurd (subst (λ (fs : List Field). FirstWrong FieldWrong fs rest from) ((kind_row kind).no_fields c) w)

    trailing_met : (message : Message) (rest : List ℕ) → Within message → 0 < length rest → after_version (spelled message ++ rest) ≡ Err (Trailing (length rest))
    trailing_met message rest h lt =
        ap (λ r. r >>= nothing_after) (law.written message rest h)
        ∙ ap (λ c. cond c (Ok message) (Err (Trailing (length rest)))) (ne_eqb (length rest) 0 (λ e. omega (arith, e, lt)))

    pub is_met : (b : List ℕ) (e : WireFault) → IsBytes b → FirstFault b e → decoding b ≡ Err e
    unfolding decoding
    is_met b faults.NoMemory h w = absurd w
    is_met b faults.BadVersion h w = ap (body_answer (length b)) (version_met b w)
    is_met b faults.BadKind h w = versioned b w.0 BadKind w.1 (kind_met w.0 w.2)
    is_met b (faults.BadField at) h w =
        versioned b (w.0 ∷ w.1) (BadField (length w.2)) w.3 (field_met w.0 w.1 w.2 (IsBytes-rest w.0 w.1 (IsBytes-rest 1 (w.0 ∷ w.1) (subst IsBytes w.3 h))) w.4)
        ∙ ap (λ (n : ℕ). Err (faults.BadField n)) (sym w.5)
    is_met b (faults.Trailing at) h w =
        let len : length b ≡ suc (length (spelled w.0) + length w.1) = ap length w.4 ∙ ap suc (length-append (spelled w.0) w.1) in
        let place : length b - length w.1 ≡ at = omega (arith, len, w.5) in
        versioned b (spelled w.0 ++ w.1) (Trailing (length w.1)) w.4 (trailing_met w.0 w.1 w.2 w.3) ∙ ap (λ (n : ℕ). Err (faults.Trailing n)) place

-- what was answered is the first fault, unless memory ran out
pub answer_is_first : (b : List ℕ) (r : Result Message WireFault) → IsBytes b → ((b : List ℕ) (e : WireFault) → IsBytes b → decoding b ≡ Err e → FirstFault b e) → Answers faults.NoMemory r (decoding b) → IfErr r (λ e. e ≢ faults.NoMemory → FirstFault b e)
answer_is_first b (Ok x) h first given = tt
answer_is_first b (Err e) h first (inl p) = λ ne. absurd (ne p)
answer_is_first b (Err e) h first (inr q) = λ ne. first b e h q
