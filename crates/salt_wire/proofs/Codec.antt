-- The fields of messages: what is written is read again, and what is read was written so.
use Rattle.std.proofs.Common.{◌≡◌, ℕ, suc, ◌^◌, ◌<◌, ◌≤◌, Bool, true, false, ◌&&◌, cond, ltb, leb, List, [], ◌∷◌, ◌++◌, length, take, drop, Option, Some, None, Result, Ok, Err, refl, sym, ap, subst, ◌∙◌, append_assoc, arith, length-append}
use Rattle.std.specs.Int.{Width, w8, w16, w32, w64, byte_len, to_be_bytes}
use Rattle.std.specs.List.{list_all}
use Rattle.std.proofs.lemmas.Bool.{ltb-false, le-ltb, leb-true, le-leb}
use Rattle.std.proofs.lemmas.List.{take_at, drop_at, take-append-drop, length-take}
use Rattle.salt_value.specs.Readers.{◌>>=◌, Reader, when, option_reader}
use Rattle.salt_value.specs.Id.{IsId, is_id_byte}
use Rattle.salt_value.specs.Word.{IsWord, is_word_byte}
use Rattle.salt_value.specs.Jid.{greatest_jid}
use Rattle.salt_value.specs.Spelling.{bytes, text}
use Rattle.salt_value.specs.WellFormed.{ValueFits, is_text}
use Rattle.salt_value.specs.Decoding.{IsBytes, number_or, text_or, read_at}
use Rattle.salt_value.specs.declared.fault.ValueFault.{ValueFault}
use Rattle.salt_value.specs.declared.value.Value.{Value, roll-Value, out-Value, roll-out-Value, out-roll-Value}
use Rattle.salt_value.specs.declared.value.Value.TheVariants as v
use Rattle.salt_value.specs.declared.value.Value.TheVariants.{rolls-List, rolls-Map}
use Rattle.salt_value.specs.declared.value.Value.TheOpen.{Value-F}
use Rattle.target_tree.specs.Kinds.{kind_code}
use Rattle.target_tree.specs.declared.kind.Kind.{Kind}
use Rattle.target_tree.specs.declared.kind.Kind.TheVariants as k
use Rattle.salt_wire.specs.declared.fault.Misread.{Misread}
use Rattle.salt_wire.specs.Spelling.{number, id, word}
use Rattle.salt_wire.specs.Limits.{is_id, IsNumber, IsText}
use Rattle.salt_wire.specs.Decoding.{misreading, byte_field, number_field, text_field, short_text, counted_or, is_word, id_or, id_field, word_field, jid_field, kind_of, kind_field, value_or, value_field, items_layer, value_items, items_field, pairs_layer, value_pairs, fields_field}
use Rattle.salt_wire.specs.RoundTrip.{Took, IsReadBack}
use Rattle.salt_wire.proofs.FieldLemmas.{kind_of-code, kind_of-is}
use Rattle.salt_wire.proofs.WriteLemmas.{both_true}

-- the laws of numbers, texts and values
pub record Lower : Type 0 where
  pub numbers_written : (w : Width) (short : Misread) (n : ℕ) (rest : List ℕ) → byte_len w ≤ 8 → n < 256 ^ byte_len w → number_or w short (to_be_bytes w n ++ rest) ≡ Ok (n, rest)
  pub numbers_read : (w : Width) (short : Misread) (input : List ℕ) (n : ℕ) (rest : List ℕ) → byte_len w ≤ 8 → IsBytes input
      → number_or w short input ≡ Ok (n, rest) → (n < 256 ^ byte_len w) × (input ≡ to_be_bytes w n ++ rest) × IsBytes rest
  pub texts_written : (short wrong : Misread) (t rest : List ℕ) → is_text t ≡ true → text_or short wrong (text t ++ rest) ≡ Ok (t, rest)
  pub texts_read : (short wrong : Misread) (input : List ℕ) (t rest : List ℕ) → IsBytes input → text_or short wrong input ≡ Ok (t, rest) → (is_text t ≡ true) × (input ≡ text t ++ rest) × IsBytes rest
  pub values_written : (v : Value) (rest : List ℕ) → ValueFits v → read_at (bytes v ++ rest) ≡ Ok (v, length (bytes v))
  pub values_read : (input : List ℕ) (v : Value) (n : ℕ) → IsBytes input → read_at input ≡ Ok (v, n) → ValueFits v × (n ≡ length (bytes v)) × ((rest : List ℕ) × (input ≡ bytes v ++ rest) × IsBytes rest)

-- ---- steps

pub bind_ok : {A B F : Type 0} (r : Result A F) (f : A → Result B F) (y : B) → (r >>= f) ≡ Ok y → (x : A) × (r ≡ Ok x) × (f x ≡ Ok y)
bind_ok (Ok x) f y e = (x, refl, e)
bind_ok (Err d) f y e = absurd cc

pub ok_is : {A F : Type 0} (x y : A) → ◌≡◌ {A = Result A F} (Ok x) (Ok y) → x ≡ y
ok_is x y e = cc

pub when_ok : {A F : Type 0} (b : Bool) (f : F) (x y : A) → when b f x ≡ Ok y → (b ≡ true) × (x ≡ y)
when_ok true f x y e = (refl, cc)
when_ok false f x y e = absurd cc

pub found_ok : {A F : Type 0} (f : F) (o : Option A) (rest : List ℕ) (y : A × List ℕ) → option_reader f o rest ≡ Ok y → (a : A) × (o ≡ Some a) × ((a, rest) ≡ y)
found_ok f None rest y e = absurd cc
found_ok f (Some a) rest y e = (a, refl, cc)

pub both : (a b : Bool) → a ≡ true → b ≡ true → (a && b) ≡ true
both true b p q = q
both false b p q = absurd cc

pub join : (b s r t u : List ℕ) → b ≡ s ++ r → r ≡ t ++ u → b ≡ (s ++ t) ++ u
join b s r t u e f = e ∙ ap (λ l. s ++ l) f ∙ sym (append_assoc s t u)

-- the first of some steps that gave something: what it read, and what the others then gave
pub record Step {A C : Type 0} (spell : A → List ℕ) (Right : A → Type 0) (next : A × List ℕ → Result C Misread) (b : List ℕ) (z : C) : Type 0 where
  pub it : A
  pub rest : List ℕ
  pub right : Right it
  pub parts : b ≡ spell it ++ rest
  pub are_bytes : IsBytes rest
  pub gives : next (it, rest) ≡ Ok z

pub step : {A C : Type 0} (spell : A → List ℕ) (Right : A → Type 0) (read : Reader Misread A) → IsReadBack spell Right read → (next : A × List ℕ → Result C Misread) (b : List ℕ) (z : C)
    → IsBytes b → (read b >>= next) ≡ Ok z → Step spell Right next b z
step spell Right read law next b z h e =
    let a = bind_ok (read b) next z e in
    let t = law.took b a.0 h a.1 in
    record { it = a.0.0; rest = a.0.1; right = t.0; parts = t.1; are_bytes = t.2; gives = a.2 }

-- what was written first is read, and then what was written after it
pub again : {A C : Type 0} (spell : A → List ℕ) (Right : A → Type 0) (read : Reader Misread A) → IsReadBack spell Right read → (next : A × List ℕ → Result C Misread) (x : A) (more rest : List ℕ)
    → Right x → (read ((spell x ++ more) ++ rest) >>= next) ≡ next (x, more ++ rest)
again spell Right read law next x more rest h = ap (λ b. read b >>= next) (append_assoc (spell x) more rest) ∙ ap (λ r. r >>= next) (law.written x (more ++ rest) h)

pub again_last : {A C : Type 0} (spell : A → List ℕ) (Right : A → Type 0) (read : Reader Misread A) → IsReadBack spell Right read → (next : A × List ℕ → Result C Misread) (x : A) (rest : List ℕ)
    → Right x → (read (spell x ++ rest) >>= next) ≡ next (x, rest)
again_last spell Right read law next x rest h = ap (λ r. r >>= next) (law.written x rest h)

-- ---- tests and what they mean

pub is_id-IsId : (xs : List ℕ) → is_id xs ≡ true → IsId xs
is_id-IsId xs h =
    let a = both_true (leb 1 (length xs)) (leb (length xs) 64 && list_all is_id_byte xs) h in
    let b = both_true (leb (length xs) 64) (list_all is_id_byte xs) a.1 in
    (omega (arith, leb-true _ _ a.0), leb-true _ _ b.0, b.1)

pub IsId-is_id : (xs : List ℕ) → IsId xs → is_id xs ≡ true
IsId-is_id xs h = both _ _ (le-leb 1 (length xs) (omega (arith, h.0))) (both _ _ (le-leb (length xs) 64 h.1) h.2)

pub is_word-IsWord : (xs : List ℕ) → is_word xs ≡ true → IsWord xs
is_word-IsWord xs h =
    let a = both_true (leb 1 (length xs)) (leb (length xs) 256 && list_all is_word_byte xs) h in
    let b = both_true (leb (length xs) 256) (list_all is_word_byte xs) a.1 in
    (omega (arith, leb-true _ _ a.0), leb-true _ _ b.0, b.1)

pub IsWord-is_word : (xs : List ℕ) → IsWord xs → is_word xs ≡ true
IsWord-is_word xs h = both _ _ (le-leb 1 (length xs) (omega (arith, h.0))) (both _ _ (le-leb (length xs) 256 h.1) h.2)

-- the byte of a number
pub byte_is : (n : ℕ) → n < 256 → to_be_bytes w8 n ≡ n ∷ []
byte_is n lt = ap (λ m. m ∷ []) (omega (arith, lt))

-- ---- fields

-- a byte, a job id, a kind, a list, a map, and a text of at most so many bytes
abbrev pub one_byte : ℕ → List ℕ
one_byte n = n ∷ []

abbrev pub IsByte : ℕ → Type 0
IsByte n = n < 256

abbrev pub micros : ℕ → List ℕ
micros jid = to_be_bytes w64 jid

abbrev pub IsJid : ℕ → Type 0
IsJid jid = jid ≤ greatest_jid

abbrev pub code : Kind → List ℕ
code kind = kind_code kind ∷ []

abbrev pub AnyKind : Kind → Type 0
AnyKind kind = Unit {0}

abbrev pub list_bytes : List Value → List ℕ
list_bytes xs = bytes (v.List xs)

abbrev pub ListFits : List Value → Type 0
ListFits xs = ValueFits (v.List xs)

abbrev pub map_bytes : List (List ℕ × Value) → List ℕ
map_bytes ps = bytes (v.Map ps)

abbrev pub MapFits : List (List ℕ × Value) → Type 0
MapFits ps = ValueFits (v.Map ps)

abbrev pub IsShortText : ℕ → List ℕ → Type 0
IsShortText most t = IsText t × (length t ≤ most)

module _ (l : Lower) where
  pub numbers : IsReadBack number IsNumber number_field
  numbers = record {
    written = λ n rest h. l.numbers_written w32 (misreading (number n ++ rest)) n rest (omega arith) h;
    took = λ b x h e. l.numbers_read w32 (misreading b) b x.0 x.1 (omega arith) h e;
  }

  pub a_byte : IsReadBack one_byte IsByte byte_field
  a_byte = record {
    written = λ n rest h. ap (λ (s : List ℕ). byte_field (s ++ rest)) (sym (byte_is n h)) ∙ l.numbers_written w8 (misreading (to_be_bytes w8 n ++ rest)) n rest (omega arith) h;
    took = λ b x h e. let t = l.numbers_read w8 (misreading b) b x.0 x.1 (omega arith) h e in (t.0, t.1 ∙ ap (λ (s : List ℕ). s ++ x.1) (byte_is x.0 t.0), t.2);
  }

  pub texts : IsReadBack text IsText text_field
  texts = record {
    written = λ t rest h. l.texts_written (misreading (text t ++ rest)) (misreading (text t ++ rest)) t rest h;
    took = λ b x h e. l.texts_read (misreading b) (misreading b) b x.0 x.1 h e;
  }

  pub short_texts : (most : ℕ) → IsReadBack text (IsShortText most) (short_text most)
  short_texts most = record {
    written = λ t rest h. rw (l.texts_written (misreading (text t ++ rest)) (misreading (text t ++ rest)) t rest h.0, le-leb (length t) most h.1) refl;
    took = λ b x h e.
        let a = bind_ok (text_field b) (λ t. when (leb (length t.0) most) (misreading b) t) x e in
        let w = when_ok (leb (length a.0.0) most) (misreading b) a.0 x a.2 in
        let t = l.texts_read (misreading b) (misreading b) b a.0.0 a.0.1 h a.1 in
        subst (λ (y : List ℕ × List ℕ). Took text (IsShortText most) b y) w.1 ((t.0, leb-true _ _ w.0), t.1, t.2);
  }

  counted_written : (f : Misread) (w : Width) (test : List ℕ → Bool) (x rest : List ℕ) → byte_len w ≤ 8 → length x < 256 ^ byte_len w → test x ≡ true
      → counted_or f w test ((to_be_bytes w (length x) ++ x) ++ rest) ≡ Ok (x, rest)
  unfolding counted_or
  counted_written f w test x rest le lt t =
      let long : ltb (length (x ++ rest)) (length x) ≡ false = le-ltb _ _ (omega (arith, length-append x rest)) in
      ap (counted_or f w test) (append_assoc (to_be_bytes w (length x)) x rest)
      ∙ rw (l.numbers_written w f (length x) (x ++ rest) le lt, long, take_at x rest (length x) refl, drop_at x rest (length x) refl, t) refl

  record Counted (w : Width) (test : List ℕ → Bool) (b : List ℕ) (x : List ℕ × List ℕ) : Type 0 where
    short : length x.0 < 256 ^ byte_len w
    passes : test x.0 ≡ true
    parts : b ≡ (to_be_bytes w (length x.0) ++ x.0) ++ x.1
    are_bytes : IsBytes x.1

  IsBytes-after : (xs b ys : List ℕ) → b ≡ xs ++ ys → IsBytes b → IsBytes ys
  IsBytes-after [] b ys e h = subst IsBytes e h
  IsBytes-after (x ∷ xs) b ys e h = IsBytes-after xs (xs ++ ys) ys refl (λ i. (subst IsBytes e h) (suc i))

  counted_took : (f : Misread) (w : Width) (test : List ℕ → Bool) (b : List ℕ) (x : List ℕ × List ℕ) → byte_len w ≤ 8 → IsBytes b → counted_or f w test b ≡ Ok x → Counted w test b x
  unfolding counted_or
  counted_took f w test b x le h e =
      let a = bind_ok (number_or w f b) (λ n. cond (ltb (length n.1) n.0) (Err f) (when (test (take n.0 n.1)) f (take n.0 n.1, drop n.0 n.1))) x e in
      let n = a.0 in
      let t = l.numbers_read w f b n.0 n.1 le h a.1 in
      let g = long_enough (ltb (length n.1) n.0) (when (test (take n.0 n.1)) f (take n.0 n.1, drop n.0 n.1)) a.2 in
      let long : n.0 ≤ length n.1 = ltb-false _ _ g.0 in
      let u = when_ok (test (take n.0 n.1)) f (take n.0 n.1, drop n.0 n.1) x g.1 in
      let len : length (take n.0 n.1) ≡ n.0 = omega (arith, length-take n.0 n.1, long) in
      let split : n.1 ≡ take n.0 n.1 ++ drop n.0 n.1 = sym (take-append-drop n.0 n.1) in
      let whole : b ≡ (to_be_bytes w (length (take n.0 n.1)) ++ take n.0 n.1) ++ drop n.0 n.1 = join b (to_be_bytes w (length (take n.0 n.1))) n.1 (take n.0 n.1) (drop n.0 n.1) (t.1 ∙ ap (λ m. to_be_bytes w m ++ n.1) (sym len)) split in
      subst (Counted w test b) u.1 (record { short = subst (λ m. m < 256 ^ byte_len w) (sym len) t.0; passes = u.0; parts = whole; are_bytes = IsBytes-after (take n.0 n.1) n.1 (drop n.0 n.1) split t.2 })
    where
      long_enough : (b : Bool) (r : Result (List ℕ × List ℕ) Misread) → cond b (Err f) r ≡ Ok x → (b ≡ false) × (r ≡ Ok x)
      long_enough true r e = absurd cc
      long_enough false r e = (refl, e)

  -- an id with any fault
  pub ids_or : (f : Misread) → IsReadBack id IsId (id_or f)
  ids_or f = record { written = id_written; took = id_took } where
    id_is : (x : List ℕ) → length x ≤ 64 → to_be_bytes w8 (length x) ++ x ≡ id x
    id_is x h = ap (λ (s : List ℕ). s ++ x) (byte_is (length x) (omega (arith, h)))

    id_written : (x : List ℕ) (rest : List ℕ) → IsId x → id_or f (id x ++ rest) ≡ Ok (x, rest)
    id_written x rest h = ap (λ (s : List ℕ). id_or f (s ++ rest)) (sym (id_is x h.1)) ∙ counted_written f w8 is_id x rest (omega arith) (omega (arith, h.1)) (IsId-is_id x h)

    id_took : (b : List ℕ) (x : List ℕ × List ℕ) → IsBytes b → id_or f b ≡ Ok x → Took id IsId b x
    id_took b x h e =
        let t = counted_took f w8 is_id b x (omega arith) h e in
        let i = is_id-IsId x.0 t.passes in
        (i, t.parts ∙ ap (λ (s : List ℕ). s ++ x.1) (id_is x.0 i.1), t.are_bytes)

  pub ids : IsReadBack id IsId id_field
  ids = record {
    written = λ x rest h. (ids_or (misreading (id x ++ rest))).written x rest h;
    took = λ b x h e. (ids_or (misreading b)).took b x h e;
  }

  pub words : IsReadBack word IsWord word_field
  words = record {
    written = λ x rest h. counted_written (misreading (word x ++ rest)) w16 is_word x rest (omega arith) (omega (arith, h.1)) (IsWord-is_word x h);
    took = λ b x h e. let t = counted_took (misreading b) w16 is_word b x (omega arith) h e in (is_word-IsWord x.0 t.passes, t.parts, t.are_bytes);
  }

  pub jids : IsReadBack micros IsJid jid_field
  unfolding jid_field
  jids = record {
    written = λ j rest h. rw (l.numbers_written w64 (misreading (to_be_bytes w64 j ++ rest)) j rest (omega arith) (omega (arith, h)), le-leb j greatest_jid h) refl;
    took = λ b x h e.
        let a = bind_ok (number_or w64 (misreading b) b) (λ n. when (leb n.0 greatest_jid) (misreading b) n) x e in
        let w = when_ok (leb a.0.0 greatest_jid) (misreading b) a.0 x a.2 in
        let t = l.numbers_read w64 (misreading b) b a.0.0 a.0.1 (omega arith) h a.1 in
        subst (λ (y : ℕ × List ℕ). Took micros IsJid b y) w.1 (leb-true _ _ w.0, t.1, t.2);
  }

  code_below : (kind : Kind) → kind_code kind < 256
  code_below k.Glob = omega arith
  code_below k.Pcre = omega arith
  code_below k.List = omega arith
  code_below k.Grain = omega arith
  code_below k.GrainPcre = omega arith
  code_below k.Pillar = omega arith
  code_below k.PillarPcre = omega arith
  code_below k.Nodegroup = omega arith
  code_below k.Compound = omega arith

  pub kinds : IsReadBack code AnyKind kind_field
  unfolding kind_field
  kinds = record {
    written = λ kind rest h. rw (a_byte.written (kind_code kind) rest (code_below kind), kind_of-code kind) refl;
    took = λ b x h e.
        let a = bind_ok (byte_field b) (λ code. option_reader (misreading b) (kind_of code.0) code.1) x e in
        let f = found_ok (misreading b) (kind_of a.0.0) a.0.1 x a.2 in
        let t = a_byte.took b a.0 h a.1 in
        subst (λ (y : Kind × List ℕ). Took code AnyKind b y) f.2
        (tt, t.1 ∙ ap (λ n. n ∷ a.0.1) (sym (kind_of-is a.0.0 f.0 f.1)), t.2);
  }

  -- ---- values

  value_or_ok : (b : List ℕ) (r : Result (Value × ℕ) ValueFault) (x : Value × List ℕ) → value_or b r ≡ Ok x → (y : Value × ℕ) × (r ≡ Ok y) × ((y.0, drop y.1 b) ≡ x)
  value_or_ok b (Ok y) x e = (y, refl, cc)
  value_or_ok b (Err f) x e = absurd cc

  pub values : IsReadBack bytes ValueFits value_field
  unfolding value_field
  values = record {
    written = λ v rest h. ap (value_or (bytes v ++ rest)) (l.values_written v rest h) ∙ ap (λ (r : List ℕ). Ok (v, r)) (drop_at (bytes v) rest (length (bytes v)) refl);
    took = λ b x h e.
        let a = value_or_ok b (read_at b) x e in
        let t = l.values_read b a.0.0 a.0.1 h a.1 in
        let after : t.2.0 ≡ drop a.0.1 b = sym (ap (λ n. drop n b) t.1 ∙ ap (drop (length (bytes a.0.0))) t.2.1 ∙ drop_at (bytes a.0.0) t.2.0 (length (bytes a.0.0)) refl) in
        subst (Took bytes ValueFits b) a.2 (t.0, t.2.1 ∙ ap (λ (r : List ℕ). bytes a.0.0 ++ r) after, subst IsBytes after t.2.2);
  }

  items_of-List : (xs : List Value) → value_items (v.List xs) ≡ Some xs
  items_of-List xs = ap value_items (sym (rolls-List xs)) ∙ ap items_layer (out-roll-Value (Value-F.List xs))

  items_layer-is : (w : Value-F Value) (xs : List Value) → items_layer w ≡ Some xs → roll-Value w ≡ v.List xs
  items_layer-is Value-F.Null xs e = absurd cc
  items_layer-is (Value-F.Flag b) xs e = absurd cc
  items_layer-is (Value-F.Int z) xs e = absurd cc
  items_layer-is (Value-F.Str t) xs e = absurd cc
  items_layer-is (Value-F.List ys) xs e = let same : ys ≡ xs = cc in rolls-List ys ∙ ap v.List same
  items_layer-is (Value-F.Map ps) xs e = absurd cc

  pub lists : IsReadBack list_bytes ListFits items_field
  unfolding items_field
  lists = record {
    written = λ xs rest h. rw (values.written (v.List xs) rest h, items_of-List xs) refl;
    took = λ b x h e.
        let a = bind_ok (value_field b) (λ value. option_reader (misreading b) (value_items value.0) value.1) x e in
        let f = found_ok (misreading b) (value_items a.0.0) a.0.1 x a.2 in
        let t = values.took b a.0 h a.1 in
        let same : a.0.0 ≡ v.List f.0 = sym (roll-out-Value a.0.0) ∙ items_layer-is (out-Value a.0.0) f.0 f.1 in
        subst (λ (y : List Value × List ℕ). Took list_bytes ListFits b y) f.2 (subst ValueFits same t.0, t.1 ∙ ap (λ (w : Value). bytes w ++ a.0.1) same, t.2);
  }

  pairs_of-Map : (ps : List (List ℕ × Value)) → value_pairs (v.Map ps) ≡ Some ps
  pairs_of-Map ps = ap value_pairs (sym (rolls-Map ps)) ∙ ap pairs_layer (out-roll-Value (Value-F.Map ps))

  pairs_layer-is : (w : Value-F Value) (ps : List (List ℕ × Value)) → pairs_layer w ≡ Some ps → roll-Value w ≡ v.Map ps
  pairs_layer-is Value-F.Null ps e = absurd cc
  pairs_layer-is (Value-F.Flag b) ps e = absurd cc
  pairs_layer-is (Value-F.Int z) ps e = absurd cc
  pairs_layer-is (Value-F.Str t) ps e = absurd cc
  pairs_layer-is (Value-F.List xs) ps e = absurd cc
  pairs_layer-is (Value-F.Map qs) ps e = let same : qs ≡ ps = cc in rolls-Map qs ∙ ap v.Map same

  pub maps : IsReadBack map_bytes MapFits fields_field
  unfolding fields_field
  maps = record {
    written = λ ps rest h. rw (values.written (v.Map ps) rest h, pairs_of-Map ps) refl;
    took = λ b x h e.
        let a = bind_ok (value_field b) (λ value. option_reader (misreading b) (value_pairs value.0) value.1) x e in
        let f = found_ok (misreading b) (value_pairs a.0.0) a.0.1 x a.2 in
        let t = values.took b a.0 h a.1 in
        let same : a.0.0 ≡ v.Map f.0 = sym (roll-out-Value a.0.0) ∙ pairs_layer-is (out-Value a.0.0) f.0 f.1 in
        subst (λ (y : List (List ℕ × Value) × List ℕ). Took map_bytes MapFits b y) f.2 (subst ValueFits same t.0, t.1 ∙ ap (λ (w : Value). bytes w ++ a.0.1) same, t.2);
  }
