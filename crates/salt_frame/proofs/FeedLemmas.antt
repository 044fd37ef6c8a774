-- More of the stream comes, and whole frames that stood there stay.
use Rattle.std.proofs.Common.{◌≡◌, ℕ, zero, suc, ◌+◌, ◌-◌, ◌≤◌, Bool, true, false, cond, Result, Ok, Err, is_ok, is_err, List, [], ◌∷◌, ◌++◌, length, take, drop, Option, Some, None, refl, sym, ap, subst, ◌∙◌, append_assoc, arith, length-append}
use Rattle.std.specs.Int.{w32, to_be_bytes}
use Rattle.std.specs.List.{AllByRecursion}
use Rattle.std.proofs.lemmas.List.{drop_at, length-take, length-drop, drop-drop, take-append-drop, take-append-le, drop-append-le, take-take}
use Rattle.std.proofs.lemmas.List.Concat.{flat_map-cons}
use Rattle.salt_frame.specs.Frames.{frame, frames, IsBody, IsPartial, IsOver, Ends, Splits, HasOver}
use Rattle.salt_frame.specs.Buffer.{BufferState, HoldsRest}
use Rattle.salt_frame.specs.BufferFields.{AreFrames, IsTail}
use Rattle.salt_frame.proofs.Readings.{one}

pub frames_join : (xs ys : List (List ℕ)) → frames (xs ++ ys) ≡ frames xs ++ frames ys
frames_join [] ys = refl
frames_join (x ∷ xs) ys = flat_map-cons frame x (xs ++ ys) ∙ ap (λ l. frame x ++ l) (frames_join xs ys) ∙ sym (append_assoc (frame x) (frames xs) (frames ys)) ∙ ap (λ l. l ++ frames ys) (sym (flat_map-cons frame x xs))

pub all_join : (xs ys : List (List ℕ)) → AllByRecursion IsBody xs → AllByRecursion IsBody ys → AllByRecursion IsBody (xs ++ ys)
all_join [] ys h g = g
all_join (x ∷ xs) ys h g = (h.0, all_join xs ys h.1 g)

-- a front is a shorter front and what comes then
take_split : (i j k : ℕ) (xs : List ℕ) → k ≡ i + j → i ≤ length xs → take k xs ≡ take i xs ++ take j (drop i xs)
take_split i j k xs e le =
    let parts : xs ≡ take i xs ++ drop i xs = sym (take-append-drop i xs) in
    let len : length (take i xs) ≡ i = omega (arith, length-take i xs) in
    let n : k - length (take i xs) ≡ j = omega (arith, len) in
    ap (take k) parts ∙ past (take i xs) (drop i xs) k (omega (arith, len)) ∙ ap (λ m. take i xs ++ take m (drop i xs)) n where
      past : (ys zs : List ℕ) (n : ℕ) → length ys ≤ n → take n (ys ++ zs) ≡ ys ++ take (n - length ys) zs
      past [] zs n h = let z : n ≡ n - length {A = ℕ} [] = omega arith in ap (λ k. take k zs) z
      past (y ∷ ys) zs zero h = absurd (omega arith)
      past (y ∷ ys) zs (suc n) h =
          let k : n - length ys ≡ suc n - length (y ∷ ys) = omega arith in
          ap (λ l. y ∷ l) (past ys zs n (omega arith)) ∙ ap (λ m. y ∷ (ys ++ take m zs)) k

behind : (s w : ℕ) (d : List ℕ) → s ≤ w → drop (w - s) (drop s d) ≡ drop w d
behind s w d le = let j : s + (w - s) ≡ w = omega arith in drop-drop (w - s) s d ∙ ap (λ i. drop i d) j

pub grown : (s w w' : ℕ) (bs piece d : List ℕ) → d ≡ bs ++ piece → s ≤ w → w ≤ length bs → w ≤ w' → w' ≤ length d → AreFrames (take (w - s) (drop s bs)) → AreFrames (take (w' - w) (drop w d)) → AreFrames (take (w' - s) (drop s d))
grown s w w' bs piece d e le within le' within' r r' =
    let small : s ≤ length bs = omega arith in
    let room : w - s ≤ length (drop s bs) = omega (arith, length-drop s bs) in
    let front : take (w - s) (drop s d) ≡ take (w - s) (drop s bs) = ap (λ l. take (w - s) (drop s l)) e ∙ ap (take (w - s)) (drop-append-le s bs piece small) ∙ take-append-le (w - s) (drop s bs) piece room in
    let k : w' - s ≡ (w - s) + (w' - w) = omega arith in
    let split = take_split (w - s) (w' - w) (w' - s) (drop s d) k (omega (arith, length-drop s d)) in
    (r.0 ++ r'.0, split ∙ ap (λ l. l ++ take (w' - w) (drop (w - s) (drop s d))) (front ∙ r.1) ∙ ap (λ l. frames r.0 ++ l) (ap (take (w' - w)) (behind s w d le) ∙ r'.1) ∙ sym (frames_join r.0 r'.0), all_join r.0 r'.0 r.2 r'.2)

pub all_first : (xs ys : List (List ℕ)) → AllByRecursion IsBody (xs ++ ys) → AllByRecursion IsBody xs
all_first [] ys h = tt
all_first (x ∷ xs) ys h = (h.0, all_first xs ys h.1)

-- from a place on whole frames stand up to another one
splits : (s w : ℕ) (d : List ℕ) → s ≤ w → (r : AreFrames (take (w - s) (drop s d))) → Splits (drop s d) r.0 (drop w d)
splits s w d le r = record {
  whole = sym (take-append-drop (w - s) (drop s d)) ∙ ap (λ l. l ++ drop (w - s) (drop s d)) r.1 ∙ ap (λ l. frames r.0 ++ l) (behind s w d le);
  each = r.2;
}

pub holds_partial : (s w : ℕ) (d : List ℕ) → s ≤ w → AreFrames (take (w - s) (drop s d)) → IsPartial (drop w d) → HoldsRest (drop s d) [] (record { kept = drop s d; over = None })
holds_partial s w d le r last = let p = splits s w d le r in record { others = r.0; rest = drop w d; reads = record { splits = p; ends = last }; kept = p.whole }

-- behind a place that is kept, a front of the bytes is a front of what stands there
cut_at : (s m : ℕ) (d : List ℕ) → s ≤ m → m ≤ length d → drop s (take m d) ≡ take (m - s) (drop s d)
cut_at s m d le long =
    let parts : take m d ≡ take s d ++ take (m - s) (drop s d) = take_split s (m - s) m d (omega arith) (omega arith) in
    ap (drop s) parts ∙ drop_at (take s d) (take (m - s) (drop s d)) s (omega (arith, length-take s d))

over_front : (n : ℕ) (b : List ℕ) → IsOver n b → (take 4 b ≡ to_be_bytes w32 n) × (4 ≤ length b)
over_front n b o = (ap (take 4) o.2.1, omega (arith, ap length o.2.1, length-append (to_be_bytes w32 n) o.2.0))

pub over_room : (w n : ℕ) (d : List ℕ) → w ≤ length d → IsOver n (drop w d) → w + 4 ≤ length d
over_room w n d le o = omega (arith, (over_front n (drop w d) o).1, length-drop w d)

pub cut_ready : (s w n : ℕ) (d : List ℕ) → s ≤ w → w ≤ length d → IsOver n (drop w d) → AreFrames (take (w - s) (drop s d)) → AreFrames (take (w - s) (drop s (take (w + 4) d)))
cut_ready s w n d le within o r =
    let room = over_room w n d within o in
    let same : take (w - s) (drop s (take (w + 4) d)) ≡ take (w - s) (drop s d) = ap (take (w - s)) (cut_at s (w + 4) d (omega arith) room) ∙ take-take (w - s) (w + 4 - s) (drop s d) (omega arith) in
    (r.0, same ∙ r.1, r.2)

pub cut_last : (w n : ℕ) (d : List ℕ) → w ≤ length d → IsOver n (drop w d) → IsTail (Some n) (drop w (take (w + 4) d))
cut_last w n d within o =
    let room = over_room w n d within o in
    let k : w + 4 - w ≡ 4 = omega arith in
    (o.0, o.1, cut_at w (w + 4) d (omega arith) room ∙ ap (λ j. take j (drop w d)) k ∙ (over_front n (drop w d) o).0)

pub holds_over : (s w n : ℕ) (d : List ℕ) → s ≤ w → w ≤ length d → AreFrames (take (w - s) (drop s d)) → IsOver n (drop w d) → HoldsRest (drop s d) [] (record { kept = drop s (take (w + 4) d); over = Some n })
holds_over s w n d le within r o =
    let room = over_room w n d within o in
    let k : w + 4 - s ≡ (w - s) + 4 = omega arith in
    let kept = cut_at s (w + 4) d (omega arith) room ∙ take_split (w - s) 4 (w + 4 - s) (drop s d) k (omega (arith, length-drop s d)) ∙ ap (λ l. l ++ take 4 (drop (w - s) (drop s d))) r.1
    ∙ ap (λ l. frames r.0 ++ l) (ap (take 4) (behind s w d le) ∙ (over_front n (drop w d) o).0) in
    record { others = r.0; rest = drop w d; reads = record { splits = splits s w d le r; ends = o }; kept = kept }

-- a stream whose length over the limit is n has no other end
pub only_over : (n : ℕ) (stream : List ℕ) (h : BufferState) → HasOver n stream → HoldsRest stream [] h → h.over ≡ Some n
only_over n stream h o g = sym (one stream o.0 g.others (Some n) h.over o.1 g.rest o.2 g.reads).1

pub ok_of : {A E : Type 0} (r : Result A E) → is_err r ≡ false → is_ok r ≡ true
ok_of (Ok x) h = refl
ok_of (Err e) h = absurd cc

-- what a feed knows once the piece stands there and was looked through
pub record Fed (s w w' : ℕ) (over : Option ℕ) (bs piece d : List ℕ) : Type 0 where
  pub items : d ≡ bs ++ piece
  pub ordered : s ≤ w
  pub small : w ≤ length bs
  pub next : w ≤ w'
  pub within : w' ≤ length d
  pub ready : AreFrames (take (w' - s) (drop s d))
  pub last : Ends over (drop w' d)

pub fed : (s w w' : ℕ) (over : Option ℕ) (bs piece d dd : List ℕ) (b : Bool) → d ≡ cond b (bs ++ piece) bs → b ≡ true → dd ≡ d → s ≤ w → w ≤ length bs → AreFrames (take (w - s) (drop s bs))
    → (w ≤ w') × (w' ≤ length dd) → AreFrames (take (w' - w) (drop w dd)) → Ends over (drop w' dd) → Fed s w w' over bs piece d
fed s w w' over bs piece d dd b e ok same le small r within r' last =
    let items : d ≡ bs ++ piece = e ∙ ap (λ t. cond t (bs ++ piece) bs) ok in
    let inside : w' ≤ length d = omega (arith, within.1, ap length same) in
    record {
      items = items;
      ordered = le;
      small = small;
      next = within.0;
      within = inside;
      ready = grown s w w' bs piece d items le small within.0 inside r (subst (λ (l : List ℕ). AreFrames (take (w' - w) (drop w l))) same r');
      last = subst (λ (l : List ℕ). Ends over (drop w' l)) same last;
    }

pub over_of : (w' n : ℕ) (over : Option ℕ) (d : List ℕ) → over ≡ Some n → Ends over (drop w' d) → IsOver n (drop w' d)
over_of w' n over d e h = subst (λ (o : Option ℕ). Ends o (drop w' d)) e h

pub partial_of : (w' : ℕ) (over : Option ℕ) (d : List ℕ) → over ≡ None → Ends over (drop w' d) → IsPartial (drop w' d)
partial_of w' over d e h = subst (λ (o : Option ℕ). Ends o (drop w' d)) e h

pub feed_kept : (s : ℕ) (bs piece d : List ℕ) → d ≡ bs ++ piece → s ≤ length bs → drop s d ≡ drop s bs ++ piece
feed_kept s bs piece d e small = ap (drop s) e ∙ drop-append-le s bs piece small

-- a feed that found a length over the limit
pub over_held : (s w w' n : ℕ) (over : Option ℕ) (bs piece d cut kept : List ℕ) → Fed s w w' over bs piece d → over ≡ Some n → drop s bs ≡ kept → cut ≡ take (w' + 4) d
    → HoldsRest (kept ++ piece) [] (record { kept = drop s cut; over = Some n })
over_held s w w' n over bs piece d cut kept f e k c =
    let le : s ≤ w' = omega (arith, f.ordered, f.next) in
    let stream : drop s d ≡ kept ++ piece = feed_kept s bs piece d f.items (omega (arith, f.ordered, f.small)) ∙ ap (λ l. l ++ piece) k in
    subst (λ l. HoldsRest l [] (record { kept = drop s cut; over = Some n })) stream
    (subst (λ l. HoldsRest (drop s d) [] (record { kept = drop s l; over = Some n })) (sym c) (holds_over s w' n d le f.within f.ready (over_of w' n over d e f.last)))

-- a feed after which no length over the limit stands there
pub partial_held : (s w w' : ℕ) (over : Option ℕ) (bs piece d kept : List ℕ) (own : Option ℕ) → Fed s w w' over bs piece d → over ≡ None → drop s bs ≡ kept → own ≡ None
    → (◌≡◌ {A = BufferState} (record { kept = drop s d; over = own }) (record { kept = kept ++ piece; over = None })) × HoldsRest (kept ++ piece) [] (record { kept = drop s d; over = own })
partial_held s w w' over bs piece d kept own f e k o =
    let le : s ≤ w' = omega (arith, f.ordered, f.next) in
    let stream : drop s d ≡ kept ++ piece = feed_kept s bs piece d f.items (omega (arith, f.ordered, f.small)) ∙ ap (λ l. l ++ piece) k in (
      λ i. record { kept = stream i; over = o i },
      subst (λ (p : Option ℕ). HoldsRest (kept ++ piece) [] (record { kept = drop s d; over = p })) (sym o)
          (subst (λ l. HoldsRest l [] (record { kept = drop s d; over = None })) stream (holds_partial s w' d le f.ready (partial_of w' over d e f.last))),
    )

pub same_over : (m n : ℕ) → Some m ≡ Some n → m ≡ n
same_over m n e = cc

pub no_over : (n : ℕ) (own : Option ℕ) → own ≡ None → own ≡ Some n → ⊥
no_over n own e f = absurd cc
