-- The bytes of a part have one reading: no journal, a journal, or a journal that is damaged at one place.
use Rattle.std.proofs.Common.{◌≡◌, ◌≢◌, ◌⊎◌, ⊎_elim, ℕ, ◌+◌, ◌-◌, ◌<◌, ◌≤◌, ◌^◌, List, [], ◌∷◌, ◌++◌, length, get_or, take, drop, refl, sym, ◌∙◌, ap, subst, arith, append_assoc, length-append}
use Rattle.std.proofs.lemmas.List.{take_at}
use Rattle.std.proofs.lemmas.Nat.{from_be_bytes-to_be_bytes_4, from_be_bytes-to_be_bytes_8}
use Rattle.std.specs.Int.{w32, w64, from_be_bytes}
use Rattle.byteorder.specs.Endian.{big_bytes}
use Rattle.gate_journal.specs.Layout.{journal_name}
use Rattle.gate_journal.specs.Journal.{record_of, records, header, IsJournal}
use Rattle.gate_journal.specs.Damage.{limit_in, IsNoJournal, IsBroken, IsDamagedAt}
use Rattle.gate_journal.proofs.Unique.{same_number, same_back, same_front}

number_of : (n : ℕ) (behind : List ℕ) → n < 2 ^ 32 → from_be_bytes w32 (take 4 (big_bytes 4 n ++ behind)) ≡ n
number_of n behind fits = ap (λ (l : List ℕ). from_be_bytes w32 l) (take_at (big_bytes 4 n) behind 4 refl) ∙ from_be_bytes-to_be_bytes_4 n fits

length-record : (payload behind : List ℕ) → length ((big_bytes 4 (length payload) ++ payload) ++ behind) ≡ 4 + length payload + length behind
length-record payload behind = omega (arith, length-append (big_bytes 4 (length payload) ++ payload) behind, length-append (big_bytes 4 (length payload)) payload)

-- a whole record with a gate after it is not broken
whole : (payload behind rest : List ℕ) (room : ℕ) → rest ≡ (big_bytes 4 (length payload) ++ payload) ++ behind → length payload < 2 ^ 32 → 6 + length payload ≤ room → 1 ≤ length behind → IsBroken room rest → ⊥
whole payload behind rest room is fits within some broken =
    let long : length rest ≡ 4 + length payload + length behind = ap length is ∙ length-record payload behind in
    let number : from_be_bytes w32 (take 4 rest) ≡ length payload =
    ap (λ (l : List ℕ). from_be_bytes w32 (take 4 l)) (is ∙ append_assoc (big_bytes 4 (length payload)) payload behind) ∙ number_of (length payload) (payload ++ behind) fits in
    none (length rest) (from_be_bytes w32 (take 4 rest)) room broken (omega (arith, long, some)) (omega (arith, long, number, some)) (omega (arith, number, within))
  where
    none : (count n room : ℕ) → (count < 4) ⊎ (count < 5 + n) ⊎ (room < 6 + n) → 4 ≤ count → 5 + n ≤ count → 6 + n ≤ room → ⊥
    none count n room broken four five six = grind arith

-- one record off both
record_off : (p q xs ys : List ℕ) → length p < 2 ^ 32 → length q < 2 ^ 32 → record_of p ++ xs ≡ record_of q ++ ys → (p ≡ q) × (xs ≡ ys)
record_off p q xs ys p_fits q_fits e =
    let number : length p ≡ length q = same_number 4 (length p) (length q) (p ++ xs) (q ++ ys) (omega (arith, p_fits)) (omega (arith, q_fits))
    (sym (append_assoc (big_bytes 4 (length p)) p xs) ∙ ap (λ (l : List ℕ). drop 1 l) e ∙ append_assoc (big_bytes 4 (length q)) q ys) in
    let behind : p ++ xs ≡ q ++ ys = ap (λ (l : List ℕ). drop 5 l) e in
    (same_front p q xs ys number behind, same_back p q xs ys number behind)

length-records : (p : List ℕ) (ps : List (List ℕ)) → length (records (p ∷ ps)) ≡ 5 + length p + length (records ps)
length-records p ps = omega (arith, length-append (record_of p) (records ps), length-append (big_bytes 4 (length p)) p)

split_records : (p : List ℕ) (ps : List (List ℕ)) (xs : List ℕ) → records (p ∷ ps) ++ xs ≡ record_of p ++ (records ps ++ xs)
split_records p ps xs = append_assoc (record_of p) (records ps) xs

-- where the records end at a gate that isn't open, none of them is broken
closed_not_broken : (ps qs : List (List ℕ)) (gate room : ℕ) (xs ys : List ℕ) → gate ≢ 1 → room < 2 ^ 32 → length (records ps) < room → length (records qs) < room
    → records ps ++ gate ∷ xs ≡ records qs ++ 1 ∷ ys → IsBroken (room - length (records qs)) ys → ⊥
closed_not_broken [] [] gate room xs ys shut small p_within q_within e broken = shut (ap (λ (l : List ℕ). get_or l 0 0) e)
closed_not_broken [] (q ∷ qs) gate room xs ys shut small p_within q_within e broken = shut (ap (λ (l : List ℕ). get_or l 0 0) e)
closed_not_broken (p ∷ ps) [] gate room xs ys shut small p_within q_within e broken =
    whole p (records ps ++ gate ∷ xs) ys (room - 0) (sym (ap (λ (l : List ℕ). drop 1 l) (sym (split_records p ps (gate ∷ xs)) ∙ e)))
    (omega (arith, p_within, small, length-records p ps)) (omega (arith, p_within, length-records p ps)) (omega (arith, length-append (records ps) (gate ∷ xs))) broken
closed_not_broken (p ∷ ps) (q ∷ qs) gate room xs ys shut small p_within q_within e broken =
    let off = record_off p q (records ps ++ gate ∷ xs) (records qs ++ 1 ∷ ys) (omega (arith, p_within, small, length-records p ps)) (omega (arith, q_within, small, length-records q qs))
    (sym (split_records p ps (gate ∷ xs)) ∙ e ∙ split_records q qs (1 ∷ ys)) in
    let same : length p ≡ length q = ap length off.0 in
    let left : room - length (records (q ∷ qs)) ≡ (room - (5 + length q)) - length (records qs) = omega (arith, length-records q qs) in
    closed_not_broken ps qs gate (room - (5 + length q)) xs ys shut (omega (arith, small)) (omega (arith, p_within, length-records p ps, same)) (omega (arith, q_within, length-records q qs)) off.1
    (subst (λ (n : ℕ). IsBroken n ys) left broken)

-- the first broken record stands at one place
broken_once : (ps qs : List (List ℕ)) (room : ℕ) (xs ys : List ℕ) → room < 2 ^ 32 → length (records ps) < room → length (records qs) < room
    → records ps ++ 1 ∷ xs ≡ records qs ++ 1 ∷ ys → IsBroken (room - length (records ps)) xs → IsBroken (room - length (records qs)) ys → length (records ps) ≡ length (records qs)
broken_once [] [] room xs ys small p_within q_within e x_broken y_broken = refl
broken_once [] (q ∷ qs) room xs ys small p_within q_within e x_broken y_broken =
    absurd (whole q (records qs ++ 1 ∷ ys) xs (room - 0) (ap (λ (l : List ℕ). drop 1 l) (e ∙ split_records q qs (1 ∷ ys)))
    (omega (arith, q_within, small, length-records q qs)) (omega (arith, q_within, length-records q qs)) (omega (arith, length-append (records qs) (1 ∷ ys))) x_broken)
broken_once (p ∷ ps) [] room xs ys small p_within q_within e x_broken y_broken =
    absurd (whole p (records ps ++ 1 ∷ xs) ys (room - 0) (sym (ap (λ (l : List ℕ). drop 1 l) (sym (split_records p ps (1 ∷ xs)) ∙ e)))
    (omega (arith, p_within, small, length-records p ps)) (omega (arith, p_within, length-records p ps)) (omega (arith, length-append (records ps) (1 ∷ xs))) y_broken)
broken_once (p ∷ ps) (q ∷ qs) room xs ys small p_within q_within e x_broken y_broken =
    let off = record_off p q (records ps ++ 1 ∷ xs) (records qs ++ 1 ∷ ys) (omega (arith, p_within, small, length-records p ps)) (omega (arith, q_within, small, length-records q qs))
    (sym (split_records p ps (1 ∷ xs)) ∙ e ∙ split_records q qs (1 ∷ ys)) in
    let same : length p ≡ length q = ap length off.0 in
    let x_left : room - length (records (p ∷ ps)) ≡ (room - (5 + length q)) - length (records ps) = omega (arith, length-records p ps, same) in
    let y_left : room - length (records (q ∷ qs)) ≡ (room - (5 + length q)) - length (records qs) = omega (arith, length-records q qs) in
    let further = broken_once ps qs (room - (5 + length q)) xs ys (omega (arith, small)) (omega (arith, p_within, length-records p ps, same)) (omega (arith, q_within, length-records q qs)) off.1
    (subst (λ (n : ℕ). IsBroken n xs) x_left x_broken) (subst (λ (n : ℕ). IsBroken n ys) y_left y_broken) in
    omega (arith, further, same, length-records p ps, length-records q qs)

same_limit : (m n : ℕ) (xs ys : List ℕ) → m ≤ 1073741824 → n ≤ 1073741824 → header m ++ xs ≡ header n ++ ys → (m ≡ n) × (xs ≡ ys)
same_limit m n xs ys m_least n_least e = (
  same_number 8 m n xs ys (omega (arith, m_least)) (omega (arith, n_least)) (ap (λ (l : List ℕ). drop 8 l) e),
  ap (λ (l : List ℕ). drop 16 l) e,
)

-- a journal is not damaged
pub journal_not_damaged : (limit at : ℕ) (payloads : List (List ℕ)) (bytes : List ℕ) → IsJournal limit payloads bytes → IsDamagedAt at bytes → ⊥
journal_not_damaged limit at payloads bytes is damaged =
    let same = same_limit limit damaged.limit (records payloads ++ is.gate ∷ is.rest) (records damaged.payloads ++ 1 ∷ damaged.rest) is.greatest damaged.greatest
    (sym (append_assoc (header limit) (records payloads) (is.gate ∷ is.rest)) ∙ sym is.bytes_are ∙ damaged.bytes_are ∙ append_assoc (header damaged.limit) (records damaged.payloads) (1 ∷ damaged.rest)) in
    let left : damaged.limit - at ≡ (limit - 16) - length (records damaged.payloads) = omega (arith, same.0, damaged.place) in
    closed_not_broken payloads damaged.payloads is.gate (limit - 16) is.rest damaged.rest is.shut (omega (arith, is.greatest)) (omega (arith, is.within)) (omega (arith, damaged.place, damaged.within, same.0)) same.1
    (subst (λ (n : ℕ). IsBroken n damaged.rest) left damaged.broken)

-- it is damaged at one place
pub damaged_once : (at other : ℕ) (bytes : List ℕ) → IsDamagedAt at bytes → IsDamagedAt other bytes → at ≡ other
damaged_once at other bytes first second =
    let same = same_limit first.limit second.limit (records first.payloads ++ 1 ∷ first.rest) (records second.payloads ++ 1 ∷ second.rest) first.greatest second.greatest
    (sym (append_assoc (header first.limit) (records first.payloads) (1 ∷ first.rest)) ∙ sym first.bytes_are ∙ second.bytes_are ∙ append_assoc (header second.limit) (records second.payloads) (1 ∷ second.rest)) in
    let x_left : first.limit - at ≡ (first.limit - 16) - length (records first.payloads) = omega (arith, first.place) in
    let y_left : second.limit - other ≡ (first.limit - 16) - length (records second.payloads) = omega (arith, same.0, second.place) in
    let once = broken_once first.payloads second.payloads (first.limit - 16) first.rest second.rest (omega (arith, first.greatest)) (omega (arith, first.place, first.within)) (omega (arith, second.place, second.within, same.0)) same.1
    (subst (λ (n : ℕ). IsBroken n first.rest) x_left first.broken) (subst (λ (n : ℕ). IsBroken n second.rest) y_left second.broken) in
    omega (arith, once, first.place, second.place)

-- bytes with a header and a gate are a journal, be it damaged
headed : (limit : ℕ) (front behind bytes : List ℕ) → bytes ≡ (header limit ++ front) ++ behind → 1 ≤ length behind → 64 ≤ limit → limit ≤ 1073741824 → IsNoJournal bytes → ⊥
headed limit front behind bytes is some least greatest none =
    let whole_is : bytes ≡ header limit ++ (front ++ behind) = is ∙ append_assoc (header limit) front behind in
    let long : length bytes ≡ 16 + length front + length behind = omega (arith, ap length whole_is, length-append (header limit) (front ++ behind), length-append front behind) in
    let number : from_be_bytes w64 (take 8 (drop 8 bytes)) ≡ limit = ap (λ (l : List ℕ). from_be_bytes w64 (take 8 (drop 8 l))) whole_is ∙ from_be_bytes-to_be_bytes_8 limit (omega (arith, greatest)) in
    ⊎_elim (λ (short : length bytes < 17). absurd (omega (arith, short, long, some)))
    (λ others. ⊎_elim (λ (name : take 8 bytes ≢ journal_name). name (ap (λ (l : List ℕ). take 8 l) whole_is))
    (λ limits. ⊎_elim (λ (low : limit_in bytes < 64). absurd (omega (arith, low, number, least))) (λ (high : 1073741824 < limit_in bytes). absurd (omega (arith, high, number, greatest))) limits)
    others) none

pub journal_is_one : (limit : ℕ) (payloads : List (List ℕ)) (bytes : List ℕ) → IsJournal limit payloads bytes → IsNoJournal bytes → ⊥
journal_is_one limit payloads bytes is none = headed limit (records payloads) (is.gate ∷ is.rest) bytes is.bytes_are (omega arith) is.least is.greatest none

pub damaged_is_one : (at : ℕ) (bytes : List ℕ) → IsDamagedAt at bytes → IsNoJournal bytes → ⊥
damaged_is_one at bytes is none = headed is.limit (records is.payloads) (1 ∷ is.rest) bytes is.bytes_are (omega arith) is.least is.greatest none
