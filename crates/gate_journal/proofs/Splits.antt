-- The parts that a read of a journal finds.
use Rattle.std.proofs.Common.{◌≡◌, ◌≢◌, ⊎_elim, ℕ, ◌+◌, ◌-◌, ◌<◌, ◌≤◌, List, [], ◌∷◌, ◌++◌, length, get_or, take, drop, sym, ◌∙◌, ap, subst, arith, append_assoc, length-take, length-drop, get_or-take, get_or-drop, take-append-drop}
use Rattle.std.proofs.lemmas.List.{drop-drop, take_rest, get_or_past, drop_more}
use Rattle.std.proofs.lemmas.Bool.{cases_lt}
use Rattle.std.proofs.lemmas.Nat.{be_bytes_4, be_bytes_8}
use Rattle.std.specs.Int.{w32, w64, from_be_bytes}
use Rattle.byteorder.specs.Endian.{big_bytes}
use Rattle.gate_journal.specs.Journal.{record_of, records, header, journal_length, IsJournal}
use Rattle.gate_journal.specs.Storage.{HasRecord}
use Rattle.gate_journal.proofs.Store.{records-push}

small_take : (n : ℕ) (xs : List ℕ) → ((i : ℕ) → get_or xs i 0 < 256) → (i : ℕ) → get_or (take n xs) i 0 < 256
small_take n xs small i = ⊎_elim (λ (lt : i < n). subst (λ k. k < 256) (sym (get_or-take n xs i 0 lt)) (small i))
    (λ (ge : n ≤ i). subst (λ k. k < 256) (sym (get_or_past (take n xs) i 0 (omega (arith, length-take n xs)))) (omega arith)) (cases_lt i n)

pub record_split : (rest first behind : List ℕ) (n room : ℕ) → ((i : ℕ) → get_or rest i 0 < 256) → 4 ≤ length rest → first ≡ take 4 rest → behind ≡ drop 4 rest
    → n ≡ from_be_bytes w32 first → n < length behind → 6 + n ≤ room
    → HasRecord room rest (take n behind) (take (length behind - n) (drop n behind))
record_split rest first behind n room small four first_is behind_is n_is shorter within =
    let long : length (take n behind) ≡ n = omega (arith, length-take n behind, shorter) in
    let number : big_bytes 4 n ≡ take 4 rest = be_bytes_4 (take 4 rest) n (omega (arith, length-take 4 rest, four)) (small_take 4 rest small) (n_is ∙ ap (λ (l : List ℕ). from_be_bytes w32 l) first_is) in
    let back : take (length behind - n) (drop n behind) ≡ drop n behind = take_rest behind n in record {
      bytes_are = sym (take-append-drop 4 rest)
          ∙ ap (λ (l : List ℕ). l ++ drop 4 rest) (sym number ∙ ap (λ (k : ℕ). big_bytes 4 k) (sym long))
          ∙ ap (λ (l : List ℕ). big_bytes 4 (length (take n behind)) ++ l) (sym behind_is ∙ sym (take-append-drop n behind) ∙ ap (λ (l : List ℕ). take n behind ++ l) (sym back))
          ∙ sym (append_assoc (big_bytes 4 (length (take n behind))) (take n behind) (take (length behind - n) (drop n behind)));
      gate = omega (arith, ap length back, length-drop n behind, shorter);
      within = omega (arith, long, within);
    }

pub header_split : (bytes first rest second : List ℕ) (limit : ℕ) → ((i : ℕ) → get_or bytes i 0 < 256) → 17 ≤ length bytes → first ≡ take 8 bytes → rest ≡ drop 8 bytes → second ≡ take 8 rest
    → first ≡ 83 ∷ 65 ∷ 76 ∷ 84 ∷ 74 ∷ 78 ∷ 76 ∷ 49 ∷ [] → limit ≡ from_be_bytes w64 second → bytes ≡ header limit ++ drop 16 bytes
header_split bytes first rest second limit small long first_is rest_is second_is name limit_is =
    let behind : drop 8 bytes ≡ take 8 (drop 8 bytes) ++ drop 16 bytes = sym (take-append-drop 8 (drop 8 bytes)) ∙ ap (λ (l : List ℕ). take 8 (drop 8 bytes) ++ l) (drop-drop 8 8 bytes) in
    let number : big_bytes 8 limit ≡ take 8 (drop 8 bytes) =
    be_bytes_8 (take 8 (drop 8 bytes)) limit (omega (arith, length-take 8 (drop 8 bytes), length-drop 8 bytes, long)) (small_take 8 (drop 8 bytes) (λ i. subst (λ n. n < 256) (sym (get_or-drop 8 bytes i 0)) (small (8 + i))))
    (limit_is ∙ ap (λ (l : List ℕ). from_be_bytes w64 l) (second_is ∙ ap (λ (l : List ℕ). take 8 l) rest_is)) in
    sym (take-append-drop 8 bytes)
    ∙ ap (λ (l : List ℕ). l ++ drop 8 bytes) (sym first_is ∙ name)
    ∙ ap (λ (l : List ℕ). (83 ∷ 65 ∷ 76 ∷ 84 ∷ 74 ∷ 78 ∷ 76 ∷ 49 ∷ []) ++ l) (behind ∙ ap (λ (l : List ℕ). l ++ drop 16 bytes) (sym number))

-- one record more was read
pub more : (limit : ℕ) (payloads : List (List ℕ)) (payload behind after bytes : List ℕ) → bytes ≡ (header limit ++ records payloads) ++ 1 ∷ behind → behind ≡ (big_bytes 4 (length payload) ++ payload) ++ after
    → bytes ≡ (header limit ++ records (payloads ++ payload ∷ [])) ++ after
more limit payloads payload behind after bytes split is =
    split ∙ ap (λ (l : List ℕ). (header limit ++ records payloads) ++ 1 ∷ l) is
    ∙ sym (append_assoc (header limit ++ records payloads) (record_of payload) after)
    ∙ ap (λ (l : List ℕ). l ++ after) (append_assoc (header limit) (records payloads) (record_of payload) ∙ ap (λ (l : List ℕ). header limit ++ l) (sym (records-push payloads payload)))

pub next : (limit : ℕ) (payloads : List (List ℕ)) (payload rest after bytes : List ℕ) → bytes ≡ (header limit ++ records payloads) ++ rest → 1 ≤ length rest → get_or rest 0 0 ≡ 1
    → take (length rest - 1) (drop 1 rest) ≡ (big_bytes 4 (length payload) ++ payload) ++ after → bytes ≡ (header limit ++ records (payloads ++ payload ∷ [])) ++ after
next limit payloads payload rest after bytes split some is_open is =
    more limit payloads payload (drop 1 rest) after bytes
    (split ∙ ap (λ (l : List ℕ). (header limit ++ records payloads) ++ l) (drop_more rest 0 0 some ∙ ap (λ (g : ℕ). g ∷ drop 1 rest) is_open))
    (sym (take_rest rest 1) ∙ is)

pub done : (limit at : ℕ) (payloads : List (List ℕ)) (rest bytes : List ℕ) → bytes ≡ (header limit ++ records payloads) ++ rest → 1 ≤ length rest → get_or rest 0 0 ≢ 1
    → at ≡ 16 + length (records payloads) → at < limit → 64 ≤ limit → limit ≤ 1073741824 → IsJournal limit payloads bytes × (at + 1 ≡ journal_length payloads)
done limit at payloads rest bytes split some shut place within least greatest = (
  record {
    gate = get_or rest 0 0;
    rest = drop 1 rest;
    shut = shut;
    bytes_are = split ∙ ap (λ (l : List ℕ). (header limit ++ records payloads) ++ l) (drop_more rest 0 0 some);
    within = omega (arith, place, within);
    least = least;
    greatest = greatest;
  },
  omega (arith, place),
)
