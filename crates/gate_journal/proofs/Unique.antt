-- The bytes of a part stand for one journal.
use Rattle.std.proofs.Common.{◌≡◌, ◌≢◌, ℕ, ◌+◌, ◌<◌, ◌^◌, List, [], ◌∷◌, ◌++◌, length, get_or, take, drop, refl, sym, ◌∙◌, ap, arith, append_assoc, length-append}
use Rattle.std.proofs.lemmas.List.{take_at, drop_at}
use Rattle.byteorder.specs.Endian.{big_bytes, big_from}
use Rattle.byteorder.specs.Numbers.{big_number-reads_back}
use Rattle.gate_journal.specs.Journal.{record_of, records, header, IsJournal}

pub same_number : (n x y : ℕ) (xs ys : List ℕ) → x < 256 ^ n → y < 256 ^ n → big_bytes n x ++ xs ≡ big_bytes n y ++ ys → x ≡ y
same_number n x y xs ys x_fits y_fits e = sym (big_number-reads_back n x xs x_fits) ∙ ap (λ (l : List ℕ). big_from 0 n l) e ∙ big_number-reads_back n y ys y_fits

pub same_front : (p q xs ys : List ℕ) → length p ≡ length q → p ++ xs ≡ q ++ ys → p ≡ q
same_front p q xs ys n e = sym (take_at p xs (length p) refl) ∙ ap (λ (l : List ℕ). take (length p) l) e ∙ take_at q ys (length p) (sym n)

pub same_back : (p q xs ys : List ℕ) → length p ≡ length q → p ++ xs ≡ q ++ ys → xs ≡ ys
same_back p q xs ys n e = sym (drop_at p xs (length p) refl) ∙ ap (λ (l : List ℕ). drop (length p) l) e ∙ drop_at q ys (length p) (sym n)

same_records : (ps qs : List (List ℕ)) (g h : ℕ) (xs ys : List ℕ) → g ≢ 1 → h ≢ 1 → length (records ps) < 2 ^ 32 → length (records qs) < 2 ^ 32 → records ps ++ g ∷ xs ≡ records qs ++ h ∷ ys → ps ≡ qs
same_records [] [] g h xs ys g_shut h_shut p_fits q_fits e = refl
same_records [] (q ∷ qs) g h xs ys g_shut h_shut p_fits q_fits e = absurd (g_shut (ap (λ (l : List ℕ). get_or l 0 0) e))
same_records (p ∷ ps) [] g h xs ys g_shut h_shut p_fits q_fits e = absurd (h_shut (sym (ap (λ (l : List ℕ). get_or l 0 0) e)))
same_records (p ∷ ps) (q ∷ qs) g h xs ys g_shut h_shut p_fits q_fits e =
    let p_small : length p + length (records ps) < 2 ^ 32 = omega (arith, p_fits, length-append (record_of p) (records ps), length-append (big_bytes 4 (length p)) p) in
    let q_small : length q + length (records qs) < 2 ^ 32 = omega (arith, q_fits, length-append (record_of q) (records qs), length-append (big_bytes 4 (length q)) q) in
    let number : length p ≡ length q =
    same_number 4 (length p) (length q) ((p ++ records ps) ++ g ∷ xs) ((q ++ records qs) ++ h ∷ ys) (omega (arith, p_small)) (omega (arith, q_small)) (ap (λ (l : List ℕ). drop 1 l) e) in
    let behind : p ++ (records ps ++ g ∷ xs) ≡ q ++ (records qs ++ h ∷ ys) =
    sym (append_assoc p (records ps) (g ∷ xs)) ∙ ap (λ (l : List ℕ). drop 5 l) e ∙ append_assoc q (records qs) (h ∷ ys) in
    let first : p ≡ q = same_front p q (records ps ++ g ∷ xs) (records qs ++ h ∷ ys) number behind in
    let others : ps ≡ qs = same_records ps qs g h xs ys g_shut h_shut (omega (arith, p_small)) (omega (arith, q_small)) (same_back p q (records ps ++ g ∷ xs) (records qs ++ h ∷ ys) number behind) in
    λ i. first i ∷ others i

-- one limit and one list of payloads
pub one_journal : (m n : ℕ) (ps qs : List (List ℕ)) (bytes : List ℕ) → IsJournal m ps bytes → IsJournal n qs bytes → (m ≡ n) × (ps ≡ qs)
one_journal m n ps qs bytes first second =
    let same : (header m ++ records ps) ++ first.gate ∷ first.rest ≡ (header n ++ records qs) ++ second.gate ∷ second.rest = sym first.bytes_are ∙ second.bytes_are in (
      same_number 8 m n (records ps ++ first.gate ∷ first.rest) (records qs ++ second.gate ∷ second.rest) (omega (arith, first.greatest)) (omega (arith, second.greatest)) (ap (λ (l : List ℕ). drop 8 l) same),
      same_records ps qs first.gate second.gate first.rest second.rest first.shut second.shut (omega (arith, first.within, first.greatest)) (omega (arith, second.within, second.greatest)) (ap (λ (l : List ℕ). drop 16 l) same),
    )
