-- What a crash leaves of a journal that is being made.
use Rattle.std.proofs.Common.{◌≡◌, ℕ, ◌+◌, ◌≤◌, drop, List, [], ◌∷◌, ◌++◌, length, refl, sym, ◌∙◌, ap, subst, arith, length-append}
use Rattle.std.proofs.lemmas.List.{append-nil, drop_all}
use Rattle.salt_disk.specs.declared.disk.Part.{Part}
use Rattle.salt_disk.specs.Disk.{PartState, DiskState, part_of, settled_part, IsSettled, put, Stays}
use Rattle.salt_disk.specs.Crash.{Image, IsPartImage, MayLeave, LeavesOnly, WritesOnly, OthersStay}
use Rattle.salt_disk.proofs.Moments.{one_call, stays_on}
use Rattle.salt_disk.proofs.Torn.{settled_image}
use Rattle.gate_journal.specs.Journal.{record_of, records, header, fresh_journal, IsJournal}
use Rattle.gate_journal.specs.Creation.{IsFresh, HoldsNothing}
use Rattle.gate_journal.proofs.Store.{length-journal}

records_none : (payloads : List (List ℕ)) → length (records payloads) ≤ 0 → payloads ≡ []
records_none [] none = refl
records_none (p ∷ payloads) none = absurd (omega (arith, length-append (record_of p) (records payloads)))

-- 17 bytes hold no payload
pub short_holds_nothing : (bytes : List ℕ) → length bytes ≤ 17 → (limit : ℕ) (payloads : List (List ℕ)) → IsJournal limit payloads bytes → payloads ≡ []
short_holds_nothing bytes short limit payloads is = records_none payloads (omega (arith, short, length-journal limit payloads bytes is))

pub short_image : (part : Part) (at count : ℕ) (old mid : DiskState) → OthersStay part old mid → length (part_of mid part).bytes ≤ 17 → at + count ≤ 17 → (image : Image) → WritesOnly part at count mid image → HoldsNothing part old image
short_image part at count old mid stay short within image writes = record {
  short = omega (arith, writes.here.no_longer, short, within);
  here = short_holds_nothing (image part) (omega (arith, writes.here.no_longer, short, within));
  others = λ other ne. subst (λ (p : PartState). IsPartImage p (image other)) (stay other ne) (writes.others other ne);
}

pub before_create : (part : Part) (disk : DiskState) → IsSettled (part_of disk part) → length (part_of disk part).bytes ≤ 17 → (image : Image) → MayLeave disk image → HoldsNothing part disk image
before_create part disk is_settled short image may = record {
  short = omega (arith, ap length (settled_image (part_of disk part).bytes (image part) (subst (λ (p : PartState). IsPartImage p (image part)) is_settled (may part))), short);
  here = short_holds_nothing (image part) (omega (arith, ap length (settled_image (part_of disk part).bytes (image part) (subst (λ (p : PartState). IsPartImage p (image part)) is_settled (may part))), short));
  others = λ other ne. may other;
}

-- a call that leaves the disk as it was
pub stands : {D : Type 0} (past : D → List DiskState) (state : D → DiskState) (old new : D) (P : Image → Type 0) → Stays past state old new → ((image : Image) → MayLeave (state old) image → P image) → LeavesOnly past state old new P
stands past state old new P stays before =
    one_call past state old new P (stays_on (state old) (state new) (past old) (past new) stays) before (λ image may. before image (subst (λ (d : DiskState). MayLeave d image) stays.state may))

length-first : (limit : ℕ) → length (0 ∷ (drop 1 (header limit) ++ 0 ∷ [])) ≡ 17
length-first limit = refl

pub first_bytes : (limit : ℕ) (bytes old : List ℕ) → bytes ≡ 0 ∷ (drop 1 (header limit) ++ 0 ∷ []) → length old ≤ 17 → put 0 bytes old ≡ bytes
first_bytes limit bytes old is short =
    let none : drop (0 + length bytes) old ≡ [] = drop_all (0 + length bytes) old (omega (arith, ap length is, length-first limit, short)) in
    ap (λ (l : List ℕ). bytes ++ l) none ∙ append-nil bytes

-- both writes leave a fresh journal
pub made_bytes : (limit : ℕ) (bytes : List ℕ) (old mid new : PartState) → bytes ≡ 0 ∷ (drop 1 (header limit) ++ 0 ∷ []) → length old.bytes ≤ 17 → mid ≡ settled_part (put 0 bytes old.bytes) → new ≡ settled_part (put 0 (83 ∷ []) mid.bytes)
    → new.bytes ≡ fresh_journal limit
made_bytes limit bytes old mid new is short first second =
    let mid_is : mid.bytes ≡ 0 ∷ (drop 1 (header limit) ++ 0 ∷ []) = ap (λ (p : PartState). p.bytes) first ∙ first_bytes limit bytes old.bytes is short ∙ is in
    ap (λ (p : PartState). p.bytes) second ∙ ap (λ (l : List ℕ). put 0 (83 ∷ []) l) mid_is ∙ refl

pub made : (limit : ℕ) (bytes : List ℕ) (old mid new : PartState) → bytes ≡ 0 ∷ (drop 1 (header limit) ++ 0 ∷ []) → length old.bytes ≤ 17 → mid ≡ settled_part (put 0 bytes old.bytes) → new ≡ settled_part (put 0 (83 ∷ []) mid.bytes)
    → 64 ≤ limit → limit ≤ 1073741824 → IsFresh limit new
made limit bytes old mid new is short first second least greatest =
    let bytes_are : new.bytes ≡ fresh_journal limit = made_bytes limit bytes old mid new is short first second in
    record {
      rests = record {
        holds = record { gate = 0; rest = []; shut = λ e. absurd (cc); bytes_are = bytes_are; within = omega (arith, least); least = least; greatest = greatest };
        counts = refl;
        is_settled = subst (λ (p : PartState). IsSettled p) (sym second) refl;
      };
      bytes_are = bytes_are;
      counts = ap length bytes_are ∙ length-fresh limit;
    }
  where
    length-fresh : (limit : ℕ) → length (fresh_journal limit) ≡ 17
    length-fresh limit = refl
