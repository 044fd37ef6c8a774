-- How a load reads the parts.
use Rattle.std.proofs.Common.{◌≡◌, ◌≢◌, inl, inr, refl, sym, ◌∙◌, ap, subst, List, [], ◌∷◌, ℕ, ◌-◌, ◌≤◌, length, Bool, true, false, if◌then◌else◌, ◌==◌, arith, Some, None, Result, Ok, Err, IfOk}
use Rattle.salt_disk.specs.declared.disk.Part.{Part}
use Rattle.salt_disk.specs.declared.disk.Part.TheVariants.{Root, Even, Odd}
use Rattle.salt_disk.specs.declared.disk.Fuse.{Fuse}
use Rattle.salt_disk.specs.declared.disk.Fuse.TheVariants.{Whole, Armed, Out}
use Rattle.salt_disk.specs.Disk.{PartState, DiskState, part_of, IsSettled, IsHonest, Settles}
use Rattle.salt_disk.specs.Crash.{Image, OthersStay, MayLeave, LeavesOnly, TakesTime}
use Rattle.salt_disk.specs.Fuse.{Passes, fuse_after}
use Rattle.salt_disk.proofs.Moments.{joins, one_call}
use Rattle.salt_disk.proofs.Torn.{synced_image}
use Rattle.gate_journal.specs.declared.fault.LoadFault.{LoadFault}
use Rattle.gate_journal.specs.declared.fault.LoadFault.TheVariants.{NoMemory, Disk, NotAJournal, Damaged}
use Rattle.gate_journal.specs.Journal.{JournalState, IsJournal, Rests, journal_length}
use Rattle.gate_journal.specs.Layout.{first_gate}
use Rattle.gate_journal.specs.Payloads.{PlacedPayloads}
use Rattle.gate_journal.specs.Damage.{IsNoJournal, IsDamagedAt}
use Rattle.checkpoint_log.specs.declared.content.LoadedContent.{LoadedContent}
use Rattle.checkpoint_log.specs.Content.{bytes_in}
use Rattle.checkpoint_log.specs.Loading.{NamesFirst, NamesAnother, IsDamagedLog, HasLogFault, TellsOfLog, IsReadAs, root_fault, IsGeneration, HoldsLoaded, AreSettled}

-- what holds of a part and of each other one
pub each_part : (P : Part → Type 0) (part : Part) → P part → ((other : Part) → other ≢ part → P other) → (any : Part) → P any
each_part P Root here others Root = here
each_part P Root here others Even = others Even (λ e. absurd (cc))
each_part P Root here others Odd = others Odd (λ e. absurd (cc))
each_part P Even here others Root = others Root (λ e. absurd (cc))
each_part P Even here others Even = here
each_part P Even here others Odd = others Odd (λ e. absurd (cc))
each_part P Odd here others Root = others Root (λ e. absurd (cc))
each_part P Odd here others Even = others Even (λ e. absurd (cc))
each_part P Odd here others Odd = here

pub same_bytes : (part : Part) (old new : DiskState) → bytes_in new part ≡ bytes_in old part → OthersStay part old new → (any : Part) → bytes_in new any ≡ bytes_in old any
same_bytes part old new here stay = each_part (λ p. bytes_in new p ≡ bytes_in old p) part here (λ other ne. ap (λ (p : PartState). p.bytes) (stay other ne))

pub synced_bytes : (part : Part) (old new : DiskState) → Settles part old new → (any : Part) → bytes_in new any ≡ bytes_in old any
synced_bytes part old new changes = same_bytes part old new (ap (λ (p : PartState). p.bytes) changes.here) changes.others

pub synced_rests : (part : Part) (old new : DiskState) → Settles part old new → IsSettled (part_of new part)
synced_rests part old new changes = subst (λ (p : PartState). IsSettled p) (sym changes.here) refl

-- a part at rest stays so while another one is changed
pub rests_on : (part other : Part) (old new : DiskState) → OthersStay part old new → other ≢ part → IsSettled (part_of old other) → IsSettled (part_of new other)
rests_on part other old new stay ne rests = subst (λ (p : PartState). IsSettled p) (sym (stay other ne)) rests

-- the log that was read stands on the disk
pub holds_from : (old new : DiskState) (r : Result (JournalState × LoadedContent) LoadFault) → IsGeneration (bytes_in old) r → IfOk r (λ x. x.0.part ≡ Even) → ((part : Part) → bytes_in new part ≡ bytes_in old part) → AreSettled new → HoldsLoaded new r
holds_from old new (Err fault) is part same rests = tt
holds_from old new (Ok x) is part same rests =
    let log = is.found.0 in
    record {
      root_limit = log.root_limit;
      root = record {
        holds = subst (λ (l : List ℕ). IsJournal log.root_limit [] l) (sym (same Root)) log.root;
        counts = refl;
        is_settled = rests Root;
      };
      first = log.first;
      is_even = part;
      rest = subst (λ (p : Part). Rests x.0.limit x.0.length x.1.rest.items (part_of new p)) (sym part) (record {
        holds = subst (λ (l : List ℕ). IsJournal x.0.limit x.1.rest.items l) (sym (same Even)) log.rest;
        counts = is.found.1;
        is_settled = rests Even;
      });
    }

-- ---- what the root and the generation were read as

-- the root names generation 0, or another one
abbrev Names : Image → Bool → Type 0
Names image true = NamesFirst image
Names image false = NamesAnother image

first_of_items : (limit : ℕ) (items : List (List ℕ)) (image : Image) → IsJournal limit items (image Root) → (b : Bool) → (length items == 0) ≡ b → Names image b
first_of_items limit [] image is true e = record { limit = limit; root = is }
first_of_items limit (x ∷ items) image is true e = absurd (grind (arith, e))
first_of_items limit [] image is false e = absurd (cc)
first_of_items limit (x ∷ items) image is false e = record { limit = limit; first = x; others = items; root = is }

told_of : (image : Image) (part : Part) (r : Result (JournalState × PlacedPayloads) LoadFault) → IsReadAs part (image part) r → (f : LoadFault) → r ≡ Err f → (IsNoJournal (image part) → HasLogFault NotAJournal image) → ((at : ℕ) → IsDamagedAt at (image part) → HasLogFault (Damaged part at) image) → TellsOfLog f image
told_of image part r is NoMemory e none damaged = tt
told_of image part r is Disk e none damaged = tt
told_of image part r is NotAJournal e none damaged = none (is.none e)
told_of image part r is (Damaged p at) e none damaged =
    let d = is.damaged p at e in
    subst (λ (q : Part). IsDamagedLog image q at) (sym d.0) (damaged at d.1)

pub root_tells : (image : Image) (r : Result (JournalState × PlacedPayloads) LoadFault) (f : LoadFault) → IsReadAs Root (image Root) r → root_fault r ≡ Some f → TellsOfLog f image
root_tells image (Err g) f is e = told_of image Root (Err g) is f (ap Err (cc)) (λ none. inl none) (λ at d. inl (refl, d))
root_tells image (Ok x) f is e = by (length x.1.items == 0) (first_of_items x.0.limit x.1.items image is.found.0 (length x.1.items == 0) refl) e
  where
    by : (b : Bool) → Names image b → (if b then None else Some (Damaged Root first_gate)) ≡ Some f → TellsOfLog f image
    by true first n = absurd (cc)
    by false another n = subst (λ (g : LoadFault). TellsOfLog g image) {x = Damaged Root first_gate} (cc) (inr (inl (refl, refl, another)))

pub root_names : (image : Image) (r : Result (JournalState × PlacedPayloads) LoadFault) → IsReadAs Root (image Root) r → root_fault r ≡ None → NamesFirst image
root_names image (Err g) is e = absurd (cc)
root_names image (Ok x) is e = by (length x.1.items == 0) (first_of_items x.0.limit x.1.items image is.found.0 (length x.1.items == 0) refl) e
  where
    by : (b : Bool) → Names image b → (if b then None else Some (Damaged Root first_gate)) ≡ None → NamesFirst image
    by true first n = first
    by false another n = absurd (cc)

pub even_tells : (image : Image) (r q : Result (JournalState × PlacedPayloads) LoadFault) (f : LoadFault) → IsReadAs Root (image Root) r → root_fault r ≡ None → IsReadAs Even (image Even) q → q ≡ Err f → TellsOfLog f image
even_tells image r q f is_root none is e =
    let first = root_names image r is_root none in
    told_of image Even q is f e (λ n. inr (first, n)) (λ at d. inr (inr (refl, first, d)))

-- a fault of what was read
pub fails_with : (image : Image) (f : LoadFault) → TellsOfLog f image → IsGeneration image (Err f)
fails_with image f tells = record { found = tt; faulty = λ g e. subst (λ (h : LoadFault). TellsOfLog h image) {x = f} (cc) tells }

pub fault_is : {T E : Type 0} (x y : E) → ◌≡◌ {A = Result T E} (Err x) (Err y) → x ≡ y
fault_is x y e = cc

pub not_disk : (part : Part) (at : ℕ) → Damaged part at ≡ Disk → ⊥
not_disk part at e = absurd (cc)

at_ok : {X E : Type 0} (P : X → Type 0) (q : Result X E) (x : X) → IfOk q P → q ≡ Ok x → P x
at_ok P q x p e = subst (λ s. IfOk s P) e p

-- a journal that was read is the log
pub ok_with : (image : Image) (r q : Result (JournalState × PlacedPayloads) LoadFault) (journal : JournalState) (payloads : PlacedPayloads) → IsReadAs Root (image Root) r → root_fault r ≡ None → IsReadAs Even (image Even) q → q ≡ Ok (journal, payloads)
    → IsGeneration image (Ok (journal, record { base = None; rest = payloads }))
ok_with image r q journal payloads is_root none is e =
    let first = root_names image r is_root none in
    let found = at_ok (λ x. IsJournal x.0.limit x.1.items (image Even) × (x.0.length ≡ journal_length x.1.items)) q (journal, payloads) is.found e in
    record { found = (record { root_limit = first.limit; root = first.root; first = refl; rest = found.0 }, found.1); faulty = λ f bad. absurd (cc) }

-- ---- runs of calls that leave what could be left before

module _ {D : Type 0} (past : D → List DiskState) (state : D → DiskState) where
  pub then_run : (old mid new : D) → LeavesOnly past state old mid (MayLeave (state old)) → LeavesOnly past state mid new (MayLeave (state mid)) → LeavesOnly past state old new (MayLeave (state old))
  then_run old mid new first second =
      joins past state old mid new (MayLeave (state old)) (MayLeave (state mid)) (MayLeave (state old)) first second (λ image p. p) (λ image p. first.each image (inl p))

  pub synced_run : (part : Part) (old new : D) → IsHonest (state old) → Settles part (state old) (state new) → TakesTime past state old new → LeavesOnly past state old new (MayLeave (state old))
  synced_run part old new honest synced time =
      one_call past state old new (MayLeave (state old)) time (λ image may. may) (λ image may. synced_image part (state old) (state new) image honest synced may)

-- ---- how many calls pass

-- where three calls pass, one of them passes, then another, and then the last
pub one_by_one : (fuse : Fuse) → Passes 3 fuse → Passes 1 fuse × Passes 1 (fuse_after 1 fuse) × Passes 1 (fuse_after 1 (fuse_after 1 fuse))
one_by_one Whole passes = (tt, tt, tt)
one_by_one (Armed left) passes = (omega (arith, passes), omega (arith, passes), omega (arith, passes))
one_by_one Out passes = absurd (omega (arith, passes))

pub three_passed : (old first second new : Fuse) → Passes 1 old → first ≡ fuse_after 1 old → Passes 1 first → second ≡ fuse_after 1 first → Passes 1 second → new ≡ fuse_after 1 second
    → Passes 3 old × (new ≡ fuse_after 3 old)
three_passed Whole first second new p p_is q q_is r r_is = (tt, r_is ∙ ap (fuse_after 1) (q_is ∙ ap (fuse_after 1) p_is))
three_passed (Armed left) first second new p p_is q q_is r r_is =
    let first_is : first ≡ Armed (left - 1) = p_is in
    let second_is : second ≡ Armed (left - 1 - 1) = q_is ∙ ap (fuse_after 1) first_is in
    let last : 1 ≤ left - 1 - 1 = subst (Passes 1) second_is r in
    (omega (arith, last), r_is ∙ ap (fuse_after 1) second_is ∙ ap Armed (omega arith))
three_passed Out first second new p p_is q q_is r r_is = absurd (omega (arith, p))
