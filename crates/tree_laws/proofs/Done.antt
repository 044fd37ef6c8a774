-- What the record of a job adds to a minion's records and to its log.
use Rattle.std.proofs.Common.{◌≡◌, ℕ, ◌<◌, ap, refl, false, List, [], ◌∷◌}
use Rattle.std.specs.List.{AllByRecursion}
use Rattle.std.proofs.lemmas.Bool.{lt-ltb}
use Rattle.salt_wire.specs.declared.message.Entry.{Entry}
use Rattle.salt_wire.specs.declared.message.Entry.TheVariants.{Return, Fired, Start, Mine}
use Rattle.salt_wire.specs.declared.deed.Deed.{Deed}
use Rattle.minion_core.specs.Flat.{entries_in}
use Rattle.minion_core.proofs.Own.{IsOwn, IsDone, entries_are}
use Rattle.node_core.specs.Records.{count_in, is_boot}
use Rattle.tree_laws.specs.Invariant.{Names}

named_own : (seq c : ℕ) (es : List Entry) → seq < c → AllByRecursion (IsOwn seq) es → AllByRecursion (Names c) es
named_own seq c [] l h = tt
named_own seq c (Return n o ∷ es) l h = (rw h.0 (lt-ltb seq c l), named_own seq c es l h.1)
named_own seq c (Fired e ∷ es) l h = (refl, named_own seq c es l h.1)
named_own seq c (Start b ∷ es) l h = absurd h.0
named_own seq c (Mine n m g p ∷ es) l h = (rw h.0 (lt-ltb seq c l), named_own seq c es l h.1)

module _ (seq : ℕ) (d : Deed) (h : IsDone seq d) where
  pub count_done : count_in d ≡ 1
  count_done = ap count_in h.is

  pub no_boot : is_boot d ≡ false
  no_boot = ap is_boot h.is

  pub named_done : (c : ℕ) → seq < c → AllByRecursion (Names c) (entries_in d)
  named_done c l = rw (entries_are seq d h) (named_own seq c h.entries l h.own)
