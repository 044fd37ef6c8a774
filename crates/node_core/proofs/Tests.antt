-- Tests in two parts: those that come first, and those of a job that is run.
use Rattle.std.proofs.Common.{◌≡◌, ℕ, ◌∙◌, sym, ap, refl, true, false, Bool, List, [], ◌∷◌, ◌++◌, None, Some}
use Rattle.std.specs.Prelude.{Result, Ok, Err, IfErr}
use Rattle.fleet_config.specs.Causes.{first_cause}
use Rattle.fleet_config.specs.Tree.{Tree}
use Rattle.salt_wire.specs.declared.message.Message.{Message}
use Rattle.node_core.specs.declared.faults.Stray.{Stray}
use Rattle.node_core.specs.declared.faults.TakeFault.{TakeFault}
use Rattle.node_core.specs.declared.faults.TakeFault.TheVariants as take
use Rattle.node_core.specs.Node.{NodeState, first_tests, run_tests, stray_of, unless_stray, after_message, message_result, IsTakeFault}
use Rattle.node_core.specs.Node.Answer.{IsStray}
use Rattle.node_core.specs.Steps.{IsRunAnswer}

-- the first cause of two lists of tests
module _ {C : Type 0} (ys : List (Bool × C)) where
  by_first : (t : Bool) (x : C) (xs : List (Bool × C)) (c : C) → (first_cause ((t, x) ∷ xs) ≡ Some c) → ((first_cause xs ≡ Some c) → first_cause (xs ++ ys) ≡ Some c) → first_cause ((t, x) ∷ xs ++ ys) ≡ Some c
  by_first true x xs c e rest = rest e
  by_first false x xs c e rest = e

  pub cause_first : (xs : List (Bool × C)) (c : C) → first_cause xs ≡ Some c → first_cause (xs ++ ys) ≡ Some c
  cause_first [] c e = absurd cc
  cause_first (x ∷ xs) c e = by_first x.0 x.1 xs c e (cause_first xs c)

  by_next : (t : Bool) (x : C) (xs : List (Bool × C)) → (first_cause ((t, x) ∷ xs) ≡ None) → ((first_cause xs ≡ None) → first_cause (xs ++ ys) ≡ first_cause ys) → first_cause ((t, x) ∷ xs ++ ys) ≡ first_cause ys
  by_next true x xs e rest = rest e
  by_next false x xs e rest = absurd cc

  pub cause_next : (xs : List (Bool × C)) → first_cause xs ≡ None → first_cause (xs ++ ys) ≡ first_cause ys
  cause_next [] e = refl
  cause_next (x ∷ xs) e = by_next x.0 x.1 xs e (cause_next xs)

module _ (t : Tree) (me from : ℕ) (message : Message) (node : NodeState) where
  -- a message that fails a test
  stray_is : (cause : Stray) → stray_of t me from message node ≡ Some cause → message_result t me from message node ≡ record { node = node; answer = IsStray cause }
  stray_is cause e = ap (λ s. unless_stray s node (after_message t me from message node)) e

  pub first_stray : (cause : Stray) → Some cause ≡ first_cause (first_tests t me from message node) → message_result t me from message node ≡ record { node = node; answer = IsStray cause }
  first_stray cause e = stray_is cause (cause_first (run_tests message node) (first_tests t me from message node) cause (sym e))

  -- a message that passes the first tests
  module _ (first : first_cause (first_tests t me from message node) ≡ None) where
    pub passes_all : first_cause (run_tests message node) ≡ None → stray_of t me from message node ≡ None
    passes_all passes = cause_next (run_tests message node) (first_tests t me from message node) first ∙ passes

    pub then_fault : {A : Type 0} (r : Result A TakeFault) → IsRunAnswer r message node → IfErr r (IsTakeFault t me from message node)
    then_fault (Ok x) h = tt
    then_fault (Err take.NoMemory) h = tt
    then_fault (Err (take.Stray cause)) h = stray_is cause (cause_next (run_tests message node) (first_tests t me from message node) first ∙ h)
    then_fault (Err (take.TooBig leaf)) h = h
