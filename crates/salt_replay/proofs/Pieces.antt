-- The text of a script is one of pieces.
use Rattle.std.proofs.Common.{◌≡◌, ℕ, zero, suc, List, [], ◌∷◌, ◌++◌, length, take, drop, refl, ap, ◌∙◌, sym, subst, append_assoc, take-append-drop}
use Rattle.std.specs.Prelude.{Option, None, Some, slice_get, codes}
use Rattle.std.specs.List.{concat}
use Rattle.fleet_config.specs.Fleet.{FleetConfig}
use Rattle.fleet_turns.specs.declared.turn.Turn.{Turn}
use Rattle.fleet_turns.specs.declared.turn.Turn.TheVariants.{Report}
use Rattle.tree_world.specs.Network.{Network, node_at, start, top_jobs}
use Rattle.tree_world.specs.Runs.{after, after_all}
use Rattle.tree_world.specs.Report.{report}
use Rattle.tree_world.specs.Text.{line, printed_text, text_from, report_text, number_of}
use Rattle.tree_laws.specs.Laws.{AscendById, IsReportFlat}
use Rattle.script_text.specs.declared.script.Script.{Script}
use Rattle.script_text.specs.Script.{fleet_of}
use Rattle.salt_replay.specs.Replay.{text_of_script, StaysSound}
use Rattle.salt_replay.specs.Output.{network_before, IsReportOf, IsPrinted}

abbrev pieces_of : FleetConfig → List Turn → Network → List (List ℕ)
pieces_of f [] w = []
pieces_of f (turn ∷ turns) w = printed_text f turn w ∷ pieces_of f turns (after f turn w)

text_is : (f : FleetConfig) (turns : List Turn) (w : Network) → text_from f turns w ≡ concat (pieces_of f turns w) ++ line (codes "end")
text_is f [] w = refl
text_is f (turn ∷ turns) w =
    ap (λ t. printed_text f turn w ++ t) (text_is f turns (after f turn w)) ∙ sym (append_assoc (printed_text f turn w) (concat (pieces_of f turns (after f turn w))) _)

as_many : (f : FleetConfig) (turns : List Turn) (w : Network) → length (pieces_of f turns w) ≡ length turns
as_many f [] w = refl
as_many f (turn ∷ turns) w = ap suc (as_many f turns (after f turn w))

piece_at : (f : FleetConfig) (turns : List Turn) (w : Network) (i : ℕ) (turn : Turn) → slice_get turns i ≡ Some turn
    → slice_get (pieces_of f turns w) i ≡ Some (printed_text f turn (after_all f (take i turns) w))
piece_at f [] w i turn e = absurd cc
piece_at f (x ∷ turns) w zero turn e = let same : x ≡ turn = cc in ap (λ t. Some (printed_text f t w)) same
piece_at f (x ∷ turns) w (suc i) turn e = piece_at f turns (after f x w) i turn e

some_same : (a b : List ℕ) → Some a ≡ Some b → a ≡ b
some_same a b e = cc

report_of : (f : FleetConfig) (w : Network) (jid : ℕ) → ((seq : ℕ) → IsReportFlat f.tree (top_jobs w) w seq)
    → ((seq : ℕ) → AscendById (report f.tree (node_at w.nodes 0).records seq))
    → (o : Option ℕ) → IsReportOf f.tree (top_jobs w) jid o (report_text f w jid o)
report_of f w jid sound up None = refl
report_of f w jid sound up (Some seq) = (report f.tree (node_at w.nodes 0).records seq, refl, sound seq, up seq)

pub is_printed : (s : Script) → StaysSound s → ((w : Network) (seq : ℕ) → AscendById (report (fleet_of s).tree (node_at w.nodes 0).records seq))
    → IsPrinted s (text_of_script s)
is_printed s sound up =
    let f : FleetConfig = fleet_of s in
    let each = piece_at f s.turns (start f) in
    record {
      pieces = pieces_of f s.turns (start f);
      whole = text_is f s.turns (start f);
      one_each = as_many f s.turns (start f);
      each = each;
      reports = λ i jid piece at told.
          let w : Network = network_before s i in
          let same = some_same (printed_text f (Report jid) w) piece (sym (each i (Report jid) at) ∙ told) in
          let flat = (sound (take i s.turns) (drop i s.turns) (sym (take-append-drop i s.turns))).0 in
          subst (IsReportOf f.tree (top_jobs w) jid (number_of jid (top_jobs w))) same (report_of f w jid flat (up w) (number_of jid (top_jobs w)));
    }
