-- What a settle makes whole, and how many packets it sends at most.
use Rattle.std.specs.Prelude.{ℕ, ◌≡◌, ◌≤◌, ◌<◌, ◌+◌, ◌-◌, ◌*◌, true, false, max, List, ◌∷◌, ◌++◌, length, map, fold, sum_by}
use Rattle.salt_wire.specs.declared.message.Job.{Job}
use Rattle.salt_value.specs.declared.outcome.Row.{Row}
use Rattle.fleet_config.specs.Fleet.{FleetConfig}
use Rattle.fleet_config.specs.Tree.{Tree, held_of, place_of, is_minion, is_within, minions, level, up_to}
use Rattle.minion_core.specs.Flat.{flat_up, return_of}
use Rattle.node_core.specs.Records.{jobs, jobs_held, log}
use Rattle.fleet_turns.specs.declared.turn.Turn.{Turn}
use Rattle.fleet_turns.specs.declared.turn.Turn.TheVariants.{Settle}
use Rattle.tree_world.specs.Network.{Network, node_at, top_jobs}
use Rattle.tree_world.specs.Settle.{node_log}
use Rattle.tree_world.specs.Report.{rows_below, report, flat_report}
use Rattle.tree_laws.specs.Laws.{IsRun, network_after}

-- the report of job number seq that node p has of the minions at or below it
abbrev pub report_below : Tree → Network → ℕ → ℕ → List Row
report_below t w p seq = rows_below t p (λ id. return_of seq (log id (node_at w.nodes p).records))

-- what the report of the flat fleet, which ran these jobs, says of the minions at or below node p
abbrev pub flat_report_below : Tree → List Job → ℕ → ℕ → List Row
flat_report_below t jobs p seq = rows_below t p (λ id. return_of seq (flat_up 0 id (held_of t (place_of t id)) jobs))

-- Nothing is left to be told: each node holds all jobs, each master has the whole log of each minion below it, and each report is
-- the flat one.
pub record HasSettled (t : Tree) (all : List Job) (w : Network) : Type 0 where
  pub stays : top_jobs w ≡ all
  pub held : (i : ℕ) → i < length t → jobs_held (node_at w.nodes i).records ≡ length all
  pub lists : (i : ℕ) → i < length t → is_minion t i ≡ false → jobs (node_at w.nodes i).records ≡ all
  pub logs : (p m : ℕ) → is_minion t m ≡ true → is_within t p m ≡ true → node_log t w p m ≡ node_log t w m m
  pub reports : (p seq : ℕ) → report_below t w p seq ≡ flat_report_below t all p seq

-- how many levels a tree has: the greatest level of a node
abbrev pub level_count : Tree → ℕ
level_count t = fold max 0 (map (level t) (up_to (length t)))

-- how many entries the minions have, each in its own log
abbrev pub entry_count : Tree → Network → ℕ
entry_count t w = sum_by (λ m. length (node_log t w m m)) (minions t 0)

-- From one network to the next at most so many packets were sent: two for each job and each node but the top, and two for each
-- entry and each level but the first.
abbrev pub SendsFewPackets : Tree → Network → Network → Type 0
SendsFewPackets t w v =
    length v.packets
    ≤ length w.packets + 2 * (length (top_jobs w) * (length t - 1)) + 2 * (entry_count t v * (level_count t - 1))

-- the top's report of job number seq is that of the flat fleet, which ran the jobs of the top
abbrev pub IsReportWhole : Tree → Network → ℕ → Type 0
IsReportWhole t w seq = report t (node_at w.nodes 0).records seq ≡ flat_report t (top_jobs w) seq

-- after a settle, whatever comes later, the report of each job that the top had then is the whole one of the flat fleet
abbrev pub ReportsStayWhole : Type 0
ReportsStayWhole =
    (f : FleetConfig) (turns later : List Turn) (seq : ℕ) → IsRun f (turns ++ Settle ∷ later)
    → seq < length (top_jobs (network_after f turns))
    → IsReportWhole f.tree (network_after f (turns ++ Settle ∷ later)) seq
