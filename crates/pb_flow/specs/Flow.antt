-- The nodes of a play: its start, each task in each of its ways, and its end (this project's own).
use Rattle.std.specs.Prelude.{◌≤◌, ◌<◌, ℕ, suc, List, [], ◌∷◌, Option, Some, None}
use Rattle.pb_language.specs.Links.{Link, entry, links, size}
use Rattle.pb_language.specs.Task.{Row}
pub use Rattle.pb_machine.specs.Joins.{flush_tasks, tasks_of}

-- the start is the node 0, and the end follows the row's nodes
abbrev pub end_node : Row → ℕ
end_node row = suc (size row)

-- where a host begins that starts the play
abbrev pub begins_at : Row → Option ℕ
begins_at row = entry row 1 (Some (end_node row))

-- the edges between the nodes of the row and to the end, in the order of their sources
abbrev pub row_links : Row → List Link
row_links row = links row 1 (Some (end_node row)) None

-- each edge leads from that node or one behind it to a higher node, which is at most the last, and
-- they stand in the order of their sources
abbrev pub AreRising : ℕ → ℕ → List Link → Type 0
AreRising lo last [] = Unit {0}
AreRising lo last (l ∷ ls) = (lo ≤ l.source) × (l.source < l.target) × (l.target ≤ last)
    × AreRising l.source last ls
