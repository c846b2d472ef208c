use Rattle.std.proofs.Common.{◌-◌, ◌≤◌, length}
use Rattle.pb_lines.proofs.file.read_full.Given as goal

abbrev pub invariant-loop-count : goal.invariant-loop-count
invariant-loop-count l = l.count ≤ length l.buffer

abbrev pub decreases-loop-count : goal.decreases-loop-count
decreases-loop-count l = length l.initial.buffer - l.count
