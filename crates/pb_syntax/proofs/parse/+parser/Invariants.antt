use Rattle.std.proofs.Common.{ℕ, length, ◌-◌, ◌+◌, ◌*◌, ◌≤◌}
use Rattle.pb_syntax.specs.ExprView.{expr_view}
use Rattle.pb_syntax.specs.Letters.{tokens_at}
use Rattle.pb_syntax.specs.Lexed.{IsToken}
use Rattle.pb_syntax.specs.declared.parse.Link.{Link}
use Rattle.pb_syntax.specs.declared.parse.Link.TheVariants as links
use Rattle.pb_syntax.proofs.Named.{Filtering}
use Rattle.pb_syntax.proofs.Operands.{Operands}
use Rattle.pb_syntax.proofs.parse.+parser.Given as goal

-- how far a chain of operands stands above what it calls
abbrev rank : Link → ℕ
rank links.And = 0
rank links.Or = 3
rank links.Comma = 6

abbrev pub decreases-inside : goal.decreases-inside
decreases-inside l = 20 * l.depth + 1

abbrev pub decreases-items_at : goal.decreases-items_at
decreases-items_at l = 20 * l.depth + 17

abbrev pub decreases-list_at : goal.decreases-list_at
decreases-list_at l = 20 * l.depth + 1

abbrev pub decreases-bare_operand_at : goal.decreases-bare_operand_at
decreases-bare_operand_at l = 20 * l.depth + 2

abbrev pub decreases-filter_at : goal.decreases-filter_at
decreases-filter_at l = 20 * l.depth + 2

abbrev pub decreases-operand_at : goal.decreases-operand_at
decreases-operand_at l = 20 * l.depth + 3

abbrev pub decreases-relation_at : goal.decreases-relation_at
decreases-relation_at l = 20 * l.depth + 4

abbrev pub decreases-not_at : goal.decreases-not_at
decreases-not_at l = 20 * l.depth + 5

abbrev pub decreases-linked_at : goal.decreases-linked_at
decreases-linked_at l = 20 * l.depth + 6 + rank l.link

abbrev pub decreases-chain_at : goal.decreases-chain_at
decreases-chain_at l = 20 * l.depth + 7 + rank l.link

abbrev pub decreases-and_at : goal.decreases-and_at
decreases-and_at l = 20 * l.depth + 8

abbrev pub decreases-or_at : goal.decreases-or_at
decreases-or_at l = 20 * l.depth + 11

abbrev pub invariant-chain_at-operands : goal.invariant-chain_at-operands
invariant-chain_at-operands l = record { begins : l.fn.token.start ≤ l.after.start; next : IsToken l.text l.after; chain : Operands l.link l.depth (tokens_at l.text l.fn.token) l.operands.items (tokens_at l.text l.after) }

abbrev pub decreases-chain_at-operands : goal.decreases-chain_at-operands
decreases-chain_at-operands l = length l.text - l.after.start

abbrev pub invariant-operand_at-filters : goal.invariant-operand_at-filters
invariant-operand_at-filters l = record { begins : l.fn.token.start ≤ l.after.start; next : IsToken l.text l.after; filtering : Filtering l.depth (tokens_at l.text l.fn.token) (expr_view l.operand) (tokens_at l.text l.after) }

abbrev pub decreases-operand_at-filters : goal.decreases-operand_at-filters
decreases-operand_at-filters l = length l.text - l.after.start
