-- The words of this crate that the contracts of others cite, from one place.
pub use Rattle.pb_syntax.specs.Aliases.{Trees, no_trees, trees_in}
pub use Rattle.pb_syntax.specs.ExprView.{comparison_view, expr_view, exprs_view, names_of}
pub use Rattle.pb_syntax.specs.ExprView.{parts_view, root_view, status_view, term_view}
pub use Rattle.pb_syntax.specs.Slots.{Slots, slot_of, slots_given, slots_read}
