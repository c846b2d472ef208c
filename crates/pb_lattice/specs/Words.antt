-- The words of this crate that the contracts of others cite, from one place.
pub use Rattle.pb_lattice.specs.Arena.{names_of}
pub use Rattle.pb_lattice.specs.Environments.{IsKept, Stands, exit_of, is_dead, is_over, put_in}
pub use Rattle.pb_lattice.specs.Environments.{spot_in}
pub use Rattle.pb_lattice.specs.Graph.{Graph, Rises, edge_at}
pub use Rattle.pb_lattice.specs.Lost.{lost_marks}
pub use Rattle.pb_lattice.specs.KindOrder.{HaveSameValues, IsBelow, IsWell}
pub use Rattle.pb_lattice.specs.Shared.{Shared}
pub use Rattle.pb_lattice.specs.Solution.{Covers}
pub use Rattle.pb_lattice.specs.Space.{Extends}
pub use Rattle.pb_lattice.specs.Trees.{IsAscending}
