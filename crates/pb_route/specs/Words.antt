-- The words of this crate that the contracts of others cite, from one place.
pub use Rattle.pb_route.specs.Routes.{ArePaths, ArePathsOf, Gathers, Paths}
pub use Rattle.pb_route.specs.Station.{IsStation, station_task}
pub use Rattle.pb_route.specs.Visited.{nodes_visits}
