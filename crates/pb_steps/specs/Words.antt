-- The words of this crate that the contracts of others cite, from one place.
pub use Rattle.pb_steps.specs.Leads.{all_lead_on, lead_on, leads_on}
pub use Rattle.pb_steps.specs.Outlines.{PlayPlan, outline, outline_view, plan_view, play_plan}
pub use Rattle.pb_steps.specs.Tasks.{ArePrepared}
