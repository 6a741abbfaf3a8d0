pub mod Planning
pub mod PlanningLaws
pub mod Examples
