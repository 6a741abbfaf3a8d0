pub mod Plan
pub mod Place
pub mod PlanPromise
pub mod Planning
pub mod PlanningLaws
pub mod PlanLine
