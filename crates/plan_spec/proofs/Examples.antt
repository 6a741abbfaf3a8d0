-- Worked examples: what the definitions of planning say of small trees, one module a subject.
pub mod Plans
pub mod Placed
pub mod Planned
pub mod Places
pub mod PlanWrites
pub mod Filled
pub mod InPlace
pub mod NewNumbers
pub mod Admitted
pub mod Promises
pub mod PlanFaults
pub mod Table
pub mod WholePlan
pub mod Stopped
pub mod Unplanned
pub mod Lines
pub mod Shortages
